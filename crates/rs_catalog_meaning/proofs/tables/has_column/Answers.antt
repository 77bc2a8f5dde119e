-- The answer of `any`.
use Rattle.std.proofs.Common.{rules, tests}
use Rattle.std.proofs.lemmas.Iterator.{YieldsList-from_slice, cases_from_any}
use Rattle.rs_catalog_pages.specs.Said.{said_table}
use Rattle.rs_catalog_pages.specs.declared.items.StoredTable.{StoredTable}
use Rattle.rs_catalog_meaning.proofs.TableLaws.{HasColumn, answer_column}
use Rattle.rs_catalog_meaning.proofs.tables.has_column.Goals as goal

pub returns : goal.returns
returns c =
    answer_column c.args.number c.args.column c.args.tables.now c.any.result
    (cases_from_any _ _ _ (λ (t : StoredTable). HasColumn c.args.number c.args.column (said_table t)) (λ (t : StoredTable). HasColumn c.args.number c.args.column (said_table t) → ⊥)
    c.any.ensures.ran (YieldsList-from_slice c.args.tables.now cc) (λ x q k. search (rules, tests)) (λ x q k. search (rules, tests)))
