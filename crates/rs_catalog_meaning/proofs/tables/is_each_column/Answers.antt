-- The answer of `all`.
use Rattle.std.proofs.Common.{rules, tests}
use Rattle.std.proofs.lemmas.Iterator.{YieldsList-from_slice, cases_from_all}
use Rattle.rs_catalog_pages.specs.Said.{said_column}
use Rattle.rs_catalog_pages.specs.declared.items.StoredColumn.{StoredColumn}
use Rattle.rs_catalog_meaning.proofs.TableLaws.{IsColumn, answer_columns}
use Rattle.rs_catalog_meaning.proofs.Each.{answer_said}
use Rattle.rs_catalog_meaning.proofs.tables.is_each_column.Goals as goal

pub returns : goal.returns
returns c =
    answer_columns c.args.columns.now c.all.result (answer_said said_column IsColumn c.args.columns.now c.all.result
    (cases_from_all _ _ _ (λ (x : StoredColumn). IsColumn (said_column x)) (λ (x : StoredColumn). IsColumn (said_column x) → ⊥) c.all.ensures.ran (YieldsList-from_slice c.args.columns.now cc)
    (λ x q k. search (rules, tests)) (λ x q k. search (rules, tests))))
