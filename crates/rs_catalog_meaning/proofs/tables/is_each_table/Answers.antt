-- The answer of `all`.
use Rattle.std.proofs.Common.{rules, tests}
use Rattle.std.proofs.lemmas.Iterator.{YieldsList-from_slice, cases_from_all}
use Rattle.rs_catalog_pages.specs.Said.{said_table}
use Rattle.rs_catalog_pages.specs.declared.items.StoredTable.{StoredTable}
use Rattle.rs_catalog_meaning.specs.Meaning.{IsTable}
use Rattle.rs_catalog_meaning.proofs.Each.{answer_said}
use Rattle.rs_catalog_meaning.proofs.tables.is_each_table.Goals as goal

pub returns : goal.returns
returns c =
    answer_said said_table IsTable c.args.tables.now c.all.result
    (cases_from_all _ _ _ (λ (x : StoredTable). IsTable (said_table x)) (λ (x : StoredTable). IsTable (said_table x) → ⊥) c.all.ensures.ran (YieldsList-from_slice c.args.tables.now cc)
    (λ x q k. search (rules, tests)) (λ x q k. search (rules, tests)))
