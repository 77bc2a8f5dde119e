-- The answer of `all`.
use Rattle.std.proofs.Common.{rules, tests, map}
use Rattle.std.proofs.lemmas.Iterator.{YieldsList-from_slice, cases_from_all}
use Rattle.rs_catalog_pages.specs.Said.{said_table, said_view}
use Rattle.rs_catalog_pages.specs.declared.items.StoredView.{StoredView}
use Rattle.rs_catalog_meaning.specs.Meaning.{IsView}
use Rattle.rs_catalog_meaning.proofs.Each.{answer_said}
use Rattle.rs_catalog_meaning.proofs.tables.is_each_view.Goals as goal

pub returns : goal.returns
returns c =
    let tables = map said_table c.args.tables.now in
    answer_said said_view (IsView tables) c.args.views.now c.all.result
    (cases_from_all _ _ _ (λ (x : StoredView). IsView tables (said_view x)) (λ (x : StoredView). IsView tables (said_view x) → ⊥) c.all.ensures.ran (YieldsList-from_slice c.args.views.now cc)
    (λ x q k. search (rules, tests)) (λ x q k. search (rules, tests)))
