-- The answer of `all`.
use Rattle.std.proofs.Common.{rules, tests}
use Rattle.std.specs.Prelude.{◌≢◌}
use Rattle.std.proofs.lemmas.Iterator.{YieldsList-from_slice, cases_from_all}
use Rattle.rs_catalog_meaning.proofs.Each.{answer_each}
use Rattle.rs_catalog_meaning.proofs.names.is_free.Goals as goal

pub returns : goal.returns
returns g c =
    let is_other = λ (item : g.row.T.Denot). g.T.Named.name_of item ≢ c.args.name.now in
    answer_each is_other c.args.items.now c.all.result
    (cases_from_all _ _ _ is_other (λ (item : g.row.T.Denot). is_other item → ⊥) c.all.ensures.ran (YieldsList-from_slice c.args.items.now cc)
    (λ x q k. search (rules, tests)) (λ x q k. search (rules, tests)))
