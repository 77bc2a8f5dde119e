-- A test that accepts all accepts a join exactly where it accepts a part.
use Rattle.std.proofs.Common.{true, refl, ◌∙◌, rules}
use Rattle.rs_tree.specs.Cells.{cells_within}
use Rattle.rs_tree.proofs.Searching.{filter_all}
use Rattle.rs_tree.proofs.search.range.Goals as goal

pub returns-clause-found : goal.returns-clause-found
returns-clause-found g c = λ tied cells used tree.
    let found = c.in_ok-cells.ensures.found tied (λ _. true) (record { each = λ summary result told. search rules }) (record { each = λ one other. refl }) in
    found.exact cells used tree ∙ filter_all (cells_within c.args.low.now c.args.high.now cells)
