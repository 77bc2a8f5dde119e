-- None so far is named.
use Rattle.std.proofs.Common.{◌≡◌, false, drop}
use Rattle.std.specs.List.{AllByRecursion}
use Rattle.rs_dump.specs.Views.{names_of}
use Rattle.rs_facts.specs.Fact.{Name}
use Rattle.rs_machine.specs.Opening.{names_alignment}
use Rattle.rs_syntax.specs.QueryView.{query_tree}
use Rattle.rs_dump.proofs.views.names_one_of.Given as goal

abbrev pub invariant-loop-name : goal.invariant-loop-name
invariant-loop-name l =
    AllByRecursion (λ (alignment : Name). names_alignment alignment (query_tree l.query) ≡ false) (names_of (drop l.name-index l.alignments))
    → AllByRecursion (λ (alignment : Name). names_alignment alignment (query_tree l.query) ≡ false) (names_of l.alignments)
