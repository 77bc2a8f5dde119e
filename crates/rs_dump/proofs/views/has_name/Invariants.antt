-- None so far is the name, and what the rest has all have.
use Rattle.std.proofs.Common.{drop}
use Rattle.std.specs.List.{AllByRecursion}
use Rattle.std.specs.Prelude.{◌≢◌, Contains}
use Rattle.rs_dump.specs.Views.{names_of}
use Rattle.rs_facts.specs.Fact.{Name}
use Rattle.rs_dump.proofs.views.has_name.Given as goal

abbrev pub invariant-loop-other : goal.invariant-loop-other
invariant-loop-other l = record {
  there : Contains (names_of (drop l.other-index l.names)) l.name.bytes → Contains (names_of l.names) l.name.bytes;
  absent : AllByRecursion (λ (other : Name). other ≢ l.name.bytes) (names_of (drop l.other-index l.names)) → AllByRecursion (λ (other : Name). other ≢ l.name.bytes) (names_of l.names);
}
