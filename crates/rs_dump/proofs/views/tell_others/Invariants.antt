-- No view so far is missing, unless one is, and nothing was told.
use Rattle.std.proofs.Common.{◌≡◌, false, true}
use Rattle.std.specs.FinMap as names
use Rattle.std.specs.List.{AllByRecursion}
use Rattle.std.specs.Prelude.{Contains}
use Rattle.rs_catalog.specs.Definitions.{ViewItem}
use Rattle.rs_catalog.specs.Names.{entries_by_bytes}
use Rattle.rs_dump.specs.Views.{LacksSome, names_of}
use Rattle.rs_dump_laws.specs.Parts.{IsUnder}
use Rattle.rs_facts.specs.Fact.{Name}
use Rattle.rs_dump.proofs.views.tell_others.Given as goal

abbrev pub invariant-loop-name : goal.invariant-loop-name
invariant-loop-name g l = record {
  under : AllByRecursion (IsUnder l.catalog.views) (entries_by_bytes (λ view. view) l.name-iterator);
  views : l.lacks ≡ false → AllByRecursion (λ (entry : Name × ViewItem). Contains (names_of l.sorted.written.items) entry.0) (entries_by_bytes (λ view. view) l.name-iterator)
      → AllByRecursion (λ (entry : Name × ViewItem). Contains (names_of l.sorted.written.items) entry.0) (names.entries l.catalog.views);
  lacking : l.lacks ≡ true → LacksSome l.catalog (names_of l.sorted.written.items);
  quiet : l.lacks ≡ false → g.E.Write.contents l.errors ≡ g.E.Write.contents l.fn.errors;
}
