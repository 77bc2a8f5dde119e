-- The views that are left are views, and each before them is written where the query names it.
use Rattle.std.proofs.Common.{◌≡◌, true}
use Rattle.std.specs.FinMap as names
use Rattle.std.specs.List.{AllByRecursion}
use Rattle.std.specs.Prelude.{Contains}
use Rattle.rs_catalog.specs.Definitions.{ViewItem}
use Rattle.rs_catalog.specs.Names.{entries_by_bytes}
use Rattle.rs_dump.specs.Views.{names_of}
use Rattle.rs_dump_laws.specs.Parts.{IsUnder}
use Rattle.rs_facts.specs.Fact.{Name}
use Rattle.rs_machine.specs.Opening.{names_query}
use Rattle.rs_syntax.specs.QueryView.{query_tree}
use Rattle.rs_dump.proofs.views.names_written.Given as goal

abbrev pub invariant-loop-name : goal.invariant-loop-name
invariant-loop-name l = record {
  under : AllByRecursion (IsUnder l.catalog.views) (entries_by_bytes (λ view. view) l.name-iterator);
  written : AllByRecursion (λ (entry : Name × ViewItem). names_query entry.0 (query_tree l.query) ≡ true → Contains (names_of l.written) entry.0) (entries_by_bytes (λ view. view) l.name-iterator)
      → AllByRecursion (λ (entry : Name × ViewItem). names_query entry.0 (query_tree l.query) ≡ true → Contains (names_of l.written) entry.0) (names.entries l.catalog.views);
}
