-- None of the tables so far has a span on the route.
use Rattle.std.proofs.Common.{◌≡◌, ℕ, false, take}
use Rattle.std.specs.List.{AllByRecursion}
use Rattle.rs_file_meaning.specs.Seen.{spans_seen}
use Rattle.rs_machine.specs.State.{State}
use Rattle.rs_store.specs.Kept.{StandsIn}
use Rattle.rs_store_source.specs.Reads.{Passes}
use Rattle.rs_store_source.specs.Routes.{has_some, table_keys}
use Rattle.rs_store_source.specs.declared.routes.TableKey.{TableKey}
use Rattle.rs_store_source.proofs.routes.has_facts_on.Given as goal

abbrev pub invariant-loop-table : goal.invariant-loop-table
invariant-loop-table g l = record {
  passes : Passes g.D.Disk l.fn.store l.store;
  keys : l.table-items ≡ table_keys l.fn.store.catalog;
  none : (oldest : ℕ) (state : State) (stands : StandsIn g.D.Disk oldest l.fn.store state)
      → AllByRecursion (λ (key : TableKey). has_some (spans_seen stands.contents l.fn.store.file.accepted key.number l.fn.route) ≡ false) (take l.table-index l.table-items);
}
