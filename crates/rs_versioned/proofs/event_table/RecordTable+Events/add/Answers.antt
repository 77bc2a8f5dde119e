-- The event of the cell that was made has come.
use Rattle.std.proofs.Common.{◌-◌, ◌^◌, rules}
use Rattle.std.proofs.lemmas.Bool.{eq-eqb}
use Rattle.std.proofs.lemmas.Result.{IfOk-weaker}
use Rattle.rs_cell_versions.specs.Version.{died_of}
use Rattle.rs_versioned.specs.Calls.{IsAdded}
use Rattle.rs_versioned.specs.Events.{Event, SaysEvent, event_of, kept_events}
use Rattle.rs_versioned.proofs.EventCells.{event_wide}
use Rattle.rs_versioned.proofs.KeptRecords.{events_are_kept}
use Rattle.rs_versioned.proofs.event_table.RecordTable+Events.add.Goals as goal

pub add_cell-requires-clause-width : goal.add_cell-requires-clause-width
add_cell-requires-clause-width g c =
    let event : Event = event_of c.args.route c.args.span.now c.args.version in
    let says : SaysEvent c.args.self.now.types c.deref.result.now event = search rules in
    event_wide c.args.self.now.types c.deref.result.now event says

pub add_cell-requires-clause-living : goal.add_cell-requires-clause-living
add_cell-requires-clause-living g c =
    let event : Event = event_of c.args.route c.args.span.now c.args.version in
    let says : SaysEvent c.args.self.now.types c.deref.result.now event = search rules in
    eq-eqb (died_of c.deref.result.now) (2 ^ 64 - 1) ((events_are_kept c.args.self.now.types).died c.deref.result.now event says)

pub returns-clause-adds : goal.returns-clause-adds
returns-clause-adds g c = λ tied.
    let event : Event = event_of c.args.route c.args.span.now c.args.version in
    let says : SaysEvent c.args.self.now.types c.deref.result.now event = search rules in
    let table = c.args.self.now in
    let now = c.add_cell.new.self in
    let old = (g.P.Pages.store c.args.pages.now).map in
    let new = (g.P.Pages.store c.add_cell.new.pages).map in
    IfOk-weaker c.add_cell.result
    (λ is_new. (one : Event) → SaysEvent table.types c.deref.result.now one → IsAdded (kept_events table.types) old new table.working now.working table now one is_new)
    (IsAdded (kept_events table.types) old new table.working now.working table now event)
    (λ is_new all. all event says)
    (c.add_cell.ensures.adds tied)
