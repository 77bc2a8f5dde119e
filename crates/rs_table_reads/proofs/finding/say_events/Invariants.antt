-- Each of the cells so far says an event.
use Rattle.std.proofs.Common.{take}
use Rattle.rs_records.specs.Listed.{listed}
use Rattle.rs_table_reads.specs.Events.{SayEvents}
use Rattle.rs_table_reads.proofs.finding.say_events.Given as goal

abbrev pub invariant-loop-place : goal.invariant-loop-place
invariant-loop-place l = SayEvents l.schema.items (take l.place (listed l.cells))
