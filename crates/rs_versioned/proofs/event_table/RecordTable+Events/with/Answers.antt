-- Events are kept as a table asks.
use Rattle.rs_versioned.proofs.KeptRecords.{events_are_kept}
use Rattle.rs_versioned.proofs.event_table.RecordTable+Events.with.Goals as goal

pub invariant_of-result : goal.invariant_of-result
invariant_of-result c = (c.requires.width, events_are_kept c.args.schema.items)
