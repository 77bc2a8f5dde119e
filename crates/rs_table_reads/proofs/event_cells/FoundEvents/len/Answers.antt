-- None is left after the last.
use Rattle.std.proofs.Common.{◌≤◌, ℕ, subst}
use Rattle.rs_records.specs.Listed.{listed}
use Rattle.rs_table_reads.proofs.Lends.{none_left}
use Rattle.rs_table_reads.proofs.event_cells.FoundEvents.len.Goals as goal

pub returns-clause-none_left : goal.returns-clause-none_left
returns-clause-none_left c events say place past =
    none_left c.args.self.now.schema.items c.args.self.now.window (listed c.args.self.now.cells) events place say
    (subst (λ (count : ℕ). count ≤ place) c.len.ensures past)
