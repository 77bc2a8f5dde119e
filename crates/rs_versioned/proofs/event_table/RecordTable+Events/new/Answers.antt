-- No events are in a tree of no cells.
use Rattle.std.proofs.Common.{◌≡◌, ◌+◌, ℕ, [], subst, rules}
use Rattle.rs_interval.specs.Finding.{event_form}
use Rattle.rs_page_owners.specs.Counts.{no_pages}
use Rattle.rs_cell_versions.specs.Versioned.{HoldsCells}
use Rattle.rs_versioned.specs.Events.{event_width}
use Rattle.rs_versioned.proofs.KeptRecords.{events_are_kept}
use Rattle.rs_versioned.proofs.event_table.RecordTable+Events.new.Goals as goal

pub invariant_of-result : goal.invariant_of-result
invariant_of-result c = (search rules, events_are_kept c.args.schema.items)

pub returns-clause-empty : goal.returns-clause-empty
returns-clause-empty c = λ pages accepted.
    let wide : c.row_width-width.result + 28 ≡ event_width c.args.schema.items = search rules in
    record {
      cells = [];
      holds = subst (λ (w : ℕ). HoldsCells (event_form w) pages c.new.result.working [] no_pages) wide (c.new.ensures.empty pages);
      say = tt;
      dated = tt;
    }
