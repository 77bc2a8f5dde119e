-- One cell after another.
use Rattle.std.proofs.Common.{◌≡◌, ◌∙◌, false, rules, sym, true, true≢false}
use Rattle.rs_records.specs.Listed.{listed}
use Rattle.rs_versioned.proofs.CellsWide.{cell_wide}
use Rattle.rs_table_reads.proofs.Lends.{say_more}
use Rattle.rs_table_reads.proofs.Picks.{none_at}
use Rattle.rs_table_reads.proofs.finding.say_events.Goals as goal

pub says_event-requires : goal.says_event-requires
says_event-requires c = record { width = cell_wide c.args.cells.now c.loop-place.place c.get.result.now c.get.ensures ∙ c.requires.width }

pub returns-then-not-says_event-clause-none : goal.returns-then-not-says_event-clause-none
returns-then-not-says_event-clause-none c = λ no.
    let isnt : c.says_event.result ≡ false = search rules in
    none_at c.args.schema.now.items (listed c.args.cells.now) c.loop-place.place c.get.result.now c.get.ensures
    (λ event says. let yes = c.says_event.ensures.1 (event, says) in absurd (true≢false (sym yes ∙ isnt)))

pub loop-place-preserved : goal.loop-place-preserved
loop-place-preserved c =
    let is : c.says_event.result ≡ true = search rules in
    say_more c.args.schema.now.items (listed c.args.cells.now) c.loop-place.place c.get.result.now c.get.ensures c.loop-place.invariant (c.says_event.ensures.0 is)
