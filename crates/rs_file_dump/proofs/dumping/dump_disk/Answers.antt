-- The disk is opened, and then dumped.
use Rattle.std.proofs.Common.{ℕ, ◌∙◌, ap, inl, inr, refl, subst, sym}
use Rattle.rs_file_dump.specs.declared.held.HeldFile.{HeldFile}
use Rattle.rs_file_dump.proofs.Dumps.{dumps, dumps_whole}
use Rattle.rs_file_dump.proofs.Files.{many_reads}
use Rattle.rs_file_dump.proofs.Stopping.{all_rose, all_wants, dumps_state, in_right, lacks_none, none_passes, same_error, stops_dumping}
use Rattle.rs_file_dump.proofs.dumping.dump_disk.Goals as goal
use Rattle.rs_pages.specs.declared.pages.TheConstants.{GREATEST_LIMIT}
use Rattle.rs_refusal.proofs.CountLemmas.{Rose_counted_on}
use Rattle.rs_refusal.specs.Counts.{Rose}
use Rattle.rs_refusal.specs.declared.refusal.Refusal.TheVariants as refusal

pub returns-in-Ok-clause-honesty : goal.returns-in-Ok-clause-honesty
returns-in-Ok-clause-honesty g c =
    let d = g.D.Disk in
    let reads = many_reads d (λ (held : HeldFile g.row.D.Denot). held.store) _ _ c.dump-ended.ensures.reads.passes in
    ap d.is_honest c.into_disk.ensures ∙ reads.keeps.honesty ∙ c.in-Ok.ensures.hands.honesty

pub returns-in-Ok-clause-dumps : goal.returns-in-Ok-clause-dumps
returns-in-Ok-clause-dumps g c = λ honest.
    let d = g.D.Disk in
    let opens = (c.in-Ok.ensures.opens honest).opens in
    dumps d GREATEST_LIMIT (d.seen c.args.disk) c.in-Ok.store opens c.store_stands_in_one_state.ensures.state
    c.spans_within_hold_what_the_table_holds.ensures.placed c.spans_within_hold_what_the_table_holds.ensures.rows
    (c.state_of_a_disk_is_lawful.ensures GREATEST_LIMIT (d.seen c.args.disk) opens.state opens.stood)
    c.args.wanted.omits_rows (g.W.Write.contents c.args.output.now) (g.W.Write.contents c.dump-ended.new.output) c.args.wanted.table c.dump-ended.result
    c.dump-ended.ensures.all c.dump-ended.ensures.table

pub returns-in-Ok-clause-whole : goal.returns-in-Ok-clause-whole
returns-in-Ok-clause-whole g c = λ honest no_table has_rows.
    let d = g.D.Disk in
    let opens = (c.in-Ok.ensures.opens honest).opens in
    dumps_whole d GREATEST_LIMIT (d.seen c.args.disk) c.in-Ok.store opens c.store_stands_in_one_state.ensures.state
    c.spans_within_hold_what_the_table_holds.ensures.placed c.spans_within_hold_what_the_table_holds.ensures.rows
    (c.state_of_a_disk_is_lawful.ensures GREATEST_LIMIT (d.seen c.args.disk) opens.state opens.stood)
    c.what_is_written_is_a_dump.ensures c.dump-ended.result c.args.wanted.omits_rows (g.W.Write.contents c.args.output.now) (g.W.Write.contents c.dump-ended.new.output)
    has_rows (c.dump-ended.ensures.all no_table)

pub returns-in-Ok-clause-nothing_lacks : goal.returns-in-Ok-clause-nothing_lacks
returns-in-Ok-clause-nothing_lacks g c = λ honest no_table state stood can.
    let d = g.D.Disk in
    let opens = (c.in-Ok.ensures.opens honest).opens in
    lacks_none d GREATEST_LIMIT (d.seen c.args.disk) c.in-Ok.store opens c.store_stands_in_one_state.ensures.state
    c.spans_within_hold_what_the_table_holds.ensures.placed c.spans_within_hold_what_the_table_holds.ensures.rows
    (c.state_of_a_disk_is_lawful.ensures GREATEST_LIMIT (d.seen c.args.disk) opens.state opens.stood)
    c.disk_stands_for_one_state.ensures.closed c.args.wanted.omits_rows (g.W.Write.contents c.args.output.now) (g.W.Write.contents c.dump-ended.new.output) state stood
    c.state_that_passes_is_dumped_whole.ensures.whole can c.dump-ended.result (c.dump-ended.ensures.all no_table)

pub returns-in-Ok-clause-passes : goal.returns-in-Ok-clause-passes
returns-in-Ok-clause-passes g c = λ honest no_table state stood done.
    let d = g.D.Disk in
    let opens = (c.in-Ok.ensures.opens honest).opens in
    none_passes d GREATEST_LIMIT (d.seen c.args.disk) c.in-Ok.store opens c.store_stands_in_one_state.ensures.state
    c.spans_within_hold_what_the_table_holds.ensures.placed c.spans_within_hold_what_the_table_holds.ensures.rows
    (c.state_of_a_disk_is_lawful.ensures GREATEST_LIMIT (d.seen c.args.disk) opens.state opens.stood)
    c.disk_stands_for_one_state.ensures.closed c.args.wanted.omits_rows (g.W.Write.contents c.args.output.now) (g.W.Write.contents c.dump-ended.new.output) state stood
    c.state_that_passes_is_dumped_whole.ensures.only c.dump-ended.result (c.dump-ended.ensures.all no_table) done

pub returns-in-Ok-clause-whole_state : goal.returns-in-Ok-clause-whole_state
returns-in-Ok-clause-whole_state g c = λ honest no_table has_rows state stood can.
    let d = g.D.Disk in
    let opens = (c.in-Ok.ensures.opens honest).opens in
    dumps_state d GREATEST_LIMIT (d.seen c.args.disk) c.in-Ok.store opens c.store_stands_in_one_state.ensures.state
    c.spans_within_hold_what_the_table_holds.ensures.placed c.spans_within_hold_what_the_table_holds.ensures.rows
    (c.state_of_a_disk_is_lawful.ensures GREATEST_LIMIT (d.seen c.args.disk) opens.state opens.stood)
    c.disk_stands_for_one_state.ensures.closed c.args.wanted.omits_rows (g.W.Write.contents c.args.output.now) (g.W.Write.contents c.dump-ended.new.output) state stood
    c.state_that_passes_is_dumped_whole.ensures.whole c.what_is_written_is_a_dump.ensures can c.dump-ended.result has_rows (c.dump-ended.ensures.all no_table)

pub returns-in-Ok-clause-wants : goal.returns-in-Ok-clause-wants
returns-in-Ok-clause-wants g c =
    all_wants g.D.Disk c.in-Ok.store c.dump-ended.new.held.store c.args.wanted.table c.dump-ended.result c.dump-ended.ensures.wants_all c.dump-ended.ensures.wants_table

pub returns-in-Ok-clause-failed : goal.returns-in-Ok-clause-failed
returns-in-Ok-clause-failed g c = λ is.
    let d = g.D.Disk in
    subst (λ (n : ℕ). Rose n (d.failures c.into_disk.result)) c.in-Ok.ensures.hands.count
    (subst (λ disk. Rose (d.failures c.in-Ok.store.pager.disk) (d.failures disk)) (sym c.into_disk.ensures)
    (all_rose d c.in-Ok.store c.dump-ended.new.held.store c.args.wanted.table c.dump-ended.result c.dump-ended.ensures.wants_all c.dump-ended.ensures.wants_table is))

pub returns-in-Ok-clause-stops : goal.returns-in-Ok-clause-stops
returns-in-Ok-clause-stops g c = λ honest.
    let d = g.D.Disk in
    let opens = (c.in-Ok.ensures.opens honest).opens in
    in_right c.dump-ended.result _ _
    (stops_dumping d GREATEST_LIMIT (d.seen c.args.disk) c.in-Ok.store c.dump-ended.new.held.store opens c.store_stands_in_one_state.ensures.state
    c.spans_within_hold_what_the_table_holds.ensures.placed c.spans_within_hold_what_the_table_holds.ensures.rows
    (c.state_of_a_disk_is_lawful.ensures GREATEST_LIMIT (d.seen c.args.disk) opens.state opens.stood)
    c.args.wanted.omits_rows (g.W.Write.contents c.args.output.now) (g.W.Write.contents c.dump-ended.new.output) c.args.wanted.table c.dump-ended.result
    c.dump-ended.ensures.wants_all c.dump-ended.ensures.wants_table c.dump-ended.ensures.front_all c.dump-ended.ensures.front_table)

pub returns-in-Err-clause-wants : goal.returns-in-Err-clause-wants
returns-in-Err-clause-wants g c = inr (inr (c.in-Err.refusal, refl, c.in-Err.ensures.refused))

pub returns-in-Err-clause-failed : goal.returns-in-Err-clause-failed
returns-in-Err-clause-failed g c = λ is.
    let d = g.D.Disk in
    subst (Rose (d.failures c.args.disk)) (sym (c.in-Err.ensures.hands.count.disk (same_error c.in-Err.refusal refusal.Disk is))) (Rose_counted_on (d.failures c.args.disk))

pub returns-in-Err-clause-stops : goal.returns-in-Err-clause-stops
returns-in-Err-clause-stops g c = λ honest.
    let opens = c.in-Err.ensures.opens honest in
    inl (record {
      why = c.in-Err.refusal;
      is = refl;
      wants = c.in-Err.ensures.refused;
      damaged = opens.damaged;
      left_open = opens.left_open;
      kept = refl;
    })
