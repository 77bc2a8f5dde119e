-- What a look shows is dumped, which stands for what the file stands for; or there is no look.
use Rattle.std.proofs.Common.{ℕ, IsTrue, inl, inr, refl, subst, sym}
use Rattle.rs_file_dump.proofs.Looks.{dumped_was, not_left_open, stopped_was, wants_look, whole_was}
use Rattle.rs_file_dump.proofs.dumping.dump_file.Goals as goal
use Rattle.rs_journal.specs.Look.{shown}
use Rattle.rs_pages.specs.declared.pages.TheConstants.{GREATEST_LIMIT}

pub returns-in-Ok-clause-dumps : goal.returns-in-Ok-clause-dumps
returns-in-Ok-clause-dumps g c = λ honest.
    let d = g.D.Disk in
    let still : IsTrue (d.is_honest c.in-Ok.looked.disk) = subst IsTrue (sym c.in-Ok.ensures.reads.honesty) honest in
    dumped_was GREATEST_LIMIT (d.seen c.args.disk) (shown (d.seen c.in-Ok.looked.disk))
    (c.look_stands_for_the_state.ensures.stood GREATEST_LIMIT (d.seen c.args.disk) (shown (d.seen c.in-Ok.looked.disk)) (c.in-Ok.ensures.shows honest))
    _ c.args.wanted.omits_rows (g.W.Write.contents c.args.output.now) (g.W.Write.contents c.dump_disk-looked.new.output) c.dump_disk-looked.result.1
    (c.dump_disk-looked.ensures.dumps still)

pub returns-in-Ok-clause-whole : goal.returns-in-Ok-clause-whole
returns-in-Ok-clause-whole g c = λ honest no_table has_rows.
    let d = g.D.Disk in
    let still : IsTrue (d.is_honest c.in-Ok.looked.disk) = subst IsTrue (sym c.in-Ok.ensures.reads.honesty) honest in
    whole_was GREATEST_LIMIT (d.seen c.args.disk) (shown (d.seen c.in-Ok.looked.disk))
    (c.look_stands_for_the_state.ensures.stood GREATEST_LIMIT (d.seen c.args.disk) (shown (d.seen c.in-Ok.looked.disk)) (c.in-Ok.ensures.shows honest))
    (g.W.Write.contents c.args.output.now) (g.W.Write.contents c.dump_disk-looked.new.output) c.dump_disk-looked.result.1
    (c.dump_disk-looked.ensures.whole still no_table has_rows)

pub returns-in-Ok-clause-nothing_lacks : goal.returns-in-Ok-clause-nothing_lacks
returns-in-Ok-clause-nothing_lacks g c = λ honest no_table state stood can.
    let d = g.D.Disk in
    let still : IsTrue (d.is_honest c.in-Ok.looked.disk) = subst IsTrue (sym c.in-Ok.ensures.reads.honesty) honest in
    c.dump_disk-looked.ensures.nothing_lacks still no_table state
    (c.look_stands_for_the_state.ensures.stands GREATEST_LIMIT (d.seen c.args.disk) (shown (d.seen c.in-Ok.looked.disk)) (c.in-Ok.ensures.shows honest) state stood) can

pub returns-in-Ok-clause-passes : goal.returns-in-Ok-clause-passes
returns-in-Ok-clause-passes g c = λ honest no_table state stood done.
    let d = g.D.Disk in
    let still : IsTrue (d.is_honest c.in-Ok.looked.disk) = subst IsTrue (sym c.in-Ok.ensures.reads.honesty) honest in
    c.dump_disk-looked.ensures.passes still no_table state
    (c.look_stands_for_the_state.ensures.stands GREATEST_LIMIT (d.seen c.args.disk) (shown (d.seen c.in-Ok.looked.disk)) (c.in-Ok.ensures.shows honest) state stood) done

pub returns-in-Ok-clause-stops : goal.returns-in-Ok-clause-stops
returns-in-Ok-clause-stops g c = λ honest.
    let d = g.D.Disk in
    let still : IsTrue (d.is_honest c.in-Ok.looked.disk) = subst IsTrue (sym c.in-Ok.ensures.reads.honesty) honest in
    let shows = c.in-Ok.ensures.shows honest in
    let law = c.look_stands_for_the_state.ensures in
    stopped_was GREATEST_LIMIT (d.seen c.args.disk) (shown (d.seen c.in-Ok.looked.disk))
    (law.stood GREATEST_LIMIT (d.seen c.args.disk) (shown (d.seen c.in-Ok.looked.disk)) shows)
    (law.left_open GREATEST_LIMIT (d.seen c.args.disk) (shown (d.seen c.in-Ok.looked.disk)) shows)
    (law.none GREATEST_LIMIT (d.seen c.args.disk) (shown (d.seen c.in-Ok.looked.disk)) shows)
    _ c.args.wanted.omits_rows (g.W.Write.contents c.args.output.now) (g.W.Write.contents c.dump_disk-looked.new.output) c.dump_disk-looked.result.1
    (c.dump_disk-looked.ensures.stops still)

pub returns-in-Err-clause-wants : goal.returns-in-Err-clause-wants
returns-in-Err-clause-wants g c = inr (inr (c.in-Err.refusal, refl, wants_look c.in-Err.refusal c.in-Err.ensures.refused))

pub returns-in-Err-clause-stops : goal.returns-in-Err-clause-stops
returns-in-Err-clause-stops g c = λ honest.
    inl (record {
      why = c.in-Err.refusal;
      is = refl;
      wants = wants_look c.in-Err.refusal c.in-Err.ensures.refused;
      damaged = λ is. c.look_stands_for_the_state.ensures.lacks GREATEST_LIMIT (g.D.Disk.seen c.args.disk) (c.in-Err.ensures.damaged honest is);
      left_open = λ left. absurd (not_left_open c.in-Err.refusal c.in-Err.ensures.refused left);
      kept = refl;
    })
