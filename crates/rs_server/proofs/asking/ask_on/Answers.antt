-- What a look shows is asked, which stands for what the file stands for; or there is no look.
use Rattle.std.proofs.Common.{◌∙◌, IsTrue, inl, inr, refl, subst, sym}
use Rattle.rs_file_dump.proofs.Looks.{not_left_open, wants_look}
use Rattle.rs_journal.specs.Look.{shown}
use Rattle.rs_pages.specs.declared.pages.TheConstants.{GREATEST_LIMIT}
use Rattle.rs_server.proofs.Questions.{asks_was, fails_was, no_success}
use Rattle.rs_server.proofs.asking.ask_on.Goals as goal

pub returns-in-Ok-clause-asks : goal.returns-in-Ok-clause-asks
returns-in-Ok-clause-asks g c =
    let d = g.D.Disk in
    let law = c.look_stands_for_the_state.ensures in
    let look = shown (d.seen c.in-Ok.looked.disk) in
    let asked = c.ask_disk.ensures.asks in
    record {
      is = asked.is;
      asks = λ honest done.
          asks_was GREATEST_LIMIT (d.seen c.args.disk) look (law.stood GREATEST_LIMIT (d.seen c.args.disk) look (c.in-Ok.ensures.shows honest)) _ _ _ _
          (asked.asks (subst IsTrue (sym c.in-Ok.ensures.reads.honesty) honest) done);
      fails = λ honest failed.
          let shows = c.in-Ok.ensures.shows honest in
          fails_was GREATEST_LIMIT (d.seen c.args.disk) look (law.stood GREATEST_LIMIT (d.seen c.args.disk) look shows) _ _ _ _ _
          (law.left_open GREATEST_LIMIT (d.seen c.args.disk) look shows) (law.none GREATEST_LIMIT (d.seen c.args.disk) look shows)
          (asked.fails (subst IsTrue (sym c.in-Ok.ensures.reads.honesty) honest) failed);
    }

pub returns-in-Err-clause-asks : goal.returns-in-Err-clause-asks
returns-in-Err-clause-asks g c = record {
  is = inr c.report_failure.ensures.status;
  asks = λ honest done. absurd (no_success (sym c.report_failure.ensures.status ∙ done));
  fails = λ honest failed. inl (record {
    why = c.in-Err.refusal;
    wants = wants_look c.in-Err.refusal c.in-Err.ensures.refused;
    damaged = λ is. c.look_stands_for_the_state.ensures.lacks GREATEST_LIMIT (g.D.Disk.seen c.args.disk) (c.in-Err.ensures.damaged honest is);
    left_open = λ left. absurd (not_left_open c.in-Err.refusal c.in-Err.ensures.refused left);
    kept = refl;
    said = c.report_failure.ensures.said;
  });
}
