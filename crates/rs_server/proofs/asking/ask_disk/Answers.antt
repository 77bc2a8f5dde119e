-- The questions are answered from the state that the disk stood for; or it was not opened.
use Rattle.std.proofs.Common.{◌≡◌, ◌∙◌, ◌⊎◌, inl, inr, refl, subst, sym}
use Rattle.rs_engine.specs.Files.{machine_with}
use Rattle.rs_pages.specs.declared.pages.TheConstants.{GREATEST_LIMIT}
use Rattle.rs_server.proofs.Questions.{asked_all, asked_some, is_one, no_success, quiet_after}
use Rattle.rs_server.specs.declared.report.TheConstants.{FAILED, SUCCESS}
use Rattle.rs_server.proofs.asking.ask_disk.Goals as goal

pub returns-in-Ok-clause-asks : goal.returns-in-Ok-clause-asks
returns-in-Ok-clause-asks g c =
    let d = g.D.Disk in
    record {
      is = subst (λ n. (n ≡ SUCCESS) ⊎ (n ≡ FAILED)) (sym c.status_after.ensures.status) (is_one c.answer_questions-answered.result);
      asks = λ honest done.
          let opens = (c.in-Ok.ensures.opens honest).opens in
          let first = machine_with d opens.state c.in-Ok.engine in
          let said = c.answer_questions-answered.ensures.answers first (c.machine_is_the_only_one.ensures c.in-Ok.engine first opens.is) in
          asked_all GREATEST_LIMIT (d.seen c.args.disk) _ _ _ first said.0 opens.stood c.answer_questions-answered.result said.2 (sym c.status_after.ensures.status ∙ done);
      fails = λ honest failed.
          let opens = (c.in-Ok.ensures.opens honest).opens in
          let first = machine_with d opens.state c.in-Ok.engine in
          let said = c.answer_questions-answered.ensures.answers first (c.machine_is_the_only_one.ensures c.in-Ok.engine first opens.is) in
          asked_some GREATEST_LIMIT (d.seen c.args.disk) _ _ _ first said.0 opens.stood _ _ c.answer_questions-answered.result said.2 (sym c.status_after.ensures.status ∙ failed);
    }

pub returns-in-Ok-clause-quiet : goal.returns-in-Ok-clause-quiet
returns-in-Ok-clause-quiet g c = λ done.
    quiet_after c.answer_questions-answered.result _ _ _ c.answer_questions-answered.ensures.quiet c.status_after.ensures.quiet (sym c.status_after.ensures.status ∙ done)

pub returns-in-Err-clause-asks : goal.returns-in-Err-clause-asks
returns-in-Err-clause-asks g c = record {
  is = inr c.report_failure.ensures.status;
  asks = λ honest done. absurd (no_success (sym c.report_failure.ensures.status ∙ done));
  fails = λ honest failed.
      let opens = c.in-Err.ensures.opens honest in
      inl (record {
        why = c.in-Err.refusal;
        wants = c.in-Err.ensures.refused;
        damaged = opens.damaged;
        left_open = opens.left_open;
        kept = refl;
        said = c.report_failure.ensures.said;
      });
}
