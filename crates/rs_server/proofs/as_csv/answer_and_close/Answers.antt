-- The lines are answered, and what the machine is then is closed. No REOPEN found damage, and a crash leaves a front of the steps.
use Rattle.std.proofs.Common.{◌≡◌, ◌∙◌, Option, IsTrue, ap, subst, sym}
use Rattle.rs_engine.specs.Crashes.{AreSteps, ComeTo, GoThrough}
use Rattle.rs_engine.specs.Single.{IsOneMachine, one_machine}
use Rattle.rs_machine.specs.Served.{Machine}
use Rattle.rs_pages.specs.declared.pages.TheConstants.{GREATEST_LIMIT}
use Rattle.rs_server.specs.AsCsv.{failure_of_lines}
use Rattle.rs_server.specs.Disks.{Closes}
use Rattle.rs_server.specs.declared.report.Failure.{Failure}
use Rattle.rs_server.proofs.Answering.{quiet_lines}
use Rattle.rs_server.proofs.Damage.{told_as_it_is}
use Rattle.rs_server.proofs.Surviving.{leaves_front_of, steps_between}
use Rattle.rs_server.proofs.as_csv.answer_and_close.Goals as goal

pub returns-clause-answers : goal.returns-clause-answers
returns-clause-answers g c = λ machine kept is is_kept.
    let d = g.D.Disk in
    let first = subst (λ shown. IsOneMachine d shown.engine machine) (sym c.new-reopened.ensures.engine) is in
    let served = c.answer_input-outcome.ensures.answers machine (record { is = first; sound = c.new-reopened.ensures.sound }) in
    let last = subst (λ shown. IsOneMachine d shown.engine served.0) (sym c.end-shown.ensures.engine) served.1.is in
    let told : c.end-shown.result.1 ≡ failure_of_lines c.answer_input-outcome.result = c.end-shown.ensures.failure ∙ told_as_it_is _ _ served.1.sound ∙ c.failure_of_lines-failure.ensures in
    let was = c.args.engine in
    let now = c.end-shown.result.0.engine in
    let steps = c.answer_input-outcome.ensures.becomes in
    let became : AreSteps d steps.0 was now = steps_between d steps.0 _ was _ now (ap (λ shown. shown.engine) c.new-reopened.ensures.engine) (ap (λ shown. shown.engine) c.end-shown.ensures.engine) steps.1 in
    let comes : ComeTo d steps.0 machine was now = c.steps_leave_a_front.ensures.comes steps.0 was now machine became is in
    let goes : GoThrough steps.0 machine served.0 = subst (λ (one : Machine). GoThrough steps.0 machine one) (one_machine d now comes.machine served.0 comes.is last) comes.goes in
    record {
      last = served.0;
      answered = record { unread_now = served.2.0; ended = served.2.1 };
      closes = subst (λ (failure : Option Failure). Closes d GREATEST_LIMIT served.0 failure c.close_after.result) told (c.close_after.ensures.closes served.0 last);
      calls = steps.0;
      goes = goes;
      crashes = λ on.
          let leave = c.steps_leave_a_front.ensures.leaves steps.0 was now machine kept became is is_kept on in
          leaves_front_of d steps.0 machine served.0 kept was now goes leave is.is.within comes.limit c.close_after.result
          (c.close_after.ensures.meanwhile served.0 leave.kept.0 last leave.kept.2 (subst IsTrue (sym comes.keeping) on));
    }

pub returns-clause-quiet : goal.returns-clause-quiet
returns-clause-quiet g c = quiet_lines c.answer_input-outcome.result _ _ c.answer_input-outcome.ensures.quiet
