-- The engine is a new machine, which answers the lines; or there was no room for it.
use Rattle.std.proofs.Common.{ap, refl, ◌∙◌}
use Rattle.rs_server.proofs.Answering.{quiet_lines}
use Rattle.rs_server.proofs.as_csv.answer_in_memory.Goals as goal

pub returns-in-Ok-clause-answers : goal.returns-in-Ok-clause-answers
returns-in-Ok-clause-answers g c =
    let creates = c.in-Ok.ensures.creates refl in
    let said = c.answer_input-outcome.ensures.answers _ (c.machine_is_the_only_one.ensures c.in-Ok.engine _ creates.fresh) in
    record {
      first = _;
      new = refl;
      failures = c.in-Ok.ensures.hands.count ∙ ap (λ disk. disk.calls.failures) c.new.ensures;
      last = said.0;
      answered = record { unread_now = said.2.0; ended = said.2.1 };
      told = c.failure_of_lines-failure.ensures;
    }

pub returns-in-Ok-clause-quiet : goal.returns-in-Ok-clause-quiet
returns-in-Ok-clause-quiet g c = quiet_lines c.answer_input-outcome.result _ _ c.answer_input-outcome.ensures.quiet
