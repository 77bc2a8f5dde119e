-- The engine is a new machine, which serves the lines; or there was no room for it.
use Rattle.std.proofs.Common.{inl, ap, refl, ◌∙◌}
use Rattle.rs_server.proofs.service.run_in_memory.Goals as goal

pub returns-in-Ok : goal.returns-in-Ok
returns-in-Ok g c =
    let creates = c.in-Ok.ensures.creates refl in
    let served = c.run-outcome.ensures.served _ (c.machine_is_the_only_one.ensures c.in-Ok.engine _ creates.fresh) in
    inl (record {
      outcome = c.run-outcome.result;
      first = _;
      new = refl;
      failures = c.in-Ok.ensures.hands.count ∙ ap (λ disk. disk.calls.failures) c.new.ensures;
      last = served.0;
      served = record { told = served.2.0; consumed = served.2.1; ended = served.2.2 };
      told = c.failure_after.ensures;
    })
