-- The connection is served as one; or it failed before it began.
use Rattle.std.proofs.Common.{refl}
use Rattle.rs_server.proofs.Peers.{tells-nothing}
use Rattle.rs_server.proofs.connection.serve_next.Goals as goal

pub returns-in-Ok-Some-clause-served : goal.returns-in-Ok-Some-clause-served
returns-in-Ok-Some-clause-served g c = λ old is.
    let served = c.serve_one.ensures.served old is in
    (served.0, served.1, record { outcome = c.serve_one.result; told = served.2.0; unread = _; before = _; after = _; ended = served.2.2 })

pub returns-in-Ok-None-clause-served : goal.returns-in-Ok-None-clause-served
returns-in-Ok-None-clause-served g c = λ old is. (old, is, tells-nothing old)

pub returns-in-Ok-None-clause-becomes : goal.returns-in-Ok-None-clause-becomes
returns-in-Ok-None-clause-becomes g c = g.met.E.Serve.becomes_itself c.args.engine.now

pub returns-in-Err-clause-served : goal.returns-in-Err-clause-served
returns-in-Err-clause-served g c = λ old is. (old, is, refl)

pub returns-in-Err-clause-becomes : goal.returns-in-Err-clause-becomes
returns-in-Err-clause-becomes g c = g.met.E.Serve.becomes_itself c.args.engine.now
