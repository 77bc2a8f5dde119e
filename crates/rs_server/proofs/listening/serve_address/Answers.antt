-- The address was not bound; or it was, and what was served is what the connections were.
use Rattle.std.proofs.Common.{◌≡◌, ℕ, List, Option, Some, refl, subst, sym}
use Rattle.std.proofs.KnownBytes.{Keeps-refl}
use Rattle.std.specs.Borrow.{Bor}
use Rattle.rs_machine.specs.Served.{Machine}
use Rattle.rs_protocol.specs.declared.stream.Fault.{Fault}
use Rattle.rs_protocol.specs.declared.stream.Fault.TheVariants.{Write}
use Rattle.rs_server.specs.Connections.{ServesAddress}
use Rattle.rs_server.specs.Saying.{SaysFront, listening_text}
use Rattle.rs_server.specs.declared.report.Failure.TheVariants.{Stream}
use Rattle.rs_server.proofs.Saying.{said_from_puts}
use Rattle.rs_server.proofs.listening.serve_address.Goals as goal

-- a front of it was said, and nobody was served
not_said : (address : Bor (List ℕ)) (connections : ℕ) (fault : Fault) (port : Option ℕ) (machine : Machine) (before after : Option (List ℕ)) → fault ≡ Write
    → SaysFront (listening_text port) before after → ServesAddress address connections (Some (Stream fault)) machine machine before after
not_said address connections fault port machine before after is says =
    subst (λ (one : Fault). ServesAddress address connections (Some (Stream one)) machine machine before after) (sym is) ((port, says), refl)

pub returns-in-Err-clause-served : goal.returns-in-Err-clause-served
returns-in-Err-clause-served g c = λ old is. (old, is, (refl, Keeps-refl _, refl))

pub returns-in-Err-clause-becomes : goal.returns-in-Err-clause-becomes
returns-in-Err-clause-becomes g c = g.met.E.Serve.becomes_itself c.args.engine.now

pub returns-in-Ok-serve_connections-clause-served : goal.returns-in-Ok-serve_connections-clause-served
returns-in-Ok-serve_connections-clause-served g c = λ old is.
    let served = c.in-Ok-serve_connections.ensures.served old is in
    (served.0, served.1, ((c.in-Ok.bound.1, c.in-Ok-say_listening.ensures), served.2))

pub returns-in-Ok-say_listening-clause-served : goal.returns-in-Ok-say_listening-clause-served
returns-in-Ok-say_listening-clause-served g c = λ old is.
    let served = c.in-Err-serve_connections.ensures.served old is in
    (served.0, served.1, ((c.in-Ok.bound.1, c.in-Ok-say_listening.ensures), served.2))

pub returns-clause-served : goal.returns-clause-served
returns-clause-served g c = λ old is.
    let says = said_from_puts _ c.say_listening.result (listening_text c.in-Ok.bound.1) (g.W.Write.contents c.args.output.now) (g.W.Write.contents c.say_listening.new.output)
    c.say_listening.ensures in
    (old, is, not_said c.args.address c.args.connections c.in-Err-say_listening.fault c.in-Ok.bound.1 old _ _ c.in-Err-say_listening.ensures.0 says)

pub returns-clause-becomes : goal.returns-clause-becomes
returns-clause-becomes g c = g.met.E.Serve.becomes_itself c.args.engine.now
