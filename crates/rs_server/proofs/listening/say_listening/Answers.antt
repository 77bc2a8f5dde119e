use Rattle.std.proofs.Common.{◌≡◌}
use Rattle.std.specs.Prelude.{decimal}
use Rattle.rs_server.proofs.Saying.{port_from_parts}
use Rattle.rs_server.proofs.listening.say_listening.Goals as goal

pub returns : goal.returns
returns g c =
    let bytes = c.as_bytes-number.ensures.value in
    let digits = c.format.ensures.text in
    let is_number : c.as_bytes-number.result.now ≡ decimal c.in-Some.port = cc in
    port_from_parts _ c.put_parts-2.result c.args.port c.in-Some.port c.as_bytes-number.result.now _ _ c.in-Some.is is_number c.put_parts-2.ensures
