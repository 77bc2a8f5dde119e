-- A peer whose connection failed before it began.
use Rattle.std.proofs.Common.{None, [], Err, refl}
use Rattle.rs_machine.specs.Served.{Machine}
use Rattle.rs_protocol.specs.declared.stream.Fault.TheVariants.{Read}
use Rattle.rs_server.specs.Connections.{ServesPeer}

-- it told nothing, and changed nothing
pub tells-nothing : (machine : Machine) → ServesPeer machine machine
tells-nothing machine = record {
  outcome = Err Read;
  told = [];
  unread = None;
  before = None;
  after = None;
  ended = ([], record { written = []; put = tt; answered = record { lines = []; cut = record { whole = refl; each = tt; partial = tt }; answers = []; answered = refl; text = refl } });
}
