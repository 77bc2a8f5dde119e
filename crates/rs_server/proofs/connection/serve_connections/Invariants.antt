use Rattle.rs_machine.specs.Served.{Machine}
use Rattle.rs_server.specs.Connections.{ServesInTurn}
use Rattle.rs_server.proofs.connection.serve_connections.Given as goal

-- the connections so far were served in turn, by steps alone
abbrev pub invariant-loop : goal.invariant-loop
invariant-loop g l = record {
  served : (old : Machine) → g.E.Serve.is l.initial.engine old → (new : Machine) × g.E.Serve.is l.engine new × ServesInTurn l.counter old new;
  became : g.E.Serve.becomes l.initial.engine l.engine;
}
