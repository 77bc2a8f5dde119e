-- Each connection is served after those before it.
use Rattle.std.proofs.Common.{◌≡◌, ◌+◌, ℕ, suc, Result, arith, refl, subst, sym}
use Rattle.std.proofs.lemmas.Result.{err_from_is_err_and}
use Rattle.rs_machine.specs.Served.{Machine}
use Rattle.rs_server.specs.Connections.{ServesInTurn, ServesThem}
use Rattle.rs_server.specs.declared.connection.CannotAccept.{CannotAccept}
use Rattle.rs_server.proofs.connection.serve_connections.Goals as goal

pub loop-init : goal.loop-init
loop-init g c = record { served = λ old is. (old, is, refl); became = g.met.E.Serve.becomes_itself c.args.engine.now }

pub returns-in_err-serve_next-clause-served : goal.returns-in_err-serve_next-clause-served
returns-in_err-serve_next-clause-served g c = λ old is.
    let before = c.loop.invariant.served old is in
    let next = c.in_err-serve_next.ensures.served before.0 before.1 in
    let fewer = subst (λ (last : Machine). ServesInTurn c.loop.counter old last) (sym next.2) before.2 in
    let p = err_from_is_err_and c.from_residual.result c.from_residual.ensures.1 in
    (next.0, next.1, subst (λ (r : Result (Unit {0}) CannotAccept). ServesThem r c.args.connections old next.0) (sym p.1) (c.loop.counter, c.loop-test.true, fewer))

pub returns-in_err-serve_next-clause-becomes : goal.returns-in_err-serve_next-clause-becomes
returns-in_err-serve_next-clause-becomes g c = g.met.E.Serve.becomes_later c.args.engine.now c.loop.engine c.serve_next.new.engine c.loop.invariant.became c.serve_next.ensures.becomes

pub loop-preserved : goal.loop-preserved
loop-preserved g c = record {
  served = λ old is.
      let before = c.loop.invariant.served old is in
      let next = c.in_ok-serve_next.ensures.served before.0 before.1 in
      let more : suc c.loop.counter ≡ c.loop.counter + 1 = omega arith in
      (next.0, next.1, subst (λ (count : ℕ). ServesInTurn count old next.0) more (before.0, before.2, next.2));
  became = g.met.E.Serve.becomes_later c.args.engine.now c.loop.engine c.serve_next.new.engine c.loop.invariant.became c.serve_next.ensures.becomes;
}

pub returns-clause-served : goal.returns-clause-served
returns-clause-served g c = λ old is.
    let served = c.loop.invariant.served old is in
    let all : c.loop.counter ≡ c.args.connections = omega (arith, c.loop.auto.counter-end, c.loop-test.false) in
    (served.0, served.1, subst (λ (count : ℕ). ServesInTurn count old served.0) all served.2)

pub returns-clause-becomes : goal.returns-clause-becomes
returns-clause-becomes g c = c.loop.invariant.became
