-- One line after another.
use Rattle.std.proofs.Common.{◌≡◌, List, [], ◌+◌, ap, arith, drop, map, refl}
use Rattle.std.proofs.Math.ListN.{drop_of_length-le}
use Rattle.rs_dump.specs.Sections.{referents_of_route}
use Rattle.rs_methods.specs.Position.{absolute}
use Rattle.rs_methods.specs.Referents.{mark_of}
use Rattle.rs_methods.specs.declared.referents.Referent.{Referent}
use Rattle.rs_syntax.specs.Tree.{CommandTree, define_referent}
use Rattle.rs_dump.proofs.Puts.{next_left}
use Rattle.rs_dump.proofs.Stops.{passed_on, stops_line}
use Rattle.rs_dump.proofs.Written.{wrote_all, wrote_first, wrote_more}
use Rattle.rs_dump.proofs.referents.write_referents_of.Goals as goal

pub loop-referent-init : goal.loop-referent-init
loop-referent-init g c =
    let all = referents_of_route c.args.route.now.bytes (map mark_of c.args.referents.now) in
    wrote_first all all (g.W.Write.contents c.args.output.now) refl

pub loop-referent-preserved : goal.loop-referent-preserved
loop-referent-preserved g c =
    let route = c.args.route.now.bytes in
    let referents = c.args.referents.now in
    let one = c.referent-item.result in
    let lines : List Referent → List CommandTree = λ (l : List Referent). referents_of_route route (map mark_of l) in
    wrote_more (lines referents) (lines (drop c.loop-referent.referent-index referents)) (lines (drop (c.loop-referent.referent-index + 1) referents)) (define_referent route one.name.bytes (absolute one.measure))
    (g.W.Write.contents c.args.output.now) (g.W.Write.contents c.loop-referent.output) (g.W.Write.contents c.put_referent.new.output)
    (ap lines (next_left referents c.loop-referent.referent-index one c.loop-referent-test.true c.referent-item.is)) c.loop-referent.invariant c.in_ok-put_referent.ensures

pub returns : goal.returns
returns g c =
    let referents = c.args.referents.now in
    let none : drop c.loop-referent.referent-index referents ≡ [] = drop_of_length-le referents (omega (arith, c.loop-referent-test.false)) in
    wrote_all (referents_of_route c.args.route.now.bytes (map mark_of referents)) (referents_of_route c.args.route.now.bytes (map mark_of (drop c.loop-referent.referent-index referents)))
    (g.W.Write.contents c.args.output.now) (g.W.Write.contents c.loop-referent.output) c.loop-referent.invariant
    (ap (λ (l : List Referent). referents_of_route c.args.route.now.bytes (map mark_of l)) none)

pub returns-in_err-put_referent : goal.returns-in_err-put_referent
returns-in_err-put_referent g c =
    let route = c.args.route.now.bytes in
    let referents = c.args.referents.now in
    let one = c.referent-item.result in
    let lines : List Referent → List CommandTree = λ (l : List Referent). referents_of_route route (map mark_of l) in
    passed_on c.from_residual.result c.in_err-put_referent.field-0.0 _ _ c.from_residual.ensures.1 (
      c.in_err-put_referent.ensures.0,
      stops_line c.in_err-put_referent.field-0.0 (lines referents) (lines (drop c.loop-referent.referent-index referents)) (lines (drop (c.loop-referent.referent-index + 1) referents))
          (define_referent route one.name.bytes (absolute one.measure))
          (g.W.Write.contents c.args.output.now) (g.W.Write.contents c.loop-referent.output) (g.W.Write.contents c.put_referent.new.output)
          (ap lines (next_left referents c.loop-referent.referent-index one c.loop-referent-test.true c.referent-item.is)) c.loop-referent.invariant c.in_err-put_referent.ensures.1,
    )
