use Rattle.std.proofs.Common.{◌≡◌, ◌++◌, ◌+◌, ◌<◌, [], drop, get_or, length, refl, rules, subst, sym, arith}
use Rattle.std.specs.List.{concat}
use Rattle.std.specs.Io.KnownBytes.{Appends}
use Rattle.std.proofs.KnownBytes.{Appends-nil, Appends-trans}
use Rattle.rs_protocol.specs.Puts.{PutsBut}
use Rattle.rs_csv.proofs.Holding.{flat_next, flat_stops, only_piece}
use Rattle.rs_csv.proofs.held.write_held.Goals as goal

pub loop-place-preserved : goal.loop-place-preserved
loop-place-preserved g c =
    let held = c.args.held.now in
    let i = c.loop-place.place in
    let less : i < length held = omega (arith, c.loop-place-test.true, c.len-place-end.ensures) in
    let none : c.clear.new.self.items ≡ [] = search rules in
    let text = only_piece c.as_slice.result.now c.unpack.new.text.items c.clear.new.self.items _ _ c.as_slice.ensures.value c.in-Ok.ensures none refl in
    subst (Appends (g.W.Write.contents c.args.output.now) (g.W.Write.contents c.put_parts.new.writer)) (sym (flat_next held i less))
    (Appends-trans _ (g.W.Write.contents c.loop-place.output) _ _ _ c.loop-place.invariant (subst (Appends (g.W.Write.contents c.loop-place.output) (g.W.Write.contents c.put_parts.new.writer)) text c.in_default-put_parts.ensures))

-- nothing of the lines is out that found no room
pub returns-in_default-clause-fault : goal.returns-in_default-clause-fault
returns-in_default-clause-fault g c =
    let held = c.args.held.now in
    let i = c.loop-place.place in
    let less : i < length held = omega (arith, c.loop-place-test.true, c.len-place-end.ensures) in
    let output = g.W.Write.contents c.loop-place.output in
    let lost = get_or held i [] in (
      lost ++ concat (drop (i + 1) held),
      flat_stops held i less lost _ output output c.loop-place.invariant (record { front = []; whole = refl; put = Appends-nil output }),
    )

pub returns-in-Err-clause-fault : goal.returns-in-Err-clause-fault
returns-in-Err-clause-fault g c =
    let held = c.args.held.now in
    let i = c.loop-place.place in
    let less : i < length held = omega (arith, c.loop-place-test.true, c.len-place-end.ensures) in
    let none : c.clear.new.self.items ≡ [] = search rules in
    let text = only_piece c.as_slice.result.now c.unpack.new.text.items c.clear.new.self.items _ _ c.as_slice.ensures.value c.in-Ok.ensures none refl in
    let fault = c.in-Err.ensures.1 in (
      fault.0 ++ concat (drop (i + 1) held),
      flat_stops held i less fault.0 _ (g.W.Write.contents c.loop-place.output) _ c.loop-place.invariant (subst (λ bytes. PutsBut bytes fault.0 (g.W.Write.contents c.loop-place.output) (g.W.Write.contents c.put_parts.new.writer)) text fault.2),
    )
