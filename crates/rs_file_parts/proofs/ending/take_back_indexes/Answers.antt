-- Each index in turn.
use Rattle.std.proofs.Common.{◌≡◌, ◌+◌, suc, refl, get_or, set, subst, arith}
use Rattle.std.proofs.lemmas.Option.{slice_get-get_or}
use Rattle.rs_file_parts.specs.Inner.{IsIndexTakenBack}
use Rattle.rs_file_parts.proofs.Lists.{Partly, partly_all, partly_long, partly_next}
use Rattle.rs_file_parts.proofs.ending.take_back_indexes.Goals as goal

pub loop-place-init : goal.loop-place-init
loop-place-init c = refl

pub loop-place-preserved : goal.loop-place-preserved
loop-place-preserved c =
    let all = c.loop-place.indexes in
    let place = c.loop-place.place in
    let other = c.index-indexes-place.result in
    let next : suc place ≡ place + 1 = omega arith in
    subst (λ n. Partly IsIndexTakenBack n c.args.indexes.now (set all place c.abandon.new.self)) next
    (partly_next IsIndexTakenBack place c.args.indexes.now all (get_or all place other) c.abandon.new.self c.loop-place.invariant (slice_get-get_or all place other (omega arith))
    (record { field = c.abandon.ensures.field; working = c.abandon.ensures.working; committed = c.abandon.ensures.committed }))

pub returns : goal.returns
returns c =
    partly_all IsIndexTakenBack c.loop-place.place c.args.indexes.now c.loop-place.indexes c.loop-place.invariant
    (omega (arith, partly_long IsIndexTakenBack c.loop-place.place c.args.indexes.now c.loop-place.indexes c.loop-place.invariant))
