use Rattle.std.proofs.Common.{◌≡◌, ℕ, ◌+◌, ◌++◌, ◌∷◌, [], ◌<◌, true, length, take, rules, Contains, refl, sym, ◌∙◌, subst, arith}
use Rattle.std.proofs.lemmas.Bool.{false≢true}
use Rattle.std.proofs.lemmas.List.Elements.{Contains-append_left}
use Rattle.rs_coalesce.proofs.JoinLoop.{grown-is}
use Rattle.rs_coalesce.proofs.OpenRuns.{StayOpen, Ended, turn-start, turn-join, turn-push, turn-end, turn-inside, turn-as}
use Rattle.rs_coalesce.proofs.turn.join_each.Goals as goal
use Rattle.rs_coalesce.proofs.turn.join_each.Goals.{in-Some, in-None, then-are_all, else-are_all, then-are_all-2, else-are_all-2}

pub loop-next-init : goal.loop-next-init
loop-next-init c = turn-start c.args.kind c.args.spans.now c.new-opened.result.items c.new-opened.ensures c.requires.placed c.requires.turn

pub open_run-requires-clause-within : goal.open_run-requires-clause-within
open_run-requires-clause-within c = λ i among. turn-inside c.args.kind c.args.spans.now c.loop-next.spans c.loop-next.made c.loop-next.next i c.loop-next.opened.items c.as_slice.result.now c.loop-next.are_all c.loop-next.invariant (omega (arith, c.loop-next-test.true, c.loop-next.auto.spans)) c.as_slice.ensures.value among

pub offset_bounds-spans-at : goal.offset_bounds-spans-at
offset_bounds-spans-at c = let within : c.in-Some.at < length c.loop-next.spans = turn-inside c.args.kind c.args.spans.now c.loop-next.spans c.loop-next.made c.loop-next.next c.in-Some.at c.loop-next.opened.items c.as_slice.result.now c.loop-next.are_all c.loop-next.invariant (omega (arith, c.loop-next-test.true, c.loop-next.auto.spans)) c.as_slice.ensures.value c.in-Some.ensures.found.0 in search rules

pub offset_bounds-spans-at-in-Some : goal.offset_bounds-spans-at-in-Some
offset_bounds-spans-at-in-Some c = let within : c.in-Some.at < length c.loop-next.spans = turn-inside c.args.kind c.args.spans.now c.loop-next.spans c.loop-next.made c.loop-next.next c.in-Some.at c.loop-next.opened.items c.as_slice.result.now c.loop-next.are_all c.loop-next.invariant (omega (arith, c.loop-next-test.true, c.loop-next.auto.spans)) c.as_slice.ensures.value c.in-Some.ensures.found.0 in search rules

pub bounds-spans-at : goal.bounds-spans-at
bounds-spans-at c = turn-inside c.args.kind c.args.spans.now c.loop-next.spans c.loop-next.made c.loop-next.next c.in-Some.at c.loop-next.opened.items c.as_slice.result.now c.loop-next.are_all c.loop-next.invariant (omega (arith, c.loop-next-test.true, c.loop-next.auto.spans)) c.as_slice.ensures.value c.in-Some.ensures.found.0

pub bounds-spans-at-in-Some : goal.bounds-spans-at-in-Some
bounds-spans-at-in-Some c = turn-inside c.args.kind c.args.spans.now c.loop-next.spans c.loop-next.made c.loop-next.next c.in-Some.at c.loop-next.opened.items c.as_slice.result.now c.loop-next.are_all c.loop-next.invariant (omega (arith, c.loop-next-test.true, c.loop-next.auto.spans)) c.as_slice.ensures.value c.in-Some.ensures.found.0

pub bounds-spans-at-in-Some-2 : goal.bounds-spans-at-in-Some-2
bounds-spans-at-in-Some-2 c = turn-inside c.args.kind c.args.spans.now c.loop-next.spans c.loop-next.made c.loop-next.next c.in-Some.at c.loop-next.opened.items c.as_slice.result.now c.loop-next.are_all c.loop-next.invariant (omega (arith, c.loop-next-test.true, c.loop-next.auto.spans)) c.as_slice.ensures.value c.in-Some.ensures.found.0

pub bounds-spans-at-in-Some-3 : goal.bounds-spans-at-in-Some-3
bounds-spans-at-in-Some-3 c = turn-inside c.args.kind c.args.spans.now c.loop-next.spans c.loop-next.made c.loop-next.next c.in-Some.at c.loop-next.opened.items c.as_slice.result.now c.loop-next.are_all c.loop-next.invariant (omega (arith, c.loop-next-test.true, c.loop-next.auto.spans)) c.as_slice.ensures.value c.in-Some.ensures.found.0

pub make_room-are_all-requires-clause-within : goal.make_room-are_all-requires-clause-within
make_room-are_all-requires-clause-within c = λ i among. turn-inside c.args.kind c.args.spans.now c.loop-next.spans c.loop-next.made c.loop-next.next i c.loop-next.opened.items c.loop-next.opened.items c.loop-next.are_all c.loop-next.invariant (omega (arith, c.loop-next-test.true, c.loop-next.auto.spans)) refl among

pub loop-next-preserved : goal.loop-next-preserved
loop-next-preserved c =
    let inside : c.loop-next.next < length c.loop-next.spans = omega (arith, c.loop-next-test.true, c.loop-next.auto.spans) in
    let t = c.loop-next.invariant in
    elim c.match-open_run.branch [
      | in-Some w ↦
          let among = subst (λ l. Contains l w.in-Some.at) c.as_slice.ensures.value w.in-Some.ensures.found.0 in
          let here = turn-inside c.args.kind c.args.spans.now c.loop-next.spans c.loop-next.made c.loop-next.next w.in-Some.at c.loop-next.opened.items c.as_slice.result.now c.loop-next.are_all t inside c.as_slice.ensures.value w.in-Some.ensures.found.0 in
          turn-as c.args.kind c.args.spans.now c.match-open_run.spans c.match-open_run.spans c.match-open_run.made c.loop-next.made (c.loop-next.next + 1) c.match-open_run.opened.items c.loop-next.opened.items c.match-open_run.are_all c.loop-next.are_all refl w.made-is (λ i. (w.opened-is i).items) w.are_all-is
          (turn-join c.args.kind c.args.spans.now c.loop-next.spans c.match-open_run.spans c.loop-next.made c.loop-next.next w.in-Some.at _ c.loop-next.opened.items c.loop-next.are_all t inside among w.in-Some.ensures.found.1
          (grown-is c.loop-next.spans w.in-Some.at c.loop-next.next w.index-spans-at.result w.index-spans-next.result w.index-spans-at-in-Some.result w.max-hi.result here inside w.max-hi.ensures)
          w.spans-is)
      | in-None w ↦
          let stays : StayOpen c.args.kind c.loop-next.spans c.loop-next.next c.loop-next.opened.items w.if-are_all.opened.items w.if-are_all.are_all = elim w.if-are_all.branch [
            | then-are_all v ↦
                subst (λ l. StayOpen c.args.kind c.loop-next.spans c.loop-next.next c.loop-next.opened.items l w.if-are_all.are_all) (sym (λ i. (v.opened-is i).items))
                (subst (λ b. StayOpen c.args.kind c.loop-next.spans c.loop-next.next c.loop-next.opened.items v.make_room-are_all.new.opened.items b) (sym v.are_all-is)
                (record { kept = v.make_room-are_all.ensures.kept; closed = v.make_room-are_all.ensures.closed }))
            | else-are_all v ↦ record {
              kept = λ i among. subst (λ l. Contains l i) (λ i. (v.opened-is i).items) among;
              closed = λ all. absurd (false≢true (sym v.if-are_all.false ∙ sym v.are_all-is ∙ all));
            }
          ] in
          let pushed : ((i : ℕ) → Contains w.if-are_all-2.opened.items i → Contains (w.if-are_all.opened.items ++ c.loop-next.made ∷ []) i)
          × (w.if-are_all.are_all ≡ true → w.if-are_all-2.opened.items ≡ w.if-are_all.opened.items ++ c.loop-next.made ∷ []) = elim w.if-are_all-2.branch [
            | then-are_all-2 v ↦ (λ i among. subst (λ l. Contains l i) ((λ i. (v.opened-is i).items) ∙ v.push.ensures.items) among, λ all. (λ i. (v.opened-is i).items) ∙ v.push.ensures.items)
            | else-are_all-2 v ↦ (
              λ i among. Contains-append_left w.if-are_all.opened.items (c.loop-next.made ∷ []) i (subst (λ l. Contains l i) (λ i. (v.opened-is i).items) among),
              λ all. absurd (false≢true (sym v.if-are_all-2.false ∙ all)),
            )
          ] in
          turn-as c.args.kind c.args.spans.now c.match-open_run.spans w.swap.new.self c.match-open_run.made (c.loop-next.made + 1) (c.loop-next.next + 1) c.match-open_run.opened.items w.if-are_all-2.opened.items c.match-open_run.are_all w.if-are_all.are_all w.spans-is w.made-is (λ i. (w.opened-is i).items) w.are_all-is
          (turn-push c.args.kind c.args.spans.now c.loop-next.spans w.swap.new.self c.loop-next.made c.loop-next.next c.loop-next.opened.items w.if-are_all.opened.items w.if-are_all-2.opened.items c.loop-next.are_all w.if-are_all.are_all w.if-are_all.are_all t inside
          (λ i d among. w.in-None.ensures.none i d (subst (λ l. Contains l i) (sym c.as_slice.ensures.value) among))
          stays
          (elim w.if-are_all.branch [
            | then-are_all v ↦ λ both. (v.if-are_all.true, both)
            | else-are_all v ↦ λ both. absurd (false≢true (sym v.if-are_all.false ∙ sym v.are_all-is ∙ both))
          ])
          pushed.0 pushed.1 w.swap.ensures.permutation w.swap.ensures.len w.swap.ensures.by_index)
    ]

ended : (c : goal.After-loop-next) → Ended c.args.kind c.args.spans.now (take c.loop-next.made c.loop-next.spans) c.loop-next.are_all
ended c =
    let below = c.loop-next.invariant.below in
    turn-end c.args.kind c.args.spans.now c.loop-next.spans c.loop-next.made c.loop-next.next c.loop-next.opened.items c.loop-next.are_all c.loop-next.invariant (omega (arith, below, c.loop-next.auto.next-end, c.loop-next.auto.spans)) (omega (arith, c.loop-next-test.false, c.loop-next.auto.spans))

pub returns-clause-placed : goal.returns-clause-placed
returns-clause-placed c = (ended c).placed

pub returns-clause-same : goal.returns-clause-same
returns-clause-same c = (ended c).same

pub returns-clause-joined : goal.returns-clause-joined
returns-clause-joined c = (ended c).joined
