use Rattle.std.proofs.Common.{◌≡◌, ◌<◌, ◌-◌, true, false, inl, inr, length, get_or, sym, ap, ◌∙◌, subst, rules, arith}
use Rattle.std.proofs.lemmas.Bool.{cases_eq}
use Rattle.std.proofs.lemmas.List.{get_or_default}
use Rattle.std.proofs.lemmas.List.Elements.{Contains-get_or}
use Rattle.rs_facts.specs.Spans.{seen}
use Rattle.rs_coalesce.specs.Joined.{joins}
use Rattle.rs_coalesce.proofs.JoinLoop.{joins-at}
use Rattle.rs_coalesce.proofs.turn.open_run.Goals as goal

pub loop-place-init : goal.loop-place-init
loop-place-init c = record {
  within = omega arith;
  none = λ k e d from inside. absurd (omega (arith, from, inside));
}

pub bounds-opened-place : goal.bounds-opened-place
bounds-opened-place c = omega (arith, c.loop-place.invariant.within, c.loop-place-test.true)

pub bounds-spans-at : goal.bounds-spans-at
bounds-spans-at c = c.requires.within (get_or c.args.opened.now (c.loop-place.place - 1) 0) (Contains-get_or c.args.opened.now (c.loop-place.place - 1) 0 (omega (arith, c.loop-place.invariant.within, c.loop-place-test.true)))

pub offset_bounds-spans-at : goal.offset_bounds-spans-at
offset_bounds-spans-at c = let within : get_or c.args.opened.now (c.loop-place.place - 1) 0 < length c.args.spans.now = c.requires.within _ (Contains-get_or c.args.opened.now (c.loop-place.place - 1) 0 (omega (arith, c.loop-place.invariant.within, c.loop-place-test.true))) in search rules

pub returns-then-is_joined-clause-found : goal.returns-then-is_joined-clause-found
returns-then-is_joined-clause-found c =
    let within : c.loop-place.place - 1 < length c.args.opened.now = omega (arith, c.loop-place.invariant.within, c.loop-place-test.true) in
    let among = Contains-get_or c.args.opened.now (c.loop-place.place - 1) 0 within in
    (among, joins-at c.args.kind c.args.spans.now (get_or c.args.opened.now (c.loop-place.place - 1) 0) c.args.next c.index-spans-at.result c.index-spans-next.result c.is_joined.result true (c.requires.within _ among) c.requires.inside c.index-spans-at.is c.index-spans-next.is c.is_joined.ensures c.if-is_joined.true)

pub loop-place-preserved : goal.loop-place-preserved
loop-place-preserved c =
    let within : c.loop-place.place - 1 < length c.args.opened.now = omega (arith, c.loop-place.invariant.within, c.loop-place-test.true) in
    let among = Contains-get_or c.args.opened.now (c.loop-place.place - 1) 0 within in
    let other = joins-at c.args.kind c.args.spans.now (get_or c.args.opened.now (c.loop-place.place - 1) 0) c.args.next c.index-spans-at.result c.index-spans-next.result c.is_joined.result false (c.requires.within _ among) c.requires.inside c.index-spans-at.is c.index-spans-next.is c.is_joined.ensures c.if-is_joined.false in
    record {
      within = omega (arith, within);
      none = λ k e d from inside. elim (cases_eq k (c.loop-place.place - 1)) [
        | inl same ↦ subst (λ n. joins c.args.kind (seen (get_or c.args.spans.now n d)) (seen (get_or c.args.spans.now c.args.next d)) ≡ false) (sym (ap (λ n. get_or c.args.opened.now n e) same ∙ get_or_default c.args.opened.now (c.loop-place.place - 1) e 0 within)) (other d)
        | inr later ↦ c.loop-place.invariant.none k e d (omega (arith, from, later)) inside
      ];
    }
