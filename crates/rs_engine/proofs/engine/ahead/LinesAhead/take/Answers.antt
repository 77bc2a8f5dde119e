-- It is at the place that was found.
use Rattle.std.proofs.Common.{◌<◌, List, inl, inr, length, refl, slice_index_or, subst, sym}
use Rattle.rs_engine.specs.Ahead.{IsOf}
use Rattle.rs_engine.specs.declared.engine.ahead.Ahead.{Ahead}
use Rattle.rs_engine.proofs.engine.ahead.LinesAhead.take.Goals as goal

pub returns-in-Some-clause-kept : goal.returns-in-Some-clause-kept
returns-in-Some-clause-kept c =
    let one = c.remove-one.result in
    let place = c.in-Some.place in
    let name = c.args.name.now.bytes in
    record {
      ahead = one;
      is = inl (place, subst (λ (slots : List Ahead). place < length slots) c.deref.ensures.value c.in-Some.ensures.within, sym c.remove-one.ensures.value);
      of = subst (λ (a : Ahead). IsOf c.args.session name a) (sym c.remove-one.ensures.value)
          (subst (λ (slots : List Ahead). IsOf c.args.session name (slice_index_or slots place one)) c.deref.ensures.value (c.in-Some.ensures.there one));
      is_kept = refl;
    }

pub returns-clause-kept : goal.returns-clause-kept
returns-clause-kept c =
    let one = c.remove-one-2.result in
    let place = c.in_ok-place.place in
    let name = c.args.name.now.bytes in
    record {
      ahead = one;
      is = inr (place, subst (λ (marks : List Ahead). place < length marks) c.deref-2.ensures.value c.in_ok-place.ensures.within, sym c.remove-one-2.ensures.value);
      of = subst (λ (a : Ahead). IsOf c.args.session name a) (sym c.remove-one-2.ensures.value)
          (subst (λ (marks : List Ahead). IsOf c.args.session name (slice_index_or marks place one)) c.deref-2.ensures.value (c.in_ok-place.ensures.there one));
      is_kept = refl;
    }
