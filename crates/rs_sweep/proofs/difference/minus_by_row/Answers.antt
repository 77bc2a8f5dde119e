use Rattle.std.proofs.Common.{not, ◌&&◌, refl, [], ◌++◌, length, map, sym, ap, ◌∙◌, subst, arith}
use Rattle.rs_value.specs.declared.column.Kind.TheVariants.{Line}
use Rattle.rs_facts.specs.Fact.{contains}
use Rattle.rs_facts.specs.Insert.{within}
use Rattle.rs_facts.specs.Spans.{seen, places_of, AreKept}
use Rattle.rs_coalesce.specs.Lent.{seen_lent}
use Rattle.rs_sweep.specs.Parts.{IsCut, unchanged, changed_part}
use Rattle.rs_sweep.specs.Taken.{taken_of}
use Rattle.rs_sweep.specs.declared.taken.Rows.TheVariants.{Each}
use Rattle.rs_sweep.proofs.CutLaws.{cut-none, cut-next, cut-minus, keyed-each, cut-kept-placed, cut-kept-wide, whole-end, whole-next}
use Rattle.rs_sweep.proofs.difference.minus_by_row.Goals as goal
use Rattle.rs_sweep.proofs.difference.minus_by_row.Goals.{After-drop-taken-2}

pub parts_outside-requires : goal.parts_outside-requires
parts_outside-requires c = subst (λ zs. AreKept Line (map (taken_of Each) zs)) (sym c.as_slice.ensures.value) c.in_ok-taken.ensures.kept

pub loop-span-init : goal.loop-span-init
loop-span-init c = record {
  whole = c.into_iter-span-iterator.ensures.into_iter_gives.0;
  counted = let e = ap length c.into_iter-span-iterator.ensures.into_iter_gives.0 in let f = c.into_iter-span-iterator.ensures.into_iter_gives.1 in omega (arith, e, f);
  cut = subst (λ zs. IsCut unchanged Each (map (taken_of Each) c.in_ok-taken.taken.items) [] [] (map seen zs)) (sym c.in_ok-kept.ensures.items) (cut-none unchanged Each (map (taken_of Each) c.in_ok-taken.taken.items) []);
}

pub loop-span-preserved : goal.loop-span-preserved
loop-span-preserved c = record {
  whole = whole-next c.loop-span.yielded c.loop-span.span-iterator.rest.items c.next.new.self.rest.items c.args.left.items c.in-Some.span c.in-Some.ensures.steps.0 c.loop-span.invariant.whole;
  counted = let e = ap length c.in-Some.ensures.steps.0 in let f = c.in-Some.ensures.steps.1 in omega (arith, e, f, c.loop-span.invariant.counted);
  cut = cut-next seen unchanged Each (map (taken_of Each) c.in_ok-taken.taken.items) c.loop-span.yielded [] _ _ c.in-Some.span _ c.parts_outside.new.parts.items refl c.loop-span.invariant.cut
      (λ k. c.in_ok-parts_outside.ensures.free k ∙ ap (λ zs. within c.in-Some.span.lo c.in-Some.span.hi k && not (contains (places_of (map (taken_of Each) zs) k) c.in-Some.span.tuple)) c.as_slice.ensures.value)
      c.in_ok-parts_outside.ensures.inside
      (c.in_ok-cut.ensures ∙ ap (λ zs. map seen c.loop-span.kept.items ++ map (changed_part unchanged (seen c.in-Some.span)) zs) c.as_slice-in-loop-span.ensures.value);
}

all_cut : (c : After-drop-taken-2) → IsCut unchanged Each (map (taken_of Each) c.in_ok-taken.taken.items) (map seen c.args.left.items) [] (map seen c.loop-span.kept.items)
all_cut c = subst (λ zs. IsCut unchanged Each (map (taken_of Each) c.in_ok-taken.taken.items) (map seen zs) [] (map seen c.loop-span.kept.items)) (whole-end c.loop-span.yielded c.loop-span.span-iterator.rest.items c.args.left.items (c.loop-span.invariant.counted ∙ c.in-None.ensures.steps.0) c.loop-span.invariant.whole) c.loop-span.invariant.cut

pub returns : goal.returns
returns c = record {
  cut = record {
    means = cut-minus _ (map seen_lent c.args.right.now) (map seen c.args.left.items) (map seen c.loop-span.kept.items) (keyed-each _ (map seen_lent c.args.right.now) c.in_ok-taken.ensures.same) (all_cut c);
    placed = λ kind p. cut-kept-placed kind _ _ _ (all_cut c) p;
    wide = λ width p. cut-kept-wide width _ _ _ (all_cut c) p;
  };
}
