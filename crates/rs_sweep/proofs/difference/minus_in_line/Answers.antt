use Rattle.std.proofs.Common.{not, ◌&&◌, refl, [], ◌++◌, length, map, sym, ap, ◌∙◌, subst, arith}
use Rattle.rs_value.specs.declared.column.Kind.TheVariants.{Line}
use Rattle.rs_coalesce.specs.Lent.{seen_lent}
use Rattle.rs_facts.specs.Fact.{contains}
use Rattle.rs_facts.specs.Insert.{within}
use Rattle.rs_facts.specs.Spans.{seen, places_of, ArePlaced}
use Rattle.rs_sweep.specs.Lists.{AreInLine}
use Rattle.rs_sweep.specs.Parts.{IsCut, unchanged, changed_part}
use Rattle.rs_sweep.specs.declared.taken.Rows.TheVariants.{Each}
use Rattle.rs_sweep.proofs.CutLaws.{cut-none, cut-next, cut-minus, cut-kept-placed, cut-kept-wide, whole-end, whole-next}
use Rattle.rs_sweep.proofs.PartLaws.{ended-free, line-behind, placed-behind, rest-is}
use Rattle.rs_sweep.proofs.difference.minus_in_line.Goals as goal
use Rattle.rs_sweep.proofs.difference.minus_in_line.Goals.{After-drop-parts-2}

pub loop-span-init : goal.loop-span-init
loop-span-init c = record {
  whole = c.into_iter-span-iterator.ensures.into_iter_gives.0;
  counted = let e = ap length c.into_iter-span-iterator.ensures.into_iter_gives.0 in let f = c.into_iter-span-iterator.ensures.into_iter_gives.1 in omega (arith, e, f);
  within = omega arith;
  ended = tt;
  cut = subst (λ zs. IsCut unchanged Each (map seen_lent c.args.right.now) [] [] (map seen zs)) (sym c.in_ok-kept.ensures.items) (cut-none unchanged Each (map seen_lent c.args.right.now) []);
}

pub parts_along-requires-clause-placed : goal.parts_along-requires-clause-placed
parts_along-requires-clause-placed c = subst (ArePlaced Line) (sym (rest-is c.next_first-first.result c.args.right.now)) (placed-behind c.next_first-first.result (map seen_lent c.args.right.now) c.requires.right_placed)

pub parts_along-requires-clause-in_line : goal.parts_along-requires-clause-in_line
parts_along-requires-clause-in_line c = subst AreInLine (sym (rest-is c.next_first-first.result c.args.right.now)) (line-behind c.next_first-first.result (map seen_lent c.args.right.now) c.requires.right_in_line)

pub loop-span-preserved : goal.loop-span-preserved
loop-span-preserved c = record {
  whole = whole-next c.loop-span.yielded c.loop-span.span-iterator.rest.items c.next.new.self.rest.items c.args.left.items c.in-Some.span c.in-Some.ensures.steps.0 c.loop-span.invariant.whole;
  counted = let e = ap length c.in-Some.ensures.steps.0 in let f = c.in-Some.ensures.steps.1 in omega (arith, e, f, c.loop-span.invariant.counted);
  within = c.next_first-first.ensures.within;
  ended = c.next_first-first.ensures.ended;
  cut = cut-next seen unchanged Each (map seen_lent c.args.right.now) c.loop-span.yielded [] _ _ c.in-Some.span _ c.parts_along.new.parts.items refl c.loop-span.invariant.cut
      (λ k. c.in_ok-parts_along.ensures.free k
      ∙ ap (λ zs. within c.in-Some.span.lo c.in-Some.span.hi k && not (contains (places_of zs k) c.in-Some.span.tuple)) (rest-is c.next_first-first.result c.args.right.now)
      ∙ ended-free (seen c.in-Some.span) (map seen_lent c.args.right.now) c.next_first-first.result k c.next_first-first.ensures.ended)
      c.in_ok-parts_along.ensures.inside
      (c.in_ok-cut.ensures ∙ ap (λ zs. map seen c.loop-span.kept.items ++ map (changed_part unchanged (seen c.in-Some.span)) zs) c.as_slice.ensures.value);
}

all_cut : (c : After-drop-parts-2) → IsCut unchanged Each (map seen_lent c.args.right.now) (map seen c.args.left.items) [] (map seen c.loop-span.kept.items)
all_cut c = subst (λ zs. IsCut unchanged Each (map seen_lent c.args.right.now) (map seen zs) [] (map seen c.loop-span.kept.items)) (whole-end c.loop-span.yielded c.loop-span.span-iterator.rest.items c.args.left.items (c.loop-span.invariant.counted ∙ c.in-None.ensures.steps.0) c.loop-span.invariant.whole) c.loop-span.invariant.cut

pub returns : goal.returns
returns c = record {
  cut = record {
    means = cut-minus (map seen_lent c.args.right.now) (map seen_lent c.args.right.now) (map seen c.args.left.items) (map seen c.loop-span.kept.items) refl (all_cut c);
    placed = λ kind p. cut-kept-placed kind _ _ _ (all_cut c) p;
    wide = λ width p. cut-kept-wide width _ _ _ (all_cut c) p;
  };
}
