use Rattle.std.proofs.Common.{◌≡◌, [], ◌∷◌, length, map, sym, ap, ◌∙◌, subst}
use Rattle.std.proofs.lemmas.List.Sorted.{IsPermutation-map}
use Rattle.rs_value.specs.declared.column.Kind.TheVariants.{Line}
use Rattle.rs_facts.specs.Runs.{stretch}
use Rattle.rs_facts.specs.Spans.{seen, IsPlaced}
use Rattle.rs_coalesce.specs.Lent.{seen_lent}
use Rattle.rs_facts.proofs.SpanLaws.{places_of-permutation}
use Rattle.rs_sweep.specs.Inner.{joined_with}
use Rattle.rs_sweep.specs.Parts.{IsCut}
use Rattle.rs_sweep.specs.Taken.{taken_of}
use Rattle.rs_sweep.specs.declared.laying.Side.TheVariants.{Left}
use Rattle.rs_sweep.specs.declared.taken.Rows.TheVariants.{All}
use Rattle.rs_sweep.proofs.Arrangement.{every-moved}
use Rattle.rs_sweep.proofs.CutLaws.{IsGapCut, gaps-means, gaps-placed, gaps-wide}
use Rattle.rs_sweep.proofs.complement.gaps.Goals as goal

cut : (c : goal.After-drop-taken-2) → IsGapCut c.args.start c.args.finish c.in_ok-tuple.tuple (map (taken_of All) c.in_ok-taken.taken.items) (map seen c.pad.new.found.items)
cut c =
    subst (λ zs. IsGapCut c.args.start c.args.finish c.in_ok-tuple.tuple (map (taken_of All) zs) (map seen c.pad.new.found.items)) c.as_slice.ensures.value
    (subst (λ zs. IsCut (joined_with Left c.in_ok-tuple.tuple) All (map (taken_of All) c.as_slice.result.now) (stretch c.args.start c.args.finish c.in_ok-tuple.tuple ∷ []) (map seen zs) (map seen c.pad.new.found.items)) c.new-found.ensures.items c.in_ok-pad.ensures)

pub returns-clause-means : goal.returns-clause-means
returns-clause-means c = λ k.
    ap (λ p. p k) (sym (places_of-permutation _ _ (IsPermutation-map seen _ _ c.sort_by_place.ensures.moved)))
    ∙ gaps-means c.args.start c.args.finish c.in_ok-tuple.tuple _ (map seen_lent c.args.spans.now) (map seen c.pad.new.found.items) c.in_ok-tuple.ensures c.in_ok-taken.ensures.same (cut c) k

pub returns-clause-placed : goal.returns-clause-placed
returns-clause-placed c = every-moved (IsPlaced Line) _ _ c.sort_by_place.ensures.moved (gaps-placed c.args.start c.args.finish c.in_ok-tuple.tuple _ (map seen c.pad.new.found.items) c.requires.some (cut c))

pub returns-clause-width : goal.returns-clause-width
returns-clause-width c = every-moved (λ s. length s.row ≡ 0) _ _ c.sort_by_place.ensures.moved (gaps-wide c.args.start c.args.finish c.in_ok-tuple.tuple _ (map seen c.pad.new.found.items) c.in_ok-tuple.ensures (cut c))
