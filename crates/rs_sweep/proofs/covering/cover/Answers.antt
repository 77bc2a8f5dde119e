use Rattle.std.proofs.Common.{◌≡◌, ◌+◌, length, map, sym, ap, ◌∙◌, subst}
use Rattle.std.proofs.lemmas.List.Sorted.{IsPermutation-map}
use Rattle.rs_facts.specs.Spans.{seen, IsPlaced}
use Rattle.rs_coalesce.specs.Lent.{seen_lent}
use Rattle.rs_facts.proofs.KeptColumns.{nulls_are}
use Rattle.rs_facts.proofs.SpanLaws.{places_of-permutation}
use Rattle.rs_sweep.specs.Inner.{joined_with}
use Rattle.rs_sweep.specs.Parts.{IsCut}
use Rattle.rs_sweep.specs.Taken.{taken_of}
use Rattle.rs_sweep.specs.declared.laying.Side.TheVariants.{Left, Right}
use Rattle.rs_sweep.specs.declared.taken.Rows.TheVariants.{All}
use Rattle.rs_sweep.proofs.Arrangement.{every-moved}
use Rattle.rs_sweep.proofs.Choosing.{nulls-length}
use Rattle.rs_sweep.proofs.CutLaws.{cover-means, cover-placed, cover-wide}
use Rattle.rs_sweep.proofs.covering.cover.Goals as goal

left_cut : (c : goal.After-drop-by_left-2) → IsCut (joined_with Left c.in_ok-after.after) All (map (taken_of All) c.in_ok-by_right.by_right.items) (map seen_lent c.args.left.now) (map seen c.in_ok-found.found.items) (map seen c.pad.new.found.items)
left_cut c = subst (λ zs. IsCut (joined_with Left c.in_ok-after.after) All (map (taken_of All) zs) (map seen_lent c.args.left.now) (map seen c.in_ok-found.found.items) (map seen c.pad.new.found.items)) c.as_slice.ensures.value c.in_ok-pad.ensures

right_cut : (c : goal.After-drop-by_left-2) → IsCut (joined_with Right c.in_ok-before.before) All (map (taken_of All) c.in_ok-by_left.by_left.items) (map seen_lent c.args.right.now) (map seen c.pad.new.found.items) (map seen c.pad-2.new.found.items)
right_cut c = subst (λ zs. IsCut (joined_with Right c.in_ok-before.before) All (map (taken_of All) zs) (map seen_lent c.args.right.now) (map seen c.pad.new.found.items) (map seen c.pad-2.new.found.items)) c.as_slice-2.ensures.value c.in_ok-pad-2.ensures

pub returns-clause-means : goal.returns-clause-means
returns-clause-means c = λ k.
    ap (λ p. p k) (sym (places_of-permutation _ _ (IsPermutation-map seen _ _ c.sort_by_place.ensures.moved)))
    ∙ cover-means c.args.left_width c.args.right_width _ _ (map seen_lent c.args.left.now) (map seen_lent c.args.right.now) _ _ _ _ (map seen c.pad-2.new.found.items) c.in_ok-found.ensures.pieces (nulls_are c.args.left_width _ c.in_ok-before.ensures) (nulls_are c.args.right_width _ c.in_ok-after.ensures) c.in_ok-by_left.ensures.same c.in_ok-by_right.ensures.same (left_cut c) (right_cut c) k

pub returns-clause-placed : goal.returns-clause-placed
returns-clause-placed c = λ kind p q. every-moved (IsPlaced kind) _ _ c.sort_by_place.ensures.moved (cover-placed kind _ _ _ _ _ _ _ _ _ c.in_ok-found.ensures.pieces (left_cut c) (right_cut c) p q)

pub returns-clause-width : goal.returns-clause-width
returns-clause-width c = every-moved (λ s. length s.row ≡ c.args.left_width + c.args.right_width) _ _ c.sort_by_place.ensures.moved
    (cover-wide c.args.left_width c.args.right_width _ _ _ _ _ _ _ _ _ c.in_ok-found.ensures.pieces (ap length (nulls_are c.args.left_width _ c.in_ok-before.ensures) ∙ nulls-length c.args.left_width) (ap length (nulls_are c.args.right_width _ c.in_ok-after.ensures) ∙ nulls-length c.args.right_width) (left_cut c) (right_cut c) c.requires.left_wide c.requires.right_wide)
