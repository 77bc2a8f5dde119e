use Rattle.std.proofs.Common.{◌≡◌, ◌++◌, length, is_ok, if◌then◌else◌, IsPermutation, ap, ◌∙◌, subst}
use Rattle.rs_facts.specs.Spans.{IsPlaced}
use Rattle.rs_sweep.proofs.Edits.{merged-means, merged-all}
use Rattle.rs_sweep.proofs.union.merge.Goals as goal

moved : (c : goal.After-drop-right-2) → IsPermutation (c.args.left.items ++ c.args.right.items) c.sort_by_place.new.spans.items
moved c = subst (λ xs. IsPermutation xs c.sort_by_place.new.spans.items) (c.append.ensures.items ∙ ap (λ r. if is_ok r then c.args.left.items ++ c.args.right.items else c.args.left.items) c.in_ok-append.was) c.sort_by_place.ensures.moved

pub returns-clause-means : goal.returns-clause-means
returns-clause-means c = λ k. merged-means c.args.left.items c.args.right.items c.sort_by_place.new.spans.items k (moved c)

pub returns-clause-placed : goal.returns-clause-placed
returns-clause-placed c = λ kind a b. merged-all (IsPlaced kind) c.args.left.items c.args.right.items c.sort_by_place.new.spans.items (moved c) a b

pub returns-clause-width : goal.returns-clause-width
returns-clause-width c = λ width a b. merged-all (λ s. length s.row ≡ width) c.args.left.items c.args.right.items c.sort_by_place.new.spans.items (moved c) a b
