-- Nodes over operands.
use Rattle.std.proofs.Common.{◌≡◌, ℕ, List, [], ◌∷◌, ◌++◌, map, flat_map, Vec, Global, refl, sym, ap, ◌∙◌, subst, arith}
use Rattle.std.specs.Prelude.{Box}
use Rattle.std.proofs.lemmas.List.Sums.{sum_by-cons}
use Rattle.arrayvec.specs.ArrayString.{ArrayString}
use Rattle.rs_facts.specs.Condition as said
use Rattle.rs_planning.specs.Basis.{Basis}
use Rattle.rs_planning.specs.Numbered.{Numbered}
use Rattle.rs_planning.specs.Plan as plans
use Rattle.rs_planning.specs.Rule.{weight, together, under_where, overlay_under_where}
use Rattle.rs_checker.specs.CheckedView as checked
use Rattle.rs_checker.specs.declared.checked.LocatedPiece.{LocatedPiece}
use Rattle.rs_plan.specs.declared.nodes.OfRows.{OfRows}
use Rattle.rs_plan.specs.declared.operand.Operand.{Operand}
use Rattle.rs_plan.specs.declared.plan.PlannedPiece.{PlannedPiece}
use Rattle.rs_plan.specs.declared.plan.Plan.{Plan}
use Rattle.rs_plan.specs.declared.plan.Plan.TheVariants as variants
use Rattle.rs_plan.specs.Operands.{operand_tree, operand_names, rows_node, AreAmong, IsWeighed, IsTogether, IsOver, IsAlone, IsOverlaid}
use Rattle.rs_plan.specs.PlanView.{plan_tree, named_in, piece_of, named_by_piece}
use Rattle.rs_plan.proofs.PlanLaws.{dissolve-tree, dissolve-names, cover-tree, cover-names, transform-tree, transform-names, gaps-tree, gaps-names}
use Rattle.rs_plan.proofs.Walks.{append-end}

pub alone-over : (operands : List Operand) (one : Operand) (tree : plans.Plan) (weight width : ℕ) (named : List Numbered) → operands ≡ one ∷ [] → IsOver one tree weight width named → IsAlone operands tree weight width named
alone-over operands one tree weight width named is over = record { one = one; is = is; over = over }

-- what stands above has the same weight, width and names
pub over-above : (above below : Operand) (tree : plans.Plan) (more : plans.Plan → plans.Plan) (weight width : ℕ) (front named : List Numbered) → IsOver below tree weight width named
    → IsOver above (more (operand_tree below)) below.weight below.width (front ++ operand_names below) → IsOver above (more tree) weight width (front ++ named)
over-above above below tree more weight width front named under over = record {
  tree_is = over.tree_is ∙ ap more under.tree_is;
  weight_is = over.weight_is ∙ under.weight_is;
  width_is = over.width_is ∙ under.width_is;
  names = over.names ∙ ap (λ l. front ++ l) under.names;
}

module _ (plan : Plan) (below : Box Plan Global) (same : below.value ≡ plan) (heavy width w n : ℕ) (weight_is : heavy ≡ w) (width_is : width ≡ n) where
  pub dissolve-over : (columns : Vec ℕ Global) → IsOver (record { plan = variants.Dissolve columns below; weight = heavy; width = width }) (plans.dissolve_node columns.items (plan_tree plan)) w n (named_in plan)
  dissolve-over columns = record {
    tree_is = dissolve-tree columns below ∙ ap (λ p. plans.dissolve_node columns.items (plan_tree p)) same;
    weight_is = weight_is;
    width_is = width_is;
    names = dissolve-names columns below ∙ ap named_in same;
  }

  pub transform-over : (name : ArrayString) (made : Vec PlannedPiece Global) (pieces : List LocatedPiece) → map piece_of made.items ≡ checked.located_pieces pieces → flat_map named_by_piece made.items ≡ flat_map checked.named_by_piece pieces
      → IsOver (record { plan = variants.Transform name made below; weight = heavy; width = width }) (plans.transform_node name.bytes (checked.located_pieces pieces) (plan_tree plan)) w n (flat_map checked.named_by_piece pieces ++ named_in plan)
  transform-over name made pieces means names = record {
    tree_is = transform-tree name made below ∙ (λ i. plans.transform_node name.bytes (means i) (plan_tree (same i)));
    weight_is = weight_is;
    width_is = width_is;
    names = transform-names name made below ∙ (λ i. names i ++ named_in (same i));
  }

  pub gaps-over : IsOver (record { plan = variants.Gaps below; weight = heavy; width = width }) (plans.gaps_node (plan_tree plan)) w n (named_in plan)
  gaps-over = record {
    tree_is = gaps-tree below ∙ ap (λ p. plans.gaps_node (plan_tree p)) same;
    weight_is = weight_is;
    width_is = width_is;
    names = gaps-names below ∙ ap named_in same;
  }

module _ (left right : Plan) (first second : Box Plan Global) (is_left : first.value ≡ left) (is_right : second.value ≡ right) (heavy width w n : ℕ) (weight_is : heavy ≡ w) (width_is : width ≡ n) where
  pub rows-over : (operator : OfRows) (plan : Plan) → plan_tree plan ≡ rows_node operator (plan_tree first.value) (plan_tree second.value) → named_in plan ≡ named_in first.value ++ named_in second.value
      → IsOver (record { plan = plan; weight = heavy; width = width }) (rows_node operator (plan_tree left) (plan_tree right)) w n (named_in left ++ named_in right)
  rows-over operator plan tree names = record {
    tree_is = tree ∙ (λ i. rows_node operator (plan_tree (is_left i)) (plan_tree (is_right i)));
    weight_is = weight_is;
    width_is = width_is;
    names = names ∙ (λ i. named_in (is_left i) ++ named_in (is_right i));
  }

  pub cover-over : (a b : ℕ) → IsOver (record { plan = variants.Cover a b first second; weight = heavy; width = width }) (plans.cover_node a b (plan_tree left) (plan_tree right)) w n (named_in left ++ named_in right)
  cover-over a b = record {
    tree_is = cover-tree a b first second ∙ (λ i. plans.cover_node a b (plan_tree (is_left i)) (plan_tree (is_right i)));
    weight_is = weight_is;
    width_is = width_is;
    names = cover-names a b first second ∙ (λ i. named_in (is_left i) ++ named_in (is_right i));
  }

-- ---- operands under a WHERE

pub none-overlaid : (conditions : List said.Condition) (operands : List Operand) → conditions ≡ [] → IsOverlaid conditions operands operands
none-overlaid conditions operands none = subst (λ l. IsOverlaid l operands operands) (sym none) (record {
  trees = λ basis weighed light narrow. refl;
  weighed = λ basis weighed light narrow. weighed;
  light = omega arith;
  names = λ whole among. among;
})

weighed-above : (basis : Basis) (conditions : List said.Condition) (one above : Operand) → IsOver above (under_where conditions (operand_tree one)) one.weight one.width (operand_names one) → IsWeighed basis one → IsWeighed basis above
weighed-above basis [] one above over weighed = (over.weight_is ∙ weighed.0 ∙ ap (weight basis.record_count) (sym over.tree_is), over.width_is ∙ weighed.1 ∙ ap (plans.plan_width basis.world) (sym over.tree_is))
weighed-above basis (condition ∷ conditions) one above over weighed = (over.weight_is ∙ weighed.0 ∙ ap (weight basis.record_count) (sym over.tree_is), over.width_is ∙ weighed.1 ∙ ap (plans.plan_width basis.world) (sym over.tree_is))

pub some-overlaid : (conditions : List said.Condition) (operands made : List Operand) (one above : Operand) → (conditions ≡ [] → ⊥) → IsTogether operands one
    → IsOver above (under_where conditions (operand_tree one)) one.weight one.width (operand_names one) → made ≡ above ∷ [] → IsOverlaid conditions operands made
some-overlaid conditions operands made one above some is over alone = subst (IsOverlaid conditions operands) (sym alone) (record {
  trees = λ basis weighed light narrow. ap (λ t. t ∷ []) (over.tree_is ∙ ap (under_where conditions) (is.tree basis weighed light narrow)) ∙ by basis conditions some;
  weighed = λ basis weighed light narrow. (weighed-above basis conditions one above over (is.weighed basis weighed light narrow), tt);
  light = let all = sum_by-cons (λ (one : Operand). one.weight) above [] in omega (arith, all, over.weight_is, is.light);
  names = λ whole among. subst (AreAmong whole) (sym over.names ∙ sym (append-end (operand_names above))) (is.names whole among);
})
  where
    by : (basis : Basis) (conditions : List said.Condition) → (conditions ≡ [] → ⊥) → under_where conditions (together basis (map operand_tree operands)) ∷ [] ≡ overlay_under_where basis conditions (map operand_tree operands)
    by basis [] some = absurd (some refl)
    by basis (condition ∷ conditions) some = refl
