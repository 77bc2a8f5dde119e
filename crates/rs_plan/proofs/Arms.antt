-- Placing, arm by arm of the match on a checked query.
use Rattle.std.proofs.Common.{◌≡◌, ℕ, ◌+◌, ◌-◌, ◌^◌, List, [], ◌∷◌, ◌++◌, map, filter, flat_map, min, length, refl, sym, ap, ◌∙◌, subst}
use Rattle.std.specs.Prelude.{Vec, Box}
use Rattle.std.specs.declared.alloc.Global.{Global}
use Rattle.arrayvec.specs.ArrayString.{ArrayString}
use Rattle.rs_facts.specs.Condition as said
use Rattle.rs_facts.specs.ConditionView.{condition_of}
use Rattle.rs_facts.specs.declared.condition.Condition.{Condition}
use Rattle.rs_facts.specs.Query.{Query, window_rows}
use Rattle.rs_planning.specs.Conjuncts.{conjuncts, is_of_left, is_of_right, is_of_both, under_dissolve, under_right}
use Rattle.rs_planning.specs.Numbered.{Numbered}
use Rattle.rs_planning.specs.Plan as plans
use Rattle.rs_planning.specs.Rule as rule
use Rattle.rs_checker.specs.declared.checked.LocatedWindow.{LocatedWindow}
use Rattle.rs_checker.specs.declared.checked.LocatedPiece.{LocatedPiece}
use Rattle.rs_checker.specs.declared.checked.CheckedQuery.{CheckedQuery}
use Rattle.rs_checker.specs.declared.checked.CheckedQuery.TheVariants as variants
use Rattle.rs_checker.specs.CheckedView as checked
use Rattle.rs_checker.specs.CheckedView.{query_of, named_in}
use Rattle.rs_plan.specs.declared.operand.Operand.{Operand}
use Rattle.rs_plan.specs.declared.plan.PlannedWindow.{PlannedWindow}
use Rattle.rs_plan.specs.Counted.{Counted}
use Rattle.rs_plan.specs.Operands.{operand_tree, operand_names, IsAlone, IsOverlaid, IsPlaced, IsPlacedAlone}
use Rattle.rs_plan.specs.PlanView.{window_of, named_by_window}
use Rattle.rs_plan.specs.Widths.{IsWidth}
use Rattle.rs_plan.proofs.QueryVariants.{where-query, where-named, dissolve-query, dissolve-named, rename-query, rename-named, window-query, window-named, transform-query, transform-named, gaps-query, gaps-named, overlay-query, overlay-named, cover-query, cover-named, merge-query, merge-named, minus-query, minus-named}
use Rattle.rs_plan.proofs.PlacingLaws.{placed-as, alone-as, where-placed, rename-placed, window-placed, dissolve-placed, merge-placed, minus-placed, cover-placed, transform-placed, gaps-placed, overlay-placed}

module _ (counted : Counted) (query : CheckedQuery) (windows : List PlannedWindow) (conditions : List said.Condition) (operands : List Operand) where
  abbrev Whole : Type 0
  Whole = IsPlaced counted (query_of query) (named_in query) windows conditions operands

  pub back : (q : Query) (named : List Numbered) → query_of query ≡ q → named_in query ≡ named → IsPlaced counted q named windows conditions operands → Whole
  back q named a b placed = placed-as counted q (query_of query) named (named_in query) windows windows conditions conditions operands (sym a) (sym b) refl refl placed

  -- ---- one operand, on the heap before

  module _ (inner : CheckedQuery) (operand : Box CheckedQuery Global) (same : inner ≡ operand.value) where
    abbrev Inside : List PlannedWindow → List said.Condition → List Operand → Type 0
    Inside seen wanted ones = IsPlaced counted (query_of inner) (named_in inner) seen wanted ones

    abbrev InsideAlone : List PlannedWindow → List said.Condition → Operand → Type 0
    InsideAlone seen wanted one = IsPlacedAlone counted (query_of inner) (named_in inner) seen wanted one

    inside-as : (seen more : List PlannedWindow) (wanted others : List said.Condition) (ones : List Operand) → seen ≡ more → wanted ≡ others → Inside seen wanted ones → IsPlaced counted (query_of operand.value) (named_in operand.value) more others ones
    inside-as seen more wanted others ones a b placed = placed-as counted (query_of inner) (query_of operand.value) (named_in inner) (named_in operand.value) seen more wanted others ones (ap query_of same) (ap named_in same) a b placed

    inside-alone_as : (seen more : List PlannedWindow) (wanted others : List said.Condition) (one : Operand) → seen ≡ more → wanted ≡ others → InsideAlone seen wanted one → IsPlacedAlone counted (query_of operand.value) (named_in operand.value) more others one
    inside-alone_as seen more wanted others one a b placed = alone-as counted (query_of inner) (query_of operand.value) (named_in inner) (named_in operand.value) seen more wanted others one (ap query_of same) (ap named_in same) a b placed

    pub where-arm : (condition : Condition) → query ≡ variants.Where operand condition → (seen : List PlannedWindow) (wanted : List said.Condition) → seen ≡ windows → wanted ≡ conditions ++ conjuncts (condition_of condition) → Inside seen wanted operands → Whole
    where-arm condition is seen wanted a b placed =
        back _ _ (ap query_of is ∙ where-query operand condition) (ap named_in is ∙ where-named operand condition)
        (where-placed counted (query_of operand.value) (named_in operand.value) windows operands (condition_of condition) conditions (inside-as seen windows wanted _ operands a b placed))

    pub rename-arm : (column : ℕ) (name : ArrayString) → query ≡ variants.Rename operand column name → Inside windows conditions operands → Whole
    rename-arm column name is placed =
        back _ _ (ap query_of is ∙ rename-query operand column name) (ap named_in is ∙ rename-named operand column name)
        (rename-placed counted (query_of operand.value) (named_in operand.value) windows operands column name.bytes conditions (inside-as windows windows conditions conditions operands refl refl placed))

    pub window-arm : (window : LocatedWindow) → query ≡ variants.Window operand window → (planned : PlannedWindow) → window_of planned ≡ checked.window_of window → named_by_window planned ≡ checked.named_by_window window
        → (seen : List PlannedWindow) (wanted : List said.Condition) → seen ≡ windows ++ planned ∷ [] → wanted ≡ conditions → Inside seen wanted operands → Whole
    window-arm window is planned means names seen wanted a b placed =
        back _ _ (ap query_of is ∙ window-query operand window ∙ ap (window_rows (query_of operand.value)) (sym means)) (ap named_in is ∙ window-named operand window ∙ ap (λ n. named_in operand.value ++ n ∷ []) (sym names))
        (window-placed counted (query_of operand.value) (named_in operand.value) windows operands planned conditions (inside-as seen _ wanted conditions operands a b placed))

    pub dissolve-arm : (columns : Vec ℕ Global) → query ≡ variants.Dissolve operand columns → (seen : List PlannedWindow) (wanted : List said.Condition) (one : Operand) → seen ≡ windows → wanted ≡ map (under_dissolve columns.items) conditions → InsideAlone seen wanted one
        → IsAlone operands (plans.dissolve_node columns.items (operand_tree one)) one.weight (min (length columns.items) (2 ^ 8 - 1)) (operand_names one) → Whole
    dissolve-arm columns is seen wanted one a b placed made =
        back _ _ (ap query_of is ∙ dissolve-query operand columns) (ap named_in is ∙ dissolve-named operand columns)
        (dissolve-placed counted (query_of operand.value) (named_in operand.value) windows conditions columns.items one operands (inside-alone_as seen windows wanted _ one a b placed) made)

    pub transform-arm : (name : ArrayString) (pieces : Vec LocatedPiece Global) → query ≡ variants.Transform operand name pieces → (seen : List PlannedWindow) (one : Operand) → seen ≡ [] → InsideAlone seen conditions one
        → IsAlone operands (rule.under_window (map window_of windows) (plans.transform_node name.bytes (checked.located_pieces pieces.items) (operand_tree one))) one.weight one.width (map named_by_window windows ++ (flat_map checked.named_by_piece pieces.items ++ operand_names one)) → Whole
    transform-arm name pieces is seen one a placed made =
        back _ _ (ap query_of is ∙ transform-query operand name pieces) (ap named_in is ∙ transform-named operand name pieces)
        (transform-placed counted (query_of operand.value) (named_in operand.value) windows name.bytes (checked.located_pieces pieces.items) one conditions operands (flat_map checked.named_by_piece pieces.items) (inside-alone_as seen [] conditions conditions one a refl placed) made)

    pub gaps-arm : query ≡ variants.Gaps operand → (seen : List PlannedWindow) (wanted : List said.Condition) (one : Operand) → seen ≡ [] → wanted ≡ [] → InsideAlone seen wanted one
        → IsAlone operands (rule.under_where conditions (rule.under_window (map window_of windows) (plans.gaps_node (operand_tree one)))) one.weight 0 (map named_by_window windows ++ operand_names one) → Whole
    gaps-arm is seen wanted one a b placed made =
        back _ _ (ap query_of is ∙ gaps-query operand) (ap named_in is ∙ gaps-named operand)
        (gaps-placed counted (query_of operand.value) (named_in operand.value) windows conditions one operands (inside-alone_as seen [] wanted [] one a b placed) made)

  -- ---- two operands

  module _ (first second : CheckedQuery) (a b : Box CheckedQuery Global) (same_first : first ≡ a.value) (same_second : second ≡ b.value) (seen_first seen_second : List PlannedWindow) (wanted_first wanted_second : List said.Condition) where
    module _ (left right : Operand) (placed_left : IsPlacedAlone counted (query_of first) (named_in first) seen_first wanted_first left) (placed_right : IsPlacedAlone counted (query_of second) (named_in second) seen_second wanted_second right) (seen_left : seen_first ≡ windows) (seen_right : seen_second ≡ windows) where
      on-left : (others : List said.Condition) → wanted_first ≡ others → IsPlacedAlone counted (query_of a.value) (named_in a.value) windows others left
      on-left others e = inside-alone_as first a same_first seen_first windows wanted_first others left seen_left e placed_left

      on-right : (others : List said.Condition) → wanted_second ≡ others → IsPlacedAlone counted (query_of b.value) (named_in b.value) windows others right
      on-right others e = inside-alone_as second b same_second seen_second windows wanted_second others right seen_right e placed_right

      pub merge-arm : query ≡ variants.Merge a b → wanted_first ≡ conditions → wanted_second ≡ conditions
          → IsAlone operands (plans.merge_node (operand_tree left) (operand_tree right)) (min (left.weight + right.weight) (2 ^ 128 - 1)) left.width (operand_names left ++ operand_names right) → Whole
      merge-arm is x y made =
          back _ _ (ap query_of is ∙ merge-query a b) (ap named_in is ∙ merge-named a b)
          (merge-placed counted (query_of a.value) (query_of b.value) (named_in a.value) (named_in b.value) windows left right conditions operands (on-left conditions x) (on-right conditions y) made)

      pub minus-arm : query ≡ variants.Minus a b → wanted_first ≡ conditions → wanted_second ≡ conditions
          → IsAlone operands (plans.minus_node (operand_tree left) (operand_tree right)) (min (left.weight + right.weight) (2 ^ 128 - 1)) left.width (operand_names left ++ operand_names right) → Whole
      minus-arm is x y made =
          back _ _ (ap query_of is ∙ minus-query a b) (ap named_in is ∙ minus-named a b)
          (minus-placed counted (query_of a.value) (query_of b.value) (named_in a.value) (named_in b.value) windows left right conditions operands (on-left conditions x) (on-right conditions y) made)

      pub cover-arm : (m n : ℕ) → query ≡ variants.Cover m n a b → wanted_first ≡ [] → wanted_second ≡ []
          → IsAlone operands (rule.under_where conditions (plans.cover_node m n (operand_tree left) (operand_tree right))) (min (left.weight + right.weight) (2 ^ 128 - 1)) (min (m + n) (2 ^ 8 - 1)) (operand_names left ++ operand_names right) → Whole
      cover-arm m n is x y made =
          back _ _ (ap query_of is ∙ cover-query m n a b) (ap named_in is ∙ cover-named m n a b)
          (cover-placed counted (query_of a.value) (query_of b.value) (named_in a.value) (named_in b.value) windows left right m n conditions operands (on-left [] x) (on-right [] y) made)

    pub overlay-arm : query ≡ variants.Overlay a b → (sized : CheckedQuery) → sized ≡ a.value → (wide : ℕ) → IsWidth sized wide → (left right together : List Operand)
        → IsPlaced counted (query_of first) (named_in first) seen_first wanted_first left → IsPlaced counted (query_of second) (named_in second) seen_second wanted_second right
        → seen_first ≡ windows → seen_second ≡ windows → wanted_first ≡ filter (is_of_left wide) conditions → wanted_second ≡ map (under_right wide) (filter (is_of_right wide) conditions)
        → together ≡ left ++ right → (others : List said.Condition) → others ≡ filter (is_of_both wide) conditions → IsOverlaid others together operands → Whole
    overlay-arm is sized same_sized wide is_wide left right together placed_left placed_right seen_left seen_right x y joined others others_are made =
        back _ _ (ap query_of is ∙ overlay-query a b) (ap named_in is ∙ overlay-named a b)
        (overlay-placed counted (query_of a.value) (query_of b.value) (named_in a.value) (named_in b.value) windows conditions wide (λ basis stands. (subst (λ k. IsWidth k wide) same_sized is_wide).is counted basis stands) left right operands
        (inside-as first a same_first seen_first windows wanted_first _ left seen_left x placed_left) (inside-as second b same_second seen_second windows wanted_second _ right seen_right y placed_right)
        (subst (λ l. IsOverlaid (filter (is_of_both wide) conditions) l operands) joined (subst (λ l. IsOverlaid l together operands) others_are made)))
