-- Placing: what the arms of the rule make of operands that are placed.
use Rattle.std.proofs.Common.{◌≡◌, ℕ, ◌+◌, ◌-◌, ◌*◌, ◌^◌, ◌<◌, ◌≤◌, List, [], ◌∷◌, ◌++◌, map, flat_map, filter, min, length, refl, sym, ap, ◌∙◌, subst, arith}
use Rattle.std.specs.Prelude.{Contains}
use Rattle.std.specs.List.{AllByRecursion}
use Rattle.std.proofs.lemmas.List.{map-append}
use Rattle.std.proofs.lemmas.List.Sums.{sum_by-cons, sum_by-append}
use Rattle.std.proofs.lemmas.List.Concat.{flat_map-append}
use Rattle.rs_facts.specs.Condition.{Condition}
use Rattle.rs_facts.specs.Fact.{Name}
use Rattle.rs_facts.specs.Query.{Window, Piece, Query, where_rows, dissolve_rows, rename_column, overlay_rows, cover_rows, merge_rows, minus_rows, window_rows, transform_rows, gaps_rows}
use Rattle.rs_facts.specs.WellFormed.{width_of}
use Rattle.rs_planning.specs.Basis.{Basis}
use Rattle.rs_planning.specs.Checked.{nodes_of}
use Rattle.rs_planning.specs.Conjuncts.{conjuncts, is_of_left, is_of_right, is_of_both, under_dissolve, under_right}
use Rattle.rs_planning.specs.Numbered.{Numbered}
use Rattle.rs_planning.specs.Plan as plans
use Rattle.rs_planning.specs.Plan.{Plan, plan_width}
use Rattle.rs_planning.specs.Rule as rule
use Rattle.rs_planning.specs.Rule.{weight, together, place}
use Rattle.rs_planning.proofs.Forming.{narrow}
use Rattle.rs_planning.proofs.Operands.{width_together}
use Rattle.rs_plan.specs.declared.operand.Operand.{Operand}
use Rattle.rs_plan.specs.declared.plan.PlannedWindow.{PlannedWindow}
use Rattle.rs_plan.specs.Counted.{Counted, named_index, StandsFor}
use Rattle.rs_plan.specs.Operands.{operand_tree, operand_names, AreAmong, IsWeighed, weights, widths, IsTogether, IsAlone, IsOverlaid, most_records, IsPlaced, IsPlacedAlone}
use Rattle.rs_plan.specs.PlanView.{window_of, named_by_window}
use Rattle.rs_plan.proofs.Standing.{parts, joined, where-stands, rename-stands, dissolve-stands, window-stands, transform-stands, gaps-stands, overlay-left, overlay-right, cover-left, cover-right, merge-left, merge-right, minus-left, minus-right}
use Rattle.rs_plan.proofs.WidthLaws.{placed-width, widths-together}
use Rattle.rs_plan.proofs.Walks.{append-end}

small : (m most : ℕ) → m ≤ most → min m most ≡ m
small m most le = omega (arith, le)

abbrev most_weight : ℕ
most_weight = 2 ^ 128 - 1

-- as many records as so many nodes may have are told
told : (m n : ℕ) → m ≤ n * most_records → n ≤ 2 ^ 32 → m < 2 ^ 128
told m n le few = omega (arith, le, few)

module _ (counted : Counted) where
  abbrev Placed : Query → List Numbered → List PlannedWindow → List Condition → List Operand → Type 0
  Placed = IsPlaced counted

  abbrev PlacedAlone : Query → List Numbered → List PlannedWindow → List Condition → Operand → Type 0
  PlacedAlone = IsPlacedAlone counted

  -- ---- the same, said otherwise

  pub placed-as : (q r : Query) (named others : List Numbered) (windows more : List PlannedWindow) (conditions wanted : List Condition) (operands : List Operand)
      → q ≡ r → named ≡ others → windows ≡ more → conditions ≡ wanted → Placed q named windows conditions operands → Placed r others more wanted operands
  placed-as q r named others windows more conditions wanted operands a b c d placed =
      subst (λ x. Placed r others more x operands) d (subst (λ x. Placed r others x conditions operands) c (subst (λ x. Placed r x windows conditions operands) b (subst (λ x. Placed x named windows conditions operands) a placed)))

  pub alone-as : (q r : Query) (named others : List Numbered) (windows more : List PlannedWindow) (conditions wanted : List Condition) (one : Operand)
      → q ≡ r → named ≡ others → windows ≡ more → conditions ≡ wanted → PlacedAlone q named windows conditions one → PlacedAlone r others more wanted one
  alone-as q r named others windows more conditions wanted one a b c d placed =
      subst (λ x. PlacedAlone r others more x one) d (subst (λ x. PlacedAlone r others x conditions one) c (subst (λ x. PlacedAlone r x windows conditions one) b (subst (λ x. PlacedAlone x named windows conditions one) a placed)))

  -- ---- one plan of them

  module _ (q : Query) (named : List Numbered) (windows : List PlannedWindow) (conditions : List Condition) (operands : List Operand) (placed : Placed q named windows conditions operands) where
    pub light-enough : (basis : Basis) → StandsFor counted basis q named → weights operands < 2 ^ 128
    light-enough basis stands = told (weights operands) (nodes_of q) placed.light stands.few

    pub together-wide : (basis : Basis) → StandsFor counted basis q named → widths operands ≡ width_of basis.world q
    together-wide basis stands =
        widths-together basis operands (placed.weighed basis stands) ∙ ap (width_together basis.world) (placed.trees basis stands)
        ∙ placed-width basis q (map window_of windows) conditions stands.well_formed

    pub narrow-enough : (basis : Basis) → StandsFor counted basis q named → widths operands < 2 ^ 8
    narrow-enough basis stands = let wide = together-wide basis stands in let few = narrow basis.world q stands.well_formed in omega (arith, wide, few)

    pub placed-together : (one : Operand) → IsTogether operands one → PlacedAlone q named windows conditions one
    placed-together one is = record {
      tree = λ basis stands. is.tree basis (placed.weighed basis stands) (light-enough basis stands) (narrow-enough basis stands) ∙ ap (together basis) (placed.trees basis stands);
      weighed = λ basis stands. is.weighed basis (placed.weighed basis stands) (light-enough basis stands) (narrow-enough basis stands);
      light = let all = placed.light in omega (arith, is.light, all);
      names = λ whole a b c. is.names whole (placed.names whole a b c);
    }

  -- ---- operators over one operand that pass on what is asked

  module _ (q : Query) (named : List Numbered) (windows : List PlannedWindow) (operands : List Operand) where
    pub where-placed : (condition : Condition) (conditions : List Condition) → Placed q named windows (conditions ++ conjuncts condition) operands → Placed (where_rows q condition) named windows conditions operands
    where-placed condition conditions placed = record {
      trees = λ basis stands. placed.trees basis (where-stands counted basis q condition named stands);
      weighed = λ basis stands. placed.weighed basis (where-stands counted basis q condition named stands);
      light = let all = placed.light in omega (arith, all);
      names = placed.names;
    }

    pub rename-placed : (column : ℕ) (name : Name) (conditions : List Condition) → Placed q named windows conditions operands → Placed (rename_column q column name) named windows conditions operands
    rename-placed column name conditions placed = record {
      trees = λ basis stands. placed.trees basis (rename-stands counted basis q column name named stands);
      weighed = λ basis stands. placed.weighed basis (rename-stands counted basis q column name named stands);
      light = let all = placed.light in omega (arith, all);
      names = placed.names;
    }

    pub window-placed : (window : PlannedWindow) (conditions : List Condition) → Placed q named (windows ++ window ∷ []) conditions operands
        → Placed (window_rows q (window_of window)) (named ++ named_by_window window ∷ []) windows conditions operands
    window-placed window conditions placed = record {
      trees = λ basis stands. placed.trees basis (window-stands counted basis q (window_of window) named (named_by_window window ∷ []) stands)
          ∙ ap (λ l. place basis q l conditions) (map-append window_of windows (window ∷ []));
      weighed = λ basis stands. placed.weighed basis (window-stands counted basis q (window_of window) named (named_by_window window ∷ []) stands);
      light = let all = placed.light in omega (arith, all);
      names = λ whole a b c.
          let both = parts (Contains whole) named (named_by_window window ∷ []) a in
          placed.names whole both.0 (subst (AreAmong whole) (sym (map-append named_by_window windows (window ∷ []))) (joined (Contains whole) (map named_by_window windows) (named_by_window window ∷ []) b both.1)) c;
    }

  -- ---- a WHERE and a WINDOW above

  above_weight : (record_count : Name → ℕ) (conditions : List Condition) (plan : Plan) → weight record_count plan ≡ weight record_count (rule.under_where conditions plan)
  above_weight record_count [] plan = refl
  above_weight record_count (condition ∷ conditions) plan = refl

  above_width : (basis : Basis) (conditions : List Condition) (plan : Plan) → plan_width basis.world plan ≡ plan_width basis.world (rule.under_where conditions plan)
  above_width basis [] plan = refl
  above_width basis (condition ∷ conditions) plan = refl

  window_weight : (record_count : Name → ℕ) (seen : List Window) (plan : Plan) → weight record_count plan ≡ weight record_count (rule.under_window seen plan)
  window_weight record_count [] plan = refl
  window_weight record_count (window ∷ seen) plan = refl

  window_width : (basis : Basis) (seen : List Window) (plan : Plan) → plan_width basis.world plan ≡ plan_width basis.world (rule.under_window seen plan)
  window_width basis [] plan = refl
  window_width basis (window ∷ seen) plan = refl

  -- ---- a node alone

  module _ (q : Query) (named : List Numbered) (windows : List PlannedWindow) (conditions : List Condition) (operands : List Operand) (tree : Plan) (heavy width : ℕ) (front : List Numbered) (alone : IsAlone operands tree heavy width front) where
    pub node-placed : ((basis : Basis) → StandsFor counted basis q named → tree ∷ [] ≡ place basis q (map window_of windows) conditions)
        → ((basis : Basis) → StandsFor counted basis q named → (heavy ≡ weight basis.record_count tree) × (width ≡ plan_width basis.world tree))
        → heavy ≤ nodes_of q * most_records
        → ((whole : List Numbered) → AreAmong whole named → AreAmong whole (map named_by_window windows) → AreAmong whole (map named_index counted.indexes) → AreAmong whole front)
        → Placed q named windows conditions operands
    node-placed trees weighed light names = subst (Placed q named windows conditions) (sym alone.is) (record {
      trees = λ basis stands. ap (λ t. t ∷ []) alone.over.tree_is ∙ trees basis stands;
      weighed = λ basis stands.
          let is = weighed basis stands in
          ((alone.over.weight_is ∙ is.0 ∙ ap (weight basis.record_count) (sym alone.over.tree_is), alone.over.width_is ∙ is.1 ∙ ap (plan_width basis.world) (sym alone.over.tree_is)), tt);
      light = let one = sum_by-cons (λ (one : Operand). one.weight) alone.one [] in omega (arith, one, alone.over.weight_is, light);
      names = λ whole a b c. subst (AreAmong whole) (sym (append-end (operand_names alone.one) ∙ alone.over.names)) (names whole a b c);
    })

  pub dissolve-placed : (q : Query) (named : List Numbered) (windows : List PlannedWindow) (conditions : List Condition) (columns : List ℕ) (one : Operand) (operands : List Operand)
      → PlacedAlone q named windows (map (under_dissolve columns) conditions) one → IsAlone operands (plans.dissolve_node columns (operand_tree one)) one.weight (min (length columns) (2 ^ 8 - 1)) (operand_names one)
      → Placed (dissolve_rows q columns) named windows conditions operands
  dissolve-placed q named windows conditions columns one operands placed alone =
      node-placed (dissolve_rows q columns) named windows conditions operands _ _ _ _ alone
      (λ basis stands. ap (λ t. plans.dissolve_node columns t ∷ []) (placed.tree basis (dissolve-stands counted basis q columns named stands)))
      (λ basis stands. ((placed.weighed basis (dissolve-stands counted basis q columns named stands)).0, let few = stands.well_formed.1 in small (length columns) (2 ^ 8 - 1) (omega (arith, few))))
      (let all = placed.light in omega (arith, all))
      placed.names

  -- ---- two operands

  module _ (a b : Query) (of_a of_b : List Numbered) (windows : List PlannedWindow) (left right : Operand) where
    -- together they have no more records than their nodes
    both_light : left.weight ≤ nodes_of a * most_records → right.weight ≤ nodes_of b * most_records → min (left.weight + right.weight) most_weight ≤ (nodes_of a + nodes_of b + 1) * most_records
    both_light x y = omega (arith, x, y)

    both_told : left.weight ≤ nodes_of a * most_records → right.weight ≤ nodes_of b * most_records → nodes_of a + nodes_of b + 1 ≤ 2 ^ 32 → min (left.weight + right.weight) most_weight ≡ left.weight + right.weight
    both_told x y few = small (left.weight + right.weight) most_weight (omega (arith, x, y, few))

    names_of_both : (conditions others : List Condition) → PlacedAlone a of_a windows conditions left → PlacedAlone b of_b windows others right → (whole : List Numbered)
        → AreAmong whole (of_a ++ of_b) → AreAmong whole (map named_by_window windows) → AreAmong whole (map named_index counted.indexes) → AreAmong whole (operand_names left ++ operand_names right)
    names_of_both conditions others first second whole among seen indexes =
        let both = parts (Contains whole) of_a of_b among in
        joined (Contains whole) (operand_names left) (operand_names right) (first.names whole both.0 seen indexes) (second.names whole both.1 seen indexes)

    pub merge-placed : (conditions : List Condition) (operands : List Operand) → PlacedAlone a of_a windows conditions left → PlacedAlone b of_b windows conditions right
        → IsAlone operands (plans.merge_node (operand_tree left) (operand_tree right)) (min (left.weight + right.weight) most_weight) left.width (operand_names left ++ operand_names right)
        → Placed (merge_rows a b) (of_a ++ of_b) windows conditions operands
    merge-placed conditions operands first second alone =
        node-placed (merge_rows a b) (of_a ++ of_b) windows conditions operands _ _ _ _ alone
        (λ basis stands. λ i. plans.merge_node (first.tree basis (merge-left counted basis a b of_a of_b stands) i) (second.tree basis (merge-right counted basis a b of_a of_b stands) i) ∷ [])
        (λ basis stands. (
          both_told first.light second.light stands.few ∙ (λ i. (first.weighed basis (merge-left counted basis a b of_a of_b stands)).0 i + (second.weighed basis (merge-right counted basis a b of_a of_b stands)).0 i),
          (first.weighed basis (merge-left counted basis a b of_a of_b stands)).1,
        ))
        (both_light first.light second.light)
        (names_of_both conditions conditions first second)

    pub minus-placed : (conditions : List Condition) (operands : List Operand) → PlacedAlone a of_a windows conditions left → PlacedAlone b of_b windows conditions right
        → IsAlone operands (plans.minus_node (operand_tree left) (operand_tree right)) (min (left.weight + right.weight) most_weight) left.width (operand_names left ++ operand_names right)
        → Placed (minus_rows a b) (of_a ++ of_b) windows conditions operands
    minus-placed conditions operands first second alone =
        node-placed (minus_rows a b) (of_a ++ of_b) windows conditions operands _ _ _ _ alone
        (λ basis stands. λ i. plans.minus_node (first.tree basis (minus-left counted basis a b of_a of_b stands) i) (second.tree basis (minus-right counted basis a b of_a of_b stands) i) ∷ [])
        (λ basis stands. (
          both_told first.light second.light stands.few ∙ (λ i. (first.weighed basis (minus-left counted basis a b of_a of_b stands)).0 i + (second.weighed basis (minus-right counted basis a b of_a of_b stands)).0 i),
          (first.weighed basis (minus-left counted basis a b of_a of_b stands)).1,
        ))
        (both_light first.light second.light)
        (names_of_both conditions conditions first second)

    pub cover-placed : (m n : ℕ) (conditions : List Condition) (operands : List Operand) → PlacedAlone a of_a windows [] left → PlacedAlone b of_b windows [] right
        → IsAlone operands (rule.under_where conditions (plans.cover_node m n (operand_tree left) (operand_tree right))) (min (left.weight + right.weight) most_weight) (min (m + n) (2 ^ 8 - 1)) (operand_names left ++ operand_names right)
        → Placed (cover_rows m n a b) (of_a ++ of_b) windows conditions operands
    cover-placed m n conditions operands first second alone =
        node-placed (cover_rows m n a b) (of_a ++ of_b) windows conditions operands _ _ _ _ alone
        (λ basis stands. λ i. rule.under_where conditions (plans.cover_node m n (first.tree basis (cover-left counted basis a b of_a of_b m n stands) i) (second.tree basis (cover-right counted basis a b of_a of_b m n stands) i)) ∷ [])
        (λ basis stands. (
          both_told first.light second.light stands.few ∙ (λ i. (first.weighed basis (cover-left counted basis a b of_a of_b m n stands)).0 i + (second.weighed basis (cover-right counted basis a b of_a of_b m n stands)).0 i) ∙ above_weight basis.record_count conditions _,
          (let few = stands.well_formed.2 in small (m + n) (2 ^ 8 - 1) (omega (arith, few))) ∙ above_width basis conditions (plans.cover_node m n (operand_tree left) (operand_tree right)),
        ))
        (both_light first.light second.light)
        (names_of_both [] [] first second)

  -- ---- TRANSFORM

  module _ (q : Query) (named : List Numbered) (windows : List PlannedWindow) (name : Name) (pieces : List Piece) (one : Operand) where
    pub transform-placed : (conditions : List Condition) (operands : List Operand) (on_routes : List Numbered) → PlacedAlone q named [] conditions one
        → IsAlone operands (rule.under_window (map window_of windows) (plans.transform_node name pieces (operand_tree one))) one.weight one.width (map named_by_window windows ++ (on_routes ++ operand_names one))
        → Placed (transform_rows q name pieces) (named ++ on_routes) windows conditions operands
    transform-placed conditions operands on_routes placed alone =
        node-placed (transform_rows q name pieces) (named ++ on_routes) windows conditions operands _ _ _ _ alone
        (λ basis stands. ap (λ t. rule.under_window (map window_of windows) (plans.transform_node name pieces t) ∷ []) (placed.tree basis (transform-stands counted basis q name pieces named on_routes stands)))
        (λ basis stands.
        let is = placed.weighed basis (transform-stands counted basis q name pieces named on_routes stands) in
        (is.0 ∙ window_weight basis.record_count (map window_of windows) _, is.1 ∙ window_width basis (map window_of windows) (plans.transform_node name pieces (operand_tree one))))
        (let all = placed.light in omega (arith, all))
        (λ whole among seen indexes.
        let both = parts (Contains whole) named on_routes among in
        joined (Contains whole) (map named_by_window windows) (on_routes ++ operand_names one) seen (joined (Contains whole) on_routes (operand_names one) both.1 (placed.names whole both.0 tt indexes)))

  -- ---- GAPS

  pub gaps-placed : (q : Query) (named : List Numbered) (windows : List PlannedWindow) (conditions : List Condition) (one : Operand) (operands : List Operand) → PlacedAlone q named [] [] one
      → IsAlone operands (rule.under_where conditions (rule.under_window (map window_of windows) (plans.gaps_node (operand_tree one)))) one.weight 0 (map named_by_window windows ++ operand_names one)
      → Placed (gaps_rows q) named windows conditions operands
  gaps-placed q named windows conditions one operands placed alone =
      let node = plans.gaps_node (operand_tree one) in
      let seen = rule.under_window (map window_of windows) node in
      node-placed (gaps_rows q) named windows conditions operands _ _ _ _ alone
      (λ basis stands. ap (λ t. rule.under_where conditions (rule.under_window (map window_of windows) (plans.gaps_node t)) ∷ []) (placed.tree basis (gaps-stands counted basis q named stands)))
      (λ basis stands. (
        (placed.weighed basis (gaps-stands counted basis q named stands)).0 ∙ window_weight basis.record_count (map window_of windows) node ∙ above_weight basis.record_count conditions seen,
        window_width basis (map window_of windows) node ∙ above_width basis conditions seen,
      ))
      (let all = placed.light in omega (arith, all))
      (λ whole among seen indexes. joined (Contains whole) (map named_by_window windows) (operand_names one) seen (placed.names whole among tt indexes))

  -- ---- OVERLAY

  weights-append : (xs ys : List Operand) → weights (xs ++ ys) ≡ weights xs + weights ys
  weights-append xs ys = sum_by-append (λ (one : Operand). one.weight) xs ys

  widths-append : (xs ys : List Operand) → widths (xs ++ ys) ≡ widths xs + widths ys
  widths-append xs ys = sum_by-append (λ (one : Operand). one.width) xs ys

  module _ (a b : Query) (of_a of_b : List Numbered) (windows : List PlannedWindow) (conditions : List Condition) (wide : ℕ) (wide_is : (basis : Basis) → StandsFor counted basis a of_a → wide ≡ width_of basis.world a) (left right made : List Operand)
      (first : Placed a of_a windows (filter (is_of_left wide) conditions) left) (second : Placed b of_b windows (map (under_right wide) (filter (is_of_right wide) conditions)) right)
      (over : IsOverlaid (filter (is_of_both wide) conditions) (left ++ right) made) where
    module _ (basis : Basis) (stands : StandsFor counted basis (overlay_rows a b) (of_a ++ of_b)) where
      on_left : StandsFor counted basis a of_a
      on_left = overlay-left counted basis a b of_a of_b stands

      on_right : StandsFor counted basis b of_b
      on_right = overlay-right counted basis a b of_a of_b stands

      all_weighed : AllByRecursion (IsWeighed basis) (left ++ right)
      all_weighed = joined (IsWeighed basis) left right (first.weighed basis on_left) (second.weighed basis on_right)

      all_light : weights (left ++ right) < 2 ^ 128
      all_light =
          let sum = weights-append left right in
          let x = first.light in let y = second.light in let few = stands.few in omega (arith, sum, x, y, few)

      all_narrow : widths (left ++ right) < 2 ^ 8
      all_narrow =
          let sum = widths-append left right in
          let x = together-wide a of_a windows _ left first basis on_left in
          let y = together-wide b of_b windows _ right second basis on_right in
          let few = stands.well_formed.2 in omega (arith, sum, x, y, few)

      all_trees : map operand_tree made ≡ place basis (overlay_rows a b) (map window_of windows) conditions
      all_trees =
          over.trees basis all_weighed all_light all_narrow
          ∙ ap (rule.overlay_under_where basis (filter (is_of_both wide) conditions)) (map-append operand_tree left right ∙ (λ i. first.trees basis on_left i ++ second.trees basis on_right i))
          ∙ ap (λ w. rule.overlay_under_where basis (filter (is_of_both w) conditions) (place basis a (map window_of windows) (filter (is_of_left w) conditions) ++ place basis b (map window_of windows) (map (under_right w) (filter (is_of_right w) conditions)))) (wide_is basis on_left)

    pub overlay-placed : Placed (overlay_rows a b) (of_a ++ of_b) windows conditions made
    overlay-placed = record {
      trees = λ basis stands. all_trees basis stands;
      weighed = λ basis stands. over.weighed basis (all_weighed basis stands) (all_light basis stands) (all_narrow basis stands);
      light = let sum = weights-append left right in let x = first.light in let y = second.light in let z = over.light in omega (arith, sum, x, y, z);
      names = λ whole among seen indexes.
          let both = parts (Contains whole) of_a of_b among in
          over.names whole (subst (AreAmong whole) (sym (flat_map-append operand_names left right)) (joined (Contains whole) (flat_map operand_names left) (flat_map operand_names right) (first.names whole both.0 seen indexes) (second.names whole both.1 seen indexes)));
    }
