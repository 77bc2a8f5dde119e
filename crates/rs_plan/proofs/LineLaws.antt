-- The lines of a plan, by its outermost node.
use Rattle.std.proofs.Common.{◌≡◌, ℕ, suc, ◌+◌, ◌<◌, ◌≤◌, List, [], ◌∷◌, ◌++◌, map, length, take, get_or, Vec, Global, refl, sym, ap, ◌∙◌, subst, append_assoc, arith, length-append}
use Rattle.std.specs.Prelude.{Box, string_bytes, codes}
use Rattle.std.specs.declared.string.String.{String}
use Rattle.std.proofs.lemmas.List.{length-map, map-append, take_more}
use Rattle.std.proofs.Math.Numerals.{add-one}
use Rattle.rs_planning.specs.Plan as plans
use Rattle.rs_planning.specs.Plan.{overlay_node}
use Rattle.rs_planning.specs.Explain.{and_number, operands_counted, node_text, line_of_node, lines_from, lines_of_each}
use Rattle.rs_plan.specs.declared.plan.PlannedWindow.{PlannedWindow}
use Rattle.rs_plan.specs.declared.plan.Plan.{Plan}
use Rattle.rs_plan.specs.declared.plan.Plan.TheVariants as variants
use Rattle.rs_plan.specs.Lines.{lines_of, lines_from_each}
use Rattle.rs_plan.specs.PlanView.{window_of, operands_in, plan_tree}
use Rattle.rs_plan.proofs.Walks.{append-end}
use Rattle.rs_plan.proofs.PlanLaws.{overlay-tree, window-tree, cover-tree, merge-tree, minus-tree}

-- ---- numbers of operands and of windows

counted : (operands : List plans.Plan) → operands_counted (operands_in operands) ≡ length operands
counted [] = refl
counted (plan ∷ operands) = ap suc (counted operands)

pub overlay-text : (plan : Plan) (back : Vec ℕ Global) (operands : Vec Plan Global) → plan ≡ variants.Overlay back operands → (n : ℕ) → n ≡ length operands.items → codes "OVERLAY" ++ and_number n ≡ node_text (plan_tree plan)
overlay-text plan back operands is n same =
    ap (λ m. codes "OVERLAY" ++ and_number m) (same ∙ sym (length-map operands.items plan_tree) ∙ sym (counted (map plan_tree operands.items)))
    ∙ ap node_text (sym (ap plan_tree is ∙ overlay-tree back operands))

pub window-text : (plan : Plan) (windows : Vec PlannedWindow Global) (operand : Box Plan Global) → plan ≡ variants.Window windows operand → (n : ℕ) → n ≡ length windows.items → codes "WINDOW" ++ and_number n ≡ node_text (plan_tree plan)
window-text plan windows operand is n same =
    ap (λ m. codes "WINDOW" ++ and_number m) (same ∙ sym (length-map windows.items window_of))
    ∙ ap node_text (sym (ap plan_tree is ∙ window-tree windows operand))

-- ---- lines below a node

each-of : (depth : ℕ) (operands : List plans.Plan) → lines_of_each depth (operands_in operands) ≡ lines_from_each depth operands
each-of depth [] = refl
each-of depth (plan ∷ operands) = ap (λ l. lines_from depth plan ++ l) (each-of depth operands)

abbrev below_two : ℕ → plans.Plan → plans.Plan → List (List ℕ)
below_two depth left right = lines_from depth left ++ lines_from depth right

module _ (depth : ℕ) (plan : Plan) where
  abbrev line : List ℕ
  line = line_of_node depth (plan_tree plan)

  whole : (tree : plans.Plan) → plan_tree plan ≡ tree → (below : List (List ℕ)) → line_of_node depth tree ∷ below ≡ lines_from depth tree → line ∷ below ≡ lines_from depth (plan_tree plan)
  whole tree is below same = subst (λ t. line_of_node depth t ∷ below ≡ lines_from depth t) (sym is) same

  pub overlay-lines : (back : Vec ℕ Global) (operands : Vec Plan Global) → plan ≡ variants.Overlay back operands → line ∷ lines_from_each (depth + 1) (map plan_tree operands.items) ≡ lines_from depth (plan_tree plan)
  overlay-lines back operands is =
      whole _ (ap plan_tree is ∙ overlay-tree back operands) _
      (ap (λ n. line_of_node depth (overlay_node back.items (operands_in (map plan_tree operands.items))) ∷ lines_from_each n (map plan_tree operands.items)) (add-one depth)
      ∙ ap (λ l. line_of_node depth (overlay_node back.items (operands_in (map plan_tree operands.items))) ∷ l) (sym (each-of (suc depth) (map plan_tree operands.items))))

  module _ (left right : Box Plan Global) where
    pub cover-lines : (m n : ℕ) → plan ≡ variants.Cover m n left right → line ∷ below_two (depth + 1) (plan_tree left.value) (plan_tree right.value) ≡ lines_from depth (plan_tree plan)
    cover-lines m n is = whole _ (ap plan_tree is ∙ cover-tree m n left right) _ (ap (λ d. line_of_node depth (plans.cover_node m n (plan_tree left.value) (plan_tree right.value)) ∷ below_two d (plan_tree left.value) (plan_tree right.value)) (add-one depth))

    pub merge-lines : plan ≡ variants.Merge left right → line ∷ below_two (depth + 1) (plan_tree left.value) (plan_tree right.value) ≡ lines_from depth (plan_tree plan)
    merge-lines is = whole _ (ap plan_tree is ∙ merge-tree left right) _ (ap (λ d. line_of_node depth (plans.merge_node (plan_tree left.value) (plan_tree right.value)) ∷ below_two d (plan_tree left.value) (plan_tree right.value)) (add-one depth))

    pub minus-lines : plan ≡ variants.Minus left right → line ∷ below_two (depth + 1) (plan_tree left.value) (plan_tree right.value) ≡ lines_from depth (plan_tree plan)
    minus-lines is = whole _ (ap plan_tree is ∙ minus-tree left right) _ (ap (λ d. line_of_node depth (plans.minus_node (plan_tree left.value) (plan_tree right.value)) ∷ below_two d (plan_tree left.value) (plan_tree right.value)) (add-one depth))

-- the line of a node, and then those below it
pub follow : (before with_line all : List (List ℕ)) (line : List ℕ) (below whole : List (List ℕ)) → with_line ≡ before ++ line ∷ [] → line ∷ below ≡ whole → all ≡ with_line ++ below → all ≡ before ++ whole
follow before with_line all line below whole first rest e =
    e ∙ ap (λ l. l ++ below) first ∙ append_assoc before (line ∷ []) below ∙ ap (λ l. before ++ l) rest

-- ---- lines of each of several plans

pub grown : (before all : Vec (String Global) Global) (more : List (List ℕ)) → lines_of all ≡ lines_of before ++ more → length before.items ≤ length all.items
grown before all more e =
    let same : length all.items ≡ length before.items + length more =
    sym (length-map all.items string_bytes) ∙ ap length e ∙ length-append (lines_of before) more ∙ ap (λ n. n + length more) (length-map before.items string_bytes) in
    omega (arith, same)

each-append : (depth : ℕ) (xs : List plans.Plan) (plan : plans.Plan) → lines_from_each depth (xs ++ plan ∷ []) ≡ lines_from_each depth xs ++ lines_from depth plan
each-append depth [] plan = append-end (lines_from depth plan)
each-append depth (x ∷ xs) plan = ap (λ l. lines_from depth x ++ l) (each-append depth xs plan) ∙ sym (append_assoc (lines_from depth x) (lines_from_each depth xs) (lines_from depth plan))

pub each-more : (depth : ℕ) (xs : List Plan) (i : ℕ) (x : Plan) → i < length xs → x ≡ get_or xs i x → (before so_far all : List (List ℕ)) → so_far ≡ before ++ lines_from_each depth (map plan_tree (take i xs))
    → all ≡ so_far ++ lines_from depth (plan_tree x) → all ≡ before ++ lines_from_each depth (map plan_tree (take (i + 1) xs))
each-more depth xs i x below is before so_far all first e =
    e ∙ ap (λ l. l ++ lines_from depth (plan_tree x)) first
    ∙ append_assoc before (lines_from_each depth (map plan_tree (take i xs))) (lines_from depth (plan_tree x))
    ∙ ap (λ l. before ++ l) (sym (each-append depth (map plan_tree (take i xs)) (plan_tree x))
    ∙ ap (λ y. lines_from_each depth (map plan_tree (take i xs) ++ plan_tree y ∷ [])) is
    ∙ ap (lines_from_each depth) (sym (map-append plan_tree (take i xs) (get_or xs i x ∷ [])) ∙ ap (map plan_tree) (sym (take_more xs i x below))))
