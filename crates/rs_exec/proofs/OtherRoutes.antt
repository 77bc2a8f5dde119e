-- Plans that have no rows on a route, by what their windows leave of it and by what their operands have there.
use Rattle.std.proofs.Common.{◌≡◌, ℕ, Bool, true, false, ◌&&◌, not, ◌⊎◌, inl, inr, List, ◌∷◌, map, Option, Some, None, Box, Vec, Global, refl, sym, ap, subst, ◌∙◌}
use Rattle.std.specs.List.{list_any}
use Rattle.std.specs.Option.{is_some}
use Rattle.std.specs.Prelude.{IfNone, IfSome}
use Rattle.rs_value.specs.Row.{Row}
use Rattle.rs_facts.specs.Fact.{RowSet, none, contains, items}
use Rattle.rs_facts.specs.Operators.{mapped, chosen, dissolved, overlaid, without}
use Rattle.rs_facts.specs.declared.condition.Condition.{Condition}
use Rattle.rs_facts.proofs.RowSets.{among-items, contains-mapped, contains-without}
use Rattle.rs_facts.proofs.Rows.{same_row}
use Rattle.rs_facts.proofs.Sets.{contains-none, same_rows}
use Rattle.rs_planning.specs.Plan.{met_by_each}
use Rattle.rs_plan.specs.declared.plan.Leaf.{Leaf}
use Rattle.rs_plan.specs.declared.plan.Plan.{Plan, fold-roll-Plan}
use Rattle.rs_plan.specs.declared.plan.Plan.TheOpen.{Plan-F}
use Rattle.rs_plan.specs.declared.plan.Plan.TheVariants as variants
use Rattle.rs_plan.specs.declared.plan.PlannedWindow.{PlannedWindow}
use Rattle.rs_plan.specs.PlanView.{conditions_of}
use Rattle.rs_exec.specs.Elsewhere.{HasNothingOn, BeginsWithNothingOn, windows_step, windows_over, windows_of_first}
use Rattle.rs_exec.specs.Meaning.{PlanMeaning, meaning_of, meaning_step, leaf_meaning, rows_together, table_of}
use Rattle.rs_exec.specs.declared.source.Part.{Part}
use Rattle.rs_exec.specs.Windows.{AreOff, AreOn}
use Rattle.rs_exec.proofs.RowLaws.{met-nothing, overlaid-nothing}

-- windows that leave no part of a route leave nothing of it
pub nothing-left : (part : Option Part) (is_none : Bool) (windows : List PlannedWindow) (route : ℕ) → is_some part ≡ not is_none → is_none ≡ true → IfNone part (AreOff windows route) → AreOff windows route
nothing-left None is_none windows route is so off = off
nothing-left (Some part) is_none windows route is so off = absurd (let wrong : true ≡ false = is ∙ ap not so in cc)

mapped-nothing : (change : Row → Row) → mapped change none ≡ none
mapped-nothing change = same_rows _ _ (λ row. contains-mapped change none row ∙ nowhere row ∙ sym (contains-none row))
  where
    comes_from : Row → Row → Bool
    comes_from row from = same_row (change from) row

    nowhere : (row : Row) → list_any (comes_from row) (items none) ≡ false
    nowhere row = elim (list_any (comes_from row) (items none)) as (λ t. list_any (comes_from row) (items none) ≡ t → t ≡ false) [
      | true ↦ λ e. absurd (let among = (among-items (comes_from row) none e).among in let wrong : false ≡ true = sym (contains-none _) ∙ among in cc)
      | false ↦ λ e. refl
    ] refl

without-nothing : (rows : RowSet) → without none rows ≡ none
without-nothing rows = same_rows _ _ (λ row. contains-without none rows row ∙ ap (λ t. t && not (contains rows row)) (contains-none row) ∙ sym (contains-none row))

leaf-means : (leaf : Leaf) → meaning_of (variants.Leaf leaf) ≡ leaf_meaning leaf
leaf-means leaf = ap meaning_of (sym (variants.rolls-Leaf leaf)) ∙ fold-roll-Plan PlanMeaning meaning_step (Plan-F.Leaf leaf)

pub leaf-nothing : (leaf : Leaf) (route : ℕ) → AreOff leaf.windows.items route → HasNothingOn route (variants.Leaf leaf)
leaf-nothing leaf route off = λ snapshot k.
    ap (λ (meaning : PlanMeaning). meaning.rows snapshot route k) (leaf-means leaf)
    ∙ ap (met_by_each (conditions_of leaf.conditions)) (off.nothing k (snapshot.rows (table_of leaf.table) route k))
    ∙ met-nothing (conditions_of leaf.conditions)

pub where-nothing : (conditions : Vec Condition Global) (plan : Box Plan Global) (route : ℕ) → HasNothingOn route plan.value → HasNothingOn route (variants.Where conditions plan)
where-nothing conditions plan route off = λ snapshot k.
    ap (λ (p : Plan). (meaning_of p).rows snapshot route k) (sym (variants.rolls-Where conditions plan))
    ∙ ap (λ (meaning : PlanMeaning). meaning.rows snapshot route k) (fold-roll-Plan PlanMeaning meaning_step (Plan-F.Where conditions plan))
    ∙ ap (met_by_each (conditions_of conditions)) (off snapshot k)
    ∙ met-nothing (conditions_of conditions)

pub window-nothing : (windows : Vec PlannedWindow Global) (plan : Box Plan Global) (route : ℕ) → AreOff windows.items route → HasNothingOn route (variants.Window windows plan)
window-nothing windows plan route off = λ snapshot k.
    ap (λ (p : Plan). (meaning_of p).rows snapshot route k) (sym (variants.rolls-Window windows plan))
    ∙ ap (λ (meaning : PlanMeaning). meaning.rows snapshot route k) (fold-roll-Plan PlanMeaning meaning_step (Plan-F.Window windows plan))
    ∙ off.nothing k ((meaning_of plan.value).rows snapshot route k)

pub dissolve-nothing : (columns : Vec ℕ Global) (plan : Box Plan Global) (route : ℕ) → HasNothingOn route plan.value → HasNothingOn route (variants.Dissolve columns plan)
unfolding dissolved
dissolve-nothing columns plan route off = λ snapshot k.
    ap (λ (p : Plan). (meaning_of p).rows snapshot route k) (sym (variants.rolls-Dissolve columns plan))
    ∙ ap (λ (meaning : PlanMeaning). meaning.rows snapshot route k) (fold-roll-Plan PlanMeaning meaning_step (Plan-F.Dissolve columns plan))
    ∙ ap (dissolved columns.items) (off snapshot k)
    ∙ mapped-nothing (chosen columns.items)

pub minus-nothing : (left right : Box Plan Global) (route : ℕ) → HasNothingOn route left.value → HasNothingOn route (variants.Minus left right)
minus-nothing left right route off = λ snapshot k.
    ap (λ (p : Plan). (meaning_of p).rows snapshot route k) (sym (variants.rolls-Minus left right))
    ∙ ap (λ (meaning : PlanMeaning). meaning.rows snapshot route k) (fold-roll-Plan PlanMeaning meaning_step (Plan-F.Minus left right))
    ∙ ap (λ rows. without rows ((meaning_of right.value).rows snapshot route k)) (off snapshot k)
    ∙ without-nothing ((meaning_of right.value).rows snapshot route k)

pub overlay-nothing : (back : Vec ℕ Global) (operands : Vec Plan Global) (route : ℕ) → BeginsWithNothingOn route operands.items → HasNothingOn route (variants.Overlay back operands)
overlay-nothing back operands route off = λ snapshot k.
    ap (λ (p : Plan). (meaning_of p).rows snapshot route k) (sym (variants.rolls-Overlay back operands))
    ∙ ap (λ (meaning : PlanMeaning). meaning.rows snapshot route k) (fold-roll-Plan PlanMeaning meaning_step (Plan-F.Overlay back operands))
    ∙ ap (mapped (chosen back.items)) (off snapshot k)
    ∙ mapped-nothing (chosen back.items)

pub first-nothing : (operands others : List Plan) (first : Plan) (route : ℕ) → operands ≡ first ∷ others → HasNothingOn route first → BeginsWithNothingOn route operands
first-nothing operands others first route is off = λ snapshot k.
    ap (λ plans. rows_together (map meaning_of plans) snapshot route k) is
    ∙ ap (λ rows. overlaid rows (rows_together (map meaning_of others) snapshot route k)) (off snapshot k)
    ∙ overlaid-nothing (rows_together (map meaning_of others) snapshot route k)

-- of an operand alone, or of what something is taken from
pub operand-nothing : (plan : Plan) (operand : Box Plan Global) (route : ℕ)
    → ((x : Vec Condition Global) × plan ≡ variants.Where x operand) ⊎ (((x : Vec ℕ Global) × plan ≡ variants.Dissolve x operand) ⊎ ((x : Box Plan Global) × plan ≡ variants.Minus operand x))
    → HasNothingOn route operand.value → HasNothingOn route plan
operand-nothing plan operand route (inl one) off = subst (HasNothingOn route) (sym one.1) (where-nothing one.0 operand route off)
operand-nothing plan operand route (inr (inl one)) off = subst (HasNothingOn route) (sym one.1) (dissolve-nothing one.0 operand route off)
operand-nothing plan operand route (inr (inr one)) off = subst (HasNothingOn route) (sym one.1) (minus-nothing operand one.0 route off)

-- ---- the windows that all rows of a plan are inside of

pub over-leaf : (leaf : Leaf) → windows_over (variants.Leaf leaf) ≡ leaf.windows.items
over-leaf leaf = ap windows_over (sym (variants.rolls-Leaf leaf)) ∙ fold-roll-Plan (List PlannedWindow) windows_step (Plan-F.Leaf leaf)

over-where : (conditions : Vec Condition Global) (plan : Box Plan Global) → windows_over (variants.Where conditions plan) ≡ windows_over plan.value
over-where conditions plan = ap windows_over (sym (variants.rolls-Where conditions plan)) ∙ fold-roll-Plan (List PlannedWindow) windows_step (Plan-F.Where conditions plan)

over-dissolve : (columns : Vec ℕ Global) (plan : Box Plan Global) → windows_over (variants.Dissolve columns plan) ≡ windows_over plan.value
over-dissolve columns plan = ap windows_over (sym (variants.rolls-Dissolve columns plan)) ∙ fold-roll-Plan (List PlannedWindow) windows_step (Plan-F.Dissolve columns plan)

over-minus : (left right : Box Plan Global) → windows_over (variants.Minus left right) ≡ windows_over left.value
over-minus left right = ap windows_over (sym (variants.rolls-Minus left right)) ∙ fold-roll-Plan (List PlannedWindow) windows_step (Plan-F.Minus left right)

pub over-overlay : (back : Vec ℕ Global) (operands : Vec Plan Global) → windows_over (variants.Overlay back operands) ≡ windows_of_first (map windows_over operands.items)
over-overlay back operands = ap windows_over (sym (variants.rolls-Overlay back operands)) ∙ fold-roll-Plan (List PlannedWindow) windows_step (Plan-F.Overlay back operands)

-- windows that leave some part of a route leave something of it
pub something-left : (part : Option Part) (is_none : Bool) (windows : List PlannedWindow) (route : ℕ) → is_some part ≡ not is_none → is_none ≡ false → IfSome part (λ some. AreOn windows route) → AreOn windows route
something-left None is_none windows route is so on = absurd (let wrong : false ≡ true = is ∙ ap not so in cc)
something-left (Some part) is_none windows route is so on = on

pub over-window : (windows : Vec PlannedWindow Global) (plan : Box Plan Global) → windows_over (variants.Window windows plan) ≡ windows.items
over-window windows plan = ap windows_over (sym (variants.rolls-Window windows plan)) ∙ fold-roll-Plan (List PlannedWindow) windows_step (Plan-F.Window windows plan)

pub operand-over : (plan : Plan) (operand : Box Plan Global)
    → ((x : Vec Condition Global) × plan ≡ variants.Where x operand) ⊎ (((x : Vec ℕ Global) × plan ≡ variants.Dissolve x operand) ⊎ ((x : Box Plan Global) × plan ≡ variants.Minus operand x))
    → windows_over operand.value ≡ windows_over plan
operand-over plan operand (inl one) = sym (ap windows_over one.1 ∙ over-where one.0 operand)
operand-over plan operand (inr (inl one)) = sym (ap windows_over one.1 ∙ over-dissolve one.0 operand)
operand-over plan operand (inr (inr one)) = sym (ap windows_over one.1 ∙ over-minus operand one.0)
