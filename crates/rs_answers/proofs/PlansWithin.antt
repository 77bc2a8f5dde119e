-- A plan without a TRANSFORM has, of what is inside a window, what it has there of all.
use Rattle.std.proofs.Common.{◌≡◌, ℕ, Bool, true, false, ◌&&◌, List, [], ◌∷◌, map, length, Result, Ok, Err, Vec, Global, refl, sym, ap, ◌∙◌, subst}
use Rattle.std.proofs.lemmas.Bool.{and_parts}
use Rattle.std.proofs.Math.Path.{fun_ext}
use Rattle.std.specs.List.{list_all}
use Rattle.std.specs.Prelude.{nat_le, IfOk}
use Rattle.rs_refusal.specs.declared.refusal.Refusal.{Refusal}
use Rattle.rs_value.specs.declared.column.TheConstants.{COLUMNS}
use Rattle.rs_facts.specs.declared.fact.Span.{Span}
use Rattle.rs_facts.specs.Fact.{Places, RowSet, none}
use Rattle.rs_facts.specs.Operators.{mapped, chosen, dissolved, overlaid, covered, merged, without, windowed}
use Rattle.rs_facts.specs.Query.{gapped_on}
use Rattle.rs_facts.specs.Runs.{AreRunsOf}
use Rattle.rs_facts.specs.Spans.{seen}
use Rattle.rs_planning.specs.Plan.{met_by_each}
use Rattle.rs_plan.specs.declared.plan.Plan.{Plan}
use Rattle.rs_plan.specs.declared.plan.Plan as codes
use Rattle.rs_plan.specs.declared.plan.Plan.TheOpen.{Plan-F}
use Rattle.rs_plan.specs.declared.plan.Plan.TheVariants as variants
use Rattle.rs_plan.specs.PlanView.{conditions_of}
use Rattle.rs_exec.specs.Snapshot.{Snapshot, Snapshots}
use Rattle.rs_exec.specs.Meaning.{PlanMeaning, meaning_step, meaning_of, kind_in, rows_in, is_well_formed, rows_together, seen_through_each, overlay_meaning, table_of}
use Rattle.rs_answers.specs.Within.{AreNarrowed, ends_within, narrowed, local_step, is_local}
use Rattle.rs_answers.proofs.WindowRows.{met-nothing, dissolved-nothing, mapped-nothing, overlaid-nothing, covered-nothing, merged-nothing, without-nothing, seen-nothing, of-window, of-windows, of-inside, gaps-within}

module _ (from to : ℕ) (snapshot : Snapshot) (route k : ℕ) where
  abbrev HasRowsWithin : PlanMeaning → Type 0
  HasRowsWithin plan = plan.rows (narrowed from to snapshot) route k ≡ windowed from to k (plan.rows snapshot route k)

  abbrev IsWithin : Plan → Type 0
  IsWithin plan = is_local plan ≡ true → is_well_formed plan ≡ true → HasRowsWithin (meaning_of plan)

  -- a plan of which it is shown
  abbrev Each : Type 0
  Each = (plan : Plan) × IsWithin plan

  abbrev plan_in : Each → Plan
  plan_in each = each.0

  abbrev plans_in : Plan-F Each → Plan-F Plan
  plans_in layer = codes.map-Plan Each Plan plan_in layer

  -- of an OVERLAY's operands
  abbrev AreLocal : List Each → Type 0
  AreLocal each = list_all (λ local. local) (map is_local (map plan_in each)) ≡ true

  abbrev AreFormed : List Each → Type 0
  AreFormed each = list_all (λ (plan : PlanMeaning). plan.is_well_formed) (map meaning_of (map plan_in each)) ≡ true

  abbrev meanings : List Each → List PlanMeaning
  meanings each = map meaning_of (map plan_in each)

  abbrev rows_of : List Each → Snapshot → RowSet
  rows_of each shown = rows_together (meanings each) shown route k

  -- inside the window they have the same rows side by side
  abbrev AreAlike : List Each → Type 0
  AreAlike each = windowed from to k (rows_of each (narrowed from to snapshot)) ≡ windowed from to k (rows_of each snapshot)

  beside : (one : Each) (each : List Each) → is_local one.0 ≡ true → is_well_formed one.0 ≡ true → AreAlike each
      → rows_of (one ∷ each) (narrowed from to snapshot) ≡ windowed from to k (rows_of (one ∷ each) snapshot)
  beside one each local formed alike =
      ap (λ rows. overlaid rows (rows_of each (narrowed from to snapshot))) (one.1 local formed)
      ∙ of-window from to k (λ rows. overlaid rows (rows_of each (narrowed from to snapshot))) (rows_in one.0 snapshot route k) (overlaid-nothing (rows_of each (narrowed from to snapshot)))
      ∙ sym (of-windows from to k overlaid (rows_in one.0 snapshot route k) (rows_of each (narrowed from to snapshot)) (overlaid-nothing none))
      ∙ ap (overlaid (windowed from to k (rows_in one.0 snapshot route k))) alike
      ∙ of-windows from to k overlaid (rows_in one.0 snapshot route k) (rows_of each snapshot) (overlaid-nothing none)

  together : (each : List Each) → AreLocal each → AreFormed each → AreAlike each
  together [] local formed = refl
  together (one ∷ each) local formed =
      let locals = and_parts (is_local one.0) (list_all (λ local. local) (map is_local (map plan_in each))) local in
      let forms = and_parts (is_well_formed one.0) (list_all (λ (plan : PlanMeaning). plan.is_well_formed) (meanings each)) formed in
      ap (windowed from to k) (beside one each locals.0 forms.0 (together each locals.1 forms.1))
      ∙ of-inside from to k (λ rows. rows) (rows_of (one ∷ each) snapshot)

  overlay_within : (back : List ℕ) (each : List Each) → AreLocal each → (overlay_meaning back (meanings each)).is_well_formed ≡ true → HasRowsWithin (overlay_meaning back (meanings each))
  overlay_within back [] local formed = absurd (let wrong : false ≡ true = formed in cc)
  overlay_within back (one ∷ each) local formed =
      let locals = and_parts (is_local one.0) (list_all (λ local. local) (map is_local (map plan_in each))) local in
      let all = (and_parts (list_all (λ (plan : PlanMeaning). plan.is_well_formed) (meanings (one ∷ each))) _ formed).0 in
      let forms = and_parts (is_well_formed one.0) (list_all (λ (plan : PlanMeaning). plan.is_well_formed) (meanings each)) all in
      ap (mapped (chosen back)) (beside one each locals.0 forms.0 (together each locals.1 forms.1))
      ∙ of-window from to k (mapped (chosen back)) (rows_of (one ∷ each) snapshot) (mapped-nothing (chosen back))

  -- of two operands
  pair_within : (operator : RowSet → RowSet → RowSet) (one other : Each) → operator none none ≡ none → (is_local one.0 && is_local other.0) ≡ true → (is_well_formed one.0 && is_well_formed other.0) ≡ true
      → operator (rows_in one.0 (narrowed from to snapshot) route k) (rows_in other.0 (narrowed from to snapshot) route k) ≡ windowed from to k (operator (rows_in one.0 snapshot route k) (rows_in other.0 snapshot route k))
  pair_within operator one other nothing local formed =
      let locals = and_parts (is_local one.0) (is_local other.0) local in
      let forms = and_parts (is_well_formed one.0) (is_well_formed other.0) formed in
      (λ i. operator (one.1 locals.0 forms.0 i) (other.1 locals.1 forms.1 i))
      ∙ of-windows from to k operator (rows_in one.0 snapshot route k) (rows_in other.0 snapshot route k) nothing

  -- of one
  alone_within : (operator : RowSet → RowSet) (one : Each) → operator none ≡ none → is_local one.0 ≡ true → is_well_formed one.0 ≡ true
      → operator (rows_in one.0 (narrowed from to snapshot) route k) ≡ windowed from to k (operator (rows_in one.0 snapshot route k))
  alone_within operator one nothing local formed = ap operator (one.1 local formed) ∙ of-window from to k operator (rows_in one.0 snapshot route k) nothing

  layer_within : (layer : Plan-F Each) → local_step (codes.map-Plan Plan Bool is_local (plans_in layer)) ≡ true
      → (meaning_step (codes.map-Plan Plan PlanMeaning meaning_of (plans_in layer))).is_well_formed ≡ true
      → HasRowsWithin (meaning_step (codes.map-Plan Plan PlanMeaning meaning_of (plans_in layer)))
  layer_within (Plan-F.Leaf leaf) local formed =
      of-window from to k (λ rows. met_by_each (conditions_of leaf.conditions) (seen_through_each leaf.windows.items route k rows)) (snapshot.rows (table_of leaf.table) route k)
      (ap (met_by_each (conditions_of leaf.conditions)) (seen-nothing leaf.windows.items route k) ∙ met-nothing (conditions_of leaf.conditions))
  layer_within (Plan-F.Where conditions plan) local formed =
      alone_within (met_by_each (conditions_of conditions)) plan.value (met-nothing (conditions_of conditions)) local formed
  layer_within (Plan-F.Dissolve columns plan) local formed =
      alone_within (dissolved columns.items) plan.value (dissolved-nothing columns.items) local (and_parts (is_well_formed plan.value.0) (nat_le (length columns.items) COLUMNS) formed).0
  layer_within (Plan-F.Overlay back operands) local formed = overlay_within back.items operands.items local formed
  layer_within (Plan-F.Cover m n one other) local formed =
      pair_within (covered m n) one.value other.value (covered-nothing m n) local (and_parts (is_well_formed one.value.0 && is_well_formed other.value.0) _ formed).0
  layer_within (Plan-F.Merge one other) local formed =
      pair_within merged one.value other.value merged-nothing local (and_parts (is_well_formed one.value.0 && is_well_formed other.value.0) _ formed).0
  layer_within (Plan-F.Minus one other) local formed =
      pair_within without one.value other.value (without-nothing none) local (and_parts (is_well_formed one.value.0 && is_well_formed other.value.0) _ formed).0
  layer_within (Plan-F.Window windows plan) local formed =
      alone_within (seen_through_each windows.items route k) plan.value (seen-nothing windows.items route k) local (and_parts (is_well_formed plan.value.0) (nat_le 1 (length windows.items)) formed).0
  layer_within (Plan-F.Transform name pieces plan) local formed = absurd (let wrong : false ≡ true = local in cc)
  layer_within (Plan-F.Gaps plan) local formed =
      ap (gapped_on (ends_within from to (snapshot.ends route)) k) (plan.value.1 local formed)
      ∙ gaps-within from to k (snapshot.ends route) (rows_in plan.value.0 snapshot route k)

  rolled : (layer : Plan-F Each) → IsWithin (codes.roll-Plan (plans_in layer))
  rolled layer local formed =
      subst HasRowsWithin (sym means)
      (layer_within layer (sym (codes.fold-roll-Plan Bool local_step (plans_in layer)) ∙ local) (sym (ap (λ (plan : PlanMeaning). plan.is_well_formed) means) ∙ formed))
    where
      means : meaning_of (codes.roll-Plan (plans_in layer)) ≡ meaning_step (codes.map-Plan Plan PlanMeaning meaning_of (plans_in layer))
      means = codes.fold-roll-Plan PlanMeaning meaning_step (plans_in layer)

  -- y is x with what is shown of each operand beside it
  pub rows-within : (plan : Plan) → IsWithin plan
  rows-within = codes.ind-Plan IsWithin (λ x y is. subst (λ layer. IsWithin (codes.roll-Plan layer)) is (rolled y))

pub local-overlay : (back : Vec ℕ Global) (operands : Vec Plan Global) → is_local (variants.Overlay back operands) ≡ list_all (λ local. local) (map is_local operands.items)
local-overlay back operands = ap is_local (sym (variants.rolls-Overlay back operands)) ∙ codes.fold-roll-Plan Bool local_step (Plan-F.Overlay back operands)

-- the runs of what is narrowed to the window are those of what is inside it
pub runs-within : {S : Type 0} (is_of : S → Snapshots → Type 0) (source : S) (plan : Plan) (route version from to : ℕ) (result : Result (Vec Span Global) Refusal) → is_local plan ≡ true → is_well_formed plan ≡ true
    → IfOk result (λ runs. (snapshots : Snapshots) → AreNarrowed is_of source from to snapshots → AreRunsOf (kind_in plan) (rows_in plan (snapshots version) route) (map seen runs.items))
    → IfOk result (λ runs. (snapshots : Snapshots) → is_of source snapshots → AreRunsOf (kind_in plan) (λ k. windowed from to k (rows_in plan (snapshots version) route k)) (map seen runs.items))
runs-within is_of source plan route version from to (Ok runs) local formed are = λ snapshots is.
    subst (λ (rows : Places). AreRunsOf (kind_in plan) rows (map seen runs.items))
    (fun_ext (λ k. rows-within from to (snapshots version) route k plan local formed))
    (are (λ at. narrowed from to (snapshots at)) (record { whole = snapshots; is = is; inside = λ at. refl }))
runs-within is_of source plan route version from to (Err why) local formed are = are
