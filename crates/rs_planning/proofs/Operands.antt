-- The operands of an OVERLAY: their rows, kind and width together, and those of the one plan that they make.
use Rattle.std.proofs.Common.{◌≡◌, ℕ, ◌+◌, Bool, true, false, cond, List, [], ◌∷◌, ◌++◌, length, refl, sym, ap, ◌∙◌, append_assoc, arith}
use Rattle.std.specs.Prelude.{nat_le}
use Rattle.std.proofs.lemmas.List.{length-append, length-map}
use Rattle.std.proofs.lemmas.List.Concat.{length-flat_map}
use Rattle.std.proofs.lemmas.List.FromFn.{length-range_with_len}
use Rattle.std.proofs.lemmas.List.Sorted.{sum_by-IsPermutation}
use Rattle.std.specs.List.{AllByRecursion, range_with_len}
use Rattle.rs_value.specs.declared.column.Kind.{Kind}
use Rattle.rs_value.specs.declared.column.Kind.TheVariants as kinds
use Rattle.rs_value.specs.Row.{Row}
use Rattle.rs_facts.specs.Fact.{Name, RowSet, contains}
use Rattle.rs_facts.specs.Operators.{overlaid}
use Rattle.rs_facts.specs.Query.{World, overlaid_kind}
use Rattle.rs_facts.proofs.Gapping.{only_empty, has_empty}
use Rattle.rs_facts.proofs.Sets.{same_rows}
use Rattle.rs_facts.proofs.RowSets.{either-way}
use Rattle.rs_planning.specs.Basis.{Basis}
use Rattle.rs_planning.specs.Plan.{Plan, no_columns, plan_rows_at, overlaid_rows_at, plan_kind, overlaid_kinds, plan_width}
use Rattle.rs_planning.specs.Rule.{PlacedOperand, weight, in_written_order, inserted_by_weight, lightest_first, columns_together, put_back, operands_of, overlay_of, together}
use Rattle.rs_planning.proofs.Shown.{pairs}
use Rattle.rs_planning.proofs.PuttingBack.{lightest-permutes, HasItsWidth, back-rows}

-- ---- OVERLAY of one after another

append_nil : {X : Type 0} (xs : List X) → xs ++ [] ≡ xs
append_nil [] = refl
append_nil (x ∷ xs) = ap (λ r. x ∷ r) (append_nil xs)

unit_left : (rows : RowSet) → overlaid no_columns rows ≡ rows
unit_left rows = same_rows _ _ (λ row. either-way _ _
    (λ e. let pair = (pairs no_columns rows row).0 e in ap (contains rows) (pair.together ∙ ap (λ (l : Row). l ++ pair.right) (only_empty pair.left pair.in_first)) ∙ pair.in_second)
    (λ e. (pairs no_columns rows row).1 (record { left = []; right = row; in_first = has_empty; in_second = e; together = refl })))

pub unit_right : (rows : RowSet) → overlaid rows no_columns ≡ rows
unit_right rows = same_rows _ _ (λ row. either-way _ _
    (λ e. let pair = (pairs rows no_columns row).0 e in ap (contains rows) (pair.together ∙ ap (λ (r : Row). pair.left ++ r) (only_empty pair.right pair.in_second) ∙ append_nil pair.left) ∙ pair.in_first)
    (λ e. (pairs rows no_columns row).1 (record { left = row; right = []; in_first = e; in_second = has_empty; together = sym (append_nil row) })))

pub overlaid_assoc : (a b c : RowSet) → overlaid (overlaid a b) c ≡ overlaid a (overlaid b c)
overlaid_assoc a b c = same_rows _ _ (λ row. either-way _ _
    (λ e.
    let outer = (pairs (overlaid a b) c row).0 e in
    let inner = (pairs a b outer.left).0 outer.in_first in
    (pairs a (overlaid b c) row).1 (record {
      left = inner.left;
      right = inner.right ++ outer.right;
      in_first = inner.in_first;
      in_second = (pairs b c (inner.right ++ outer.right)).1 (record { left = inner.right; right = outer.right; in_first = inner.in_second; in_second = outer.in_second; together = refl });
      together = outer.together ∙ ap (λ (l : Row). l ++ outer.right) inner.together ∙ append_assoc inner.left inner.right outer.right;
    }))
    (λ e.
    let outer = (pairs a (overlaid b c) row).0 e in
    let inner = (pairs b c outer.right).0 outer.in_second in
    (pairs (overlaid a b) c row).1 (record {
      left = outer.left ++ inner.left;
      right = inner.right;
      in_first = (pairs a b (outer.left ++ inner.left)).1 (record { left = outer.left; right = inner.left; in_first = outer.in_first; in_second = inner.in_first; together = refl });
      in_second = inner.in_second;
      together = outer.together ∙ ap (λ (r : Row). outer.left ++ r) inner.together ∙ sym (append_assoc outer.left inner.left inner.right);
    })))

-- ---- a list of operands

abbrev pub rows_together : World → List Plan → Name → ℕ → RowSet
rows_together world [] route k = no_columns
rows_together world (plan ∷ plans) route k = overlaid (plan_rows_at world plan route k) (rows_together world plans route k)

abbrev pub kind_together : World → List Plan → Kind
kind_together world [] = kinds.Line
kind_together world (plan ∷ plans) = overlaid_kind (plan_kind world plan) (kind_together world plans)

abbrev pub width_together : World → List Plan → ℕ
width_together world [] = 0
width_together world (plan ∷ plans) = plan_width world plan + width_together world plans

pub rows-append : (world : World) (a b : List Plan) (route : Name) (k : ℕ) → rows_together world (a ++ b) route k ≡ overlaid (rows_together world a route k) (rows_together world b route k)
rows-append world [] b route k = sym (unit_left (rows_together world b route k))
rows-append world (plan ∷ a) b route k = ap (overlaid (plan_rows_at world plan route k)) (rows-append world a b route k) ∙ sym (overlaid_assoc (plan_rows_at world plan route k) (rows_together world a route k) (rows_together world b route k))

pub line_first : (a : Kind) → overlaid_kind kinds.Line a ≡ a
line_first kinds.Line = refl
line_first kinds.Point = refl

pub line_last : (a : Kind) → overlaid_kind a kinds.Line ≡ a
line_last kinds.Line = refl
line_last kinds.Point = refl

pub kind_assoc : (a b c : Kind) → overlaid_kind (overlaid_kind a b) c ≡ overlaid_kind a (overlaid_kind b c)
kind_assoc kinds.Line kinds.Line kinds.Line = refl
kind_assoc kinds.Line kinds.Line kinds.Point = refl
kind_assoc kinds.Line kinds.Point kinds.Line = refl
kind_assoc kinds.Line kinds.Point kinds.Point = refl
kind_assoc kinds.Point kinds.Line kinds.Line = refl
kind_assoc kinds.Point kinds.Line kinds.Point = refl
kind_assoc kinds.Point kinds.Point kinds.Line = refl
kind_assoc kinds.Point kinds.Point kinds.Point = refl

kind_comm : (a b : Kind) → overlaid_kind a b ≡ overlaid_kind b a
kind_comm kinds.Line kinds.Line = refl
kind_comm kinds.Line kinds.Point = refl
kind_comm kinds.Point kinds.Line = refl
kind_comm kinds.Point kinds.Point = refl

pub kind-append : (world : World) (a b : List Plan) → kind_together world (a ++ b) ≡ overlaid_kind (kind_together world a) (kind_together world b)
kind-append world [] b = sym (line_first (kind_together world b))
kind-append world (plan ∷ a) b = ap (overlaid_kind (plan_kind world plan)) (kind-append world a b) ∙ sym (kind_assoc (plan_kind world plan) (kind_together world a) (kind_together world b))

pub width-append : (world : World) (a b : List Plan) → width_together world (a ++ b) ≡ width_together world a + width_together world b
width-append world [] b = omega arith
width-append world (plan ∷ a) b = let rest = width-append world a b in omega (arith, rest)

-- ---- by weight

kinds-inserted : (world : World) (record_count : Name → ℕ) (one : PlacedOperand) (others : List PlacedOperand)
    → overlaid_kinds world (operands_of (inserted_by_weight record_count one others)) ≡ overlaid_kind (plan_kind world one.plan) (overlaid_kinds world (operands_of others))
kinds-inserted world record_count one [] = refl
kinds-inserted world record_count one (other ∷ others) = by (nat_le (weight record_count one.plan) (weight record_count other.plan)) (kinds-inserted world record_count one others)
  where
    first : Kind
    first = plan_kind world one.plan

    second : Kind
    second = plan_kind world other.plan

    rest : Kind
    rest = overlaid_kinds world (operands_of others)

    by : (t : Bool) → overlaid_kinds world (operands_of (inserted_by_weight record_count one others)) ≡ overlaid_kind first rest
        → overlaid_kinds world (operands_of (cond t (one ∷ other ∷ others) (other ∷ inserted_by_weight record_count one others))) ≡ overlaid_kind first (overlaid_kind second rest)
    by true h = refl
    by false h = ap (overlaid_kind second) h ∙ sym (kind_assoc second first rest) ∙ ap (λ x. overlaid_kind x rest) (kind_comm second first) ∙ kind_assoc first second rest

kinds-lightest : (world : World) (record_count : Name → ℕ) (placed : List PlacedOperand) → overlaid_kinds world (operands_of (lightest_first record_count placed)) ≡ overlaid_kinds world (operands_of placed)
kinds-lightest world record_count [] = refl
kinds-lightest world record_count (one ∷ others) = kinds-inserted world record_count one (lightest_first record_count others) ∙ ap (overlaid_kind (plan_kind world one.plan)) (kinds-lightest world record_count others)

rows-in_order : (world : World) (from : ℕ) (plans : List Plan) (route : Name) (k : ℕ) → overlaid_rows_at world (operands_of (in_written_order world from plans)) route k ≡ rows_together world plans route k
rows-in_order world from [] route k = refl
rows-in_order world from (plan ∷ plans) route k = ap (overlaid (plan_rows_at world plan route k)) (rows-in_order world (from + plan_width world plan) plans route k)

kinds-in_order : (world : World) (from : ℕ) (plans : List Plan) → overlaid_kinds world (operands_of (in_written_order world from plans)) ≡ kind_together world plans
kinds-in_order world from [] = refl
kinds-in_order world from (plan ∷ plans) = ap (overlaid_kind (plan_kind world plan)) (kinds-in_order world (from + plan_width world plan) plans)

width-in_order : (world : World) (from : ℕ) (plans : List Plan) → length (columns_together (in_written_order world from plans)) ≡ width_together world plans
width-in_order world from [] = refl
width-in_order world from (plan ∷ plans) =
    length-append (range_with_len from (plan_width world plan)) (columns_together (in_written_order world (from + plan_width world plan) plans))
    ∙ (λ i. length-range_with_len from (plan_width world plan) i + width-in_order world (from + plan_width world plan) plans i)

-- ---- one plan

abbrev pub by_weight : Basis → List Plan → List PlacedOperand
by_weight basis plans = lightest_first basis.record_count (in_written_order basis.world 0 plans)

pub back-length : (placed : List PlacedOperand) → length (put_back placed) ≡ length (columns_together placed)
back-length placed = length-map (range_with_len 0 (length (columns_together placed))) _ ∙ length-range_with_len 0 (length (columns_together placed))

overlay-kind : (basis : Basis) (plans : List Plan) → plan_kind basis.world (overlay_of (by_weight basis plans)) ≡ kind_together basis.world plans
overlay-kind basis plans = kinds-lightest basis.world basis.record_count (in_written_order basis.world 0 plans) ∙ kinds-in_order basis.world 0 plans

pub overlay-width : (basis : Basis) (plans : List Plan) → plan_width basis.world (overlay_of (by_weight basis plans)) ≡ width_together basis.world plans
overlay-width basis plans =
    back-length (by_weight basis plans)
    ∙ length-flat_map (λ (one : PlacedOperand). one.columns) (by_weight basis plans)
    ∙ sum_by-IsPermutation (λ (one : PlacedOperand). length one.columns) order (by_weight basis plans) (lightest-permutes basis.record_count order)
    ∙ sym (length-flat_map (λ (one : PlacedOperand). one.columns) order)
    ∙ width-in_order basis.world 0 plans
  where
    order : List PlacedOperand
    order = in_written_order basis.world 0 plans

pub together-kind : (basis : Basis) (plans : List Plan) → plan_kind basis.world (together basis plans) ≡ kind_together basis.world plans
together-kind basis [] = overlay-kind basis []
together-kind basis (plan ∷ []) = sym (line_last (plan_kind basis.world plan))
together-kind basis (plan ∷ other ∷ plans) = overlay-kind basis (plan ∷ other ∷ plans)

pub together-width : (basis : Basis) (plans : List Plan) → plan_width basis.world (together basis plans) ≡ width_together basis.world plans
together-width basis [] = overlay-width basis []
together-width basis (plan ∷ []) = omega arith
together-width basis (plan ∷ other ∷ plans) = overlay-width basis (plan ∷ other ∷ plans)

overlay-rows : (basis : Basis) (plans : List Plan) → AllByRecursion (HasItsWidth basis.world) plans → (route : Name) (k : ℕ)
    → plan_rows_at basis.world (overlay_of (by_weight basis plans)) route k ≡ rows_together basis.world plans route k
overlay-rows basis plans wide route k =
    back-rows basis.world plans (by_weight basis plans) wide (lightest-permutes basis.record_count (in_written_order basis.world 0 plans)) route k
    ∙ rows-in_order basis.world 0 plans route k

-- the one plan that they make has the rows that they have together
pub together-rows : (basis : Basis) (plans : List Plan) → AllByRecursion (HasItsWidth basis.world) plans → (route : Name) (k : ℕ)
    → plan_rows_at basis.world (together basis plans) route k ≡ rows_together basis.world plans route k
together-rows basis [] wide route k = overlay-rows basis [] wide route k
together-rows basis (plan ∷ []) wide route k = sym (unit_right (plan_rows_at basis.world plan route k))
together-rows basis (plan ∷ other ∷ plans) wide route k = overlay-rows basis (plan ∷ other ∷ plans) wide route k
