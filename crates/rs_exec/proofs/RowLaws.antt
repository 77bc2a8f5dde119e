-- Laws of row sets: conditions one after another, windows one inside another, and OVERLAY of nothing.
use Rattle.std.proofs.Common.{◌≡◌, ◌≤◌, ◌<◌, ℕ, min, max, Bool, true, false, ◌&&◌, List, [], ◌∷◌, ◌++◌, map, length, get_or, suc, zero, refl, sym, ap, ◌∙◌, arith}
use Rattle.std.proofs.lemmas.Bool.{and_parts, and_from}
use Rattle.std.specs.List.{list_any}
use Rattle.rs_value.specs.Row.{Row}
use Rattle.rs_facts.specs.Condition.{Condition, meets}
use Rattle.rs_facts.specs.ConditionView.{condition_of}
use Rattle.rs_facts.specs.declared.condition.Condition as code
use Rattle.rs_facts.specs.Fact.{RowSet, none, contains, items, keep}
use Rattle.rs_facts.specs.Insert.{within}
use Rattle.rs_facts.specs.Operators.{overlaid, windowed}
use Rattle.rs_facts.proofs.Placing.{within-true, within-bounds}
use Rattle.rs_facts.proofs.RowSets.{either-way, among-items, contains-keep, contains-overlaid, contains-windowed}
use Rattle.rs_facts.proofs.Rows.{same_row}
use Rattle.rs_facts.proofs.Sets.{contains-none, same_rows}
use Rattle.rs_planning.specs.Conjuncts.{meets_each}
use Rattle.rs_planning.specs.Plan.{met_by_each}

and_true : (a : Bool) → (a && true) ≡ a
and_true true = refl
and_true false = refl

and_false : (a : Bool) → (a && false) ≡ false
and_false true = refl
and_false false = refl

and_assoc : (a b c : Bool) → ((a && b) && c) ≡ (a && (b && c))
and_assoc true b c = refl
and_assoc false b c = refl

-- ---- conditions

pub met-none : (rows : RowSet) → met_by_each [] rows ≡ rows
met-none rows = same_rows _ _ (λ row. contains-keep (meets_each []) rows row ∙ and_true (contains rows row))

pub met-more : (condition : Condition) (conditions : List Condition) (rows : RowSet) → met_by_each (condition ∷ conditions) rows ≡ met_by_each conditions (keep (meets condition) rows)
met-more condition conditions rows = same_rows _ _ (λ row.
    contains-keep (meets_each (condition ∷ conditions)) rows row
    ∙ sym (and_assoc (contains rows row) (meets condition row) (meets_each conditions row))
    ∙ ap (λ t. t && meets_each conditions row) (sym (contains-keep (meets condition) rows row))
    ∙ sym (contains-keep (meets_each conditions) (keep (meets condition) rows) row))

pub met-nothing : (conditions : List Condition) → met_by_each conditions none ≡ none
met-nothing conditions = same_rows _ _ (λ row. contains-keep (meets_each conditions) none row ∙ ap (λ t. t && meets_each conditions row) (contains-none row) ∙ sym (contains-none row))

-- row sets that agree in the rows that pass a test, where each row that meets the conditions passes it
pub met-through : (test : Row → Bool) (conditions : List Condition) (a b : RowSet) → ((row : Row) → meets_each conditions row ≡ true → test row ≡ true) → keep test a ≡ keep test b → met_by_each conditions a ≡ met_by_each conditions b
met-through test conditions a b passes same = same_rows _ _ (λ row.
    contains-keep (meets_each conditions) a row ∙ each row ∙ sym (contains-keep (meets_each conditions) b row))
  where
    passing : (row : Row) → test row ≡ true → contains a row ≡ contains b row
    passing row e =
        sym (and_true (contains a row)) ∙ ap (λ t. contains a row && t) (sym e) ∙ sym (contains-keep test a row)
        ∙ ap (λ rows. contains rows row) same
        ∙ contains-keep test b row ∙ ap (λ t. contains b row && t) e ∙ and_true (contains b row)

    each : (row : Row) → (contains a row && meets_each conditions row) ≡ (contains b row && meets_each conditions row)
    each row = elim (meets_each conditions row) as (λ t. meets_each conditions row ≡ t → (contains a row && t) ≡ (contains b row && t)) [
      | true ↦ λ e. ap (λ t. t && true) (passing row (passes row e))
      | false ↦ λ e. and_false (contains a row) ∙ sym (and_false (contains b row))
    ] refl

-- what meets all of them meets the one at a place
pub meets-at : (conditions : List code.Condition) (i : ℕ) (condition : code.Condition) (row : Row) → i < length conditions → condition ≡ get_or conditions i condition → meets_each (map condition_of conditions) row ≡ true → meets (condition_of condition) row ≡ true
meets-at [] i condition row below is met = absurd (omega (arith, below))
meets-at (x ∷ xs) zero condition row below is met = ap (λ c. meets (condition_of c) row) is ∙ (and_parts (meets (condition_of x) row) (meets_each (map condition_of xs) row) met).0
meets-at (x ∷ xs) (suc i) condition row below is met = meets-at xs i condition row (omega (arith, below)) is (and_parts (meets (condition_of x) row) (meets_each (map condition_of xs) row) met).1

-- ---- windows

within_both : (a b c d k : ℕ) → within (max a b) (min c d) k ≡ (within b d k && within a c k)
within_both a b c d k = either-way _ _
    (λ e. let h = within-bounds (max a b) (min c d) k e in and_from (within b d k) (within a c k) (within-true b d k (omega (arith, h.0)) (omega (arith, h.1))) (within-true a c k (omega (arith, h.0)) (omega (arith, h.1))))
    (λ e. let p = and_parts (within b d k) (within a c k) e in let x = within-bounds b d k p.0 in let y = within-bounds a c k p.1 in within-true (max a b) (min c d) k (omega (arith, x.0, y.0)) (omega (arith, x.1, y.1)))

-- the one inside the other
pub windowed-both : (a b c d k : ℕ) (rows : RowSet) → windowed (max a b) (min c d) k rows ≡ windowed b d k (windowed a c k rows)
windowed-both a b c d k rows = same_rows _ _ (λ row.
    contains-windowed (max a b) (min c d) k rows row
    ∙ ap (λ t. t && contains rows row) (within_both a b c d k)
    ∙ and_assoc (within b d k) (within a c k) (contains rows row)
    ∙ sym (contains-windowed b d k (windowed a c k rows) row ∙ ap (λ t. within b d k && t) (contains-windowed a c k rows row)))

pub windowed-nothing : (from to k : ℕ) → windowed from to k none ≡ none
windowed-nothing from to k = same_rows _ _ (λ row. contains-windowed from to k none row ∙ ap (λ t. within from to k && t) (contains-none row) ∙ and_false (within from to k) ∙ sym (contains-none row))

-- nothing lies between ends of which the second is no greater
pub windowed-empty : (from to k : ℕ) (rows : RowSet) → to ≤ from → windowed from to k rows ≡ none
windowed-empty from to k rows empty = same_rows _ _ (λ row. contains-windowed from to k rows row ∙ ap (λ t. t && contains rows row) off ∙ sym (contains-none row))
  where
    off : within from to k ≡ false
    off = elim (within from to k) as (λ t. within from to k ≡ t → t ≡ false) [
      | true ↦ λ e. let b = within-bounds from to k e in absurd (omega (arith, b.0, b.1, empty))
      | false ↦ λ e. refl
    ] refl

-- all rows at the first thousandth of a part are inside it
pub windowed-first : (from to : ℕ) (rows : RowSet) → from < to → windowed from to from rows ≡ rows
windowed-first from to rows some = same_rows _ _ (λ row. contains-windowed from to from rows row ∙ ap (λ t. t && contains rows row) (within-true from to from (omega arith) some))

-- ---- OVERLAY

pub overlaid-nothing : (rows : RowSet) → overlaid none rows ≡ none
overlaid-nothing rows = same_rows _ _ (λ row. contains-overlaid none rows row ∙ nowhere row ∙ sym (contains-none row))
  where
    pairs : Row → Row → Bool
    pairs row x = list_any (λ y. same_row (x ++ y) row) (items rows)

    nowhere : (row : Row) → list_any (pairs row) (items none) ≡ false
    nowhere row = elim (list_any (pairs row) (items none)) as (λ t. list_any (pairs row) (items none) ≡ t → t ≡ false) [
      | true ↦ λ e. absurd (let among = (among-items (pairs row) none e).among in let wrong : false ≡ true = sym (contains-none _) ∙ among in cc)
      | false ↦ λ e. refl
    ] refl
