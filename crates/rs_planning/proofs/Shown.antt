-- Rows that are seen through windows and meet conditions, and what operators make of them.
use Rattle.std.proofs.Common.{◌≡◌, ℕ, ◌+◌, ◌-◌, Bool, true, false, not, ◌&&◌, ◌||◌, cond, List, [], ◌∷◌, ◌++◌, map, filter, length, Option, refl, sym, ap, ◌∙◌}
use Rattle.std.specs.List.{list_all, list_any}
use Rattle.std.proofs.lemmas.Bool.{and_parts, and_from}
use Rattle.std.proofs.lemmas.List.Folds.{list_all-append}
use Rattle.rs_value.specs.Row.{Row}
use Rattle.rs_facts.specs.Condition.{Condition, meets}
use Rattle.rs_facts.specs.Fact.{Name, RowSet, none, contains, items, keep, Facts, Places}
use Rattle.rs_facts.specs.Insert.{same_name, within}
use Rattle.rs_facts.specs.Operators.{nulls, chosen, mapped, dissolved, overlaid, covered, merged, without, windowed, carried}
use Rattle.rs_facts.specs.OperatorLaws.{ChangedRowsAreThose, OverlaidRowsArePairs}
use Rattle.rs_facts.specs.Query.{RouteEnds, Window, on_route, between, Piece, seen_through, carried_by, transformed, gapped_on}
use Rattle.rs_facts.proofs.Rows.{same_row, same_row-true, same_row-equal}
use Rattle.rs_facts.proofs.Sets.{contains-none, same_rows}
use Rattle.rs_facts.proofs.RowSets.{any-items, among-items, either-way, contains-mapped, contains-overlaid, contains-merged, contains-keep, contains-without, contains-covered, any_row, in_cond}
use Rattle.rs_facts.proofs.Carrying.{contains-carried}
use Rattle.rs_planning.specs.Checked.{ReadBelow}
use Rattle.rs_planning.specs.Conjuncts.{conjuncts, meets_each, is_of_left, is_of_right, is_of_both, under_dissolve, under_right}
use Rattle.rs_planning.specs.Plan.{seen_through_each, met_by_each}
use Rattle.rs_planning.proofs.Meeting.{conjuncts-meet, meets-under_dissolve, split}

-- ---- single rows of what is made

pub changed : ChangedRowsAreThose
changed change rows row = (
  λ e.
      let one = among-items (λ from. same_row (change from) row) rows (sym (contains-mapped change rows row) ∙ e) in
      record { from = one.row; among = one.among; is = sym (same_row-true (change one.row) row one.passes) },
  λ h. contains-mapped change rows row ∙ any-items (λ from. same_row (change from) row) rows h.from h.among (same_row-equal (change h.from) row (sym h.is)),
)

pub pairs : OverlaidRowsArePairs
pairs a b row = (
  λ e.
      let one = among-items (λ x. list_any (λ y. same_row (x ++ y) row) (items b)) a (sym (contains-overlaid a b row) ∙ e) in
      let two = among-items (λ y. same_row (one.row ++ y) row) b one.passes in
      record { left = one.row; right = two.row; in_first = one.among; in_second = two.among; together = sym (same_row-true (one.row ++ two.row) row two.passes) },
  λ h. contains-overlaid a b row ∙ any-items (λ x. list_any (λ y. same_row (x ++ y) row) (items b)) a h.left h.in_first
      (any-items (λ y. same_row (h.left ++ y) row) b h.right h.in_second (same_row-equal (h.left ++ h.right) row (sym h.together))),
)

pub in_none : (row : Row) → contains none row ≡ true → ⊥
in_none row e = let free = contains-none row in cc

-- a set that has no row
no_rows : (rows : RowSet) → ((row : Row) → contains rows row ≡ true → ⊥) → rows ≡ none
no_rows rows h = same_rows rows none (λ row. either-way _ _ (λ e. absurd (h row e)) (λ e. absurd (in_none row e)))

overlaid_none : overlaid none none ≡ none
overlaid_none = no_rows (overlaid none none) (λ row e. let pair = (pairs none none row).0 e in in_none pair.left pair.in_first)

mapped_none : (change : Row → Row) → mapped change none ≡ none
mapped_none change = no_rows (mapped change none) (λ row e. let one = (changed change none row).0 e in in_none one.from one.among)

dissolved_none : (columns : List ℕ) → dissolved columns none ≡ none
unfolding dissolved
dissolved_none columns = mapped_none (chosen columns)

merged_none : merged none none ≡ none
merged_none = same_rows _ _ (λ row. contains-merged none none row ∙ (λ i. contains-none row i || contains-none row i) ∙ sym (contains-none row))

without_none : without none none ≡ none
without_none = same_rows _ _ (λ row. contains-without none none row ∙ (λ i. contains-none row i && not (contains-none row i)) ∙ sym (contains-none row))

covered_none : (m n : ℕ) → covered m n none none ≡ none
covered_none m n = same_rows _ _ (λ row.
    contains-covered m n none none row
    ∙ (λ i. contains (overlaid_none i) row || (not (any_row none) && contains (mapped_none (λ x. x ++ nulls n) i) row) || (not (any_row none) && contains (mapped_none (λ y. nulls m ++ y) i) row))
    ∙ (λ i. contains-none row i || (not (any_row none) && contains-none row i) || (not (any_row none) && contains-none row i))
    ∙ nothing (not (any_row none))
    ∙ sym (contains-none row))
  where
    nothing : (t : Bool) → (false || (t && false) || (t && false)) ≡ false
    nothing true = refl
    nothing false = refl

-- ---- conditions

pub contains-met : (conditions : List Condition) (rows : RowSet) (row : Row) → contains (met_by_each conditions rows) row ≡ (contains rows row && meets_each conditions row)
contains-met conditions rows row = contains-keep (meets_each conditions) rows row

met_none : (conditions : List Condition) → met_by_each conditions none ≡ none
met_none conditions = no_rows (met_by_each conditions none) (λ row e. in_none row (and_parts (contains none row) (meets_each conditions row) (sym (contains-met conditions none row) ∙ e)).0)

pub met_by_none : (rows : RowSet) → met_by_each [] rows ≡ rows
met_by_none rows = same_rows _ _ (λ row. contains-met [] rows row ∙ and_true (contains rows row))
  where
    and_true : (t : Bool) → (t && true) ≡ t
    and_true true = refl
    and_true false = refl

met_condition : (condition : Condition) (rows : RowSet) → met_by_each (conjuncts condition) rows ≡ keep (meets condition) rows
met_condition condition rows i = keep (λ row. conjuncts-meet condition row i) rows

met_append : (a b : List Condition) (rows : RowSet) → met_by_each (a ++ b) rows ≡ met_by_each a (met_by_each b rows)
met_append a b rows = same_rows _ _ (λ row.
    contains-met (a ++ b) rows row
    ∙ ap (λ t. contains rows row && t) (list_all-append (λ condition. meets condition row) a b)
    ∙ turned (contains rows row) (meets_each a row) (meets_each b row)
    ∙ ap (λ t. t && meets_each a row) (sym (contains-met b rows row))
    ∙ sym (contains-met a (met_by_each b rows) row))
  where
    turned : (c s t : Bool) → (c && (s && t)) ≡ ((c && t) && s)
    turned true true true = refl
    turned true true false = refl
    turned true false true = refl
    turned true false false = refl
    turned false s t = refl

-- ---- windows

-- whether a thousandth of a route is inside
abbrev inside : Window → Name → ℕ → Bool
inside (on_route name) route k = same_name name route
inside (between name from to) route k = same_name name route && within from to k

abbrev pub inside_each : List Window → Name → ℕ → Bool
inside_each windows route k = list_all (λ window. inside window route k) windows

cond_twice : (s t : Bool) (rows : RowSet) → cond s (cond t rows none) none ≡ cond (s && t) rows none
cond_twice true t rows = refl
cond_twice false t rows = refl

seen : (window : Window) (route : Name) (k : ℕ) (rows : RowSet) → seen_through window route k rows ≡ cond (inside window route k) rows none
unfolding windowed
seen (on_route name) route k rows = refl
seen (between name from to) route k rows = cond_twice (same_name name route) (within from to k) rows

pub contains-seen : (window : Window) (route : Name) (k : ℕ) (rows : RowSet) (row : Row) → contains (seen_through window route k rows) row ≡ true → contains rows row ≡ true
contains-seen window route k rows row e = (and_parts (inside window route k) (contains rows row) (sym (in_cond (inside window route k) rows row) ∙ ap (λ (r : RowSet). contains r row) (sym (seen window route k rows)) ∙ e)).1

pub seen_each : (windows : List Window) (route : Name) (k : ℕ) (rows : RowSet) → seen_through_each windows route k rows ≡ cond (inside_each windows route k) rows none
seen_each [] route k rows = refl
seen_each (window ∷ windows) route k rows =
    seen window route k (seen_through_each windows route k rows)
    ∙ ap (λ (r : RowSet). cond (inside window route k) r none) (seen_each windows route k rows)
    ∙ cond_twice (inside window route k) (inside_each windows route k) rows

-- ---- both

-- the rows inside the windows that meet the conditions
abbrev pub shown : List Window → List Condition → Name → ℕ → RowSet → RowSet
shown windows conditions route k rows = cond (inside_each windows route k) (met_by_each conditions rows) none

pub contains-shown : (windows : List Window) (conditions : List Condition) (route : Name) (k : ℕ) (rows : RowSet) (row : Row) → contains (shown windows conditions route k rows) row ≡ true → contains rows row ≡ true
contains-shown windows conditions route k rows row e =
    let inner = and_parts (inside_each windows route k) (contains (met_by_each conditions rows) row) (sym (in_cond (inside_each windows route k) (met_by_each conditions rows) row) ∙ e) in
    (and_parts (contains rows row) (meets_each conditions row) (sym (contains-met conditions rows row) ∙ inner.1)).0

pub shown_whole : (route : Name) (k : ℕ) (rows : RowSet) → shown [] [] route k rows ≡ rows
shown_whole route k rows = met_by_none rows

pub shown_leaf : (windows : List Window) (conditions : List Condition) (route : Name) (k : ℕ) (rows : RowSet) → met_by_each conditions (seen_through_each windows route k rows) ≡ shown windows conditions route k rows
shown_leaf windows conditions route k rows = ap (met_by_each conditions) (seen_each windows route k rows) ∙ out (inside_each windows route k)
  where
    out : (t : Bool) → met_by_each conditions (cond t rows none) ≡ cond t (met_by_each conditions rows) none
    out true = refl
    out false = met_none conditions

pub shown_where : (windows : List Window) (conditions : List Condition) (condition : Condition) (route : Name) (k : ℕ) (rows : RowSet)
    → shown windows (conditions ++ conjuncts condition) route k rows ≡ shown windows conditions route k (keep (meets condition) rows)
shown_where windows conditions condition route k rows = ap (λ (r : RowSet). cond (inside_each windows route k) r none)
    (met_append conditions (conjuncts condition) rows ∙ ap (met_by_each conditions) (met_condition condition rows))

pub shown_window : (windows : List Window) (window : Window) (conditions : List Condition) (route : Name) (k : ℕ) (rows : RowSet)
    → shown (windows ++ window ∷ []) conditions route k rows ≡ shown windows conditions route k (seen_through window route k rows)
shown_window windows window conditions route k rows =
    ap (λ t. cond t (met_by_each conditions rows) none) (list_all-append (λ w. inside w route k) windows (window ∷ []))
    ∙ parted (inside_each windows route k) (inside window route k)
    ∙ ap (λ (r : RowSet). cond (inside_each windows route k) (met_by_each conditions r) none) (sym (seen window route k rows))
  where
    parted : (s t : Bool) → cond (s && (t && true)) (met_by_each conditions rows) none ≡ cond s (met_by_each conditions (cond t rows none)) none
    parted true true = refl
    parted true false = sym (met_none conditions)
    parted false t = refl

-- ---- operators over them

pub shown_dissolve : (windows : List Window) (conditions : List Condition) (columns : List ℕ) (route : Name) (k : ℕ) (rows : RowSet) → ReadBelow (length columns) conditions
    → dissolved columns (shown windows (map (under_dissolve columns) conditions) route k rows) ≡ shown windows conditions route k (dissolved columns rows)
unfolding dissolved
shown_dissolve windows conditions columns route k rows below = out (inside_each windows route k)
  where
    one_way : dissolved columns (met_by_each (map (under_dissolve columns) conditions) rows) ≡ met_by_each conditions (dissolved columns rows)
    one_way = same_rows _ _ (λ row. either-way _ _
        (λ e.
        let one = (changed (chosen columns) (met_by_each (map (under_dissolve columns) conditions) rows) row).0 e in
        let parts = and_parts (contains rows one.from) _ (sym (contains-met (map (under_dissolve columns) conditions) rows one.from) ∙ one.among) in
        contains-met conditions (mapped (chosen columns) rows) row ∙ and_from _ _
        ((changed (chosen columns) rows row).1 (record { from = one.from; among = parts.0; is = one.is }))
        (ap (meets_each conditions) one.is ∙ sym (meets-under_dissolve columns one.from conditions below) ∙ parts.1))
        (λ e.
        let parts = and_parts (contains (mapped (chosen columns) rows) row) _ (sym (contains-met conditions (mapped (chosen columns) rows) row) ∙ e) in
        let one = (changed (chosen columns) rows row).0 parts.0 in
        (changed (chosen columns) (met_by_each (map (under_dissolve columns) conditions) rows) row).1 (record {
          from = one.from;
          among = contains-met (map (under_dissolve columns) conditions) rows one.from ∙ and_from _ _ one.among (meets-under_dissolve columns one.from conditions below ∙ ap (meets_each conditions) (sym one.is) ∙ parts.1);
          is = one.is;
        })))

    out : (t : Bool) → dissolved columns (cond t (met_by_each (map (under_dissolve columns) conditions) rows) none) ≡ cond t (met_by_each conditions (dissolved columns rows)) none
    out true = one_way
    out false = dissolved_none columns

pub shown_merge : (windows : List Window) (conditions : List Condition) (route : Name) (k : ℕ) (a b : RowSet)
    → merged (shown windows conditions route k a) (shown windows conditions route k b) ≡ shown windows conditions route k (merged a b)
shown_merge windows conditions route k a b = out (inside_each windows route k)
  where
    turned : (s t m : Bool) → ((s && m) || (t && m)) ≡ ((s || t) && m)
    turned true true m = or_same m
      where
        or_same : (m : Bool) → (m || m) ≡ m
        or_same true = refl
        or_same false = refl
    turned true false m = or_false m
      where
        or_false : (m : Bool) → (m || false) ≡ m
        or_false true = refl
        or_false false = refl
    turned false t m = refl

    out : (t : Bool) → merged (cond t (met_by_each conditions a) none) (cond t (met_by_each conditions b) none) ≡ cond t (met_by_each conditions (merged a b)) none
    out true = same_rows _ _ (λ row.
        contains-merged (met_by_each conditions a) (met_by_each conditions b) row
        ∙ (λ i. contains-met conditions a row i || contains-met conditions b row i)
        ∙ turned (contains a row) (contains b row) (meets_each conditions row)
        ∙ ap (λ t. t && meets_each conditions row) (sym (contains-merged a b row))
        ∙ sym (contains-met conditions (merged a b) row))
    out false = merged_none

pub shown_minus : (windows : List Window) (conditions : List Condition) (route : Name) (k : ℕ) (a b : RowSet)
    → without (shown windows conditions route k a) (shown windows conditions route k b) ≡ shown windows conditions route k (without a b)
shown_minus windows conditions route k a b = out (inside_each windows route k)
  where
    turned : (s t m : Bool) → ((s && m) && not (t && m)) ≡ ((s && not t) && m)
    turned true true true = refl
    turned true true false = refl
    turned true false true = refl
    turned true false false = refl
    turned false t m = refl

    out : (t : Bool) → without (cond t (met_by_each conditions a) none) (cond t (met_by_each conditions b) none) ≡ cond t (met_by_each conditions (without a b)) none
    out true = same_rows _ _ (λ row.
        contains-without (met_by_each conditions a) (met_by_each conditions b) row
        ∙ (λ i. contains-met conditions a row i && not (contains-met conditions b row i))
        ∙ turned (contains a row) (contains b row) (meets_each conditions row)
        ∙ ap (λ t. t && meets_each conditions row) (sym (contains-without a b row))
        ∙ sym (contains-met conditions (without a b) row))
    out false = without_none

-- COVER takes windows into both operands, and no condition
pub shown_cover : (windows : List Window) (conditions : List Condition) (m n : ℕ) (route : Name) (k : ℕ) (a b : RowSet)
    → met_by_each conditions (covered m n (shown windows [] route k a) (shown windows [] route k b)) ≡ shown windows conditions route k (covered m n a b)
shown_cover windows conditions m n route k a b = out (inside_each windows route k)
  where
    out : (t : Bool) → met_by_each conditions (covered m n (cond t (met_by_each [] a) none) (cond t (met_by_each [] b) none)) ≡ cond t (met_by_each conditions (covered m n a b)) none
    out true = λ i. met_by_each conditions (covered m n (met_by_none a i) (met_by_none b i))
    out false = ap (met_by_each conditions) (covered_none m n) ∙ met_none conditions

-- TRANSFORM takes conditions into its operand, and no window
carried_met : (conditions : List Condition) (from to onto : ℕ) (places : Places) (j : ℕ) (row : Row)
    → contains (carried from to onto (λ k. met_by_each conditions (places k)) j) row ≡ (contains (carried from to onto places j) row && meets_each conditions row)
carried_met conditions from to onto places j row =
    contains-carried from to onto (λ k. met_by_each conditions (places k)) j row
    ∙ ap (λ t. within onto (onto + (to - from)) j && t) (contains-met conditions (places (from + (j - onto))) row)
    ∙ turned (within onto (onto + (to - from)) j) (contains (places (from + (j - onto))) row) (meets_each conditions row)
    ∙ ap (λ t. t && meets_each conditions row) (sym (contains-carried from to onto places j row))
  where
    turned : (s t m : Bool) → (s && (t && m)) ≡ ((s && t) && m)
    turned true t m = refl
    turned false t m = refl

transformed_met : (conditions : List Condition) (pieces : List Piece) (facts : Facts) (route : Name) (j : ℕ)
    → transformed pieces (λ r k. met_by_each conditions (facts r k)) route j ≡ met_by_each conditions (transformed pieces facts route j)
transformed_met conditions [] facts route j = sym (met_none conditions)
transformed_met conditions (piece ∷ pieces) facts route j = same_rows _ _ (λ row.
    contains-merged _ _ row
    ∙ (λ i. by_piece row i || contains (transformed_met conditions pieces facts route j i) row)
    ∙ ap (λ t. (contains (carried_by piece facts route j) row && meets_each conditions row) || t) (contains-met conditions (transformed pieces facts route j) row)
    ∙ turned (contains (carried_by piece facts route j) row) (contains (transformed pieces facts route j) row) (meets_each conditions row)
    ∙ ap (λ t. t && meets_each conditions row) (sym (contains-merged (carried_by piece facts route j) (transformed pieces facts route j) row))
    ∙ sym (contains-met conditions (transformed (piece ∷ pieces) facts route j) row))
  where
    here : Bool
    here = same_name piece.onto_route route

    by_piece : (row : Row) → contains (carried_by piece (λ r k. met_by_each conditions (facts r k)) route j) row ≡ (contains (carried_by piece facts route j) row && meets_each conditions row)
    by_piece row =
        in_cond here (carried piece.from piece.to piece.onto (λ k. met_by_each conditions (facts piece.from_route k)) j) row
        ∙ ap (λ t. here && t) (carried_met conditions piece.from piece.to piece.onto (facts piece.from_route) j row)
        ∙ moved here _ (meets_each conditions row)
        ∙ ap (λ t. t && meets_each conditions row) (sym (in_cond here (carried piece.from piece.to piece.onto (facts piece.from_route) j) row))
      where
        moved : (s t m : Bool) → (s && (t && m)) ≡ ((s && t) && m)
        moved true t m = refl
        moved false t m = refl

    turned : (s t m : Bool) → ((s && m) || (t && m)) ≡ ((s || t) && m)
    turned true true true = refl
    turned true true false = refl
    turned true false true = refl
    turned true false false = refl
    turned false t m = refl

pub shown_transform : (windows : List Window) (conditions : List Condition) (pieces : List Piece) (facts : Facts) (route : Name) (j : ℕ)
    → seen_through_each windows route j (transformed pieces (λ r k. shown [] conditions r k (facts r k)) route j) ≡ shown windows conditions route j (transformed pieces facts route j)
shown_transform windows conditions pieces facts route j =
    seen_each windows route j _ ∙ ap (λ (r : RowSet). cond (inside_each windows route j) r none) (transformed_met conditions pieces facts route j)

-- GAPS takes neither into its operand
pub shown_gaps : (windows : List Window) (conditions : List Condition) (ends : Option RouteEnds) (route : Name) (k : ℕ) (rows : RowSet)
    → met_by_each conditions (seen_through_each windows route k (gapped_on ends k (shown [] [] route k rows))) ≡ shown windows conditions route k (gapped_on ends k rows)
shown_gaps windows conditions ends route k rows =
    ap (λ (r : RowSet). met_by_each conditions (seen_through_each windows route k (gapped_on ends k r))) (shown_whole route k rows)
    ∙ shown_leaf windows conditions route k (gapped_on ends k rows)

-- OVERLAY, of a left operand of this width
pub shown_overlay : (windows : List Window) (conditions : List Condition) (width : ℕ) (route : Name) (k : ℕ) (a b : RowSet) → ((row : Row) → contains a row ≡ true → length row ≡ width)
    → met_by_each (filter (is_of_both width) conditions)
    (overlaid (shown windows (filter (is_of_left width) conditions) route k a) (shown windows (map (under_right width) (filter (is_of_right width) conditions)) route k b))
    ≡ shown windows conditions route k (overlaid a b)
shown_overlay windows conditions width route k a b wide = out (inside_each windows route k)
  where
    of_left : List Condition
    of_left = filter (is_of_left width) conditions

    of_right : List Condition
    of_right = map (under_right width) (filter (is_of_right width) conditions)

    of_both : List Condition
    of_both = filter (is_of_both width) conditions

    one_way : met_by_each of_both (overlaid (met_by_each of_left a) (met_by_each of_right b)) ≡ met_by_each conditions (overlaid a b)
    one_way = same_rows _ _ (λ row. either-way _ _
        (λ e.
        let parts = and_parts _ _ (sym (contains-met of_both (overlaid (met_by_each of_left a) (met_by_each of_right b)) row) ∙ e) in
        let pair = (pairs (met_by_each of_left a) (met_by_each of_right b) row).0 parts.0 in
        let left = and_parts _ _ (sym (contains-met of_left a pair.left) ∙ pair.in_first) in
        let right = and_parts _ _ (sym (contains-met of_right b pair.right) ∙ pair.in_second) in
        contains-met conditions (overlaid a b) row ∙ and_from _ _
        ((pairs a b row).1 (record { left = pair.left; right = pair.right; in_first = left.0; in_second = right.0; together = pair.together }))
        (ap (meets_each conditions) pair.together ∙ split width pair.left pair.right (wide pair.left left.0) conditions
        ∙ and_from _ _ (and_from _ _ left.1 right.1) (ap (meets_each of_both) (sym pair.together) ∙ parts.1)))
        (λ e.
        let parts = and_parts _ _ (sym (contains-met conditions (overlaid a b) row) ∙ e) in
        let pair = (pairs a b row).0 parts.0 in
        let cut = and_parts _ _ (sym (split width pair.left pair.right (wide pair.left pair.in_first) conditions) ∙ ap (meets_each conditions) (sym pair.together) ∙ parts.1) in
        let sides = and_parts (meets_each of_left pair.left) (meets_each of_right pair.right) cut.0 in
        contains-met of_both (overlaid (met_by_each of_left a) (met_by_each of_right b)) row ∙ and_from _ _
        ((pairs (met_by_each of_left a) (met_by_each of_right b) row).1 (record {
          left = pair.left;
          right = pair.right;
          in_first = contains-met of_left a pair.left ∙ and_from _ _ pair.in_first sides.0;
          in_second = contains-met of_right b pair.right ∙ and_from _ _ pair.in_second sides.1;
          together = pair.together;
        }))
        (ap (meets_each of_both) pair.together ∙ cut.1)))

    out : (t : Bool) → met_by_each of_both (overlaid (cond t (met_by_each of_left a) none) (cond t (met_by_each of_right b) none)) ≡ cond t (met_by_each conditions (overlaid a b)) none
    out true = one_way
    out false = ap (met_by_each of_both) overlaid_none ∙ met_none of_both
