-- What is kept of the groups is the answer of the definition.
use Rattle.std.proofs.Common.{rules, ◌≡◌, ℕ, ◌+◌, Bool, true, false, ◌&&◌, ◌||◌, cond, T, List, [], ◌∷◌, map, flat_map, Option, Some, None, Ok, Err, IsOk, is_some, unwrap_or, is_eq, Less, Equal, Greater, refl, sym, ap, ◌∙◌, subst}
use Rattle.std.proofs.lemmas.Bool.{lt-ltb, le-ltb}
use Rattle.std.specs.Prelude.{nat_lt}
use Rattle.std.specs.Cmp.{eq_by_cmp_equiv}
use Rattle.std.specs.FinMap.{entries, entries_sorted, get-entries}
use Rattle.std.specs.FinMap.Entries.{find, is_sorted, below_all, same_entries}
use Rattle.std.specs.List.{AllByRecursion, list_any}
use Rattle.std.specs.Ordering.{is_lt, eq_by_cmp}
use Rattle.rs_refusal.specs.declared.refusal.Refusal.TheVariants.{TotalTooLarge}
use Rattle.rs_value.specs.Row.{Row, row_cmp}
use Rattle.rs_facts.specs.declared.totals.TheConstants.{GREATEST_TOTAL}
use Rattle.rs_facts.specs.Fact.{contains, items, thousandths}
use Rattle.rs_facts.specs.Operators.{from_rows, chosen}
use Rattle.rs_facts.specs.Totals.{Along, Total, over_facts, groups_of, total_of, totals_of, totalled, passes_limit}
use Rattle.rs_facts.proofs.Rows.{row_cmp-total, row_cmp-antisymmetric, same_row}
use Rattle.rs_facts.proofs.RowSets.{any-map, any-flat_map, any-same, contains-from_rows}
use Rattle.rs_total.specs.declared.numbers.Numbers.{Numbers}
use Rattle.rs_total.specs.declared.numbers.Sizes.{Sizes}
use Rattle.rs_total.specs.Answer.{has_passed, some_passed, sum_kept, sum_of_sizes, total_kept, AreOfGroups}
use Rattle.rs_total.specs.Counting.{no_numbers}
use Rattle.rs_total.specs.Tally.{Tally, kept_of}
use Rattle.rs_total.specs.Totalling.{AreTotalsOf, AreNumbersOf, AreSizes, has_group, is_above, is_below}

-- ---- each group is found under its row

left_true : (a b : Bool) → T (a && b) → T a
left_true true b h = tt
left_true false b h = absurd h

right_true : (a b : Bool) → T (a && b) → T b
right_true true b h = h
right_true false b h = absurd h

abbrev Groups : Type 0
Groups = List (Row × Numbers)

less_apart : (a b : Row) → T (is_lt (row_cmp a b)) → eq_by_cmp row_cmp b a ≡ false
less_apart a b h = (eq_by_cmp_equiv row_cmp-total).symm b a ∙ elim (row_cmp a b) as (λ o. T (is_lt o) → is_eq o ≡ false) [
  | Less ↦ λ h. refl
  | Equal ↦ λ h. absurd h
  | Greater ↦ λ h. absurd h
] h

abbrev IsKept : Groups → Row × Numbers → Type 0
IsKept all e = kept_of all e.0 ≡ Some e.1

after_first : (first : Row × Numbers) (all rest : Groups) → T (below_all row_cmp first.0 rest) → AllByRecursion (IsKept all) rest → AllByRecursion (IsKept (first ∷ all)) rest
after_first first all [] h each = tt
after_first first all (e ∷ es) h each =
    (ap (λ b. cond b (Some first.1) (kept_of all e.0)) (less_apart first.0 e.0 (left_true _ _ h)) ∙ each.0, after_first first all es (right_true _ _ h) each.1)

kept_each : (groups : Groups) → T (is_sorted row_cmp groups) → AllByRecursion (IsKept groups) groups
kept_each [] h = tt
kept_each (e ∷ es) h =
    (ap (λ b. cond b (Some e.1) (kept_of es e.0)) ((eq_by_cmp_equiv row_cmp-total).refl e.0), after_first e es es (left_true _ _ h) (kept_each es (right_true _ _ h)))

-- ---- the groups are those that have a fact

abbrev rows_only : Groups → List (Row × Unit {0})
rows_only groups = map (λ e. (e.0, tt)) groups

below-only : (row : Row) (groups : Groups) → T (below_all row_cmp row groups) → T (below_all row_cmp row (rows_only groups))
below-only row [] h = tt
below-only row (e ∷ es) h =
    elim (is_lt (row_cmp row e.0)) as (λ b. T (b && below_all row_cmp row es) → T (b && below_all row_cmp row (rows_only es))) [
      | true ↦ below-only row es
      | false ↦ λ h. h
    ] h

both : (a b : Bool) → T a → T b → T (a && b)
both true b h k = k
both false b h k = absurd h

sorted-only : (groups : Groups) → T (is_sorted row_cmp groups) → T (is_sorted row_cmp (rows_only groups))
sorted-only [] h = tt
sorted-only (e ∷ es) h = both _ _ (below-only e.0 es (left_true _ _ h)) (sorted-only es (right_true _ _ h))

some-only : (row : Row) (groups : Groups) → is_some (find row_cmp row (rows_only groups)) ≡ is_some (kept_of groups row)
some-only row [] = refl
some-only row (e ∷ es) =
    elim (eq_by_cmp row_cmp row e.0) as (λ b. is_some (cond b (Some tt) (find row_cmp row (rows_only es))) ≡ is_some (cond b (Some e.1) (kept_of es row))) [
      | true ↦ refl
      | false ↦ some-only row es
    ]

same_unit : (a b : Option (Unit {0})) → is_some a ≡ is_some b → a ≡ b
same_unit None None e = refl
same_unit None (Some y) e = cc
same_unit (Some x) None e = cc
same_unit (Some x) (Some y) e = refl

abbrev rows_along : List ℕ → List Along → List Row
rows_along by routes = flat_map (λ route. flat_map (λ k. map (chosen by) (items (route.places k))) (thousandths route.from route.to)) routes

group_there : (by : List ℕ) (routes : List Along) (group : Row) → contains (from_rows (rows_along by routes)) group ≡ has_group by group routes
unfolding has_group same_row
group_there by routes group =
    contains-from_rows (rows_along by routes) group
    ∙ any-flat_map (λ other. same_row other group) (λ route. flat_map (λ k. map (chosen by) (items (route.places k))) (thousandths route.from route.to)) routes
    ∙ any-same _ _ routes (λ route.
    any-flat_map (λ other. same_row other group) (λ k. map (chosen by) (items (route.places k))) (thousandths route.from route.to)
    ∙ any-same _ _ (thousandths route.from route.to) (λ k. any-map (λ other. same_row other group) (chosen by) (items (route.places k))))

rows-of_only : (groups : Groups) → map (λ e. e.0) (rows_only groups) ≡ map (λ e. e.0) groups
rows-of_only [] = refl
rows-of_only (e ∷ es) = ap (λ rows. e.0 ∷ rows) (rows-of_only es)

groups-kept : (by : List ℕ) (routes : List Along) (groups : Groups) → T (is_sorted row_cmp groups) → ((group : Row) → is_some (kept_of groups group) ≡ has_group by group routes) → groups_of by routes ≡ map (λ e. e.0) groups
unfolding groups_of
groups-kept by routes groups sorted there =
    let set = from_rows (rows_along by routes) in
    ap (map (λ e. e.0))
    (same_entries row_cmp row_cmp-total row_cmp-antisymmetric (entries set) (rows_only groups) (entries_sorted set) (sorted-only groups sorted)
    (λ row. same_unit _ _ (sym (ap is_some (get-entries set row)) ∙ group_there by routes row ∙ sym (there row) ∙ sym (some-only row groups))))
    ∙ rows-of_only groups

-- ---- their totals

sum-kept : (by : List ℕ) (column : ℕ) (group : Row) (routes : List Along) (numbers : Numbers) → AreNumbersOf by (Some column) group routes numbers → has_passed (Some column) numbers ≡ false
    → sum_kept (Some column) numbers ≡ (total_of by (Some column) routes group).sum
sum-kept by column group routes numbers are free = with_sizes numbers.sizes are.sizes free
  where
    with_sizes : (sizes : Option Sizes) → AreSizes (over_facts by group (is_above (Some column)) routes) (over_facts by group (is_below (Some column)) routes) sizes → elim sizes [ Some s ↦ false | None ↦ true ] ≡ false → sum_of_sizes numbers.weight sizes ≡ (total_of by (Some column) routes group).sum
    with_sizes None h e = absurd (let wrong : true ≡ false = e in cc)
    with_sizes (Some s) h e = λ i. Some (record { weight = are.weight i; above_zero = h.0 i; below_zero = h.1 i })

one-total : (by : List ℕ) (column : Option ℕ) (group : Row) (routes : List Along) (numbers : Numbers) → AreNumbersOf by column group routes numbers → has_passed column numbers ≡ false
    → total_kept column group numbers ≡ total_of by column routes group
one-total by None group routes numbers are free = λ i. record { group = group; places = are.places i; sum = None }
one-total by (Some column) group routes numbers are free = λ i. record { group = group; places = are.places i; sum = sum-kept by column group routes numbers are free i }

one-passes : (by : List ℕ) (column : Option ℕ) (group : Row) (routes : List Along) (numbers : Numbers) → AreNumbersOf by column group routes numbers
    → passes_limit (total_of by column routes group).sum ≡ has_passed column numbers
one-passes by None group routes numbers are = refl
one-passes by (Some column) group routes numbers are = with_sizes numbers.sizes _ _ are.sizes
  where
    with_sizes : (sizes : Option Sizes) (a b : ℕ) → AreSizes a b sizes → nat_lt GREATEST_TOTAL (a + b) ≡ elim sizes [ Some s ↦ false | None ↦ true ]
    with_sizes None a b h = lt-ltb GREATEST_TOTAL (a + b) h
    with_sizes (Some s) a b h = le-ltb GREATEST_TOTAL (a + b) h.2

module _ (by : List ℕ) (column : Option ℕ) (routes : List Along) (tally : Tally) (are : AreTotalsOf by column routes tally) where
  numbers_of : (e : Row × Numbers) → IsKept tally.groups e → AreNumbersOf by column e.0 routes e.1
  numbers_of e found = subst (AreNumbersOf by column e.0 routes) (ap (λ o. unwrap_or o no_numbers) found) (are.numbers e.0)

  passing : (es : Groups) → AllByRecursion (IsKept tally.groups) es → list_any (λ t. passes_limit t.sum) (map (total_of by column routes) (map (λ e. e.0) es)) ≡ some_passed column es
  passing [] h = refl
  passing (e ∷ es) h = λ i. one-passes by column e.0 routes e.1 (numbers_of e h.0) i || passing es h.1 i

  first_false : (a b : Bool) → (a || b) ≡ false → a ≡ false
  first_false true b e = e
  first_false false b e = refl

  rest_false : (a b : Bool) → (a || b) ≡ false → b ≡ false
  rest_false true b e = absurd (let wrong : true ≡ false = e in cc)
  rest_false false b e = e

  totalling : (es : Groups) → AllByRecursion (IsKept tally.groups) es → some_passed column es ≡ false → map (λ e. total_kept column e.0 e.1) es ≡ map (total_of by column routes) (map (λ e. e.0) es)
  totalling [] h free = refl
  totalling (e ∷ es) h free = λ i.
      one-total by column e.0 routes e.1 (numbers_of e h.0) (first_false _ _ free) i ∷ totalling es h.1 (rest_false _ _ free) i

  all_passing : T (is_sorted row_cmp tally.groups) → list_any (λ t. passes_limit t.sum) (totals_of by column routes) ≡ some_passed column tally.groups
  all_passing sorted = ap (λ rows. list_any (λ t. passes_limit t.sum) (map (total_of by column routes) rows)) (groups-kept by routes tally.groups sorted are.groups) ∙ passing tally.groups (kept_each tally.groups sorted)

  -- where none passed the limit, the totals
  pub answer-totals : T (is_sorted row_cmp tally.groups) → some_passed column tally.groups ≡ false → totalled by column routes ≡ Ok (map (λ e. total_kept column e.0 e.1) tally.groups)
  answer-totals sorted free =
      ap (λ t. cond t (Err TotalTooLarge) (Ok (totals_of by column routes))) (all_passing sorted ∙ free)
      ∙ ap (λ totals. Ok totals) (ap (map (total_of by column routes)) (groups-kept by routes tally.groups sorted are.groups) ∙ sym (totalling tally.groups (kept_each tally.groups sorted) free))

  -- and where one did, the refusal
  pub answer-refusal : T (is_sorted row_cmp tally.groups) → some_passed column tally.groups ≡ true → totalled by column routes ≡ Err TotalTooLarge
  answer-refusal sorted past = ap (λ t. cond t (Err TotalTooLarge) (Ok (totals_of by column routes))) (all_passing sorted ∙ past)

module _ (tally : Tally) (by : List ℕ) (column : Option ℕ) (routes : List Along) where
  true_holds : (b : Bool) → b ≡ true → T b
  true_holds b e = subst T (sym e) tt

  pub finished : (answer : List Total) → is_sorted row_cmp tally.groups ≡ true → AreOfGroups tally.summed tally.groups answer → AreTotalsOf by column routes tally → totalled by column routes ≡ Ok answer
  finished answer sorted h are =
      let of_column : AreOfGroups column tally.groups answer = subst (λ c. AreOfGroups c tally.groups answer) are.sums_that h in
      answer-totals by column routes tally are (true_holds _ sorted) of_column.none_passed ∙ ap (λ totals. Ok totals) (sym of_column.all)

  pub none_refused : is_sorted row_cmp tally.groups ≡ true → some_passed tally.summed tally.groups ≡ false → AreTotalsOf by column routes tally → IsOk (totalled by column routes)
  none_refused sorted free are =
      subst IsOk (sym (answer-totals by column routes tally are (true_holds _ sorted) (subst (λ c. some_passed c tally.groups ≡ false) are.sums_that free))) (search rules)

  pub refused : is_sorted row_cmp tally.groups ≡ true → some_passed tally.summed tally.groups ≡ true → AreTotalsOf by column routes tally → totalled by column routes ≡ Err TotalTooLarge
  refused sorted past are = answer-refusal by column routes tally are (true_holds _ sorted) (subst (λ c. some_passed c tally.groups ≡ true) are.sums_that past)
