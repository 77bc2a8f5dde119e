-- Going from thousandth to thousandth gives the maximal runs.
use Rattle.std.proofs.Common.{◌≡◌, ℕ, zero, suc, ◌+◌, ◌-◌, ◌<◌, ◌≤◌, Bool, true, false, not, ◌&&◌, ◌||◌, cond, T, is_lt, ◌⊎◌, inl, inr, List, [], ◌∷◌, ◌++◌, map, Ordering, Less, Equal, Greater, refl, sym, ap, ◌∙◌, subst, arith}
use Rattle.std.proofs.lemmas.Bool.{cases_lt, or_cases, cond-true, cond-false, not-true, false_from_ne_true}
use Rattle.std.proofs.lemmas.List.Elements.{Contains-append_left, Contains-append_right}
use Rattle.std.specs.FinMap as fin
use Rattle.std.specs.FinMap.{is_sorted}
use Rattle.std.specs.FinMap.Entries.{below_all}
use Rattle.std.specs.List.{AllByRecursion, Contains, filter, flat_map, list_any}
use Rattle.rs_value.specs.Row.{Row, row_cmp}
use Rattle.rs_value.specs.declared.column.Kind.{Kind}
use Rattle.rs_value.specs.declared.column.Kind.TheVariants.{Point, Line}
use Rattle.rs_facts.specs.Fact.{RowSet, contains, items, Places, thousandths}
use Rattle.rs_facts.specs.Runs.{Stretch, stretch, stretch_cmp, AreOrdered, IsLineRun, IsMaximalRun, AreRunsOf, begins, end_of_run, run_end, runs_at, runs_of, LieWithin}
use Rattle.rs_facts.proofs.Rows.{same_row, same_row-true, same_row-refl}
use Rattle.rs_facts.proofs.StretchOrder.{stretch_cmp-below, stretch_cmp-beside}
use Rattle.rs_facts.proofs.Counting.{thousandths-empty, thousandths-first}
use Rattle.rs_facts.proofs.KeptLaws.{every-append, every-weaker}
use Rattle.rs_facts.proofs.RunLaws.{line_runs-same, runs-unique}

-- ---- the rows of a set, in their order

-- each row less than all that follow
abbrev RowsRise : List Row → Type 0
RowsRise [] = Unit {0}
RowsRise (row ∷ rows) = AllByRecursion (λ later. row_cmp row later ≡ Less) rows × RowsRise rows

less_from : (o : Ordering) → T (is_lt o) → o ≡ Less
less_from Less h = refl
less_from Equal h = absurd h
less_from Greater h = absurd h

first_of_both : (a b : Bool) → T (a && b) → T a
first_of_both true b h = tt
first_of_both false b h = h

second_of_both : (a b : Bool) → T (a && b) → T b
second_of_both true b h = h
second_of_both false b h = absurd h

below_rise : (row : Row) (es : List (Row × Unit {0})) → T (below_all row_cmp row es) → AllByRecursion (λ later. row_cmp row later ≡ Less) (map (λ e. e.0) es)
below_rise row [] h = tt
below_rise row (e ∷ es) h = (less_from (row_cmp row e.0) (first_of_both (is_lt (row_cmp row e.0)) (below_all row_cmp row es) h), below_rise row es (second_of_both (is_lt (row_cmp row e.0)) (below_all row_cmp row es) h))

entries_rise : (es : List (Row × Unit {0})) → T (is_sorted row_cmp es) → RowsRise (map (λ e. e.0) es)
entries_rise [] h = tt
entries_rise (e ∷ es) h = (below_rise e.0 es (first_of_both (below_all row_cmp e.0 es) (is_sorted row_cmp es) h), entries_rise es (second_of_both (below_all row_cmp e.0 es) (is_sorted row_cmp es) h))

items_rise : (rows : RowSet) → RowsRise (items rows)
items_rise rows = entries_rise (fin.entries rows) (fin.entries_sorted rows)

-- ---- which rows a list has

abbrev In : Row → List Row → Type 0
In row [] = ⊥
In row (x ∷ rows) = (x ≡ row) ⊎ In row rows

in_from_any : (row : Row) (rows : List Row) → list_any (same_row row) rows ≡ true → In row rows
in_from_any row [] e = let wrong : false ≡ true = e in cc
in_from_any row (x ∷ rows) e = elim (or_cases (same_row row x) (list_any (same_row row) rows) e) [ inl a ↦ inl (sym (same_row-true row x a)) | inr b ↦ inr (in_from_any row rows b) ]

any_from_in : (row : Row) (rows : List Row) → In row rows → list_any (same_row row) rows ≡ true
any_from_in row [] h = absurd h
any_from_in row (x ∷ rows) (inl e) = ap (λ t. t || list_any (same_row row) rows) (subst (λ z. same_row row z ≡ true) (sym e) (same_row-refl row))
any_from_in row (x ∷ rows) (inr h) = ap (λ t. same_row row x || t) (any_from_in row rows h) ∙ or_true (same_row row x)
  where
    or_true : (t : Bool) → (t || true) ≡ true
    or_true true = refl
    or_true false = refl

contains-items : (rows : RowSet) (row : Row) → contains rows row ≡ list_any (same_row row) (items rows)
unfolding same_row
contains-items rows row = fin.contains_key-keys rows row

in_items : (rows : RowSet) (row : Row) → contains rows row ≡ true → In row (items rows)
in_items rows row e = in_from_any row (items rows) (sym (contains-items rows row) ∙ e)

every_item : (P : Row → Type 0) (xs : List Row) → ((row : Row) → In row xs → P row) → AllByRecursion P xs
every_item P [] h = tt
every_item P (x ∷ xs) h = (h x (inl refl), every_item P xs (λ row there. h row (inr there)))

held_by : (rows : RowSet) (row : Row) → In row (items rows) → contains rows row ≡ true
held_by rows row h = contains-items rows row ∙ any_from_in row (items rows) h

-- ---- the runs that begin at one thousandth

module _ (kind : Kind) (places : Places) (to k : ℕ) where
  abbrev run_at : Row → Stretch
  run_at row = stretch k (run_end kind places row k to) row

  abbrev starting : List Row → List Row
  starting rows = filter (λ row. begins kind places row k) rows

  -- what holds of the run of each row that begins here
  every_made : (P : Stretch → Type 0) (rows : List Row) → AllByRecursion (λ row. begins kind places row k ≡ true → P (run_at row)) rows → AllByRecursion P (map run_at (starting rows))
  every_made P [] h = tt
  every_made P (row ∷ rows) h =
      elim (begins kind places row k) as (λ t. begins kind places row k ≡ t → AllByRecursion P (map run_at (cond t (row ∷ starting rows) (starting rows)))) [
        | true ↦ λ e. (h.0 e, every_made P rows h.1)
        | false ↦ λ e. every_made P rows h.1
      ] refl

  later_rows : (row : Row) (rows : List Row) → AllByRecursion (λ later. row_cmp row later ≡ Less) rows → AllByRecursion (λ later. begins kind places later k ≡ true → stretch_cmp (run_at row) (run_at later) ≡ Less) rows
  later_rows row [] h = tt
  later_rows row (later ∷ rows) h = ((λ e. stretch_cmp-beside (run_at row) (run_at later) refl h.0), later_rows row rows h.1)

  made_ordered : (rows : List Row) → RowsRise rows → AreOrdered (map run_at (starting rows))
  made_ordered [] h = tt
  made_ordered (row ∷ rows) h =
      elim (begins kind places row k) as (λ t. AreOrdered (map run_at (cond t (row ∷ starting rows) (starting rows)))) [
        | true ↦ (every_made (λ later. stretch_cmp (run_at row) later ≡ Less) rows (later_rows row rows h.0), made_ordered rows h.1)
        | false ↦ made_ordered rows h.1
      ]

  at_head : (x : Stretch) (xs : List Stretch) → Contains (x ∷ xs) x
  at_head x xs = (0, omega arith, refl)

  made_first : (x row : Row) (rows : List Row) → x ≡ row → begins kind places x k ≡ true → Contains (map run_at (starting (x ∷ rows))) (run_at row)
  made_first x row rows same here =
      subst (λ t. Contains (map run_at (cond t (x ∷ starting rows) (starting rows))) (run_at row)) (sym here)
      (subst (λ r. Contains (run_at x ∷ map run_at (starting rows)) (run_at r)) same (at_head (run_at x) (map run_at (starting rows))))

  made_has : (row : Row) (rows : List Row) → In row rows → begins kind places row k ≡ true → Contains (map run_at (starting rows)) (run_at row)
  made_has row [] h e = absurd h
  made_has row (x ∷ rows) (inl same) e = made_first x row rows same (subst (λ r. begins kind places r k ≡ true) (sym same) e)
  made_has row (x ∷ rows) (inr there) e =
      let rest = made_has row rows there e in
      elim (begins kind places x k) as (λ t. Contains (map run_at (cond t (x ∷ starting rows) (starting rows))) (run_at row)) [
        | true ↦ Contains-append_right (run_at x ∷ []) (map run_at (starting rows)) (run_at row) rest
        | false ↦ rest
      ]

-- ---- where a run ends

module _ (places : Places) (row : Row) where
  end_on : (here more : ℕ) → contains (places here) row ≡ true → end_of_run places row here (suc more) ≡ end_of_run places row (suc here) more
  end_on here more e = cond-true (contains (places here) row) (end_of_run places row (suc here) more) here e

  end_here : (here more : ℕ) → contains (places here) row ≡ false → end_of_run places row here (suc more) ≡ here
  end_here here more e = cond-false (contains (places here) row) (end_of_run places row (suc here) more) here e

  -- how far the row holds on from here
  pub record Ends (here more finish : ℕ) : Type 0 where
    pub from : here ≤ finish
    pub upto : finish ≤ here + more
    pub holds : (k : ℕ) → here ≤ k → k < finish → contains (places k) row ≡ true
    pub stops : (finish ≡ here + more) ⊎ (contains (places finish) row ≡ false)

  pub ends : (here more : ℕ) → Ends here more (end_of_run places row here more)
  ends here zero = record { from = omega arith; upto = omega arith; holds = λ k a b. absurd (omega arith); stops = inl (omega arith) }
  ends here (suc more) =
      elim (contains (places here) row) as (λ t. contains (places here) row ≡ t → Ends here (suc more) (end_of_run places row here (suc more))) [
        | true ↦ λ e. subst (Ends here (suc more)) (sym (end_on here more e)) (further here more (end_of_run places row (suc here) more) e (ends (suc here) more))
        | false ↦ λ e. subst (Ends here (suc more)) (sym (end_here here more e)) (record { from = omega arith; upto = omega arith; holds = λ k a b. absurd (omega arith); stops = inr e })
      ] refl
    where
      further : (here more finish : ℕ) → contains (places here) row ≡ true → Ends (suc here) more finish → Ends here (suc more) finish
      further here more finish e rest = record {
        from = omega (arith, rest.from);
        upto = omega (arith, rest.upto);
        holds = λ k a b. elim (cases_lt here k) [ inl less ↦ rest.holds k (omega arith) b | inr same ↦ let at : here ≡ k = omega arith in subst (λ m. contains (places m) row ≡ true) at e ];
        stops = elim rest.stops [ inl x ↦ inl (omega arith) | inr y ↦ inr y ];
      }

  none_before : (k : ℕ) → begins Line places row k ≡ true → (j : ℕ) → suc j ≡ k → contains (places j) row ≡ false
  none_before zero e j s = absurd (omega (arith, s))
  none_before (suc i) e j s = let same : i ≡ j = omega (arith, s) in subst (λ m. contains (places m) row ≡ false) same (not-true (contains (places i) row) e)

  begins_from : (k : ℕ) → ((j : ℕ) → suc j ≡ k → contains (places j) row ≡ false) → begins Line places row k ≡ true
  begins_from zero h = refl
  begins_from (suc i) h = ap not (h i refl)

pub stops_at : (from to finish : ℕ) (places : Places) (row : Row) → LieWithin from to places → finish ≤ to → (finish ≡ to) ⊎ (contains (places finish) row ≡ false) → contains (places finish) row ≡ false
stops_at from to finish places row inside l (inr e) = e
stops_at from to finish places row inside l (inl same) = false_from_ne_true (contains (places finish) row) (λ e. let bounds = inside finish row e in omega (arith, bounds.1, same))

line_run : (from to : ℕ) (places : Places) → LieWithin from to places → (k : ℕ) (row : Row) → contains (places k) row ≡ true → begins Line places row k ≡ true → IsLineRun places (stretch k (end_of_run places row k (to - k)) row)
line_run from to places inside k row held starts =
    let bounds = inside k row held in
    let more : to - k ≡ suc (to - suc k) = omega (arith, bounds.1) in
    let end = ends places row k (to - k) in
    let on : end_of_run places row k (to - k) ≡ end_of_run places row (suc k) (to - suc k) = ap (end_of_run places row k) more ∙ end_on places row k (to - suc k) held in
    let past = ends places row (suc k) (to - suc k) in
    record {
      some = omega (arith, on, past.from);
      holds = end.holds;
      not_before = none_before places row k starts;
      not_behind = stops_at from to (end_of_run places row k (to - k)) places row inside (omega (arith, end.upto, bounds.1)) (elim end.stops [ inl x ↦ inl (omega (arith, x, bounds.1)) | inr y ↦ inr y ]);
    }

run_here : (kind : Kind) (from to : ℕ) (places : Places) → LieWithin from to places → (k : ℕ) (row : Row) → contains (places k) row ≡ true → begins kind places row k ≡ true → IsMaximalRun kind places (stretch k (run_end kind places row k to) row)
run_here Line from to places inside k row held starts = line_run from to places inside k row held starts
run_here Point from to places inside k row held starts = record { one = refl; holds = held }

-- ---- all of them

ordered-append : (xs ys : List Stretch) → AreOrdered xs → AreOrdered ys → AllByRecursion (λ x. AllByRecursion (λ y. stretch_cmp x y ≡ Less) ys) xs → AreOrdered (xs ++ ys)
ordered-append [] ys a b c = b
ordered-append (x ∷ xs) ys a b c = (every-append (λ y. stretch_cmp x y ≡ Less) xs ys a.0 c.0, ordered-append xs ys a.1 b c.1)

module _ (kind : Kind) (places : Places) (to : ℕ) where
  abbrev begun : ℕ → List Stretch
  begun from = flat_map (λ k. runs_at kind places to k) (thousandths from to)

  begun_none : (from : ℕ) → to ≤ from → begun from ≡ []
  begun_none from h = ap (flat_map (λ k. runs_at kind places to k)) (thousandths-empty from to h)

  begun_first : (from : ℕ) → from < to → begun from ≡ runs_at kind places to from ++ begun (suc from)
  begun_first from h = ap (flat_map (λ k. runs_at kind places to k)) (thousandths-first from to h)

  every_begun : (P : Stretch → Type 0) (from n : ℕ) → from + n ≡ to → ((k : ℕ) → from ≤ k → k < to → AllByRecursion P (runs_at kind places to k)) → AllByRecursion P (begun from)
  every_begun P from zero e h = subst (AllByRecursion P) (sym (begun_none from (omega arith))) tt
  every_begun P from (suc n) e h = subst (AllByRecursion P) (sym (begun_first from (omega arith)))
      (every-append P (runs_at kind places to from) (begun (suc from)) (h from (omega arith) (omega arith)) (every_begun P (suc from) n (omega arith) (λ k a b. h k (omega arith) b)))

  begin_at : (k : ℕ) → AllByRecursion (λ run. run.lo ≡ k) (runs_at kind places to k)
  begin_at k = every_made kind places to k (λ run. run.lo ≡ k) (items (places k)) (every_item (λ row. begins kind places row k ≡ true → k ≡ k) (items (places k)) (λ row h e. refl))

  later : (from n : ℕ) → suc from + n ≡ to → AllByRecursion (λ run. from < run.lo) (begun (suc from))
  later from n e = every_begun (λ run. from < run.lo) (suc from) n e (λ k a b. every-weaker (λ run. run.lo ≡ k) (λ run. from < run.lo) (λ run h. omega (arith, h, a)) (runs_at kind places to k) (begin_at k))

  begun_ordered : (from n : ℕ) → from + n ≡ to → AreOrdered (begun from)
  begun_ordered from zero e = subst AreOrdered (sym (begun_none from (omega arith))) tt
  begun_ordered from (suc n) e = subst AreOrdered (sym (begun_first from (omega arith)))
      (ordered-append (runs_at kind places to from) (begun (suc from))
      (made_ordered kind places to from (items (places from)) (items_rise (places from)))
      (begun_ordered (suc from) n (omega arith))
      (every-weaker (λ run. run.lo ≡ from) (λ run. AllByRecursion (λ y. stretch_cmp run y ≡ Less) (begun (suc from)))
      (λ run h. every-weaker (λ y. from < y.lo) (λ y. stretch_cmp run y ≡ Less) (λ y l. stretch_cmp-below run y (omega (arith, h, l))) (begun (suc from)) (later from n (omega arith)))
      (runs_at kind places to from) (begin_at from)))

  begun_has : (x : Stretch) (k from n : ℕ) → from + n ≡ to → from ≤ k → k < to → Contains (runs_at kind places to k) x → Contains (begun from) x
  begun_has x k from zero e a b h = absurd (omega arith)
  begun_has x k from (suc n) e a b h = subst (λ xs. Contains xs x) (sym (begun_first from (omega arith))) (elim (cases_lt from k) [
    | inl less ↦ Contains-append_right (runs_at kind places to from) (begun (suc from)) x (begun_has x k (suc from) n (omega arith) (omega arith) b h)
    | inr same ↦ let at : k ≡ from = omega arith in Contains-append_left (runs_at kind places to from) (begun (suc from)) x (subst (λ m. Contains (runs_at kind places to m) x) at h)
  ])

begun_maximal : (kind : Kind) (from to : ℕ) (places : Places) → LieWithin from to places → (k : ℕ) → AllByRecursion (IsMaximalRun kind places) (runs_at kind places to k)
begun_maximal kind from to places inside k = every_made kind places to k (IsMaximalRun kind places) (items (places k))
    (every_item (λ row. begins kind places row k ≡ true → IsMaximalRun kind places (stretch k (run_end kind places row k to) row)) (items (places k))
    (λ row h e. run_here kind from to places inside k row (held_by (places k) row h) e))

made_at : (kind : Kind) (places : Places) (to : ℕ) (run : Stretch) → contains (places run.lo) run.row ≡ true → begins kind places run.row run.lo ≡ true → Contains (runs_at kind places to run.lo) (stretch run.lo (run_end kind places run.row run.lo to) run.row)
made_at kind places to run held starts = made_has kind places to run.lo run.row (items (places run.lo)) (in_items (places run.lo) run.row held) starts

run_among : (kind : Kind) (from to : ℕ) (places : Places) → LieWithin from to places → (run : Stretch) → IsMaximalRun kind places run → Contains (runs_at kind places to run.lo) run
run_among Line from to places inside run maximal =
    let held = maximal.holds run.lo (omega arith) maximal.some in
    let starts = begins_from places run.row run.lo maximal.not_before in
    let made = line_run from to places inside run.lo run.row held starts in
    let same = line_runs-same places (stretch run.lo (end_of_run places run.row run.lo (to - run.lo)) run.row) run run.lo made maximal refl (omega arith) made.some (omega arith) maximal.some in
    subst (Contains (runs_at Line places to run.lo)) same (made_at Line places to run held starts)
run_among Point from to places inside run maximal =
    let same : stretch run.lo (suc run.lo) run.row ≡ run = λ i. stretch run.lo (sym maximal.one i) run.row in
    subst (Contains (runs_at Point places to run.lo)) same (made_at Point places to run maximal.holds refl)

held_at : (kind : Kind) (places : Places) (run : Stretch) → IsMaximalRun kind places run → contains (places run.lo) run.row ≡ true
held_at Line places run maximal = maximal.holds run.lo (omega arith) maximal.some
held_at Point places run maximal = maximal.holds

begun_runs : (kind : Kind) (from to : ℕ) (places : Places) → from ≤ to → LieWithin from to places → AreRunsOf kind places (runs_of kind places from to)
unfolding runs_of
begun_runs kind from to places l inside = record {
  ordered = begun_ordered kind places to from (to - from) (omega arith);
  maximal = every_begun kind places to (IsMaximalRun kind places) from (to - from) (omega arith) (λ k a b. begun_maximal kind from to places inside k);
  complete = λ run maximal. let bounds = inside run.lo run.row (held_at kind places run maximal) in
      begun_has kind places to run run.lo from (to - from) (omega arith) bounds.0 bounds.1 (run_among kind from to places inside run maximal);
}

-- Going from thousandth to thousandth gives the maximal runs, where all rows hold within.
pub runs_of-runs : (kind : Kind) (from to : ℕ) (places : Places) → LieWithin from to places → AreRunsOf kind places (runs_of kind places from to)
unfolding runs_of
runs_of-runs kind from to places inside = elim (cases_lt to from) [
  | inl less ↦
      let same : runs_of kind places to to ≡ runs_of kind places from to = begun_none kind places to to (omega arith) ∙ sym (begun_none kind places to from (omega arith)) in
      subst (AreRunsOf kind places) same (begun_runs kind to to places (omega arith) (λ k row e. let bounds = inside k row e in absurd (omega (arith, bounds.0, bounds.1))))
  | inr l ↦ begun_runs kind from to places l inside
]

-- and any list of them is what it gives
pub runs_of-unique : (kind : Kind) (from to : ℕ) (places : Places) (runs : List Stretch) → LieWithin from to places → AreRunsOf kind places runs → runs ≡ runs_of kind places from to
runs_of-unique kind from to places runs inside h = runs-unique kind places runs (runs_of kind places from to) h (runs_of-runs kind from to places inside)
