-- Runs inside a window: from the thousandth after its first one on they are those of the whole route, as far as they end inside.
use Rattle.std.proofs.Common.{◌≡◌, ℕ, zero, suc, ◌+◌, ◌-◌, ◌<◌, ◌≤◌, min, max, Bool, true, false, not, cond, inl, inr, List, [], ◌∷◌, ◌++◌, length, get_or, map, take, drop, filter, flat_map, nat_lt, Less, refl, sym, ap, ◌∙◌, subst, arith}
use Rattle.std.proofs.lemmas.Bool.{cases_lt, cases_Bool, lt-ltb, le-ltb, and_parts, cond-true}
use Rattle.std.proofs.lemmas.List.{length-append, length-map, take-append-drop, take-append-le, drop_at, map-append, get_or-map}
use Rattle.std.proofs.lemmas.List.Concat.{flat_map-append}
use Rattle.std.proofs.lemmas.List.Elements.{All-from_recursion, filter-append}
use Rattle.std.proofs.lemmas.List.Sorted.{IsPartitionedBy-ltb}
use Rattle.std.proofs.lemmas.Simd.{map-map}
use Rattle.std.specs.List.{AllByRecursion}
use Rattle.std.specs.List.Sorted.{IsNonDecreasingBy, IsPartitionPoint, IsPartitionedBy}
use Rattle.rs_value.specs.Row.{Row}
use Rattle.rs_value.specs.declared.column.Kind.{Kind}
use Rattle.rs_value.specs.declared.column.Kind.TheVariants.{Point, Line}
use Rattle.rs_facts.specs.declared.fact.Span.{Span}
use Rattle.rs_facts.specs.Fact.{Places, RowSet, none, contains, items, thousandths}
use Rattle.rs_facts.specs.Insert.{within as is_within}
use Rattle.rs_facts.specs.Operators.{windowed}
use Rattle.rs_facts.specs.Runs.{Stretch, stretch, stretch_cmp, AreOrdered, AreRunsOf, LieWithin, begins, end_of_run, run_end, runs_at, runs_of}
use Rattle.rs_facts.specs.Spans.{seen}
use Rattle.rs_facts.proofs.Counting.{thousandths-empty, thousandths-first, thousandths-split}
use Rattle.rs_facts.proofs.KeptLaws.{every-append, every-weaker}
use Rattle.rs_facts.proofs.Placing.{within-true, within-bounds}
use Rattle.rs_facts.proofs.RowSets.{contains-windowed}
use Rattle.rs_facts.proofs.RunsOf.{ends, runs_of-runs, runs_of-unique}
use Rattle.rs_facts.proofs.StretchOrder.{stretch_cmp-less}
use Rattle.rs_answers.specs.Resumed.{within, count_below}

-- ---- how many pass a test

module _ {X : Type 0} (test : X → Bool) where
  passing_first : (x : X) (xs : List X) → test x ≡ true → length (filter test (x ∷ xs)) ≡ suc (length (filter test xs))
  passing_first x xs e = ap (λ t. length (cond t (x ∷ filter test xs) (filter test xs))) e

  failing_first : (x : X) (xs : List X) → test x ≡ false → length (filter test (x ∷ xs)) ≡ length (filter test xs)
  failing_first x xs e = ap (λ t. length (cond t (x ∷ filter test xs) (filter test xs))) e

  -- at a partition point of a test, as many pass as are before it
  pub parted-count : (xs : List X) (i : ℕ) → i ≤ length xs → IsPartitionPoint (λ x. test x ≡ true) (λ x. test x ≡ false) xs i → i ≡ length (filter test xs)
  parted-count [] zero l sides = refl
  parted-count [] (suc i) l sides = absurd (omega arith)
  parted-count (x ∷ xs) zero l sides =
      parted-count xs zero (omega arith) ((λ j d a b. absurd (omega arith)), (λ j d a b. sides.1 (suc j) d (omega arith) (omega arith)))
      ∙ sym (failing_first x xs (sides.1 0 x (omega arith) (omega arith)))
  parted-count (x ∷ xs) (suc i) l sides =
      ap suc (parted-count xs i (omega arith) ((λ j d a b. sides.0 (suc j) d (omega arith) (omega arith)), (λ j d a b. sides.1 (suc j) d (omega arith) (omega arith))))
      ∙ sym (passing_first x xs (sides.0 0 x (omega arith) (omega arith)))

-- ---- how many runs begin below a thousandth

abbrev AllBelow : ℕ → List Stretch → Type 0
AllBelow k runs = AllByRecursion (λ run. run.lo < k) runs

abbrev AllFrom : ℕ → List Stretch → Type 0
AllFrom k runs = AllByRecursion (λ run. k ≤ run.lo) runs

module _ (k : ℕ) where
  below_first : (run : Stretch) (runs : List Stretch) → run.lo < k → count_below k (run ∷ runs) ≡ suc (count_below k runs)
  below_first run runs l = passing_first (λ (r : Stretch). nat_lt r.lo k) run runs (lt-ltb run.lo k l)

  from_first : (run : Stretch) (runs : List Stretch) → k ≤ run.lo → count_below k (run ∷ runs) ≡ count_below k runs
  from_first run runs l = failing_first (λ (r : Stretch). nat_lt r.lo k) run runs (le-ltb run.lo k l)

  pub count-append : (xs ys : List Stretch) → count_below k (xs ++ ys) ≡ count_below k xs + count_below k ys
  count-append xs ys = ap length (filter-append (λ (r : Stretch). nat_lt r.lo k) xs ys) ∙ length-append (filter (λ (r : Stretch). nat_lt r.lo k) xs) (filter (λ (r : Stretch). nat_lt r.lo k) ys)

  count-all : (xs : List Stretch) → AllBelow k xs → count_below k xs ≡ length xs
  count-all [] all = refl
  count-all (x ∷ xs) all = below_first x xs all.0 ∙ ap suc (count-all xs all.1)

  pub count-none : (xs : List Stretch) → AllFrom k xs → count_below k xs ≡ 0
  count-none [] all = refl
  count-none (x ∷ xs) all = from_first x xs all.0 ∙ count-none xs all.1

  -- at a partition point, as many begin below as are before it
  pub runs-below : (runs : List Stretch) (i : ℕ) → i ≤ length runs → IsPartitionPoint (λ (run : Stretch). nat_lt run.lo k ≡ true) (λ (run : Stretch). nat_lt run.lo k ≡ false) runs i → i ≡ count_below k runs
  runs-below runs i l sides = parted-count (λ (run : Stretch). nat_lt run.lo k) runs i l sides

  spans-count : (spans : List Span) → length (filter (λ (span : Span). nat_lt span.lo k) spans) ≡ count_below k (map seen spans)
  spans-count [] = refl
  spans-count (span ∷ spans) = elim (cases_Bool (nat_lt span.lo k)) [
    | inl e ↦ passing_first (λ (s : Span). nat_lt s.lo k) span spans e ∙ ap suc (spans-count spans) ∙ sym (passing_first (λ (r : Stretch). nat_lt r.lo k) (seen span) (map seen spans) e)
    | inr e ↦ failing_first (λ (s : Span). nat_lt s.lo k) span spans e ∙ spans-count spans ∙ sym (failing_first (λ (r : Stretch). nat_lt r.lo k) (seen span) (map seen spans) e)
  ]

  -- the same of spans of the code
  pub spans-below : (spans : List Span) (i : ℕ) → i ≤ length spans → IsPartitionPoint (λ (span : Span). nat_lt span.lo k ≡ true) (λ (span : Span). nat_lt span.lo k ≡ false) spans i → i ≡ count_below k (map seen spans)
  spans-below spans i l sides = parted-count (λ (span : Span). nat_lt span.lo k) spans i l sides ∙ spans-count spans

-- ---- lists in printing order

not_before : (a b : Stretch) → stretch_cmp a b ≡ Less → a.lo ≤ b.lo
not_before a b e = elim (stretch_cmp-less a b e) [ inl l ↦ omega arith | inr s ↦ omega (arith, s.0) ]

-- in printing order no run begins before an earlier one
pub ordered-rises : (runs : List Stretch) → AreOrdered runs → IsNonDecreasingBy (λ (run : Stretch). run.lo) runs
ordered-rises [] ordered i j d l b = absurd (omega arith)
ordered-rises (run ∷ runs) ordered zero zero d l b = omega arith
ordered-rises (run ∷ runs) ordered zero (suc j) d l b = not_before run (get_or runs j d) (All-from_recursion (λ later. stretch_cmp run later ≡ Less) runs ordered.0 j d (omega arith))
ordered-rises (run ∷ runs) ordered (suc i) zero d l b = absurd (omega arith)
ordered-rises (run ∷ runs) ordered (suc i) (suc j) d l b = ordered-rises runs ordered.1 i j d (omega arith) (omega arith)

-- so each thousandth has a partition point
pub runs-parted : (k : ℕ) (runs : List Stretch) → AreOrdered runs → IsPartitionedBy (λ (run : Stretch). nat_lt run.lo k) runs
runs-parted k runs ordered = IsPartitionedBy-ltb (λ (run : Stretch). run.lo) runs k (ordered-rises runs ordered)

pub spans-parted : (k : ℕ) (spans : List Span) → AreOrdered (map seen spans) → IsPartitionedBy (λ (span : Span). nat_lt span.lo k) spans
spans-parted k spans ordered i j d l b e =
    let long = length-map spans seen in
    let there : (get_or (map seen spans) j (seen d)).lo ≡ (get_or spans j d).lo = ap (λ (run : Stretch). run.lo) (get_or-map seen spans j d (seen d) b) in
    let here : (get_or (map seen spans) i (seen d)).lo ≡ (get_or spans i d).lo = ap (λ (run : Stretch). run.lo) (get_or-map seen spans i d (seen d) (omega arith)) in
    ap (λ n. nat_lt n k) (sym here) ∙ runs-parted k (map seen spans) ordered i j (seen d) l (omega arith) (ap (λ n. nat_lt n k) there ∙ e)

pub later_from : (k : ℕ) (run : Stretch) (runs : List Stretch) → k ≤ run.lo → AreOrdered (run ∷ runs) → AllFrom k runs
later_from k run runs l ordered = every-weaker (λ later. stretch_cmp run later ≡ Less) (λ later. k ≤ later.lo) (λ later e. let up = not_before run later e in omega arith) runs ordered.0

-- the first so many begin below
pub take-below : (k : ℕ) (runs : List Stretch) → AreOrdered runs → AllByRecursion (λ run. run.lo < k) (take (count_below k runs) runs)
take-below k [] ordered = tt
take-below k (run ∷ runs) ordered = elim (cases_lt run.lo k) [
  | inl l ↦ subst (λ n. AllBelow k (take n (run ∷ runs))) (sym (below_first k run runs l)) (l, take-below k runs ordered.1)
  | inr l ↦ subst (λ n. AllBelow k (take n (run ∷ runs))) (sym (from_first k run runs l ∙ count-none k runs (later_from k run runs l ordered))) tt
]

-- and the others do not
pub drop-below : (k : ℕ) (runs : List Stretch) → AreOrdered runs → AllByRecursion (λ run. k ≤ run.lo) (drop (count_below k runs) runs)
drop-below k [] ordered = tt
drop-below k (run ∷ runs) ordered = elim (cases_lt run.lo k) [
  | inl l ↦ subst (λ n. AllFrom k (drop n (run ∷ runs))) (sym (below_first k run runs l)) (drop-below k runs ordered.1)
  | inr l ↦
      let rest = later_from k run runs l ordered in
      subst (λ n. AllFrom k (drop n (run ∷ runs))) (sym (from_first k run runs l ∙ count-none k runs rest)) (l, rest)
]

-- those below j are those below k and those of the others that are below j
pub count-further : (k j : ℕ) (runs : List Stretch) → AreOrdered runs → k ≤ j → count_below k runs + count_below j (drop (count_below k runs) runs) ≡ count_below j runs
count-further k j runs ordered l =
    let first : List Stretch = take (count_below k runs) runs in
    let rest : List Stretch = drop (count_below k runs) runs in
    let low = every-weaker (λ run. run.lo < k) (λ run. run.lo < j) (λ run h. omega arith) first (take-below k runs ordered) in
    let no_rest : count_below k rest ≡ 0 = count-none k rest (drop-below k runs ordered) in
    let parts : first ++ rest ≡ runs = take-append-drop (count_below k runs) runs in
    let here : count_below k first + count_below k rest ≡ count_below k runs = sym (count-append k first rest) ∙ ap (count_below k) parts in
    let there : count_below j first + count_below j rest ≡ count_below j runs = sym (count-append j first rest) ∙ ap (count_below j) parts in
    let a : count_below k first ≡ length first = count-all k first (take-below k runs ordered) in
    let b : count_below j first ≡ length first = count-all j first low in
    omega (arith, no_rest, here, there, a, b)

-- ---- from thousandth to thousandth

module _ (f : ℕ → List Stretch) where
  abbrev along : ℕ → ℕ → List Stretch
  along from to = flat_map f (thousandths from to)

  along_none : (from to : ℕ) → to ≤ from → along from to ≡ []
  along_none from to h = ap (flat_map f) (thousandths-empty from to h)

  along_first : (from to : ℕ) → from < to → along from to ≡ f from ++ along (suc from) to
  along_first from to h = ap (flat_map f) (thousandths-first from to h)

  along_split : (from middle to : ℕ) → from ≤ middle → middle ≤ to → along from to ≡ along from middle ++ along middle to
  along_split from middle to a b = ap (flat_map f) (thousandths-split from middle to a b) ∙ flat_map-append f (thousandths from middle) (thousandths middle to)

  every_along : (P : Stretch → Type 0) (from to n : ℕ) → from + n ≡ to → ((j : ℕ) → from ≤ j → j < to → AllByRecursion P (f j)) → AllByRecursion P (along from to)
  every_along P from to zero e h = subst (AllByRecursion P) (sym (along_none from to (omega arith))) tt
  every_along P from to (suc n) e h = subst (AllByRecursion P) (sym (along_first from to (omega arith)))
      (every-append P (f from) (along (suc from) to) (h from (omega arith) (omega arith)) (every_along P (suc from) to n (omega arith) (λ j a b. h j (omega arith) b)))

-- what agrees at each thousandth, but for a change of each run, agrees along them
along_changed : (change : Stretch → Stretch) (f g : ℕ → List Stretch) (from to n : ℕ) → from + n ≡ to → ((j : ℕ) → from ≤ j → j < to → f j ≡ map change (g j)) → along f from to ≡ map change (along g from to)
along_changed change f g from to zero e h = along_none f from to (omega arith) ∙ sym (ap (map change) (along_none g from to (omega arith)))
along_changed change f g from to (suc n) e h =
    along_first f from to (omega arith)
    ∙ ap (λ xs. xs ++ along f (suc from) to) (h from (omega arith) (omega arith))
    ∙ ap (λ xs. map change (g from) ++ xs) (along_changed change f g (suc from) to n (omega arith) (λ j a b. h j (omega arith) b))
    ∙ sym (map-append change (g from) (along g (suc from) to))
    ∙ sym (ap (map change) (along_first g from to (omega arith)))

along_same : (f g : ℕ → List Stretch) (from to n : ℕ) → from + n ≡ to → ((j : ℕ) → from ≤ j → j < to → f j ≡ g j) → along f from to ≡ along g from to
along_same f g from to zero e h = along_none f from to (omega arith) ∙ sym (along_none g from to (omega arith))
along_same f g from to (suc n) e h =
    along_first f from to (omega arith)
    ∙ ap (λ xs. xs ++ along f (suc from) to) (h from (omega arith) (omega arith))
    ∙ ap (λ xs. g from ++ xs) (along_same f g (suc from) to n (omega arith) (λ j a b. h j (omega arith) b))
    ∙ sym (along_first g from to (omega arith))

-- ---- the runs from a thousandth on

begin_there : (k : ℕ) (ends_at : Row → ℕ) (rows : List Row) → AllByRecursion (λ run. run.lo ≡ k) (map (λ row. stretch k (ends_at row) row) rows)
begin_there k ends_at [] = tt
begin_there k ends_at (row ∷ rows) = (refl, begin_there k ends_at rows)

module _ (kind : Kind) (places : Places) (to : ℕ) where
  abbrev begun : ℕ → List Stretch
  begun k = runs_at kind places to k

  begin_at : (P : Stretch → Type 0) (k : ℕ) → ((run : Stretch) → run.lo ≡ k → P run) → AllByRecursion P (begun k)
  begin_at P k h = every-weaker (λ run. run.lo ≡ k) P h (begun k) (begin_there k (λ row. run_end kind places row k to) (filter (λ row. begins kind places row k) (items (places k))))

  begun_below : (from k : ℕ) → from ≤ k → AllBelow k (along begun from k)
  begun_below from k l = every_along begun (λ run. run.lo < k) from k (k - from) (omega arith) (λ j a b. begin_at (λ run. run.lo < k) j (λ run e. omega arith))

  begun_from : (k upto : ℕ) → k ≤ upto → AllFrom k (along begun k upto)
  begun_from k upto l = every_along begun (λ run. k ≤ run.lo) k upto (upto - k) (omega arith) (λ j a b. begin_at (λ run. k ≤ run.lo) j (λ run e. omega arith))

  -- where all rows lie below a thousandth, the runs from k on are those that begin from k on
  later_runs : (k : ℕ) (runs : List Stretch) → k ≤ to → LieWithin 0 to places → AreRunsOf kind places runs → drop (count_below k runs) runs ≡ along begun k to
  unfolding runs_of
  later_runs k runs l inside are =
      let parts : runs ≡ along begun 0 k ++ along begun k to = runs_of-unique kind 0 to places runs inside are ∙ along_split begun 0 k to (omega arith) l in
      let before : count_below k (along begun 0 k) ≡ length (along begun 0 k) = count-all k (along begun 0 k) (begun_below 0 k (omega arith)) in
      let after : count_below k (along begun k to) ≡ 0 = count-none k (along begun k to) (begun_from k to l) in
      let all = count-append k (along begun 0 k) (along begun k to) in
      ap (λ xs. drop (count_below k xs) xs) parts
      ∙ drop_at (along begun 0 k) (along begun k to) (count_below k (along begun 0 k ++ along begun k to)) (omega (arith, before, after, all))

-- none, where all rows lie below k
no_later_runs : (kind : Kind) (places : Places) (k : ℕ) (runs : List Stretch) → LieWithin 0 k places → AreRunsOf kind places runs → drop (count_below k runs) runs ≡ []
no_later_runs kind places k runs inside are = later_runs kind places k k runs (omega arith) inside are ∙ along_none (begun kind places k) k k (omega arith)

-- ---- rows inside a window

pub within-lie : (from to : ℕ) (places : Places) → LieWithin from to (within from to places)
within-lie from to places k row e =
    let parts = and_parts (is_within from to k) (contains (places k) row) (sym (contains-windowed from to k (places k) row) ∙ e) in
    within-bounds from to k parts.0

pub within-same : (from to : ℕ) (places : Places) (k : ℕ) → from ≤ k → k < to → within from to places k ≡ places k
unfolding windowed
within-same from to places k a b = cond-true (is_within from to k) (places k) none (within-true from to k a b)

lie-wider : (a b c d : ℕ) (places : Places) → c ≤ a → b ≤ d → LieWithin a b places → LieWithin c d places
lie-wider a b c d places l h inside k row e = let bounds = inside k row e in (omega (arith, bounds.0), omega (arith, bounds.1))

-- ---- runs by the rows from a thousandth on

begins-same : (kind : Kind) (p q : Places) (row : Row) (k : ℕ) → ((j : ℕ) → suc j ≡ k → p j ≡ q j) → begins kind p row k ≡ begins kind q row k
begins-same Point p q row k same = refl
begins-same Line p q row zero same = refl
begins-same Line p q row (suc j) same = ap (λ (rows : RowSet). not (contains rows row)) (same j refl)

end-same : (p q : Places) (row : Row) (here more : ℕ) → ((j : ℕ) → here ≤ j → j < here + more → p j ≡ q j) → end_of_run p row here more ≡ end_of_run q row here more
end-same p q row here zero same = refl
end-same p q row here (suc more) same =
    let first = same here (omega arith) (omega arith) in
    let rest = end-same p q row (suc here) more (λ j a b. same j (omega arith) (omega arith)) in
    λ i. cond (contains (first i) row) (rest i) here

run_end-same : (kind : Kind) (p q : Places) (row : Row) (here to : ℕ) → ((j : ℕ) → here ≤ j → j < to → p j ≡ q j) → run_end kind p row here to ≡ run_end kind q row here to
run_end-same Point p q row here to same = refl
run_end-same Line p q row here to same = end-same p q row here (to - here) (λ j a b. same j a (omega arith))

-- where two have the same rows from right before k on, the same runs begin there
runs_at-same : (kind : Kind) (p q : Places) (to k : ℕ) → k < to → ((j : ℕ) → k - 1 ≤ j → j < to → p j ≡ q j) → runs_at kind p to k ≡ runs_at kind q to k
runs_at-same kind p q to k l same =
    let here : p k ≡ q k = same k (omega arith) l in
    let starts : (row : Row) → begins kind p row k ≡ begins kind q row k = λ row. begins-same kind p q row k (λ j e. same j (omega arith) (omega arith)) in
    let stops : (row : Row) → run_end kind p row k to ≡ run_end kind q row k to = λ row. run_end-same kind p q row k to (λ j a b. same j (omega arith) b) in
    λ i. map (λ row. stretch k (stops row i) row) (filter (λ row. starts row i) (items (here i)))

-- ---- runs cut at a thousandth

abbrev cut : ℕ → Stretch → Stretch
cut to run = stretch run.lo (min run.hi to) run.row

end-cut : (places : Places) (row : Row) (here more all : ℕ) → more ≤ all → end_of_run places row here more ≡ min (end_of_run places row here all) (here + more)
end-cut places row here zero all l = let end = ends places row here all in omega (arith, end.from)
end-cut places row here (suc more) zero l = absurd (omega arith)
end-cut places row here (suc more) (suc all) l =
    let rest = end-cut places row (suc here) more all (omega arith) in
    elim (contains (places here) row) as (λ t. cond t (end_of_run places row (suc here) more) here ≡ min (cond t (end_of_run places row (suc here) all) here) (here + suc more)) [
      | true ↦ omega (arith, rest)
      | false ↦ omega arith
    ]

run_end-cut : (kind : Kind) (places : Places) (row : Row) (here to all : ℕ) → here < to → to ≤ all → run_end kind places row here to ≡ min (run_end kind places row here all) to
run_end-cut Point places row here to all l h = omega arith
run_end-cut Line places row here to all l h =
    let at : here + (to - here) ≡ to = omega arith in
    end-cut places row here (to - here) (all - here) (omega arith) ∙ ap (min (end_of_run places row here (all - here))) at

runs_at-cut : (kind : Kind) (places : Places) (to all k : ℕ) → k < to → to ≤ all → runs_at kind places to k ≡ map (cut to) (runs_at kind places all k)
runs_at-cut kind places to all k l h =
    let rows : List Row = filter (λ row. begins kind places row k) (items (places k)) in
    let stops : (row : Row) → run_end kind places row k to ≡ min (run_end kind places row k all) to = λ row. run_end-cut kind places row k to all l h in
    ap (λ (e : Row → ℕ). map (λ row. stretch k (e row) row) rows) (λ i row. stops row i) ∙ sym (map-map (cut to) (λ row. stretch k (run_end kind places row k all) row) rows)

count-cut : (to j : ℕ) (runs : List Stretch) → count_below j (map (cut to) runs) ≡ count_below j runs
count-cut to j [] = refl
count-cut to j (run ∷ runs) = elim (cases_lt run.lo j) [
  | inl l ↦ below_first j (cut to run) (map (cut to) runs) l ∙ ap suc (count-cut to j runs) ∙ sym (below_first j run runs l)
  | inr l ↦ from_first j (cut to run) (map (cut to) runs) l ∙ count-cut to j runs ∙ sym (from_first j run runs l)
]

-- what ends before the cut is as it was
uncut : (to : ℕ) (run : Stretch) → (cut to run).hi < to → cut to run ≡ run
uncut to run l = let same : min run.hi to ≡ run.hi = omega arith in λ i. stretch run.lo (same i) run.row

take-cut : (to n : ℕ) (runs : List Stretch) → AllByRecursion (λ run. run.hi < to) (take n (map (cut to) runs)) → take n (map (cut to) runs) ≡ take n runs
take-cut to zero runs ended = refl
take-cut to (suc n) [] ended = refl
take-cut to (suc n) (run ∷ runs) ended = let first = uncut to run ended.0 in let rest = take-cut to n runs ended.1 in λ i. first i ∷ rest i

-- ---- runs inside a window

module _ (kind : Kind) (places : Places) (k to : ℕ) (window : List Stretch) (are : AreRunsOf kind (within (k - 1) to places) window) where
  -- from k on they are those of the whole rows, cut at the window's end
  window_later : k ≤ to → drop (count_below k window) window ≡ along (begun kind places to) k to
  window_later l =
      later_runs kind (within (k - 1) to places) to k window l (lie-wider (k - 1) to 0 to (within (k - 1) to places) (omega arith) (omega arith) (within-lie (k - 1) to places)) are
      ∙ along_same (begun kind (within (k - 1) to places) to) (begun kind places to) k to (to - k) (omega arith)
      (λ j a b. runs_at-same kind (within (k - 1) to places) places to j b (λ h c d. within-same (k - 1) to places h (omega arith) d))

  window_none : to < k → drop (count_below k window) window ≡ []
  window_none l = no_later_runs kind (within (k - 1) to places) k window (lie-wider (k - 1) to 0 k (within (k - 1) to places) (omega arith) (omega arith) (within-lie (k - 1) to places)) are

  window_cut : (all : ℕ) → k ≤ to → to ≤ all → drop (count_below k window) window ≡ map (cut to) (along (begun kind places all) k to)
  window_cut all l h = window_later l ∙ along_changed (cut to) (begun kind places to) (begun kind places all) k to (to - k) (omega arith) (λ j a b. runs_at-cut kind places to all j b h)

  module _ (start upto : ℕ) (inside : LieWithin start upto places) where
    abbrev whole : List Stretch
    whole = runs_of kind places start upto

    whole_runs : AreRunsOf kind places whole
    whole_runs = runs_of-runs kind start upto places inside

    inside_all : (all : ℕ) → upto ≤ all → LieWithin 0 all places
    inside_all all l = lie-wider start upto 0 all places (omega arith) l inside

    -- beyond the window there are further ones
    whole_later : k ≤ to → drop (count_below k whole) whole ≡ along (begun kind places (max upto to)) k to ++ along (begun kind places (max upto to)) to (max upto to)
    whole_later l =
        later_runs kind places (max upto to) k whole (omega arith) (inside_all (max upto to) (omega arith)) whole_runs
        ∙ along_split (begun kind places (max upto to)) k to (max upto to) l (omega arith)

    -- A window to the end has all runs from k on.
    pub resumed-all : upto ≤ to → drop (count_below k window) window ≡ drop (count_below k whole) whole
    resumed-all l = elim (cases_lt to k) [
      | inl h ↦ window_none h ∙ sym (no_later_runs kind places k whole (inside_all k (omega arith)) whole_runs)
      | inr h ↦ window_later h ∙ sym (later_runs kind places to k whole h (inside_all to l) whole_runs)
    ]

    -- Any window has the first of them, as far as they end inside.
    pub resumed-some : (n : ℕ) → n ≤ length (drop (count_below k window) window) → AllByRecursion (λ run. run.hi < to) (take n (drop (count_below k window) window))
        → take n (drop (count_below k window) window) ≡ take n (drop (count_below k whole) whole)
    resumed-some n l ended = elim (cases_lt to k) [
      | inl h ↦ nothing n (drop (count_below k window) window) (drop (count_below k whole) whole) (window_none h) l
      | inr h ↦
          let first : List Stretch = along (begun kind places (max upto to)) k to in
          let shown : drop (count_below k window) window ≡ map (cut to) first = window_cut (max upto to) h (omega arith) in
          let long = length-map first (cut to) in
          ap (take n) shown
          ∙ take-cut to n first (subst (λ xs. AllByRecursion (λ run. run.hi < to) (take n xs)) shown ended)
          ∙ sym (take-append-le n first (along (begun kind places (max upto to)) to (max upto to)) (omega (arith, ap length shown)))
          ∙ sym (ap (take n) (whole_later h))
    ]
      where
        nothing : (n : ℕ) (xs ys : List Stretch) → xs ≡ [] → n ≤ length xs → take n xs ≡ take n ys
        nothing zero xs ys e l = refl
        nothing (suc n) xs ys e l = absurd (omega (arith, ap length e))

    -- With those of the whole route below k, as many begin below a thousandth of the window as on the whole route.
    pub counted-further : (j : ℕ) → k ≤ j → j ≤ to → count_below k whole + count_below j (drop (count_below k window) window) ≡ count_below j whole
    counted-further j l h =
        let first : List Stretch = along (begun kind places (max upto to)) k to in
        let rest : List Stretch = along (begun kind places (max upto to)) to (max upto to) in
        let shown : count_below j (drop (count_below k window) window) ≡ count_below j first = ap (count_below j) (window_cut (max upto to) (omega arith) (omega arith)) ∙ count-cut to j first in
        let no_rest : count_below j rest ≡ 0 = count-none j rest (every-weaker (λ run. to ≤ run.lo) (λ run. j ≤ run.lo) (λ run e. omega arith) rest (begun_from kind places (max upto to) to (max upto to) (omega arith))) in
        let later : count_below j (drop (count_below k whole) whole) ≡ count_below j first + count_below j rest = ap (count_below j) (whole_later (omega arith)) ∙ count-append j first rest in
        let all = count-further k j whole whole_runs.ordered l in
        omega (arith, shown, no_rest, later, all)

    -- All begin below the end.
    pub counted-whole : (j : ℕ) → upto ≤ j → count_below j whole ≡ length whole
    unfolding runs_of
    counted-whole j l = count-all j whole (subst (AllBelow j) (sym (runs_of-unique kind 0 j places whole (inside_all j l) whole_runs)) (begun_below kind places j 0 j (omega arith)))
