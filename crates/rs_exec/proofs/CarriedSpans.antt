-- What is carried of spans: what does not meet a piece is not, pieces are gathered in turn, and runs are as wide as the
-- spans that they are made of.
use Rattle.std.proofs.Common.{◌≡◌, ◌≤◌, ◌<◌, ℕ, ◌+◌, ◌-◌, Bool, true, false, ◌&&◌, ◌||◌, cond, inl, inr, List, [], ◌∷◌, ◌++◌, map, filter, length, refl, sym, ap, ◌∙◌, subst, arith}
use Rattle.std.proofs.lemmas.Bool.{and_from, and_parts, lt-ltb}
use Rattle.std.specs.List.{list_any, AllByRecursion}
use Rattle.std.specs.Prelude.{nat_lt}
use Rattle.std.specs.declared.cmp.Ordering.TheVariants.{Less}
use Rattle.rs_value.specs.Row.{Row}
use Rattle.rs_value.specs.declared.column.Kind.{Kind}
use Rattle.rs_value.specs.declared.column.Kind.TheVariants.{Point, Line}
use Rattle.rs_facts.specs.declared.fact.Span.{Span}
use Rattle.rs_facts.specs.Fact.{RowSet, none, contains, Places}
use Rattle.rs_facts.specs.Insert.{within}
use Rattle.rs_facts.specs.Operators.{merged, carried}
use Rattle.rs_facts.specs.Runs.{Stretch, stretch_cmp, AreOrdered, IsMaximalRun}
use Rattle.rs_facts.specs.Spans.{seen, places_of}
use Rattle.rs_facts.proofs.KeptLaws.{every-append}
use Rattle.rs_facts.proofs.Placing.{within-bounds}
use Rattle.rs_facts.proofs.Sets.{contains-none, same_rows}
use Rattle.rs_facts.proofs.SpanLaws.{holds, Covers-from_contains, contains-places_of, contains-append}
use Rattle.rs_facts.proofs.Carrying.{contains-carried}
use Rattle.rs_facts.proofs.RowSets.{contains-merged}
use Rattle.rs_facts.proofs.RunLaws.{each-at}
use Rattle.rs_facts.proofs.StretchOrder.{stretch_cmp-less}
use Rattle.rs_sweep.specs.Lists.{AreSorted, AreWide}
use Rattle.rs_exec.specs.Carried.{meets}

-- ---- spans that meet a piece

holds_apart : (from to : ℕ) (row : Row) (k : ℕ) (x : Stretch) → from ≤ k → k < to → meets from to x ≡ false → holds row k x ≡ false
unfolding holds
holds_apart from to row k x a b e = elim (holds row k x) as (λ t. holds row k x ≡ t → t ≡ false) [
  | true ↦ λ h.
      let inside = within-bounds x.lo x.hi k (and_parts (within x.lo x.hi k) _ h).0 in
      let met = and_from (nat_lt x.lo to) (nat_lt from x.hi) (lt-ltb x.lo to (omega (arith, inside.0, b))) (lt-ltb from x.hi (omega (arith, inside.1, a))) in
      cc
  | false ↦ λ h. refl
] refl

any_met : (from to : ℕ) (row : Row) (k : ℕ) (xs : List Stretch) → from ≤ k → k < to → list_any (holds row k) (filter (meets from to) xs) ≡ list_any (holds row k) xs
any_met from to row k [] a b = refl
any_met from to row k (x ∷ xs) a b = elim (meets from to x) as (λ t. meets from to x ≡ t → list_any (holds row k) (cond t (x ∷ filter (meets from to) xs) (filter (meets from to) xs)) ≡ (holds row k x || list_any (holds row k) xs)) [
  | true ↦ λ e. ap (λ t. holds row k x || t) (any_met from to row k xs a b)
  | false ↦ λ e. any_met from to row k xs a b ∙ sym (ap (λ t. t || list_any (holds row k) xs) (holds_apart from to row k x a b e))
] refl

-- what does not meet the piece is not carried
pub carried-met : (from to onto : ℕ) (xs : List Stretch) (k : ℕ) → carried from to onto (places_of (filter (meets from to) xs)) k ≡ carried from to onto (places_of xs) k
carried-met from to onto xs k = same_rows _ _ (λ row.
    contains-carried from to onto (places_of (filter (meets from to) xs)) k row
    ∙ inside row
    ∙ sym (contains-carried from to onto (places_of xs) k row))
  where
    there : ℕ
    there = from + (k - onto)

    inside : (row : Row) → (within onto (onto + (to - from)) k && contains (places_of (filter (meets from to) xs) there) row) ≡ (within onto (onto + (to - from)) k && contains (places_of xs there) row)
    inside row = elim (within onto (onto + (to - from)) k) as (λ t. within onto (onto + (to - from)) k ≡ t → (t && contains (places_of (filter (meets from to) xs) there) row) ≡ (t && contains (places_of xs there) row)) [
      | true ↦ λ e.
          let bounds = within-bounds onto (onto + (to - from)) k e in
          let a = bounds.0 in let b = bounds.1 in
          contains-places_of (filter (meets from to) xs) there row
          ∙ any_met from to row there xs (omega arith) (omega (arith, a, b))
          ∙ sym (contains-places_of xs there row)
      | false ↦ λ e. refl
    ] refl

pub every-met : (P : Stretch → Type 0) (test : Stretch → Bool) (xs : List Stretch) → AllByRecursion P xs → AllByRecursion P (filter test xs)
every-met P test [] all = tt
every-met P test (x ∷ xs) all =
    let rest = every-met P test xs all.1 in
    elim (test x) as (λ t. AllByRecursion P (cond t (x ∷ filter test xs) (filter test xs))) [
      | true ↦ (all.0, rest)
      | false ↦ rest
    ]

-- one more span at the end
pub filter-last : (test : Stretch → Bool) (xs : List Stretch) (x : Stretch) → filter test (xs ++ x ∷ []) ≡ filter test xs ++ cond (test x) (x ∷ []) []
filter-last test [] x = elim (test x) as (λ t. cond t (x ∷ []) [] ≡ cond t (x ∷ []) []) [ true ↦ refl | false ↦ refl ]
filter-last test (y ∷ xs) x = elim (test y) as (λ t. cond t (y ∷ filter test (xs ++ x ∷ [])) (filter test (xs ++ x ∷ [])) ≡ cond t (y ∷ filter test xs) (filter test xs) ++ cond (test x) (x ∷ []) []) [
  | true ↦ ap (λ zs. y ∷ zs) (filter-last test xs x)
  | false ↦ filter-last test xs x
]

-- ---- spans after others

map_append : (xs ys : List Span) → map seen (xs ++ ys) ≡ map seen xs ++ map seen ys
map_append [] ys = refl
map_append (x ∷ xs) ys = ap (λ zs. seen x ∷ zs) (map_append xs ys)

pub appended-means : (old more : List Span) (k : ℕ) → places_of (map seen (old ++ more)) k ≡ merged (places_of (map seen old) k) (places_of (map seen more) k)
appended-means old more k = same_rows _ _ (λ row.
    ap (λ zs. contains (places_of zs k) row) (map_append old more)
    ∙ contains-append (map seen old) (map seen more) k row
    ∙ sym (contains-merged (places_of (map seen old) k) (places_of (map seen more) k) row))

pub appended-all : (P : Stretch → Type 0) (old more : List Span) → AllByRecursion P (map seen old) → AllByRecursion P (map seen more) → AllByRecursion P (map seen (old ++ more))
appended-all P old more a b = subst (AllByRecursion P) (sym (map_append old more)) (every-append P (map seen old) (map seen more) a b)

-- ---- rows of either

pub or_assoc : (a b c : Bool) → ((a || b) || c) ≡ (a || (b || c))
or_assoc true b c = refl
or_assoc false b c = refl

pub or_false : (a : Bool) → (a || false) ≡ a
or_false true = refl
or_false false = refl

pub merged-none : (a : RowSet) → merged a none ≡ a
merged-none a = same_rows _ _ (λ row. contains-merged a none row ∙ ap (λ t. contains a row || t) (contains-none row) ∙ or_false (contains a row))

pub none-merged : (a : RowSet) → merged none a ≡ a
none-merged a = same_rows _ _ (λ row. contains-merged none a row ∙ ap (λ t. t || contains a row) (contains-none row))

pub merged-assoc : (a b c : RowSet) → merged (merged a b) c ≡ merged a (merged b c)
merged-assoc a b c = same_rows _ _ (λ row.
    contains-merged (merged a b) c row
    ∙ ap (λ t. t || contains c row) (contains-merged a b row)
    ∙ or_assoc (contains a row) (contains b row) (contains c row)
    ∙ sym (contains-merged a (merged b c) row ∙ ap (λ t. contains a row || t) (contains-merged b c row)))

-- ---- runs

sorted_one : (run : Stretch) (runs : List Stretch) → AllByRecursion (λ later. stretch_cmp run later ≡ Less) runs → AllByRecursion (λ later. run.lo ≤ later.lo) runs
sorted_one run [] h = tt
sorted_one run (later ∷ runs) h = (elim (stretch_cmp-less run later h.0) [ inl below ↦ omega (arith, below) | inr beside ↦ omega (arith, beside.0) ], sorted_one run runs h.1)

pub runs-sorted : (runs : List Stretch) → AreOrdered runs → AreSorted runs
runs-sorted [] h = tt
runs-sorted (run ∷ runs) h = (sorted_one run runs h.0, runs-sorted runs h.1)

run_holds : (kind : Kind) (places : Places) (run : Stretch) → IsMaximalRun kind places run → contains (places run.lo) run.row ≡ true
run_holds Line places run maximal = let some = maximal.some in maximal.holds run.lo (omega arith) some
run_holds Point places run maximal = maximal.holds

pub runs-wide : (kind : Kind) (width : ℕ) (spans runs : List Stretch) → AreWide width spans → AllByRecursion (IsMaximalRun kind (places_of spans)) runs → AreWide width runs
runs-wide kind width spans [] wide maximal = tt
runs-wide kind width spans (run ∷ runs) wide maximal =
    let covers = Covers-from_contains spans run.row run.lo (run_holds kind (places_of spans) run maximal.0) in
    (ap length (sym covers.is.same) ∙ each-at (λ span. length span.row ≡ width) spans covers.span wide covers.among, runs-wide kind width spans runs wide maximal.1)
