-- Lists of spans in order by where they begin, and what stays of them in another order.
use Rattle.std.proofs.Common.{◌≡◌, ℕ, suc, ◌+◌, ◌≤◌, Bool, true, false, cond, List, [], ◌∷◌, map, filter, get_or, refl, ap, subst, inl, inr, arith, nat_cmp, is_lt}
use Rattle.std.proofs.lemmas.Bool.{cases_lt}
use Rattle.std.proofs.lemmas.List.Elements.{All-from_recursion, recursion_from_All}
use Rattle.std.proofs.lemmas.List.Sorted.{All-permutation, IsPermutation-map}
use Rattle.std.specs.List.{AllByRecursion}
use Rattle.std.specs.List.Sorted.{IsSortedBy, IsPermutation}
use Rattle.rs_facts.specs.declared.fact.Span.{Span}
use Rattle.rs_facts.specs.Runs.{Stretch}
use Rattle.rs_facts.specs.Spans.{seen}
use Rattle.rs_facts.proofs.KeptLaws.{every-weaker}
use Rattle.rs_facts.proofs.StretchOrder.{nat_cmp-below}
use Rattle.rs_sweep.specs.Lists.{AreSorted}

-- ---- sorting

-- spans, or spans that are lent, each seen as a stretch
abbrev pub ByPlace : {X : Type 0} → (X → Stretch) → List X → Type 0
ByPlace view spans = IsSortedBy (λ a b. is_lt (nat_cmp (view a).lo (view b).lo)) spans

not_below : (a b : ℕ) → is_lt (nat_cmp a b) ≡ false → b ≤ a
not_below a b e = elim (cases_lt a b) [ inl l ↦ let wrong : is_lt (nat_cmp a b) ≡ true = ap is_lt (nat_cmp-below a b l) in cc | inr m ↦ m ]

rest_sorted : {X : Type 0} (view : X → Stretch) (first : X) (rest : List X) → ByPlace view (first ∷ rest) → ByPlace view rest
rest_sorted view first rest h k d a b =
    let more : suc k + 1 ≡ suc (k + 1) = omega arith in
    subst (λ n. is_lt (nat_cmp (view (get_or (first ∷ rest) n d)).lo (view (get_or rest k d)).lo) ≡ false) more (h (suc k) d (omega arith) (omega arith))

pub sorted-from_sort : {X : Type 0} (view : X → Stretch) (spans : List X) → ByPlace view spans → AreSorted (map view spans)
sorted-from_sort view [] h = tt
sorted-from_sort view (first ∷ []) h = (tt, tt)
sorted-from_sort view (first ∷ next ∷ rest) h =
    let later = sorted-from_sort view (next ∷ rest) (rest_sorted view first (next ∷ rest) h) in
    let low = not_below (view next).lo (view first).lo (h 0 first (omega arith) (omega arith)) in
    ((low, every-weaker (λ l. (view next).lo ≤ l.lo) (λ l. (view first).lo ≤ l.lo) (λ l m. omega (arith, low, m)) (map view rest) later.0), later)

-- ---- what holds of all

pub every-moved : (P : Stretch → Type 0) (xs ys : List Span) → IsPermutation xs ys → AllByRecursion P (map seen xs) → AllByRecursion P (map seen ys)
every-moved P xs ys h all = recursion_from_All P (map seen ys) (All-permutation P (map seen xs) (map seen ys) (IsPermutation-map seen xs ys h) (All-from_recursion P (map seen xs) all))

-- spans that are changed, and kept where they pass a test
pub every-kept : (P Q : Stretch → Type 0) (test : Stretch → Bool) (change : Stretch → Stretch) → ((x : Stretch) → P x → test (change x) ≡ true → Q (change x)) → (xs : List Stretch) → AllByRecursion P xs → AllByRecursion Q (filter test (map change xs))
every-kept P Q test change each [] all = tt
every-kept P Q test change each (x ∷ xs) all =
    let rest = every-kept P Q test change each xs all.1 in
    elim (test (change x)) as (λ t. test (change x) ≡ t → AllByRecursion Q (cond t (change x ∷ filter test (map change xs)) (filter test (map change xs)))) [
      | true ↦ λ e. (each x all.0 e, rest)
      | false ↦ λ e. rest
    ] refl

pub sorted-kept : (test : Stretch → Bool) (change : Stretch → Stretch) → ((x y : Stretch) → x.lo ≤ y.lo → (change x).lo ≤ (change y).lo) → (xs : List Stretch) → AreSorted xs → AreSorted (filter test (map change xs))
sorted-kept test change rises [] h = tt
sorted-kept test change rises (x ∷ xs) h =
    let rest = sorted-kept test change rises xs h.1 in
    let low = every-kept (λ l. x.lo ≤ l.lo) (λ l. (change x).lo ≤ l.lo) test change (λ y m e. rises x y m) xs h.0 in
    elim (test (change x)) as (λ t. AreSorted (cond t (change x ∷ filter test (map change xs)) (filter test (map change xs)))) [
      | true ↦ (low, rest)
      | false ↦ rest
    ]

pub every-map : (P Q : Stretch → Type 0) (change : Stretch → Stretch) → ((x : Stretch) → P x → Q (change x)) → (xs : List Stretch) → AllByRecursion P xs → AllByRecursion Q (map change xs)
every-map P Q change each [] all = tt
every-map P Q change each (x ∷ xs) all = (each x all.0, every-map P Q change each xs all.1)

pub sorted-map : (change : Stretch → Stretch) → ((x y : Stretch) → x.lo ≤ y.lo → (change x).lo ≤ (change y).lo) → (xs : List Stretch) → AreSorted xs → AreSorted (map change xs)
sorted-map change rises [] h = tt
sorted-map change rises (x ∷ xs) h = (every-map (λ l. x.lo ≤ l.lo) (λ l. (change x).lo ≤ l.lo) change (λ y m. rises x y m) xs h.0, sorted-map change rises xs h.1)

pub map-filter : (test : Stretch → Bool) (xs : List Span) → map seen (filter (λ x. test (seen x)) xs) ≡ filter test (map seen xs)
map-filter test [] = refl
map-filter test (x ∷ xs) = elim (test (seen x)) as (λ t. map seen (cond t (x ∷ filter (λ x. test (seen x)) xs) (filter (λ x. test (seen x)) xs)) ≡ cond t (seen x ∷ filter test (map seen xs)) (filter test (map seen xs))) [
  | true ↦ ap (λ zs. seen x ∷ zs) (map-filter test xs)
  | false ↦ map-filter test xs
]
