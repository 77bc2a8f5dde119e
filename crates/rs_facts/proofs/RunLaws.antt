-- Maximal runs: a list of them is determined by the places, and spans that lie apart are the runs of what they mean.
use Rattle.std.proofs.Common.{◌≡◌, ℕ, zero, suc, ◌+◌, ◌-◌, ◌<◌, ◌≤◌, ◌≢◌, true, false, ◌⊎◌, inl, inr, List, [], ◌∷◌, length, get_or, Less, refl, sym, ap, ◌∙◌, subst, arith}
use Rattle.std.proofs.lemmas.Bool.{cases_lt, cases_eq}
use Rattle.std.proofs.lemmas.List.Elements.{All-from_recursion, recursion_from_All, All-contains, All-contains_itself, All-weaker}
use Rattle.std.specs.List.{AllByRecursion, Contains}
use Rattle.rs_value.specs.declared.column.Kind.{Kind}
use Rattle.rs_value.specs.declared.column.Kind.TheVariants.{Point, Line}
use Rattle.rs_facts.specs.Fact.{contains, Places}
use Rattle.rs_facts.specs.Runs.{Stretch, stretch, stretch_cmp, AreOrdered, IsLineRun, IsMaximalRun, AreRunsOf}
use Rattle.rs_facts.specs.Spans.{places_of, IsPlaced, ArePlaced, gap_of}
use Rattle.rs_facts.proofs.SpanLaws.{Holds, Covers-from_contains, contains-from_Holds, contains-from_none}
use Rattle.rs_facts.proofs.StretchOrder.{stretch_cmp-one_way, stretch_cmp-less_apart}

-- ---- a list in strict order is its elements

at_first : (x : Stretch) (xs : List Stretch) → Contains (x ∷ xs) x
at_first x xs = (0, omega arith, refl)

at_later : (x y : Stretch) (xs : List Stretch) → Contains xs y → Contains (x ∷ xs) y
at_later x y xs h = (suc h.0, omega (arith, h.1), h.2)

cons_at : (x y : Stretch) (xs : List Stretch) (k : ℕ) → k < length (x ∷ xs) → get_or (x ∷ xs) k y ≡ y → (x ≡ y) ⊎ Contains xs y
cons_at x y xs zero below e = inl e
cons_at x y xs (suc k) below e = inr (k, omega arith, e)

-- an element of a list is its first or one of the rest
pub cases_cons : (x y : Stretch) (xs : List Stretch) → Contains (x ∷ xs) y → (x ≡ y) ⊎ Contains xs y
cases_cons x y xs h = cons_at x y xs h.0 h.1 h.2

none_at : (y : Stretch) → Contains [] y → ⊥
none_at y h = omega (arith, h.1)

-- what holds of all holds of each
pub each-at : (P : Stretch → Type 0) (xs : List Stretch) (x : Stretch) → AllByRecursion P xs → Contains xs x → P x
each-at P xs x all h = All-contains P xs x (All-from_recursion P xs all) h

-- and the other way
pub every-from_each : (P : Stretch → Type 0) (xs : List Stretch) → ((x : Stretch) → Contains xs x → P x) → AllByRecursion P xs
every-from_each P xs h = recursion_from_All P xs (All-weaker (Contains xs) P h xs (All-contains_itself xs))

same_first : (x y : Stretch) (xs ys : List Stretch) → AreOrdered (x ∷ xs) → AreOrdered (y ∷ ys) → Contains (y ∷ ys) x → Contains (x ∷ xs) y → x ≡ y
same_first x y xs ys a b in_ys in_xs = elim (cases_cons y x ys in_ys) [
  | inl e ↦ sym e
  | inr later ↦ elim (cases_cons x y xs in_xs) [
    | inl e ↦ e
    | inr later2 ↦ absurd (stretch_cmp-one_way y x (each-at (λ l. stretch_cmp y l ≡ Less) ys x b.0 later) (each-at (λ l. stretch_cmp x l ≡ Less) xs y a.0 later2))
  ]
]

rest_in : (x y : Stretch) (xs ys : List Stretch) → x ≡ y → AreOrdered (x ∷ xs) → ((z : Stretch) → Contains (x ∷ xs) z → Contains (y ∷ ys) z) → (z : Stretch) → Contains xs z → Contains ys z
rest_in x y xs ys same a all z h = elim (cases_cons y z ys (all z (at_later x z xs h))) [
  | inl e ↦ absurd (stretch_cmp-less_apart x z (each-at (λ l. stretch_cmp x l ≡ Less) xs z a.0 h) (same ∙ e))
  | inr later ↦ later
]

-- two lists in strict order with the same elements are one
pub ordered-same : (xs ys : List Stretch) → AreOrdered xs → AreOrdered ys → ((z : Stretch) → Contains xs z → Contains ys z) → ((z : Stretch) → Contains ys z → Contains xs z) → xs ≡ ys
ordered-same [] [] a b there back = refl
ordered-same [] (y ∷ ys) a b there back = absurd (none_at y (back y (at_first y ys)))
ordered-same (x ∷ xs) [] a b there back = absurd (none_at x (there x (at_first x xs)))
ordered-same (x ∷ xs) (y ∷ ys) a b there back =
    let same = same_first x y xs ys a b (there x (at_first x xs)) (back y (at_first y ys)) in
    let rest = ordered-same xs ys a.1 b.1 (rest_in x y xs ys same a there) (rest_in y x ys xs (sym same) b back) in
    λ i. same i ∷ rest i

-- The maximal runs of places are one list.
pub runs-unique : (kind : Kind) (places : Places) (a b : List Stretch) → AreRunsOf kind places a → AreRunsOf kind places b → a ≡ b
runs-unique kind places a b h l = ordered-same a b h.ordered l.ordered
    (λ z among. l.complete z (each-at (IsMaximalRun kind places) a z h.maximal among))
    (λ z among. h.complete z (each-at (IsMaximalRun kind places) b z l.maximal among))

-- ---- spans that lie apart

-- two spans of one row are so far apart that they are no one run
abbrev pub IsApart : Kind → Stretch → Stretch → Type 0
IsApart kind a b = a.row ≡ b.row → (a.hi + gap_of kind ≤ b.lo) ⊎ (b.hi + gap_of kind ≤ a.lo)

-- and so are those at any two places of a list
abbrev pub LieApart : Kind → List Stretch → Type 0
LieApart kind spans = (i j : ℕ) (d : Stretch) → i < length spans → j < length spans → i ≢ j → IsApart kind (get_or spans i d) (get_or spans j d)

-- spans of the list are one or lie apart
pub apart-or_one : (kind : Kind) (spans : List Stretch) → LieApart kind spans → (x y : Stretch) → Contains spans x → Contains spans y → (x ≡ y) ⊎ IsApart kind x y
apart-or_one kind spans apart x y a b = elim (cases_eq a.0 b.0) [
  | inl same ↦ inl (sym a.2 ∙ default a.0 x y a.1 ∙ ap (λ i. get_or spans i y) same ∙ b.2)
  | inr other ↦ inr (subst (λ z. IsApart kind z y) (default a.0 y x a.1 ∙ a.2) (subst (λ z. IsApart kind (get_or spans a.0 y) z) b.2 (apart a.0 b.0 y a.1 b.1 other)))
]
  where
    default_in : (s : List Stretch) (i : ℕ) (c d : Stretch) → i < length s → get_or s i c ≡ get_or s i d
    default_in [] i c d h = absurd (omega arith)
    default_in (z ∷ s) zero c d h = refl
    default_in (z ∷ s) (suc i) c d h = default_in s i c d (omega arith)

    default : (i : ℕ) (c d : Stretch) → i < length spans → get_or spans i c ≡ get_or spans i d
    default = default_in spans

-- two maximal runs of one row that share a thousandth are one
pub line_runs-same : (places : Places) (a b : Stretch) (k : ℕ) → IsLineRun places a → IsLineRun places b → a.row ≡ b.row → a.lo ≤ k → k < a.hi → b.lo ≤ k → k < b.hi → a ≡ b
line_runs-same places a b k x y row a1 a2 b1 b2 = λ i. stretch (lo i) (hi i) (row i)
  where
    starts : (a b : Stretch) → IsLineRun places a → IsLineRun places b → a.row ≡ b.row → b.lo ≤ k → k < a.hi → a.lo < b.lo → ⊥
    starts a b x y row l h less =
        let before : suc (b.lo - 1) ≡ b.lo = omega arith in
        let held = x.holds (b.lo - 1) (omega arith) (omega arith) in
        let held2 : contains (places (b.lo - 1)) b.row ≡ true = subst (λ r. contains (places (b.lo - 1)) r ≡ true) row held in
        let free = y.not_before (b.lo - 1) before in cc

    ends : (a b : Stretch) → IsLineRun places a → IsLineRun places b → a.row ≡ b.row → b.lo ≤ k → k < a.hi → a.hi < b.hi → ⊥
    ends a b x y row l h less =
        let held = y.holds a.hi (omega arith) less in
        let free : contains (places a.hi) b.row ≡ false = subst (λ r. contains (places a.hi) r ≡ false) row x.not_behind in cc

    lo : a.lo ≡ b.lo
    lo = elim (cases_lt a.lo b.lo) [
      | inl less ↦ absurd (starts a b x y row b1 a2 less)
      | inr more ↦ elim (cases_lt b.lo a.lo) [ inl less ↦ absurd (starts b a y x (sym row) a1 b2 less) | inr same ↦ omega arith ]
    ]

    hi : a.hi ≡ b.hi
    hi = elim (cases_lt a.hi b.hi) [
      | inl less ↦ absurd (ends a b x y row b1 a2 less)
      | inr more ↦ elim (cases_lt b.hi a.hi) [ inl less ↦ absurd (ends b a y x (sym row) a1 b2 less) | inr same ↦ omega arith ]
    ]

-- a line's span that lies apart from all others of its row is a maximal run
line-maximal : (spans : List Stretch) → ArePlaced Line spans → LieApart Line spans → (x : Stretch) → Contains spans x → IsLineRun (places_of spans) x
line-maximal spans placed apart x among = record {
  some = some;
  holds = λ k a b. contains-from_Holds spans x x.row k among (record { same = refl; from = a; below = b });
  not_before = λ j e. contains-from_none spans x.row j (λ y in_y h. before j e y in_y h);
  not_behind = contains-from_none spans x.row x.hi behind;
}
  where
    some : x.lo < x.hi
    some = each-at (IsPlaced Line) spans x placed among

    before : (j : ℕ) → suc j ≡ x.lo → (y : Stretch) → Contains spans y → Holds x.row j y → ⊥
    before j e y in_y h = elim (apart-or_one Line spans apart x y among in_y) [
      | inl same ↦ let lo : x.lo ≡ y.lo = ap (λ (s : Stretch). s.lo) same in omega (arith, lo, h.from, e)
      | inr gap ↦ elim (gap (sym h.same)) [ inl a ↦ omega (arith, a, h.from, e, some) | inr b ↦ omega (arith, b, h.below, e) ]
    ]

    behind : (y : Stretch) → Contains spans y → Holds x.row x.hi y → ⊥
    behind y in_y h = elim (apart-or_one Line spans apart x y among in_y) [
      | inl same ↦ let hi : x.hi ≡ y.hi = ap (λ (s : Stretch). s.hi) same in omega (arith, hi, h.below)
      | inr gap ↦ elim (gap (sym h.same)) [ inl a ↦ omega (arith, a, h.from) | inr b ↦ omega (arith, b, h.below, some) ]
    ]

pub apart-maximal : (kind : Kind) (spans : List Stretch) → ArePlaced kind spans → LieApart kind spans → (x : Stretch) → Contains spans x → IsMaximalRun kind (places_of spans) x
apart-maximal Line spans placed apart x among = line-maximal spans placed apart x among
apart-maximal Point spans placed apart x among =
    let one : x.hi ≡ suc x.lo = each-at (IsPlaced Point) spans x placed among in
    record { one = one; holds = contains-from_Holds spans x x.row x.lo among (record { same = refl; from = omega arith; below = omega (arith, one) }) }

pub apart-complete : (kind : Kind) (spans : List Stretch) → ArePlaced kind spans → LieApart kind spans → (run : Stretch) → IsMaximalRun kind (places_of spans) run → Contains spans run
apart-complete Line spans placed apart run maximal =
    let covers = Covers-from_contains spans run.row run.lo (maximal.holds run.lo (omega arith) maximal.some) in
    let same = line_runs-same (places_of spans) covers.span run run.lo (line-maximal spans placed apart covers.span covers.among) maximal covers.is.same covers.is.from covers.is.below (omega arith) maximal.some in
    subst (Contains spans) same covers.among
apart-complete Point spans placed apart run maximal =
    let covers = Covers-from_contains spans run.row run.lo maximal.holds in
    let one : covers.span.hi ≡ suc covers.span.lo = each-at (IsPlaced Point) spans covers.span placed covers.among in
    let lo : covers.span.lo ≡ run.lo = omega (arith, one, covers.is.from, covers.is.below) in
    let hi : covers.span.hi ≡ run.hi = omega (arith, one, lo, maximal.one) in
    let same : covers.span ≡ run = λ i. stretch (lo i) (hi i) (covers.is.same i) in
    subst (Contains spans) same covers.among

-- Spans that lie apart, in printing order, are the runs of what they mean.
pub runs-from_apart : (kind : Kind) (spans : List Stretch) → ArePlaced kind spans → LieApart kind spans → AreOrdered spans → AreRunsOf kind (places_of spans) spans
runs-from_apart kind spans placed apart ordered = record {
  ordered = ordered;
  maximal = every-from_each (IsMaximalRun kind (places_of spans)) spans (apart-maximal kind spans placed apart);
  complete = apart-complete kind spans placed apart;
}
