-- Spans with the bytes of their rows: they are maximal runs where those with the rows are, and where each of them, in order, comes
-- before the next.
use Rattle.std.proofs.Common.{◌≡◌, ◌≢◌, ◌<◌, ◌≤◌, ◌+◌, ◌↔◌, ℕ, zero, suc, Bool, true, false, IsTrue, List, [], ◌∷◌, length, map, get_or, is_lt, nat_cmp, refl, sym, ap, ◌∙◌, subst, inl, inr, arith}
use Rattle.std.proofs.lemmas.Bool.{cases_lt, false≢true, leb-true}
use Rattle.std.proofs.lemmas.Bool.Decides.{nat_tests}
use Rattle.std.proofs.lemmas.List.{get_or-map, length-map}
use Rattle.std.proofs.lemmas.List.Elements.{All-from_recursion, Contains-get_or, recursion_from_All}
use Rattle.std.proofs.lemmas.List.Sorted.{All-permutation}
use Rattle.std.specs.Cmp.Lexicographic.{nat_list_cmp_total, slice_cmp}
use Rattle.std.specs.FinMap.{nat_cmp-IsAntisymmetric, slice_cmp-IsAntisymmetric}
use Rattle.std.specs.List.{AllZip, IsAllAdjacentAnswer}
use Rattle.std.specs.List.Sorted.{IsPermutation, IsSortedBy}
use Rattle.std.specs.Cmp.{nat_cmp_is}
use Rattle.std.specs.Ordering.{ordering_reverse, ordering_then}
use Rattle.std.specs.Prelude.{nat_le}
use Rattle.std.specs.declared.cmp.Ordering.{Ordering}
use Rattle.std.specs.declared.cmp.Ordering.TheVariants.{Less, Equal, Greater}
use Rattle.rs_attr.specs.Meant.{HasBytes, comes_before, lent_cmp, less_or, stretch_of}
use Rattle.rs_attr.specs.declared.meant.RowStretch.{RowStretch}
use Rattle.rs_facts.proofs.Apart.{apart-permutation, kept-apart}
use Rattle.rs_facts.proofs.KeptLaws.{placed-some, precedes-all}
use Rattle.rs_facts.proofs.RunLaws.{IsApart, LieApart, apart-complete, apart-maximal, each-at, every-from_each, line_runs-same}
use Rattle.rs_facts.specs.Fact.{Places, contains}
use Rattle.rs_facts.specs.Runs.{IsLineRun, IsMaximalRun, IsPointRun, Stretch, stretch}
use Rattle.rs_facts.specs.Spans.{AreAllRunsOf, AreKept, AreOnce, ArePlaced, IsPlaced, Precedes, gap_of, places_of}
use Rattle.rs_value.proofs.EncodingLaws.{bytes_once, row_said_once}
use Rattle.rs_value.specs.Encoding.{SaysRow}
use Rattle.rs_value.specs.declared.column.ColumnType.{ColumnType}
use Rattle.rs_value.specs.declared.column.Kind.{Kind}
use Rattle.rs_value.specs.declared.column.Kind.TheVariants.{Line, Point}
use Rattle.rs_value.specs.Row.{Row, datum_cmp, row_cmp, text, text_in}

-- ---- all the maximal runs lie apart, and those that lie apart are all of them

once_at : (spans : List Stretch) → AreOnce spans → (i j : ℕ) (d : Stretch) → i < length spans → j < length spans → i ≢ j → get_or spans i d ≡ get_or spans j d → ⊥
once_at [] once i j d a b other same = omega (arith, a)
once_at (x ∷ xs) once zero zero d a b other same = other refl
once_at (x ∷ xs) once zero (suc j) d a b other same = each-at (λ y. x ≡ y → ⊥) xs (get_or xs j d) once.0 (Contains-get_or xs j d (omega arith)) same
once_at (x ∷ xs) once (suc i) zero d a b other same = each-at (λ y. x ≡ y → ⊥) xs (get_or xs i d) once.0 (Contains-get_or xs i d (omega arith)) (sym same)
once_at (x ∷ xs) once (suc i) (suc j) d a b other same = once_at xs once.1 i j d (omega arith) (omega arith) (λ e. other (ap suc e)) same

-- two maximal runs of one row are one, or lie apart
lines_apart : (places : Places) (a b : Stretch) → IsLineRun places a → IsLineRun places b → (a ≡ b → ⊥) → IsApart Line a b
lines_apart places a b x y other same = elim (cases_lt b.lo (a.hi + 1)) [
  | inr far ↦ inl far
  | inl near ↦ elim (cases_lt a.lo (b.hi + 1)) [
    | inr far ↦ inr far
    | inl close ↦ elim (cases_lt b.lo a.hi) [
      | inr upto ↦
          let at : b.lo ≡ a.hi = omega (arith, near, upto) in
          let held : contains (places a.hi) a.row ≡ true =
          subst (λ (r : Row). contains (places a.hi) r ≡ true) (sym same) (subst (λ (k : ℕ). contains (places k) b.row ≡ true) at (y.holds b.lo (omega arith) y.some)) in
          absurd (false≢true (sym x.not_behind ∙ held))
      | inl within ↦ elim (cases_lt a.lo b.hi) [
        | inr upto ↦
            let at : a.lo ≡ b.hi = omega (arith, close, upto) in
            let held : contains (places b.hi) b.row ≡ true =
            subst (λ (r : Row). contains (places b.hi) r ≡ true) same (subst (λ (k : ℕ). contains (places k) a.row ≡ true) at (x.holds a.lo (omega arith) x.some)) in
            absurd (false≢true (sym y.not_behind ∙ held))
        | inl inside ↦ elim (cases_lt a.lo b.lo) [
          | inl before ↦ absurd (other (line_runs-same places a b b.lo x y same (omega (arith, before)) within (omega arith) y.some))
          | inr after ↦ absurd (other (line_runs-same places a b a.lo x y same (omega arith) x.some after inside))
        ]
      ]
    ]
  ]
]

points_apart : (places : Places) (a b : Stretch) → IsPointRun places a → IsPointRun places b → (a ≡ b → ⊥) → IsApart Point a b
points_apart places a b x y other same = elim (cases_lt a.lo b.lo) [
  | inl before ↦ inl (omega (arith, before, x.one))
  | inr after ↦ elim (cases_lt b.lo a.lo) [
    | inl before ↦ inr (omega (arith, before, y.one))
    | inr back ↦
        let lo : a.lo ≡ b.lo = omega (arith, after, back) in
        let hi : a.hi ≡ b.hi = x.one ∙ ap suc lo ∙ sym y.one in
        let all : a ≡ b = λ i. stretch (lo i) (hi i) (same i) in
        absurd (other all)
  ]
]

runs_apart : (kind : Kind) (places : Places) (a b : Stretch) → IsMaximalRun kind places a → IsMaximalRun kind places b → (a ≡ b → ⊥) → IsApart kind a b
runs_apart Line places a b x y other = lines_apart places a b x y other
runs_apart Point places a b x y other = points_apart places a b x y other

pub apart_where_runs : (kind : Kind) (spans : List Stretch) → AreAllRunsOf kind (places_of spans) spans → LieApart kind spans
apart_where_runs kind spans all i j d a b other =
    runs_apart kind (places_of spans) (get_or spans i d) (get_or spans j d)
    (each-at (IsMaximalRun kind (places_of spans)) spans (get_or spans i d) all.maximal (Contains-get_or spans i d a))
    (each-at (IsMaximalRun kind (places_of spans)) spans (get_or spans j d) all.maximal (Contains-get_or spans j d b))
    (once_at spans all.once i j d a b other)

apart_not_same : (kind : Kind) (a b : Stretch) → IsPlaced kind a → IsApart kind a b → a ≡ b → ⊥
apart_not_same kind a b placed apart same =
    let some = placed-some kind a placed in
    let lo : a.lo ≡ b.lo = ap (λ (s : Stretch). s.lo) same in
    let hi : a.hi ≡ b.hi = ap (λ (s : Stretch). s.hi) same in
    elim (apart (ap (λ (s : Stretch). s.row) same)) [ inl x ↦ omega (arith, x, some, lo) | inr y ↦ omega (arith, y, some, lo, hi) ]

rest_apart : (kind : Kind) (first : Stretch) (rest : List Stretch) → LieApart kind (first ∷ rest) → LieApart kind rest
rest_apart kind first rest h i j d a b other = h (suc i) (suc j) d (omega arith) (omega arith) (λ e. other (omega (arith, e)))

once_where_apart : (kind : Kind) (spans : List Stretch) → ArePlaced kind spans → LieApart kind spans → AreOnce spans
once_where_apart kind [] placed apart = tt
once_where_apart kind (x ∷ xs) placed apart = (
  every-from_each (λ y. x ≡ y → ⊥) xs
      (λ y among. apart_not_same kind x y placed.0 (subst (IsApart kind x) among.2 (apart 0 (suc among.0) y (omega arith) (omega (arith, among.1)) (λ e. omega (arith, e))))),
  once_where_apart kind xs placed.1 (rest_apart kind x xs apart),
)

pub runs_where_apart : (kind : Kind) (spans : List Stretch) → ArePlaced kind spans → LieApart kind spans → AreAllRunsOf kind (places_of spans) spans
runs_where_apart kind spans placed apart = record {
  once = once_where_apart kind spans placed apart;
  maximal = every-from_each (IsMaximalRun kind (places_of spans)) spans (apart-maximal kind spans placed apart);
  complete = apart-complete kind spans placed apart;
}

pub placed_moved : (kind : Kind) (xs ys : List Stretch) → IsPermutation xs ys → ArePlaced kind xs → ArePlaced kind ys
placed_moved kind xs ys moved placed = recursion_from_All (IsPlaced kind) ys (All-permutation (IsPlaced kind) xs ys moved (All-from_recursion (IsPlaced kind) xs placed))

-- in another order they are maximal runs too
pub runs_moved : (kind : Kind) (xs ys : List Stretch) → IsPermutation xs ys → ArePlaced kind ys → AreAllRunsOf kind (places_of xs) xs → AreAllRunsOf kind (places_of ys) ys
runs_moved kind xs ys moved placed runs = runs_where_apart kind ys placed (apart-permutation kind xs ys moved (apart_where_runs kind xs runs))

-- ---- with the rows, and with their bytes

text_first : Row → List ℕ
text_first [] = []
text_first (datum ∷ row) = text_in datum

pub text_same : (x y : List ℕ) → ◌≡◌ {A = Row} (text x ∷ []) (text y ∷ []) → x ≡ y
unfolding text_first
text_same x y same = ap text_first same

module _ (types : List ColumnType) where
  has_at : (lents spans : List Stretch) → AllZip (HasBytes types) lents spans → (i : ℕ) (d : Stretch) → i < length lents → HasBytes types (get_or lents i d) (get_or spans i d)
  has_at [] [] all i d inside = absurd (omega (arith, inside))
  has_at [] (s ∷ ss) all i d inside = absurd all
  has_at (l ∷ ls) [] all i d inside = absurd all
  has_at (l ∷ ls) (s ∷ ss) all zero d inside = all.0
  has_at (l ∷ ls) (s ∷ ss) all (suc i) d inside = has_at ls ss all.1 i d (omega (arith, inside))

  pub as_many : (lents spans : List Stretch) → AllZip (HasBytes types) lents spans → length lents ≡ length spans
  as_many [] [] all = refl
  as_many [] (s ∷ ss) all = absurd all
  as_many (l ∷ ls) [] all = absurd all
  as_many (l ∷ ls) (s ∷ ss) all = ap suc (as_many ls ss all.1)

  rows_alike : (a b x y : Stretch) → HasBytes types a x → HasBytes types b y → (a.row ≡ b.row → x.row ≡ y.row) × (x.row ≡ y.row → a.row ≡ b.row)
  rows_alike a b x y one other = (
    λ same.
        let bytes : one.bytes ≡ other.bytes = text_same one.bytes other.bytes (sym one.row ∙ same ∙ other.row) in
        row_said_once types other.bytes x.row y.row (subst (λ (l : List ℕ). SaysRow types l x.row) bytes one.says) other.says,
    λ same.
        let bytes : one.bytes ≡ other.bytes = bytes_once types one.bytes other.bytes y.row (subst (λ (r : Row). SaysRow types one.bytes r) same one.says) other.says in
        one.row ∙ ap (λ (l : List ℕ). text l ∷ []) bytes ∙ sym other.row,
  )

  module _ (kind : Kind) (lents spans : List Stretch) (all : AllZip (HasBytes types) lents spans) where
    apart_lent : LieApart kind spans → LieApart kind lents
    apart_lent apart i j d a b other same =
        let one = has_at lents spans all i d a in
        let two = has_at lents spans all j d b in
        let many = as_many lents spans all in
        let rows = rows_alike (get_or lents i d) (get_or lents j d) (get_or spans i d) (get_or spans j d) one two in
        elim (apart i j d (omega (arith, a, many)) (omega (arith, b, many)) other (rows.0 same)) [
          | inl x ↦ inl (omega (arith, x, one.hi, two.lo))
          | inr y ↦ inr (omega (arith, y, one.lo, two.hi))
        ]

    apart_said : LieApart kind lents → LieApart kind spans
    apart_said apart i j d a b other same =
        let many = as_many lents spans all in
        let one = has_at lents spans all i d (omega (arith, a, many)) in
        let two = has_at lents spans all j d (omega (arith, b, many)) in
        let rows = rows_alike (get_or lents i d) (get_or lents j d) (get_or spans i d) (get_or spans j d) one two in
        elim (apart i j d (omega (arith, a, many)) (omega (arith, b, many)) other (rows.1 same)) [
          | inl x ↦ inl (omega (arith, x, one.hi, two.lo))
          | inr y ↦ inr (omega (arith, y, one.lo, two.hi))
        ]

  placed_alike : (kind : Kind) (a x : Stretch) → HasBytes types a x → IsPlaced kind x → IsPlaced kind a
  placed_alike Line a x has placed = omega (arith, has.lo, has.hi, placed)
  placed_alike Point a x has placed = has.hi ∙ placed ∙ ap suc (sym has.lo)

  pub placed_lent : (kind : Kind) (lents spans : List Stretch) → AllZip (HasBytes types) lents spans → ArePlaced kind spans → ArePlaced kind lents
  placed_lent kind [] [] all placed = tt
  placed_lent kind [] (s ∷ ss) all placed = absurd all
  placed_lent kind (l ∷ ls) [] all placed = absurd all
  placed_lent kind (l ∷ ls) (s ∷ ss) all placed = (placed_alike kind l s all.0 placed.0, placed_lent kind ls ss all.1 placed.1)

  module _ (kind : Kind) (lents spans : List Stretch) (all : AllZip (HasBytes types) lents spans) (placed : ArePlaced kind spans) where
    pub runs_of_lent : AreAllRunsOf kind (places_of lents) lents → AreAllRunsOf kind (places_of spans) spans
    runs_of_lent runs = runs_where_apart kind spans placed (apart_said kind lents spans all (apart_where_runs kind lents runs))

    pub runs_as_lent : ArePlaced kind lents → AreAllRunsOf kind (places_of spans) spans → AreAllRunsOf kind (places_of lents) lents
    runs_as_lent put runs = runs_where_apart kind lents put (apart_lent kind lents spans all (apart_where_runs kind spans runs))

-- ---- each before the next

then_equal : (o : Ordering) → ordering_then o Equal ≡ o
then_equal Less = refl
then_equal Equal = refl
then_equal Greater = refl

text_cmp : (x y : List ℕ) → row_cmp (text x ∷ []) (text y ∷ []) ≡ slice_cmp nat_cmp x y
unfolding row_cmp datum_cmp
text_cmp x y = then_equal (slice_cmp nat_cmp x y)

precedes : (kind : Kind) (one next : RowStretch) → comes_before kind one next ≡ true → Precedes kind (stretch_of one) (stretch_of next)
precedes kind one next is = by (slice_cmp nat_cmp one.row.now next.row.now) refl is where
  by : (o : Ordering) → slice_cmp nat_cmp one.row.now next.row.now ≡ o → less_or o (nat_le (one.hi + gap_of kind) next.lo) ≡ true → Precedes kind (stretch_of one) (stretch_of next)
  by Less e h = inl (text_cmp one.row.now next.row.now ∙ e)
  by Equal e h = inr (
    ap (λ (l : List ℕ). text l ∷ []) (slice_cmp-IsAntisymmetric nat_cmp-IsAntisymmetric one.row.now next.row.now e),
    leb-true (one.hi + gap_of kind) next.lo h,
  )
  by Greater e h = absurd (false≢true h)

kept : (kind : Kind) (xs : List RowStretch) → ArePlaced kind (map stretch_of xs) → ((k : ℕ) (d : RowStretch) → k + 1 < length xs → true ≡ comes_before kind (get_or xs k d) (get_or xs (k + 1) d))
    → AreKept kind (map stretch_of xs)
kept kind [] placed all = tt
kept kind (x ∷ []) placed all = (placed.0, tt, tt)
kept kind (x ∷ y ∷ ys) placed all =
    let first : Precedes kind (stretch_of x) (stretch_of y) = precedes kind x y (sym (all 0 x (omega arith))) in
    let rest = kept kind (y ∷ ys) placed.1 (λ k d inside.
    let more : suc k + 1 ≡ suc (k + 1) = omega arith in
    subst (λ (n : ℕ). true ≡ comes_before kind (get_or (y ∷ ys) k d) (get_or (x ∷ y ∷ ys) n d)) more (all (suc k) d (omega (arith, inside)))) in
    (placed.0, precedes-all kind (stretch_of x) (stretch_of y) (map stretch_of ys) first rest, rest)

not_less : (a b : ℕ) → is_lt (nat_cmp a b) ≡ false → b ≤ a
not_less a b e = elim (cases_lt a b) [
  | inl l ↦ let wrong : is_lt (nat_cmp a b) ≡ true = ap is_lt (sym (nat_cmp_is a b Less l)) in absurd (false≢true (sym e ∙ wrong))
  | inr m ↦ m
]

-- where they lie apart, one in order comes before the next
before : (kind : Kind) (a b : RowStretch) → IsPlaced kind (stretch_of b) → is_lt (lent_cmp b a) ≡ false → IsApart kind (stretch_of a) (stretch_of b) → comes_before kind a b ≡ true
before kind a b placed order apart = by (slice_cmp nat_cmp b.row.now a.row.now) refl order where
  back : slice_cmp nat_cmp a.row.now b.row.now ≡ ordering_reverse (slice_cmp nat_cmp b.row.now a.row.now)
  back = nat_list_cmp_total.antisymm a.row.now b.row.now

  by : (o : Ordering) → slice_cmp nat_cmp b.row.now a.row.now ≡ o → is_lt (ordering_then o (nat_cmp b.lo a.lo)) ≡ false → comes_before kind a b ≡ true
  by Less e h = absurd (false≢true (sym h))
  by Greater e h =
      let less : slice_cmp nat_cmp a.row.now b.row.now ≡ Less = back ∙ ap ordering_reverse e in
      ap (λ (o : Ordering). less_or o (nat_le (a.hi + gap_of kind) b.lo)) less
  by Equal e h =
      let level : slice_cmp nat_cmp a.row.now b.row.now ≡ Equal = back ∙ ap ordering_reverse e in
      let bytes : a.row.now ≡ b.row.now = slice_cmp-IsAntisymmetric nat_cmp-IsAntisymmetric a.row.now b.row.now level in
      let low = not_less b.lo a.lo h in
      let some = placed-some kind (stretch_of b) placed in
      let far : a.hi + gap_of kind ≤ b.lo = elim (apart (ap (λ (l : List ℕ). text l ∷ []) bytes)) [ inl x ↦ x | inr y ↦ absurd (omega (arith, y, some, low)) ] in
      let yes : nat_le (a.hi + gap_of kind) b.lo ≡ true = grind (arith, nat_tests) in
      ap (λ (o : Ordering). less_or o (nat_le (a.hi + gap_of kind) b.lo)) level ∙ yes

placed_at : (kind : Kind) (xs : List RowStretch) → ArePlaced kind (map stretch_of xs) → (k : ℕ) (d : RowStretch) → k < length xs → IsPlaced kind (stretch_of (get_or xs k d))
placed_at kind [] placed k d inside = absurd (omega (arith, inside))
placed_at kind (x ∷ xs) placed zero d inside = placed.0
placed_at kind (x ∷ xs) placed (suc k) d inside = placed_at kind xs placed.1 k d (omega (arith, inside))

module _ (kind : Kind) (xs : List RowStretch) (placed : ArePlaced kind (map stretch_of xs)) (sorted : IsSortedBy (λ a b. is_lt (lent_cmp a b)) xs) where
  unless_apart : (k : ℕ) (d : RowStretch) → k + 1 < length xs → false ≡ comes_before kind (get_or xs k d) (get_or xs (k + 1) d) → LieApart kind (map stretch_of xs) → ⊥
  unless_apart k d inside is apart =
      let within : k < length xs = omega (arith, inside) in
      let many = length-map xs stretch_of in
      let two : IsApart kind (get_or (map stretch_of xs) k (stretch_of d)) (get_or (map stretch_of xs) (k + 1) (stretch_of d)) =
      apart k (k + 1) (stretch_of d) (omega (arith, within, many)) (omega (arith, inside, many)) (λ e. omega (arith, e)) in
      let both : IsApart kind (stretch_of (get_or xs k d)) (stretch_of (get_or xs (k + 1) d)) =
      subst (λ (s : Stretch). IsApart kind (stretch_of (get_or xs k d)) s) (get_or-map stretch_of xs (k + 1) d (stretch_of d) inside)
      (subst (λ (s : Stretch). IsApart kind s (get_or (map stretch_of xs) (k + 1) (stretch_of d))) (get_or-map stretch_of xs k d (stretch_of d) within) two) in
      false≢true (is ∙ before kind (get_or xs k d) (get_or xs (k + 1) d) (placed_at kind xs placed (k + 1) d inside) (sorted k d (omega arith) inside) both)

-- the answer of `is_sorted_by`
pub turn_answer : (kind : Kind) (xs : List RowStretch) → ArePlaced kind (map stretch_of xs) → IsSortedBy (λ a b. is_lt (lent_cmp a b)) xs → (r : Bool)
    → IsAllAdjacentAnswer (λ x y b. b ≡ comes_before kind x y) xs r → IsTrue r ↔ AreAllRunsOf kind (places_of (map stretch_of xs)) (map stretch_of xs)
turn_answer kind [] placed sorted true all = ((λ e. runs_where_apart kind [] tt (kept-apart kind [] tt)), λ runs. refl)
turn_answer kind [] placed sorted false (k, inside, is) = absurd (omega (arith, inside))
turn_answer kind (x ∷ xs) placed sorted true all = (
  λ e. runs_where_apart kind (map stretch_of (x ∷ xs)) placed (kept-apart kind (map stretch_of (x ∷ xs)) (kept kind (x ∷ xs) placed (λ k d inside. all k d (omega (arith, inside))))),
  λ runs. refl,
)
turn_answer kind (x ∷ xs) placed sorted false (k, inside, is) = (
  λ e. absurd (false≢true e),
  λ runs. absurd (unless_apart kind (x ∷ xs) placed sorted k x inside (is x) (apart_where_runs kind (map stretch_of (x ∷ xs)) runs)),
)
