-- Spans in order of place, joined in turn: the runs that are made, those of them that are open, and the spans that are left.
use Rattle.std.proofs.Common.{◌≡◌, ◌≢◌, ℕ, zero, suc, ◌+◌, ◌-◌, ◌<◌, ◌≤◌, ◌⊎◌, min, max, Bool, true, false, inl, inr, List, [], ◌∷◌, ◌++◌, length, map, take, drop, get_or, set, Contains, refl, sym, ap, ◌∙◌, subst, arith, append_assoc, get_or-set_same}
use Rattle.std.proofs.lemmas.Bool.{and_cases, cases_eq, cases_lt, ltb-false}
use Rattle.std.proofs.lemmas.List.{get_or-set_other, get_or-map, get_or-take, take-set-le, drop_more, take_more_set, drop-set-lt, drop_all, set-set, set-get_or, set_split, append-nil, map-append, length-map, length-set, length-take-le, take-append-drop}
use Rattle.std.proofs.Math.Seq.{take-set-lt}
use Rattle.std.proofs.lemmas.List.Elements.{Contains-append_cases, Contains-append_left, Contains-append_right}
use Rattle.std.proofs.lemmas.List.Sorted.{IsPermutation-map}
use Rattle.std.specs.List.{AllByRecursion, SwappedAt}
use Rattle.std.specs.List.Sorted.{IsPermutation}
use Rattle.std.specs.Prelude.{nat_lt}
use Rattle.rs_value.specs.declared.column.Kind.{Kind}
use Rattle.rs_value.specs.declared.column.Kind.TheVariants.{Point, Line}
use Rattle.rs_facts.specs.declared.fact.Span.{Span}
use Rattle.rs_facts.specs.Insert.{with_row}
use Rattle.rs_facts.specs.Runs.{Stretch}
use Rattle.rs_facts.specs.Spans.{seen, places_of, IsPlaced, ArePlaced, gap_of}
use Rattle.rs_facts.proofs.Rows.{same_row, same_row-equal}
use Rattle.rs_facts.proofs.KeptLaws.{placed-some, every-before}
use Rattle.rs_facts.proofs.RunLaws.{IsApart}
use Rattle.rs_facts.proofs.SpanLaws.{places_of-middle, with_row-absorb}
use Rattle.rs_coalesce.specs.Joined.{joins, join, BeginInTurn, AreJoined}
use Rattle.rs_coalesce.proofs.Joining.{joins-true, join-placed}
use Rattle.rs_coalesce.proofs.Whole.{placed-permutation}

abbrev pub IsClosed : Kind → List Span → ℕ → ℕ → Type 0
IsClosed kind xs next i = (j : ℕ) (d : Span) → next ≤ j → j < length xs → (get_or xs i d).hi + gap_of kind ≤ (get_or xs j d).lo

-- The runs made are the first spans of the list, and those that are left begin at the next one. None of these begins before
-- a run. Where all were joined so far, the runs lie apart, and each is open or ends before all that are left.
pub record Turn (kind : Kind) (given xs : List Span) (made next : ℕ) (opened : List ℕ) (are_all : Bool) : Type 0 where
  pub below : made ≤ next
  pub same : places_of (map seen (take made xs ++ drop next xs)) ≡ places_of (map seen given)
  pub placed : ArePlaced kind (map seen xs)
  pub later : (i j : ℕ) (d : Span) → i < made → next ≤ j → j < length xs → (get_or xs i d).lo ≤ (get_or xs j d).lo
  pub rising : (i j : ℕ) (d : Span) → next ≤ i → i ≤ j → j < length xs → (get_or xs i d).lo ≤ (get_or xs j d).lo
  pub within : (i : ℕ) → Contains opened i → i < made
  pub apart : are_all ≡ true → (i j : ℕ) (d : Span) → i < made → j < made → i ≢ j → IsApart kind (seen (get_or xs i d)) (seen (get_or xs j d))
  pub closed : are_all ≡ true → (i : ℕ) → i < made → Contains opened i ⊎ IsClosed kind xs next i

-- ---- at first

rises : (xs : List Span) → BeginInTurn xs → (i more : ℕ) (d : Span) → i + more < length xs → (get_or xs i d).lo ≤ (get_or xs (i + more) d).lo
rises xs turn i zero d inside = let here : i + 0 ≡ i = omega arith in subst (λ n. (get_or xs i d).lo ≤ (get_or xs n d).lo) (sym here) (omega arith)
rises xs turn i (suc more) d inside =
    let step : suc (i + more) ≡ i + suc more = omega arith in
    let one = rises xs turn i more d (omega (arith, inside)) in
    let two : (get_or xs (i + more) d).lo ≤ (get_or xs (i + suc more) d).lo = subst (λ n. (get_or xs (i + more) d).lo ≤ (get_or xs n d).lo) step (turn (i + more) d (omega (arith, inside))) in
    omega (arith, one, two)

no-member : (i : ℕ) → Contains [] i → ⊥
no-member i among = let inside = among.1 in omega (arith, inside)

pub turn-start : (kind : Kind) (xs : List Span) (opened : List ℕ) → opened ≡ [] → ArePlaced kind (map seen xs) → BeginInTurn xs → Turn kind xs xs 0 0 opened true
turn-start kind xs opened none placed turn = record {
  below = omega arith;
  same = refl;
  placed = placed;
  later = λ i j d low. absurd (omega (arith, low));
  rising = λ i j d from up inside.
      let on : i + (j - i) ≡ j = omega (arith, up) in
      subst (λ n. (get_or xs i d).lo ≤ (get_or xs n d).lo) on (rises xs turn i (j - i) d (omega (arith, on, inside)));
  within = λ i among. absurd (no-member i (subst (λ l. Contains l i) none among));
  apart = λ all i j d low. absurd (omega (arith, low));
  closed = λ all i low. absurd (omega (arith, low));
}

-- ---- a span that is one with an open run

get-set : (xs : List Span) (at i : ℕ) (y d : Span) → at < length xs → ((i ≡ at) × (get_or (set xs at y) i d ≡ y)) ⊎ ((i ≢ at) × (get_or (set xs at y) i d ≡ get_or xs i d))
get-set xs at i y d inside = elim (cases_eq i at) [
  | inl e ↦ inl (e, ap (λ n. get_or (set xs at y) n d) e ∙ get_or-set_same xs at y d inside)
  | inr n ↦ inr (n, get_or-set_other xs at i y d n)
]

every-set : (P : Stretch → Type 0) (xs : List Span) (at : ℕ) (y : Span) → AllByRecursion P (map seen xs) → P (seen y) → AllByRecursion P (map seen (set xs at y))
every-set P [] at y h p = tt
every-set P (x ∷ xs) zero y h p = (p, h.1)
every-set P (x ∷ xs) (suc at) y h p = (h.0, every-set P xs at y h.1 p)

every-get : (P : Stretch → Type 0) (xs : List Span) (at : ℕ) (d : Span) → at < length xs → AllByRecursion P (map seen xs) → P (seen (get_or xs at d))
every-get P [] at d inside h = absurd (omega (arith, inside))
every-get P (x ∷ xs) zero d inside h = h.0
every-get P (x ∷ xs) (suc at) d inside h = every-get P xs at d (omega (arith, inside)) h.1

-- among others, the two mean what they mean joined
joined-among : (xs ys zs : List Stretch) (a b : Stretch) → a.lo ≤ b.lo → b.lo ≤ a.hi → b.lo < b.hi → a.row ≡ b.row
    → places_of (xs ++ join a b ∷ (ys ++ zs)) ≡ places_of ((xs ++ a ∷ ys) ++ b ∷ zs)
joined-among xs ys zs a b low near some same =
    let first : min b.lo a.lo ≡ a.lo = omega (arith, low) in
    let last : max b.hi a.hi ≡ max a.hi b.hi = omega arith in
    places_of-middle xs (join a b) (ys ++ zs)
    ∙ (λ i. with_row (sym first i) (sym last i) (same i) (places_of (xs ++ (ys ++ zs))))
    ∙ sym (with_row-absorb b.lo b.hi b.row xs a (ys ++ zs) same (omega (arith, low, some)) near)
    ∙ ap (λ l. with_row b.lo b.hi b.row (places_of l)) (sym (append_assoc xs (a ∷ ys) zs))
    ∙ sym (places_of-middle (xs ++ a ∷ ys) b zs)

mapped-one : (xs ys zs : List Span) (y : Span) → map seen ((xs ++ y ∷ ys) ++ zs) ≡ map seen xs ++ seen y ∷ (map seen ys ++ map seen zs)
mapped-one xs ys zs y = map-append seen (xs ++ y ∷ ys) zs ∙ ap (λ l. l ++ map seen zs) (map-append seen xs (y ∷ ys)) ∙ append_assoc (map seen xs) (seen y ∷ map seen ys) (map seen zs)

mapped-two : (xs ys zs : List Span) (a b : Span) → map seen ((xs ++ a ∷ ys) ++ b ∷ zs) ≡ (map seen xs ++ seen a ∷ map seen ys) ++ seen b ∷ map seen zs
mapped-two xs ys zs a b = map-append seen (xs ++ a ∷ ys) (b ∷ zs) ∙ ap (λ l. l ++ seen b ∷ map seen zs) (map-append seen xs (a ∷ ys))

reached : (kind : Kind) (a b : Stretch) → b.lo < a.hi + gap_of kind → b.lo ≤ a.hi
reached Line a b h = omega arith
reached Point a b h = omega arith

still-same : (kind : Kind) (xs : List Span) (made next at : ℕ) (y : Span) → made ≤ next → next < length xs → at < made → ArePlaced kind (map seen xs)
    → (get_or xs at y).lo ≤ (get_or xs next y).lo → joins kind (seen (get_or xs at y)) (seen (get_or xs next y)) ≡ true → seen y ≡ join (seen (get_or xs at y)) (seen (get_or xs next y))
    → places_of (map seen (take made (set xs at y) ++ drop (next + 1) (set xs at y))) ≡ places_of (map seen (take made xs ++ drop next xs))
still-same kind xs made next at y below inside low placed up one is =
    let a = get_or xs at y in
    let b = get_or xs next y in
    let runs = take made xs in
    let left = drop (next + 1) xs in
    let long : length runs ≡ made = length-take-le made xs (omega (arith, below, inside)) in
    let near = joins-true kind (seen a) (seen b) one in
    let in_runs : at < length runs = omega (arith, low, long) in
    let now : take made (set xs at y) ≡ take at runs ++ y ∷ drop (suc at) runs = take-set-lt made xs at y low ∙ set_split runs at y in_runs in
    let before : runs ≡ take at runs ++ a ∷ drop (suc at) runs = sym (set-get_or runs at y) ∙ set_split runs at (get_or runs at y) in_runs ∙ ap (λ z. take at runs ++ z ∷ drop (suc at) runs) (get_or-take made xs at y low) in
    let rest : drop (next + 1) (set xs at y) ≡ left = drop-set-lt (next + 1) xs at y (omega (arith, low, below)) in
    let some : b.lo < b.hi = placed-some kind (seen b) (every-get (IsPlaced kind) xs next y inside placed) in
    (λ i. places_of (map seen (now i ++ rest i)))
    ∙ ap places_of (mapped-one (take at runs) (drop (suc at) runs) left y)
    ∙ ap (λ s. places_of (map seen (take at runs) ++ s ∷ (map seen (drop (suc at) runs) ++ map seen left))) is
    ∙ joined-among (map seen (take at runs)) (map seen (drop (suc at) runs)) (map seen left) (seen a) (seen b) up (reached kind (seen a) (seen b) near.0) some near.1
    ∙ ap places_of (sym (mapped-two (take at runs) (drop (suc at) runs) left a b))
    ∙ (λ i. places_of (map seen (sym before i ++ sym (drop_more xs next y inside) i)))

apart-back : (kind : Kind) (a b : Stretch) → IsApart kind a b → IsApart kind b a
apart-back kind a b apart = λ same. elim (apart (sym same)) [ inl h ↦ inr h | inr h ↦ inl h ]

-- what begins no later than the second and lies apart from the first, lies apart from the two joined
apart-joined : (kind : Kind) (a b c : Stretch) → b.lo < a.hi + gap_of kind → c.lo ≤ b.lo → IsApart kind a c → IsApart kind (join a b) c
apart-joined kind a b c near low apart = λ same. elim (apart same) [ inl h ↦ absurd (omega (arith, near, low, h)) | inr h ↦ inr h ]

turn-set : (kind : Kind) (given xs : List Span) (made next at : ℕ) (y : Span) (opened : List ℕ) (are_all : Bool) → Turn kind given xs made next opened are_all → next < length xs → Contains opened at
    → ((d : Span) → joins kind (seen (get_or xs at d)) (seen (get_or xs next d)) ≡ true) → ((d : Span) → seen y ≡ join (seen (get_or xs at d)) (seen (get_or xs next d)))
    → Turn kind given (set xs at y) made (next + 1) opened are_all
turn-set kind given xs made next at y opened are_all t inside among one is =
    let low : at < made = t.within at among in
    let below = t.below in
    let in_list : at < length xs = omega (arith, low, below, inside) in
    let long : length (set xs at y) ≡ length xs = length-set xs at y in
    let near : (d : Span) → (get_or xs next d).lo < (get_or xs at d).hi + gap_of kind = λ d. (joins-true kind (seen (get_or xs at d)) (seen (get_or xs next d)) (one d)).0 in
    let begin : (d : Span) → y.lo ≡ (get_or xs at d).lo = λ d. ap (λ (s : Stretch). s.lo) (is d) in
    let up : (d : Span) → (get_or xs at d).lo ≤ (get_or xs next d).lo = λ d. t.later at next d low (omega arith) inside in
    let lo_of : (i : ℕ) (d : Span) → (get_or (set xs at y) i d).lo ≡ (get_or xs i d).lo = λ i d. elim (get-set xs at i y d in_list) [
      | inl h ↦ ap (λ (s : Span). s.lo) h.1 ∙ begin d ∙ ap (λ n. (get_or xs n d).lo) (sym h.0)
      | inr h ↦ ap (λ (s : Span). s.lo) h.1
    ] in
    record {
      below = omega (arith, below);
      same = still-same kind xs made next at y below inside low t.placed (up y) (one y) (is y) ∙ t.same;
      placed = every-set (IsPlaced kind) xs at y t.placed (subst (IsPlaced kind) (sym (is y)) (join-placed kind (seen (get_or xs at y)) (seen (get_or xs next y)) (up y) (near y) (every-get (IsPlaced kind) xs at y in_list t.placed) (every-get (IsPlaced kind) xs next y inside t.placed)));
      later = λ i j d l from within.
          let h = t.later i j d l (omega (arith, from)) (omega (arith, within, long)) in
          omega (arith, h, lo_of i d, lo_of j d);
      rising = λ i j d from on within.
          let h = t.rising i j d (omega (arith, from)) on (omega (arith, within, long)) in
          omega (arith, h, lo_of i d, lo_of j d);
      within = t.within;
      apart = λ all i j d l m other. elim (get-set xs at i y d in_list) [
        | inl h ↦ elim (get-set xs at j y d in_list) [
          | inl k ↦ absurd (other (h.0 ∙ sym k.0))
          | inr k ↦ with_joined all j d m k.0 (get_or (set xs at y) i d) (get_or (set xs at y) j d) (ap seen h.1 ∙ is d) k.1
        ]
        | inr h ↦ elim (get-set xs at j y d in_list) [
          | inl k ↦ apart-back kind (seen (get_or (set xs at y) j d)) (seen (get_or (set xs at y) i d)) (with_joined all i d l h.0 (get_or (set xs at y) j d) (get_or (set xs at y) i d) (ap seen k.1 ∙ is d) h.1)
          | inr k ↦ subst (λ s. IsApart kind (seen (get_or (set xs at y) i d)) (seen s)) (sym k.1) (subst (λ s. IsApart kind (seen s) (seen (get_or xs j d))) (sym h.1) (t.apart all i j d l m other))
        ]
      ];
      closed = λ all i l. elim (cases_eq i at) [
        | inl e ↦ inl (subst (Contains opened) (sym e) among)
        | inr n ↦ elim (t.closed all i l) [
          | inl h ↦ inl h
          | inr h ↦ inr (λ j d from within.
              let k = h j d (omega (arith, from)) (omega (arith, within, long)) in
              let hi : (get_or (set xs at y) i d).hi ≡ (get_or xs i d).hi = ap (λ (s : Span). s.hi) (get_or-set_other xs at i y d n) in
              omega (arith, k, hi, lo_of j d))
        ]
      ];
    }
  where
    with_joined : are_all ≡ true → (j : ℕ) (d : Span) → j < made → j ≢ at → (now other : Span) → seen now ≡ join (seen (get_or xs at d)) (seen (get_or xs next d)) → other ≡ get_or xs j d → IsApart kind (seen now) (seen other)
    with_joined all j d m n now other e f =
        subst (λ s. IsApart kind (seen now) (seen s)) (sym f)
        (subst (λ s. IsApart kind s (seen (get_or xs j d))) (sym e)
        (apart-joined kind (seen (get_or xs at d)) (seen (get_or xs next d)) (seen (get_or xs j d)) ((joins-true kind (seen (get_or xs at d)) (seen (get_or xs next d)) (one d)).0)
        (t.later j next d m (omega arith) inside) (t.apart all at j d (t.within at among) m (λ same. n (sym same)))))

pub turn-join : (kind : Kind) (given xs ys : List Span) (made next at : ℕ) (y : Span) (opened : List ℕ) (are_all : Bool) → Turn kind given xs made next opened are_all → next < length xs → Contains opened at
    → ((d : Span) → joins kind (seen (get_or xs at d)) (seen (get_or xs next d)) ≡ true) → ((d : Span) → seen y ≡ join (seen (get_or xs at d)) (seen (get_or xs next d)))
    → ys ≡ set xs at y → Turn kind given ys made (next + 1) opened are_all
turn-join kind given xs ys made next at y opened are_all t inside among one is now =
    subst (λ zs. Turn kind given zs made (next + 1) opened are_all) (sym now) (turn-set kind given xs made next at y opened are_all t inside among one is)

-- ---- a span that is a new run

ends-before : (kind : Kind) (a b : Stretch) → joins kind a b ≡ false → a.row ≡ b.row → a.hi + gap_of kind ≤ b.lo
unfolding joins same_row
ends-before kind a b e same = elim (and_cases (nat_lt b.lo (a.hi + gap_of kind)) (same_row a.row b.row) e) [
  | inl far ↦ ltb-false b.lo (a.hi + gap_of kind) far
  | inr other ↦ let one : same_row a.row b.row ≡ true = same_row-equal a.row b.row same in cc
]

pub alone : (n i : ℕ) → Contains (n ∷ []) i → i ≡ n
alone n i (zero, inside, is) = sym is
alone n i (suc k, inside, is) = absurd (omega (arith, inside))

lists-at : (xs ys : List Span) (made next : ℕ) (d : Span) → made ≤ next → next < length xs → SwappedAt xs ys made next → take (made + 1) ys ++ drop (next + 1) ys ≡ take made xs ++ drop next xs
lists-at xs ys made next d below inside swapped =
    let x = get_or xs next d in
    let once = set xs made x in
    let now : ys ≡ set once next (get_or xs made d) = swapped.3 d in
    let front : take (made + 1) ys ≡ take made xs ++ x ∷ [] = front_of now in
    let rest : drop (next + 1) ys ≡ drop (next + 1) xs =
    ap (drop (next + 1)) now
    ∙ drop-set-lt (next + 1) once next (get_or xs made d) (omega arith)
    ∙ drop-set-lt (next + 1) xs made x (omega (arith, below)) in
    (λ i. front i ++ rest i)
    ∙ append_assoc (take made xs) (x ∷ []) (drop (next + 1) xs)
    ∙ ap (λ l. take made xs ++ l) (sym (drop_more xs next d inside))
  where
    front_of : ys ≡ set (set xs made (get_or xs next d)) next (get_or xs made d) → take (made + 1) ys ≡ take made xs ++ get_or xs next d ∷ []
    front_of now = elim (cases_lt made next) [
      | inl low ↦
          ap (take (made + 1)) now
          ∙ take-set-le (made + 1) (set xs made (get_or xs next d)) next (get_or xs made d) (omega (arith, low))
          ∙ take_more_set xs made (get_or xs next d) (omega (arith, low, inside))
      | inr high ↦
          let one : next ≡ made = omega (arith, high, below) in
          ap (take (made + 1)) (now ∙ ap (λ n. set (set xs made (get_or xs next d)) n (get_or xs made d)) one ∙ set-set xs made (get_or xs next d) (get_or xs made d) ∙ ap (λ n. set xs made (get_or xs n d)) (sym one))
          ∙ take_more_set xs made (get_or xs next d) (omega (arith, below, inside))
    ]

lists-by : (xs ys : List Span) (made next : ℕ) → made ≤ next → next < length xs → SwappedAt xs ys made next → take (made + 1) ys ++ drop (next + 1) ys ≡ take made xs ++ drop next xs
lists-by [] ys made next below inside swapped = absurd (omega (arith, inside))
lists-by (x ∷ xs) ys made next below inside swapped = lists-at (x ∷ xs) ys made next x below inside swapped

-- what has to be so of the runs that stay open
pub record StayOpen (kind : Kind) (xs : List Span) (next : ℕ) (opened stay : List ℕ) (has_room : Bool) : Type 0 where
  pub kept : (i : ℕ) → Contains stay i → Contains opened i
  pub closed : has_room ≡ true → (i : ℕ) → Contains opened i → Contains stay i ⊎ ((d : Span) → (get_or xs i d).hi + gap_of kind ≤ (get_or xs next d).lo)

pub turn-push : (kind : Kind) (given xs ys : List Span) (made next : ℕ) (opened stay pushed : List ℕ) (are_all has_room both : Bool) → Turn kind given xs made next opened are_all → next < length xs
    → ((i : ℕ) (d : Span) → Contains opened i → joins kind (seen (get_or xs i d)) (seen (get_or xs next d)) ≡ false)
    → StayOpen kind xs next opened stay has_room → (both ≡ true → (are_all ≡ true) × (has_room ≡ true))
    → ((i : ℕ) → Contains pushed i → Contains (stay ++ made ∷ []) i) → (both ≡ true → pushed ≡ stay ++ made ∷ [])
    → IsPermutation xs ys → length ys ≡ length xs → SwappedAt xs ys made next
    → Turn kind given ys (made + 1) (next + 1) pushed both
turn-push kind given xs ys made next opened stay pushed are_all has_room both t inside none stays parts some push moved long swapped =
    let below = t.below in
    record {
      below = omega (arith, below);
      same = ap (λ l. places_of (map seen l)) (lists-by xs ys made next below inside swapped) ∙ t.same;
      placed = placed-permutation kind (map seen xs) (map seen ys) (IsPermutation-map seen xs ys moved) t.placed;
      later = λ i j d l from within. elim (cases_eq i made) [
        | inl e ↦
            let h = t.rising next j d (omega arith) (omega (arith, from)) (omega (arith, within, long)) in
            omega (arith, h, ap (λ (s : Span). s.lo) (ap (λ n. get_or ys n d) e ∙ new_one d), ap (λ (s : Span). s.lo) (beyond j d from))
        | inr n ↦
            let l' : i < made = omega (arith, l, n) in
            let h = t.later i j d l' (omega (arith, from)) (omega (arith, within, long)) in
            omega (arith, h, ap (λ (s : Span). s.lo) (old_one i d l'), ap (λ (s : Span). s.lo) (beyond j d from))
      ];
      rising = λ i j d from on within.
          let h = t.rising i j d (omega (arith, from)) on (omega (arith, within, long)) in
          omega (arith, h, ap (λ (s : Span). s.lo) (beyond i d from), ap (λ (s : Span). s.lo) (beyond j d (omega (arith, from, on))));
      within = λ i among. elim (Contains-append_cases stay (made ∷ []) i (some i among)) [
        | inl h ↦ let l = t.within i (stays.kept i h) in omega (arith, l)
        | inr h ↦ let e = alone made i h in omega (arith, e)
      ];
      apart = λ all i j d l m other. elim (cases_eq i made) [
        | inl e ↦ elim (cases_eq j made) [
          | inl f ↦ absurd (other (e ∙ sym f))
          | inr n ↦ apart-back kind (seen (get_or ys j d)) (seen (get_or ys i d)) (beside_new all j d (omega (arith, m, n)) (get_or ys j d) (get_or ys i d) (old_one j d (omega (arith, m, n))) (ap (λ n. get_or ys n d) e ∙ new_one d))
        ]
        | inr n ↦ elim (cases_eq j made) [
          | inl f ↦ beside_new all i d (omega (arith, l, n)) (get_or ys i d) (get_or ys j d) (old_one i d (omega (arith, l, n))) (ap (λ n. get_or ys n d) f ∙ new_one d)
          | inr o ↦ subst (λ s. IsApart kind (seen (get_or ys i d)) (seen s)) (sym (old_one j d (omega (arith, m, o)))) (subst (λ s. IsApart kind (seen s) (seen (get_or xs j d))) (sym (old_one i d (omega (arith, l, n)))) (t.apart (parts all).0 i j d (omega (arith, l, n)) (omega (arith, m, o)) other))
        ]
      ];
      closed = λ all i l. elim (cases_eq i made) [
        | inl e ↦ inl (subst (λ l. Contains l i) (sym (push all)) (Contains-append_right stay (made ∷ []) i (0, omega arith, sym e)))
        | inr n ↦
            let l' : i < made = omega (arith, l, n) in
            elim (t.closed (parts all).0 i l') [
              | inl among ↦ shut all i l' among
              | inr h ↦ inr (λ j d from within.
                  let k = h j d (omega (arith, from)) (omega (arith, within, long)) in
                  omega (arith, k, ap (λ (s : Span). s.hi) (old_one i d l'), ap (λ (s : Span). s.lo) (beyond j d from)))
            ]
      ];
    }
  where
    below_next : made ≤ next
    below_next = t.below

    new_one : (d : Span) → get_or ys made d ≡ get_or xs next d
    new_one d = swapped.0 d

    old_one : (i : ℕ) (d : Span) → i < made → get_or ys i d ≡ get_or xs i d
    old_one i d l = let below = below_next in swapped.2 i d (λ e. omega (arith, l, e)) (λ e. omega (arith, l, e, below))

    beyond : (j : ℕ) (d : Span) → next + 1 ≤ j → get_or ys j d ≡ get_or xs j d
    beyond j d from = let below = below_next in swapped.2 j d (λ e. omega (arith, from, e, below)) (λ e. omega (arith, from, e))

    ahead : both ≡ true → (i : ℕ) (d : Span) → i < made → (get_or xs i d).tuple ≡ (get_or xs next d).tuple → (get_or xs i d).hi + gap_of kind ≤ (get_or xs next d).lo
    ahead all i d l same = elim (t.closed (parts all).0 i l) [
      | inl among ↦ ends-before kind (seen (get_or xs i d)) (seen (get_or xs next d)) (none i d among) same
      | inr h ↦ h next d (omega arith) inside
    ]

    beside_new : both ≡ true → (i : ℕ) (d : Span) → i < made → (one other : Span) → one ≡ get_or xs i d → other ≡ get_or xs next d → IsApart kind (seen one) (seen other)
    beside_new all i d l one other e f = subst (λ s. IsApart kind (seen one) (seen s)) (sym f) (subst (λ s. IsApart kind (seen s) (seen (get_or xs next d))) (sym e) (λ same. inl (ahead all i d l same)))

    shut : both ≡ true → (i : ℕ) → i < made → Contains opened i → Contains pushed i ⊎ IsClosed kind ys (next + 1) i
    shut all i l among = elim (stays.closed (parts all).1 i among) [
      | inl h ↦ inl (subst (λ l. Contains l i) (sym (push all)) (Contains-append_left stay (made ∷ []) i h))
      | inr h ↦ inr (λ j d from within.
          let far = h d in
          let on = t.rising next j d (omega arith) (omega (arith, from)) (omega (arith, within, long)) in
          omega (arith, far, on, ap (λ (s : Span). s.hi) (old_one i d l), ap (λ (s : Span). s.lo) (beyond j d from)))
    ]

pub turn-as : (kind : Kind) (given xs ys : List Span) (made n next : ℕ) (opened m : List ℕ) (are_all both : Bool) → xs ≡ ys → made ≡ n → opened ≡ m → are_all ≡ both → Turn kind given ys n next m both → Turn kind given xs made next opened are_all
turn-as kind given xs ys made n next opened m are_all both e f g h t =
    subst (λ b. Turn kind given xs made next opened b) (sym h) (subst (λ l. Turn kind given xs made next l both) (sym g) (subst (λ k. Turn kind given xs k next m both) (sym f) (subst (λ l. Turn kind given l n next m both) (sym e) t)))

-- an open run is one of the spans
pub turn-inside : (kind : Kind) (given xs : List Span) (made next at : ℕ) (opened lent : List ℕ) (are_all : Bool) → Turn kind given xs made next opened are_all → next < length xs → lent ≡ opened → Contains lent at → at < length xs
turn-inside kind given xs made next at opened lent are_all t inside is among =
    let low = t.within at (subst (λ l. Contains l at) is among) in
    let below = t.below in
    omega (arith, low, below, inside)

-- ---- at the end

ends-placed : (kind : Kind) (xs : List Span) (made : ℕ) → ArePlaced kind (map seen xs) → ArePlaced kind (map seen (take made xs))
ends-placed kind xs made placed = every-before (IsPlaced kind) (map seen (take made xs)) (map seen (drop made xs)) (subst (ArePlaced kind) (ap (map seen) (sym (take-append-drop made xs)) ∙ map-append seen (take made xs) (drop made xs)) placed)

joined-all : (kind : Kind) (xs : List Span) (made : ℕ) → made ≤ length xs → ((i j : ℕ) (d : Span) → i < made → j < made → i ≢ j → IsApart kind (seen (get_or xs i d)) (seen (get_or xs j d))) → AreJoined kind (map seen (take made xs))
joined-all kind [] made within apart i j d l m other = let long = length-map (take made []) seen in let none = length-take-le {A = Span} made [] within in absurd (omega (arith, l, long, none, within))
joined-all kind (x ∷ xs) made within apart i j d l m other =
    let long = length-map (take made (x ∷ xs)) seen in
    let all = length-take-le made (x ∷ xs) within in
    let one : i < made = omega (arith, l, long, all) in
    let two : j < made = omega (arith, m, long, all) in
    let here : (n : ℕ) → n < made → get_or (map seen (take made (x ∷ xs))) n d ≡ seen (get_or (x ∷ xs) n x) = λ n low. get_or-map seen (take made (x ∷ xs)) n x d (omega (arith, low, all)) ∙ ap seen (get_or-take made (x ∷ xs) n x low) in
    subst (λ s. IsApart kind (get_or (map seen (take made (x ∷ xs))) i d) s) (sym (here j two)) (subst (λ s. IsApart kind s (seen (get_or (x ∷ xs) j x))) (sym (here i one)) (apart i j x one two other))

pub record Ended (kind : Kind) (given xs : List Span) (are_all : Bool) : Type 0 where
  pub placed : ArePlaced kind (map seen xs)
  pub same : places_of (map seen xs) ≡ places_of (map seen given)
  pub joined : are_all ≡ true → AreJoined kind (map seen xs)

pub turn-end : (kind : Kind) (given xs : List Span) (made next : ℕ) (opened : List ℕ) (are_all : Bool) → Turn kind given xs made next opened are_all → made ≤ length xs → length xs ≤ next → Ended kind given (take made xs) are_all
turn-end kind given xs made next opened are_all t within done = record {
  placed = ends-placed kind xs made t.placed;
  same = ap (λ l. places_of (map seen l)) (sym (append-nil (take made xs)) ∙ ap (λ l. take made xs ++ l) (sym (drop_all next xs done))) ∙ t.same;
  joined = λ all. joined-all kind xs made within (t.apart all);
}
