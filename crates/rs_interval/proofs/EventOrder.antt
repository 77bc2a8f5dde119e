-- Cells that say records, in order: where a bound on route and beginning cuts them, and where they end.
use Rattle.std.proofs.Common.{◌≡◌, ◌<◌, ◌+◌, ◌-◌, ◌^◌, ◌==◌, ℕ, Bool, true, false, not, ◌&&◌, ◌||◌, cond, nat_lt, List, [], ◌∷◌, ◌++◌, length, drop, filter, refl, sym, ap, ◌∙◌, subst, inl, inr, arith}
use Rattle.std.proofs.lemmas.Bool.{cases_order}
use Rattle.std.proofs.lemmas.Bool.Decides.{nat_tests}
use Rattle.std.proofs.lemmas.List.{append_assoc, length-append, drop_at}
use Rattle.std.specs.Cmp.Lexicographic.{slice_cmp}
use Rattle.std.specs.Int.{w32, w64, to_be_bytes}
use Rattle.std.specs.List.{AllZip}
use Rattle.std.specs.Ordering.{nat_cmp, ordering_then, is_lt}
use Rattle.std.specs.declared.cmp.Ordering.{Ordering}
use Rattle.std.specs.declared.cmp.Ordering.TheVariants.{Less, Equal, Greater}
use Rattle.byteorder.specs.Numbers.{big_number-reads_back}
use Rattle.rs_records.specs.Order.{is_below}
use Rattle.rs_tree.specs.Cells.{is_within, cells_within}
use Rattle.rs_interval.specs.EventRecords.{EventRecord, SaysRecord, overlaps}
use Rattle.rs_interval.specs.Ends.{end_of}
use Rattle.rs_interval.specs.Finding.{route_from}
use Rattle.rs_interval.proofs.WordOrder.{word_cmp}

pub then_lt : (x y : ℕ) (o : Ordering) → is_lt (ordering_then (nat_cmp x y) o) ≡ (nat_lt x y || (x == y && is_lt o))
then_lt x y o = by (nat_lt x y) (x == y) where
  by : (p q : Bool) → is_lt (ordering_then (cond p Less (cond q Equal Greater)) o) ≡ (p || (q && is_lt o))
  by true q = refl
  by false true = refl
  by false false = refl

-- nothing is below what has no bytes
pub none_lt : (xs : List ℕ) → is_lt (slice_cmp nat_cmp xs []) ≡ false
none_lt [] = refl
none_lt (x ∷ xs) = refl

below_beginning : (x y f b : ℕ) (xs : List ℕ) → x < 2 ^ 32 → y < 2 ^ 32 → f < 2 ^ 32 → b < 2 ^ 32
    → is_below (to_be_bytes w32 x ++ (to_be_bytes w32 f ++ xs)) (to_be_bytes w32 y ++ to_be_bytes w32 b) ≡ (nat_lt x y || (x == y && (nat_lt f b || (f == b && false))))
unfolding is_below
below_beginning x y f b xs few small low high =
    ap is_lt (word_cmp x y (to_be_bytes w32 f ++ xs) (to_be_bytes w32 b) few small) ∙ then_lt x y (slice_cmp nat_cmp (to_be_bytes w32 f ++ xs) (to_be_bytes w32 b))
    ∙ ap (λ t. nat_lt x y || (x == y && t)) (ap is_lt (word_cmp f b xs [] low high) ∙ then_lt f b (slice_cmp nat_cmp xs []) ∙ ap (λ t. nat_lt f b || (f == b && t)) (none_lt xs))

and_none : (p : Bool) → (p && false) ≡ false
and_none true = refl
and_none false = refl

or_none : (p : Bool) → (p || false) ≡ p
or_none true = refl
or_none false = refl

-- nothing begins before 0
not_before : (f : ℕ) → (nat_lt f 0 || (f == 0 && false)) ≡ false
not_before f = let no : nat_lt f 0 ≡ false = grind (arith, nat_tests) in rw (no, and_none (f == 0)) refl

-- not below the route, and below the beginning of another place on it: on the route and before that place
between_is : (x y f b : ℕ) → (not (nat_lt x y || (x == y && false)) && (nat_lt x y || (x == y && (nat_lt f b || (f == b && false))))) ≡ (x == y && nat_lt f b)
between_is x y f b = elim (cases_order x y) [
  | inl same ↦
      let no : nat_lt x y ≡ false = grind (arith, nat_tests) in
      let yes : (x == y) ≡ true = grind (arith, nat_tests) in
      rw (no, yes, and_none (f == b), or_none (nat_lt f b)) refl
  | inr apart ↦ elim apart [
    | inl below ↦
        let yes : nat_lt x y ≡ true = grind (arith, nat_tests) in
        let no : (x == y) ≡ false = grind (arith, nat_tests) in
        rw (yes, no) refl
    | inr above ↦
        let no : nat_lt x y ≡ false = grind (arith, nat_tests) in
        let none : (x == y) ≡ false = grind (arith, nat_tests) in
        rw (no, none) refl
  ]
]

-- the bounds cut where the record's route and beginning say
pub within_is : (route to : ℕ) → route < 2 ^ 32 → to < 2 ^ 32 → (cell : List ℕ) (event : EventRecord) → SaysRecord cell event
    → is_within (route_from route 0) (route_from route to) cell ≡ (event.route == route && nat_lt event.from to)
within_is route to known bound cell event says =
    let low : List ℕ = route_from route 0 in
    let high : List ℕ = route_from route to in
    let rest : List ℕ = event.row ++ (to_be_bytes w64 event.born ++ (to_be_bytes w32 event.to ++ to_be_bytes w64 event.died)) in
    let starts : is_below cell low ≡ (nat_lt event.route route || (event.route == route && false)) =
    ap (λ c. is_below c low) says.bytes ∙ below_beginning event.route route event.from 0 rest says.route_fits known says.from_fits (omega arith)
    ∙ ap (λ t. nat_lt event.route route || (event.route == route && t)) (not_before event.from) in
    let stops : is_below cell high ≡ (nat_lt event.route route || (event.route == route && (nat_lt event.from to || (event.from == to && false)))) =
    ap (λ c. is_below c high) says.bytes ∙ below_beginning event.route route event.from to rest says.route_fits known says.from_fits bound in
    ap (λ t. not t && is_below cell high) starts ∙ ap (λ t. not (nat_lt event.route route || (event.route == route && false)) && t) stops ∙ between_is event.route route event.from to

-- a record ends where its cell says
pub end_is : (cell : List ℕ) (event : EventRecord) → SaysRecord cell event → (end_of cell).end ≡ event.to
end_is cell event says =
    let born : List ℕ = to_be_bytes w64 event.born in
    let back : List ℕ = to_be_bytes w32 event.to ++ to_be_bytes w64 event.died in
    let front : List ℕ = to_be_bytes w32 event.route ++ (to_be_bytes w32 event.from ++ (event.row ++ born)) in
    let parted : cell ≡ front ++ back = says.bytes ∙ ap (λ (l : List ℕ). to_be_bytes w32 event.route ++ (to_be_bytes w32 event.from ++ l)) (sym (append_assoc event.row born back)) in
    let size : length cell ≡ length front + 12 = ap length parted ∙ length-append front back in
    let long : nat_lt (length cell) 12 ≡ false = grind (arith, nat_tests) in
    let place : length front ≡ length cell - 12 = omega arith in
    let rest : drop (length cell - 12) cell ≡ back = ap (drop (length cell - 12)) parted ∙ drop_at front back (length cell - 12) place in
    rw (long, rest) (big_number-reads_back 4 event.to (to_be_bytes w64 event.died) says.to_fits)

module _ (route a b : ℕ) (known : route < 2 ^ 32) (bound : b < 2 ^ 32) where
  abbrev after : List (List ℕ) → List (List ℕ)
  after = filter (λ cell. nat_lt a (end_of cell).end)

  abbrev between : List (List ℕ) → List (List ℕ)
  between = cells_within (route_from route 0) (route_from route b)

  one_more : (c : List ℕ) (e : EventRecord) (rest : List (List ℕ)) (others : List EventRecord) (p q : Bool) → SaysRecord c e → AllZip SaysRecord (after rest) others
      → AllZip SaysRecord (after (cond (p && q) (c ∷ rest) rest)) (cond (p && (q && nat_lt a e.to)) (e ∷ others) others)
  one_more c e rest others false q says ih = ih
  one_more c e rest others true false says ih = ih
  one_more c e rest others true true says ih =
      subst (λ n. AllZip SaysRecord (cond (nat_lt a n) (c ∷ after rest) (after rest)) (cond (nat_lt a e.to) (e ∷ others) others)) (sym (end_is c e says)) (at (nat_lt a e.to)) where
        at : (t : Bool) → AllZip SaysRecord (cond t (c ∷ after rest) (after rest)) (cond t (e ∷ others) others)
        at true = (says, ih)
        at false = ih

  -- what lies between the bounds and ends after a are the cells of the records that overlap
  pub selected : (cells : List (List ℕ)) (events : List EventRecord) → AllZip SaysRecord cells events
      → AllZip SaysRecord (filter (λ cell. nat_lt a (end_of cell).end) (cells_within (route_from route 0) (route_from route b) cells)) (filter (overlaps route a b) events)
  selected [] [] all = tt
  selected [] (e ∷ es) all = absurd all
  selected (c ∷ cs) [] all = absurd all
  selected (c ∷ cs) (e ∷ es) all =
      subst (λ w. AllZip SaysRecord (after (cond w (c ∷ between cs) (between cs))) (filter (overlaps route a b) (e ∷ es))) (sym (within_is route b known bound c e all.0))
      (one_more c e (between cs) (filter (overlaps route a b) es) (e.route == route) (nat_lt e.from b) all.0 (selected cs es all.1))
