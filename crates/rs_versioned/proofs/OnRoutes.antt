-- The referents of a route that a version sees, beside the cells between the bytes of its number and of the next.
use Rattle.std.proofs.Common.{◌≡◌, ◌<◌, ◌+◌, ◌-◌, ◌*◌, ◌%◌, ◌^◌, ◌==◌, ℕ, zero, suc, Bool, true, false, not, ◌&&◌, ◌||◌, cond, nat_lt, List, [], ◌∷◌, ◌++◌, length, filter, replicate, refl, sym, ap, ◌∙◌, subst, inl, inr, arith}
use Rattle.std.proofs.Math.Nat.{mod-lt, mod-eq_of_lt}
use Rattle.std.proofs.lemmas.Bool.{cases_lt, cases_order, le-ltb, lt-ltb}
use Rattle.std.proofs.lemmas.Bool.Decides.{nat_tests}
use Rattle.std.specs.Cmp.Lexicographic.{slice_cmp}
use Rattle.std.specs.Int.{w32, w64, to_be_bytes, byte_at, bytes_high_first}
use Rattle.std.specs.List.{AllZip}
use Rattle.std.specs.Ordering.{nat_cmp, is_lt}
use Rattle.rs_records.specs.Order.{is_below}
use Rattle.rs_interval.proofs.EventOrder.{then_lt, none_lt}
use Rattle.rs_interval.proofs.WordOrder.{beside, above_none, digit_more}
use Rattle.rs_tree.specs.Cells.{cells_within, is_within}
use Rattle.rs_cell_versions.specs.Version.{sees}
use Rattle.rs_versioned.specs.Referents.{ReferentRecord, SaysReferent, is_referent_of, kept_referents, name_width}
use Rattle.rs_versioned.specs.Records.{is_seen}
use Rattle.rs_versioned.proofs.KeptReferents.{referents_are_kept}
use Rattle.rs_versioned.proofs.Lifting.{zip_filter}
use Rattle.rs_versioned.proofs.Overlapping.{sees_record}

-- the order by a digit and then by the rest is the order by the whole
digits_lt : (a b unit x y u v : ℕ) → x < unit → y < unit → u ≡ a * unit + x → v ≡ b * unit + y → (nat_lt a b || (a == b && nat_lt x y)) ≡ nat_lt u v
digits_lt a b unit x y u v small also is at = elim (cases_order a b) [
  | inl same ↦
      let units : a * unit ≡ b * unit = ap (λ (n : ℕ). n * unit) same in
      let no : nat_lt a b ≡ false = grind (arith, nat_tests) in
      let yes : (a == b) ≡ true = grind (arith, nat_tests) in
      rw (no, yes) (elim (cases_lt x y) [
        | inl below ↦ lt-ltb x y below ∙ sym (lt-ltb u v (omega arith))
        | inr above ↦ le-ltb x y above ∙ sym (le-ltb u v (omega arith))
      ])
  | inr apart ↦ elim apart [
    | inl below ↦
        let yes : nat_lt a b ≡ true = grind (arith, nat_tests) in
        rw yes (sym (lt-ltb u v (omega (arith, beside a b unit x y below small))))
    | inr above ↦
        let no : nat_lt a b ≡ false = grind (arith, nat_tests) in
        let none : (a == b) ≡ false = grind (arith, nat_tests) in
        rw (no, none) (sym (le-ltb u v (omega (arith, beside b a unit y x above also))))
  ]
]

pub below_none : (xs : List ℕ) → is_below xs [] ≡ false
unfolding is_below
below_none xs = none_lt xs

-- what begins with a number is below another of as many bytes where the number is
begins_lt : (k x y : ℕ) (xs : List ℕ) → is_lt (slice_cmp nat_cmp (bytes_high_first k x ++ xs) (bytes_high_first k y)) ≡ nat_lt (x % 256 ^ k) (y % 256 ^ k)
begins_lt zero x y xs = let same : nat_lt (x % 1) (y % 1) ≡ false = le-ltb (x % 1) (y % 1) (omega arith) in none_lt xs ∙ sym same
begins_lt (suc k) x y xs =
    then_lt (byte_at k x) (byte_at k y) (slice_cmp nat_cmp (bytes_high_first k x ++ xs) (bytes_high_first k y))
    ∙ ap (λ (t : Bool). nat_lt (byte_at k x) (byte_at k y) || (byte_at k x == byte_at k y && t)) (begins_lt k x y xs)
    ∙ digits_lt (byte_at k x) (byte_at k y) (256 ^ k) (x % 256 ^ k) (y % 256 ^ k) (x % 256 ^ suc k) (y % 256 ^ suc k)
    (mod-lt x (above_none k)) (mod-lt y (above_none k)) (digit_more k x) (digit_more k y)

pub below_word : (x y : ℕ) (xs : List ℕ) → x < 2 ^ 32 → y < 2 ^ 32 → is_below (to_be_bytes w32 x ++ xs) (to_be_bytes w32 y) ≡ nat_lt x y
unfolding is_below
below_word x y xs few small =
    begins_lt 4 x y xs ∙ ap (λ (n : ℕ). nat_lt n (y % 2 ^ 32)) (mod-eq_of_lt few) ∙ ap (λ (n : ℕ). nat_lt x n) (mod-eq_of_lt small)

-- neither below a number nor from the next on
between_is : (x y : ℕ) → (not (nat_lt x y) && nat_lt x (y + 1)) ≡ (x == y)
between_is x y = elim (cases_order x y) [
  | inl same ↦
      let no : nat_lt x y ≡ false = grind (arith, nat_tests) in
      let yes : nat_lt x (y + 1) ≡ true = grind (arith, nat_tests) in
      let is : (x == y) ≡ true = grind (arith, nat_tests) in
      rw (no, yes, is) refl
  | inr apart ↦ elim apart [
    | inl below ↦
        let yes : nat_lt x y ≡ true = grind (arith, nat_tests) in
        let isnt : (x == y) ≡ false = grind (arith, nat_tests) in
        rw (yes, isnt) refl
    | inr above ↦
        let no : nat_lt x y ≡ false = grind (arith, nat_tests) in
        let none : nat_lt x (y + 1) ≡ false = grind (arith, nat_tests) in
        let isnt : (x == y) ≡ false = grind (arith, nat_tests) in
        rw (no, none, isnt) refl
  ]
]

referent_within : (route : ℕ) (cell : List ℕ) (referent : ReferentRecord) → route + 1 < 2 ^ 32 → SaysReferent cell referent → is_within (to_be_bytes w32 route) (to_be_bytes w32 (route + 1)) cell ≡ (referent.route == route)
referent_within route cell referent known says =
    let rest : List ℕ = (referent.name ++ replicate (name_width - length referent.name) 0) ++ (to_be_bytes w64 referent.born ++ (to_be_bytes w32 referent.measure ++ to_be_bytes w64 referent.died)) in
    let low : is_below cell (to_be_bytes w32 route) ≡ nat_lt referent.route route =
    ap (λ (c : List ℕ). is_below c (to_be_bytes w32 route)) says.bytes ∙ below_word referent.route route rest says.route_fits (omega (arith, known)) in
    let high : is_below cell (to_be_bytes w32 (route + 1)) ≡ nat_lt referent.route (route + 1) =
    ap (λ (c : List ℕ). is_below c (to_be_bytes w32 (route + 1))) says.bytes ∙ below_word referent.route (route + 1) rest says.route_fits known in
    ap (λ (t : Bool). not t && is_below cell (to_be_bytes w32 (route + 1))) low ∙ ap (λ (t : Bool). not (nat_lt referent.route route) && t) high ∙ between_is referent.route route

-- two tests, one after the other
pub filter_both : {A : Type 0} (p q : A → Bool) (xs : List A) → filter q (filter p xs) ≡ filter (λ x. p x && q x) xs
filter_both p q [] = refl
filter_both p q (x ∷ xs) = by_test (p x) (filter_both p q xs) where
  by_test : (b : Bool) → filter q (filter p xs) ≡ filter (λ y. p y && q y) xs
      → filter q (cond b (x ∷ filter p xs) (filter p xs)) ≡ cond (b && q x) (x ∷ filter (λ y. p y && q y) xs) (filter (λ y. p y && q y) xs)
  by_test true rest = ap (λ l. cond (q x) (x ∷ l) l) rest
  by_test false rest = rest

-- cells between the bytes of a route's number and of the next are those of the route's referents
pub referents_seen : (version route : ℕ) (low high : List ℕ) (found cells : List (List ℕ)) (referents : List ReferentRecord) → route + 1 < 2 ^ 32 → low ≡ to_be_bytes w32 route → high ≡ to_be_bytes w32 (route + 1)
    → found ≡ cells_within low high cells → AllZip SaysReferent cells referents → AllZip SaysReferent (filter (sees version) found) (filter (is_referent_of version route) referents)
referents_seen version route low high found cells referents known first last is all =
    let here : found ≡ cells_within (to_be_bytes w32 route) (to_be_bytes w32 (route + 1)) cells =
    is ∙ ap (λ (l : List ℕ). cells_within l high cells) first ∙ ap (λ (h : List ℕ). cells_within (to_be_bytes w32 route) h cells) last in
    let on : AllZip SaysReferent (cells_within (to_be_bytes w32 route) (to_be_bytes w32 (route + 1)) cells) (filter (λ referent. referent.route == route) referents) =
    zip_filter SaysReferent (is_within (to_be_bytes w32 route) (to_be_bytes w32 (route + 1))) (λ referent. referent.route == route) (λ cell referent says. referent_within route cell referent known says) cells referents all in
    let seen : AllZip SaysReferent (filter (sees version) found) (filter (is_seen kept_referents version) (filter (λ referent. referent.route == route) referents)) =
    zip_filter SaysReferent (sees version) (is_seen kept_referents version) (λ cell referent says. sees_record kept_referents referents_are_kept version cell referent says) found (filter (λ referent. referent.route == route) referents)
    (subst (λ (f : List (List ℕ)). AllZip SaysReferent f (filter (λ referent. referent.route == route) referents)) (sym here) on) in
    subst (λ (l : List ReferentRecord). AllZip SaysReferent (filter (sees version) found) l) (filter_both (λ referent. referent.route == route) (is_seen kept_referents version) referents) seen
