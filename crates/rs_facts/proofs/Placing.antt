-- A row along a span: where it holds, and what two spans of one row make.
use Rattle.std.proofs.Common.{◌≡◌, ℕ, ◌<◌, ◌≤◌, min, max, Bool, true, false, ◌&&◌, ◌||◌, cond, ◌⊎◌, inl, inr, refl, sym, ap, ◌∙◌, subst, arith}
use Rattle.std.proofs.lemmas.Bool.{le-leb, lt-leb, leb-true, leb-false, and_parts, and_from, and_left, and_right, and_cases, ltb-true, ltb-false, lt-ltb, le-ltb}
use Rattle.std.specs.Prelude.{nat_le, nat_lt}
use Rattle.rs_value.specs.Row.{Row}
use Rattle.rs_facts.specs.Fact.{RowSet, contains, add, Places}
use Rattle.rs_facts.specs.Insert.{within, with_row}
use Rattle.rs_facts.proofs.Rows.{same_row, same_row-refl, same_row-apart}
use Rattle.rs_facts.proofs.Sets.{contains-add, same_places}

-- ---- from ≤ k < to

pub within-true : (from to k : ℕ) → from ≤ k → k < to → within from to k ≡ true
within-true from to k a b = and_from (nat_le from k) (nat_lt k to) (le-leb from k a) (lt-ltb k to b)

pub within-false : (from to k : ℕ) → (k < from) ⊎ (to ≤ k) → within from to k ≡ false
within-false from to k h = elim h [ inl a ↦ and_left (nat_le from k) (nat_lt k to) (lt-leb from k a) | inr b ↦ and_right (nat_le from k) (nat_lt k to) (le-ltb k to b) ]

pub within-bounds : (from to k : ℕ) → within from to k ≡ true → (from ≤ k) × (k < to)
within-bounds from to k e = let parts = and_parts (nat_le from k) (nat_lt k to) e in (leb-true from k parts.0, ltb-true k to parts.1)

pub within-outside : (from to k : ℕ) → within from to k ≡ false → (k < from) ⊎ (to ≤ k)
within-outside from to k e = elim (and_cases (nat_le from k) (nat_lt k to) e) [ inl a ↦ inl (leb-false from k a) | inr b ↦ inr (ltb-false k to b) ]

-- each thousandth is within or not
pub cases_within : (from to k : ℕ) → ((within from to k ≡ true) × (from ≤ k) × (k < to)) ⊎ ((within from to k ≡ false) × ((k < from) ⊎ (to ≤ k)))
cases_within from to k =
    elim (within from to k) as (λ t. within from to k ≡ t → ((within from to k ≡ true) × (from ≤ k) × (k < to)) ⊎ ((within from to k ≡ false) × ((k < from) ⊎ (to ≤ k)))) [
      | true ↦ λ e. let bounds = within-bounds from to k e in inl (e, bounds.0, bounds.1)
      | false ↦ λ e. inr (e, within-outside from to k e)
    ] refl

-- ---- a row along a span

set_in_places : (t : Bool) (rows : RowSet) (row other : Row) → contains (cond t (add rows row) rows) other ≡ ((t && same_row row other) || contains rows other)
set_in_places true rows row other = contains-add rows row other
set_in_places false rows row other = refl

-- what holds once the row holds along the span
pub contains-with_row : (from to : ℕ) (row : Row) (places : Places) (k : ℕ) (other : Row) → contains (with_row from to row places k) other ≡ ((within from to k && same_row row other) || contains (places k) other)
unfolding with_row
contains-with_row from to row places k other = set_in_places (within from to k) (places k) row other

first_true : (a b c : Bool) → a ≡ true → b ≡ true → (a && b || c) ≡ true
first_true a b c e f = cc

-- the row itself holds all along the span
pub with_row-inside : (from to : ℕ) (row : Row) (places : Places) (k : ℕ) → from ≤ k → k < to → contains (with_row from to row places k) row ≡ true
with_row-inside from to row places k a b = contains-with_row from to row places k row ∙ first_true (within from to k) (same_row row row) (contains (places k) row) (within-true from to k a b) (same_row-refl row)

left_false : (a b c : Bool) → a ≡ false → (a && b || c) ≡ c
left_false a b c e = subst (λ t. (t && b || c) ≡ c) (sym e) refl

none_false : (a c : Bool) → (a && false || c) ≡ c
none_false true c = refl
none_false false c = refl

right_false : (a b c : Bool) → b ≡ false → (a && b || c) ≡ c
right_false a b c e = subst (λ t. (a && t || c) ≡ c) (sym e) (none_false a c)

-- outside the span all is as it was
pub with_row-outside : (from to : ℕ) (row : Row) (places : Places) (k : ℕ) (other : Row) → (k < from) ⊎ (to ≤ k) → contains (with_row from to row places k) other ≡ contains (places k) other
with_row-outside from to row places k other out = contains-with_row from to row places k other ∙ left_false (within from to k) (same_row row other) (contains (places k) other) (within-false from to k out)

-- and so is another row
pub with_row-other : (from to : ℕ) (row : Row) (places : Places) (k : ℕ) (other : Row) → (row ≡ other → ⊥) → contains (with_row from to row places k) other ≡ contains (places k) other
with_row-other from to row places k other apart = contains-with_row from to row places k other ∙ right_false (within from to k) (same_row row other) (contains (places k) other) (same_row-apart row other apart)

kept_true : (a b c : Bool) → c ≡ true → (a && b || c) ≡ true
kept_true true true c e = refl
kept_true true false c e = e
kept_true false b c e = e

-- what held still holds
pub with_row-keeps : (from to : ℕ) (row : Row) (places : Places) (k : ℕ) (other : Row) → contains (places k) other ≡ true → contains (with_row from to row places k) other ≡ true
with_row-keeps from to row places k other e = contains-with_row from to row places k other ∙ kept_true (within from to k) (same_row row other) (contains (places k) other) e

-- ---- equations

-- an empty span adds nothing
pub with_row-empty : (from to : ℕ) (row : Row) (places : Places) → to ≤ from → with_row from to row places ≡ places
with_row-empty from to row places h = same_places _ _ (λ k other. with_row-outside from to row places k other (none_within k))
  where
    none_within : (k : ℕ) → (k < from) ⊎ (to ≤ k)
    none_within k = elim (cases_within from to k) [ inl w ↦ absurd (omega arith) | inr w ↦ w.1 ]

swapped : (a b c : Bool) → (a || (b || c)) ≡ (b || (a || c))
swapped true true c = refl
swapped true false c = refl
swapped false true c = refl
swapped false false c = refl

-- the order of two spans doesn't matter
pub with_row-commutes : (a b : ℕ) (r : Row) (c d : ℕ) (s : Row) (places : Places) → with_row a b r (with_row c d s places) ≡ with_row c d s (with_row a b r places)
with_row-commutes a b r c d s places = same_places _ _ (λ k other.
    contains-with_row a b r (with_row c d s places) k other
    ∙ ap (λ t. within a b k && same_row r other || t) (contains-with_row c d s places k other)
    ∙ swapped (within a b k && same_row r other) (within c d k && same_row s other) (contains (places k) other)
    ∙ sym (ap (λ t. within c d k && same_row s other || t) (contains-with_row a b r places k other))
    ∙ sym (contains-with_row c d s (with_row a b r places) k other))

joined : (v w u s c : Bool) → (v || w) ≡ u → (v && s || (w && s || c)) ≡ (u && s || c)
joined true w u s c e = subst (λ t. (s || (w && s || c)) ≡ (t && s || c)) e (twice s (w && s) c (kept w s))
  where
    kept : (w s : Bool) → (w && s || s) ≡ s
    kept true true = refl
    kept true false = refl
    kept false s = refl

    twice : (s t c : Bool) → (t || s) ≡ s → (s || (t || c)) ≡ (s || c)
    twice true t c e = refl
    twice false true c e = absurd (let wrong : true ≡ false = e in cc)
    twice false false c e = refl
joined false w u s c e = subst (λ t. (w && s || c) ≡ (t && s || c)) e refl

within-join : (a b c d k : ℕ) → c ≤ b → a ≤ d → (within a b k || within c d k) ≡ within (min a c) (max b d) k
within-join a b c d k h l =
    elim (cases_within a b k) [
      | inl v ↦ ap (λ t. t || within c d k) v.0 ∙ sym (within-true (min a c) (max b d) k (omega arith) (omega arith))
      | inr v ↦ ap (λ t. t || within c d k) v.0 ∙ (elim (cases_within c d k) [
        | inl w ↦ w.0 ∙ sym (within-true (min a c) (max b d) k (omega arith) (omega arith))
        | inr w ↦ w.0 ∙ sym (within-false (min a c) (max b d) k (outside v.1 w.1))
      ])
    ]
  where
    outside : (k < a) ⊎ (b ≤ k) → (k < c) ⊎ (d ≤ k) → (k < min a c) ⊎ (max b d ≤ k)
    outside (inl v) (inl w) = inl (omega arith)
    outside (inl v) (inr w) = elim (cases_within a b d) [ inl x ↦ absurd (omega arith) | inr x ↦ inr (omega arith) ]
    outside (inr v) (inl w) = inr (omega arith)
    outside (inr v) (inr w) = inr (omega arith)

-- two spans of one row that touch or overlap are their join
pub with_row-join : (a b c d : ℕ) (row : Row) (places : Places) → c ≤ b → a ≤ d → with_row a b row (with_row c d row places) ≡ with_row (min a c) (max b d) row places
with_row-join a b c d row places h l = same_places _ _ (λ k other.
    contains-with_row a b row (with_row c d row places) k other
    ∙ ap (λ t. within a b k && same_row row other || t) (contains-with_row c d row places k other)
    ∙ joined (within a b k) (within c d k) (within (min a c) (max b d) k) (same_row row other) (contains (places k) other) (within-join a b c d k h l)
    ∙ sym (contains-with_row (min a c) (max b d) row places k other))

-- a span that lies in another of its row adds nothing
pub with_row-part : (a b c d : ℕ) (row : Row) (places : Places) → c ≤ a → b ≤ d → a ≤ d → c ≤ b → with_row a b row (with_row c d row places) ≡ with_row c d row places
with_row-part a b c d row places h l m n =
    let low : min a c ≡ c = omega arith in
    let high : max b d ≡ d = omega arith in
    with_row-join a b c d row places n m ∙ ap (λ x. with_row x (max b d) row places) low ∙ ap (λ x. with_row c x row places) high

pub with_row-twice : (a b : ℕ) (row : Row) (places : Places) → with_row a b row (with_row a b row places) ≡ with_row a b row places
with_row-twice a b row places = same_places _ _ (λ k other.
    contains-with_row a b row (with_row a b row places) k other
    ∙ ap (λ t. within a b k && same_row row other || t) (contains-with_row a b row places k other)
    ∙ idle (within a b k && same_row row other) (contains (places k) other)
    ∙ sym (contains-with_row a b row places k other))
  where
    idle : (t c : Bool) → (t || (t || c)) ≡ (t || c)
    idle true c = refl
    idle false c = refl
