-- The meaning of a list of spans: a row holds at a thousandth where a span of it does.
--
-- `contains-places_of`, `Covers-from_contains` and `contains-from_Covers` are what the rest is proved from.
use Rattle.std.proofs.Common.{◌≡◌, ℕ, zero, suc, ◌<◌, ◌≤◌, min, max, Bool, true, false, ◌&&◌, ◌||◌, inl, inr, List, [], ◌∷◌, ◌++◌, length, get_or, refl, sym, ap, ◌∙◌, subst, arith}
use Rattle.std.proofs.lemmas.Bool.{and_parts, and_from, or_cases}
use Rattle.std.proofs.lemmas.List.Elements.{Contains-append_right}
use Rattle.std.proofs.lemmas.List.Folds.{list_any-append}
use Rattle.std.proofs.lemmas.List.Sorted.{list_any-IsPermutation}
use Rattle.std.specs.List.{list_any, Contains}
use Rattle.std.specs.List.Sorted.{IsPermutation}
use Rattle.rs_value.specs.Row.{Row}
use Rattle.rs_facts.specs.Fact.{contains}
use Rattle.rs_facts.specs.Insert.{within, with_row}
use Rattle.rs_facts.specs.Runs.{Stretch, stretch}
use Rattle.rs_facts.specs.Spans.{places_of}
use Rattle.rs_facts.proofs.Rows.{same_row, same_row-true, same_row-equal}
use Rattle.rs_facts.proofs.Sets.{contains-none, same_places}
use Rattle.rs_facts.proofs.Placing.{within-true, within-bounds, contains-with_row, with_row-commutes, with_row-join}

-- whether the row holds at the thousandth by this span
unfoldable pub holds : Row → ℕ → Stretch → Bool
holds row k span = within span.lo span.hi k && same_row span.row row

-- a span of the row with the thousandth in it
pub record Holds (row : Row) (k : ℕ) (span : Stretch) : Type 0 where
  pub same : span.row ≡ row
  pub from : span.lo ≤ k
  pub below : k < span.hi

-- some span of the list is such
pub record Covers (spans : List Stretch) (row : Row) (k : ℕ) : Type 0 where
  pub span : Stretch
  pub among : Contains spans span
  pub is : Holds row k span

pub holds-true : (row : Row) (k : ℕ) (span : Stretch) → Holds row k span → holds row k span ≡ true
unfolding holds
holds-true row k span h = and_from (within span.lo span.hi k) (same_row span.row row) (within-true span.lo span.hi k h.from h.below) (same_row-equal span.row row h.same)

pub Holds-from_holds : (row : Row) (k : ℕ) (span : Stretch) → holds row k span ≡ true → Holds row k span
unfolding holds
Holds-from_holds row k span e =
    let parts = and_parts (within span.lo span.hi k) (same_row span.row row) e in
    let bounds = within-bounds span.lo span.hi k parts.0 in
    record { same = same_row-true span.row row parts.1; from = bounds.0; below = bounds.1 }

pub contains-places_of : (spans : List Stretch) (k : ℕ) (row : Row) → contains (places_of spans k) row ≡ list_any (holds row k) spans
unfolding holds
contains-places_of [] k row = contains-none row
contains-places_of (span ∷ spans) k row = contains-with_row span.lo span.hi span.row (places_of spans) k row ∙ ap (λ t. within span.lo span.hi k && same_row span.row row || t) (contains-places_of spans k row)

in_tail : (x y : Stretch) (xs : List Stretch) → Contains xs y → Contains (x ∷ xs) y
in_tail x y xs h = Contains-append_right (x ∷ []) xs y h

at_head : (x : Stretch) (xs : List Stretch) → Contains (x ∷ xs) x
at_head x xs = (0, omega arith, refl)

found : (row : Row) (k : ℕ) (spans : List Stretch) → list_any (holds row k) spans ≡ true → Covers spans row k
found row k [] e = absurd (let wrong : false ≡ true = e in cc)
found row k (span ∷ spans) e = elim (or_cases (holds row k span) (list_any (holds row k) spans) e) [
  | inl here ↦ record { span = span; among = at_head span spans; is = Holds-from_holds row k span here }
  | inr there ↦ let rest = found row k spans there in record { span = rest.span; among = in_tail span rest.span spans rest.among; is = rest.is }
]

pub Covers-from_contains : (spans : List Stretch) (row : Row) (k : ℕ) → contains (places_of spans k) row ≡ true → Covers spans row k
Covers-from_contains spans row k e = found row k spans (sym (contains-places_of spans k row) ∙ e)

-- a list with an element is another before and after it
pub record Around (spans : List Stretch) (span : Stretch) : Type 0 where
  pub before : List Stretch
  pub behind : List Stretch
  pub is : spans ≡ before ++ span ∷ behind

around : (spans : List Stretch) (span : Stretch) (i : ℕ) → i < length spans → get_or spans i span ≡ span → Around spans span
around [] span i below e = absurd (omega arith)
around (first ∷ spans) span zero below e = let same : first ≡ span = e in record { before = []; behind = spans; is = ap (λ s. s ∷ spans) same }
around (first ∷ spans) span (suc i) below e = let rest = around spans span i (omega arith) e in record { before = first ∷ rest.before; behind = rest.behind; is = ap (λ s. first ∷ s) rest.is }

pub Around-from_Contains : (spans : List Stretch) (span : Stretch) → Contains spans span → Around spans span
Around-from_Contains spans span h = around spans span h.0 h.1 h.2

listed : (row : Row) (k : ℕ) (before : List Stretch) (span : Stretch) (behind : List Stretch) → holds row k span ≡ true → list_any (holds row k) (before ++ span ∷ behind) ≡ true
listed row k before span behind e = list_any-append (holds row k) before (span ∷ behind) ∙ or_from_right (list_any (holds row k) before) (holds row k span) (list_any (holds row k) behind) e
  where
    or_from_right : (a b c : Bool) → b ≡ true → (a || (b || c)) ≡ true
    or_from_right true b c e = refl
    or_from_right false b c e = subst (λ t. (t || c) ≡ true) (sym e) refl

pub contains-from_Holds : (spans : List Stretch) (span : Stretch) (row : Row) (k : ℕ) → Contains spans span → Holds row k span → contains (places_of spans k) row ≡ true
contains-from_Holds spans span row k among h =
    let parts = Around-from_Contains spans span among in
    contains-places_of spans k row ∙ ap (list_any (holds row k)) parts.is ∙ listed row k parts.before span parts.behind (holds-true row k span h)

pub contains-from_Covers : (spans : List Stretch) (row : Row) (k : ℕ) → Covers spans row k → contains (places_of spans k) row ≡ true
contains-from_Covers spans row k h = contains-from_Holds spans h.span row k h.among h.is

-- no span of the list holds the row there
pub contains-from_none : (spans : List Stretch) (row : Row) (k : ℕ) → ((span : Stretch) → Contains spans span → Holds row k span → ⊥) → contains (places_of spans k) row ≡ false
contains-from_none spans row k never = elim (contains (places_of spans k) row) as (λ t. contains (places_of spans k) row ≡ t → t ≡ false) [
  | true ↦ λ e. let h = Covers-from_contains spans row k e in absurd (never h.span h.among h.is)
  | false ↦ λ e. refl
] refl

-- ---- lists that mean the same

either_way : (a b : Bool) → (a ≡ true → b ≡ true) → (b ≡ true → a ≡ true) → a ≡ b
either_way true b f g = sym (f refl)
either_way false true f g = g refl
either_way false false f g = refl

-- The spans of each are covered by the other.
pub places_of-alike : (xs ys : List Stretch) → ((row : Row) (k : ℕ) → Covers xs row k → Covers ys row k) → ((row : Row) (k : ℕ) → Covers ys row k → Covers xs row k) → places_of xs ≡ places_of ys
places_of-alike xs ys there back = same_places _ _ (λ k row. either_way _ _
    (λ e. contains-from_Covers ys row k (there row k (Covers-from_contains xs row k e)))
    (λ e. contains-from_Covers xs row k (back row k (Covers-from_contains ys row k e))))

pub places_of-permutation : (xs ys : List Stretch) → IsPermutation xs ys → places_of xs ≡ places_of ys
places_of-permutation xs ys h = same_places _ _ (λ k row. contains-places_of xs k row ∙ list_any-IsPermutation (holds row k) xs ys h ∙ sym (contains-places_of ys k row))

pub contains-append : (xs ys : List Stretch) (k : ℕ) (row : Row) → contains (places_of (xs ++ ys) k) row ≡ (contains (places_of xs k) row || contains (places_of ys k) row)
contains-append xs ys k row =
    contains-places_of (xs ++ ys) k row
    ∙ list_any-append (holds row k) xs ys
    ∙ ap (λ t. t || list_any (holds row k) ys) (sym (contains-places_of xs k row))
    ∙ ap (λ t. contains (places_of xs k) row || t) (sym (contains-places_of ys k row))

-- a span in the midst of others is the last that is put in
pub places_of-middle : (xs : List Stretch) (span : Stretch) (ys : List Stretch) → places_of (xs ++ span ∷ ys) ≡ with_row span.lo span.hi span.row (places_of (xs ++ ys))
places_of-middle [] span ys = refl
places_of-middle (first ∷ xs) span ys =
    ap (with_row first.lo first.hi first.row) (places_of-middle xs span ys)
    ∙ with_row-commutes first.lo first.hi first.row span.lo span.hi span.row (places_of (xs ++ ys))

-- a row that is put in goes before or after the rest alike
pub with_row-append : (lo hi : ℕ) (row : Row) (xs ys : List Stretch) → with_row lo hi row (places_of (xs ++ ys)) ≡ places_of (xs ++ stretch lo hi row ∷ ys)
with_row-append lo hi row xs ys = sym (places_of-middle xs (stretch lo hi row) ys)

-- lists that mean the same mean the same between others
pub places_of-between : (xs ms ns ys : List Stretch) → places_of ms ≡ places_of ns → places_of (xs ++ (ms ++ ys)) ≡ places_of (xs ++ (ns ++ ys))
places_of-between xs ms ns ys e = same_places _ _ (λ k row.
    contains-append xs (ms ++ ys) k row
    ∙ ap (λ t. contains (places_of xs k) row || t) (
    contains-append ms ys k row
    ∙ ap (λ p. contains (p k) row || contains (places_of ys k) row) e
    ∙ sym (contains-append ns ys k row))
    ∙ sym (contains-append xs (ns ++ ys) k row))

-- a span of the row that touches or overlaps the one put in is taken out, and the join is put in
pub with_row-absorb : (lo hi : ℕ) (row : Row) (xs : List Stretch) (span : Stretch) (ys : List Stretch) → span.row ≡ row → span.lo ≤ hi → lo ≤ span.hi → with_row lo hi row (places_of (xs ++ span ∷ ys)) ≡ with_row (min lo span.lo) (max hi span.hi) row (places_of (xs ++ ys))
with_row-absorb lo hi row xs span ys same a b =
    ap (with_row lo hi row) (places_of-middle xs span ys ∙ ap (λ r. with_row span.lo span.hi r (places_of (xs ++ ys))) same)
    ∙ with_row-join lo hi span.lo span.hi row (places_of (xs ++ ys)) a b
