-- Row sets by the lists of their rows: every test of the rows of a set is a test of a list.
use Rattle.std.proofs.Common.{◌≡◌, ℕ, Bool, true, false, not, ◌&&◌, ◌||◌, cond, List, [], ◌∷◌, ◌++◌, map, flat_map, Some, None, Option, is_some, refl, sym, ap, ◌∙◌, inl, inr}
use Rattle.std.proofs.lemmas.Bool.{or_cases, and_parts, and_from}
use Rattle.std.proofs.lemmas.List.Folds.{list_any-append}
use Rattle.std.specs.List.{list_any}
use Rattle.std.specs.Ordering.{is_eq}
use Rattle.std.specs.FinMap as map_of
use Rattle.rs_value.specs.Row.{Row}
use Rattle.rs_facts.specs.Fact.{RowSet, none, contains, items, keep}
use Rattle.rs_facts.specs.Insert.{within}
use Rattle.rs_facts.specs.Operators.{from_rows, mapped, nulls, overlaid, are_none, has_none, covered, merged, without, windowed}
use Rattle.rs_facts.specs.Runs.{Stretch}
use Rattle.rs_facts.specs.Spans.{places_of}
use Rattle.rs_facts.proofs.Rows.{same_row, same_row-symm, same_row-true, same_row-refl}
use Rattle.rs_facts.proofs.Sets.{contains-none, contains-add}
use Rattle.rs_facts.proofs.SpanLaws.{holds, contains-places_of}

-- ---- tests of lists

-- an element that passes
pub record Passes {X : Type 0} (test : X → Bool) (xs : List X) : Type 0 where
  pub one : X
  pub passes : test one ≡ true
  pub again : (other : X → Bool) → other one ≡ true → list_any other xs ≡ true

pub passes-of : {X : Type 0} (test : X → Bool) (xs : List X) → list_any test xs ≡ true → Passes test xs
passes-of test [] e = absurd (let wrong : false ≡ true = e in cc)
passes-of test (x ∷ xs) e = elim (or_cases (test x) (list_any test xs) e) [
  | inl here ↦ record { one = x; passes = here; again = λ other o. ap (λ t. t || list_any other xs) o }
  | inr there ↦ let rest = passes-of test xs there in record { one = rest.one; passes = rest.passes; again = λ other o. ap (λ t. other x || t) (rest.again other o) ∙ or_true (other x) }
]
  where
    or_true : (t : Bool) → (t || true) ≡ true
    or_true true = refl
    or_true false = refl

pub any-map : {X Y : Type 0} (test : Y → Bool) (change : X → Y) (xs : List X) → list_any test (map change xs) ≡ list_any (λ x. test (change x)) xs
any-map test change [] = refl
any-map test change (x ∷ xs) = ap (λ t. test (change x) || t) (any-map test change xs)

pub any-flat_map : {X Y : Type 0} (test : Y → Bool) (change : X → List Y) (xs : List X) → list_any test (flat_map change xs) ≡ list_any (λ x. list_any test (change x)) xs
any-flat_map test change [] = refl
any-flat_map test change (x ∷ xs) = list_any-append test (change x) (flat_map change xs) ∙ ap (λ t. list_any test (change x) || t) (any-flat_map test change xs)

pub any-same : {X : Type 0} (p q : X → Bool) (xs : List X) → ((x : X) → p x ≡ q x) → list_any p xs ≡ list_any q xs
any-same p q xs e = ap (λ t. list_any t xs) (λ i x. e x i)

pub either-way : (a b : Bool) → (a ≡ true → b ≡ true) → (b ≡ true → a ≡ true) → a ≡ b
either-way true b f g = sym (f refl)
either-way false true f g = g refl
either-way false false f g = refl

-- ---- a set by its items

pub contains-items : (rows : RowSet) (row : Row) → contains rows row ≡ list_any (λ other. same_row other row) (items rows)
unfolding same_row
contains-items rows row = map_of.contains_key-keys rows row ∙ any-same _ _ (items rows) (λ other. same_row-symm row other)

pub contains-from_rows : (rows : List Row) (row : Row) → contains (from_rows rows) row ≡ list_any (λ other. same_row other row) rows
contains-from_rows [] row = contains-none row
contains-from_rows (first ∷ rows) row = contains-add (from_rows rows) first row ∙ ap (λ t. same_row first row || t) (contains-from_rows rows row)

-- a test of the rows of a set
pub any-items : (test : Row → Bool) (rows : RowSet) (row : Row) → contains rows row ≡ true → test row ≡ true → list_any test (items rows) ≡ true
any-items test rows row among passes =
    let found = passes-of (λ other. same_row other row) (items rows) (sym (contains-items rows row) ∙ among) in
    found.again test (ap test (same_row-true found.one row found.passes) ∙ passes)

pub record Among (test : Row → Bool) (rows : RowSet) : Type 0 where
  pub row : Row
  pub among : contains rows row ≡ true
  pub passes : test row ≡ true

pub among-items : (test : Row → Bool) (rows : RowSet) → list_any test (items rows) ≡ true → Among test rows
among-items test rows e =
    let found = passes-of test (items rows) e in
    record { row = found.one; among = contains-items rows found.one ∙ found.again (λ other. same_row other found.one) (same_row-refl found.one); passes = found.passes }

-- the rows of spans at a thousandth are those of the spans that hold it
pub any-places : (test : Row → Bool) (spans : List Stretch) (k : ℕ) → list_any test (items (places_of spans k)) ≡ list_any (λ span. within span.lo span.hi k && test span.row) spans
unfolding holds
any-places test spans k = either-way _ _
    (λ e.
    let found = among-items test (places_of spans k) e in
    let span = passes-of (holds found.row k) spans (sym (contains-places_of spans k found.row) ∙ found.among) in
    let parts = and_parts (within span.one.lo span.one.hi k) (same_row span.one.row found.row) span.passes in
    span.again (λ s. within s.lo s.hi k && test s.row) (and_from (within span.one.lo span.one.hi k) (test span.one.row) parts.0 (ap test (same_row-true span.one.row found.row parts.1) ∙ found.passes)))
    (λ e.
    let span = passes-of (λ s. within s.lo s.hi k && test s.row) spans e in
    let parts = and_parts (within span.one.lo span.one.hi k) (test span.one.row) span.passes in
    any-items test (places_of spans k) span.one.row
    (contains-places_of spans k span.one.row ∙ span.again (holds span.one.row k) (and_from (within span.one.lo span.one.hi k) (same_row span.one.row span.one.row) parts.0 (same_row-refl span.one.row)))
    parts.1)

-- ---- operators, as tests of lists

pub contains-mapped : (change : Row → Row) (rows : RowSet) (row : Row) → contains (mapped change rows) row ≡ list_any (λ from. same_row (change from) row) (items rows)
unfolding mapped
contains-mapped change rows row = contains-from_rows (map change (items rows)) row ∙ any-map (λ other. same_row other row) change (items rows)

pub contains-overlaid : (a b : RowSet) (row : Row) → contains (overlaid a b) row ≡ list_any (λ x. list_any (λ y. same_row (x ++ y) row) (items b)) (items a)
unfolding overlaid
contains-overlaid a b row =
    contains-from_rows (flat_map (λ x. map (λ y. x ++ y) (items b)) (items a)) row
    ∙ any-flat_map (λ other. same_row other row) (λ x. map (λ y. x ++ y) (items b)) (items a)
    ∙ any-same _ _ (items a) (λ x. any-map (λ other. same_row other row) (λ y. x ++ y) (items b))

pub contains-merged : (a b : RowSet) (row : Row) → contains (merged a b) row ≡ (contains a row || contains b row)
unfolding merged
contains-merged a b row =
    contains-from_rows (items a ++ items b) row
    ∙ list_any-append (λ other. same_row other row) (items a) (items b)
    ∙ ap (λ t. t || list_any (λ other. same_row other row) (items b)) (sym (contains-items a row))
    ∙ ap (λ t. contains a row || t) (sym (contains-items b row))

is_some_cond : (t : Bool) (o : Option (Unit {0})) → is_some (cond t o None) ≡ (is_some o && t)
is_some_cond true None = refl
is_some_cond true (Some x) = refl
is_some_cond false None = refl
is_some_cond false (Some x) = refl

pub contains-keep : (test : Row → Bool) (rows : RowSet) (row : Row) → contains (keep test rows) row ≡ (contains rows row && test row)
unfolding same_row
contains-keep test rows row =
    ap is_some (map_of.get-retain_keys rows test row (λ other e. ap test (sym (same_row-true row other (ap is_eq e)))))
    ∙ is_some_cond (test row) (map_of.get rows row)

pub contains-without : (a b : RowSet) (row : Row) → contains (without a b) row ≡ (contains a row && not (contains b row))
unfolding without
contains-without a b row = contains-keep (λ other. not (contains b other)) a row

pub in_cond : (t : Bool) (rows : RowSet) (row : Row) → contains (cond t rows none) row ≡ (t && contains rows row)
in_cond true rows row = refl
in_cond false rows row = contains-none row

pub contains-windowed : (lo hi k : ℕ) (rows : RowSet) (row : Row) → contains (windowed lo hi k rows) row ≡ (within lo hi k && contains rows row)
unfolding windowed
contains-windowed lo hi k rows row = in_cond (within lo hi k) rows row

-- ---- COVER

-- whether a set has a row
abbrev pub any_row : RowSet → Bool
any_row rows = list_any (λ row. true) (items rows)

none_any : (rows : List Row) → are_none rows ≡ not (list_any (λ row. true) rows)
none_any [] = refl
none_any (row ∷ rows) = refl

any_none : (test : Row → Bool) (rows : List Row) → are_none rows ≡ true → list_any test rows ≡ false
any_none test [] e = refl
any_none test (row ∷ rows) e = absurd (let wrong : false ≡ true = e in cc)

covered_cases : (m n : ℕ) (a b : RowSet) (s t : Bool) → has_none a ≡ s → has_none b ≡ t → covered m n a b ≡ cond s (mapped (λ y. nulls m ++ y) b) (cond t (mapped (λ x. x ++ nulls n) a) (overlaid a b))
unfolding covered
covered_cases m n a b s t e f i = cond (e i) (mapped (λ y. nulls m ++ y) b) (cond (f i) (mapped (λ x. x ++ nulls n) a) (overlaid a b))

overlaid_none_left : (a b : RowSet) (row : Row) → has_none a ≡ true → contains (overlaid a b) row ≡ false
overlaid_none_left a b row e = contains-overlaid a b row ∙ any_none (λ x. list_any (λ y. same_row (x ++ y) row) (items b)) (items a) e

nowhere : {X : Type 0} (xs : List X) → list_any (λ x. false) xs ≡ false
nowhere [] = refl
nowhere (x ∷ xs) = nowhere xs

overlaid_none_right : (a b : RowSet) (row : Row) → has_none b ≡ true → contains (overlaid a b) row ≡ false
overlaid_none_right a b row e =
    contains-overlaid a b row
    ∙ any-same _ _ (items a) (λ x. any_none (λ y. same_row (x ++ y) row) (items b) e)
    ∙ nowhere (items a)

mapped_none : (change : Row → Row) (a : RowSet) (row : Row) → has_none a ≡ true → contains (mapped change a) row ≡ false
mapped_none change a row e = contains-mapped change a row ∙ any_none (λ from. same_row (change from) row) (items a) e

pub not_any : (a : RowSet) (t : Bool) → has_none a ≡ t → not (any_row a) ≡ t
not_any a t e = sym (none_any (items a)) ∙ e

-- COVER is OVERLAY and what either side has alone
pub contains-covered : (m n : ℕ) (a b : RowSet) (row : Row) → contains (covered m n a b) row ≡ (contains (overlaid a b) row || (not (any_row b) && contains (mapped (λ x. x ++ nulls n) a) row) || (not (any_row a) && contains (mapped (λ y. nulls m ++ y) b) row))
contains-covered m n a b row = elim (has_none a) as (λ t. has_none a ≡ t → contains (covered m n a b) row ≡ right) [
  | true ↦ λ e.
      let is = ap (λ (s : RowSet). contains s row) (covered_cases m n a b true (has_none b) e refl) in
      let x = overlaid_none_left a b row e in
      let y = mapped_none (λ x. x ++ nulls n) a row e in
      is ∙ sym (ends _ _ _ _ _ x y (not_any a true e))
  | false ↦ λ e. elim (has_none b) as (λ t. has_none b ≡ t → contains (covered m n a b) row ≡ right) [
    | true ↦ λ f.
        let is = ap (λ (s : RowSet). contains s row) (covered_cases m n a b false true e f) in
        is ∙ sym (middle _ _ _ _ _ (overlaid_none_right a b row f) (not_any b true f) (not_any a false e))
    | false ↦ λ f.
        let is = ap (λ (s : RowSet). contains s row) (covered_cases m n a b false false e f) in
        is ∙ sym (first _ _ _ _ _ (not_any b false f) (not_any a false e))
  ] refl
] refl
  where
    right : Bool
    right = contains (overlaid a b) row || (not (any_row b) && contains (mapped (λ x. x ++ nulls n) a) row) || (not (any_row a) && contains (mapped (λ y. nulls m ++ y) b) row)

    and_false : (t : Bool) → (t && false) ≡ false
    and_false true = refl
    and_false false = refl

    or_false : (t : Bool) → (t || false) ≡ t
    or_false true = refl
    or_false false = refl

    ends : (o p q r s : Bool) → o ≡ false → q ≡ false → r ≡ true → (o || (p && q) || (r && s)) ≡ s
    ends o p q r s e f g = (λ i. e i || (p && f i) || (g i && s)) ∙ ap (λ t. t || s) (and_false p)

    middle : (o p q r s : Bool) → o ≡ false → p ≡ true → r ≡ false → (o || (p && q) || (r && s)) ≡ q
    middle o p q r s e f g = (λ i. e i || (f i && q) || (g i && s)) ∙ or_false q

    first : (o p q r s : Bool) → p ≡ false → r ≡ false → (o || (p && q) || (r && s)) ≡ o
    first o p q r s f g = (λ i. o || (f i && q) || (g i && s)) ∙ ap (λ t. t || false) (or_false o) ∙ or_false o
