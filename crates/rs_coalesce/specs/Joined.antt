-- How runs are made: spans by row and place, or by place and apart, and each joined with what follows it as far as they
-- are one.
use Rattle.std.specs.Prelude.{ℕ, suc, ◌+◌, ◌<◌, ◌≤◌, ◌≢◌, ◌⊎◌, ◌≡◌, max, Bool, ◌&&◌, nat_lt, List, [], ◌∷◌, length, get_or, if◌then◌else◌}
use Rattle.std.specs.declared.cmp.Ordering.{Ordering}
use Rattle.std.specs.Ordering.{nat_cmp, ordering_then, eq_by_cmp}
use Rattle.rs_value.specs.declared.column.Kind.{Kind}
use Rattle.rs_value.specs.Row.{row_cmp}
use Rattle.rs_facts.specs.declared.fact.Span.{Span}
use Rattle.rs_facts.specs.Runs.{Stretch, stretch}
use Rattle.rs_facts.specs.Spans.{gap_of}

-- by row, then by place
unfoldable pub row_place_cmp : Stretch → Stretch → Ordering
row_place_cmp a b = ordering_then (row_cmp a.row b.row) (nat_cmp a.lo b.lo)

-- whether a span and the next one are one run
unfoldable pub joins : Kind → Stretch → Stretch → Bool
joins kind before next = nat_lt next.lo (before.hi + gap_of kind) && eq_by_cmp row_cmp before.row next.row

-- the first, up to where the one ends that ends last
abbrev pub join : Stretch → Stretch → Stretch
join before next = stretch before.lo (max before.hi next.hi) before.row

abbrev pub joined_onto : Kind → Stretch → List Stretch → List Stretch
joined_onto kind before [] = before ∷ []
joined_onto kind before (next ∷ rest) = if joins kind before next then joined_onto kind (join before next) rest else before ∷ joined_onto kind next rest

unfoldable pub joined : Kind → List Stretch → List Stretch
joined kind [] = []
joined kind (first ∷ rest) = joined_onto kind first rest

-- each begins at or after the end of the one before it
abbrev pub AreApart : List Stretch → Type 0
AreApart spans = (k : ℕ) (d : Stretch) → suc k < length spans → (get_or spans k d).hi ≤ (get_or spans (suc k) d).lo

-- each begins at or after the beginning of the one before it
abbrev pub BeginInTurn : List Span → Type 0
BeginInTurn spans = (k : ℕ) (d : Span) → suc k < length spans → (get_or spans k d).lo ≤ (get_or spans (suc k) d).lo

-- no two are one run: those of one row lie apart
abbrev pub AreJoined : Kind → List Stretch → Type 0
AreJoined kind spans = (i j : ℕ) (d : Stretch) → i < length spans → j < length spans → i ≢ j → (get_or spans i d).row ≡ (get_or spans j d).row
    → ((get_or spans i d).hi + gap_of kind ≤ (get_or spans j d).lo) ⊎ ((get_or spans j d).hi + gap_of kind ≤ (get_or spans i d).lo)
