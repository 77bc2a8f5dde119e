-- Places and spans that lie within some thousandths.
use Rattle.std.proofs.Common.{ℕ, ◌-◌, ◌≤◌, inl, inr, List, [], ◌∷◌, ◌∙◌, refl, sym, arith}
use Rattle.std.specs.List.{AllByRecursion}
use Rattle.rs_value.specs.Row.{Row}
use Rattle.rs_value.specs.declared.column.Kind.{Kind}
use Rattle.rs_facts.specs.Fact.{none, Places}
use Rattle.rs_facts.specs.Insert.{with_row}
use Rattle.rs_facts.specs.Runs.{Stretch, LieWithin}
use Rattle.rs_facts.specs.Spans.{places_of, ArePlaced, IsPlaced}
use Rattle.rs_facts.proofs.KeptLaws.{placed-some}
use Rattle.rs_facts.proofs.Placing.{cases_within, with_row-outside}
use Rattle.rs_facts.proofs.RunLaws.{each-at, every-from_each}
use Rattle.rs_facts.proofs.Sets.{contains-none}
use Rattle.rs_facts.proofs.SpanLaws.{contains-from_Holds}
use Rattle.rs_facts.proofs.SpanLaws.{contains-from_Holds}

abbrev pub IsInside : ℕ → ℕ → Stretch → Type 0
IsInside from to span = (from ≤ span.lo) × (span.hi ≤ to)

pub within-none : (from to : ℕ) → LieWithin from to (λ k. none)
within-none from to k row e = let free = contains-none row in cc

-- a span that lies within leaves the places within
pub within-with_row : (from to lo hi : ℕ) (row : Row) (places : Places) → from ≤ lo → hi ≤ to → LieWithin from to places → LieWithin from to (with_row lo hi row places)
within-with_row from to lo hi row places a b inside k other e = elim (cases_within lo hi k) [
  | inl w ↦ (omega (arith, w.1), omega (arith, w.2))
  | inr w ↦ inside k other (sym (with_row-outside lo hi row places k other w.1) ∙ e)
]

-- spans that lie within mean places within
pub within-spans : (from to : ℕ) (spans : List Stretch) → AllByRecursion (IsInside from to) spans → LieWithin from to (places_of spans)
within-spans from to [] h = within-none from to
within-spans from to (span ∷ spans) h = within-with_row from to span.lo span.hi span.row (places_of spans) h.0.0 h.0.1 (within-spans from to spans h.1)

-- and the other way, where each span has a thousandth
pub spans-within : (kind : Kind) (from to : ℕ) (spans : List Stretch) → ArePlaced kind spans → LieWithin from to (places_of spans) → AllByRecursion (IsInside from to) spans
spans-within kind from to spans placed inside = every-from_each (IsInside from to) spans (λ span among.
    let some = placed-some kind span (each-at (IsPlaced kind) spans span placed among) in
    let first = inside span.lo span.row (contains-from_Holds spans span span.row span.lo among (record { same = refl; from = omega arith; below = some })) in
    let last = inside (span.hi - 1) span.row (contains-from_Holds spans span span.row (span.hi - 1) among (record { same = refl; from = omega (arith, some); below = omega (arith, some) })) in
    (first.0, omega (arith, last.1)))
