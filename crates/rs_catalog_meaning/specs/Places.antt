-- Routes by their numbers, and where pieces lie on them.
use Rattle.std.specs.Prelude.{◌≡◌, ℕ, ◌+◌, ◌-◌, ◌<◌, ◌≤◌, List, length, slice_index}
use Rattle.std.specs.List.{AllByRecursion}
use Rattle.rs_catalog_pages.specs.Items.{PieceItem}
use Rattle.rs_facts.specs.Query.{RouteEnds}
use Rattle.rs_machine.specs.declared.limits.TheConstants.{ROUTES}
use Rattle.rs_page_owners.specs.Counts.{times}

-- each number is below the limit, and there once
pub record AreGivenOnce (numbers : List ℕ) : Type 0 where
  pub below : AllByRecursion (λ number. number < ROUTES) numbers
  pub once : (number : ℕ) → times numbers number ≤ 1

-- for each number its place among these, counted from 1; 0 where it is not among them
pub record ArePlaces (numbers places : List ℕ) : Type 0 where
  pub own : (place : ℕ) → place < length numbers
      → (slice_index numbers place < ROUTES) × (slice_index places (slice_index numbers place) ≡ place + 1)
  pub other : (number : ℕ) → 0 < slice_index places number
      → (slice_index places number ≤ length numbers) × (slice_index numbers (slice_index places number - 1) ≡ number)

-- a part of the first route, and some of it, whose place on the second is on that route too
pub record LiesOn (piece : PieceItem) (first second : RouteEnds) : Type 0 where
  pub from_start : first.start ≤ piece.from
  pub some : piece.from < piece.to
  pub upto_finish : piece.to ≤ first.finish
  pub onto_start : second.start ≤ piece.onto
  pub onto_finish : piece.onto + (piece.to - piece.from) ≤ second.finish
