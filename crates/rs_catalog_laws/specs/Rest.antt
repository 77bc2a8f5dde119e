-- The rest of a state after one more change, and spans whose rows are the same.
use Rattle.std.specs.Prelude.{◌≡◌, ◌+◌, ℕ, List}
use Rattle.rs_catalog.specs.Definitions.{Rest}
use Rattle.rs_facts.specs.Runs.{Stretch}
use Rattle.rs_facts.specs.Spans.{places_of}

abbrev pub one_more : Rest → Rest
one_more rest = record rest { changes = rest.changes + 1 }

-- the same rows at each thousandth, of each table on each route
abbrev pub SameRows : (ℕ → ℕ → List Stretch) → (ℕ → ℕ → List Stretch) → Type 0
SameRows old new = (table route : ℕ) → places_of (new table route) ≡ places_of (old table route)

-- the spans of one table on one route are others; all other rows are the same
pub record ChangesRows (table route : ℕ) (old new : ℕ → ℕ → List Stretch) : Type 0 where
  pub others : (other : ℕ) → (other ≡ table → ⊥) → (along : ℕ) → places_of (new other along) ≡ places_of (old other along)
  pub elsewhere : (along : ℕ) → (along ≡ route → ⊥) → places_of (new table along) ≡ places_of (old table along)
