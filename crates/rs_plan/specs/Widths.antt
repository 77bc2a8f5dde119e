-- The width of a checked query. No clause of another crate speaks of it.
use Rattle.std.specs.Prelude.{◌≡◌, ℕ}
use Rattle.rs_facts.specs.WellFormed.{width_of}
use Rattle.rs_planning.specs.Basis.{Basis}
use Rattle.rs_checker.specs.declared.checked.CheckedQuery.{CheckedQuery}
use Rattle.rs_checker.specs.CheckedView.{query_of, named_in}
use Rattle.rs_plan.specs.Counted.{Counted, StandsFor}

-- it is the width of the query in the world of each basis that counts stand for
pub record IsWidth (query : CheckedQuery) (width : ℕ) : Type 0 where
  pub is : (counted : Counted) (basis : Basis) → StandsFor counted basis (query_of query) (named_in query) → width ≡ width_of basis.world (query_of query)
