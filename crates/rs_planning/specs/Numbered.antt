-- What a query or a plan names, with the number by which it is kept.
use Rattle.std.specs.Prelude.{ℕ}
use Rattle.rs_value.specs.declared.column.Kind.{Kind}
use Rattle.rs_facts.specs.Fact.{Name}

pub data Numbered : Type 0 where
  numbered_table : Name → ℕ → Kind → ℕ → Numbered  -- the number, the kind, how many columns
  numbered_route : Name → ℕ → Numbered
  numbered_index : Name → ℕ → Numbered
