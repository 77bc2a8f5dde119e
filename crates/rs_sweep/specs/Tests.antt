-- How a condition is tested, part by part. No clause of another crate speaks of it.
use Rattle.std.specs.Prelude.{Bool, true, false, not, ◌&&◌, ◌||◌, List, [], ◌∷◌, Option, Some, None, if◌then◌else◌}
use Rattle.std.specs.declared.cmp.Ordering.{Ordering}
use Rattle.rs_value.specs.declared.comparison.Comparison.{Comparison}
use Rattle.rs_value.specs.Row.{Datum, Row, datum_cmp}
use Rattle.rs_facts.specs.Condition as said
use Rattle.rs_facts.specs.ConditionView.{condition_of}
use Rattle.rs_facts.specs.declared.condition.Condition.{Condition}

-- each of the conditions is met
abbrev pub all_met : List Condition → Row → Bool
all_met [] row = true
all_met (part ∷ parts) row = said.meets (condition_of part) row && all_met parts row

-- one of them is
abbrev pub any_met : List Condition → Row → Bool
any_met [] row = false
any_met (part ∷ parts) row = said.meets (condition_of part) row || any_met parts row

-- how two values stand, where neither is NULL
abbrev pub compared : Datum → Datum → Option Ordering
compared a b = if not (said.is_null a) && not (said.is_null b) then Some (datum_cmp a b) else None

abbrev pub is_suited : Comparison → Option Ordering → Bool
is_suited comparison None = false
is_suited comparison (Some order) = said.suits comparison order
