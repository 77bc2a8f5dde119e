-- What rows that are kept are made of, as the operators say it.
use Rattle.std.proofs.Common.{◌≡◌, ℕ, List, map, get_or, replicate}
use Rattle.rs_value.specs.Row.{null, Row}
use Rattle.rs_facts.specs.Operators.{chosen, nulls}

pub chosen_is : (columns : List ℕ) (row made : Row) → made ≡ map (λ column. get_or row column null) columns → made ≡ chosen columns row
unfolding chosen
chosen_is columns row made is = is

pub nulls_are : (width : ℕ) (made : Row) → made ≡ replicate width null → made ≡ nulls width
unfolding nulls
nulls_are width made is = is
