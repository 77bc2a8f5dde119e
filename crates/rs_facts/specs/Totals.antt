-- Totals: of each group of rows, at how many places it holds, how many facts it has, and what a column adds up to.
use Rattle.std.specs.Prelude.{ℕ, pos, negsuc, suc, ◌+◌, Bool, false, nat_lt, List, map, filter, flat_map, sum_by, Option, Some, None, Result, Ok, Err, if◌then◌else◌}
use Rattle.std.specs.List.{list_any}
use Rattle.std.specs.Ordering.{eq_by_cmp}
use Rattle.rs_refusal.specs.declared.refusal.Refusal.{Refusal}
use Rattle.rs_refusal.specs.declared.refusal.Refusal.TheVariants.{TotalTooLarge}
use Rattle.rs_value.specs.Row.{Datum, null, number, text, Row, row_cmp}
use Rattle.rs_facts.specs.declared.totals.TheConstants.{GREATEST_TOTAL}
use Rattle.rs_facts.specs.Fact.{RowSet, items, Places, thousandths}
use Rattle.rs_facts.specs.Operators.{from_rows, datum_at, chosen}
use Rattle.rs_facts.specs.Condition.{is_null}

-- the rows that hold along a route, from its first thousandth on and below the second
pub record Along : Type 0 where
  pub from : ℕ
  pub to : ℕ
  pub places : Places

-- ---- sums over places and over facts

-- an amount of the rows that hold together, added over each thousandth of each route
unfoldable pub over_places : (RowSet → ℕ) → List Along → ℕ
over_places amount routes = sum_by (λ route. sum_by (λ k. amount (route.places k)) (thousandths route.from route.to)) routes

-- whether the row is of the group, which is the values in the columns named
abbrev pub is_of : List ℕ → Row → Row → Bool
is_of by group row = eq_by_cmp row_cmp (chosen by row) group

-- an amount of a row, added over the facts of the group
unfoldable pub over_facts : List ℕ → Row → (Row → ℕ) → List Along → ℕ
over_facts by group amount routes = over_places (λ rows. sum_by amount (filter (is_of by group) (items rows))) routes

-- ---- a group's numbers

-- at how many places some row of the group holds; two rows at one place count once
abbrev pub length_of : List ℕ → Row → List Along → ℕ
length_of by group routes = over_places (λ rows. if list_any (is_of by group) (items rows) then 1 else 0) routes

-- how far a value is above 0, and how far below
abbrev pub above : Datum → ℕ
above null = 0
above (number (pos n)) = n
above (number (negsuc n)) = 0
above (text bytes) = 0

abbrev pub below : Datum → ℕ
below null = 0
below (number (pos n)) = 0
below (number (negsuc n)) = suc n
below (text bytes) = 0

-- What a column adds up to over a group's facts: how many facts have a value in it, and the values above 0 and below 0,
-- each added up by their sizes.
pub record Sum : Type 0 where
  pub weight : ℕ
  pub above_zero : ℕ
  pub below_zero : ℕ

abbrev pub sum_of : List ℕ → Row → ℕ → List Along → Sum
sum_of by group column routes = record {
  weight = over_facts by group (λ row. if is_null (datum_at row column) then 0 else 1) routes;
  above_zero = over_facts by group (λ row. above (datum_at row column)) routes;
  below_zero = over_facts by group (λ row. below (datum_at row column)) routes;
}

-- a group, at how many places it holds, and what a column adds up to, where one is summed
pub record Total : Type 0 where
  pub group : Row
  pub places : ℕ
  pub sum : Option Sum

abbrev pub total_of : List ℕ → Option ℕ → List Along → Row → Total
total_of by None routes group = record { group = group; places = length_of by group routes; sum = None }
total_of by (Some column) routes group = record { group = group; places = length_of by group routes; sum = Some (sum_of by group column routes) }

-- ---- all groups

-- the groups that have a fact, in the order of their values
unfoldable pub groups_of : List ℕ → List Along → List Row
groups_of by routes = items (from_rows (flat_map (λ route. flat_map (λ k. map (chosen by) (items (route.places k))) (thousandths route.from route.to)) routes))

-- the sizes of the values summed, added up, pass the limit
abbrev pub passes_limit : Option Sum → Bool
passes_limit None = false
passes_limit (Some sum) = nat_lt GREATEST_TOTAL (sum.above_zero + sum.below_zero)

abbrev pub totals_of : List ℕ → Option ℕ → List Along → List Total
totals_of by column routes = map (total_of by column routes) (groups_of by routes)

-- the totals of the groups, or the refusal where one of them passes the limit
abbrev pub totalled : List ℕ → Option ℕ → List Along → Result (List Total) Refusal
totalled by column routes = if list_any (λ total. passes_limit total.sum) (totals_of by column routes) then Err TotalTooLarge else Ok (totals_of by column routes)
