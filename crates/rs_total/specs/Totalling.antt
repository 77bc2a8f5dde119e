-- Which totals are kept after some routes.
use Rattle.std.specs.Prelude.{◌≡◌, ℕ, ◌+◌, ◌*◌, ◌^◌, ◌<◌, ◌≤◌, Bool, Option, Some, None, is_some, unwrap_or, List, length, if◌then◌else◌}
use Rattle.std.specs.List.{list_any}
use Rattle.rs_value.specs.declared.column.Kind.{Kind}
use Rattle.rs_value.specs.Row.{Row}
use Rattle.rs_facts.specs.declared.totals.TheConstants.{GREATEST_TOTAL}
use Rattle.rs_facts.specs.Fact.{items, thousandths}
use Rattle.rs_facts.specs.Operators.{datum_at}
use Rattle.rs_facts.specs.Condition.{is_null}
use Rattle.rs_facts.specs.Runs.{Stretch, AreRunsOf, LieWithin}
use Rattle.rs_facts.specs.Totals.{Along, is_of, over_facts, length_of, above, below}
use Rattle.rs_total.specs.declared.numbers.Numbers.{Numbers}
use Rattle.rs_total.specs.declared.numbers.Sizes.{Sizes}
use Rattle.rs_total.specs.Counting.{no_numbers}
use Rattle.rs_total.specs.Tally.{Tally, kept_of}

-- The runs of the rows along a route, which has fewer than 2^32 thousandths.
pub record AreRunsAlong (kind : Kind) (route : Along) (runs : List Stretch) : Type 0 where
  pub maximal : AreRunsOf kind route.places runs
  pub within : LieWithin route.from route.to route.places
  pub short : route.to < 2 ^ 32

-- ---- what is kept after some routes

-- whether some row of the group holds at some place
unfoldable pub has_group : List ℕ → Row → List Along → Bool
has_group by group routes = list_any (λ route. list_any (λ k. list_any (is_of by group) (items (route.places k))) (thousandths route.from route.to)) routes

-- 1 where a row has a value in the column summed, and how far that is above and below 0
abbrev pub counts : Option ℕ → Row → ℕ
counts None row = 0
counts (Some column) row = if is_null (datum_at row column) then 0 else 1

abbrev pub is_above : Option ℕ → Row → ℕ
is_above None row = 0
is_above (Some column) row = above (datum_at row column)

abbrev pub is_below : Option ℕ → Row → ℕ
is_below None row = 0
is_below (Some column) row = below (datum_at row column)

-- The sizes are those numbers, or none where these pass the limit.
abbrev pub AreSizes : ℕ → ℕ → Option Sizes → Type 0
AreSizes a b (Some sizes) = (sizes.above ≡ a) × (sizes.below ≡ b) × (a + b ≤ GREATEST_TOTAL)
AreSizes a b None = GREATEST_TOTAL < a + b

-- The numbers are those of the group's places and facts along the routes.
pub record AreNumbersOf (by : List ℕ) (column : Option ℕ) (group : Row) (routes : List Along) (numbers : Numbers) : Type 0 where
  pub places : numbers.places ≡ length_of by group routes
  pub weight : numbers.weight ≡ over_facts by group (counts column) routes
  pub sizes : AreSizes (over_facts by group (is_above column) routes) (over_facts by group (is_below column) routes) numbers.sizes
  pub reached : numbers.reach ≤ length routes * 2 ^ 32
  pub few_places : numbers.places ≤ length routes * 2 ^ 96
  pub few_facts : numbers.weight ≤ length routes * 2 ^ 96

-- The tally is that of the routes: it has the groups that have a fact, with their numbers.
pub record AreTotalsOf (by : List ℕ) (column : Option ℕ) (routes : List Along) (tally : Tally) : Type 0 where
  pub by_those : tally.by ≡ by
  pub sums_that : tally.summed ≡ column
  pub starts_next : tally.start ≡ length routes * 2 ^ 32
  pub groups : (group : Row) → is_some (kept_of tally.groups group) ≡ has_group by group routes
  pub numbers : (group : Row) → AreNumbersOf by column group routes (unwrap_or (kept_of tally.groups group) no_numbers)
