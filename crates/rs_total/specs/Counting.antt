-- What the passes of this crate compute. No clause of another crate speaks of it.
use Rattle.std.specs.Prelude.{ℕ, ℤ, ◌+◌, ◌-◌, ◌*◌, ◌^◌, min, max, nat_lt, Option, Some, None, unwrap_or, List, fold, if◌then◌else◌}
use Rattle.std.specs.Ordering.{eq_by_cmp}
use Rattle.rs_value.specs.Row.{Datum, null, number, text, Row, row_cmp}
use Rattle.rs_facts.specs.declared.totals.TheConstants.{GREATEST_TOTAL}
use Rattle.rs_facts.specs.Operators.{datum_at, chosen}
use Rattle.rs_facts.specs.Runs.{Stretch}
use Rattle.rs_facts.specs.Totals.{above, below}
use Rattle.rs_total.specs.declared.numbers.Numbers.{Numbers}
use Rattle.rs_total.specs.declared.numbers.Sizes.{Sizes}

-- of a group without facts
abbrev pub no_numbers : Numbers
no_numbers = record { places = 0; reach = 0; weight = 0; sizes = Some (record { above = 0; below = 0 }) }

-- a thousandth of a route, on the line of all routes
abbrev pub along_line : ℕ → ℕ → ℕ
along_line start place = min (start + place) (2 ^ 64 - 1)

-- with the places from lo on and below hi of which none is counted yet
abbrev pub with_places : ℕ → ℕ → Numbers → Numbers
with_places lo hi numbers = record numbers { places = min (numbers.places + (hi - max lo numbers.reach)) (2 ^ 128 - 1); reach = max numbers.reach hi }

-- sizes that are no more than the limit
abbrev pub within_limit : Sizes → Option Sizes
within_limit sizes = if nat_lt GREATEST_TOTAL (sizes.above + sizes.below) then None else Some sizes

-- with a number that so many facts have
abbrev pub with_size : ℕ → ℤ → Sizes → Option Sizes
with_size facts n sizes = within_limit (record { above = sizes.above + facts * above (number n); below = sizes.below + facts * below (number n) })

abbrev pub sizes_with : ℕ → ℤ → Option Sizes → Option Sizes
sizes_with facts n None = None
sizes_with facts n (Some sizes) = with_size facts n sizes

-- with a value that so many facts have
abbrev pub with_value : ℕ → Datum → Numbers → Numbers
with_value facts null numbers = numbers
with_value facts (number n) numbers = record numbers { weight = min (numbers.weight + facts) (2 ^ 128 - 1); sizes = sizes_with facts n numbers.sizes }
with_value facts (text bytes) numbers = record numbers { weight = min (numbers.weight + facts) (2 ^ 128 - 1) }

abbrev pub with_summed : Option ℕ → Stretch → Numbers → Numbers
with_summed None span numbers = numbers
with_summed (Some column) span numbers = with_value (span.hi - span.lo) (datum_at span.row column) numbers

-- with a span of the group, on the route that begins there
unfoldable pub with_span : ℕ → Option ℕ → Stretch → Numbers → Numbers
with_span start column span numbers = with_summed column span (with_places (along_line start span.lo) (along_line start span.hi) numbers)

-- what is kept of a group, with a span of another or of this one
abbrev pub kept_in : Option ℕ → ℕ → Row → Row → Option Numbers → Stretch → Option Numbers
kept_in column start of group kept span = if eq_by_cmp row_cmp of group then Some (with_span start column span (unwrap_or kept no_numbers)) else kept

abbrev pub kept_with : List ℕ → Option ℕ → ℕ → Row → Option Numbers → Stretch → Option Numbers
kept_with by column start group kept span = kept_in column start (chosen by span.row) group kept span

-- and with all spans of a route, from the left
unfoldable pub kept_along : List ℕ → Option ℕ → ℕ → Row → Option Numbers → List Stretch → Option Numbers
kept_along by column start group kept spans = fold (kept_with by column start group) kept spans
