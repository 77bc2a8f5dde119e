-- Removal: the rows that pass a test go at each thousandth of the span, and the answer is how many facts went.
use Rattle.std.specs.Prelude.{ℕ, Bool, not, sum_by, count_by, if◌then◌else◌}
use Rattle.rs_value.specs.Row.{Row}
use Rattle.rs_facts.specs.Fact.{Name, Places, Facts, items, keep, thousandths}
use Rattle.rs_facts.specs.Insert.{within, on_route}

-- the rows that go are gone at each k with from ≤ k < to
unfoldable pub without_rows : ℕ → ℕ → (Row → Bool) → Places → Places
without_rows from to goes places = λ k. if within from to k then keep (λ row. not (goes row)) (places k) else places k

abbrev pub after_remove : Facts → Name → ℕ → ℕ → (Row → Bool) → Facts
after_remove facts route from to goes = on_route route (without_rows from to goes (facts route)) facts

-- how many facts there are, at these thousandths, of rows that go
unfoldable pub going : ℕ → ℕ → (Row → Bool) → Places → ℕ
going from to goes places = sum_by (λ k. count_by goes (items (places k))) (thousandths from to)

abbrev pub removed_facts : Facts → Name → ℕ → ℕ → (Row → Bool) → ℕ
removed_facts facts route from to goes = going from to goes (facts route)
