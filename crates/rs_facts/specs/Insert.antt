-- Insertion: the row holds at each thousandth of the span, and the answer is how many of these facts are new.
use Rattle.std.specs.Prelude.{ℕ, Bool, not, ◌&&◌, nat_le, nat_lt, count_by, if◌then◌else◌}
use Rattle.std.specs.Ordering.{eq_by_cmp}
use Rattle.rs_value.specs.Row.{Row}
use Rattle.rs_facts.specs.Fact.{Name, name_cmp, Places, Facts, contains, add, thousandths}

abbrev pub same_name : Name → Name → Bool
same_name a b = eq_by_cmp name_cmp a b

-- from ≤ k < to
abbrev pub within : ℕ → ℕ → ℕ → Bool
within from to k = nat_le from k && nat_lt k to

-- beside the rows that are there, the row holds at each k with from ≤ k < to
unfoldable pub with_row : ℕ → ℕ → Row → Places → Places
with_row from to row places = λ k. if within from to k then add (places k) row else places k

-- one route's facts are others
unfoldable pub on_route : Name → Places → Facts → Facts
on_route route places facts = λ r. if same_name r route then places else facts r

abbrev pub after_insert : Facts → Name → ℕ → ℕ → Row → Facts
after_insert facts route from to row = on_route route (with_row from to row (facts route)) facts

-- at how many thousandths the row does not hold yet
unfoldable pub missing : ℕ → ℕ → Row → Places → ℕ
missing from to row places = count_by (λ k. not (contains (places k) row)) (thousandths from to)

abbrev pub new_facts : Facts → Name → ℕ → ℕ → Row → ℕ
new_facts facts route from to row = missing from to row (facts route)
