-- Facts: which rows hold at each single thousandth of each route.
use Rattle.std.specs.Prelude.{◌≢◌, ℕ, ◌-◌, Bool, List, [], ◌∷◌}
use Rattle.std.specs.declared.cmp.Ordering.{Ordering}
use Rattle.std.specs.Ordering.{nat_cmp}
use Rattle.std.specs.Cmp.Lexicographic.{slice_cmp}
use Rattle.std.specs.List.{AllByRecursion, range_with_len}
use Rattle.std.specs.FinMap as map
use Rattle.rs_value.specs.Row.{Row, row_cmp}

-- a name is its bytes, and names are in the order of their bytes
abbrev pub Name : Type 0
Name = List ℕ

unfoldable pub name_cmp : Name → Name → Ordering
name_cmp = slice_cmp nat_cmp

-- no name stands twice
abbrev pub AreDistinct : List Name → Type 0
AreDistinct [] = Unit {0}
AreDistinct (name ∷ more) = AllByRecursion (λ other. name ≢ other) more × AreDistinct more

-- what stands under names: in the order of the names, each name once
abbrev pub Names : Type 0 → Type 0
Names X = map.FinMap name_cmp X

-- ---- a finite set of rows

abbrev pub RowSet : Type 0
RowSet = map.FinMap row_cmp (Unit {0})

abbrev pub none : RowSet
none = map.empty

abbrev pub contains : RowSet → Row → Bool
contains rows row = map.contains_key rows row

abbrev pub add : RowSet → Row → RowSet
add rows row = map.insert rows row tt

abbrev pub items : RowSet → List Row
items rows = map.keys rows

abbrev pub keep : (Row → Bool) → RowSet → RowSet
keep test rows = map.retain_keys rows test

-- ---- facts

-- the rows that hold on a route at one thousandth
abbrev pub Places : Type 0
Places = ℕ → RowSet

-- the rows that hold, of a table or a query, at each thousandth of each route
abbrev pub Facts : Type 0
Facts = Name → Places

abbrev pub no_facts : Facts
no_facts route k = none

-- from, from + 1, and so on, below to
unfoldable pub thousandths : ℕ → ℕ → List ℕ
thousandths from to = range_with_len from (to - from)
