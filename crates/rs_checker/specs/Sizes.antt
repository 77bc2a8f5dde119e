-- How many nodes are left after a query, where it fits.
use Rattle.std.specs.Prelude.{ℕ, ◌+◌, ◌-◌, max, ◌&&◌, nat_le, Option, Some, None, if◌then◌else◌}
use Rattle.rs_syntax.specs.Tree.{QueryTree}
use Rattle.rs_machine.specs.Opening as size

-- how many of so many nodes are left after `size` of them, `deep` being at most `depth`
abbrev pub left_after : ℕ → ℕ → ℕ → ℕ → Option ℕ
left_after nodes depth size deep = if nat_le size nodes && nat_le deep depth then Some (nodes - size) else None

abbrev pub nodes_left : ℕ → ℕ → QueryTree → Option ℕ
nodes_left nodes depth query = left_after nodes depth (size.nodes query) (size.depth query)

-- of two operands
abbrev pub pair_left : ℕ → ℕ → QueryTree → QueryTree → Option ℕ
pair_left nodes depth left right = left_after nodes depth (size.nodes left + size.nodes right) (max (size.depth left) (size.depth right))
