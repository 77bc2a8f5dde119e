use Rattle.std.proofs.Common.{◌≡◌, ℕ, ◌<◌, false, get_or}
use Rattle.rs_facts.specs.Insert.{same_name}
use Rattle.rs_syntax.specs.declared.commands.ColumnDefinition.{ColumnDefinition}
use Rattle.rs_checker.proofs.columns.place_of.Given as goal

-- no column before this place has the name
abbrev pub invariant-loop-place : goal.invariant-loop-place
invariant-loop-place l = (k : ℕ) (d : ColumnDefinition) → k < l.place → same_name l.name.bytes (get_or l.column-items k d).name.bytes ≡ false
