use Rattle.std.proofs.Common.{◌≡◌, ◌++◌, drop, string_bytes}
use Rattle.rs_facts.specs.TotalText.{group_text}
use Rattle.rs_total.proofs.total_text.push_group.Given as goal

abbrev pub invariant-loop-column : goal.invariant-loop-column
invariant-loop-column l = string_bytes l.text ++ group_text (drop l.column l.group) ≡ string_bytes l.fn.text ++ group_text l.group
