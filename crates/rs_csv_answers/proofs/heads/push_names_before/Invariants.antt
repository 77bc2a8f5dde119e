use Rattle.std.proofs.Common.{◌≡◌, ◌++◌, drop, map}
use Rattle.rs_csv_answers.specs.Heads.{names_before}
use Rattle.rs_csv_answers.proofs.heads.push_names_before.Given as goal

abbrev pub invariant-loop-name : goal.invariant-loop-name
invariant-loop-name l = l.text.items ++ names_before (map (λ name. name.bytes) (drop l.name-index l.names)) ≡ l.fn.text.items ++ names_before (map (λ name. name.bytes) l.names)
