use Rattle.std.proofs.Common.{◌≡◌, drop, map}
use Rattle.rs_facts.specs.Query.{overlaid_kind}
use Rattle.rs_exec.specs.Meaning.{meaning_of, kinds_together}
use Rattle.rs_exec.proofs.kinds.+kinds.Given as goal

abbrev pub invariant-kind_together-loop-operand : goal.invariant-kind_together-loop-operand
invariant-kind_together-loop-operand l = overlaid_kind l.kind (kinds_together (map meaning_of (drop l.operand-index l.operands))) ≡ kinds_together (map meaning_of l.operands)
