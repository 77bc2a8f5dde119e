use Rattle.std.proofs.Common.{◌+◌, drop, map, sym, ap, ◌∙◌}
use Rattle.rs_facts.specs.Query.{overlaid_kind}
use Rattle.rs_planning.proofs.Operands.{line_first, line_last, kind_assoc}
use Rattle.rs_exec.specs.Meaning.{meaning_of, kind_in, kinds_together}
use Rattle.rs_exec.proofs.Lists.{more, end}
use Rattle.rs_exec.proofs.kinds.+kinds.Goals as goal

pub kind_together-loop-operand-init : goal.kind_together-loop-operand-init
kind_together-loop-operand-init t c = line_first (kinds_together (map meaning_of c.args.operands.now))

pub kind_together-loop-operand-preserved : goal.kind_together-loop-operand-preserved
kind_together-loop-operand-preserved t c =
    let rest = kinds_together (map meaning_of (drop (c.loop-operand.operand-index + 1) c.args.operands.now)) in
    ap (λ kind. overlaid_kind kind rest) (c.overlaid_kind-kind.ensures ∙ ap (overlaid_kind c.loop-operand.kind) c.kind_of.ensures)
    ∙ kind_assoc c.loop-operand.kind (kind_in c.operand-item.result) rest
    ∙ ap (λ plans. overlaid_kind c.loop-operand.kind (kinds_together (map meaning_of plans))) (sym (more c.args.operands.now c.loop-operand.operand-index c.operand-item.result c.loop-operand-test.true c.operand-item.is))
    ∙ c.loop-operand.invariant

pub kind_together-returns : goal.kind_together-returns
kind_together-returns t c =
    sym (line_last c.loop-operand.kind)
    ∙ ap (λ plans. overlaid_kind c.loop-operand.kind (kinds_together (map meaning_of plans))) (sym (end c.args.operands.now c.loop-operand.operand-index c.loop-operand-test.false))
    ∙ c.loop-operand.invariant
