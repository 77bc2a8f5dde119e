use Rattle.std.proofs.Common.{sym, ap, ◌∙◌}
use Rattle.rs_exec.specs.Carried.{is_one_of}
use Rattle.rs_exec.proofs.Leading.{added-last, added-before, added-apart}
use Rattle.rs_exec.proofs.carrying.add_source.Goals as goal

pub returns-then-is_in-clause-there : goal.returns-then-is_in-clause-there
returns-then-is_in-clause-there c = ap (λ xs. is_one_of xs c.args.number) (sym c.as_slice.ensures.value) ∙ sym c.is_in.ensures ∙ c.if-is_in.true

pub returns-clause-there : goal.returns-clause-there
returns-clause-there c = added-last c.args.sources.now.items _ c.args.number c.in_ok-push.ensures.items

pub returns-clause-stay : goal.returns-clause-stay
returns-clause-stay c = λ other there. added-before other c.args.sources.now.items _ c.args.number c.in_ok-push.ensures.items there

pub returns-clause-once : goal.returns-clause-once
returns-clause-once c = λ apart.
    added-apart c.args.sources.now.items _ c.args.number c.in_ok-push.ensures.items (ap (λ xs. is_one_of xs c.args.number) (sym c.as_slice.ensures.value) ∙ sym c.is_in.ensures ∙ c.if-is_in.false) apart
