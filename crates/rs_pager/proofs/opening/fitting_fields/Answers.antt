-- Page 0 is no header.
use Rattle.std.proofs.Common.{Option, Some, None, IfNone}
use Rattle.rs_pager.proofs.opening.fitting_fields.Goals as goal

-- what holds anyhow holds where there is none
on_none : {T P : Type 0} (found : Option T) → P → IfNone found P
on_none (Some value) holds = tt
on_none None holds = holds

pub returns-in_err-fields-clause-none : goal.returns-in_err-fields-clause-none
returns-in_err-fields-clause-none c = on_none c.from_residual.result (λ fields is _ _ _. c.in_err-fields.ensures.none fields is)
