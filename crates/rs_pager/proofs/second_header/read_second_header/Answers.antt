-- Page 0 begins with a header.
use Rattle.std.proofs.Common.{Option, Some, None, IfNone}
use Rattle.rs_pager.proofs.second_header.read_second_header.Goals as goal

-- what holds anyhow holds where there is none
on_none : {T P : Type 0} (found : Option T) → P → IfNone found P
on_none (Some value) holds = tt
on_none None holds = holds

pub returns-in_err-first-clause-none : goal.returns-in_err-first-clause-none
returns-in_err-first-clause-none c = on_none c.from_residual.result (λ header is. c.in_err-first.ensures.none _ is.first)
