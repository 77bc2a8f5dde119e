-- What a write leaves as it was, as numbers.
use Rattle.std.proofs.Common.{arith}
use Rattle.rs_page.proofs.Numbers.{number_at-same}
use Rattle.rs_page.proofs.bytes.put_one.Goals as goal

pub returns-clause-before : goal.returns-clause-before
returns-clause-before c = λ k n h. number_at-same k n _ _ (λ i lo hi. c.write_one.ensures.before i (omega arith))

pub returns-clause-after : goal.returns-clause-after
returns-clause-after c = λ k n h. number_at-same k n _ _ (λ i lo hi. c.write_one.ensures.after i (omega arith))
