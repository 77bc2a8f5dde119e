-- The part of the page that is looked at, and the page.
use Rattle.rs_page.proofs.Numbers.{zeros_after, zeros_inside}
use Rattle.rs_page.proofs.bytes.are_zeros_from.Goals as goal

pub returns : goal.returns
returns c = (
  (λ zeros. zeros_after c.args.page.now c.args.at (c.are_zeros.ensures.0 zeros)),
  (λ zeros. c.are_zeros.ensures.1 (zeros_inside c.args.page.now c.args.at zeros)),
)
