-- Zeros on both sides.
use Rattle.std.proofs.Common.{◌∙◌, sym}
use Rattle.std.proofs.lemmas.Bool.{true≢false}
use Rattle.rs_pager.proofs.Zeros.{front_size, zeros_of, front_zeros, back_zeros}
use Rattle.rs_pager.proofs.second_header.ends_in_zeros.Goals as goal

pub slice_bounds-are_zeros_from-end : goal.slice_bounds-are_zeros_from-end
slice_bounds-are_zeros_from-end c = front_size c.args.page.now c.requires

pub returns-then-are_zeros_from : goal.returns-then-are_zeros_from
returns-then-are_zeros_from c = (
  (λ yes. zeros_of c.args.page.now (c.are_zeros_from.ensures.0 c.if-are_zeros_from.true) (c.are_zeros_from-then-are_zeros_from.ensures.0 yes)),
  (λ zeros. c.are_zeros_from-then-are_zeros_from.ensures.1 (back_zeros c.args.page.now zeros)),
)

pub returns-else-are_zeros_from : goal.returns-else-are_zeros_from
returns-else-are_zeros_from c = (
  (λ yes. absurd (true≢false (sym yes ∙ c.if-are_zeros_from.false))),
  (λ zeros. c.are_zeros_from.ensures.1 (front_zeros c.args.page.now c.requires zeros)),
)
