use Rattle.std.proofs.Common.{◌≤◌, length, subst, sym, not, ◌==◌, true≢false, ◌∙◌, arith}
use Rattle.std.proofs.lemmas.List.Sums.{prefix_len-le-length}
use Rattle.rs_value.specs.declared.column.TheConstants.{TEXT_BYTES}
use Rattle.rs_value.specs.Row.{text}
use Rattle.rs_value.specs.Values.{IsValue}
use Rattle.rs_value.proofs.EncodingSteps.{text_cut, all_zeros, none_from}
use Rattle.rs_value.proofs.encoding.decode_text.Goals as goal

pub split_at-requires : goal.split_at-requires
split_at-requires c = omega (arith, c.length_before_zero.ensures, prefix_len-le-length (λ byte. not (byte == 0)) c.args.bytes.now)

pub returns-then-are_zeros-clause-none : goal.returns-then-are_zeros-clause-none
returns-then-are_zeros-clause-none c =
    none_from c.text_of.result (λ none said is says.
    let cut = text_cut c.args.bytes.now said c.length_before_zero.result c.length_before_zero.ensures is says in
    let front = c.split_at.ensures.front ∙ cut.0 in
    none (subst (λ s. IsValue (text s)) (sym front) is) (subst (λ s. length s ≤ TEXT_BYTES) (sym front) (omega (arith, says.0)))) c.text_of.ensures.none

pub returns-else-are_zeros-clause-none : goal.returns-else-are_zeros-clause-none
returns-else-are_zeros-clause-none c said is says =
    let cut = text_cut c.args.bytes.now said c.length_before_zero.result c.length_before_zero.ensures is says in
    let yes = c.are_zeros.ensures.1 (all_zeros _ _ (c.split_at.ensures.back ∙ cut.1)) in
    absurd (true≢false (sym yes ∙ c.if-are_zeros.false))
