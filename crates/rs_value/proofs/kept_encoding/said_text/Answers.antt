use Rattle.std.proofs.Common.{◌≤◌, length, subst, sym, not, ◌==◌, true≢false, ◌∙◌, arith}
use Rattle.std.proofs.lemmas.List.Sums.{prefix_len-le-length}
use Rattle.rs_value.specs.declared.column.TheConstants.{TEXT_BYTES}
use Rattle.rs_value.specs.Row.{text}
use Rattle.rs_value.specs.Values.{IsValue}
use Rattle.rs_value.proofs.EncodingSteps.{text_cut, all_zeros}
use Rattle.rs_value.proofs.kept_encoding.said_text.Goals as goal
use Rattle.rs_value.proofs.kept_encoding.said_text.Goals.{else-is_kept_text-via-then-is_kept_text+else-are_zeros, else-is_kept_text-via-else-is_kept_text}

pub split_at-requires : goal.split_at-requires
split_at-requires c = omega (arith, c.length_before_zero.ensures, prefix_len-le-length (λ byte. not (byte == 0)) c.args.bytes.now)

pub returns-else-is_kept_text-clause-none : goal.returns-else-is_kept_text-clause-none
returns-else-is_kept_text-clause-none c said is says =
    let cut = text_cut c.args.bytes.now said c.length_before_zero.result c.length_before_zero.ensures is says in
    elim c.else-is_kept_text.branch [
      | else-is_kept_text-via-then-is_kept_text+else-are_zeros w ↦
          let yes = w.are_zeros.ensures.1 (all_zeros _ _ (c.split_at.ensures.back ∙ cut.1)) in
          absurd (true≢false (sym yes ∙ w.if-are_zeros.false))
      | else-is_kept_text-via-else-is_kept_text w ↦
          let front = c.split_at.ensures.front ∙ cut.0 in
          let short : length said ≤ TEXT_BYTES = omega (arith, says.0) in
          let yes = c.is_kept_text.ensures.1 (subst (λ s. IsValue (text s)) (sym front) is, subst (λ s. length s ≤ TEXT_BYTES) (sym front) short) in
          absurd (true≢false (sym yes ∙ w.if-is_kept_text.false))
    ]
