use Rattle.std.proofs.Common.{◌≡◌, ℕ, false, sym, ◌∙◌, arith}
use Rattle.std.proofs.lemmas.Bool.Decides.{nat_tests}
use Rattle.std.specs.Prelude.{◌==◌}
use Rattle.rs_lexer.proofs.LongestLaws.{single, no_single}
use Rattle.rs_lexer.proofs.scan.other.Goals as goal

pub returns-in_err-single_kind-in_default : goal.returns-in_err-single_kind-in_default
returns-in_err-single_kind-in_default c =
    let other : (byte : ℕ) → (c.args.first ≡ byte → ⊥) → (c.args.first == byte) ≡ false = λ byte ne. grind (arith, nat_tests) in
    rw c.from_residual.ensures (no_single c.args.first c.requires (sym c.is_ascii_digit.ensures.value ∙ c.if-is_ascii_digit.false)
    (other 39 (λ e. omega arith)) (other 60 (λ e. omega arith)) (other 62 (λ e. omega arith)) c.args.rest.now (sym c.in_err-single_kind-in_default.was ∙ c.single_kind.ensures))

pub returns-in_ok-single_kind-in_default : goal.returns-in_ok-single_kind-in_default
returns-in_ok-single_kind-in_default c =
    let other : (byte : ℕ) → (c.args.first ≡ byte → ⊥) → (c.args.first == byte) ≡ false = λ byte ne. grind (arith, nat_tests) in
    single c.args.first c.requires (sym c.is_ascii_digit.ensures.value ∙ c.if-is_ascii_digit.false)
    (other 39 (λ e. omega arith)) (other 60 (λ e. omega arith)) (other 62 (λ e. omega arith)) c.args.rest.now c.in_ok-single_kind-in_default.field-0 (sym c.in_ok-single_kind-in_default.was ∙ c.single_kind.ensures)
