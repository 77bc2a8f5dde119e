use Rattle.std.proofs.Common.{◌≡◌, ℕ, false, get_or, arith}
use Rattle.std.proofs.lemmas.Bool.Decides.{nat_tests}
use Rattle.std.specs.Prelude.{◌==◌}
use Rattle.rs_lexer.proofs.LongestLaws.{less_or_equal, unequal, less_alone}
use Rattle.rs_lexer.proofs.scan.less.Goals as goal

pub returns-in-61 : goal.returns-in-61
returns-in-61 c = less_or_equal c.args.rest.now (omega (arith, c.first_or_zero.ensures))

pub returns-in-62 : goal.returns-in-62
returns-in-62 c = unequal c.args.rest.now (omega (arith, c.first_or_zero.ensures))

pub returns-in_default : goal.returns-in_default
returns-in_default c =
    let other : (byte : ℕ) → (get_or c.args.rest.now 0 0 ≡ byte → ⊥) → (get_or c.args.rest.now 0 0 == byte) ≡ false = λ byte ne. grind (arith, nat_tests) in
    less_alone c.args.rest.now (other 61 (λ e. omega (arith, c.first_or_zero.ensures))) (other 62 (λ e. omega (arith, c.first_or_zero.ensures)))
