use Rattle.std.proofs.Common.{◌≡◌, ℕ, false, refl, arith}
use Rattle.std.specs.Prelude.{◌==◌}
use Rattle.std.proofs.lemmas.Bool.Decides.{nat_tests}
use Rattle.rs_lexer.specs.Lexis.{reserved}
use Rattle.rs_lexer.proofs.ReservedLaws.{none_begins}
use Rattle.rs_lexer.proofs.scan.beginning_with.Goals as goal

pub returns-in-65 : goal.returns-in-65
unfolding reserved
returns-in-65 c others = rw c.in-65.is refl

pub returns-in-66 : goal.returns-in-66
unfolding reserved
returns-in-66 c others = rw c.in-66.is refl

pub returns-in-67 : goal.returns-in-67
unfolding reserved
returns-in-67 c others = rw c.in-67.is refl

pub returns-in-68 : goal.returns-in-68
unfolding reserved
returns-in-68 c others = rw c.in-68.is refl

pub returns-in-69 : goal.returns-in-69
unfolding reserved
returns-in-69 c others = rw c.in-69.is refl

pub returns-in-70 : goal.returns-in-70
unfolding reserved
returns-in-70 c others = rw c.in-70.is refl

pub returns-in-71 : goal.returns-in-71
unfolding reserved
returns-in-71 c others = rw c.in-71.is refl

pub returns-in-73 : goal.returns-in-73
unfolding reserved
returns-in-73 c others = rw c.in-73.is refl

pub returns-in-76 : goal.returns-in-76
unfolding reserved
returns-in-76 c others = rw c.in-76.is refl

pub returns-in-77 : goal.returns-in-77
unfolding reserved
returns-in-77 c others = rw c.in-77.is refl

pub returns-in-78 : goal.returns-in-78
unfolding reserved
returns-in-78 c others = rw c.in-78.is refl

pub returns-in-79 : goal.returns-in-79
unfolding reserved
returns-in-79 c others = rw c.in-79.is refl

pub returns-in-80 : goal.returns-in-80
unfolding reserved
returns-in-80 c others = rw c.in-80.is refl

pub returns-in-82 : goal.returns-in-82
unfolding reserved
returns-in-82 c others = rw c.in-82.is refl

pub returns-in-83 : goal.returns-in-83
unfolding reserved
returns-in-83 c others = rw c.in-83.is refl

pub returns-in-84 : goal.returns-in-84
unfolding reserved
returns-in-84 c others = rw c.in-84.is refl

pub returns-in-86 : goal.returns-in-86
unfolding reserved
returns-in-86 c others = rw c.in-86.is refl

pub returns-in-87 : goal.returns-in-87
unfolding reserved
returns-in-87 c others = rw c.in-87.is refl

pub returns-in_default : goal.returns-in_default
returns-in_default c others =
    let other : (byte : ℕ) → (byte ≡ c.args.first → ⊥) → (byte == c.args.first) ≡ false = λ byte ne. grind (arith, nat_tests) in
    none_begins c.args.first others
    (other 65 (λ e. omega arith))
    (other 66 (λ e. omega arith))
    (other 67 (λ e. omega arith))
    (other 68 (λ e. omega arith))
    (other 69 (λ e. omega arith))
    (other 70 (λ e. omega arith))
    (other 71 (λ e. omega arith))
    (other 73 (λ e. omega arith))
    (other 76 (λ e. omega arith))
    (other 77 (λ e. omega arith))
    (other 78 (λ e. omega arith))
    (other 79 (λ e. omega arith))
    (other 80 (λ e. omega arith))
    (other 82 (λ e. omega arith))
    (other 83 (λ e. omega arith))
    (other 84 (λ e. omega arith))
    (other 86 (λ e. omega arith))
    (other 87 (λ e. omega arith))
