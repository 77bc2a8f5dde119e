-- What is so of a line that is readable as one.
use Rattle.std.proofs.Common.{◌≡◌, ℕ, Bool, true, false, List, Option, Some, None, length, not, refl}
use Rattle.std.specs.Prelude.{if◌then◌else◌, IsTrue, nat_lt}
use Rattle.rs_refusal.specs.declared.refusal.Refusal.{Refusal}
use Rattle.rs_refusal.specs.declared.refusal.Refusal.TheVariants.{LineTooLong, LineIsNotText}
use Rattle.rs_machine.specs.declared.limits.TheConstants.{LINE_BYTES}
use Rattle.rs_machine.specs.Request.{is_text, without_return, line_refusal}

not_refused : (long is : Bool) (rest : Option Refusal) → (if long then Some LineTooLong else if not is then Some LineIsNotText else rest) ≡ None → is ≡ true
not_refused true is rest e = cc
not_refused false true rest e = refl
not_refused false false rest e = cc

-- it has text before its CR
pub readable_text : (line : List ℕ) → line_refusal line ≡ None → IsTrue (is_text (without_return line))
readable_text line none = not_refused (nat_lt LINE_BYTES (length line)) (is_text (without_return line)) _ none
