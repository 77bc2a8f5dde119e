-- An answer that is put.
use Rattle.std.proofs.Common.{◌≡◌, ◌∙◌, ℕ, Bool, List, Option, Result, Ok, Err, is_ok, sym}
use Rattle.std.specs.Prelude.{IfOk, MatchResult}
use Rattle.rs_csv_answers.specs.Turns.{PutsOne, Text, text_of, text_result}
use Rattle.rs_csv_answers.proofs.Turns.{is_ok_result}
use Rattle.rs_machine.specs.Served.{Machine}
use Rattle.rs_protocol.specs.Puts.{Puts}
use Rattle.rs_protocol.specs.declared.stream.Fault.{Fault}
use Rattle.rs_refusal.specs.declared.refusal.Refusal.{Refusal}

-- what is said of it is said of its bytes
pub said_text : {T : Type 0} (items : T → List ℕ) (answer : Result T Refusal) (result : Result Bool Fault) → IfOk result (λ done. done ≡ is_ok answer)
    → MatchResult result (λ done. done ≡ is_ok (text_result items answer)) (λ _. Unit {0})
said_text {T} items answer (Ok done) said = said ∙ sym (is_ok_result items answer)
said_text {T} items answer (Err fault) said = tt

pub puts_one : {T : Type 0} (Is : List ℕ → Machine → Text → Machine → Type 0) (items : T → List ℕ) (answer : Result T Refusal) (line : List ℕ) (old : Machine) (result : Result Bool Fault) (new : Machine)
    (a b : Option (List ℕ)) → Is line old (text_result items answer) new → IfOk result (λ done. done ≡ is_ok answer) → Puts result (text_of (text_result items answer)) a b
    → PutsOne Is line old result new a b
puts_one {T} Is items answer line old result new a b is said put = record { answer = text_result items answer; is = is; said = said_text items answer result said; put = put }
