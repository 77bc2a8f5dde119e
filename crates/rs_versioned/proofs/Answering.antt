-- Clauses on what a call answers.
use Rattle.std.proofs.Common.{Result, Ok, Err, IfOk}

-- what follows of two clauses
pub if_ok_both : {T E : Type 0} (r : Result T E) (P Q S : T → Type 0) → ((x : T) → P x → Q x → S x) → IfOk r P → IfOk r Q → IfOk r S
if_ok_both (Ok x) P Q S then one other = then x one other
if_ok_both (Err why) P Q S then one other = tt
