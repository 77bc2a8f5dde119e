-- Nothing was lacking, so all that was wanted was written; or something was left out that had to be, or it stopped.
use Rattle.std.proofs.Common.{◌≡◌, Bool, true, false, inl, inr, Result, Ok, subst}
use Rattle.std.specs.Prelude.{IfOk}
use Rattle.rs_server.proofs.Dumps.{left_out, stopped}
use Rattle.rs_server.proofs.dumping.dump_on.Goals as goal

none_lacks : {E : Type 0} (result : Result Bool E) (P : Bool → Type 0) → result ≡ Ok false → IfOk result P → P false
none_lacks {E} result P is said = subst (λ (one : Result Bool E). IfOk one P) is said

pub returns-in-Ok-false-clause-dumps : goal.returns-in-Ok-false-clause-dumps
returns-in-Ok-false-clause-dumps g c = λ honest done.
    let is : c.dump_file.result ≡ Ok false = cc (c.in-Ok-false.is, c.in-Ok-false.field-0-test) in
    none_lacks c.dump_file.result _ is (c.dump_file.ensures.dumps honest)

pub returns-in-Ok-true-clause-fails : goal.returns-in-Ok-true-clause-fails
returns-in-Ok-true-clause-fails g c = λ honest failed.
    let ended = c.dump_file.ensures in
    let is : c.dump_file.result ≡ Ok true = cc (c.in-Ok-true.is, c.in-Ok-true.field-0-test) in
    inl (left_out _ _ _ _ _ c.args.wanted.table c.dump_file.result is (ended.dumps honest) ended.whole_table (ended.nothing_lacks honest))

pub returns-in-Err-Refused-clause-fails : goal.returns-in-Err-Refused-clause-fails
returns-in-Err-Refused-clause-fails g c = λ honest failed. inr (stopped c.dump_file.result _ _ c.in-Err-Refused.is (c.dump_file.ensures.stops honest))

pub returns-in-Err-Stream-clause-fails : goal.returns-in-Err-Stream-clause-fails
returns-in-Err-Stream-clause-fails g c = λ honest failed. inr (stopped c.dump_file.result _ _ c.in-Err-Stream.is (c.dump_file.ensures.stops honest))
