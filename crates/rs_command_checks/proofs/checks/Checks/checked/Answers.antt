use Rattle.std.proofs.Common.{⊎_elim, inl, inr}
use Rattle.std.proofs.lemmas.Result.{err_from_is_err_and}
use Rattle.rs_command_checks.specs.States.{rest_by}
use Rattle.rs_command_checks.proofs.checks.Checks.checked.Goals as goal

pub returns-in_err-checked-clause-refused : goal.returns-in_err-checked-clause-refused
returns-in_err-checked-clause-refused c = λ unseen.
    let p = err_from_is_err_and c.from_residual.result c.from_residual.ensures.1 in
    rw (p.1, p.2) (⊎_elim (λ wanting. inl wanting) (λ off. inr (off unseen.spans (rest_by c.args.self.now unseen))) c.in_err-checked.ensures.refused)

pub returns-clause-is : goal.returns-clause-is
returns-clause-is c = λ unseen. c.in_ok-checked.ensures.ok unseen.spans (rest_by c.args.self.now unseen)
