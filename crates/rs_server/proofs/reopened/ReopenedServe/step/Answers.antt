-- What the engine answers is the machine's, and that is never 94 of a REOPEN.
use Rattle.std.proofs.Common.{◌∙◌, ap}
use Rattle.rs_serve.specs.ReplyView.{rows_of}
use Rattle.rs_server.specs.Damage.{asks_to_reopen, found_after}
use Rattle.rs_server.proofs.Damage.{none_found}
use Rattle.rs_syntax.specs.View.{tree_of}
use Rattle.rs_server.proofs.reopened.ReopenedServe.step.Goals as goal

pub returns-clause-served : goal.returns-clause-served
returns-clause-served g c = λ old is.
    let reply = c.step-reply.result in
    let served = c.step-reply.ensures.served old is.is in
    let none = none_found (tree_of c.args.command) reply.finish (rows_of reply.rows.items) old served.0 c.args.session served.2 in
    let sound = c.is_found-self.ensures
    ∙ ap (λ reopens. found_after reopens reply.finish c.args.self.now.is_damaged) c.is_reopen-reopens.ensures
    ∙ ap (found_after (asks_to_reopen (tree_of c.args.command)) reply.finish) is.sound ∙ none in
    (served.0, record { is = served.1; sound = sound }, served.2)
