use Rattle.std.proofs.Common.{[], ◌∷◌, ap, ◌∙◌}
use Rattle.rs_serve.specs.ReplyView.{rows_of}
use Rattle.rs_command_checks.proofs.Translations.{text_there}
use Rattle.rs_command_checks.proofs.checks.Checks.translated.Goals as goal

pub returns : goal.returns
returns c = λ unseen.
    let there = c.requires.there in
    ap rows_of c.in_ok-vec.ensures.items ∙ ap (λ text. text ∷ []) (c.in_ok-text.ensures ∙ text_there c.args.self.now unseen c.args.route.now.bytes c.args.on there c.args.method c.args.measure)
