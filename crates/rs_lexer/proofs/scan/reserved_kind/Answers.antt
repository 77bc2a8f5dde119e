use Rattle.std.proofs.Common.{sym, ap, ◌∙◌}
use Rattle.std.specs.Option.{option_copied}
use Rattle.rs_lexer.proofs.ReservedLaws.{no_word}
use Rattle.rs_lexer.proofs.scan.reserved_kind.Goals as goal

pub returns-in_err-first : goal.returns-in_err-first
returns-in_err-first c = c.from_residual.ensures ∙ no_word c.args.word.now (sym (ap option_copied c.in_err-first.was) ∙ c.first.ensures.value)
