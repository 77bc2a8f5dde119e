use Rattle.std.proofs.Common.{rules, sym, ◌∙◌}
use denote.Enum.Bare.{same_true}
use Rattle.rs_grammar.specs.contracts.kind.TokenKind.{the_type}
use Rattle.rs_descent.proofs.front.is_kind.Goals as goal

pub returns-clause-same : goal.returns-clause-same
returns-clause-same c is = same_true the_type (search rules) _ _ (sym c.eq.ensures ∙ is)
