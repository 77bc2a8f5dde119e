-- By the longest token at the front.
use Rattle.std.proofs.Common.{sym, ◌∙◌}
use Rattle.std.proofs.lemmas.Bool.{eqb-true, eq-eqb, false≢true}
use Rattle.rs_grammar.specs.declared.kind.TokenKind.TheVariants as kinds
use Rattle.rs_lexer.proofs.NameTexts.{front_of_name, is_same, kind_is, name_at_front, no_name}
use Rattle.rs_lexer.proofs.names.are_name_bytes.Goals as goal

pub returns-then-eq : goal.returns-then-eq
returns-then-eq c = (
  λ e. name_at_front c.args.bytes.now c.in-Some.kind c.in-Some.count c.in-Some.ensures (kind_is c.in-Some.kind kinds.Name (sym c.eq.ensures ∙ c.if-eq.true)) (eqb-true _ _ e),
  λ name. eq-eqb _ _ (front_of_name c.args.bytes.now c.in-Some.kind c.in-Some.count c.in-Some.ensures name).1,
)

pub returns-else-eq : goal.returns-else-eq
returns-else-eq c = (
  λ e. absurd (false≢true (sym c.if-eq.false ∙ e)),
  λ name. c.eq.ensures ∙ is_same c.in-Some.kind kinds.Name (front_of_name c.args.bytes.now c.in-Some.kind c.in-Some.count c.in-Some.ensures name).0,
)

pub returns-in-None : goal.returns-in-None
returns-in-None c = (
  λ e. absurd (false≢true e),
  λ name. absurd (no_name c.args.bytes.now c.in-None.ensures name),
)
