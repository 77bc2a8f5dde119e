use Rattle.std.proofs.Common.{map, false, refl, sym, ◌∙◌, arith}
use Rattle.std.proofs.lemmas.List.{length-map}
use Rattle.rs_syntax.specs.View.{piece_tree}
use Rattle.rs_command_checks.proofs.Outcomes.{alignment_taken, alignment_checked, last_refused, lent_there, lent_is}
use Rattle.rs_command_checks.proofs.checks.Checks.check_new_alignment.Goals as goal

pub returns-then-is_some-clause-refused : goal.returns-then-is_some-clause-refused
returns-then-is_some-clause-refused c = λ unseen.
    alignment_taken c.args.self.now unseen c.args.name.now.bytes (map piece_tree c.args.pieces.now) (lent_there c.alignment.result _ false false c.alignment.ensures (sym c.is_some.ensures ∙ c.if-is_some.true) refl)

pub returns-clause-refused : goal.returns-clause-refused
returns-clause-refused c = λ unseen.
    last_refused c.args.self.now unseen _ _ c.may_change.result (c.may_change.ensures.answer unseen)
    (alignment_checked c.args.self.now unseen c.args.name.now.bytes (map piece_tree c.args.pieces.now) (lent_is c.alignment.result _ false c.alignment.ensures (sym c.is_some.ensures ∙ c.if-is_some.false)) (omega arith)
    (omega (arith, length-map c.args.pieces.now piece_tree)) _ c.in_ok-check_pieces.ensures.ok)
