use Rattle.std.proofs.Common.{◌+◌, take, sym, ap, ◌∙◌, subst, inl, inr, ⊎_elim}
use Rattle.std.specs.Prelude.{map}
use Rattle.std.proofs.lemmas.List.{map-append}
use Rattle.std.proofs.lemmas.Result.{err_from_is_err_and}
use Rattle.rs_value.specs.View.{literal_datum, literal_row}
use Rattle.rs_grammar.specs.declared.kind.TokenKind.TheVariants as kinds
use Rattle.rs_syntax.specs.declared.written.WrittenValue.TheVariants.{Null}
use Rattle.rs_syntax.specs.Written.{value_lexemes, SaysRow}
use Rattle.rs_meaning.proofs.MeaningLaws.{list_told}
use Rattle.rs_meaning.proofs.CommandLaws.{values_more, no_row}
use Rattle.rs_meaning.proofs.said_events.values_said.Goals as goal

pub literal-requires : goal.literal-requires
literal-requires c = list_told kinds.Comma c.args.line.now value_lexemes c.args.written.now c.requires c.loop-value.value-index Null c.loop-value-test.true

pub returns-in_err-literal-clause-err : goal.returns-in_err-literal-clause-err
returns-in_err-literal-clause-err c =
    let p = err_from_is_err_and c.from_residual.result c.from_residual.ensures.1 in
    rw (p.1, p.2) (⊎_elim
    (λ memory. inl memory)
    (λ r. inr (r.0, no_row c.args.line.now c.args.written.now c.loop-value.value-index Null c.loop-value-test.true r.1))
    c.in_err-literal.ensures.err)

pub loop-value-preserved : goal.loop-value-preserved
loop-value-preserved c =
    let pushed = c.in_ok-push.ensures.items in
    let more = ap (map literal_datum) pushed ∙ map-append literal_datum c.loop-value.values.items _ in
    subst (λ row. SaysRow c.args.line.now (take (c.loop-value.value-index + 1) c.args.written.now) row) (sym more)
    (values_more c.args.line.now c.args.written.now c.loop-value.value-index Null (literal_row c.loop-value.values.items) (literal_datum c.in_ok-literal.literal) c.loop-value-test.true c.loop-value.invariant c.in_ok-literal.ensures.ok)
