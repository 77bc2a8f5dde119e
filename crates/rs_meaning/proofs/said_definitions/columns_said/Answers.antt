use Rattle.std.proofs.Common.{◌+◌, take, refl, sym, ap, ◌∙◌, subst, inr}
use Rattle.std.specs.Prelude.{map}
use Rattle.std.proofs.lemmas.List.{map-append}
use Rattle.rs_grammar.specs.declared.kind.TokenKind.TheVariants as kinds
use Rattle.rs_syntax.specs.declared.written.WrittenColumn.{WrittenColumn}
use Rattle.rs_syntax.specs.declared.written.WrittenType.TheVariants as types
use Rattle.rs_syntax.specs.View.{column_tree}
use Rattle.rs_syntax.specs.Written.{column_lexemes, SaysColumns}
use Rattle.rs_meaning.proofs.MeaningLaws.{list_told}
use Rattle.rs_meaning.proofs.CommandLaws.{columns_more, no_columns}
use Rattle.rs_meaning.proofs.said_definitions.columns_said.Goals as goal

-- what a list of columns gives past its end
abbrev blank : WrittenColumn
blank = record { name = record { kind = kinds.Absolute; first = 0; length = 0 }; column_type = types.Int }

pub type_said-requires : goal.type_said-requires
type_said-requires c = (list_told kinds.Comma c.args.line.now column_lexemes c.args.written.now c.requires c.loop-column.column-index blank c.loop-column-test.true).1

pub name-requires-clause-inside : goal.name-requires-clause-inside
name-requires-clause-inside c = (list_told kinds.Comma c.args.line.now column_lexemes c.args.written.now c.requires c.loop-column.column-index blank c.loop-column-test.true).0.0

pub name-requires-clause-kind : goal.name-requires-clause-kind
name-requires-clause-kind c = (list_told kinds.Comma c.args.line.now column_lexemes c.args.written.now c.requires c.loop-column.column-index blank c.loop-column-test.true).0.1

pub returns-in_default-clause-err : goal.returns-in_default-clause-err
returns-in_default-clause-err c = inr (refl, no_columns c.args.line.now c.args.written.now c.loop-column.column-index blank c.loop-column-test.true c.in_default.ensures)

pub loop-column-preserved : goal.loop-column-preserved
loop-column-preserved c =
    let pushed = c.in_ok-push.ensures.items in
    let more = ap (map column_tree) pushed ∙ map-append column_tree c.loop-column.columns.items _ in
    subst (λ columns. SaysColumns c.args.line.now (take (c.loop-column.column-index + 1) c.args.written.now) columns) (sym more)
    (columns_more c.args.line.now c.args.written.now c.loop-column.column-index blank (map column_tree c.loop-column.columns.items) (c.name.result.bytes, c.in-Some.column_type) c.loop-column-test.true c.loop-column.invariant c.name.ensures c.in-Some.ensures)
