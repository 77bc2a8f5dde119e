use Rattle.std.proofs.Common.{refl, sym, subst, arith}
use Rattle.std.proofs.lemmas.Result.{err_from_is_err_and}
use Rattle.rs_grammar.specs.declared.kind.TokenKind.TheVariants as kinds
use Rattle.rs_syntax.proofs.ToldLaws.{AreToldOf-append}
use Rattle.rs_syntax.specs.Written.{list_lexemes, name_lexemes, condition_lexemes, written_where, written_dissolve, written_rename, written_pair, written_window, written_transform, written_gaps, SaysCondition, SaysQuery, AreToldOf}
use Rattle.rs_syntax.specs.WrittenView.{condition_syntax, query_syntax}
use Rattle.rs_meaning.proofs.OperandLaws.{operand-told, others-told, operand-length, others-length, gaps-told, gaps-length, where-whole, dissolve-whole, rename-whole, window-whole, transform-whole, gaps-whole, pair-whole, where-is, dissolve-is, rename-is, window-is, transform-is, gaps-is, pair-is, query-none}
use Rattle.rs_meaning.proofs.said_queries.+saying.Goals as goal

pub query_said-operand_query_said-requires : goal.query_said-operand_query_said-requires
query_said-operand_query_said-requires t c =
    let whole = where-whole c.args.written.now c.in-Where.operand c.deref.result.now c.deref.ensures c.in-Where.wanted c.in-Where.is in
    (omega (arith, operand-length whole), operand-told c.args.line.now whole c.requires.1.1)

pub query_said-condition_said-requires : goal.query_said-condition_said-requires
query_said-condition_said-requires t c =
    let whole = where-whole c.args.written.now c.in-Where.operand c.in-Where.operand.value refl c.in-Where.wanted c.in-Where.is in
    subst (λ items. AreToldOf c.args.line.now (condition_lexemes (condition_syntax items))) (sym c.deref-in-Where.ensures.value) (others-told c.args.line.now whole c.requires.1.1)

pub query_said-operand_query_said-requires-in-Dissolve : goal.query_said-operand_query_said-requires-in-Dissolve
query_said-operand_query_said-requires-in-Dissolve t c =
    let whole = dissolve-whole c.args.written.now c.in-Dissolve.operand c.deref-in-Dissolve.result.now c.deref-in-Dissolve.ensures c.in-Dissolve.columns c.in-Dissolve.is in
    (omega (arith, operand-length whole), operand-told c.args.line.now whole c.requires.1.1)

pub query_said-names_said-requires : goal.query_said-names_said-requires
query_said-names_said-requires t c =
    let whole = dissolve-whole c.args.written.now c.in-Dissolve.operand c.in-Dissolve.operand.value refl c.in-Dissolve.columns c.in-Dissolve.is in
    subst (λ items. AreToldOf c.args.line.now (list_lexemes kinds.Comma name_lexemes items)) (sym c.deref-in-Dissolve-2.ensures.value)
    (AreToldOf-append c.args.line.now (list_lexemes kinds.Comma name_lexemes c.in-Dissolve.columns.items) _ (others-told c.args.line.now whole c.requires.1.1).1).0

pub query_said-operand_query_said-requires-in-Rename : goal.query_said-operand_query_said-requires-in-Rename
query_said-operand_query_said-requires-in-Rename t c =
    let whole = rename-whole c.args.written.now c.in-Rename.operand c.deref-in-Rename.result.now c.deref-in-Rename.ensures c.in-Rename.from c.in-Rename.to c.in-Rename.is in
    (omega (arith, operand-length whole), operand-told c.args.line.now whole c.requires.1.1)

pub query_said-name-requires-in-Rename-clause-inside : goal.query_said-name-requires-in-Rename-clause-inside
query_said-name-requires-in-Rename-clause-inside t c =
    let whole = rename-whole c.args.written.now c.in-Rename.operand c.in-Rename.operand.value refl c.in-Rename.from c.in-Rename.to c.in-Rename.is in
    (others-told c.args.line.now whole c.requires.1.1).0.0

pub query_said-name-requires-in-Rename-clause-kind : goal.query_said-name-requires-in-Rename-clause-kind
query_said-name-requires-in-Rename-clause-kind t c =
    let whole = rename-whole c.args.written.now c.in-Rename.operand c.in-Rename.operand.value refl c.in-Rename.from c.in-Rename.to c.in-Rename.is in
    (others-told c.args.line.now whole c.requires.1.1).0.1

pub query_said-name-requires-in-Rename-2-clause-inside : goal.query_said-name-requires-in-Rename-2-clause-inside
query_said-name-requires-in-Rename-2-clause-inside t c =
    let whole = rename-whole c.args.written.now c.in-Rename.operand c.in-Rename.operand.value refl c.in-Rename.from c.in-Rename.to c.in-Rename.is in
    (others-told c.args.line.now whole c.requires.1.1).1.1.0.0

pub query_said-name-requires-in-Rename-2-clause-kind : goal.query_said-name-requires-in-Rename-2-clause-kind
query_said-name-requires-in-Rename-2-clause-kind t c =
    let whole = rename-whole c.args.written.now c.in-Rename.operand c.in-Rename.operand.value refl c.in-Rename.from c.in-Rename.to c.in-Rename.is in
    (others-told c.args.line.now whole c.requires.1.1).1.1.0.1

pub query_said-operand_query_said-requires-in-Pair : goal.query_said-operand_query_said-requires-in-Pair
query_said-operand_query_said-requires-in-Pair t c =
    let whole = pair-whole c.args.written.now c.in-Pair.first c.deref-in-Pair.result.now c.deref-in-Pair.ensures c.in-Pair.operator c.in-Pair.second c.in-Pair.second.value c.in-Pair.is refl in
    (omega (arith, operand-length whole), operand-told c.args.line.now whole c.requires.1.1)

pub query_said-operand_query_said-requires-in-Pair-2 : goal.query_said-operand_query_said-requires-in-Pair-2
query_said-operand_query_said-requires-in-Pair-2 t c =
    let whole = pair-whole c.args.written.now c.in-Pair.first c.in-Pair.first.value refl c.in-Pair.operator c.in-Pair.second c.deref-in-Pair-2.result.now c.in-Pair.is c.deref-in-Pair-2.ensures in
    (omega (arith, others-length whole), others-told c.args.line.now whole c.requires.1.1)

pub query_said-operand_query_said-requires-in-Window : goal.query_said-operand_query_said-requires-in-Window
query_said-operand_query_said-requires-in-Window t c =
    let whole = window-whole c.args.written.now c.in-Window.operand c.deref-in-Window.result.now c.deref-in-Window.ensures c.in-Window.place c.in-Window.is in
    (omega (arith, operand-length whole), operand-told c.args.line.now whole c.requires.1.1)

pub query_said-window_said-requires : goal.query_said-window_said-requires
query_said-window_said-requires t c =
    let whole = window-whole c.args.written.now c.in-Window.operand c.in-Window.operand.value refl c.in-Window.place c.in-Window.is in
    others-told c.args.line.now whole c.requires.1.1

pub query_said-operand_query_said-requires-in-Transform : goal.query_said-operand_query_said-requires-in-Transform
query_said-operand_query_said-requires-in-Transform t c =
    let whole = transform-whole c.args.written.now c.in-Transform.operand c.deref-in-Transform.result.now c.deref-in-Transform.ensures c.in-Transform.alignment c.in-Transform.is in
    (omega (arith, operand-length whole), operand-told c.args.line.now whole c.requires.1.1)

pub query_said-name-requires-in-Transform-clause-inside : goal.query_said-name-requires-in-Transform-clause-inside
query_said-name-requires-in-Transform-clause-inside t c =
    let whole = transform-whole c.args.written.now c.in-Transform.operand c.in-Transform.operand.value refl c.in-Transform.alignment c.in-Transform.is in
    (others-told c.args.line.now whole c.requires.1.1).0.0

pub query_said-name-requires-in-Transform-clause-kind : goal.query_said-name-requires-in-Transform-clause-kind
query_said-name-requires-in-Transform-clause-kind t c =
    let whole = transform-whole c.args.written.now c.in-Transform.operand c.in-Transform.operand.value refl c.in-Transform.alignment c.in-Transform.is in
    (others-told c.args.line.now whole c.requires.1.1).0.1

pub query_said-operand_query_said-requires-in-Gaps : goal.query_said-operand_query_said-requires-in-Gaps
query_said-operand_query_said-requires-in-Gaps t c =
    let whole = gaps-whole c.args.written.now c.in-Gaps.operand c.deref-in-Gaps.result.now c.deref-in-Gaps.ensures c.in-Gaps.is in
    (omega (arith, gaps-length whole), gaps-told c.args.line.now whole c.requires.1.1)

pub query_said-returns-in_err-query-in-Where-clause-err : goal.query_said-returns-in_err-query-in-Where-clause-err
query_said-returns-in_err-query-in-Where-clause-err t c =
    let p = err_from_is_err_and c.from_residual.result c.from_residual.ensures.1 in
    rw (p.1, p.2) (query-none (SaysQuery c.args.line.now (query_syntax c.deref.result.now)) c.args.line.now c.args.written.now (written_where (query_syntax c.deref.result.now) (condition_syntax c.in-Where.wanted.items)) _ (where-is c.args.written.now c.in-Where.operand c.deref.result.now c.deref.ensures c.in-Where.wanted c.in-Where.wanted.items c.in-Where.is refl) (λ tree says. (says.0, says.2)) c.in_err-query-in-Where.ensures.err)

pub query_said-returns-in_err-condition-in-Where-clause-err : goal.query_said-returns-in_err-condition-in-Where-clause-err
query_said-returns-in_err-condition-in-Where-clause-err t c =
    let p = err_from_is_err_and c.from_residual-in_err-condition-in-Where.result c.from_residual-in_err-condition-in-Where.ensures.1 in
    rw (p.1, p.2) (query-none (SaysCondition c.args.line.now (condition_syntax c.deref-in-Where.result.now)) c.args.line.now c.args.written.now (written_where (query_syntax c.in-Where.operand.value) (condition_syntax c.deref-in-Where.result.now)) _ (where-is c.args.written.now c.in-Where.operand c.in-Where.operand.value refl c.in-Where.wanted c.deref-in-Where.result.now c.in-Where.is c.deref-in-Where.ensures.value) (λ tree says. (says.1, says.3)) c.in_err-condition-in-Where.ensures.err)

pub query_said-returns-in_err-query-in-Dissolve-clause-err : goal.query_said-returns-in_err-query-in-Dissolve-clause-err
query_said-returns-in_err-query-in-Dissolve-clause-err t c =
    let p = err_from_is_err_and c.from_residual-in_err-query-in-Dissolve.result c.from_residual-in_err-query-in-Dissolve.ensures.1 in
    rw (p.1, p.2) (query-none (SaysQuery c.args.line.now (query_syntax c.deref-in-Dissolve.result.now)) c.args.line.now c.args.written.now (written_dissolve (query_syntax c.deref-in-Dissolve.result.now) c.in-Dissolve.columns.items) _ (dissolve-is c.args.written.now c.in-Dissolve.operand c.deref-in-Dissolve.result.now c.deref-in-Dissolve.ensures c.in-Dissolve.columns c.in-Dissolve.is) (λ tree says. (says.0, says.1)) c.in_err-query-in-Dissolve.ensures.err)

pub query_said-returns-in_err-query-in-Rename-clause-err : goal.query_said-returns-in_err-query-in-Rename-clause-err
query_said-returns-in_err-query-in-Rename-clause-err t c =
    let p = err_from_is_err_and c.from_residual-in_err-query-in-Rename.result c.from_residual-in_err-query-in-Rename.ensures.1 in
    rw (p.1, p.2) (query-none (SaysQuery c.args.line.now (query_syntax c.deref-in-Rename.result.now)) c.args.line.now c.args.written.now (written_rename (query_syntax c.deref-in-Rename.result.now) c.in-Rename.from c.in-Rename.to) _ (rename-is c.args.written.now c.in-Rename.operand c.deref-in-Rename.result.now c.deref-in-Rename.ensures c.in-Rename.from c.in-Rename.to c.in-Rename.is) (λ tree says. (says.0, says.1)) c.in_err-query-in-Rename.ensures.err)

pub query_said-returns-in_err-left-in-Pair-clause-err : goal.query_said-returns-in_err-left-in-Pair-clause-err
query_said-returns-in_err-left-in-Pair-clause-err t c =
    let p = err_from_is_err_and c.from_residual-in_err-left-in-Pair.result c.from_residual-in_err-left-in-Pair.ensures.1 in
    rw (p.1, p.2) (query-none (SaysQuery c.args.line.now (query_syntax c.deref-in-Pair.result.now)) c.args.line.now c.args.written.now (written_pair c.in-Pair.operator (query_syntax c.deref-in-Pair.result.now) (query_syntax c.in-Pair.second.value)) _ (pair-is c.args.written.now c.in-Pair.first c.deref-in-Pair.result.now c.deref-in-Pair.ensures c.in-Pair.operator c.in-Pair.second c.in-Pair.second.value c.in-Pair.is refl) (λ tree says. (says.0, says.2)) c.in_err-left-in-Pair.ensures.err)

pub query_said-returns-in_err-right-in-Pair-clause-err : goal.query_said-returns-in_err-right-in-Pair-clause-err
query_said-returns-in_err-right-in-Pair-clause-err t c =
    let p = err_from_is_err_and c.from_residual-in_err-right-in-Pair.result c.from_residual-in_err-right-in-Pair.ensures.1 in
    rw (p.1, p.2) (query-none (SaysQuery c.args.line.now (query_syntax c.deref-in-Pair-2.result.now)) c.args.line.now c.args.written.now (written_pair c.in-Pair.operator (query_syntax c.in-Pair.first.value) (query_syntax c.deref-in-Pair-2.result.now)) _ (pair-is c.args.written.now c.in-Pair.first c.in-Pair.first.value refl c.in-Pair.operator c.in-Pair.second c.deref-in-Pair-2.result.now c.in-Pair.is c.deref-in-Pair-2.ensures) (λ tree says. (says.1, says.3)) c.in_err-right-in-Pair.ensures.err)

pub query_said-returns-in_err-query-in-Window-clause-err : goal.query_said-returns-in_err-query-in-Window-clause-err
query_said-returns-in_err-query-in-Window-clause-err t c =
    let p = err_from_is_err_and c.from_residual-in_err-query-in-Window.result c.from_residual-in_err-query-in-Window.ensures.1 in
    rw (p.1, p.2) (query-none (SaysQuery c.args.line.now (query_syntax c.deref-in-Window.result.now)) c.args.line.now c.args.written.now (written_window (query_syntax c.deref-in-Window.result.now) c.in-Window.place) _ (window-is c.args.written.now c.in-Window.operand c.deref-in-Window.result.now c.deref-in-Window.ensures c.in-Window.place c.in-Window.is) (λ tree says. (says.0, says.2)) c.in_err-query-in-Window.ensures.err)

pub query_said-returns-in_err-query-in-Transform-clause-err : goal.query_said-returns-in_err-query-in-Transform-clause-err
query_said-returns-in_err-query-in-Transform-clause-err t c =
    let p = err_from_is_err_and c.from_residual-in_err-query-in-Transform.result c.from_residual-in_err-query-in-Transform.ensures.1 in
    rw (p.1, p.2) (query-none (SaysQuery c.args.line.now (query_syntax c.deref-in-Transform.result.now)) c.args.line.now c.args.written.now (written_transform (query_syntax c.deref-in-Transform.result.now) c.in-Transform.alignment) _ (transform-is c.args.written.now c.in-Transform.operand c.deref-in-Transform.result.now c.deref-in-Transform.ensures c.in-Transform.alignment c.in-Transform.is) (λ tree says. (says.0, says.1)) c.in_err-query-in-Transform.ensures.err)

pub query_said-returns-in_err-query-in-Gaps-clause-err : goal.query_said-returns-in_err-query-in-Gaps-clause-err
query_said-returns-in_err-query-in-Gaps-clause-err t c =
    let p = err_from_is_err_and c.from_residual-in_err-query-in-Gaps.result c.from_residual-in_err-query-in-Gaps.ensures.1 in
    rw (p.1, p.2) (query-none (SaysQuery c.args.line.now (query_syntax c.deref-in-Gaps.result.now)) c.args.line.now c.args.written.now (written_gaps (query_syntax c.deref-in-Gaps.result.now)) _ (gaps-is c.args.written.now c.in-Gaps.operand c.deref-in-Gaps.result.now c.deref-in-Gaps.ensures c.in-Gaps.is) (λ tree says. (says.0, says.1)) c.in_err-query-in-Gaps.ensures.err)
