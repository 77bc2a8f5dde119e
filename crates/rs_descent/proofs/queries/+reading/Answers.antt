use Rattle.std.proofs.Common.{[], ◌∷◌, arith, refl}
use Rattle.rs_grammar.specs.declared.kind.TokenKind.TheVariants as kinds
use Rattle.rs_grammar.specs.Grammar.{Form, rules, query, condition, bracketed_names, window, done, pick, sub, need, where_form, dissolve_form, rename_form, pair_form, window_query_form, transform_form, gaps_form}
use Rattle.rs_syntax.specs.Written.{mark, told, written_where, written_dissolve, written_rename, written_pair, written_window, written_transform, pair_kind, window_lexemes, name_lexemes, bracketed_names_lexemes, condition_lexemes, query_lexemes}
use Rattle.rs_syntax.specs.WrittenView.{condition_syntax, query_syntax}
use Rattle.rs_syntax.proofs.ChainLaws.{where_written, dissolve_written, rename_written, pair_written, window_written, transform_written, gaps_written}
use Rattle.rs_descent.proofs.QuerySteps.{operand-spelled, operator-closed, gaps-closed}
use Rattle.std.proofs.lemmas.Result.{err_from_is_err_and}
use Rattle.rs_descent.specs.Reading.{renaming_form, closing_form, is_done, is_fail, skips, through, stops_in, gives_up}
use Rattle.rs_descent.proofs.Steps.{takes_as, misses, RunsTo-takes, RunsTo-skips, RunsTo-after, shorter-after}
use Rattle.rs_descent.proofs.queries.+reading.Goals as goal

pub boxed_query-returns-in_err-query-clause-runs : goal.boxed_query-returns-in_err-query-clause-runs
boxed_query-returns-in_err-query-clause-runs t c =
    let p = err_from_is_err_and c.from_residual.result c.from_residual.ensures.1 in
    rw (p.1, p.2) (c.in_err-query.ensures.runs)

pub boxed_query-returns-in_err-new-clause-runs : goal.boxed_query-returns-in_err-new-clause-runs
boxed_query-returns-in_err-new-clause-runs t c =
    let p = err_from_is_err_and c.from_residual-in_err-new.result c.from_residual-in_err-new.ensures.1 in
    rw (p.1, p.2) (gives_up)

pub boxed_query-returns-clause-spelled : goal.boxed_query-returns-clause-spelled
boxed_query-returns-clause-spelled t c = rw c.in_ok-new.ensures.ok c.in_ok-query.ensures.spelled

pub operand_query-returns-in_err-rest-clause-begins : goal.operand_query-returns-in_err-rest-clause-begins
operand_query-returns-in_err-rest-clause-begins t c =
    let p = err_from_is_err_and c.from_residual.result c.from_residual.ensures.1 in
    rw (p.1, p.2) (λ form. misses c.in_err-rest.ensures.found)

pub operand_query-returns-in_err-query-clause-begins : goal.operand_query-returns-in_err-query-clause-begins
unfolding rules
operand_query-returns-in_err-query-clause-begins t c =
    let p = err_from_is_err_and c.from_residual-in_err-query.result c.from_residual-in_err-query.ensures.1 in
    rw (p.1, p.2) (λ form. takes_as c.in_ok-rest.ensures.found (stops_in c.in_err-query.ensures.runs))

pub operand_query-returns-in-Some-clause-begins : goal.operand_query-returns-in-Some-clause-begins
unfolding rules
operand_query-returns-in-Some-clause-begins t c = λ form outcome further. takes_as c.in_ok-rest.ensures.found (through c.in_ok-query.ensures.runs (takes_as c.in-Some.ensures.found further))

pub operand_query-returns-in-Some-clause-spelled : goal.operand_query-returns-in-Some-clause-spelled
operand_query-returns-in-Some-clause-spelled t c = operand-spelled c.args.tokens.now c.in_ok-rest.rest.now c.in_ok-query.rest.now c.in-Some.behind.now c.in_ok-query.query.value c.in_ok-rest.ensures.spelled c.in_ok-query.ensures.spelled c.in-Some.ensures.spelled

pub operand_query-returns-in-None-clause-begins : goal.operand_query-returns-in-None-clause-begins
unfolding rules
operand_query-returns-in-None-clause-begins t c = λ form. takes_as c.in_ok-rest.ensures.found (through c.in_ok-query.ensures.runs (skips c.in-None.ensures.found is_fail))

pub where_query-returns-in_err-query-clause-runs : goal.where_query-returns-in_err-query-clause-runs
where_query-returns-in_err-query-clause-runs t c =
    let p = err_from_is_err_and c.from_residual.result c.from_residual.ensures.1 in
    rw (p.1, p.2) (c.in_err-query.ensures.begins (sub condition closing_form))

pub where_query-returns-in_err-condition-clause-runs : goal.where_query-returns-in_err-condition-clause-runs
unfolding rules
where_query-returns-in_err-condition-clause-runs t c =
    let p = err_from_is_err_and c.from_residual-in_err-condition.result c.from_residual-in_err-condition.ensures.1 in
    rw (p.1, p.2) (c.in_ok-query.ensures.begins (sub condition closing_form) _ (stops_in c.in_err-condition.ensures.runs))

pub where_query-returns-clause-runs : goal.where_query-returns-clause-runs
unfolding rules
where_query-returns-clause-runs t c =
    RunsTo-after closing_form where_form c.args.tokens.now c.in_ok-condition.rest.now c.closed.result
    (λ outcome run. c.in_ok-query.ensures.begins (sub condition closing_form) outcome (through c.in_ok-condition.ensures.runs run)) c.closed.ensures.runs

pub where_query-returns-clause-spelled : goal.where_query-returns-clause-spelled
where_query-returns-clause-spelled t c =
    operator-closed kinds.Where c.args.tokens.now c.in_ok-query.rest.now c.in_ok-condition.rest.now (query_lexemes (query_syntax c.in_ok-query.query.value)) (condition_lexemes (condition_syntax c.in_ok-condition.condition.items)) _
    (written_where (query_syntax c.in_ok-query.query.value) (condition_syntax c.in_ok-condition.condition.items)) c.closed.result c.in_ok-query.ensures.spelled c.in_ok-condition.ensures.spelled
    (where_written c.in_ok-query.query c.in_ok-condition.condition) refl c.closed.ensures.same c.closed.ensures.spelled

pub where_query-returns-clause-shorter : goal.where_query-returns-clause-shorter
where_query-returns-clause-shorter t c =
    shorter-after c.args.tokens.now c.in_ok-condition.rest.now c.closed.result
    (omega (arith, c.in_ok-query.ensures.shorter, c.in_ok-condition.ensures.shorter)) c.closed.ensures.shorter

pub dissolve_query-returns-in_err-query-clause-runs : goal.dissolve_query-returns-in_err-query-clause-runs
dissolve_query-returns-in_err-query-clause-runs t c =
    let p = err_from_is_err_and c.from_residual.result c.from_residual.ensures.1 in
    rw (p.1, p.2) (c.in_err-query.ensures.begins (sub bracketed_names closing_form))

pub dissolve_query-returns-in_err-names-clause-runs : goal.dissolve_query-returns-in_err-names-clause-runs
unfolding rules
dissolve_query-returns-in_err-names-clause-runs t c =
    let p = err_from_is_err_and c.from_residual-in_err-names.result c.from_residual-in_err-names.ensures.1 in
    rw (p.1, p.2) (c.in_ok-query.ensures.begins (sub bracketed_names closing_form) _ (stops_in c.in_err-names.ensures.runs))

pub dissolve_query-returns-clause-runs : goal.dissolve_query-returns-clause-runs
unfolding rules
dissolve_query-returns-clause-runs t c =
    RunsTo-after closing_form dissolve_form c.args.tokens.now c.in_ok-names.rest.now c.closed.result
    (λ outcome run. c.in_ok-query.ensures.begins (sub bracketed_names closing_form) outcome (through c.in_ok-names.ensures.runs run)) c.closed.ensures.runs

pub dissolve_query-returns-clause-spelled : goal.dissolve_query-returns-clause-spelled
dissolve_query-returns-clause-spelled t c =
    operator-closed kinds.Dissolve c.args.tokens.now c.in_ok-query.rest.now c.in_ok-names.rest.now (query_lexemes (query_syntax c.in_ok-query.query.value)) (bracketed_names_lexemes c.in_ok-names.names.items) _
    (written_dissolve (query_syntax c.in_ok-query.query.value) c.in_ok-names.names.items) c.closed.result c.in_ok-query.ensures.spelled c.in_ok-names.ensures.spelled
    (dissolve_written c.in_ok-query.query c.in_ok-names.names) refl c.closed.ensures.same c.closed.ensures.spelled

pub dissolve_query-returns-clause-shorter : goal.dissolve_query-returns-clause-shorter
dissolve_query-returns-clause-shorter t c =
    shorter-after c.args.tokens.now c.in_ok-names.rest.now c.closed.result
    (omega (arith, c.in_ok-query.ensures.shorter, c.in_ok-names.ensures.shorter)) c.closed.ensures.shorter

pub rename_query-returns-in_err-query-clause-runs : goal.rename_query-returns-in_err-query-clause-runs
rename_query-returns-in_err-query-clause-runs t c =
    let p = err_from_is_err_and c.from_residual.result c.from_residual.ensures.1 in
    rw (p.1, p.2) (c.in_err-query.ensures.begins (renaming_form closing_form))

pub rename_query-returns-in_err-from-clause-runs : goal.rename_query-returns-in_err-from-clause-runs
rename_query-returns-in_err-from-clause-runs t c =
    let p = err_from_is_err_and c.from_residual-in_err-from.result c.from_residual-in_err-from.ensures.1 in
    rw (p.1, p.2) (c.in_ok-query.ensures.begins (renaming_form closing_form) _ (c.in_err-from.ensures.begins closing_form))

pub rename_query-returns-clause-runs : goal.rename_query-returns-clause-runs
unfolding rules
rename_query-returns-clause-runs t c =
    RunsTo-after closing_form rename_form c.args.tokens.now c.in_ok-from.rest.now c.closed.result
    (λ outcome run. c.in_ok-query.ensures.begins (renaming_form closing_form) outcome (c.in_ok-from.ensures.begins closing_form outcome run)) c.closed.ensures.runs

pub rename_query-returns-clause-spelled : goal.rename_query-returns-clause-spelled
rename_query-returns-clause-spelled t c =
    operator-closed kinds.Rename c.args.tokens.now c.in_ok-query.rest.now c.in_ok-from.rest.now (query_lexemes (query_syntax c.in_ok-query.query.value)) (told kinds.Name c.in_ok-from.from ∷ mark kinds.To ∷ told kinds.Name c.in_ok-from.to ∷ []) _
    (written_rename (query_syntax c.in_ok-query.query.value) c.in_ok-from.from c.in_ok-from.to) c.closed.result c.in_ok-query.ensures.spelled c.in_ok-from.ensures.spelled
    (rename_written c.in_ok-query.query c.in_ok-from.from c.in_ok-from.to) refl c.closed.ensures.same c.closed.ensures.spelled

pub rename_query-returns-clause-shorter : goal.rename_query-returns-clause-shorter
rename_query-returns-clause-shorter t c =
    shorter-after c.args.tokens.now c.in_ok-from.rest.now c.closed.result
    (omega (arith, c.in_ok-query.ensures.shorter, c.in_ok-from.ensures.shorter)) c.closed.ensures.shorter

pub pair_query-returns-in_err-left-clause-runs : goal.pair_query-returns-in_err-left-clause-runs
pair_query-returns-in_err-left-clause-runs t c =
    let p = err_from_is_err_and c.from_residual.result c.from_residual.ensures.1 in
    rw (p.1, p.2) (c.in_err-left.ensures.begins (sub query closing_form))

pub pair_query-returns-in_err-right-clause-runs : goal.pair_query-returns-in_err-right-clause-runs
unfolding rules
pair_query-returns-in_err-right-clause-runs t c =
    let p = err_from_is_err_and c.from_residual-in_err-right.result c.from_residual-in_err-right.ensures.1 in
    rw (p.1, p.2) (c.in_ok-left.ensures.begins (sub query closing_form) _ (stops_in c.in_err-right.ensures.runs))

pub pair_query-returns-clause-runs : goal.pair_query-returns-clause-runs
unfolding rules
pair_query-returns-clause-runs t c =
    RunsTo-after closing_form pair_form c.args.tokens.now c.in_ok-right.rest.now c.closed.result
    (λ outcome run. c.in_ok-left.ensures.begins (sub query closing_form) outcome (through c.in_ok-right.ensures.runs run)) c.closed.ensures.runs

pub pair_query-returns-clause-spelled : goal.pair_query-returns-clause-spelled
pair_query-returns-clause-spelled t c =
    operator-closed (pair_kind c.args.operator) c.args.tokens.now c.in_ok-left.rest.now c.in_ok-right.rest.now (query_lexemes (query_syntax c.in_ok-left.left.value)) (query_lexemes (query_syntax c.in_ok-right.right.value)) _
    (written_pair c.args.operator (query_syntax c.in_ok-left.left.value) (query_syntax c.in_ok-right.right.value)) c.closed.result c.in_ok-left.ensures.spelled c.in_ok-right.ensures.spelled
    (pair_written c.args.operator c.in_ok-left.left c.in_ok-right.right) refl c.closed.ensures.same c.closed.ensures.spelled

pub pair_query-returns-clause-shorter : goal.pair_query-returns-clause-shorter
pair_query-returns-clause-shorter t c =
    shorter-after c.args.tokens.now c.in_ok-right.rest.now c.closed.result
    (omega (arith, c.in_ok-left.ensures.shorter, c.in_ok-right.ensures.shorter)) c.closed.ensures.shorter

pub window_query-returns-in_err-query-clause-runs : goal.window_query-returns-in_err-query-clause-runs
window_query-returns-in_err-query-clause-runs t c =
    let p = err_from_is_err_and c.from_residual.result c.from_residual.ensures.1 in
    rw (p.1, p.2) (c.in_err-query.ensures.begins (sub window closing_form))

pub window_query-returns-in_err-window-clause-runs : goal.window_query-returns-in_err-window-clause-runs
unfolding rules
window_query-returns-in_err-window-clause-runs t c =
    let p = err_from_is_err_and c.from_residual-in_err-window.result c.from_residual-in_err-window.ensures.1 in
    rw (p.1, p.2) (c.in_ok-query.ensures.begins (sub window closing_form) _ (stops_in c.in_err-window.ensures.runs))

pub window_query-returns-clause-runs : goal.window_query-returns-clause-runs
unfolding rules
window_query-returns-clause-runs t c =
    RunsTo-after closing_form window_query_form c.args.tokens.now c.in_ok-window.rest.now c.closed.result
    (λ outcome run. c.in_ok-query.ensures.begins (sub window closing_form) outcome (through c.in_ok-window.ensures.runs run)) c.closed.ensures.runs

pub window_query-returns-clause-spelled : goal.window_query-returns-clause-spelled
window_query-returns-clause-spelled t c =
    operator-closed kinds.Window c.args.tokens.now c.in_ok-query.rest.now c.in_ok-window.rest.now (query_lexemes (query_syntax c.in_ok-query.query.value)) (window_lexemes c.in_ok-window.window) _
    (written_window (query_syntax c.in_ok-query.query.value) c.in_ok-window.window) c.closed.result c.in_ok-query.ensures.spelled c.in_ok-window.ensures.spelled
    (window_written c.in_ok-query.query c.in_ok-window.window) refl c.closed.ensures.same c.closed.ensures.spelled

pub window_query-returns-clause-shorter : goal.window_query-returns-clause-shorter
window_query-returns-clause-shorter t c =
    shorter-after c.args.tokens.now c.in_ok-window.rest.now c.closed.result
    (omega (arith, c.in_ok-query.ensures.shorter, c.in_ok-window.ensures.shorter)) c.closed.ensures.shorter

pub transform_query-returns-in_err-query-clause-runs : goal.transform_query-returns-in_err-query-clause-runs
transform_query-returns-in_err-query-clause-runs t c =
    let p = err_from_is_err_and c.from_residual.result c.from_residual.ensures.1 in
    rw (p.1, p.2) (c.in_err-query.ensures.begins (need kinds.Name closing_form))

pub transform_query-returns-in-Some-clause-runs : goal.transform_query-returns-in-Some-clause-runs
transform_query-returns-in-Some-clause-runs t c =
    RunsTo-after closing_form transform_form c.args.tokens.now c.in-Some.behind.now c.closed.result
    (λ outcome run. c.in_ok-query.ensures.begins (need kinds.Name closing_form) outcome (takes_as c.in-Some.ensures.found run)) c.closed.ensures.runs

pub transform_query-returns-in-Some-clause-spelled : goal.transform_query-returns-in-Some-clause-spelled
transform_query-returns-in-Some-clause-spelled t c =
    operator-closed kinds.Transform c.args.tokens.now c.in_ok-query.rest.now c.in-Some.behind.now (query_lexemes (query_syntax c.in_ok-query.query.value)) (name_lexemes c.in-Some.alignment) _
    (written_transform (query_syntax c.in_ok-query.query.value) c.in-Some.alignment) c.closed.result c.in_ok-query.ensures.spelled c.in-Some.ensures.spelled
    (transform_written c.in_ok-query.query c.in-Some.alignment) refl c.closed.ensures.same c.closed.ensures.spelled

pub transform_query-returns-in-Some-clause-shorter : goal.transform_query-returns-in-Some-clause-shorter
transform_query-returns-in-Some-clause-shorter t c =
    shorter-after c.args.tokens.now c.in-Some.behind.now c.closed.result
    (omega (arith, c.in_ok-query.ensures.shorter, c.in-Some.ensures.shorter)) c.closed.ensures.shorter

pub transform_query-returns-in-None-clause-runs : goal.transform_query-returns-in-None-clause-runs
transform_query-returns-in-None-clause-runs t c = c.in_ok-query.ensures.begins (need kinds.Name closing_form) _ (skips c.in-None.ensures.found is_fail)

pub gaps_query-returns-in_err-rest-clause-runs : goal.gaps_query-returns-in_err-rest-clause-runs
gaps_query-returns-in_err-rest-clause-runs t c =
    let p = err_from_is_err_and c.from_residual.result c.from_residual.ensures.1 in
    rw (p.1, p.2) (misses c.in_err-rest.ensures.found)

pub gaps_query-returns-in_err-query-clause-runs : goal.gaps_query-returns-in_err-query-clause-runs
unfolding rules
gaps_query-returns-in_err-query-clause-runs t c =
    let p = err_from_is_err_and c.from_residual-in_err-query.result c.from_residual-in_err-query.ensures.1 in
    rw (p.1, p.2) (takes_as c.in_ok-rest.ensures.found (stops_in c.in_err-query.ensures.runs))

pub gaps_query-returns-clause-runs : goal.gaps_query-returns-clause-runs
unfolding rules
gaps_query-returns-clause-runs t c =
    RunsTo-after closing_form gaps_form c.args.tokens.now c.in_ok-query.rest.now c.closed.result
    (λ outcome run. takes_as c.in_ok-rest.ensures.found (through c.in_ok-query.ensures.runs run)) c.closed.ensures.runs

pub gaps_query-returns-clause-spelled : goal.gaps_query-returns-clause-spelled
gaps_query-returns-clause-spelled t c =
    gaps-closed c.args.tokens.now c.in_ok-rest.rest.now c.in_ok-query.rest.now (query_syntax c.in_ok-query.query.value) _ c.closed.result
    c.in_ok-rest.ensures.spelled c.in_ok-query.ensures.spelled (gaps_written c.in_ok-query.query) c.closed.ensures.same c.closed.ensures.spelled

pub gaps_query-returns-clause-shorter : goal.gaps_query-returns-clause-shorter
gaps_query-returns-clause-shorter t c =
    shorter-after c.args.tokens.now c.in_ok-query.rest.now c.closed.result
    (omega (arith, c.in_ok-rest.ensures.shorter, c.in_ok-query.ensures.shorter)) c.closed.ensures.shorter

-- What a query may be where its word is none of those so far, from the last on.
abbrev after_transform : Form
after_transform = pick kinds.Gaps gaps_form (need kinds.Name done)

abbrev after_window : Form
after_window = pick kinds.Transform transform_form after_transform

abbrev after_minus : Form
after_minus = pick kinds.Window window_query_form after_window

abbrev after_merge : Form
after_merge = pick kinds.Minus pair_form after_minus

abbrev after_cover : Form
after_cover = pick kinds.Merge pair_form after_merge

abbrev after_overlay : Form
after_overlay = pick kinds.Cover pair_form after_cover

abbrev after_rename : Form
after_rename = pick kinds.Overlay pair_form after_overlay

abbrev after_dissolve : Form
after_dissolve = pick kinds.Rename rename_form after_rename

abbrev after_where : Form
after_where = pick kinds.Dissolve dissolve_form after_dissolve

pub query-returns-in-Some-clause-runs : goal.query-returns-in-Some-clause-runs
query-returns-in-Some-clause-runs t c = RunsTo-takes kinds.Where where_form after_where c.args.tokens.now c.in-Some.rest.now c.where_query.result c.in-Some.ensures.found c.where_query.ensures.runs

pub query-returns-in-Some-mark-clause-runs : goal.query-returns-in-Some-mark-clause-runs
query-returns-in-Some-mark-clause-runs t c =
    RunsTo-skips kinds.Where where_form after_where c.args.tokens.now c.dissolve_query.result c.in_default.ensures.found
    (RunsTo-takes kinds.Dissolve dissolve_form after_dissolve c.args.tokens.now c.in-Some-mark.rest.now c.dissolve_query.result c.in-Some-mark.ensures.found c.dissolve_query.ensures.runs)

pub query-returns-in-Some-mark-2-clause-runs : goal.query-returns-in-Some-mark-2-clause-runs
query-returns-in-Some-mark-2-clause-runs t c =
    RunsTo-skips kinds.Where where_form after_where c.args.tokens.now c.rename_query.result c.in_default.ensures.found
    (RunsTo-skips kinds.Dissolve dissolve_form after_dissolve c.args.tokens.now c.rename_query.result c.in_default-mark.ensures.found
    (RunsTo-takes kinds.Rename rename_form after_rename c.args.tokens.now c.in-Some-mark-2.rest.now c.rename_query.result c.in-Some-mark-2.ensures.found c.rename_query.ensures.runs))

pub query-returns-in-Some-mark-3-clause-runs : goal.query-returns-in-Some-mark-3-clause-runs
query-returns-in-Some-mark-3-clause-runs t c =
    RunsTo-skips kinds.Where where_form after_where c.args.tokens.now c.pair_query.result c.in_default.ensures.found
    (RunsTo-skips kinds.Dissolve dissolve_form after_dissolve c.args.tokens.now c.pair_query.result c.in_default-mark.ensures.found
    (RunsTo-skips kinds.Rename rename_form after_rename c.args.tokens.now c.pair_query.result c.in_default-mark-2.ensures.found
    (RunsTo-takes kinds.Overlay pair_form after_overlay c.args.tokens.now c.in-Some-mark-3.rest.now c.pair_query.result c.in-Some-mark-3.ensures.found c.pair_query.ensures.runs)))

pub query-returns-in-Some-mark-4-clause-runs : goal.query-returns-in-Some-mark-4-clause-runs
query-returns-in-Some-mark-4-clause-runs t c =
    RunsTo-skips kinds.Where where_form after_where c.args.tokens.now c.pair_query-in-Some-mark-4.result c.in_default.ensures.found
    (RunsTo-skips kinds.Dissolve dissolve_form after_dissolve c.args.tokens.now c.pair_query-in-Some-mark-4.result c.in_default-mark.ensures.found
    (RunsTo-skips kinds.Rename rename_form after_rename c.args.tokens.now c.pair_query-in-Some-mark-4.result c.in_default-mark-2.ensures.found
    (RunsTo-skips kinds.Overlay pair_form after_overlay c.args.tokens.now c.pair_query-in-Some-mark-4.result c.in_default-mark-3.ensures.found
    (RunsTo-takes kinds.Cover pair_form after_cover c.args.tokens.now c.in-Some-mark-4.rest.now c.pair_query-in-Some-mark-4.result c.in-Some-mark-4.ensures.found c.pair_query-in-Some-mark-4.ensures.runs))))

pub query-returns-in-Some-mark-5-clause-runs : goal.query-returns-in-Some-mark-5-clause-runs
query-returns-in-Some-mark-5-clause-runs t c =
    RunsTo-skips kinds.Where where_form after_where c.args.tokens.now c.pair_query-in-Some-mark-5.result c.in_default.ensures.found
    (RunsTo-skips kinds.Dissolve dissolve_form after_dissolve c.args.tokens.now c.pair_query-in-Some-mark-5.result c.in_default-mark.ensures.found
    (RunsTo-skips kinds.Rename rename_form after_rename c.args.tokens.now c.pair_query-in-Some-mark-5.result c.in_default-mark-2.ensures.found
    (RunsTo-skips kinds.Overlay pair_form after_overlay c.args.tokens.now c.pair_query-in-Some-mark-5.result c.in_default-mark-3.ensures.found
    (RunsTo-skips kinds.Cover pair_form after_cover c.args.tokens.now c.pair_query-in-Some-mark-5.result c.in_default-mark-4.ensures.found
    (RunsTo-takes kinds.Merge pair_form after_merge c.args.tokens.now c.in-Some-mark-5.rest.now c.pair_query-in-Some-mark-5.result c.in-Some-mark-5.ensures.found c.pair_query-in-Some-mark-5.ensures.runs)))))

pub query-returns-in-Some-mark-6-clause-runs : goal.query-returns-in-Some-mark-6-clause-runs
query-returns-in-Some-mark-6-clause-runs t c =
    RunsTo-skips kinds.Where where_form after_where c.args.tokens.now c.pair_query-in-Some-mark-6.result c.in_default.ensures.found
    (RunsTo-skips kinds.Dissolve dissolve_form after_dissolve c.args.tokens.now c.pair_query-in-Some-mark-6.result c.in_default-mark.ensures.found
    (RunsTo-skips kinds.Rename rename_form after_rename c.args.tokens.now c.pair_query-in-Some-mark-6.result c.in_default-mark-2.ensures.found
    (RunsTo-skips kinds.Overlay pair_form after_overlay c.args.tokens.now c.pair_query-in-Some-mark-6.result c.in_default-mark-3.ensures.found
    (RunsTo-skips kinds.Cover pair_form after_cover c.args.tokens.now c.pair_query-in-Some-mark-6.result c.in_default-mark-4.ensures.found
    (RunsTo-skips kinds.Merge pair_form after_merge c.args.tokens.now c.pair_query-in-Some-mark-6.result c.in_default-mark-5.ensures.found
    (RunsTo-takes kinds.Minus pair_form after_minus c.args.tokens.now c.in-Some-mark-6.rest.now c.pair_query-in-Some-mark-6.result c.in-Some-mark-6.ensures.found c.pair_query-in-Some-mark-6.ensures.runs))))))

pub query-returns-in-Some-mark-7-clause-runs : goal.query-returns-in-Some-mark-7-clause-runs
query-returns-in-Some-mark-7-clause-runs t c =
    RunsTo-skips kinds.Where where_form after_where c.args.tokens.now c.window_query.result c.in_default.ensures.found
    (RunsTo-skips kinds.Dissolve dissolve_form after_dissolve c.args.tokens.now c.window_query.result c.in_default-mark.ensures.found
    (RunsTo-skips kinds.Rename rename_form after_rename c.args.tokens.now c.window_query.result c.in_default-mark-2.ensures.found
    (RunsTo-skips kinds.Overlay pair_form after_overlay c.args.tokens.now c.window_query.result c.in_default-mark-3.ensures.found
    (RunsTo-skips kinds.Cover pair_form after_cover c.args.tokens.now c.window_query.result c.in_default-mark-4.ensures.found
    (RunsTo-skips kinds.Merge pair_form after_merge c.args.tokens.now c.window_query.result c.in_default-mark-5.ensures.found
    (RunsTo-skips kinds.Minus pair_form after_minus c.args.tokens.now c.window_query.result c.in_default-mark-6.ensures.found
    (RunsTo-takes kinds.Window window_query_form after_window c.args.tokens.now c.in-Some-mark-7.rest.now c.window_query.result c.in-Some-mark-7.ensures.found c.window_query.ensures.runs)))))))

pub query-returns-in-Some-mark-8-clause-runs : goal.query-returns-in-Some-mark-8-clause-runs
query-returns-in-Some-mark-8-clause-runs t c =
    RunsTo-skips kinds.Where where_form after_where c.args.tokens.now c.transform_query.result c.in_default.ensures.found
    (RunsTo-skips kinds.Dissolve dissolve_form after_dissolve c.args.tokens.now c.transform_query.result c.in_default-mark.ensures.found
    (RunsTo-skips kinds.Rename rename_form after_rename c.args.tokens.now c.transform_query.result c.in_default-mark-2.ensures.found
    (RunsTo-skips kinds.Overlay pair_form after_overlay c.args.tokens.now c.transform_query.result c.in_default-mark-3.ensures.found
    (RunsTo-skips kinds.Cover pair_form after_cover c.args.tokens.now c.transform_query.result c.in_default-mark-4.ensures.found
    (RunsTo-skips kinds.Merge pair_form after_merge c.args.tokens.now c.transform_query.result c.in_default-mark-5.ensures.found
    (RunsTo-skips kinds.Minus pair_form after_minus c.args.tokens.now c.transform_query.result c.in_default-mark-6.ensures.found
    (RunsTo-skips kinds.Window window_query_form after_window c.args.tokens.now c.transform_query.result c.in_default-mark-7.ensures.found
    (RunsTo-takes kinds.Transform transform_form after_transform c.args.tokens.now c.in-Some-mark-8.rest.now c.transform_query.result c.in-Some-mark-8.ensures.found c.transform_query.ensures.runs))))))))

pub query-returns-in-Some-mark-9-clause-runs : goal.query-returns-in-Some-mark-9-clause-runs
query-returns-in-Some-mark-9-clause-runs t c =
    RunsTo-skips kinds.Where where_form after_where c.args.tokens.now c.gaps_query.result c.in_default.ensures.found
    (RunsTo-skips kinds.Dissolve dissolve_form after_dissolve c.args.tokens.now c.gaps_query.result c.in_default-mark.ensures.found
    (RunsTo-skips kinds.Rename rename_form after_rename c.args.tokens.now c.gaps_query.result c.in_default-mark-2.ensures.found
    (RunsTo-skips kinds.Overlay pair_form after_overlay c.args.tokens.now c.gaps_query.result c.in_default-mark-3.ensures.found
    (RunsTo-skips kinds.Cover pair_form after_cover c.args.tokens.now c.gaps_query.result c.in_default-mark-4.ensures.found
    (RunsTo-skips kinds.Merge pair_form after_merge c.args.tokens.now c.gaps_query.result c.in_default-mark-5.ensures.found
    (RunsTo-skips kinds.Minus pair_form after_minus c.args.tokens.now c.gaps_query.result c.in_default-mark-6.ensures.found
    (RunsTo-skips kinds.Window window_query_form after_window c.args.tokens.now c.gaps_query.result c.in_default-mark-7.ensures.found
    (RunsTo-skips kinds.Transform transform_form after_transform c.args.tokens.now c.gaps_query.result c.in_default-mark-8.ensures.found
    (RunsTo-takes kinds.Gaps gaps_form (need kinds.Name done) c.args.tokens.now c.in-Some-mark-9.rest.now c.gaps_query.result c.in-Some-mark-9.ensures.found c.gaps_query.ensures.runs)))))))))

pub query-returns-in-Some-text-clause-runs : goal.query-returns-in-Some-text-clause-runs
query-returns-in-Some-text-clause-runs t c = skips c.in_default.ensures.found (skips c.in_default-mark.ensures.found (skips c.in_default-mark-2.ensures.found (skips c.in_default-mark-3.ensures.found (skips c.in_default-mark-4.ensures.found (skips c.in_default-mark-5.ensures.found (skips c.in_default-mark-6.ensures.found (skips c.in_default-mark-7.ensures.found (skips c.in_default-mark-8.ensures.found (skips c.in_default-mark-9.ensures.found (takes_as c.in-Some-text.ensures.found is_done))))))))))

pub query-returns-in-None-clause-runs : goal.query-returns-in-None-clause-runs
query-returns-in-None-clause-runs t c = skips c.in_default.ensures.found (skips c.in_default-mark.ensures.found (skips c.in_default-mark-2.ensures.found (skips c.in_default-mark-3.ensures.found (skips c.in_default-mark-4.ensures.found (skips c.in_default-mark-5.ensures.found (skips c.in_default-mark-6.ensures.found (skips c.in_default-mark-7.ensures.found (skips c.in_default-mark-8.ensures.found (skips c.in_default-mark-9.ensures.found (skips c.in-None.ensures.found is_fail))))))))))

pub query-returns-in-Some-clause-spelled : goal.query-returns-in-Some-clause-spelled
query-returns-in-Some-clause-spelled t c = rw c.in-Some.ensures.spelled c.where_query.ensures.spelled

pub query-returns-in-Some-clause-shorter : goal.query-returns-in-Some-clause-shorter
query-returns-in-Some-clause-shorter t c = shorter-after c.args.tokens.now c.in-Some.rest.now c.where_query.result c.in-Some.ensures.shorter c.where_query.ensures.shorter

pub query-returns-in-Some-mark-clause-spelled : goal.query-returns-in-Some-mark-clause-spelled
query-returns-in-Some-mark-clause-spelled t c = rw c.in-Some-mark.ensures.spelled c.dissolve_query.ensures.spelled

pub query-returns-in-Some-mark-clause-shorter : goal.query-returns-in-Some-mark-clause-shorter
query-returns-in-Some-mark-clause-shorter t c = shorter-after c.args.tokens.now c.in-Some-mark.rest.now c.dissolve_query.result c.in-Some-mark.ensures.shorter c.dissolve_query.ensures.shorter

pub query-returns-in-Some-mark-2-clause-spelled : goal.query-returns-in-Some-mark-2-clause-spelled
query-returns-in-Some-mark-2-clause-spelled t c = rw c.in-Some-mark-2.ensures.spelled c.rename_query.ensures.spelled

pub query-returns-in-Some-mark-2-clause-shorter : goal.query-returns-in-Some-mark-2-clause-shorter
query-returns-in-Some-mark-2-clause-shorter t c = shorter-after c.args.tokens.now c.in-Some-mark-2.rest.now c.rename_query.result c.in-Some-mark-2.ensures.shorter c.rename_query.ensures.shorter

pub query-returns-in-Some-mark-3-clause-spelled : goal.query-returns-in-Some-mark-3-clause-spelled
query-returns-in-Some-mark-3-clause-spelled t c = rw c.in-Some-mark-3.ensures.spelled c.pair_query.ensures.spelled

pub query-returns-in-Some-mark-3-clause-shorter : goal.query-returns-in-Some-mark-3-clause-shorter
query-returns-in-Some-mark-3-clause-shorter t c = shorter-after c.args.tokens.now c.in-Some-mark-3.rest.now c.pair_query.result c.in-Some-mark-3.ensures.shorter c.pair_query.ensures.shorter

pub query-returns-in-Some-mark-4-clause-spelled : goal.query-returns-in-Some-mark-4-clause-spelled
query-returns-in-Some-mark-4-clause-spelled t c = rw c.in-Some-mark-4.ensures.spelled c.pair_query-in-Some-mark-4.ensures.spelled

pub query-returns-in-Some-mark-4-clause-shorter : goal.query-returns-in-Some-mark-4-clause-shorter
query-returns-in-Some-mark-4-clause-shorter t c = shorter-after c.args.tokens.now c.in-Some-mark-4.rest.now c.pair_query-in-Some-mark-4.result c.in-Some-mark-4.ensures.shorter c.pair_query-in-Some-mark-4.ensures.shorter

pub query-returns-in-Some-mark-5-clause-spelled : goal.query-returns-in-Some-mark-5-clause-spelled
query-returns-in-Some-mark-5-clause-spelled t c = rw c.in-Some-mark-5.ensures.spelled c.pair_query-in-Some-mark-5.ensures.spelled

pub query-returns-in-Some-mark-5-clause-shorter : goal.query-returns-in-Some-mark-5-clause-shorter
query-returns-in-Some-mark-5-clause-shorter t c = shorter-after c.args.tokens.now c.in-Some-mark-5.rest.now c.pair_query-in-Some-mark-5.result c.in-Some-mark-5.ensures.shorter c.pair_query-in-Some-mark-5.ensures.shorter

pub query-returns-in-Some-mark-6-clause-spelled : goal.query-returns-in-Some-mark-6-clause-spelled
query-returns-in-Some-mark-6-clause-spelled t c = rw c.in-Some-mark-6.ensures.spelled c.pair_query-in-Some-mark-6.ensures.spelled

pub query-returns-in-Some-mark-6-clause-shorter : goal.query-returns-in-Some-mark-6-clause-shorter
query-returns-in-Some-mark-6-clause-shorter t c = shorter-after c.args.tokens.now c.in-Some-mark-6.rest.now c.pair_query-in-Some-mark-6.result c.in-Some-mark-6.ensures.shorter c.pair_query-in-Some-mark-6.ensures.shorter

pub query-returns-in-Some-mark-7-clause-spelled : goal.query-returns-in-Some-mark-7-clause-spelled
query-returns-in-Some-mark-7-clause-spelled t c = rw c.in-Some-mark-7.ensures.spelled c.window_query.ensures.spelled

pub query-returns-in-Some-mark-7-clause-shorter : goal.query-returns-in-Some-mark-7-clause-shorter
query-returns-in-Some-mark-7-clause-shorter t c = shorter-after c.args.tokens.now c.in-Some-mark-7.rest.now c.window_query.result c.in-Some-mark-7.ensures.shorter c.window_query.ensures.shorter

pub query-returns-in-Some-mark-8-clause-spelled : goal.query-returns-in-Some-mark-8-clause-spelled
query-returns-in-Some-mark-8-clause-spelled t c = rw c.in-Some-mark-8.ensures.spelled c.transform_query.ensures.spelled

pub query-returns-in-Some-mark-8-clause-shorter : goal.query-returns-in-Some-mark-8-clause-shorter
query-returns-in-Some-mark-8-clause-shorter t c = shorter-after c.args.tokens.now c.in-Some-mark-8.rest.now c.transform_query.result c.in-Some-mark-8.ensures.shorter c.transform_query.ensures.shorter

pub query-returns-in-Some-mark-9-clause-spelled : goal.query-returns-in-Some-mark-9-clause-spelled
query-returns-in-Some-mark-9-clause-spelled t c = rw c.in-Some-mark-9.ensures.spelled c.gaps_query.ensures.spelled

pub query-returns-in-Some-mark-9-clause-shorter : goal.query-returns-in-Some-mark-9-clause-shorter
query-returns-in-Some-mark-9-clause-shorter t c = shorter-after c.args.tokens.now c.in-Some-mark-9.rest.now c.gaps_query.result c.in-Some-mark-9.ensures.shorter c.gaps_query.ensures.shorter
