use Rattle.std.proofs.Common.{◌≡◌, Err, sym, ap, subst, ◌∙◌}
use Rattle.std.specs.List.{AllByRecursion}
use Rattle.std.proofs.lemmas.Result.{err_from_is_err_and}
use Rattle.rs_catalog.specs.Definitions.{state_from}
use Rattle.rs_catalog.specs.Names.{entries_by_bytes}
use Rattle.rs_catalog.specs.Referents.{referents_on}
use Rattle.rs_refusal.specs.declared.refusal.Refusal.TheVariants as refusal
use Rattle.rs_syntax.specs.QueryView.{query_tree}
use Rattle.rs_stored_catalog.specs.EnteringViews.{PassesIn}
use Rattle.rs_stored_catalog.proofs.CheckedViews.{Passes, all_passed, passed_more, passes_next}
use Rattle.rs_stored_catalog.proofs.views.check_each.Goals as goal

pub loop-view-preserved : goal.loop-view-preserved
loop-view-preserved c =
    passed_more c.args.catalog.now (referents_on c.args.referents.now) c.into_iter-view-iterator.result c.loop-view.view-iterator c.next.new.self c.in-Some.field-0-0.now c.in-Some.view.now c.loop-view.invariant c.in-Some.ensures.steps
    (λ spans_on rest. subst (λ q. PassesIn (state_from c.args.catalog.now (referents_on c.args.referents.now) spans_on rest) (query_tree q)) c.query.ensures (c.in_ok-check_query.ensures.ok spans_on rest))

pub returns-in_err-check_query-clause-none : goal.returns-in_err-check_query-clause-none
returns-in_err-check_query-clause-none c e spans_on rest all =
    let p = err_from_is_err_and c.from_residual.result c.from_residual.ensures.1 in
    let why : c.in_err-check_query.field-0.0 ≡ refusal.DamagedFile = cc (p.1, p.2, e) in
    let rows = ap (entries_by_bytes (λ view. view)) c.into_iter-view-iterator.ensures.into_iter_gives ∙ c.views-view-items.ensures in
    c.in_err-check_query.ensures.none (ap Err why) spans_on rest
    (subst (λ q. PassesIn (state_from c.args.catalog.now (referents_on c.args.referents.now) spans_on rest) (query_tree q)) (sym c.query.ensures)
    (passes_next c.args.catalog.now (referents_on c.args.referents.now) c.into_iter-view-iterator.result c.loop-view.view-iterator c.next.new.self c.in-Some.field-0-0.now c.in-Some.view.now c.loop-view.invariant c.in-Some.ensures.steps
    spans_on rest (subst (AllByRecursion (Passes c.args.catalog.now (referents_on c.args.referents.now) spans_on rest)) (sym rows) all)))

pub returns-clause-ok : goal.returns-clause-ok
returns-clause-ok c spans_on rest =
    let rows = ap (entries_by_bytes (λ view. view)) c.into_iter-view-iterator.ensures.into_iter_gives ∙ c.views-view-items.ensures in
    subst (AllByRecursion (Passes c.args.catalog.now (referents_on c.args.referents.now) spans_on rest)) rows
    (all_passed c.args.catalog.now (referents_on c.args.referents.now) c.into_iter-view-iterator.result c.loop-view.view-iterator c.loop-view.invariant (sym c.in-None.ensures.steps.0) spans_on rest)
