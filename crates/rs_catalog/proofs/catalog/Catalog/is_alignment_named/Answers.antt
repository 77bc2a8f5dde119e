use Rattle.std.proofs.Common.{sym, ap, ◌∙◌}
use Rattle.rs_syntax.specs.declared.queries.Query.{Query}
use Rattle.rs_syntax.specs.QueryView.{query_tree}
use Rattle.rs_machine.specs.Opening.{names_alignment}
use Rattle.rs_catalog.specs.Names.{entries_by_bytes}
use Rattle.rs_catalog.proofs.UseLaws.{some_query, some_view-entries, query_found, query_passed}
use Rattle.rs_catalog.proofs.catalog.Catalog.is_alignment_named.Goals as goal

pub returns-then-names_alignment : goal.returns-then-names_alignment
returns-then-names_alignment c =
    query_found (names_alignment c.args.name.now.bytes) c.into_iter-view-iterator.result c.loop-view.view-iterator c.next.new.self c.in-Some.field-0-0.now c.in-Some.view.now c.loop-view.invariant c.in-Some.ensures.steps
    (c.if-names_alignment.ensures ∙ ap (λ (query : Query). names_alignment c.args.name.now.bytes (query_tree query)) c.query.ensures)
    ∙ sym (some_view-entries (names_alignment c.args.name.now.bytes) c.args.self.now c.into_iter-view-iterator.result
    (ap (entries_by_bytes (λ view. view)) c.into_iter-view-iterator.ensures.into_iter_gives ∙ c.views-view-items.ensures))

pub loop-view-preserved : goal.loop-view-preserved
loop-view-preserved c =
    query_passed (names_alignment c.args.name.now.bytes) c.into_iter-view-iterator.result c.loop-view.view-iterator c.next.new.self c.in-Some.field-0-0.now c.in-Some.view.now c.loop-view.invariant c.in-Some.ensures.steps
    (c.if-names_alignment.ensures ∙ ap (λ (query : Query). names_alignment c.args.name.now.bytes (query_tree query)) c.query.ensures)

pub returns : goal.returns
returns c =
    ap (some_query (names_alignment c.args.name.now.bytes)) (sym c.in-None.ensures.steps.0) ∙ c.loop-view.invariant
    ∙ sym (some_view-entries (names_alignment c.args.name.now.bytes) c.args.self.now c.into_iter-view-iterator.result
    (ap (entries_by_bytes (λ view. view)) c.into_iter-view-iterator.ensures.into_iter_gives ∙ c.views-view-items.ensures))
