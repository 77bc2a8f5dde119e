use Rattle.std.proofs.Common.{◌≡◌, Err, sym, ap, subst, ◌∙◌}
use Rattle.std.specs.Prelude.{string_bytes}
use Rattle.std.proofs.lemmas.Bool.{false≢true}
use Rattle.std.proofs.lemmas.Result.{err_from_is_err_and}
use Rattle.rs_catalog.specs.Referents.{referents_on}
use Rattle.rs_refusal.specs.declared.refusal.Refusal.TheVariants as refusal
use Rattle.rs_syntax.specs.QueryView.{query_tree}
use Rattle.rs_stored_catalog.specs.EnteringViews.{AreWindowsThere}
use Rattle.rs_stored_catalog.proofs.views.written_query.Goals as goal

pub returns-in_err-query-clause-none : goal.returns-in_err-query-clause-none
returns-in_err-query-clause-none c e query is there =
    let p = err_from_is_err_and c.from_residual.result c.from_residual.ensures.1 in
    let why : c.in_err-query.field-0.0 ≡ refusal.DamagedFile = cc (p.1, p.2, e) in
    c.in_err-query.ensures.none (ap Err why) query is

pub returns-else-windows_there-clause-none : goal.returns-else-windows_there-clause-none
returns-else-windows_there-clause-none c e query is there =
    let name = string_bytes c.args.view.now.name in
    let same = c.text_of_a_view_says_one_query.ensures name name query (query_tree c.in_ok-query.query) (string_bytes c.args.view.now.text.text) is c.in_ok-query.ensures.ok in
    false≢true (sym c.if-windows_there.false ∙ c.windows_there.ensures ∙ subst (AreWindowsThere c.args.catalog.now (referents_on c.args.referents.now)) same there)
