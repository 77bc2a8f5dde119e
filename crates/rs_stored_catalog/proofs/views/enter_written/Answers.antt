use Rattle.std.proofs.Common.{◌≡◌, ◌≤◌, ◌+◌, Err, length, map, string_bytes, sym, ap, subst, ◌∙◌, arith}
use Rattle.std.specs.FinMap as names
use Rattle.std.specs.FinMap.{get-entries}
use Rattle.std.proofs.lemmas.List.{length-map}
use Rattle.std.proofs.lemmas.List.Elements.{All-contains, All-from_recursion}
use Rattle.std.proofs.lemmas.Result.{err_from_is_err_and}
use Rattle.rs_catalog.specs.Definitions.{Definitions}
use Rattle.rs_catalog.specs.Referents.{referents_on}
use Rattle.rs_catalog_pages.specs.Items.{ViewItem}
use Rattle.rs_catalog_pages.specs.Said.{said_view}
use Rattle.rs_grammar.specs.declared.kind.TheConstants.{NAME_BYTES}
use Rattle.rs_refusal.specs.declared.refusal.Refusal.TheVariants as refusal
use Rattle.rs_syntax.specs.QueryView.{query_tree}
use Rattle.rs_syntax.specs.Sound.{IsName}
use Rattle.rs_stored_catalog.specs.EnteringViews.{AreWindowsThere, IsQueryOf, IsWrittenOf}
use Rattle.rs_stored_catalog.proofs.Entering.{each_said, said_at}
use Rattle.rs_stored_catalog.proofs.EnteredViews.{Entered, entered_all, entered_more, some_none, zip_found}
use Rattle.rs_stored_catalog.proofs.WindowsKept.{windows_back, windows_kept}
use Rattle.rs_stored_catalog.proofs.views.enter_written.Goals as goal

pub written_query-requires : goal.written_query-requires
written_query-requires c = each_said said_view (λ (view : ViewItem). IsName view.name) c.args.views.now c.loop-view.view-index c.view-item.result c.loop-view-test.true c.view-item.is c.requires.listed.named

pub returns-in_err-query-clause-none : goal.returns-in_err-query-clause-none
returns-in_err-query-clause-none c e queries all there =
    let p = err_from_is_err_and c.from_residual.result c.from_residual.ensures.1 in
    let why : c.in_err-query.field-0.0 ≡ refusal.DamagedFile = cc (p.1, p.2, e) in
    let at = said_at said_view c.args.views.now c.loop-view.view-index c.view-item.result c.loop-view-test.true c.view-item.is in
    let found = zip_found IsQueryOf (map said_view c.args.views.now) queries c.loop-view.view-index (said_view c.view-item.result) all at.0 at.1 in
    let own = All-contains (AreWindowsThere c.args.catalog.now (referents_on c.args.referents.now)) queries found.0 (All-from_recursion (AreWindowsThere c.args.catalog.now (referents_on c.args.referents.now)) queries there) found.2 in
    c.in_err-query.ensures.none (ap Err why) found.0 found.1
    (subst (λ (d : Definitions). AreWindowsThere d (referents_on c.args.referents.now) found.0) (sym c.loop-view.invariant.others)
    (windows_kept c.args.catalog.now c.loop-view.catalog.views (referents_on c.args.referents.now) found.0 own))

pub name_of-requires : goal.name_of-requires
name_of-requires c =
    let is = each_said said_view (λ (view : ViewItem). IsName view.name) c.args.views.now c.loop-view.view-index c.view-item.result c.loop-view-test.true c.view-item.is c.requires.listed.named in
    subst (λ text. length text ≤ NAME_BYTES) (sym c.as_str.ensures.value) is.short

pub loop-view-preserved : goal.loop-view-preserved
loop-view-preserved c =
    let on = referents_on c.args.referents.now in
    let query = query_tree c.in_ok-query.query in
    let at = said_at said_view c.args.views.now c.loop-view.view-index c.view-item.result c.loop-view-test.true c.view-item.is in
    let there = windows_back c.args.catalog.now c.loop-view.catalog.views on query (subst (λ (d : Definitions). AreWindowsThere d on query) c.loop-view.invariant.others c.in_ok-query.ensures.windows) in
    subst (λ (d : Definitions). Entered (IsWrittenOf c.args.catalog.now on) (λ view entry is. is.is.named) (map said_view c.args.views.now) (c.loop-view.view-index + 1) c.args.catalog.now d) (sym c.in_ok-define_view.ensures.ok)
    (entered_more (IsWrittenOf c.args.catalog.now on) (λ view entry is. is.is.named) (map said_view c.args.views.now) c.requires.listed.in_order c.loop-view.view-index c.args.catalog.now c.loop-view.catalog c.loop-view.invariant
    (said_view c.view-item.result) at.0 at.1 c.name_of.result.bytes (record { query = c.in_ok-query.query; text = string_bytes c.in_ok-text.text })
    (record {
      is = record { named = c.name_of.ensures ∙ c.as_str.ensures.value; text = c.in_ok-text.ensures.cases; defined = c.in_ok-query.ensures.ok };
      sound = c.in_ok-query.ensures.sound;
      windows = there;
    }))

pub returns-clause-entered : goal.returns-clause-entered
returns-clause-entered c =
    entered_all (IsWrittenOf c.args.catalog.now (referents_on c.args.referents.now)) (λ view entry is. is.is.named) (map said_view c.args.views.now) c.requires.listed.in_order c.loop-view.view-index c.args.catalog.now c.loop-view.catalog c.loop-view.invariant
    (omega (arith, c.loop-view-test.false, length-map c.args.views.now said_view))
    (λ q none. get-entries c.args.catalog.now.views q ∙ some_none (map said_view c.args.views.now) (names.entries c.args.catalog.now.views) c.requires.same q none)
