use Rattle.std.proofs.Common.{◌≡◌, Err, map, sym, ap, subst, ◌∙◌}
use Rattle.std.specs.FinMap as names
use Rattle.std.specs.List.{AllZip}
use Rattle.std.proofs.lemmas.Result.{err_from_is_err_and}
use Rattle.rs_catalog.specs.Definitions.{Definitions}
use Rattle.rs_catalog.specs.Referents.{referents_on}
use Rattle.rs_catalog_pages.specs.Said.{said_catalogue, said_view}
use Rattle.rs_refusal.specs.declared.refusal.Refusal.TheVariants as refusal
use Rattle.rs_syntax.specs.QueryView.{query_tree}
use Rattle.rs_stored_catalog.specs.EnteringViews.{AreEntered, AreListedViews, IsQueryOf, IsWidenedOf, IsWrittenOf}
use Rattle.rs_stored_catalog.proofs.EnteredViews.{Entry}
use Rattle.rs_stored_catalog.proofs.MeantViews.{entered_meant, listed_of, names_of_widened, queries_of, wide_pass, windows_there_all, written_views}
use Rattle.rs_stored_catalog.proofs.views.add_views.Goals as goal

pub returns-in_err-enter_widened-clause-none : goal.returns-in_err-enter_widened-clause-none
returns-in_err-enter_widened-clause-none c e definitions have spans_on rest meant =
    let p = err_from_is_err_and c.from_residual.result c.from_residual.ensures.1 in
    let why : c.in_err-enter_widened.field-0.0 ≡ refusal.DamagedFile = cc (p.1, p.2, e) in
    let made = names.entries definitions.views in
    c.in_err-enter_widened.ensures.none (ap Err why) (map (λ (entry : Entry). query_tree entry.1.query) made)
    (subst (λ l. AllZip IsQueryOf (map said_view l) (map (λ (entry : Entry). query_tree entry.1.query) made)) (sym c.deref.ensures.value)
    (queries_of (said_catalogue c.args.stored.now).views made have.views))

pub returns-in_err-check_each-clause-none : goal.returns-in_err-check_each-clause-none
returns-in_err-check_each-clause-none c e definitions have spans_on rest meant =
    let p = err_from_is_err_and c.from_residual-in_err-check_each.result c.from_residual-in_err-check_each.ensures.1 in
    let why : c.in_err-check_each.field-0.0 ≡ refusal.DamagedFile = cc (p.1, p.2, e) in
    let wide = c.enter_widened.new.catalog in
    let first = subst (λ l. AreEntered IsWidenedOf (map said_view l) c.args.catalog.now wide) c.deref.ensures.value c.in_ok-enter_widened.ensures.entered in
    c.in_err-check_each.ensures.none (ap Err why) spans_on rest
    (wide_pass c.args.catalog.now (referents_on c.args.referents.now) spans_on rest c.text_of_a_view_says_one_query.ensures c.views_are_meant_where_widened_ones_pass.ensures.pass
    (said_catalogue c.args.stored.now).views wide definitions first have meant)

pub enter_written-requires-clause-listed : goal.enter_written-requires-clause-listed
enter_written-requires-clause-listed c =
    let catalogue = said_catalogue c.args.stored.now in
    subst (λ l. AreListedViews (map said_view l)) (sym c.deref-2.ensures.value) (listed_of catalogue.tables catalogue.views c.requires.meant.views)

pub enter_written-requires-clause-same : goal.enter_written-requires-clause-same
enter_written-requires-clause-same c =
    let wide = c.enter_widened.new.catalog in
    let first = subst (λ l. AreEntered IsWidenedOf (map said_view l) c.args.catalog.now wide) c.deref.ensures.value c.in_ok-enter_widened.ensures.entered in
    subst (λ l. AllZip (λ view (entry : Entry). entry.0 ≡ view.name) (map said_view l) (names.entries wide.views)) (sym c.deref-2.ensures.value)
    (names_of_widened (said_catalogue c.args.stored.now).views (names.entries wide.views) first.views)

pub returns-in_err-enter_written-clause-none : goal.returns-in_err-enter_written-clause-none
returns-in_err-enter_written-clause-none c e definitions have spans_on rest meant =
    let p = err_from_is_err_and c.from_residual-in_err-enter_written.result c.from_residual-in_err-enter_written.ensures.1 in
    let why : c.in_err-enter_written.field-0.0 ≡ refusal.DamagedFile = cc (p.1, p.2, e) in
    let wide = c.enter_widened.new.catalog in
    let views = (said_catalogue c.args.stored.now).views in
    let made = names.entries definitions.views in
    let first = subst (λ l. AreEntered IsWidenedOf (map said_view l) c.args.catalog.now wide) c.deref.ensures.value c.in_ok-enter_widened.ensures.entered in
    c.in_err-enter_written.ensures.none (ap Err why) (map (λ (entry : Entry). query_tree entry.1.query) made)
    (subst (λ l. AllZip IsQueryOf (map said_view l) (map (λ (entry : Entry). query_tree entry.1.query) made)) (sym c.deref-2.ensures.value) (queries_of views made have.views))
    (windows_there_all c.args.catalog.now (referents_on c.args.referents.now) spans_on rest c.text_of_a_view_says_one_query.ensures c.views_are_meant_where_widened_ones_pass.ensures.pass
    views wide definitions first have meant)

pub returns-clause-has : goal.returns-clause-has
returns-clause-has c =
    let wide = c.enter_widened.new.catalog in
    let new = c.enter_written.new.catalog in
    let on = referents_on c.args.referents.now in
    let first = subst (λ l. AreEntered IsWidenedOf (map said_view l) c.args.catalog.now wide) c.deref.ensures.value c.in_ok-enter_widened.ensures.entered in
    let last = subst (λ l. AreEntered (IsWrittenOf wide on) (map said_view l) wide new) c.deref-2.ensures.value c.in_ok-enter_written.ensures.entered in
    record {
      views = written_views wide on (said_catalogue c.args.stored.now).views (names.entries new.views) last.views;
      others = last.others ∙ ap (λ (d : Definitions). record d { views = new.views }) first.others;
    }

pub returns-clause-means : goal.returns-clause-means
returns-clause-means c spans_on rest =
    let catalogue = said_catalogue c.args.stored.now in
    let wide = c.enter_widened.new.catalog in
    let new = c.enter_written.new.catalog in
    let on = referents_on c.args.referents.now in
    let first = subst (λ l. AreEntered IsWidenedOf (map said_view l) c.args.catalog.now wide) c.deref.ensures.value c.in_ok-enter_widened.ensures.entered in
    let last = subst (λ l. AreEntered (IsWrittenOf wide on) (map said_view l) wide new) c.deref-2.ensures.value c.in_ok-enter_written.ensures.entered in
    entered_meant c.args.catalog.now on spans_on rest c.text_of_a_view_says_one_query.ensures c.views_are_meant_where_widened_ones_pass.ensures.meant
    catalogue.tables (ap (λ (d : Definitions). d.tables) c.requires.is) c.requires.meant.tables.in_order catalogue.views c.requires.meant.views.each wide new first last
    (c.in_ok-check_each.ensures.ok spans_on rest)
