-- What is brought is that of the contents.
use Rattle.std.proofs.Common.{◌≡◌, ◌∙◌, ℕ, Err, List, ap, map, subst, sym}
use Rattle.std.specs.FinMap as names
use Rattle.std.specs.List.{AllByRecursion}
use Rattle.std.proofs.lemmas.Result.{err_from_is_err_and}
use Rattle.rs_catalog.specs.Referents.{referents_on}
use Rattle.rs_catalog_pages.specs.Said.{said_catalogue, said_route}
use Rattle.rs_catalog_pages.specs.declared.items.StoredRoute.{StoredRoute}
use Rattle.rs_file.specs.Meant.{route_spans, span_of_route}
use Rattle.rs_refusal.specs.declared.refusal.Refusal.TheVariants as refusal
use Rattle.rs_stored_catalog.specs.Referents.{IsSpan, OfThose}
use Rattle.rs_versioned.specs.Meant.{AreReferentsMeant}
use Rattle.rs_versioned.specs.Referents.{referents_at}
use Rattle.rs_versioned.specs.declared.route_span.RouteSpan.{RouteSpan}
use Rattle.rs_store.proofs.Brought.{are_spans, at_rest, brings, no_referents, no_views, of_referents}
use Rattle.rs_store.proofs.loading.bring.Goals as goal

pub returns-in_err-referents-clause-damaged : goal.returns-in_err-referents-clause-damaged
returns-in_err-referents-clause-damaged g c = λ tied is contents holds.
    let pages = (g.P.Pages.store c.args.pages.now).map in
    let file = c.args.file.now in
    let routes : c.deref.result.now ≡ route_spans (said_catalogue file.definitions) =
    c.deref.ensures.value ∙ c.in_ok-routes.ensures ∙ ap (λ (rs : List StoredRoute). map span_of_route (map said_route rs)) c.as_slice.ensures.value in
    let p = err_from_is_err_and c.from_residual-in_err-referents.result c.from_residual-in_err-referents.ensures.1 in
    let why : c.in_err-referents.field-0.0 ≡ refusal.DamagedFile = cc (p.1, p.2, is) in
    no_referents c.listed_definitions_are_a_catalogues.ensures.seen pages file contents holds
    (subst (λ (rs : List RouteSpan). OfThose pages file.referents (λ referents. AreReferentsMeant rs file.accepted referents → ⊥)) routes
    (c.in_err-referents.ensures.damaged tied (ap Err why)
    (subst (λ (rs : List RouteSpan). AllByRecursion IsSpan rs) (sym routes) (are_spans (said_catalogue file.definitions) c.in_ok-catalog.ensures.meant))))

pub returns-in_err-add_views-clause-damaged : goal.returns-in_err-add_views-clause-damaged
returns-in_err-add_views-clause-damaged g c = λ tied is contents holds.
    let pages = (g.P.Pages.store c.args.pages.now).map in
    let file = c.args.file.now in
    let routes : c.deref.result.now ≡ route_spans (said_catalogue file.definitions) =
    c.deref.ensures.value ∙ c.in_ok-routes.ensures ∙ ap (λ (rs : List StoredRoute). map span_of_route (map said_route rs)) c.as_slice.ensures.value in
    let p = err_from_is_err_and c.from_residual-in_err-add_views.result c.from_residual-in_err-add_views.ensures.1 in
    let why : c.in_err-add_views.field-0.0 ≡ refusal.DamagedFile = cc (p.1, p.2, is) in
    let listed = c.listed_definitions_are_a_catalogues.ensures.seen in
    let are = of_referents listed pages file contents holds c.in_ok-referents.referents
    (subst (λ (rs : List RouteSpan). OfThose pages file.referents (λ records. AreReferentsMeant rs file.accepted records
    → (number : ℕ) → referents_on c.in_ok-referents.referents number ≡ names.from_entries (referents_at file.accepted number records))) routes (c.in_ok-referents.ensures.brings tied)) in
    no_views listed pages file contents holds c.in_ok-catalog.catalog c.in_ok-referents.referents c.in_ok-catalog.ensures.is are (c.in_err-add_views.ensures.none (ap Err why))

pub returns-clause-brings : goal.returns-clause-brings
returns-clause-brings g c = λ tied contents holds.
    let pages = (g.P.Pages.store c.args.pages.now).map in
    let file = c.args.file.now in
    let routes : c.deref.result.now ≡ route_spans (said_catalogue file.definitions) =
    c.deref.ensures.value ∙ c.in_ok-routes.ensures ∙ ap (λ (rs : List StoredRoute). map span_of_route (map said_route rs)) c.as_slice.ensures.value in
    let listed = c.listed_definitions_are_a_catalogues.ensures.seen in
    let are = of_referents listed pages file contents holds c.in_ok-referents.referents
    (subst (λ (rs : List RouteSpan). OfThose pages file.referents (λ records. AreReferentsMeant rs file.accepted records
    → (number : ℕ) → referents_on c.in_ok-referents.referents number ≡ names.from_entries (referents_at file.accepted number records))) routes (c.in_ok-referents.ensures.brings tied)) in
    brings listed pages file contents holds c.in_ok-catalog.catalog c.add_views.new.catalog c.in_ok-referents.referents c.in_ok-catalog.ensures.meant c.in_ok-catalog.ensures.is
    c.in_ok-add_views.ensures.has c.in_ok-add_views.ensures.means are

pub returns-clause-file : goal.returns-clause-file
returns-clause-file g c =
    let file = c.args.file.now in
    at_rest c.listed_definitions_are_a_catalogues.ensures.seen c.definitions_of_a_file_list_its_items.ensures file c.in_ok-catalog.catalog c.add_views.new.catalog c.requires.file
    (record { ready = c.loaded_file_can_be_changed.ensures.ready file c.requires.file; order = c.loaded_file_can_be_changed.ensures.order file c.requires.file })
    (c.loaded_file_can_be_changed.ensures.committed file c.requires.file) c.in_ok-catalog.ensures.meant c.in_ok-catalog.ensures.is c.in_ok-add_views.ensures.has
