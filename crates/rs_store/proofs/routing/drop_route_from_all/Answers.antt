-- What the file was refused stays in memory, and what went out of it goes out of memory.
use Rattle.std.proofs.Common.{◌≡◌, ◌≤◌, ◌+◌, ◌∙◌, ℕ, Err, Ok, Result, ap, inl, refl, subst, sym}
use Rattle.std.proofs.lemmas.Option.{same_Some}
use Rattle.std.proofs.lemmas.Result.{err_from_is_err_and}
use Rattle.std.specs.FinMap as names
use Rattle.std.specs.List.{AllByRecursion}
use Rattle.rs_catalog.specs.Changes as changes
use Rattle.rs_catalog.specs.Definitions.{RouteItem}
use Rattle.rs_catalog.specs.Referents.{at_number, referents_on}
use Rattle.rs_catalog_pages.specs.Items.{CatalogueItems}
use Rattle.rs_changes.specs.Parts.{DropsRoute}
use Rattle.rs_refusal.specs.declared.refusal.Refusal.{Refusal}
use Rattle.rs_refusal.specs.declared.refusal.Refusal.TheVariants as refusal
use Rattle.rs_store.specs.Rewriting.{Redefines, Rewrites}
use Rattle.rs_stored_catalog.specs.Listing.{listed_route, listing_of}
use Rattle.rs_store.proofs.Redefined.{stood_there}
use Rattle.rs_store.proofs.Rewritten.{redefines_none}
use Rattle.rs_store.proofs.Routed.{births_less}
use Rattle.rs_store.proofs.routing.drop_route_from_all.Goals as goal

pub erase_route-requires-clause-births : goal.erase_route-requires-clause-births
erase_route-requires-clause-births g c =
    let was = c.args.catalog.now in
    let name = c.args.name.now.bytes in
    let next = changes.without_route was name in
    let one = stood_there was.routes name c.requires.there in
    subst (λ (items : CatalogueItems). AllByRecursion (λ route. route.born ≤ c.args.file.now.accepted + 1) items.routes) (sym c.in_ok-definitions.ensures)
    (births_less (listed_route (name, one.0)) (listing_of was) (listing_of next) c.args.file.now.accepted
    (c.one_route_is_listed_more_or_less.ensures.less was name one.0 one.1 c.requires.unused)
    (subst (λ (items : CatalogueItems). AllByRecursion (λ route. route.born ≤ c.args.file.now.accepted) items.routes) (sym c.requires.rests.listing) c.requires.rests.births))

pub returns-in_err-erase_route-clause-redefines : goal.returns-in_err-erase_route-clause-redefines
returns-in_err-erase_route-clause-redefines g c = λ item there.
    let was = c.args.catalog.now in
    let next = changes.without_route was c.args.name.now.bytes in
    let refused : Result (Unit {0}) Refusal = Err c.in_err-erase_route.field-0.0 in
    let same : c.number-number.result ≡ item.number =
    c.number-number.ensures ∙ ap (λ (x : RouteItem). x.number) (same_Some c.unwrap.result item (sym c.unwrap.ensures ∙ c.route.ensures ∙ there)) in
    let p = err_from_is_err_and c.from_residual-in_err-erase_route.result c.from_residual-in_err-erase_route.ensures.1 in
    rw (p.1, p.2) (subst (λ (n : ℕ). Redefines g.P.Pages.is_tied g.P.Pages.store g.P.Pages.keeps c.args.oldest (DropsRoute n (listing_of next)) next refused c.args.pages.now c.erase_route.new.pages
    c.args.file.now c.erase_route.new.file was was) same (record {
      rewrites = subst (λ (items : CatalogueItems). Rewrites g.P.Pages.is_tied g.P.Pages.store g.P.Pages.keeps c.args.oldest (DropsRoute c.number-number.result items) items refused c.args.pages.now c.erase_route.new.pages
          c.args.file.now c.erase_route.new.file) c.in_ok-definitions.ensures c.in_err-erase_route.ensures;
      made = tt;
      back = refl;
    }))

pub returns-clause-redefines : goal.returns-clause-redefines
returns-clause-redefines g c = λ item there.
    let was = c.args.catalog.now in
    let next = changes.without_route was c.args.name.now.bytes in
    let done : Result (Unit {0}) Refusal = Ok (tt {0}) in
    let same : c.number-number.result ≡ item.number =
    c.number-number.ensures ∙ ap (λ (x : RouteItem). x.number) (same_Some c.unwrap.result item (sym c.unwrap.ensures ∙ c.route.ensures ∙ there)) in
    subst (λ (n : ℕ). Redefines g.P.Pages.is_tied g.P.Pages.store g.P.Pages.keeps c.args.oldest (DropsRoute n (listing_of next)) next done c.args.pages.now c.erase_route.new.pages
    c.args.file.now c.erase_route.new.file was c.drop_route.new.self) same (record {
      rewrites = subst (λ (items : CatalogueItems). Rewrites g.P.Pages.is_tied g.P.Pages.store g.P.Pages.keeps c.args.oldest (DropsRoute c.number-number.result items) items done c.args.pages.now c.erase_route.new.pages
          c.args.file.now c.erase_route.new.file) c.in_ok-definitions.ensures c.in_ok-erase_route.ensures;
      made = c.drop_route.ensures;
      back = tt;
    })

pub returns-clause-ended : goal.returns-clause-ended
returns-clause-ended g c = λ item there.
    let same : c.number-number.result ≡ item.number =
    c.number-number.ensures ∙ ap (λ (x : RouteItem). x.number) (same_Some c.unwrap.result item (sym c.unwrap.ensures ∙ c.route.ensures ∙ there)) in
    c.drop_route-2.ensures ∙ ap (λ (n : ℕ). at_number n names.empty (referents_on c.args.referents.now)) same

pub returns-in_err-definitions-clause-redefines : goal.returns-in_err-definitions-clause-redefines
returns-in_err-definitions-clause-redefines g c = λ item there.
    let was = c.args.catalog.now in
    let next = changes.without_route was c.args.name.now.bytes in
    let p = err_from_is_err_and c.from_residual.result c.from_residual.ensures.1 in
    rw (p.1, p.2) (redefines_none g.P.Pages c.args.oldest (DropsRoute item.number (listing_of next)) next refusal.OutOfMemory c.args.pages.now c.args.file.now was was
    (g.met.P.Pages.keeps_refl c.args.pages.now) (inl refl) refl)
