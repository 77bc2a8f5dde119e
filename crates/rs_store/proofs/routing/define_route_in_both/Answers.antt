-- The route goes into memory, and then into the file or out of memory again.
use Rattle.std.proofs.Common.{◌≡◌, ◌≤◌, ◌+◌, ◌∙◌, ℕ, ap, inl, refl, subst, sym}
use Rattle.std.proofs.lemmas.Result.{err_from_is_err_and}
use Rattle.std.specs.List.{AllByRecursion}
use Rattle.rs_catalog.specs.Changes as changes
use Rattle.rs_catalog.specs.Definitions.{AreDefinitions, Definitions, RouteItem}
use Rattle.rs_catalog.specs.Uses.{some_piece_on}
use Rattle.rs_catalog_pages.specs.Items.{CatalogueItems}
use Rattle.rs_facts.specs.Fact.{Names}
use Rattle.rs_file_parts.specs.Calls.{ChangesDefinitions}
use Rattle.rs_refusal.specs.declared.refusal.Refusal.TheVariants as refusal
use Rattle.rs_store.specs.Rewriting.{Rewrites}
use Rattle.rs_stored_catalog.specs.Listing.{listed_route, listing_of}
use Rattle.rs_store.proofs.Redefined.{err_never, ok_never}
use Rattle.rs_store.proofs.Referred.{taken_again}
use Rattle.rs_store.proofs.Results.{err_always, ok_always}
use Rattle.rs_store.proofs.Rewritten.{redefines_none}
use Rattle.rs_store.proofs.Routed.{births_more, none_carries}
use Rattle.rs_store.proofs.routing.define_route_in_both.Goals as goal

pub write_definitions_of-made-requires-clause-births : goal.write_definitions_of-made-requires-clause-births
write_definitions_of-made-requires-clause-births g c =
    let was = c.args.catalog.now in
    let name = c.args.route.name.bytes in
    let item : RouteItem = record { number = c.in_ok-_number._number; born = c.args.file.now.accepted + 1; ends = record { start = c.args.route.start; finish = c.args.route.finish } } in
    subst (λ (k : Definitions). AllByRecursion (λ route. route.born ≤ c.args.file.now.accepted + 1) (listing_of k).routes) (sym c.in_ok-_number.ensures.ok)
    (births_more (listed_route (name, item)) (listing_of was) (listing_of (changes.with_route was name item)) c.args.file.now.accepted
    (c.one_route_is_listed_more_or_less.ensures.more was name item c.stand.ensures c.requires.new) refl
    (subst (λ (items : CatalogueItems). AllByRecursion (λ route. route.born ≤ c.args.file.now.accepted) items.routes) (sym c.requires.rests.listing) c.requires.rests.births))

pub drop_route-requires : goal.drop_route-requires
drop_route-requires g c = record {
  unused = ap (λ (k : Definitions). some_piece_on k c.args.route.name.bytes) c.in_ok-_number.ensures.ok ∙ none_carries c.args.catalog.now c.args.route.name.bytes c.requires.new c.stand.ensures;
}

pub returns-then-is_err : goal.returns-then-is_err
returns-then-is_err g c =
    let was = c.args.catalog.now in
    let name = c.args.route.name.bytes in
    let next : ℕ → Definitions = λ n. changes.with_route was name (record { number = n; born = c.args.file.now.accepted + 1; ends = record { start = c.args.route.start; finish = c.args.route.finish } }) in
    let item : RouteItem = record { number = c.in_ok-_number._number; born = c.args.file.now.accepted + 1; ends = record { start = c.args.route.start; finish = c.args.route.finish } } in
    let is : c.define_route.new.self ≡ next item.number = c.in_ok-_number.ensures.ok in
    let made = c.write_definitions_of-made in
    record {
      number = item.number;
      numbered = λ some. (subst AreDefinitions is c.stand-2.ensures, c.in_ok-_number.ensures.least.free);
      redefines = record {
        rewrites = subst (λ (n : Definitions). Rewrites g.P.Pages.is_tied g.P.Pages.store g.P.Pages.keeps c.args.oldest (ChangesDefinitions (listing_of n)) (listing_of n) made.result c.args.pages.now made.new.pages
            c.args.file.now made.new.file) is made.ensures;
        made = ok_never (c.drop_route.new.self ≡ next item.number) made.result (sym c.is_err.ensures.value ∙ c.if-is_err.true);
        back = err_always made.result (c.drop_route.ensures ∙ ap (λ (k : Definitions). changes.without_route k name) is
            ∙ ap (λ (routes : Names RouteItem). record was { routes = routes }) (taken_again was.routes name item c.requires.new));
      };
    }

pub returns-else-is_err : goal.returns-else-is_err
returns-else-is_err g c =
    let was = c.args.catalog.now in
    let name = c.args.route.name.bytes in
    let next : ℕ → Definitions = λ n. changes.with_route was name (record { number = n; born = c.args.file.now.accepted + 1; ends = record { start = c.args.route.start; finish = c.args.route.finish } }) in
    let item : RouteItem = record { number = c.in_ok-_number._number; born = c.args.file.now.accepted + 1; ends = record { start = c.args.route.start; finish = c.args.route.finish } } in
    let is : c.define_route.new.self ≡ next item.number = c.in_ok-_number.ensures.ok in
    let made = c.write_definitions_of-made in
    record {
      number = item.number;
      numbered = λ some. (subst AreDefinitions is c.stand-2.ensures, c.in_ok-_number.ensures.least.free);
      redefines = record {
        rewrites = subst (λ (n : Definitions). Rewrites g.P.Pages.is_tied g.P.Pages.store g.P.Pages.keeps c.args.oldest (ChangesDefinitions (listing_of n)) (listing_of n) made.result c.args.pages.now made.new.pages
            c.args.file.now made.new.file) is made.ensures;
        made = ok_always {P = c.define_route.new.self ≡ next item.number} made.result is;
        back = err_never (c.define_route.new.self ≡ was) made.result (sym c.is_err.ensures.value ∙ c.if-is_err.false);
      };
    }

pub returns-in_err-_number : goal.returns-in_err-_number
returns-in_err-_number g c =
    let was = c.args.catalog.now in
    let name = c.args.route.name.bytes in
    let next : ℕ → Definitions = λ n. changes.with_route was name (record { number = n; born = c.args.file.now.accepted + 1; ends = record { start = c.args.route.start; finish = c.args.route.finish } }) in
    let p = err_from_is_err_and c.from_residual.result c.from_residual.ensures.1 in
    rw (p.1, p.2) (record {
      number = 0;
      numbered = λ some. absurd (some refl);
      redefines = redefines_none g.P.Pages c.args.oldest (ChangesDefinitions (listing_of (next 0))) (next 0) refusal.OutOfMemory c.args.pages.now c.args.file.now was c.define_route.new.self
          (g.met.P.Pages.keeps_refl c.args.pages.now) (inl refl) c.in_err-_number.ensures.err;
    })
