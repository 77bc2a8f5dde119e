-- What came into memory and was refused by the file is out of it again.
use Rattle.std.proofs.Common.{◌≡◌, ◌≤◌, ◌+◌, ◌∙◌, refl, string_bytes, ap, inl, subst, sym}
use Rattle.std.proofs.lemmas.Result.{err_from_is_err_and}
use Rattle.std.specs.List.{AllByRecursion}
use Rattle.rs_catalog.specs.Changes as changes
use Rattle.rs_catalog.specs.Definitions.{Definitions, ViewItem}
use Rattle.rs_catalog_pages.specs.Items.{RouteItem}
use Rattle.rs_facts.specs.Fact.{Names}
use Rattle.rs_file_parts.specs.Calls.{ChangesDefinitions}
use Rattle.rs_refusal.specs.declared.refusal.Refusal.TheVariants as refusal
use Rattle.rs_store.specs.Rewriting.{Rewrites}
use Rattle.rs_stored_catalog.specs.Listing.{listing_of}
use Rattle.rs_store.proofs.Redefined.{err_never, ok_never}
use Rattle.rs_store.proofs.Referred.{taken_again}
use Rattle.rs_store.proofs.Results.{err_always, ok_always}
use Rattle.rs_store.proofs.Rewritten.{redefines_none}
use Rattle.rs_store.proofs.Settled.{births_listed}
use Rattle.rs_store.proofs.defining.define_view_in_both.Goals as goal

pub write_definitions_of-made-requires-clause-births : goal.write_definitions_of-made-requires-clause-births
write_definitions_of-made-requires-clause-births g c =
    subst (λ (k : Definitions). AllByRecursion (λ (route : RouteItem). route.born ≤ c.args.file.now.accepted + 1) (listing_of k).routes) (sym c.in_ok-define_view.ensures.ok)
    (births_listed c.args.file.now c.args.catalog.now c.requires.rests)

pub returns-then-is_err : goal.returns-then-is_err
returns-then-is_err g c =
    let was = c.args.catalog.now in
    let item : ViewItem = record { query = c.args.view.query; text = string_bytes c.args.view.text } in
    let next = changes.with_view was c.args.view.name.bytes item in
    let made = c.write_definitions_of-made in
    record {
      rewrites = subst (λ (n : Definitions). Rewrites g.P.Pages.is_tied g.P.Pages.store g.P.Pages.keeps c.args.oldest (ChangesDefinitions (listing_of n)) (listing_of n) made.result c.args.pages.now made.new.pages
          c.args.file.now made.new.file) c.in_ok-define_view.ensures.ok made.ensures;
      made = ok_never (c.drop_view.new.self ≡ next) made.result (sym c.is_err.ensures.value ∙ c.if-is_err.true);
      back = err_always made.result (c.drop_view.ensures ∙ ap (λ (n : Definitions). changes.without_view n c.args.view.name.bytes) c.in_ok-define_view.ensures.ok
          ∙ ap (λ (views : Names ViewItem). record was { views = views }) (taken_again was.views c.args.view.name.bytes item c.requires.new));
    }

pub returns-else-is_err : goal.returns-else-is_err
returns-else-is_err g c =
    let was = c.args.catalog.now in
    let next = changes.with_view was c.args.view.name.bytes (record { query = c.args.view.query; text = string_bytes c.args.view.text }) in
    let made = c.write_definitions_of-made in
    record {
      rewrites = subst (λ (n : Definitions). Rewrites g.P.Pages.is_tied g.P.Pages.store g.P.Pages.keeps c.args.oldest (ChangesDefinitions (listing_of n)) (listing_of n) made.result c.args.pages.now made.new.pages
          c.args.file.now made.new.file) c.in_ok-define_view.ensures.ok made.ensures;
      made = ok_always {P = c.define_view.new.self ≡ next} made.result c.in_ok-define_view.ensures.ok;
      back = err_never (c.define_view.new.self ≡ was) made.result (sym c.is_err.ensures.value ∙ c.if-is_err.false);
    }

pub returns-in_err-define_view : goal.returns-in_err-define_view
returns-in_err-define_view g c =
    let was = c.args.catalog.now in
    let item : ViewItem = record { query = c.args.view.query; text = string_bytes c.args.view.text } in
    let next = changes.with_view was c.args.view.name.bytes item in
    let p = err_from_is_err_and c.from_residual.result c.from_residual.ensures.1 in
    rw (p.1, p.2) (redefines_none g.P.Pages c.args.oldest (ChangesDefinitions (listing_of next)) next refusal.OutOfMemory c.args.pages.now c.args.file.now was c.define_view.new.self
    (g.met.P.Pages.keeps_refl c.args.pages.now) (inl refl) c.in_err-define_view.ensures.err)
