-- The index goes into memory, and then into the file or out of memory again.
use Rattle.std.proofs.Common.{◌≡◌, ◌≤◌, ◌+◌, ◌∙◌, ℕ, inl, refl, subst, sym}
use Rattle.std.proofs.lemmas.Result.{err_from_is_err_and}
use Rattle.std.specs.List.{AllByRecursion}
use Rattle.rs_catalog.specs.Changes as changes
use Rattle.rs_catalog.specs.Definitions.{AreDefinitions, Definitions, IndexItem}
use Rattle.rs_catalog_pages.specs.Items.{RouteItem}
use Rattle.rs_catalog_pages.specs.Said.{said_catalogue}
use Rattle.rs_refusal.specs.declared.refusal.Refusal.TheVariants as refusal
use Rattle.rs_store.specs.Indexing.{ChangesListed, HasIndexListed}
use Rattle.rs_store.specs.Rewriting.{Rewrites}
use Rattle.rs_stored_catalog.specs.Listing.{listing_of}
use Rattle.rs_store.proofs.Given.{given_once}
use Rattle.rs_store.proofs.IndexStates.{index_back, index_has, index_there}
use Rattle.rs_store.proofs.Indexed.{index_listed}
use Rattle.rs_store.proofs.Redefined.{err_never, ok_never}
use Rattle.rs_store.proofs.Results.{err_always, ok_always}
use Rattle.rs_store.proofs.Rewritten.{redefines_none}
use Rattle.rs_store.proofs.Settled.{births_listed}
use Rattle.rs_store.proofs.indexing.define_index_in_both.Goals as goal

pub write_index-made-requires-clause-births : goal.write_index-made-requires-clause-births
write_index-made-requires-clause-births g c =
    subst (λ (k : Definitions). AllByRecursion (λ (route : RouteItem). route.born ≤ c.args.file.now.accepted + 1) (listing_of k).routes) (sym c.in_ok-_number.ensures.ok)
    (births_listed c.args.file.now c.args.catalog.now c.requires.rests)

pub write_index-made-requires-clause-there : goal.write_index-made-requires-clause-there
write_index-made-requires-clause-there g c =
    let item : IndexItem = record { number = c.in_ok-_number._number; table = c.args.index.table.bytes; table_number = c.args.index.table_number; column = c.args.index.column } in
    index_has c.args.catalog.now c.define_index.new.self c.args.index.name.bytes item c.in_ok-_number.ensures.ok

pub write_index-made-requires-clause-more : goal.write_index-made-requires-clause-more
write_index-made-requires-clause-more g c = λ one there.
    let was = c.args.catalog.now in
    let name = c.args.index.name.bytes in
    let added = c.define_index.new.self in
    let item : IndexItem = record { number = c.in_ok-_number._number; table = c.args.index.table.bytes; table_number = c.args.index.table_number; column = c.args.index.column } in
    let of = c.requires.of in
    let placed = (c.requires.place of.table of.there).numbered in
    subst (λ (x : IndexItem). HasIndexListed name x c.args.place (said_catalogue c.args.file.now.definitions) (listing_of added)) (index_there was added name item one c.in_ok-_number.ensures.ok there)
    (index_listed c.tables_of_lines_fit_pages.ensures.index was added (said_catalogue c.args.file.now.definitions) name item c.args.place c.stand-2.ensures c.requires.rests.listing c.in_ok-_number.ensures.ok
    (c.one_index_is_listed_more_or_less.ensures.more was name item c.requires.new) of (c.requires.rests.columns c.args.index.table.bytes of.table of.there) placed
    (given_once was c.stand.ensures).tables_once)

pub returns-then-is_err : goal.returns-then-is_err
returns-then-is_err g c =
    let was = c.args.catalog.now in
    let name = c.args.index.name.bytes in
    let next : ℕ → Definitions = λ n. changes.with_index was name (record { number = n; table = c.args.index.table.bytes; table_number = c.args.index.table_number; column = c.args.index.column }) in
    let item : IndexItem = record { number = c.in_ok-_number._number; table = c.args.index.table.bytes; table_number = c.args.index.table_number; column = c.args.index.column } in
    let added = c.define_index.new.self in
    let is : added ≡ next item.number = c.in_ok-_number.ensures.ok in
    let made = c.write_index-made in
    record {
      number = item.number;
      numbered = λ some. subst AreDefinitions is c.stand-2.ensures;
      redefines = record {
        rewrites = subst (λ (n : Definitions). Rewrites g.P.Pages.is_tied g.P.Pages.store g.P.Pages.keeps c.args.oldest (ChangesListed (listing_of n)) (listing_of n) made.result c.args.pages.now made.new.pages
            c.args.file.now made.new.file) is made.ensures;
        made = ok_never (c.drop_index.new.self ≡ next item.number) made.result (sym c.is_err.ensures.value ∙ c.if-is_err.true);
        back = err_always made.result (c.drop_index.ensures ∙ index_back was added name item c.requires.new is);
      };
    }

pub returns-else-is_err : goal.returns-else-is_err
returns-else-is_err g c =
    let was = c.args.catalog.now in
    let name = c.args.index.name.bytes in
    let next : ℕ → Definitions = λ n. changes.with_index was name (record { number = n; table = c.args.index.table.bytes; table_number = c.args.index.table_number; column = c.args.index.column }) in
    let item : IndexItem = record { number = c.in_ok-_number._number; table = c.args.index.table.bytes; table_number = c.args.index.table_number; column = c.args.index.column } in
    let added = c.define_index.new.self in
    let is : added ≡ next item.number = c.in_ok-_number.ensures.ok in
    let made = c.write_index-made in
    record {
      number = item.number;
      numbered = λ some. subst AreDefinitions is c.stand-2.ensures;
      redefines = record {
        rewrites = subst (λ (n : Definitions). Rewrites g.P.Pages.is_tied g.P.Pages.store g.P.Pages.keeps c.args.oldest (ChangesListed (listing_of n)) (listing_of n) made.result c.args.pages.now made.new.pages
            c.args.file.now made.new.file) is made.ensures;
        made = ok_always {P = added ≡ next item.number} made.result is;
        back = err_never (added ≡ was) made.result (sym c.is_err.ensures.value ∙ c.if-is_err.false);
      };
    }

pub returns-in_err-_number : goal.returns-in_err-_number
returns-in_err-_number g c =
    let was = c.args.catalog.now in
    let name = c.args.index.name.bytes in
    let next : ℕ → Definitions = λ n. changes.with_index was name (record { number = n; table = c.args.index.table.bytes; table_number = c.args.index.table_number; column = c.args.index.column }) in
    let p = err_from_is_err_and c.from_residual.result c.from_residual.ensures.1 in
    rw (p.1, p.2) (record {
      number = 0;
      numbered = λ some. absurd (some refl);
      redefines = redefines_none g.P.Pages c.args.oldest (ChangesListed (listing_of (next 0))) (next 0) refusal.OutOfMemory c.args.pages.now c.args.file.now was c.define_index.new.self
          (g.met.P.Pages.keeps_refl c.args.pages.now) (inl refl) c.in_err-_number.ensures.err;
    })
