-- The table goes into memory, and then into the file or out of memory again.
use Rattle.std.proofs.Common.{◌≡◌, ◌≤◌, ◌+◌, ◌∙◌, ℕ, inl, map, refl, subst, sym}
use Rattle.std.proofs.lemmas.Result.{err_from_is_err_and}
use Rattle.std.specs.List.{AllByRecursion}
use Rattle.rs_catalog.specs.Changes as changes
use Rattle.rs_catalog.specs.Definitions.{AreDefinitions, Definitions, TableItem}
use Rattle.rs_catalog_laws.proofs.Tables.{taken_back}
use Rattle.rs_catalog_pages.specs.Items.{RouteItem}
use Rattle.rs_catalog_pages.specs.Said.{said_catalogue}
use Rattle.rs_refusal.specs.declared.refusal.Refusal.TheVariants as refusal
use Rattle.rs_store.specs.Rewriting.{Rewrites}
use Rattle.rs_store.specs.Tabling.{PutsNumbered}
use Rattle.rs_stored_catalog.specs.Listing.{listing_of}
use Rattle.rs_store.proofs.Redefined.{err_never, ok_never}
use Rattle.rs_store.proofs.Results.{err_always, ok_always}
use Rattle.rs_store.proofs.Rewritten.{redefines_none}
use Rattle.rs_store.proofs.Settled.{births_listed}
use Rattle.rs_store.proofs.Tabled.{none_there, numbered_more}
use Rattle.rs_syntax.specs.View.{column_tree}
use Rattle.rs_store.proofs.tabling.define_table_in_both.Goals as goal

pub write_table-made-requires-clause-more : goal.write_table-made-requires-clause-more
write_table-made-requires-clause-more g c =
    let was = c.args.catalog.now in
    let name = c.args.table.name.bytes in
    let item : TableItem = record { number = c.in_ok-number.number; kind = c.args.table.kind; columns = map column_tree c.args.table.columns.items } in
    numbered_more c.tables_of_lines_fit_pages.ensures.table was c.define_table.new.self (said_catalogue c.args.file.now.definitions) name item c.requires.rests.listing
    c.in_ok-number.ensures.ok (c.one_table_is_listed_more_or_less.ensures.more was name item c.requires.new) c.requires.columns

pub write_table-made-requires-clause-births : goal.write_table-made-requires-clause-births
write_table-made-requires-clause-births g c =
    subst (λ (k : Definitions). AllByRecursion (λ (route : RouteItem). route.born ≤ c.args.file.now.accepted + 1) (listing_of k).routes) (sym c.in_ok-number.ensures.ok)
    (births_listed c.args.file.now c.args.catalog.now c.requires.rests)

pub returns-then-is_err : goal.returns-then-is_err
returns-then-is_err g c =
    let was = c.args.catalog.now in
    let name = c.args.table.name.bytes in
    let next : ℕ → Definitions = λ n. changes.with_table was name (record { number = n; kind = c.args.table.kind; columns = map column_tree c.args.table.columns.items }) in
    let number = c.in_ok-number.number in
    let item : TableItem = record { number = number; kind = c.args.table.kind; columns = map column_tree c.args.table.columns.items } in
    let added = c.define_table.new.self in
    let is : added ≡ next number = c.in_ok-number.ensures.ok in
    let made = c.write_table-made in
    record {
      number = number;
      numbered = λ some. (
        subst AreDefinitions is c.stand-2.ensures,
        c.in_ok-number.ensures.least.free,
        numbered_more c.tables_of_lines_fit_pages.ensures.table was (next number) (said_catalogue c.args.file.now.definitions) name item c.requires.rests.listing refl
            (c.one_table_is_listed_more_or_less.ensures.more was name item c.requires.new) c.requires.columns,
      );
      redefines = record {
        rewrites = subst (λ (n : Definitions). Rewrites g.P.Pages.is_tied g.P.Pages.store g.P.Pages.keeps c.args.oldest (PutsNumbered number (listing_of n)) (listing_of n) made.result c.args.pages.now made.new.pages
            c.args.file.now made.new.file) is made.ensures;
        made = ok_never (c.drop_table.new.self ≡ next number) made.result (sym c.is_err.ensures.value ∙ c.if-is_err.true);
        back = err_always made.result (c.drop_table.ensures ∙ taken_back was added name item c.stand.ensures (none_there was.tables name c.requires.new) is);
      };
    }

pub returns-else-is_err : goal.returns-else-is_err
returns-else-is_err g c =
    let was = c.args.catalog.now in
    let name = c.args.table.name.bytes in
    let next : ℕ → Definitions = λ n. changes.with_table was name (record { number = n; kind = c.args.table.kind; columns = map column_tree c.args.table.columns.items }) in
    let number = c.in_ok-number.number in
    let item : TableItem = record { number = number; kind = c.args.table.kind; columns = map column_tree c.args.table.columns.items } in
    let added = c.define_table.new.self in
    let is : added ≡ next number = c.in_ok-number.ensures.ok in
    let made = c.write_table-made in
    record {
      number = number;
      numbered = λ some. (
        subst AreDefinitions is c.stand-2.ensures,
        c.in_ok-number.ensures.least.free,
        numbered_more c.tables_of_lines_fit_pages.ensures.table was (next number) (said_catalogue c.args.file.now.definitions) name item c.requires.rests.listing refl
            (c.one_table_is_listed_more_or_less.ensures.more was name item c.requires.new) c.requires.columns,
      );
      redefines = record {
        rewrites = subst (λ (n : Definitions). Rewrites g.P.Pages.is_tied g.P.Pages.store g.P.Pages.keeps c.args.oldest (PutsNumbered number (listing_of n)) (listing_of n) made.result c.args.pages.now made.new.pages
            c.args.file.now made.new.file) is made.ensures;
        made = ok_always {P = added ≡ next number} made.result is;
        back = err_never (added ≡ was) made.result (sym c.is_err.ensures.value ∙ c.if-is_err.false);
      };
    }

pub returns-in_err-number : goal.returns-in_err-number
returns-in_err-number g c =
    let was = c.args.catalog.now in
    let name = c.args.table.name.bytes in
    let next : ℕ → Definitions = λ n. changes.with_table was name (record { number = n; kind = c.args.table.kind; columns = map column_tree c.args.table.columns.items }) in
    let p = err_from_is_err_and c.from_residual.result c.from_residual.ensures.1 in
    rw (p.1, p.2) (record {
      number = 0;
      numbered = λ some. absurd (some refl);
      redefines = redefines_none g.P.Pages c.args.oldest (PutsNumbered 0 (listing_of (next 0))) (next 0) refusal.OutOfMemory c.args.pages.now c.args.file.now was c.define_table.new.self
          (g.met.P.Pages.keeps_refl c.args.pages.now) (inl refl) c.in_err-number.ensures.err;
    })
