-- A table that comes to a store: the state that it gives, and that a file can keep the definitions then.
use Rattle.std.proofs.Common.{◌≡◌, ◌≤◌, ◌<◌, ◌+◌, ◌^◌, ◌++◌, ◌∷◌, [], ◌∙◌, ℕ, List, Some, Result, Ok, Err, ap, drop, false, length, refl, slice_get, subst, suc, sym, take, true, arith}
use Rattle.std.specs.FinMap as names
use Rattle.std.specs.List.{AllZip}
use Rattle.std.specs.Option.{option_map}
use Rattle.std.specs.Prelude.{MatchResult}
use Rattle.std.specs.Result.{is_err}
use Rattle.std.proofs.lemmas.Bool.{false≢true}
use Rattle.std.proofs.lemmas.List.{length-append, length-take, take-append-drop}
use Rattle.std.proofs.lemmas.List.Elements.{All-from_recursion}
use Rattle.std.proofs.lemmas.Option.{slice_get-map}
use Rattle.rs_catalog.specs.Changes as changes
use Rattle.rs_catalog.specs.Definitions as catalog
use Rattle.rs_catalog.specs.Definitions.{AreDefinitions, Definitions, IsFree, Numbered}
use Rattle.rs_catalog.specs.Referents.{HeldReferents}
use Rattle.rs_catalog_meaning.specs.Meaning.{AreMeant}
use Rattle.rs_catalog_pages.specs.Items.{CatalogueItems, TableItem, ViewItem}
use Rattle.rs_catalog_pages.specs.Said.{said_catalogue}
use Rattle.rs_cell_versions.specs.declared.cell.TheConstants.{LIVING}
use Rattle.rs_changes.specs.Changing.{GivesState}
use Rattle.rs_changes.specs.Parts.{PutsTable}
use Rattle.rs_changes.specs.Standing.{StandsAt}
use Rattle.rs_disk.specs.declared.disk.Disk as disk
use Rattle.rs_facts.specs.Fact.{Name}
use Rattle.rs_file.specs.Contents.{Contents, IsTable, TableContents, table_numbers}
use Rattle.rs_file.specs.declared.opened.OpenedFile.{OpenedFile}
use Rattle.rs_file_meaning.specs.States.{IsViewOf}
use Rattle.rs_machine.specs.Lawful.{IsLawful}
use Rattle.rs_machine.specs.State.{State, has}
use Rattle.rs_machine.specs.Step as machine
use Rattle.rs_machine.specs.declared.limits.TheConstants.{CHANGES}
use Rattle.rs_page_owners.specs.Counts.{times}
use Rattle.rs_pager.specs.Maps.{committed}
use Rattle.rs_pages.specs.PageMap.{PageMap}
use Rattle.rs_store.specs.Kept.{StandsIn, StoreState}
use Rattle.rs_store.specs.Rewriting.{CanBeKept}
use Rattle.rs_store.specs.Tabling.{HasNumberedMore, PutsNumbered}
use Rattle.rs_stored_catalog.specs.Listing.{listing_of}
use Rattle.rs_store.proofs.Redefined.{IsLineReadable, next_lives, stands_still, texts_short}
use Rattle.rs_store.proofs.Tabled.{there_listed}
use Rattle.rs_value.specs.declared.column.ColumnType.{ColumnType}

-- ---- answers

pub of_made : {T E A : Type 0} (B : Type 0) (r : Result T E) → is_err r ≡ false → MatchResult r (λ _. A) (λ _. B) → A
of_made B (Ok x) is both = both
of_made B (Err e) is both = absurd (false≢true (sym is))

pub of_refused : {T E B : Type 0} (A : Type 0) (r : Result T E) → is_err r ≡ true → MatchResult r (λ _. A) (λ _. B) → B
of_refused A (Ok x) is both = absurd (false≢true is)
of_refused A (Err e) is both = both

-- ---- definitions that give a lawful state can be kept

pub kept_by_state : IsLineReadable → (oldest : ℕ) (old between : Contents) (next : Definitions) (held : Numbered HeldReferents) (after : State) → between.definitions ≡ listing_of next
    → GivesState oldest old between next held after → CanBeKept (listing_of next)
kept_by_state readable oldest old between next held after is gives = record {
  meant = subst AreMeant is gives.meant.definitions;
  texts = All-from_recursion (λ (view : ViewItem). length view.text < 2 ^ 16) (listing_of next).views
      (texts_short readable (listing_of next).views _ (subst (λ (items : CatalogueItems). AllZip IsViewOf items.views (names.entries next.views)) is gives.memory.catalog.views));
}

-- ---- as many tables as there are definitions

pub as_many : {X Y : Type 0} (R : X → Y → Type 0) (xs : List X) (ys : List Y) → AllZip R xs ys → length xs ≡ length ys
as_many R [] [] all = refl
as_many R [] (y ∷ ys) all = absurd all
as_many R (x ∷ xs) [] all = absurd all
as_many R (x ∷ xs) (y ∷ ys) all = ap suc (as_many R xs ys all.1)

-- ---- a table that comes

abbrev pub DefinedGives : Type 0
DefinedGives = (from oldest : ℕ) (map : PageMap) (file : OpenedFile) (definitions : Definitions) (held : Numbered HeldReferents) (state : State)
    → (stands : StandsAt from map file definitions held state) → from ≤ oldest → stands.contents.directory.accepted + 1 < LIVING
    → (name : Name) (item : catalog.TableItem) (place : ℕ) (types : List ColumnType) (between : Contents) → AreDefinitions (changes.with_table definitions name item)
    → has definitions.tables name ≡ false → IsFree (λ (table : catalog.TableItem). table.number) definitions.tables item.number
    → slice_get (table_numbers (listing_of (changes.with_table definitions name item))) place ≡ Some item.number
    → PutsTable place types (listing_of (changes.with_table definitions name item)) stands.contents between
    → IsLawful (machine.with_table state name (machine.empty_table item.kind item.columns))
    → GivesState oldest stands.contents between (changes.with_table definitions name item) held (machine.with_table state name (machine.empty_table item.kind item.columns))

module _ {D : Type 0} (d : disk.Ghosts D) (was : StoreState D) (room : was.file.accepted < CHANGES) (law : DefinedGives)
    (name : Name) (item : catalog.TableItem) (now : Definitions) (is : now ≡ changes.with_table was.catalog name item) (are : AreDefinitions now)
    (new : has was.catalog.tables name ≡ false) (free : IsFree (λ (table : catalog.TableItem). table.number) was.catalog.tables item.number) where
  abbrev after : State → State
  after state = machine.with_table state name (machine.empty_table item.kind item.columns)

  pub more_gives : (from oldest : ℕ) (state : State) (stands : StandsIn d from was state) → from ≤ oldest → IsLawful (after state) → (part : Contents)
      → PutsNumbered item.number (listing_of now) stands.contents part → GivesState oldest stands.contents part now was.referents (after state)
  more_gives from oldest state stands low lawful part puts =
      subst (λ (n : Definitions). GivesState oldest stands.contents part n was.referents (after state)) (sym is)
      (law from oldest (committed d was.pager) was.file was.catalog was.referents state (stands_still d was from state stands) low (next_lives d was from state stands room)
      name item puts.place puts.types part (subst AreDefinitions is are) new free
      (subst (λ (n : Definitions). slice_get (table_numbers (listing_of n)) puts.place ≡ Some item.number) is puts.at)
      (subst (λ (n : Definitions). PutsTable puts.place puts.types (listing_of n) stands.contents part) is puts.puts) lawful)

  module _ (was_items : CatalogueItems) (more : HasNumberedMore item.number was_items (listing_of now)) (once : (n : ℕ) → times (table_numbers (listing_of now)) n ≤ 1) where
    -- what contents would become that are so listed
    puts_one : (contents : Contents) → contents.definitions ≡ was_items → AllZip (IsTable contents.directory contents.definitions.indexes) contents.definitions.tables contents.tables
        → (part : Contents) × (PutsNumbered item.number (listing_of now) contents part) × (part.definitions ≡ listing_of now)
    puts_one contents same tables =
        let place = length more.more.tables.before in
        let many = as_many (IsTable contents.directory contents.definitions.indexes) contents.definitions.tables contents.tables tables in
        let within : place ≤ length contents.tables =
        omega (arith, many, ap (λ (items : CatalogueItems). length items.tables) same, ap length more.more.tables.was, length-append more.more.tables.before more.more.tables.after) in
        let one : TableContents = record { types = []; standing = contents.referents.standing; indexes = []; events = []; used = λ n. 0; uses = [] } in (
          record contents { definitions = listing_of now; tables = take place contents.tables ++ one ∷ drop place contents.tables },
          record {
            place = place;
            types = [];
            at = slice_get-map (λ (t : TableItem). t.number) (listing_of now).tables place
                ∙ ap (option_map (λ (t : TableItem). t.number)) (there_listed item.number was_items (listing_of now) more once) ∙ ap Some more.numbered;
            puts = record {
              before = take place contents.tables;
              table = one;
              after = drop place contents.tables;
              long = simp length-take (omega arith);
              were = sym (take-append-drop place contents.tables);
              are = refl;
              types_are = refl;
              no_events = refl;
              no_indexes = refl;
              definitions_are = refl;
              rest = refl;
            };
          },
          refl,
        )

    -- a file can keep them where the state with the table is lawful
    pub more_kept : IsLineReadable → said_catalogue was.file.definitions ≡ was_items → (from : ℕ) (state : State) → StandsIn d from was state → IsLawful (after state) → CanBeKept (listing_of now)
    more_kept readable said from state stands lawful =
        let at = stands.keeps in
        let made = puts_one stands.contents (at.opened.definitions ∙ said) at.holds.said.tables in
        kept_by_state readable from stands.contents made.0 now was.referents (after state) made.2 (more_gives from from state stands (omega arith) lawful made.0 made.1)
