-- An index that comes to a store or goes: the state that it gives, and that a file can keep the definitions then.
use Rattle.std.proofs.Common.{◌≡◌, ◌≤◌, ◌<◌, ◌+◌, ◌++◌, ◌∷◌, ◌∙◌, ℕ, Some, ap, cond, false, is_some, refl, slice_get, subst, sym, true, arith}
use Rattle.std.specs.FinMap as names
use Rattle.std.specs.FinMap.{get-insert}
use Rattle.std.proofs.lemmas.List.{length-map}
use Rattle.std.proofs.lemmas.Option.{same_Some, slice_get_within}
use Rattle.rs_catalog.specs.Changes as changes
use Rattle.rs_catalog.specs.Definitions as catalog
use Rattle.rs_catalog.specs.Definitions.{AreDefinitions, Definitions, Numbered, indexed_column}
use Rattle.rs_catalog.specs.Referents.{HeldReferents}
use Rattle.rs_catalog.proofs.NameOrder.{name_cmp-total}
use Rattle.rs_catalog_pages.specs.Items.{CatalogueItems, TableItem}
use Rattle.rs_catalog_pages.specs.Said.{said_catalogue}
use Rattle.rs_cell_versions.specs.declared.cell.TheConstants.{LIVING}
use Rattle.rs_changes.specs.Changing.{GivesState}
use Rattle.rs_changes.specs.Parts.{ChangesIndexes}
use Rattle.rs_changes.specs.Standing.{StandsAt}
use Rattle.rs_disk.specs.declared.disk.Disk as disk
use Rattle.rs_facts.specs.Fact.{Name, Names}
use Rattle.rs_file.specs.Contents.{Contents, IsTable, table_numbers}
use Rattle.rs_file.specs.declared.opened.OpenedFile.{OpenedFile}
use Rattle.rs_file_meaning.proofs.Named.{itself}
use Rattle.rs_machine.specs.Lawful.{IsLawful}
use Rattle.rs_machine.specs.State.{State, has}
use Rattle.rs_machine.specs.Step as machine
use Rattle.rs_machine.specs.declared.limits.TheConstants.{CHANGES}
use Rattle.rs_pager.specs.Maps.{committed}
use Rattle.rs_pages.specs.PageMap.{PageMap}
use Rattle.rs_store.specs.Indexing.{ChangesListed}
use Rattle.rs_store.specs.Kept.{StandsIn, StoreState}
use Rattle.rs_store.specs.Rewriting.{CanBeKept}
use Rattle.rs_stored_catalog.specs.Listing.{listing_of}
use Rattle.rs_store.proofs.Redefined.{IsLineReadable, next_lives, stands_still}
use Rattle.rs_store.proofs.Referred.{taken_again}
use Rattle.rs_store.proofs.TableLess.{split}
use Rattle.rs_store.proofs.TableMore.{as_many, kept_by_state}

inserted_there : {X : Type 0} (values : Names X) (name : Name) (x : X) → names.get (names.insert values name x) name ≡ Some x
inserted_there values name x = get-insert name_cmp-total values name x name ∙ ap (λ b. cond b (Some x) (names.get values name)) (itself name)

-- an index that was defined is there, and goes out again
pub index_there : (before now : Definitions) (name : Name) (item one : catalog.IndexItem) → now ≡ changes.with_index before name item → names.get now.indexes name ≡ Some one → item ≡ one
index_there before now name item one is there =
    same_Some item one (sym (inserted_there before.indexes name item) ∙ ap (λ (d : Definitions). names.get d.indexes name) (sym is) ∙ there)

pub index_has : (before now : Definitions) (name : Name) (item : catalog.IndexItem) → now ≡ changes.with_index before name item → has now.indexes name ≡ true
index_has before now name item is = ap (λ (d : Definitions). has d.indexes name) is ∙ ap is_some (inserted_there before.indexes name item)

pub index_back : (before now : Definitions) (name : Name) (item : catalog.IndexItem) → has before.indexes name ≡ false → now ≡ changes.with_index before name item → changes.without_index now name ≡ before
index_back before now name item new is =
    let back = taken_again before.indexes name item new in
    ap (λ (d : Definitions). changes.without_index d name) is
    ∙ (λ i. record { routes = before.routes; tables = before.tables; indexes = back i; views = before.views; alignments = before.alignments })

abbrev pub IndexDefinedGives : Type 0
IndexDefinedGives = (from oldest : ℕ) (map : PageMap) (file : OpenedFile) (definitions : Definitions) (held : Numbered HeldReferents) (state : State)
    → (stands : StandsAt from map file definitions held state) → from ≤ oldest → stands.contents.directory.accepted + 1 < LIVING
    → (name : Name) (item : catalog.IndexItem) (place : ℕ) (between : Contents) → AreDefinitions (changes.with_index definitions name item)
    → has definitions.indexes name ≡ false
    → ChangesIndexes place (listing_of (changes.with_index definitions name item)) stands.contents between
    → IsLawful (machine.with_index state name (indexed_column item))
    → GivesState oldest stands.contents between (changes.with_index definitions name item) held (machine.with_index state name (indexed_column item))

abbrev pub IndexDroppedGives : Type 0
IndexDroppedGives = (from oldest : ℕ) (map : PageMap) (file : OpenedFile) (definitions : Definitions) (held : Numbered HeldReferents) (state : State)
    → (stands : StandsAt from map file definitions held state) → from ≤ oldest → stands.contents.directory.accepted + 1 < LIVING
    → (name : Name) (item : catalog.IndexItem) (place : ℕ) (between : Contents) → names.get definitions.indexes name ≡ Some item
    → ChangesIndexes place (listing_of (changes.without_index definitions name)) stands.contents between
    → IsLawful (machine.without_index state name)
    → GivesState oldest stands.contents between (changes.without_index definitions name) held (machine.without_index state name)

module _ {D : Type 0} (d : disk.Ghosts D) (was : StoreState D) where
  -- what other indexes give
  abbrev pub IndexesGive : Definitions → (State → State) → Type 0
  IndexesGive now after = (from oldest : ℕ) (state : State) (stands : StandsIn d from was state) → from ≤ oldest → IsLawful (after state) → (part : Contents)
      → ChangesListed (listing_of now) stands.contents part → GivesState oldest stands.contents part now was.referents (after state)

  -- a file can keep the definitions where the state with other indexes is lawful
  pub indexes_kept : (now : Definitions) (after : State → State) → IndexesGive now after → IsLineReadable → (place number : ℕ)
      → slice_get (table_numbers (said_catalogue was.file.definitions)) place ≡ Some number → (from : ℕ) (state : State) → StandsIn d from was state
      → IsLawful (after state) → CanBeKept (listing_of now)
  indexes_kept now after gives readable place number placed from state stands lawful =
      let at = stands.keeps in
      let contents = stands.contents in
      let many = as_many (IsTable contents.directory contents.definitions.indexes) contents.definitions.tables contents.tables at.holds.said.tables in
      let numbered : slice_get (table_numbers contents.definitions) place ≡ Some number =
      ap (λ (items : CatalogueItems). slice_get (table_numbers items) place) at.opened.definitions ∙ placed in
      let inside = slice_get_within (table_numbers contents.definitions) place number numbered in
      let parts = split contents.tables place (omega (arith, many, inside, length-map contents.definitions.tables (λ (t : TableItem). t.number))) in
      let part : Contents = record contents { definitions = listing_of now; tables = parts.before ++ parts.one ∷ parts.after } in
      kept_by_state readable from contents part now was.referents (after state) refl
      (gives from from state stands (omega arith) lawful part (record {
        place = place;
        changes = record {
          before = parts.before;
          table = parts.one;
          next = parts.one;
          after = parts.after;
          long = parts.long;
          were = parts.is;
          are = refl;
          types = refl;
          events = refl;
          definitions_are = refl;
          rest = refl;
        };
      }))

  pub index_gives : was.file.accepted < CHANGES → IndexDefinedGives → (name : Name) (item : catalog.IndexItem) (now : Definitions) → now ≡ changes.with_index was.catalog name item → AreDefinitions now
      → has was.catalog.indexes name ≡ false → IndexesGive now (λ state. machine.with_index state name (indexed_column item))
  index_gives room law name item now is are new = λ from oldest state stands low lawful part changed.
      subst (λ (n : Definitions). GivesState oldest stands.contents part n was.referents (machine.with_index state name (indexed_column item))) (sym is)
      (law from oldest (committed d was.pager) was.file was.catalog was.referents state (stands_still d was from state stands) low (next_lives d was from state stands room)
      name item changed.place part (subst AreDefinitions is are) new (subst (λ (n : Definitions). ChangesIndexes changed.place (listing_of n) stands.contents part) is changed.changes) lawful)

  pub index_goes : was.file.accepted < CHANGES → IndexDroppedGives → (name : Name) (item : catalog.IndexItem) → names.get was.catalog.indexes name ≡ Some item
      → IndexesGive (changes.without_index was.catalog name) (λ state. machine.without_index state name)
  index_goes room law name item there = λ from oldest state stands low lawful part changed.
      law from oldest (committed d was.pager) was.file was.catalog was.referents state (stands_still d was from state stands) low (next_lives d was from state stands room)
      name item changed.place part there changed.changes lawful
