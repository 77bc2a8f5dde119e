-- A table that goes from a store: how the others are listed, the state that it gives, and that a file can keep the definitions then.
use Rattle.std.proofs.Common.{◌≡◌, ◌≤◌, ◌<◌, ◌+◌, ◌==◌, ◌++◌, ◌∷◌, [], ◌∙◌, ℕ, zero, suc, Bool, List, Some, ap, cond, false, filter, length, map, not, refl, slice_get, subst, sym, true, arith}
use Rattle.std.specs.FinMap as names
use Rattle.std.specs.Option.{option_map}
use Rattle.std.proofs.lemmas.Bool.{eq-eqb, ne_eqb}
use Rattle.std.proofs.lemmas.List.{length-map}
use Rattle.std.proofs.lemmas.Option.{slice_get-map, slice_get_within}
use Rattle.rs_catalog.specs.Changes as changes
use Rattle.rs_catalog.specs.Definitions as catalog
use Rattle.rs_catalog.specs.Definitions.{AreDefinitions, Definitions, Numbered}
use Rattle.rs_catalog.specs.Referents.{HeldReferents}
use Rattle.rs_catalog.proofs.MapLaws.{before_remove}
use Rattle.rs_catalog_pages.specs.Items.{CatalogueItems, TableItem}
use Rattle.rs_catalog_pages.specs.Said.{said_catalogue}
use Rattle.rs_catalog_pages.proofs.Counting.{times-cons}
use Rattle.rs_cell_versions.specs.declared.cell.TheConstants.{LIVING}
use Rattle.rs_disk.specs.declared.disk.Disk as disk
use Rattle.rs_facts.specs.Fact.{Name, Names}
use Rattle.rs_file.specs.Contents.{Contents, IsTable, table_numbers}
use Rattle.rs_file.specs.declared.opened.OpenedFile.{OpenedFile}
use Rattle.rs_machine.specs.Lawful.{AreColumnsOfTable, Each, IsLawful}
use Rattle.rs_machine.specs.State.{State}
use Rattle.rs_machine.specs.Step as machine
use Rattle.rs_machine.specs.declared.limits.TheConstants.{CHANGES}
use Rattle.rs_page_owners.specs.Counts.{one_at, times}
use Rattle.rs_stored_catalog.specs.Listing.{listed_table, listing_of}
use Rattle.rs_stored_catalog.specs.Relisting.{LosesTable}
use Rattle.rs_changes.specs.Changing.{GivesState}
use Rattle.rs_changes.specs.Parts.{TakesTable}
use Rattle.rs_changes.specs.Standing.{StandsAt}
use Rattle.rs_changes.specs.Tables.{LosesTableAt}
use Rattle.rs_page_owners.proofs.Moving.{one_at-same}
use Rattle.rs_pager.specs.Maps.{committed}
use Rattle.rs_pages.specs.PageMap.{PageMap}
use Rattle.rs_store.specs.Kept.{StandsIn, StoreState}
use Rattle.rs_store.specs.Rewriting.{CanBeKept}
use Rattle.rs_store.specs.Tabling.{TakesNamed, without_number}
use Rattle.rs_store.proofs.Given.{place_of}
use Rattle.rs_store.proofs.Placed.{at_place, entry_there}
use Rattle.rs_store.proofs.Redefined.{IsLineReadable, stands_still}
use Rattle.rs_store.proofs.TableMore.{as_many, kept_by_state}

-- ---- the others

abbrev numbers_of : List TableItem → List ℕ
numbers_of = map (λ (t : TableItem). t.number)

abbrev is_another : ℕ → TableItem → Bool
is_another number table = not (table.number == number)

-- where no table has the number, all are left
all_left : (number : ℕ) (items : List TableItem) → times (numbers_of items) number ≡ 0 → filter (is_another number) items ≡ items
all_left number [] none = refl
all_left number (t ∷ items) none =
    let apart : t.number ≡ number → ⊥ = λ same. omega (arith, none, times-cons t.number (numbers_of items) number, ap (λ n. one_at n number) same, one_at-same number) in
    ap (λ b. cond (not b) (t ∷ filter (is_another number) items) (filter (is_another number) items)) (ne_eqb t.number number apart)
    ∙ ap (λ (l : List TableItem). t ∷ l) (all_left number items (omega (arith, none, times-cons t.number (numbers_of items) number)))

-- where one has it, the others are
others_left : (first : List TableItem) (one : TableItem) (last : List TableItem) → times (numbers_of (first ++ one ∷ last)) one.number ≤ 1
    → filter (is_another one.number) (first ++ one ∷ last) ≡ first ++ last
others_left [] one last once =
    ap (λ b. cond (not b) (one ∷ filter (is_another one.number) last) (filter (is_another one.number) last)) (eq-eqb one.number one.number refl)
    ∙ all_left one.number last (omega (arith, once, times-cons one.number (numbers_of last) one.number, one_at-same one.number))
others_left (f ∷ first) one last once =
    let rest = others_left first one last (omega (arith, once, times-cons f.number (numbers_of (first ++ one ∷ last)) one.number)) in
    let apart : f.number ≡ one.number → ⊥ = λ same.
    omega (arith, once, times-cons f.number (numbers_of (first ++ one ∷ last)) one.number, ap (λ n. one_at n one.number) same, one_at-same one.number, there_once first) in
    ap (λ b. cond (not b) (f ∷ filter (is_another one.number) (first ++ one ∷ last)) (filter (is_another one.number) (first ++ one ∷ last))) (ne_eqb f.number one.number apart)
    ∙ ap (λ (l : List TableItem). f ∷ l) rest
  where
    there_once : (before : List TableItem) → 1 ≤ times (numbers_of (before ++ one ∷ last)) one.number
    there_once [] = omega (arith, times-cons one.number (numbers_of last) one.number, one_at-same one.number)
    there_once (b ∷ before) = omega (arith, times-cons b.number (numbers_of (before ++ one ∷ last)) one.number, there_once before)

-- a catalogue without a table lists the definitions without its number
pub listed_less : (was now : CatalogueItems) (item : TableItem) → LosesTable item was now → ((n : ℕ) → times (table_numbers was) n ≤ 1) → without_number item.number was ≡ now
listed_less was now item loses once =
    let put = loses.tables in
    let left : filter (is_another item.number) was.tables ≡ now.tables =
    ap (filter (is_another item.number)) put.is
    ∙ others_left put.before item put.after (subst (λ (items : List TableItem). times (numbers_of items) item.number ≤ 1) put.is (once item.number)) ∙ sym put.was in
    let fewer = sym loses.indexes in
    (λ i. record was { tables = left i; indexes = fewer i }) ∙ sym loses.others

-- the table goes from its place
pub loses_at : (was now : CatalogueItems) (item : TableItem) (place : ℕ) → LosesTable item was now → ((n : ℕ) → times (table_numbers was) n ≤ 1) → slice_get (table_numbers was) place ≡ Some item.number
    → LosesTableAt place was now
loses_at was now item place loses once at =
    let put = loses.tables in
    record {
      item = item;
      tables = record {
        before = put.before;
        after = put.after;
        long = place_of put.before item put.after place (subst (λ (items : List TableItem). times (numbers_of items) item.number ≤ 1) put.is (once item.number))
            (subst (λ (items : List TableItem). slice_get (numbers_of items) place ≡ Some item.number) put.is at);
        was = put.was;
        is = put.is;
      };
      indexes = loses.indexes;
    }

-- where a test of each is a test of what is seen of it, those that pass are those that are seen to pass
pub passing_seen : {X Y : Type 0} (see : X → Y) (passes : Y → Bool) (xs : List X) → map see (filter (λ x. passes (see x)) xs) ≡ filter passes (map see xs)
passing_seen see passes [] = refl
passing_seen see passes (x ∷ xs) =
    let rest = passing_seen see passes xs in
    elim (passes (see x)) as (λ b. map see (cond b (x ∷ filter (λ x. passes (see x)) xs) (filter (λ x. passes (see x)) xs)) ≡ cond b (see x ∷ filter passes (map see xs)) (filter passes (map see xs))) [
      | true ↦ ap (λ l. see x ∷ l) rest
      | false ↦ rest
    ]

-- each table that is left has columns that a table may have
pub columns_less : (tables : Names catalog.TableItem) (name : Name) → Each tables (λ n table. AreColumnsOfTable table.columns) → Each (names.remove tables name) (λ n table. AreColumnsOfTable table.columns)
columns_less tables name each other table there = each other table (before_remove tables name other table there)

-- a table of the catalogue is listed at some place
pub placed_listed : (definitions : Definitions) (name : Name) (item : catalog.TableItem) → names.get definitions.tables name ≡ Some item
    → (place : ℕ) × (slice_get (table_numbers (listing_of definitions)) place ≡ Some item.number)
placed_listed definitions name item there =
    let at = at_place (names.entries definitions.tables) (name, item) (entry_there definitions.tables name item there) in (
      at.0,
      slice_get-map (λ (t : TableItem). t.number) (listing_of definitions).tables at.0
          ∙ ap (option_map (λ (t : TableItem). t.number)) (slice_get-map listed_table (names.entries definitions.tables) at.0 ∙ ap (option_map listed_table) at.1),
    )

-- ---- the state

abbrev pub DroppedGives : Type 0
DroppedGives = (from oldest : ℕ) (map : PageMap) (file : OpenedFile) (definitions : Definitions) (held : Numbered HeldReferents) (state : State)
    → (stands : StandsAt from map file definitions held state) → oldest ≡ stands.contents.directory.accepted + 1 → oldest < LIVING
    → (name : Name) (item : catalog.TableItem) (place : ℕ) (between : Contents) → AreDefinitions definitions
    → names.get definitions.tables name ≡ Some item → slice_get (table_numbers stands.contents.definitions) place ≡ Some item.number
    → TakesTable place (listing_of (changes.without_table definitions name)) stands.contents between
    → IsLawful (machine.without_table state name)
    → GivesState oldest stands.contents between (changes.without_table definitions name) held (machine.without_table state name)

-- a list in two at an element
pub record IsSplit {X : Type 0} (xs : List X) (place : ℕ) : Type 0 where
  pub before : List X
  pub one : X
  pub after : List X
  pub long : length before ≡ place
  pub is : xs ≡ before ++ one ∷ after

pub split : {X : Type 0} (xs : List X) (place : ℕ) → place < length xs → IsSplit xs place
split [] place within = absurd (omega (arith, within))
split (x ∷ xs) zero within = record { before = []; one = x; after = xs; long = refl; is = refl }
split (x ∷ xs) (suc place) within =
    let rest = split xs place (omega (arith, within)) in
    record { before = x ∷ rest.before; one = rest.one; after = rest.after; long = ap suc rest.long; is = ap (λ l. x ∷ l) rest.is }

module _ {D : Type 0} (d : disk.Ghosts D) (was : StoreState D) (room : was.file.accepted < CHANGES) (law : DroppedGives) (name : Name)
    (are : AreDefinitions was.catalog) where
  abbrev fewer : Definitions
  fewer = changes.without_table was.catalog name

  pub less_gives : (from oldest : ℕ) (state : State) (stands : StandsIn d from was state) → oldest ≡ was.file.accepted + 1 → IsLawful (machine.without_table state name) → (part : Contents)
      → TakesNamed was.catalog.tables name (listing_of (changes.without_table was.catalog name)) stands.contents part
      → GivesState oldest stands.contents part (changes.without_table was.catalog name) was.referents (machine.without_table state name)
  less_gives from oldest state stands past lawful part takes =
      let level : stands.contents.directory.accepted ≡ was.file.accepted = stands.keeps.opened.accepted in
      law from oldest (committed d was.pager) was.file was.catalog was.referents state (stands_still d was from state stands) (omega (arith, past, level)) (omega (arith, past, room))
      name takes.item takes.place part are takes.there takes.at takes.takes lawful

  -- a file can keep the definitions where the state without the table is lawful
  pub less_kept : IsLineReadable → (item : catalog.TableItem) (place : ℕ) → names.get was.catalog.tables name ≡ Some item
      → slice_get (table_numbers (said_catalogue was.file.definitions)) place ≡ Some item.number → (from : ℕ) (state : State) → StandsIn d from was state
      → IsLawful (machine.without_table state name) → CanBeKept (listing_of (changes.without_table was.catalog name))
  less_kept readable item place there placed from state stands lawful =
      let at = stands.keeps in
      let contents = stands.contents in
      let many = as_many (IsTable contents.directory contents.definitions.indexes) contents.definitions.tables contents.tables at.holds.said.tables in
      let numbered : slice_get (table_numbers contents.definitions) place ≡ Some item.number =
      ap (λ (items : CatalogueItems). slice_get (table_numbers items) place) at.opened.definitions ∙ placed in
      let inside = slice_get_within (table_numbers contents.definitions) place item.number numbered in
      let parts = split contents.tables place (omega (arith, many, inside, length-map contents.definitions.tables (λ (t : TableItem). t.number))) in
      let part : Contents = record contents { definitions = listing_of fewer; tables = parts.before ++ parts.after } in
      kept_by_state readable (was.file.accepted + 1) contents part fewer was.referents (machine.without_table state name) refl
      (less_gives from (was.file.accepted + 1) state stands refl lawful part (record {
        item = item;
        there = there;
        place = place;
        at = numbered;
        takes = record { before = parts.before; table = parts.one; after = parts.after; long = parts.long; were = parts.is; are = refl; definitions_are = refl; rest = refl };
      }))
