-- Rows that a store was given, or that were taken from it.
use Rattle.std.proofs.Common.{◌≡◌, ◌≤◌, ◌<◌, ◌+◌, ◌∙◌, ℕ, Bool, List, Result, Ok, Err, Some, ap, slice_get, subst, sym, arith}
use Rattle.std.specs.FinMap as names
use Rattle.std.specs.Prelude.{IfOk, OnOk, Option}
use Rattle.rs_catalog.specs.Definitions.{AreDefinitions, Definitions, Numbered, RouteItem, TableItem}
use Rattle.rs_catalog.specs.Events.{behind}
use Rattle.rs_catalog.specs.Referents.{HeldReferents}
use Rattle.rs_catalog_laws.proofs.Numbers.{only_of_number}
use Rattle.rs_catalog_pages.specs.Items.{CatalogueItems}
use Rattle.rs_catalog_pages.specs.Said.{said_catalogue}
use Rattle.rs_cell_versions.specs.declared.cell.TheConstants.{LIVING}
use Rattle.rs_disk.specs.declared.disk.Disk as disk
use Rattle.rs_file.specs.Contents.{Contents, table_numbers}
use Rattle.rs_file.specs.declared.opened.OpenedFile.{OpenedFile}
use Rattle.rs_spans.specs.Removal.{goes_by}
use Rattle.rs_changes.specs.Calls.{IsRowAt}
use Rattle.rs_changes.specs.Changing.{ChangesFile, Completes, GivesState}
use Rattle.rs_changes.specs.Parts.{InsertsRow, RemovesRows}
use Rattle.rs_changes.specs.Standing.{StandsAt}
use Rattle.rs_facts.specs.Fact.{Name}
use Rattle.rs_facts.specs.Insert.{new_facts}
use Rattle.rs_facts.specs.Query.{Table}
use Rattle.rs_facts.specs.Remove.{removed_facts}
use Rattle.rs_facts.specs.Runs.{Stretch}
use Rattle.rs_facts.specs.Spans.{seen}
use Rattle.rs_facts.specs.declared.condition.Condition.{Condition}
use Rattle.rs_facts.specs.declared.fact.Span.{Span}
use Rattle.rs_machine.specs.Lawful.{AreViewsMeant, IsLawful}
use Rattle.rs_machine.specs.State.{State}
use Rattle.rs_machine.specs.Step.{with_facts_along, with_table, without_facts}
use Rattle.rs_machine.specs.declared.limits.TheConstants.{CHANGES}
use Rattle.rs_pager.specs.Maps.{KeepsBelow, working}
use Rattle.rs_pager.specs.Paged.{Paged}
use Rattle.rs_pages.specs.PageMap.{PageMap}
use Rattle.rs_refusal.specs.declared.refusal.Refusal.{Refusal}
use Rattle.rs_store.specs.Changing.{HasBecome, HaveNumbers, IsRowFor, LiesOn}
use Rattle.rs_store.specs.Kept.{IsAtRest, StandsIn, StoreState}
use Rattle.rs_store.specs.Placing.{IsNumberedAt}
use Rattle.rs_store.specs.Settling.{HasBegun, IsKept, Settles}
use Rattle.rs_store.proofs.Keeping.{store_over}
use Rattle.rs_store.proofs.Placed.{numbers_at, place_of_number}
use Rattle.rs_store.proofs.Settled.{stands_at_first}
use Rattle.rs_value.specs.Values.{IsRowOf}
use Rattle.rs_value.specs.declared.column.ColumnType.{ColumnType}
use Rattle.rs_value.specs.declared.column.Kind.{Kind}

-- ---- by numbers

-- a row for the table of a number is one of what is open at its place
pub row_at : (file : OpenedFile) (catalog : Definitions) → IsAtRest file catalog → AreDefinitions catalog → (number : ℕ) (kind : Kind) (span : Span) → IsRowFor catalog number kind (seen span)
    → (place : ℕ) → IsNumberedAt file.definitions.tables.items number place → IsRowAt file place kind span
row_at file catalog rests are number kind span row place at =
    let placed = place_of_number file catalog rests are row.name row.table place row.there (subst (λ (n : ℕ). IsNumberedAt file.definitions.tables.items n place) (sym row.numbered) at) in
    record {
      there = placed.below;
      row = λ opened is. subst (λ (types : List ColumnType). IsRowOf types span.tuple) (sym (placed.types opened is)) row.row;
      placed = row.placed;
    }

module _ (catalog : Definitions) (are : AreDefinitions catalog) (name on : Name) (table route : ℕ) (have : HaveNumbers catalog name on table route) (kind : Kind) (span : Stretch) where
  -- the table is of the row's kind
  kind_for : IsRowFor catalog table kind span → have.table_item.kind ≡ kind
  kind_for row =
      ap (λ (item : TableItem). item.kind)
      (only_of_number (λ (item : TableItem). item.number) catalog.tables are.table_numbers name row.name have.table_item row.table have.table_there row.there (have.table_numbered ∙ sym row.numbered))
      ∙ row.of_kind

  -- the span lies on the route
  lies_there : LiesOn catalog kind route span → (have.route_item.ends.start ≤ span.lo) × (span.hi ≤ behind kind have.route_item.ends)
  lies_there lies =
      subst (λ (item : RouteItem). (item.ends.start ≤ span.lo) × (span.hi ≤ behind kind item.ends))
      (only_of_number (λ (item : RouteItem). item.number) catalog.routes are.route_numbers lies.name on lies.on have.route_item lies.there have.route_there (lies.numbered ∙ sym have.route_numbered))
      (lies.from, lies.upto)

-- ---- answers

-- what is so of an answer where the change was kept
pub made_and_kept : {D T : Type 0} (d : disk.Ghosts D) (P Q : T → Type 0) (result : Result T Refusal) (between last : Paged D) (changed settled : OpenedFile) → IfOk result P
    → Settles d result between last changed settled → ((answer : T) → P answer → IsKept d between last changed settled → Q answer) → IfOk result Q
made_and_kept d P Q (Ok answer) between last changed settled made settles gives = gives answer made settles
made_and_kept d P Q (Err why) between last changed settled made settles gives = tt

-- and of one that is in memory too
pub made_both : {D T H : Type 0} (d : disk.Ghosts D) (P Q : T → Type 0) (result : Result T Refusal) (between last : Paged D) (changed settled : OpenedFile) → IfOk result P → OnOk result H
    → Settles d result between last changed settled → ((answer : T) → P answer → H → IsKept d between last changed settled → Q answer) → IfOk result Q
made_both d P Q (Ok answer) between last changed settled made held settles gives = gives answer made held settles
made_both d P Q (Err why) between last changed settled made held settles gives = tt

-- what the law of a change that was kept says
abbrev pub KeptGives : {D : Type 0} → disk.Ghosts D → Type 0
KeptGives {D} d = (old : StoreState D) (first between last : Paged D) (file changed settled : OpenedFile) (catalog now : Definitions) (referents held : Numbered HeldReferents)
    → HasBegun d old (store_over d first file catalog referents) → KeepsBelow d first between → IsKept d between last changed settled
    → (from oldest : ℕ) (state next : State) (stands : StandsIn d from old state) → from ≤ oldest → oldest ≤ old.file.accepted + 1
    → (part : Contents) → Completes oldest stands.contents part (working d between) changed → GivesState oldest stands.contents part now held next → AreViewsMeant next
    → HasBecome d oldest stands.contents (store_over d last settled now held) next

abbrev pub RowPutGives : Type 0
RowPutGives = (from oldest : ℕ) (map : PageMap) (file : OpenedFile) (definitions : Definitions) (held : Numbered HeldReferents) (state : State)
    → (stands : StandsAt from map file definitions held state) → from ≤ oldest → stands.contents.directory.accepted + 1 < LIVING
    → (name route : Name) (table : TableItem) (on : RouteItem) (place : ℕ) (span : Stretch) (count : ℕ) (between : Contents)
    → names.get definitions.tables name ≡ Some table → names.get definitions.routes route ≡ Some on
    → slice_get (table_numbers stands.contents.definitions) place ≡ Some table.number
    → on.ends.start ≤ span.lo → span.hi ≤ behind table.kind on.ends
    → InsertsRow place table.kind on.number span count stands.contents between
    → (there : Table) → names.get state.tables name ≡ Some there
    → GivesState oldest stands.contents between definitions held (with_table state name (with_facts_along there route span.lo span.hi span.row))
    × (count ≡ new_facts there.facts route span.lo span.hi span.row)

abbrev pub RowsTakenGive : Type 0
RowsTakenGive = (from oldest : ℕ) (map : PageMap) (file : OpenedFile) (definitions : Definitions) (held : Numbered HeldReferents) (state : State)
    → (stands : StandsAt from map file definitions held state) → from ≤ oldest → stands.contents.directory.accepted + 1 < LIVING
    → (name route : Name) (table : TableItem) (on : RouteItem) (place lo hi : ℕ) (goes : Option Condition) (count : ℕ) (between : Contents)
    → names.get definitions.tables name ≡ Some table → names.get definitions.routes route ≡ Some on
    → slice_get (table_numbers stands.contents.definitions) place ≡ Some table.number
    → RemovesRows place on.number lo hi goes count stands.contents between
    → (there : Table) → names.get state.tables name ≡ Some there
    → GivesState oldest stands.contents between definitions held (with_table state name (without_facts there route lo hi (goes_by goes)))
    × (count ≡ removed_facts there.facts route lo hi (goes_by goes))

module _ {D : Type 0} (d : disk.Ghosts D) (old : StoreState D) (first between last : Paged D) (file changed settled : OpenedFile) (catalog : Definitions) (referents : Numbered HeldReferents)
    (begun : HasBegun d old (store_over d first file catalog referents)) (below : KeepsBelow d first between) (kept_gives : KeptGives d)
    (from oldest : ℕ) (state : State) (stands : StandsIn d from old state) (low : from ≤ oldest) (high : oldest ≤ old.file.accepted + 1) (room : old.file.accepted < CHANGES) where
  -- the next version is one that a record can live to see
  pub next_below : stands.contents.directory.accepted + 1 < LIVING
  next_below = let level : stands.contents.directory.accepted ≡ old.file.accepted = stands.keeps.opened.accepted in omega (arith, level, room)

  -- the numbers of the tables are those of what is open
  pub number_at : (place number : ℕ) → slice_get (table_numbers (said_catalogue file.definitions)) place ≡ Some number → slice_get (table_numbers stands.contents.definitions) place ≡ Some number
  number_at place number is =
      let at = begun.keeps.contents stands.contents stands.keeps in
      ap (λ (items : CatalogueItems). slice_get (table_numbers items) place) at.opened.definitions ∙ is

  -- a part of the file that gives a state gives it to the store
  pub by_part : (now : Definitions) (held : Numbered HeldReferents) (next : State) (change : Contents → Contents → Type 0)
      → ChangesFile oldest (working d first) (working d between) file changed change → ((part : Contents) → change stands.contents part → GivesState oldest stands.contents part now held next)
      → AreViewsMeant next → IsKept d between last changed settled → HasBecome d oldest stands.contents (store_over d last settled now held) next
  by_part now held next change changes gives views kept =
      let at = stands_at_first d old first between last file changed settled catalog referents begun below from state stands in
      let has = changes.each stands.contents at.holds at.opened in
      kept_gives old first between last file changed settled catalog now referents held begun below kept from oldest state next stands low high has.between has.completes
      (gives has.between has.changed) views

  -- a row that was put is there in the next version
  pub row_put : RowPutGives → AreDefinitions catalog → (name on : Name) (table route : ℕ) → HaveNumbers catalog name on table route → (kind : Kind) (place : ℕ) (span : Stretch)
      → IsRowFor catalog table kind span → LiesOn catalog kind route span → IsNumberedAt file.definitions.tables.items table place → (there : Table) → names.get state.tables name ≡ Some there
      → IsLawful (with_table state name (with_facts_along there on span.lo span.hi span.row)) → (count : ℕ)
      → ChangesFile oldest (working d first) (working d between) file changed (InsertsRow place kind route span count) → IsKept d between last changed settled
      → HasBecome d oldest stands.contents (store_over d last settled catalog referents) (with_table state name (with_facts_along there on span.lo span.hi span.row))
      × (count ≡ new_facts there.facts on span.lo span.hi span.row)
  row_put put_gives are name on table route have kind place span row lies numbered there is lawful count changes kept =
      let at = stands_at_first d old first between last file changed settled catalog referents begun below from state stands in
      let of_kind = kind_for catalog are name on table route have kind span row in
      let ends = lies_there catalog are name on table route have kind span lies in
      let changed_so = subst (λ (k : Kind). ChangesFile oldest (working d first) (working d between) file changed (InsertsRow place k have.route_item.number span count)) (sym of_kind)
      (subst (λ (n : ℕ). ChangesFile oldest (working d first) (working d between) file changed (InsertsRow place kind n span count)) (sym have.route_numbered) changes) in
      let has = changed_so.each stands.contents at.holds at.opened in
      let gives = put_gives from oldest (working d first) file catalog referents state at low next_below name on have.table_item have.route_item place span count has.between
      have.table_there have.route_there (number_at place have.table_item.number (numbers_at file table place numbered ∙ ap Some (sym have.table_numbered)))
      ends.0 (subst (λ (k : Kind). span.hi ≤ behind k have.route_item.ends) (sym of_kind) ends.1) has.changed there is in (
        kept_gives old first between last file changed settled catalog catalog referents referents begun below kept from oldest state
            (with_table state name (with_facts_along there on span.lo span.hi span.row)) stands low high has.between has.completes gives.0 lawful.views,
        gives.1,
      )

  -- rows that were taken away are not
  pub rows_taken : RowsTakenGive → (name on : Name) (table route : ℕ) → HaveNumbers catalog name on table route → (place lo hi : ℕ) (goes : Option Condition)
      → IsNumberedAt file.definitions.tables.items table place → (there : Table) → names.get state.tables name ≡ Some there
      → IsLawful (with_table state name (without_facts there on lo hi (goes_by goes))) → (count : ℕ)
      → ChangesFile oldest (working d first) (working d between) file changed (RemovesRows place route lo hi goes count) → IsKept d between last changed settled
      → HasBecome d oldest stands.contents (store_over d last settled catalog referents) (with_table state name (without_facts there on lo hi (goes_by goes)))
      × (count ≡ removed_facts there.facts on lo hi (goes_by goes))
  rows_taken taken_give name on table route have place lo hi goes numbered there is lawful count changes kept =
      let at = stands_at_first d old first between last file changed settled catalog referents begun below from state stands in
      let changed_so = subst (λ (n : ℕ). ChangesFile oldest (working d first) (working d between) file changed (RemovesRows place n lo hi goes count)) (sym have.route_numbered) changes in
      let has = changed_so.each stands.contents at.holds at.opened in
      let gives = taken_give from oldest (working d first) file catalog referents state at low next_below name on have.table_item have.route_item place lo hi goes count has.between
      have.table_there have.route_there (number_at place have.table_item.number (numbers_at file table place numbered ∙ ap Some (sym have.table_numbered))) has.changed there is in (
        kept_gives old first between last file changed settled catalog catalog referents referents begun below kept from oldest state
            (with_table state name (without_facts there on lo hi (goes_by goes))) stands low high has.between has.completes gives.0 lawful.views,
        gives.1,
      )
