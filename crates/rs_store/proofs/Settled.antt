-- A change that was made or refused, as a store has it once its pages are kept or taken back.
use Rattle.std.proofs.Common.{◌≡◌, ◌≤◌, ◌+◌, ◌∙◌, ℕ, Bool, List, [], ◌∷◌, Result, Ok, Err, Some, length, true, ap, inl, inr, refl, subst, sym, arith, Option, None, false}
use Rattle.std.proofs.lemmas.List.Sums.{sum_by-cons}
use Rattle.std.specs.FinMap as names
use Rattle.std.specs.List.{AllByRecursion, AllZip, sum_by}
use Rattle.std.specs.Prelude.{◌*◌, ◌<◌, ◌==◌, ◌^◌, OnErr, OnOk, filter}
use Rattle.rs_attr.specs.Entries.{Field, IsColumn}
use Rattle.rs_attr.specs.Tables.{IndexState}
use Rattle.rs_catalog.specs.Definitions.{Definitions, Numbered}
use Rattle.rs_catalog.specs.Referents.{HeldReferents, referents_on}
use Rattle.rs_catalog_pages.specs.Directory.{DirectoryItems, HasDirectory}
use Rattle.rs_catalog_pages.specs.Items.{CatalogueItems, IndexItem, RouteItem, TableItem}
use Rattle.rs_catalog_pages.specs.Said.{said_catalogue}
use Rattle.rs_catalog_pages.specs.Storing.{StoresAfter}
use Rattle.rs_catalog_pages.specs.declared.items.StoredCatalogue.{StoredCatalogue}
use Rattle.rs_cell_versions.specs.Version.{HaveDiedBy}
use Rattle.rs_file.specs.Contents.{AreNumbered, Contents, HoldsAll, HoldsParts, IsIndex, IsTable, SameContents, SameTable, TableContents, index_roots}
use Rattle.rs_file.specs.declared.opened.OpenedFile.{OpenedFile}
use Rattle.rs_file.specs.declared.opened.OpenedTable.{OpenedTable}
use Rattle.rs_disk.specs.Content.{Content}
use Rattle.rs_disk.specs.declared.disk.Disk as disk
use Rattle.rs_file.proofs.Loaded.{same_map}
use Rattle.rs_file_parts.specs.Clearing.{ClearsReferents, ClearsTable, records_in}
use Rattle.rs_file_parts.specs.Parts as parts
use Rattle.rs_file_parts.specs.Parts.{HaveAllDiedBy, IsAsItWas, IsCommitted, IsReady, KeepsCommitted, SameOpened}
use Rattle.rs_stored_catalog.specs.Listing.{listing_of}
use Rattle.rs_file_parts.proofs.AsItWas.{still_opened}
use Rattle.rs_file_parts.proofs.Lists.{each_then}
use Rattle.rs_file_parts.proofs.Ready.{ready_after}
use Rattle.rs_machine.specs.Lawful.{AreViewsMeant}
use Rattle.rs_machine.specs.State.{State}
use Rattle.rs_machine.specs.declared.limits.TheConstants.{CHANGES}
use Rattle.rs_pager.specs.Maps.{IsTied, KeepsBelow, committed, pager_store, working}
use Rattle.rs_pager.specs.Opened.{Abandons, Commits}
use Rattle.rs_pager.specs.Paged.{Paged, held}
use Rattle.rs_pages.specs.PageMap.{PageMap}
use Rattle.rs_pages.proofs.Stores.{SamePages-trans}
use Rattle.rs_refusal.specs.Counts.{counted_on}
use Rattle.rs_refusal.specs.declared.refusal.Refusal.{Refusal}
use Rattle.rs_changes.specs.Changing.{Becomes, ClearsEnough, Completes, GivesState, HoldsNoFile}
use Rattle.rs_changes.specs.Standing.{AreInMemory, IsOpenedFile, StandsAt}
use Rattle.rs_changes.specs.Calls.{IsNext, MayChange}
use Rattle.rs_file_meaning.specs.Live.{KeepsEvents, KeepsLive, KeepsRecords, KeepsReferents}
use Rattle.rs_file_meaning.specs.States.{AreDefinitionsAt}
use Rattle.rs_refusal.specs.declared.refusal.Refusal.TheVariants as refusal
use Rattle.rs_store.specs.Bracket.{BeginsChange, ComesToRest}
use Rattle.rs_store.specs.Changing.{HasBecome, LeavesStore}
use Rattle.rs_store.specs.Kept.{IsAtRest, Keeps, StandsIn, StoreState}
use Rattle.rs_store.specs.Settling.{HasBegun, IsFileKept, IsFileTakenBack, IsKept, IsTakenBack, Settles}
use Rattle.rs_store.proofs.Enduring.{lasts_kept, lasts_taken_back}
use Rattle.rs_store.proofs.HeldChanges.{still_as_it_was, still_taken_back}
use Rattle.rs_store.proofs.Keeping.{pages_back, store_over}
use Rattle.rs_store.proofs.Same.{SameMeant, SameSays, SameState, meant_moves, same_accepted, state_moves}
use Rattle.rs_value.specs.declared.column.ColumnType.{ColumnType}
use Rattle.rs_versioned.specs.Events.{Event, event_width, kept_events}
use Rattle.rs_versioned.specs.Records.{HasCleared}
use Rattle.rs_versioned.specs.Referents.{ReferentRecord, referents_at}
use Rattle.rs_versioned.specs.Tables.{EventTableState, ReferentTableState}

-- ---- contents that are the same

indexes_same : (types : List ColumnType) (directory : DirectoryItems) (items : List IndexItem) (one other : List IndexState) → index_roots one ≡ index_roots other
    → AllZip (IsIndex types directory) items one → AllZip (IsIndex types directory) items other
indexes_same types directory [] [] [] same are = tt
indexes_same types directory [] [] (o ∷ os) same are = absurd cc
indexes_same types directory [] (i ∷ is) other same are = absurd are
indexes_same types directory (t ∷ ts) [] other same are = absurd are
indexes_same types directory (t ∷ ts) (i ∷ is) [] same are = absurd cc
indexes_same types directory (t ∷ ts) (i ∷ is) (o ∷ os) same are =
    let first : (i.field, i.working) ≡ (o.field, o.working) = cc in
    let field : i.field ≡ o.field = ap (λ (p : Field × ℕ). p.0) first in
    let root : i.working ≡ o.working = ap (λ (p : Field × ℕ). p.1) first in
    let rest : index_roots is ≡ index_roots os = cc in (
      record {
        column = subst (λ (f : Field). IsColumn types t.column f) field are.0.column;
        fits = are.0.fits;
        root = are.0.root ∙ ap Some root;
      },
      indexes_same types directory ts is os rest are.1,
    )

table_same : (directory : DirectoryItems) (items : List IndexItem) (item : TableItem) (one other : TableContents) → SameTable one other
    → IsTable directory items item one → IsTable directory items item other
table_same directory items item one other same is = record {
  few = is.few;
  types = sym same.types ∙ is.types;
  fits = subst (λ (types : List ColumnType). 3 * (8 + event_width types) ≤ 4080) same.types is.fits;
  stands = is.stands ∙ ap Some same.stands;
  indexes = indexes_same other.types directory (filter (λ (index : IndexItem). index.table == item.number) items) one.indexes other.indexes same.indexes
      (subst (λ (types : List ColumnType). AllZip (IsIndex types directory) (filter (λ (index : IndexItem). index.table == item.number) items) one.indexes) same.types is.indexes);
}

tables_same : (directory : DirectoryItems) (indexes : List IndexItem) (items : List TableItem) (one other : List TableContents) → AllZip SameTable one other
    → AllZip (IsTable directory indexes) items one → AllZip (IsTable directory indexes) items other
tables_same directory indexes items one other same are =
    each_then (IsTable directory indexes) SameTable (IsTable directory indexes) (λ item a b is alike. table_same directory indexes item a b alike is) items one other are same

-- parts that lie there make the whole again
pub holds_same : (map : PageMap) (one other : Contents) → SameContents one other → HoldsAll map one → HoldsParts map one.directory.accepted other → HoldsAll map other
holds_same map one other same holds parts_lie = record {
  directory = subst (λ (directory : DirectoryItems). HasDirectory map directory) same.directory holds.directory;
  said = record {
    numbered = subst (λ (directory : DirectoryItems). AreNumbered other.definitions directory) same.directory
        (subst (λ (items : CatalogueItems). AreNumbered items one.directory) same.definitions holds.said.numbered);
    tables = subst (λ (directory : DirectoryItems). AllZip (IsTable directory other.definitions.indexes) other.definitions.tables other.tables) same.directory
        (subst (λ (items : CatalogueItems). AllZip (IsTable one.directory items.indexes) items.tables other.tables) same.definitions
        (tables_same one.directory one.definitions.indexes one.definitions.tables one.tables other.tables same.tables holds.said.tables));
    referents = ap (λ (directory : DirectoryItems). directory.referents) (sym same.directory) ∙ holds.said.referents ∙ same.referents_stand;
  };
  limit = subst (λ (directory : DirectoryItems). directory.accepted < 2 ^ 63) same.directory holds.limit;
  routes = subst (λ (directory : DirectoryItems). AllByRecursion (λ route. route.born ≤ directory.accepted) other.definitions.routes) same.directory
      (subst (λ (items : CatalogueItems). AllByRecursion (λ route. route.born ≤ one.directory.accepted) items.routes) same.definitions holds.routes);
  parts = subst (λ (directory : DirectoryItems). HoldsParts map directory.accepted other) same.directory parts_lie;
}

pub memory_same : (now : Definitions) (held : Numbered HeldReferents) (one other : Contents) → SameContents one other → AreInMemory now held one → AreInMemory now held other
memory_same now held one other same memory =
    let level = same_accepted one other same in
    record {
      catalog = subst (λ (n : ℕ). AreDefinitionsAt n other.definitions now) level
          (subst (λ (items : CatalogueItems). AreDefinitionsAt one.directory.accepted items now) same.definitions memory.catalog);
      referents = λ route. memory.referents route
          ∙ ap (λ (rs : List ReferentRecord). names.from_entries (referents_at one.directory.accepted route rs)) same.referents
          ∙ ap (λ (n : ℕ). names.from_entries (referents_at n route other.referents.referents)) level;
    }

pub clears_table : (oldest : ℕ) (was is other : TableContents) → ClearsTable oldest was is → SameTable is other → ClearsTable oldest was other
clears_table oldest was is other clears same = record {
  types = sym same.types ∙ clears.types;
  cells = clears.cells;
  cleared = subst (λ (events : List Event). HasCleared (kept_events was.types) oldest clears.cells was.events events) same.events clears.cleared;
}

events_same : (xs ys : List TableContents) → AllZip SameTable xs ys → sum_by (λ (t : TableContents). length t.events) xs ≡ sum_by (λ (t : TableContents). length t.events) ys
events_same [] [] all = refl
events_same [] (y ∷ ys) all = absurd all
events_same (x ∷ xs) [] all = absurd all
events_same (x ∷ xs) (y ∷ ys) all =
    let weigh : TableContents → ℕ = λ t. length t.events in
    omega (arith, sum_by-cons weigh x xs, sum_by-cons weigh y ys, ap length all.0.events, events_same xs ys all.1)

pub records_same : (one other : Contents) → SameContents one other → records_in one ≡ records_in other
records_same one other same = omega (arith, events_same one.tables other.tables same.tables, ap length same.referents)

clears_same : (oldest : ℕ) (old between one other : Contents) → SameContents one other → ClearsEnough oldest old between one → ClearsEnough oldest old between other
clears_same oldest old between one other same clears = record {
  most = clears.most;
  gone = clears.gone;
  least = clears.least;
  few = clears.few;
  cleared = record {
    parts = record {
      definitions = sym same.definitions ∙ clears.cleared.parts.definitions;
      directory = refl;
      tables = each_then (ClearsTable oldest) SameTable (ClearsTable oldest) (clears_table oldest) between.tables one.tables other.tables clears.cleared.parts.tables same.tables;
      referents = subst (λ (rs : List ReferentRecord). ClearsReferents oldest between.referents.referents rs) same.referents clears.cleared.parts.referents;
    };
    many = omega (arith, clears.cleared.many, records_same one other same);
    as_many = clears.cleared.as_many;
  };
}

-- ---- what laws say

abbrev pub LiveJoined : Type 0
LiveJoined = (oldest : ℕ) (old next now : Contents) → KeepsLive oldest old next → KeepsLive oldest next now → old.directory.accepted ≤ next.directory.accepted → KeepsLive oldest old now

abbrev pub LiveByRecords : Type 0
LiveByRecords = (oldest : ℕ) (old now : Contents) → KeepsRecords oldest old now → KeepsLive oldest old now

abbrev pub EventsStay : Type 0
EventsStay = (oldest accepted : ℕ) (events : List Event) → KeepsEvents oldest accepted events events

abbrev pub ReferentsStay : Type 0
ReferentsStay = (oldest accepted : ℕ) (referents : List ReferentRecord) → KeepsReferents oldest accepted referents referents

abbrev pub CompletedHasState : Type 0
CompletedHasState = (from oldest : ℕ) (map new : PageMap) (was is : OpenedFile) (definitions now : Definitions) (held kept : Numbered HeldReferents) (state next : State)
    → (stands : StandsAt from map was definitions held state) → from ≤ oldest → oldest ≤ stands.contents.directory.accepted + 1
    → (between : Contents) → Completes oldest stands.contents between new is → GivesState oldest stands.contents between now kept next
    → AreViewsMeant next → Becomes oldest stands.contents new is now kept next

module _ (events_stay : EventsStay) (referents_stay : ReferentsStay) (by_records : LiveByRecords) (joined : LiveJoined) where
  tables_live : (oldest accepted : ℕ) (one other : List TableContents) → AllZip SameTable one other → AllZip (λ was is. KeepsEvents oldest accepted was.events is.events) one other
  tables_live oldest accepted [] [] same = tt
  tables_live oldest accepted [] (o ∷ os) same = absurd same
  tables_live oldest accepted (i ∷ is) [] same = absurd same
  tables_live oldest accepted (i ∷ is) (o ∷ os) same = (
    subst (λ (events : List Event). KeepsEvents oldest accepted i.events events) same.0.events (events_stay oldest accepted i.events),
    tables_live oldest accepted is os same.1,
  )

  pub live_same : (oldest : ℕ) (old one other : Contents) → SameContents one other → KeepsLive oldest old one → old.directory.accepted ≤ one.directory.accepted → KeepsLive oldest old other
  live_same oldest old one other same live later =
      let level = one.directory.accepted in
      joined oldest old one other live (by_records oldest one other (record {
        definitions = sym same.definitions;
        tables = tables_live oldest level one.tables other.tables same.tables;
        referents = subst (λ (rs : List ReferentRecord). KeepsReferents oldest level one.referents.referents rs) same.referents
            (referents_stay oldest level one.referents.referents);
      })) later

-- ---- what is open

pub parts_of : (file : OpenedFile) (contents : Contents) → IsOpenedFile file contents → parts.IsOpenedFile file contents
parts_of file contents opened = record { definitions = opened.definitions; pages = opened.pages; tables = opened.tables; referents = opened.referents }

pub as_it_was : (was is : OpenedFile) (contents : Contents) → IsAsItWas was is → IsOpenedFile was contents → IsOpenedFile is contents
as_it_was was is contents same opened =
    let still = still_opened was is contents same (parts_of was contents opened) in
    record { definitions = still.definitions; pages = still.pages; tables = still.tables; referents = still.referents; accepted = opened.accepted ∙ sym same.accepted }

-- ---- a store whose changes were begun

module _ {D : Type 0} (d : disk.Ghosts D) where
  -- changes that were begun, over what was open and in memory
  pub has_begun : (was : StoreState D) (first : Paged D) → BeginsChange d (Ok tt) was.pager first
      → HasBegun d was (store_over d first was.file was.catalog was.referents)
  has_begun was first begins = record {
    keeps = begins.keeps was.file was.catalog was.referents;
    begins = begins.begins;
    failures = begins.count;
  }

  -- no change was begun, since there was no memory or the disk failed
  pub left_unbegun : {may : State → Type 0} {T : Type 0} (why : Refusal) (was : StoreState D) (first : Paged D)
      → BeginsChange d (Err why) was.pager first → LeavesStore d may {T = T} (Err why) was (store_over d first was.file was.catalog was.referents)
  left_unbegun why was first begins =
      let keeps = begins.keeps was.file was.catalog was.referents in
      record {
        stays = keeps.contents;
        cause = elim begins.refused [ inl memory ↦ inl memory | inr failed ↦ inr (inl failed) ];
        sound = λ from state stands allowed is.
            let e : why ≡ refusal.DamagedFile = cc in
            elim begins.refused [ inl memory ↦ absurd (cc (e, memory)) | inr failed ↦ absurd (cc (e, failed)) ];
        catalog = refl;
        referents = λ route. refl;
        opened = still_as_it_was was.file was.file refl;
        changes = begins.unbegun;
        accepted = refl;
        failures = begins.count;
        full = record {
          full = λ is. elim begins.refused [ inl memory ↦ absurd (cc (is, memory)) | inr failed ↦ absurd (cc (is, failed)) ];
          other = λ isnt. omega (arith, keeps.full);
        };
        honesty = keeps.honesty;
        limit = keeps.limit;
        lasts = keeps.endures.lasts;
      }

  module _ (old : StoreState D) (first between last : Paged D) (file changed settled : OpenedFile) (catalog : Definitions) (referents : Numbered HeldReferents)
      (begun : HasBegun d old (store_over d first file catalog referents)) (below : KeepsBelow d first between) where
    -- the store once the change is kept or taken back
    abbrev pub after : Definitions → Numbered HeldReferents → StoreState D
    after now held = store_over d last settled now held

    -- what the pages held as changes began
    pub at_first : (contents : Contents) → Keeps d old contents → HoldsAll (working d first) contents
    at_first contents kept =
        let at = begun.keeps.contents contents kept in
        subst (λ (m : PageMap). HoldsAll m contents) (sym (same_map (working d first) (committed d first) at.same)) at.holds

    keeps_taken_back : (contents : Contents) (now : Definitions) (held : Numbered HeldReferents) → Keeps d old contents → KeepsCommitted file changed → IsCommitted file
        → IsTakenBack d between last changed settled → now ≡ catalog → ((route : ℕ) → referents_on held route ≡ referents_on referents route) → Keeps d (after now held) contents
    keeps_taken_back contents now held kept keeps whole back same alike =
        let at = begun.keeps.contents contents kept in
        record {
          tied = back.tied (below.tied at.tied);
          same = SamePages-trans _ _ _ back.working_pages (pages_back _ _ back.committed_pages);
          holds = subst (λ (m : PageMap). HoldsAll m contents) (sym (same_map (committed d last) (committed d between) back.committed_pages
              ∙ same_map (committed d between) (committed d first) (below.committed at.tied))) at.holds;
          opened = as_it_was file settled contents (back.file.back file whole keeps) at.opened;
          memory = record {
            catalog = subst (λ (definitions : Definitions). AreDefinitionsAt contents.directory.accepted contents.definitions definitions) (sym same) at.memory.catalog;
            referents = λ route. alike route ∙ at.memory.referents route;
          };
        }

    -- a store that stands in a state has begun its changes in pages that hold a file
    pub no_file_refuted : (from : ℕ) (state : State) → StandsIn d from old state → (IsTied d first → HoldsNoFile (working d first) file) → ⊥
    no_file_refuted from state stands none =
        let at = begun.keeps.contents stands.contents stands.keeps in
        (none at.tied).none stands.contents (at_first stands.contents stands.keeps) at.opened

    -- A refused change leaves the store as it was, where the same is in memory.
    pub left_refused : {may : State → Type 0} {T damaged : Type 0} (why : Refusal) (now : Definitions) (held : Numbered HeldReferents)
        → StoresAfter {T = T} damaged (Err why) (pager_store d first) (pager_store d between)
        → ((from : ℕ) (state : State) → StandsIn d from old state → may state → why ≡ refusal.DamagedFile → damaged → ⊥)
        → KeepsCommitted file changed → IsCommitted file → IsTakenBack d between last changed settled
        → now ≡ catalog → ((route : ℕ) → referents_on held route ≡ referents_on referents route) → LeavesStore d may {T = T} (Err why) old (after now held)
    left_refused why now held stores refutes keeps whole back same alike =
        let restored = back.file.back file whole keeps in
        let fewer : first.full_refusals ≤ between.full_refusals = stores.counts.full_refusals in
        record {
          stays = λ contents kept. keeps_taken_back contents now held kept keeps whole back same alike;
          cause = elim stores.ends.cause [
            | inl m ↦ inl m
            | inr (inl m) ↦ inr (inl m)
            | inr (inr (inl m)) ↦ inr (inr (inl m.0))
            | inr (inr (inr m)) ↦ inr (inr (inr m.0))
          ];
          sound = λ from state stands allowed is.
              let e : why ≡ refusal.DamagedFile = cc in
              elim stores.ends.cause [
                | inl m ↦ absurd (cc (e, m))
                | inr (inl m) ↦ absurd (cc (e, m))
                | inr (inr (inl m)) ↦ absurd (cc (e, m.0))
                | inr (inr (inr m)) ↦ refutes from state stands allowed e m.1
              ];
          catalog = same ∙ begun.keeps.catalog;
          referents = λ route. alike route ∙ ap (λ (r : Numbered HeldReferents). referents_on r route) begun.keeps.referents;
          opened = subst (λ (f : OpenedFile). IsAsItWas f settled) begun.keeps.file restored;
          changes = still_taken_back d old.pager first between last begun.begins below back.abandons;
          accepted = restored.accepted ∙ ap (λ (f : OpenedFile). f.accepted) begun.keeps.file;
          failures = record {
            disk = λ is. ap d.failures back.abandons.disk ∙ stores.ends.count.disk is ∙ ap counted_on begun.failures;
            other = λ isnt. ap d.failures back.abandons.disk ∙ stores.ends.count.other isnt ∙ begun.failures;
          };
          full = record {
            full = λ is. elim stores.ends.cause [
              | inl m ↦ absurd (cc (is, m))
              | inr (inl m) ↦ absurd (cc (is, m))
              | inr (inr (inl m)) ↦ back.abandons.full ∙ m.1.counted ∙ ap counted_on begun.keeps.full
              | inr (inr (inr m)) ↦ absurd (cc (is, m.0))
            ];
            other = λ isnt. omega (arith, fewer, back.abandons.full, begun.keeps.full);
          };
          honesty = ap d.is_honest back.abandons.disk ∙ below.honesty ∙ begun.keeps.honesty;
          limit = back.abandons.limit ∙ stores.counts.limit ∙ begun.keeps.limit;
          lasts = lasts_taken_back d old.pager first between last begun.keeps.endures below changed settled back;
        }

    -- a change that was made counts one version more, and no refusal
    pub left_made : {may : State → Type 0} {T damaged : Type 0} (answer : T) (now : Definitions) (held : Numbered HeldReferents)
        → StoresAfter {T = T} damaged (Ok answer) (pager_store d first) (pager_store d between)
        → changed.accepted ≡ file.accepted + 1 → IsKept d between last changed settled → LeavesStore d may {T = T} (Ok answer) old (after now held)
    left_made answer now held stores next kept = record {
      stays = λ contents keeps. tt;
      cause = tt;
      sound = λ from state stands allowed is. absurd cc;
      catalog = tt;
      referents = tt;
      opened = tt;
      changes = tt;
      accepted = kept.file.accepted ∙ next ∙ ap (λ (f : OpenedFile). f.accepted + 1) begun.keeps.file;
      failures = ap d.failures kept.commits.disk ∙ stores.ends.failures ∙ begun.failures;
      full = kept.commits.full ∙ stores.ends.full ∙ begun.keeps.full;
      honesty = ap d.is_honest kept.commits.disk ∙ below.honesty ∙ begun.keeps.honesty;
      limit = kept.commits.limit ∙ stores.counts.limit ∙ begun.keeps.limit;
      lasts = lasts_kept d old.pager first between last begun.keeps.endures below changed settled kept;
    }

    -- what a change of records leaves, made or refused
    pub left_settled : {may : State → Type 0} {T : Type 0} (result : Result T Refusal) (definitions : StoredCatalogue) (held : Numbered HeldReferents)
        → StoresAfter {T = T} (IsTied d first → HoldsNoFile (working d first) file) result (pager_store d first) (pager_store d between)
        → OnOk result (IsNext definitions file changed) → OnErr result (KeepsCommitted file changed) → IsCommitted file → Settles d result between last changed settled
        → OnErr result ((route : ℕ) → referents_on held route ≡ referents_on referents route) → LeavesStore d may result old (after catalog held)
    left_settled (Ok answer) definitions held stores next keeps whole settles alike = left_made answer catalog held stores next.accepted settles
    left_settled (Err why) definitions held stores next keeps whole settles alike =
        left_refused why catalog held stores (λ from state stands allowed is none. no_file_refuted from state stands none) keeps whole settles refl alike

    -- ---- the state of the next version

    -- a store that stands in a state has begun its changes in pages that stand for it
    abbrev pub stands_at_first : (from : ℕ) (state : State) → StandsIn d from old state → StandsAt from (working d first) file catalog referents state
    stands_at_first from state stands =
        let at = begun.keeps.contents stands.contents stands.keeps in
        record {
          contents = stands.contents;
          holds = at_first stands.contents stands.keeps;
          opened = at.opened;
          memory = at.memory;
          live = stands.live;
          meant = stands.meant;
          is = stands.is;
          views = stands.views;
        }

    module _ (says : SameSays) (meant_alike : SameMeant) (state_alike : SameState) (events_stay : EventsStay) (referents_stay : ReferentsStay)
        (by_records : LiveByRecords) (joined : LiveJoined) (kept : IsKept d between last changed settled) where
      -- A file that has become what the next version says makes a store that has become so, once it is kept.
      pub becomes_kept : (oldest : ℕ) (before : Contents) (now : Definitions) (held : Numbered HeldReferents) (next : State) → Keeps d old before
          → Becomes oldest before (working d between) changed now held next → HasBecome d oldest before (after now held) next
      becomes_kept oldest before now held next keeps becomes =
          let one = becomes.stands.contents in
          let made = (kept.file.stays (working d between) one.directory.accepted).each one becomes.stands.holds.parts (parts_of changed one becomes.stands.opened) in
          let other = made.contents in
          let same : SameContents one other = made.changed in
          let level = same_accepted one other same in
          let at = begun.keeps.contents before keeps in
          let map = same_map (committed d last) (working d between) kept.committed_pages in
          record {
            between = becomes.between;
            turned = becomes.turned;
            stands = record {
              contents = other;
              keeps = record {
                tied = kept.tied (below.tied at.tied);
                same = SamePages-trans _ _ _ kept.working_pages (pages_back _ _ kept.committed_pages);
                holds = subst (λ (m : PageMap). HoldsAll m other) (sym map) (holds_same (working d between) one other same becomes.stands.holds made.holds);
                opened = record {
                  definitions = made.opened.definitions;
                  pages = made.opened.pages;
                  tables = made.opened.tables;
                  referents = made.opened.referents;
                  accepted = sym level ∙ becomes.stands.opened.accepted ∙ sym kept.file.accepted;
                };
                memory = memory_same now held one other same becomes.stands.memory;
              };
              live = omega (arith, becomes.stands.live, level);
              meant = meant_moves says meant_alike oldest one other same becomes.stands.meant;
              is = state_moves says state_alike one other next same becomes.stands.is;
              views = becomes.stands.views;
            };
            clears = clears_same oldest before becomes.between one other same becomes.clears;
            next = sym level ∙ becomes.next;
            live = live_same events_stay referents_stay by_records joined oldest before one other same becomes.live (omega (arith, becomes.next));
          }

      -- So does one in which the part of a change was completed, if that gives the state.
      pub has_become : CompletedHasState → (from oldest : ℕ) (state next : State) (now : Definitions) (held : Numbered HeldReferents) (stands : StandsIn d from old state) → from ≤ oldest
          → oldest ≤ old.file.accepted + 1 → (part : Contents) → Completes oldest stands.contents part (working d between) changed
          → GivesState oldest stands.contents part now held next → AreViewsMeant next → HasBecome d oldest stands.contents (after now held) next
      has_become completed from oldest state next now held stands low high part completes gives views =
          let level : stands.contents.directory.accepted ≡ old.file.accepted = stands.keeps.opened.accepted in
          let within : oldest ≤ stands.contents.directory.accepted + 1 = omega (arith, high, level) in
          becomes_kept oldest stands.contents now held next stands.keeps
          (completed from oldest (working d first) (working d between) file changed catalog now referents held state next (stands_at_first from state stands) low
          within part completes gives views)

-- ---- a file at rest

order_as_it_was : (version : ℕ) (was is : List OpenedTable) → AllZip SameOpened was is → AllByRecursion (λ (table : OpenedTable). HaveDiedBy version table.records.working.dead) was
    → AllByRecursion (λ (table : OpenedTable). HaveDiedBy version table.records.working.dead) is
order_as_it_was version [] [] same died = tt
order_as_it_was version [] (i ∷ is) same died = absurd same
order_as_it_was version (w ∷ ws) [] same died = absurd same
order_as_it_was version (w ∷ ws) (i ∷ is) same died =
    (subst (λ (records : EventTableState). HaveDiedBy version records.working.dead) (sym same.0.records) died.0, order_as_it_was version ws is same.1 died.1)

-- what was taken back can be changed again
pub may_again : (file changed settled : OpenedFile) → MayChange file → IsCommitted file → KeepsCommitted file changed → IsReady changed → IsFileTakenBack changed settled → MayChange settled
may_again file changed settled may whole keeps ready back =
    let restored = back.back file whole keeps in
    record {
      ready = back.ready ready;
      order = subst (λ (n : ℕ). HaveAllDiedBy n settled) (sym restored.accepted) (record {
        tables = order_as_it_was file.accepted file.tables.items settled.tables.items restored.tables may.order.tables;
        referents = subst (λ (r : ReferentTableState). HaveDiedBy file.accepted r.working.dead) (sym restored.referents) may.order.referents;
      });
    }

-- and what was kept
pub may_next : (changed settled : OpenedFile) → MayChange changed → IsFileKept changed settled → MayChange settled
may_next changed settled may kept = record {
  ready = kept.ready may.ready;
  order = subst (λ (n : ℕ). HaveAllDiedBy n settled) (sym kept.accepted) (kept.order changed.accepted may.order);
}

-- a refused change leaves what is open and in memory at rest
pub rests_refused : (file changed settled : OpenedFile) (catalog : Definitions) → IsAtRest file catalog → KeepsCommitted file changed → IsFileTakenBack changed settled → IsAtRest settled catalog
rests_refused file changed settled catalog rests keeps back =
    let restored = back.back file rests.committed keeps in
    let same : said_catalogue settled.definitions ≡ said_catalogue file.definitions = ap said_catalogue restored.definitions in
    record {
      may = may_again file changed settled rests.may rests.committed keeps (ready_after file changed keeps rests.may.ready) back;
      committed = back.committed;
      listing = rests.listing ∙ sym same;
      births = subst (λ (n : ℕ). AllByRecursion (λ route. route.born ≤ n) (said_catalogue settled.definitions).routes) (sym restored.accepted)
          (subst (λ (items : CatalogueItems). AllByRecursion (λ route. route.born ≤ file.accepted) items.routes) (sym same) rests.births);
      columns = rests.columns;
      bound = omega (arith, rests.bound, restored.accepted);
    }

pub born_later : (one other : ℕ) (routes : List RouteItem) → one ≤ other → AllByRecursion (λ route. route.born ≤ one) routes → AllByRecursion (λ route. route.born ≤ other) routes
born_later one other [] later born = tt
born_later one other (r ∷ rs) later born = (omega (arith, later, born.0), born_later one other rs later born.1)

-- the routes that a catalogue at rest lists were born by the next version
pub births_listed : (file : OpenedFile) (catalog : Definitions) → IsAtRest file catalog → AllByRecursion (λ route. route.born ≤ file.accepted + 1) (listing_of catalog).routes
births_listed file catalog rests =
    born_later file.accepted (file.accepted + 1) (listing_of catalog).routes (omega arith)
    (subst (λ (items : CatalogueItems). AllByRecursion (λ route. route.born ≤ file.accepted) items.routes) (sym rests.listing) rests.births)

-- So does one that was made, where what is open has come to rest with what is in memory.
pub rests_made : (file changed settled : OpenedFile) (now : Definitions) → file.accepted < CHANGES → ComesToRest file changed now → IsFileKept changed settled → IsAtRest settled now
rests_made file changed settled now room next kept =
    let same : said_catalogue settled.definitions ≡ said_catalogue changed.definitions = ap said_catalogue kept.definitions in
    let level : settled.accepted ≡ file.accepted + 1 = kept.accepted ∙ next.accepted in
    record {
      may = may_next changed settled next.may kept;
      committed = kept.committed;
      listing = next.listing ∙ sym same;
      births = subst (λ (n : ℕ). AllByRecursion (λ route. route.born ≤ n) (said_catalogue settled.definitions).routes) (sym level)
          (subst (λ (items : CatalogueItems). AllByRecursion (λ route. route.born ≤ file.accepted + 1) items.routes) (sym same) next.births);
      columns = next.columns;
      bound = omega (arith, room, level);
    }

-- a change of records has come to rest with the definitions that there were
pub records_rest : (file changed : OpenedFile) (catalog : Definitions) → IsAtRest file catalog → IsNext file.definitions file changed → ComesToRest file changed catalog
records_rest file changed catalog rests next =
    let same : said_catalogue changed.definitions ≡ said_catalogue file.definitions = ap said_catalogue next.definitions_are in
    record {
      may = next.may;
      accepted = next.accepted;
      listing = rests.listing ∙ sym same;
      births = subst (λ (items : CatalogueItems). AllByRecursion (λ route. route.born ≤ file.accepted + 1) items.routes) (sym same)
          (born_later file.accepted (file.accepted + 1) (said_catalogue file.definitions).routes (omega arith) rests.births);
      columns = rests.columns;
    }

-- it leaves what is open and in memory at rest, made or refused
pub rests_settled : {D T : Type 0} (d : disk.Ghosts D) (result : Result T Refusal) (between last : Paged D) (file changed settled : OpenedFile) (catalog : Definitions) → IsAtRest file catalog
    → file.accepted < CHANGES → OnOk result (IsNext file.definitions file changed) → OnErr result (KeepsCommitted file changed) → Settles d result between last changed settled → IsAtRest settled catalog
rests_settled d (Ok answer) between last file changed settled catalog rests room next keeps settles =
    rests_made file changed settled catalog room (records_rest file changed catalog rests next) settles.file
rests_settled d (Err why) between last file changed settled catalog rests room next keeps settles = rests_refused file changed settled catalog rests keeps settles.file
