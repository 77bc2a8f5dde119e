-- Changes as wholes: a part changes, and what completes it follows.
use Rattle.std.proofs.Common.{◌≡◌, ◌<◌, ◌≤◌, ◌+◌, ◌-◌, ℕ, length, List, [], ◌∷◌, Result, Ok, Err, refl, sym, ap, ◌∙◌, subst, arith}
use Rattle.std.specs.List.{AllByRecursion, AllZip, sum_by}
use Rattle.std.proofs.lemmas.List.Sums.{sum_by-cons}
use Rattle.rs_catalog_pages.specs.Directory.{HasDirectory}
use Rattle.rs_catalog_pages.specs.Items.{RouteItem}
use Rattle.rs_catalog_pages.specs.Said.{said_catalogue}
use Rattle.rs_catalog_pages.specs.Storing.{StoresAfter}
use Rattle.rs_catalog_pages.specs.declared.items.StoredCatalogue.{StoredCatalogue}
use Rattle.rs_cell_versions.specs.Versioned.{Standing}
use Rattle.rs_cell_versions.specs.declared.cell.TheConstants.{LIVING}
use Rattle.rs_file.specs.Contents.{AreNumbered, Contents, HoldsAll, HoldsParts, LiesTable, TableContents}
use Rattle.rs_file.specs.Opening.{IsOpened}
use Rattle.rs_file.specs.declared.opened.OpenedFile.{OpenedFile}
use Rattle.rs_file.specs.declared.opened.OpenedTable.{OpenedTable}
use Rattle.rs_file_parts.specs.Clearing.{clearable_events}
use Rattle.rs_file_parts.specs.Parts.{HasMade, HoldsNoParts, IsCommitted, KeepsCommitted, KeepsOpened, Makes}
use Rattle.rs_file_parts.specs.Parts as parts
use Rattle.rs_file_parts.proofs.Defined.{numbered_too}
use Rattle.rs_file_parts.proofs.Stood.{had_kept, had_now}
use Rattle.rs_file_parts.specs.Slots.{HadSlots}
use Rattle.rs_page_owners.specs.Calls.{Leaves}
use Rattle.rs_page_owners.specs.Changes.{CountsNothing, WorksAfter}
use Rattle.rs_page_owners.proofs.Working.{CountsNothing-refl, CountsNothing-trans, wants_after}
use Rattle.rs_pages.specs.PageMap.{PageMap}
use Rattle.rs_pages.specs.Store.{KeepsCounts, Store}
use Rattle.rs_pages.specs.declared.pages.Pages.{Ghosts}
use Rattle.rs_change_laws.specs.Changing.{ChangesFile, HoldsNoFile, died_by}
use Rattle.rs_change_laws.specs.Standing.{IsOpenedFile}
use Rattle.rs_changes.specs.Calls.{IsNext, LeavesFile}
use Rattle.rs_changes.specs.Completing.{CompletesFrom, HoldsNoneToComplete}
use Rattle.rs_changes.specs.Garbage.{dead_of, garbage_of}
use Rattle.rs_pages.proofs.Stores.{KeepsCounts-refl, KeepsCounts-trans}
use Rattle.rs_refusal.specs.declared.refusal.Refusal.{Refusal}
use Rattle.rs_versioned.specs.Events.{kept_events}
use Rattle.rs_versioned.specs.Referents.{kept_referents}
use Rattle.rs_versioned.proofs.KeptRecords.{events_are_kept}
use Rattle.rs_versioned.proofs.KeptReferents.{referents_are_kept}
use Rattle.rs_versioned.proofs.Present.{held_clearable}

-- ---- what is open and the contents

-- the parts of what is open are those of the contents
pub parts_opened : (file : OpenedFile) (contents : Contents) → IsOpenedFile file contents → parts.IsOpenedFile file contents
parts_opened file contents opened = record { definitions = opened.definitions; pages = opened.pages; tables = opened.tables; referents = opened.referents }

-- no parts, no file
pub no_file : (map : PageMap) (file : OpenedFile) → HoldsNoParts map file → HoldsNoFile map file
no_file map file none = record { none = λ contents holds opened. none.none contents.directory.accepted contents holds.parts (parts_opened file contents opened) }

-- as many events of the tables have died as are dead in what is open
tables_dead : (map : PageMap) (level : ℕ) → level < LIVING → (opened : List OpenedTable) (tables : List TableContents) → AllZip IsOpened opened tables
    → AllByRecursion (LiesTable map level) tables → sum_by (λ (table : TableContents). clearable_events level table.events) tables ≡ sum_by dead_of opened
tables_dead map level before [] [] are lie = refl
tables_dead map level before [] (t ∷ ts) are lie = absurd are
tables_dead map level before (o ∷ os) [] are lie = absurd are
tables_dead map level before (o ∷ os) (t ∷ ts) are lie =
    let weigh : TableContents → ℕ = λ t. clearable_events level t.events in
    let first = held_clearable (kept_events t.types) (events_are_kept t.types) map t.standing level t.events t.used lie.0.records before in
    omega (arith, sum_by-cons weigh t ts, sum_by-cons dead_of o os, first, ap (λ (s : Standing). length s.dead) are.0.stands, tables_dead map level before os ts are.1 lie.1)

-- and as many of all records
pub all_dead : (map : PageMap) (level : ℕ) → level < LIVING → (file : OpenedFile) (contents : Contents) → HoldsParts map level contents → parts.IsOpenedFile file contents
    → died_by level contents ≡ garbage_of file
all_dead map level before file contents holds opened =
    let referents = held_clearable kept_referents referents_are_kept map contents.referents.standing level contents.referents.referents contents.referents.used holds.referents before in
    omega (arith, tables_dead map level before file.tables.items contents.tables opened.tables holds.tables, referents, ap (λ (s : Standing). length s.dead) opened.referents)

-- ---- calls that were not refused, and one that was

-- what calls leave of the pages that were not refused
pub record Stored (old new : Store) : Type 0 where
  pub counts : KeepsCounts old new
  pub no_fewer : old.map.fields.pages ≤ new.map.fields.pages
  pub nothing : CountsNothing old new

pub stored_none : (s : Store) → Stored s s
stored_none s = record { counts = KeepsCounts-refl s; no_fewer = omega arith; nothing = CountsNothing-refl s }

pub stored_then : (a b c : Store) → Stored a b → Stored b c → Stored a c
stored_then a b c one other = record {
  counts = KeepsCounts-trans a b c one.counts other.counts;
  no_fewer = omega (arith, one.no_fewer, other.no_fewer);
  nothing = CountsNothing-trans a b c one.nothing other.nothing;
}

pub stored_by_storing : {T : Type 0} (damaged : Type 0) (x : T) (a b : Store) → StoresAfter damaged (Ok x) a b → Stored a b
stored_by_storing damaged x a b one = record { counts = one.counts; no_fewer = one.no_fewer; nothing = one.ends }

pub stored_by_works : {T : Type 0} (damaged : Type 0) (x : T) (a b : Store) → WorksAfter damaged (Ok x) a b → Stored a b
stored_by_works damaged x a b one = record { counts = one.works.counts; no_fewer = one.works.no_fewer; nothing = one.ends }

-- a call that leaves the catalogue in its place leaves what one does that may set it
pub storing_by_works : {T : Type 0} (damaged : Type 0) (result : Result T Refusal) (a b : Store) → WorksAfter damaged result a b → StoresAfter damaged result a b
storing_by_works damaged result a b one = record { counts = one.works.counts; no_fewer = one.works.no_fewer; ends = one.ends }

-- an answer after what was not refused
pub stored_ok : {T : Type 0} (damaged : Type 0) (x : T) (a b : Store) → Stored a b → StoresAfter damaged (Ok x) a b
stored_ok damaged x a b stored = record { counts = stored.counts; no_fewer = stored.no_fewer; ends = stored.nothing }

-- a refusal after what was not refused
pub stored_err : {T U : Type 0} (damaged later : Type 0) (why : Refusal) (a b c : Store) → Stored a b → (later → damaged)
    → StoresAfter {T = U} later (Err why) b c → StoresAfter {T = T} damaged (Err why) a c
stored_err damaged later why a b c stored worse after = record {
  counts = KeepsCounts-trans a b c stored.counts after.counts;
  no_fewer = omega (arith, stored.no_fewer, after.no_fewer);
  ends = wants_after damaged later why a b c worse stored.nothing after.ends;
}

-- ---- the part

-- of whatever contents lie there up to the version that was accepted last, with what was open, others have become, up to the next one
pub record MakesNext (old new : PageMap) (was is : OpenedFile) (change : Contents → Contents → Type 0) : Type 0 where
  pub each : (contents : Contents) → contents.directory.accepted ≡ was.accepted → HoldsParts old was.accepted contents → parts.IsOpenedFile was contents
      → HasMade old new is (was.accepted + 1) (change contents)

-- a change that speaks of the version that is open speaks of that of the contents
pub makes_next : (one change : Contents → Contents → Type 0) (old new : PageMap) (was is : OpenedFile)
    → ((contents now : Contents) → contents.directory.accepted ≡ was.accepted → one contents now → change contents now)
    → Makes old new was is was.accepted (was.accepted + 1) one → MakesNext old new was is change
makes_next one change old new was is weaker makes = record {
  each = λ contents accepted holds opened.
      let made = makes.each contents holds opened in
      record { contents = made.contents; holds = made.holds; opened = made.opened; directory = made.directory; changed = weaker contents made.contents accepted made.changed };
}

-- the routes of the definitions, where these stay
pub routes_stay : (map : PageMap) (contents : Contents) (was is : OpenedFile) → is.definitions ≡ was.definitions → HoldsAll map contents → IsOpenedFile was contents
    → AllByRecursion (λ route. route.born ≤ was.accepted + 1) (said_catalogue is.definitions).routes
routes_stay map contents was is stay holds opened =
    let same : contents.definitions ≡ said_catalogue is.definitions = opened.definitions ∙ ap said_catalogue (sym stay) in
    later was.accepted (said_catalogue is.definitions).routes
    (subst (λ n. AllByRecursion (λ (route : RouteItem). route.born ≤ n) (said_catalogue is.definitions).routes) opened.accepted
    (subst (λ d. AllByRecursion (λ (route : RouteItem). route.born ≤ contents.directory.accepted) d.routes) same holds.routes)) where
      later : (version : ℕ) (routes : List RouteItem) → AllByRecursion (λ (route : RouteItem). route.born ≤ version) routes
          → AllByRecursion (λ (route : RouteItem). route.born ≤ version + 1) routes
      later version [] all = tt
      later version (r ∷ rs) all = (omega (arith, all.0), later version rs all.1)

-- the numbers of the definitions, where these have the same tables and indexes
pub numbers_same : (map : PageMap) (contents : Contents) (was is : OpenedFile) → (said_catalogue is.definitions).tables ≡ (said_catalogue was.definitions).tables
    → (said_catalogue is.definitions).indexes ≡ (said_catalogue was.definitions).indexes → HoldsAll map contents → IsOpenedFile was contents
    → AreNumbered (said_catalogue is.definitions) contents.directory
numbers_same map contents was is tables indexes holds opened =
    numbered_too (said_catalogue was.definitions) (said_catalogue is.definitions) tables indexes contents.directory
    (subst (λ d. AreNumbered d contents.directory) opened.definitions holds.said.numbered)

-- and where they stay
pub numbers_stay : (map : PageMap) (contents : Contents) (was is : OpenedFile) → is.definitions ≡ was.definitions → HoldsAll map contents → IsOpenedFile was contents
    → AreNumbered (said_catalogue is.definitions) contents.directory
numbers_stay map contents was is stay =
    numbers_same map contents was is (ap (λ d. (said_catalogue d).tables) stay) (ap (λ d. (said_catalogue d).indexes) stay)

-- the directory says what stood there at the last commit, where nothing had changed since and the tables keep that
pub stood : (map : PageMap) (contents : Contents) (was is : OpenedFile) → (said_catalogue is.definitions).tables ≡ (said_catalogue was.definitions).tables
    → (said_catalogue is.definitions).indexes ≡ (said_catalogue was.definitions).indexes → AllZip KeepsOpened was.tables.items is.tables.items → IsCommitted was
    → HoldsAll map contents → IsOpenedFile was contents → HadSlots is contents.directory
stood map contents was is tables indexes keeps committed holds opened =
    had_kept contents.directory was is tables indexes keeps (had_now contents was committed holds.said (parts_opened was contents opened))

-- and where the definitions stay
pub stood_kept : (map : PageMap) (contents : Contents) (was is : OpenedFile) → KeepsCommitted was is → IsCommitted was → HoldsAll map contents → IsOpenedFile was contents
    → HadSlots is contents.directory
stood_kept map contents was is keeps =
    stood map contents was is (ap (λ d. (said_catalogue d).tables) keeps.definitions) (ap (λ d. (said_catalogue d).indexes) keeps.definitions) keeps.tables

-- ---- the whole

module _ (old mid : PageMap) (was between : OpenedFile) (change : Contents → Contents → Type 0) (accepted : between.accepted ≡ was.accepted)
    (makes : MakesNext old mid was between change) where
  -- the part of contents that the file holds has changed
  made_of : (contents : Contents) → HoldsAll old contents → IsOpenedFile was contents → HasMade old mid between (between.accepted + 1) (change contents)
  made_of contents holds opened =
      subst (λ n. HasMade old mid between (n + 1) (change contents)) (sym accepted)
      (makes.each contents opened.accepted (subst (λ n. HoldsParts old n contents) opened.accepted holds.parts) (parts_opened was contents opened))

  -- page 1 is the same directory after it
  directory_of : (contents : Contents) → HoldsAll old contents → mid.page 1 ≡ old.page 1 → HasDirectory mid contents.directory
  directory_of contents holds same = record { page = holds.directory.page; there = same ∙ holds.directory.there; is = holds.directory.is }

  -- where nothing is to be completed after the part, the file held no contents before it
  pub none_before : HoldsNoneToComplete mid between → HoldsNoFile old was
  none_before none = record {
    none = λ contents holds opened.
        let made = made_of contents holds opened in
        none.none made.contents contents.directory (directory_of contents holds made.directory) made.holds made.opened;
  }

  -- the part has changed, and it is completed
  pub changes_file : (oldest ended : ℕ) (new : PageMap) (is : OpenedFile) → ended ≤ garbage_of between - garbage_of was
      → ((contents now : Contents) → change contents now → now.directory ≡ contents.directory)
      → ((contents : Contents) → HoldsAll old contents → IsOpenedFile was contents
      → AllByRecursion (λ route. route.born ≤ was.accepted + 1) (said_catalogue between.definitions).routes)
      → ((contents : Contents) → HoldsAll old contents → IsOpenedFile was contents → AreNumbered (said_catalogue between.definitions) contents.directory)
      → ((contents : Contents) → HoldsAll old contents → IsOpenedFile was contents → HadSlots between contents.directory)
      → CompletesFrom oldest ended mid new between is → ChangesFile oldest old new was is change
  changes_file oldest ended new is count stays births numbers had completes = record {
    each = λ contents holds opened.
        let made = made_of contents holds opened in
        let routes : AllByRecursion (λ (route : RouteItem). route.born ≤ between.accepted + 1) made.contents.definitions.routes =
        subst (λ n. AllByRecursion (λ (route : RouteItem). route.born ≤ n + 1) made.contents.definitions.routes) (sym accepted)
        (subst (λ d. AllByRecursion (λ (route : RouteItem). route.born ≤ was.accepted + 1) d.routes) (sym made.opened.definitions) (births contents holds opened)) in
        let numbered = subst (λ d. AreNumbered d contents.directory) (sym made.opened.definitions) (numbers contents holds opened) in
        let done = completes.each made.contents contents.directory (directory_of contents holds made.directory) numbered (had contents holds opened) made.holds made.opened routes in
        record {
          between = made.contents;
          changed = made.changed;
          completes = record {
            contents = done.contents;
            same = stays contents made.contents made.changed;
            clears = record {
              most = done.most;
              gone = done.gone;
              least = done.least;
              few = few contents made.contents done.most holds opened made.holds made.opened (omega (arith, done.few, count));
              cleared = done.cleared;
            };
            next = done.next ∙ ap (λ n. n + 1) (accepted ∙ sym opened.accepted);
            holds = done.holds;
            opened = done.opened;
          };
        };
  } where
    few : (contents now : Contents) (most : ℕ) → HoldsAll old contents → IsOpenedFile was contents → HoldsParts mid (between.accepted + 1) now → parts.IsOpenedFile between now
        → most ≤ 64 + (garbage_of between - garbage_of was) → most ≤ 64 + (died_by (contents.directory.accepted + 1) now - died_by contents.directory.accepted contents)
    few contents now most holds opened lies made least =
        let level = contents.directory.accepted in
        let below : level + 1 < LIVING = omega (arith, holds.limit) in
        let first = all_dead old level (omega (arith, below)) was contents holds.parts (parts_opened was contents opened) in
        let last = all_dead mid (level + 1) below between now (subst (λ n. HoldsParts mid (n + 1) now) (accepted ∙ sym opened.accepted) lies) made in
        omega (arith, least, first, last)

-- what is open is at the next version, where the part has left the version that was accepted last
pub next_after : (definitions : StoredCatalogue) (was between is : OpenedFile) → between.accepted ≡ was.accepted → between.definitions ≡ definitions
    → IsNext between.definitions between is → IsNext definitions was is
next_after definitions was between is accepted same next = record {
  may = next.may;
  accepted = next.accepted ∙ ap (λ n. n + 1) accepted;
  definitions_are = next.definitions_are ∙ same;
}

module _ {P : Type 0} (pages : Ghosts P) (was : OpenedFile) where
  -- the file's call is refused as a call within it is, after what was not refused
  pub leaves_refused : {T U : Type 0} (later : Type 0) (why : Refusal) (old mid new : P) → pages.keeps old new → Stored (pages.store old) (pages.store mid)
      → (later → pages.is_tied old → HoldsNoFile (pages.store old).map was) → StoresAfter {T = U} later (Err why) (pages.store mid) (pages.store new)
      → LeavesFile {T = T} pages was (Err why) old new
  leaves_refused later why old mid new keeps stored worse after = record {
    keeps = keeps;
    stores = stored_err (pages.is_tied old → HoldsNoFile (pages.store old).map was) later why (pages.store old) (pages.store mid) (pages.store new) stored worse after;
  }

  -- the part was refused
  pub part_refused : {T U : Type 0} (why : Refusal) (old new : P) → Leaves {T = U} pages (HoldsNoParts (pages.store old).map was) (Err why) old new
      → LeavesFile {T = T} pages was (Err why) old new
  part_refused why old new leaves =
      leaves_refused (pages.is_tied old → HoldsNoParts (pages.store old).map was) why old old new leaves.keeps (stored_none (pages.store old))
      (λ none tied. no_file (pages.store old).map was (none tied))
      (storing_by_works (pages.is_tied old → HoldsNoParts (pages.store old).map was) (Err why) (pages.store old) (pages.store new) leaves.works)

  -- the part was not refused, and what completes it was
  pub completion_refused : {T U : Type 0} (why : Refusal) (old mid new : P) (between : OpenedFile) (change : Contents → Contents → Type 0)
      → between.accepted ≡ was.accepted → pages.keeps old new → (pages.is_tied old → pages.is_tied mid) → Stored (pages.store old) (pages.store mid)
      → (pages.is_tied old → MakesNext (pages.store old).map (pages.store mid).map was between change)
      → Leaves {T = U} pages (HoldsNoneToComplete (pages.store mid).map between) (Err why) mid new → LeavesFile {T = T} pages was (Err why) old new
  completion_refused why old mid new between change accepted keeps tied stored makes leaves =
      leaves_refused (pages.is_tied mid → HoldsNoneToComplete (pages.store mid).map between) why old mid new keeps stored
      (λ none is. none_before (pages.store old).map (pages.store mid).map was between change accepted (makes is) (none (tied is)))
      (storing_by_works (pages.is_tied mid → HoldsNoneToComplete (pages.store mid).map between) (Err why) (pages.store mid) (pages.store new) leaves.works)

  -- neither was refused
  pub leaves_done : {T U : Type 0} (x : T) (y : U) (damaged : Type 0) (old mid new : P) → pages.keeps old new → Stored (pages.store old) (pages.store mid)
      → Leaves {T = U} pages damaged (Ok y) mid new → LeavesFile pages was (Ok x) old new
  leaves_done x y damaged old mid new keeps stored leaves = record {
    keeps = keeps;
    stores = stored_ok (pages.is_tied old → HoldsNoFile (pages.store old).map was) x (pages.store old) (pages.store new)
        (stored_then (pages.store old) (pages.store mid) (pages.store new) stored
        (stored_by_works (pages.is_tied mid → damaged) y (pages.store mid) (pages.store new) leaves.works));
  }
