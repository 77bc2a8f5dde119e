-- The directory is written beside contents that lie there, and other definitions are.
use Rattle.std.proofs.Common.{◌≡◌, ◌<◌, ◌≤◌, ◌^◌, ℕ, true, false, Some, Err, List, ◌⊎◌, refl, sym, ap, ◌∙◌, subst, inl, inr, arith}
use Rattle.std.proofs.lemmas.Bool.{cases_lt}
use Rattle.std.specs.List.{AllByRecursion, AllZip}
use Rattle.rs_catalog_pages.specs.Directory.{StoresDirectory}
use Rattle.rs_catalog_pages.specs.Said.{said_catalogue, said_directory}
use Rattle.rs_catalog_pages.specs.Storing.{HasNoOwnBytes, StoresAfter, StoresCatalogue}
use Rattle.rs_catalog_pages.specs.declared.directory_items.StoredDirectory.{StoredDirectory}
use Rattle.rs_file.specs.Contents.{AreSaid, Contents, beside_definitions}
use Rattle.rs_file.specs.Opening.{IsOpened}
use Rattle.rs_file.specs.declared.opened.OpenedFile.{OpenedFile}
use Rattle.rs_file.specs.declared.opened.OpenedTable.{OpenedTable}
use Rattle.rs_file.proofs.Parts.{definitions_changed, definitions_leave_directory, directory_stored, shares_definitions}
use Rattle.rs_file_parts.specs.Calls.{ChangesDefinitions, HoldsNoDirectory, WritesDirectory}
use Rattle.rs_file_parts.specs.Parts.{HoldsNoParts, Makes}
use Rattle.rs_page.proofs.Headers.{free_by_its_header}
use Rattle.rs_page.specs.PageBytes.{empty_header, is_free}
use Rattle.rs_page.specs.declared.header.PageKind.TheVariants.{Directory}
use Rattle.rs_page_owners.specs.Changes.{EndsFull}
use Rattle.rs_page_owners.proofs.Moving.{one_at-same}
use Rattle.rs_pages.specs.Store.{Store}
use Rattle.rs_refusal.specs.declared.refusal.Refusal.{Refusal}
use Rattle.rs_refusal.specs.declared.refusal.Refusal.TheVariants as refusal
use Rattle.rs_pages.specs.PageMap.{HasNoFit, PageMap, in_use}

-- a directory beside contents is a page that fits
pub no_directory : (map : PageMap) → HasNoFit map 1 → HoldsNoDirectory map
no_directory map none = record {
  none = λ directory accepted contents has parts.
      let isnt : is_free has.page ≡ false = elim (is_free has.page) as (λ b. is_free has.page ≡ b → is_free has.page ≡ false) [
        | true ↦ λ is. absurd (let free = (free_by_its_header has.page (empty_header Directory 1 0) has.is.header).0 is in cc)
        | false ↦ λ is. is
      ] refl in
      let used : in_use map 1 ≡ Some has.page = rw (has.there, isnt) refl in
      let inside : 1 < map.fields.pages = elim (cases_lt 1 map.fields.pages) [
        | inl below ↦ below
        | inr past ↦ absurd (omega (arith, parts.shares.beyond 1 past, one_at-same 1))
      ] in
      none.none has.page used (record { header = empty_header Directory 1 0; there = has.is.header; fits = (refl, (refl, refl, refl)) });
}

-- what the directory of what is open says, the file holds
pub directory_written : (old new : PageMap) (file : OpenedFile) (version : ℕ) (directory : StoredDirectory) → directory.accepted ≡ version
    → ((contents : Contents) → contents.definitions ≡ said_catalogue file.definitions → AllZip IsOpened file.tables.items contents.tables
    → contents.referents.standing ≡ file.referents.working → AreSaid (record contents { directory = said_directory directory }))
    → StoresDirectory old new (said_directory directory) → WritesDirectory old new file version
directory_written old new file version directory accepted said stores = record {
  directory = said_directory directory;
  accepted = accepted;
  holds = λ from contents was later limit has parts opened routes.
      directory_stored old from contents parts new was (said_directory directory) (subst (λ n. from ≤ n) (sym accepted) later) has stores
      (said contents opened.definitions opened.tables opened.referents) (subst (λ n. n < 2 ^ 63) (sym accepted) limit)
      (subst (λ n. AllByRecursion (λ route. route.born ≤ n) contents.definitions.routes) (sym accepted) routes);
}

-- ---- other definitions

pub no_definitions : (map : PageMap) (file : OpenedFile) → HasNoOwnBytes map file.pages.items → HoldsNoParts map file
no_definitions map file none = record {
  none = λ accepted contents holds opened.
      let lost = subst (HasNoOwnBytes map) (sym opened.pages) none in
      lost.none holds.definitions.bytes (beside_definitions contents) holds.definitions.holds (shares_definitions map accepted contents holds);
}

pub definitions_made : (old new : PageMap) (was is : OpenedFile) (from to : ℕ) → from ≤ to → is.tables ≡ was.tables → is.referents ≡ was.referents
    → StoresCatalogue old new was.pages.items is.pages.items (said_catalogue is.definitions) → Makes old new was is from to (ChangesDefinitions (said_catalogue is.definitions))
definitions_made old new was is from to later tables referents stores = record {
  each = λ contents holds opened.
      let here = subst (λ ns. StoresCatalogue old new ns is.pages.items (said_catalogue is.definitions)) (sym opened.pages) stores in
      let stored = here.each holds.definitions.bytes holds.definitions.holds in
      record {
        contents = record contents { definitions = said_catalogue is.definitions; pages = is.pages.items };
        holds = definitions_changed old from contents holds new to later is.pages.items stored.bytes (said_catalogue is.definitions) stored.says stored.stores;
        opened = record {
          definitions = refl;
          pages = refl;
          tables = subst (λ (ts : List OpenedTable). AllZip IsOpened ts contents.tables) (sym (ap (λ (v : _). v.items) tables)) opened.tables;
          referents = opened.referents ∙ sym (ap (λ (r : _). r.working) referents);
        };
        directory = definitions_leave_directory old from contents holds new is.pages.items stored.bytes stored.stores;
        changed = record { definitions_are = refl; rest = refl };
      };
}

-- a refusal says as much of another answer
pub stores_err : {T U : Type 0} (later damaged : Type 0) (why : Refusal) (a b : Store) → (later → damaged) → StoresAfter {T = T} later (Err why) a b → StoresAfter {T = U} damaged (Err why) a b
stores_err later damaged why a b then stores = record {
  counts = stores.counts;
  no_fewer = stores.no_fewer;
  ends = record { cause = by_cause stores.ends.cause; count = stores.ends.count };
} where
  by_cause : (why ≡ refusal.OutOfMemory) ⊎ (why ≡ refusal.Disk) ⊎ ((why ≡ refusal.FileFull) × EndsFull a b) ⊎ ((why ≡ refusal.DamagedFile) × later)
      → (why ≡ refusal.OutOfMemory) ⊎ (why ≡ refusal.Disk) ⊎ ((why ≡ refusal.FileFull) × EndsFull a b) ⊎ ((why ≡ refusal.DamagedFile) × damaged)
  by_cause (inl memory) = inl memory
  by_cause (inr (inl disk)) = inr (inl disk)
  by_cause (inr (inr (inl full))) = inr (inr (inl full))
  by_cause (inr (inr (inr wrong))) = inr (inr (inr (wrong.0, then wrong.1)))
