-- Records are cleared, a part changes, and the definitions and the directory are written: the whole change of a file.
use Rattle.std.proofs.Common.{◌≡◌, ◌<◌, ◌≤◌, ◌+◌, ◌^◌, ℕ, List, [], ◌∷◌, Result, Ok, Err, OnErr, OnOk, refl, sym, ap, ◌∙◌, subst, arith}
use Rattle.std.specs.List.{AllByRecursion, AllZip}
use Rattle.rs_catalog_pages.specs.Directory.{HasDirectory}
use Rattle.rs_catalog_pages.specs.Items.{CatalogueItems, RouteItem}
use Rattle.rs_catalog_pages.specs.Said.{said_catalogue}
use Rattle.rs_catalog_pages.specs.declared.items.StoredCatalogue.{StoredCatalogue}
use Rattle.rs_cell_versions.specs.Version.{HaveDiedBy}
use Rattle.rs_changes.specs.Calls.{IsNext}
use Rattle.rs_changes.specs.Tables.{HoldsNoneBeside, IsWritten, WritesNext}
use Rattle.rs_file.specs.Contents.{Contents, HoldsAll, HoldsParts}
use Rattle.rs_file.specs.Opening.{IsOpened}
use Rattle.rs_file.specs.declared.opened.OpenedFile.{OpenedFile}
use Rattle.rs_file.specs.declared.opened.OpenedTable.{OpenedTable}
use Rattle.rs_file_parts.specs.Calls.{ChangesDefinitions, HoldsNoDirectory, WritesDirectory}
use Rattle.rs_file_parts.specs.Clearing.{ClearsAsMany}
use Rattle.rs_file_parts.specs.Parts.{HaveAllDiedBy, HoldsNoParts, IsReady, Makes}
use Rattle.rs_pages.specs.PageMap.{PageMap}
use Rattle.rs_change_laws.specs.Changing.{ChangesFile, HoldsNoFile}
use Rattle.rs_change_laws.specs.Standing.{IsOpenedFile}
use Rattle.rs_changes.proofs.Wholes.{parts_opened}

-- a change that was made of cleared contents is a change that was made first, of whose contents as many were cleared
pub record Commutes (oldest : ℕ) (definitions : CatalogueItems) (pages : List ℕ) (change : Contents → Contents → Type 0) (old now : Contents) : Type 0 where
  pub between : Contents
  pub gone : ℕ
  pub changed : change old between
  pub same : between.directory ≡ old.directory
  pub cleared : ClearsAsMany oldest 64 gone between (record now { definitions = definitions; pages = pages; directory = between.directory })

module _ (old mid : PageMap) (was between : OpenedFile) (whole : Contents → Contents → Type 0) (accepted : between.accepted ≡ was.accepted)
    (makes : (version : ℕ) → Makes old mid was between version version whole) where
  parts_of : (contents : Contents) → HoldsAll old contents → IsOpenedFile was contents → HoldsParts old between.accepted contents
  parts_of contents holds opened = subst (λ n. HoldsParts old n contents) (opened.accepted ∙ sym accepted) holds.parts

  still_directory : (contents : Contents) → HoldsAll old contents → mid.page 1 ≡ old.page 1 → HasDirectory mid contents.directory
  still_directory contents holds same = record { page = holds.directory.page; there = same ∙ holds.directory.there; is = holds.directory.is }

  -- where no contents lie beside a directory after it, the file held none before it
  pub none_next : HoldsNoneBeside mid between → HoldsNoFile old was
  none_next none = record {
    none = λ contents holds opened.
        let made = (makes between.accepted).each contents (parts_of contents holds opened) (parts_opened was contents opened) in
        none.none made.contents contents.directory (still_directory contents holds made.directory) made.holds made.opened;
  }

  -- the file has changed
  pub file_changed : (oldest : ℕ) (definitions : StoredCatalogue) (new : PageMap) (is : OpenedFile) (change : Contents → Contents → Type 0)
      → ((contents now : Contents) → whole contents now → Commutes oldest (said_catalogue definitions) is.pages.items change contents now)
      → WritesNext (said_catalogue definitions) mid new between is → IsWritten definitions between is → ChangesFile oldest old new was is change
  file_changed oldest definitions new is change commutes writes written = record {
    each = λ contents holds opened.
        let made = (makes between.accepted).each contents (parts_of contents holds opened) (parts_opened was contents opened) in
        let wrote = writes.each made.contents contents.directory (still_directory contents holds made.directory) made.holds made.opened in
        let parted = commutes contents made.contents made.changed in
        record {
          between = parted.between;
          changed = parted.changed;
          completes = record {
            contents = record made.contents { definitions = said_catalogue definitions; pages = is.pages.items; directory = wrote.directory };
            same = parted.same;
            clears = record { most = 64; gone = parted.gone; least = omega arith; few = omega arith; cleared = parted.cleared };
            next = wrote.accepted ∙ ap (λ n. n + 1) (accepted ∙ sym opened.accepted);
            holds = wrote.holds;
            opened = record {
              definitions = ap said_catalogue (sym (ap (λ (f : OpenedFile). f.definitions) written));
              pages = refl;
              tables = subst (λ (ts : List OpenedTable). AllZip IsOpened ts made.contents.tables) (sym (ap (λ (f : OpenedFile). f.tables.items) written)) made.opened.tables;
              referents = made.opened.referents ∙ sym (ap (λ (f : OpenedFile). f.referents.working) written);
              accepted = wrote.accepted ∙ sym (ap (λ (f : OpenedFile). f.accepted) written);
            };
          };
        };
  }

-- ---- what is open

died_later : (version : ℕ) (cells : List (List ℕ)) → HaveDiedBy version cells → HaveDiedBy (version + 1) cells
died_later version [] all = tt
died_later version (c ∷ cs) all = (omega (arith, all.0), died_later version cs all.1)

all_later : (version : ℕ) (tables : List OpenedTable) → AllByRecursion (λ (table : OpenedTable). HaveDiedBy version table.records.working.dead) tables
    → AllByRecursion (λ (table : OpenedTable). HaveDiedBy (version + 1) table.records.working.dead) tables
all_later version [] all = tt
all_later version (t ∷ ts) all = (died_later version t.records.working.dead all.0, all_later version ts all.1)

pub next_written : (definitions : StoredCatalogue) (was between is : OpenedFile) → between.accepted ≡ was.accepted → IsReady (record between { definitions = definitions })
    → HaveAllDiedBy was.accepted between → IsWritten definitions between is → IsNext definitions was is
next_written definitions was between is accepted ready order written =
    let next : OpenedFile = record between { definitions = definitions; pages = is.pages; accepted = between.accepted + 1 } in
    let now : is.accepted ≡ was.accepted + 1 = ap (λ (f : OpenedFile). f.accepted) written ∙ ap (λ n. n + 1) accepted in
    let later : HaveAllDiedBy (was.accepted + 1) next = record {
      tables = all_later was.accepted between.tables.items order.tables;
      referents = died_later was.accepted between.referents.working.dead order.referents;
    } in
    let is_ready : IsReady next = record { given = ready.given; tables = ready.tables } in
    record {
      may = record {
        ready = subst IsReady (sym written) is_ready;
        order = subst (λ n. HaveAllDiedBy n is) (sym now) (subst (HaveAllDiedBy (was.accepted + 1)) (sym written) later);
      };
      accepted = now;
      definitions_are = ap (λ (f : OpenedFile). f.definitions) written;
    }

-- ---- results

pub where_ok : {T E A B : Type 0} (result : Result T E) → OnOk result A → (A → B) → OnOk result B
where_ok (Ok x) a then = then a
where_ok (Err e) a then = tt

pub where_err : {T E A B : Type 0} (result : Result T E) → OnErr result A → (A → B) → OnErr result B
where_err (Ok x) a then = tt
where_err (Err e) a then = then a

-- ---- definitions and the directory

-- no parts, none beside a directory
pub none_beside : (map : PageMap) (file : OpenedFile) → HoldsNoParts map file → HoldsNoneBeside map file
none_beside map file none = record { none = λ contents directory has holds opened. none.none file.accepted contents holds opened }

module _ (definitions : CatalogueItems) (old mid : PageMap) (was between : OpenedFile)
    (makes : (from to : ℕ) → from ≤ to → Makes old mid was between from to (ChangesDefinitions definitions)) where
  pub no_directory_beside : HoldsNoDirectory mid → HoldsNoneBeside old was
  no_directory_beside none = record {
    none = λ contents directory has holds opened.
        let made = (makes was.accepted was.accepted (omega arith)).each contents holds opened in
        none.none directory was.accepted made.contents (record { page = has.page; there = made.directory ∙ has.there; is = has.is }) made.holds;
  }

  pub next_by_directory : (new : PageMap) (is : OpenedFile) → was.accepted + 1 < 2 ^ 63 → WritesDirectory mid new between (was.accepted + 1)
      → AllByRecursion (λ route. route.born ≤ was.accepted + 1) definitions.routes → is.pages.items ≡ between.pages.items → WritesNext definitions old new was is
  next_by_directory new is limit writes births pages = record {
    each = λ contents directory has holds opened.
        let made = (makes was.accepted was.accepted (omega arith)).each contents holds opened in
        let has_still : HasDirectory mid directory = record { page = has.page; there = made.directory ∙ has.there; is = has.is } in
        let routes : AllByRecursion (λ (route : RouteItem). route.born ≤ was.accepted + 1) made.contents.definitions.routes =
        subst (λ (d : CatalogueItems). AllByRecursion (λ (route : RouteItem). route.born ≤ was.accepted + 1) d.routes) (sym made.changed.definitions_are) births in
        let all = writes.holds was.accepted made.contents directory (omega arith) limit has_still made.holds made.opened routes in
        let same : made.contents ≡ record contents { definitions = definitions; pages = is.pages.items } =
        made.changed.rest ∙ ap (λ (d : CatalogueItems). record contents { definitions = d; pages = made.contents.pages }) made.changed.definitions_are
        ∙ ap (λ (ps : List ℕ). record contents { definitions = definitions; pages = ps }) (made.opened.pages ∙ sym pages) in
        record {
          directory = writes.directory;
          accepted = writes.accepted;
          holds = subst (λ (c : Contents). HoldsAll new (record c { directory = writes.directory })) same all;
        };
  }
