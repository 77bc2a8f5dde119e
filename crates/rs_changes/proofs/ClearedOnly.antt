-- Records are cleared and the directory is written with the version that was accepted last.
use Rattle.std.proofs.Common.{◌≡◌, ◌≤◌, ◌<◌, ◌^◌, ℕ, refl, sym, ◌∙◌, subst, arith}
use Rattle.std.specs.List.{AllByRecursion}
use Rattle.rs_catalog_pages.specs.Directory.{HasDirectory}
use Rattle.rs_catalog_pages.specs.Items.{CatalogueItems, RouteItem}
use Rattle.rs_file.specs.Contents.{Contents, HoldsAll, HoldsParts}
use Rattle.rs_file.specs.declared.opened.OpenedFile.{OpenedFile}
use Rattle.rs_file_parts.specs.Calls.{HoldsNoDirectory, WritesDirectory}
use Rattle.rs_file_parts.specs.Clearing.{ClearsAsMany}
use Rattle.rs_file_parts.specs.Parts.{HasMade, HaveAllDiedBy, KeepsCommitted, Makes}
use Rattle.rs_changes.specs.Calls.{MayChange}
use Rattle.rs_file_parts.proofs.Ready.{ready_after}
use Rattle.rs_pages.specs.PageMap.{PageMap}
use Rattle.rs_change_laws.specs.Changing.{HoldsNoFile}
use Rattle.rs_change_laws.specs.Clearing.{ClearsFile}
use Rattle.rs_change_laws.specs.Standing.{IsOpenedFile}
use Rattle.rs_changes.proofs.Wholes.{parts_opened}

module _ (oldest most gone : ℕ) (old mid : PageMap) (was between : OpenedFile) (makes : (accepted : ℕ) → Makes old mid was between accepted accepted (ClearsAsMany oldest most gone)) where
  -- what the file holds after clearing, but for the directory
  made_of : (contents : Contents) → HoldsAll old contents → IsOpenedFile was contents → HasMade old mid between was.accepted (ClearsAsMany oldest most gone contents)
  made_of contents holds opened =
      (makes was.accepted).each contents (subst (λ n. HoldsParts old n contents) opened.accepted holds.parts) (parts_opened was contents opened)

  directory_there : (contents : Contents) (holds : HoldsAll old contents) (opened : IsOpenedFile was contents) → HasDirectory mid contents.directory
  directory_there contents holds opened =
      let made = made_of contents holds opened in
      record { page = holds.directory.page; there = made.directory ∙ holds.directory.there; is = holds.directory.is }

  -- where no contents lie beside a directory after clearing, the file held none before it
  pub none_cleared : HoldsNoDirectory mid → HoldsNoFile old was
  none_cleared none = record {
    none = λ contents holds opened.
        let made = made_of contents holds opened in
        none.none contents.directory was.accepted made.contents (directory_there contents holds opened) made.holds;
  }

  -- the file holds what it held without the records that are gone
  pub clears_file : (new : PageMap) → between.accepted ≡ was.accepted → WritesDirectory mid new between was.accepted → ClearsFile oldest most gone old new was between
  clears_file new same writes = record {
    each = λ contents holds opened.
        let version = was.accepted in
        let made = made_of contents holds opened in
        let parts = made.changed.parts in
        let limit : version < 2 ^ 63 = omega (arith, holds.limit, opened.accepted) in
        let born : AllByRecursion (λ (route : RouteItem). route.born ≤ version) contents.definitions.routes =
        subst (λ n. AllByRecursion (λ (route : RouteItem). route.born ≤ n) contents.definitions.routes) opened.accepted holds.routes in
        record {
          contents = record made.contents { directory = writes.directory };
          loses = record {
            cleared = record {
              parts = record { definitions = parts.definitions; directory = refl; tables = parts.tables; referents = parts.referents };
              many = made.changed.many;
              as_many = made.changed.as_many;
            };
            accepted = writes.accepted ∙ sym opened.accepted;
          };
          holds = writes.holds version made.contents contents.directory (omega arith) limit (directory_there contents holds opened) made.holds made.opened
              (subst (λ (d : CatalogueItems). AllByRecursion (λ (route : RouteItem). route.born ≤ version) d.routes) (sym parts.definitions) born);
          opened = record {
            definitions = made.opened.definitions;
            pages = made.opened.pages;
            tables = made.opened.tables;
            referents = made.opened.referents;
            accepted = writes.accepted ∙ sym same;
          };
        };
  }

-- what is open after it can be changed
pub may_after : (was between : OpenedFile) → KeepsCommitted was between → MayChange was → HaveAllDiedBy was.accepted between → MayChange between
may_after was between keeps may order = record {
  ready = ready_after was between keeps may.ready;
  order = subst (λ n. HaveAllDiedBy n between) (sym keeps.accepted) order;
}
