-- Records are cleared and the slots of the directory are written: that completes a change.
use Rattle.std.proofs.Common.{◌≤◌, ◌<◌, ◌+◌, ◌^◌, ℕ, refl, sym, ap, ◌∙◌, subst, arith}
use Rattle.std.specs.List.{AllByRecursion}
use Rattle.rs_catalog_pages.specs.Directory.{HasDirectory}
use Rattle.rs_catalog_pages.specs.Items.{RouteItem}
use Rattle.rs_file.specs.Contents.{AreNumbered, Contents}
use Rattle.rs_file.specs.declared.opened.OpenedFile.{OpenedFile}
use Rattle.rs_file_parts.specs.Calls.{HoldsNoDirectory, RewritesDirectory}
use Rattle.rs_file_parts.specs.Clearing.{ClearsAsMany}
use Rattle.rs_file_parts.specs.Parts.{HasMade, HaveAllDiedBy, HoldsNoParts, IsReady, KeepsCommitted, Makes}
use Rattle.rs_changes.specs.Calls.{IsNext}
use Rattle.rs_changes.specs.Completing.{CompletesFrom, HoldsNoneToComplete}
use Rattle.rs_file_parts.proofs.Ready.{ready_after}
use Rattle.rs_file_parts.proofs.Stood.{had_kept}
use Rattle.rs_catalog_pages.specs.Said.{said_catalogue}
use Rattle.rs_machine.specs.declared.limits.TheConstants.{CHANGES}
use Rattle.rs_pages.specs.PageMap.{PageMap}

-- no parts, nothing to be completed
pub no_parts : (map : PageMap) (file : OpenedFile) → HoldsNoParts map file → HoldsNoneToComplete map file
no_parts map file none = record { none = λ between directory has holds opened. none.none (file.accepted + 1) between holds opened }

module _ (oldest most gone : ℕ) (old mid : PageMap) (was between : OpenedFile) (makes : (accepted : ℕ) → Makes old mid was between accepted accepted (ClearsAsMany oldest most gone)) where
  -- page 1 is the same directory after clearing
  directory_of : (contents : Contents) (accepted : ℕ) (directory : _) → HasMade old mid between accepted (ClearsAsMany oldest most gone contents) → HasDirectory old directory → HasDirectory mid directory
  directory_of contents accepted directory made has = record { page = has.page; there = made.directory ∙ has.there; is = has.is }

  -- where no contents lie beside a directory after it, there was nothing to be completed before it
  pub no_directory : HoldsNoDirectory mid → HoldsNoneToComplete old was
  no_directory none = record {
    none = λ contents directory has holds opened.
        let made = (makes (was.accepted + 1)).each contents holds opened in
        none.none directory (was.accepted + 1) made.contents (directory_of contents (was.accepted + 1) directory made has) made.holds;
  }

  -- what lay there is completed
  pub completes_from : (ended : ℕ) (new : PageMap) → was.accepted < CHANGES → 64 ≤ most → most ≤ 64 + ended → KeepsCommitted was between
      → RewritesDirectory mid new between (was.accepted + 1)
      → CompletesFrom oldest ended old new was (record between { accepted = was.accepted + 1 })
  completes_from ended new room least few keeps writes = record {
    each = λ contents directory has numbered had holds opened routes.
        let version = was.accepted + 1 in
        let made = (makes version).each contents holds opened in
        let parts = made.changed.parts in
        let limit : version < 2 ^ 63 = omega (arith, room) in
        let written = writes.each version made.contents directory (omega arith) limit (directory_of contents version directory made has)
        (subst (λ d. AreNumbered d directory) (sym parts.definitions) numbered)
        (had_kept directory was between (ap (λ d. (said_catalogue d).tables) keeps.definitions) (ap (λ d. (said_catalogue d).indexes) keeps.definitions) keeps.tables had) made.holds made.opened
        (subst (λ (d : _). AllByRecursion (λ (route : RouteItem). route.born ≤ version) d.routes) (sym parts.definitions) routes) in
        record {
          contents = record made.contents { directory = written.directory };
          most = most;
          gone = gone;
          least = least;
          few = few;
          cleared = record {
            parts = record { definitions = parts.definitions; directory = refl; tables = parts.tables; referents = parts.referents };
            many = made.changed.many;
            as_many = made.changed.as_many;
          };
          next = written.accepted;
          holds = written.holds;
          opened = record {
            definitions = made.opened.definitions;
            pages = made.opened.pages;
            tables = made.opened.tables;
            referents = made.opened.referents;
            accepted = written.accepted;
          };
        };
  }

-- what is open after it can be changed
pub next_of_kept : (was between : OpenedFile) → KeepsCommitted was between → IsReady was → HaveAllDiedBy (was.accepted + 1) between
    → IsNext was.definitions was (record between { accepted = was.accepted + 1 })
next_of_kept was between keeps ready order =
    let after = ready_after was between keeps ready in
    record {
      may = record {
        ready = record { given = after.given; tables = after.tables };
        order = record { tables = order.tables; referents = order.referents };
      };
      accepted = refl;
      definitions_are = keeps.definitions;
    }
