-- What a whole file stands for, once it was read.
use Rattle.std.proofs.Common.{ℕ, subst}
use Rattle.rs_catalog.specs.Definitions.{Definitions, Numbered}
use Rattle.rs_catalog.specs.Referents.{HeldReferents}
use Rattle.rs_file.specs.Contents.{Contents}
use Rattle.rs_file.specs.Opening.{HoldsNothing, LoadsContents}
use Rattle.rs_file.specs.declared.opened.OpenedFile.{OpenedFile}
use Rattle.rs_file_meaning.specs.Meant.{IsMeant}
use Rattle.rs_file_meaning.specs.Standing.{StandsFor}
use Rattle.rs_pages.specs.PageMap.{PageMap}
use Rattle.rs_store.specs.Loading.{BringsState, HasNoState, HoldsOpened, LoadsState, StandsForNone, StandsForSome}
use Rattle.rs_store.proofs.Same.{FileHoldsOne, SameMeant, SameSays, SameState, meant_moves, records_of_meant, same_accepted, state_moves}

pub opened_of : (pages : PageMap) (file : OpenedFile) (loads : LoadsContents pages file) → HoldsOpened pages file loads.contents
opened_of pages file loads = record {
  holds = loads.holds;
  meant = loads.meant;
  opened = record { definitions = loads.definitions; pages = loads.pages; tables = loads.tables; referents = loads.referents; accepted = loads.accepted };
}

pub loads_state : (pages : PageMap) (file : OpenedFile) (catalog : Definitions) (referents : Numbered HeldReferents) (loads : LoadsContents pages file)
    → ((contents : Contents) → HoldsOpened pages file contents → BringsState contents catalog referents) → LoadsState pages file catalog referents
loads_state pages file catalog referents loads brings =
    let holds = opened_of pages file loads in
    record { contents = loads.contents; holds = loads.holds; opened = holds.opened; brings = brings loads.contents holds }

-- pages that hold nothing stand for nothing
pub nothing_stands : (pages : PageMap) → HoldsNothing pages → StandsForNone pages
nothing_stands pages lacks = record {
  none = λ contents state stands. lacks.none contents stands.holds (records_of_meant pages contents stands.holds stands.meant);
}

pub stands_for : (pages : PageMap) (file : OpenedFile) (catalog : Definitions) (referents : Numbered HeldReferents) (loads : LoadsState pages file catalog referents)
    → StandsFor pages loads.contents loads.brings.state
stands_for pages file catalog referents loads = record { holds = loads.holds; meant = loads.brings.meant; is = loads.brings.is; views = loads.brings.views }

pub stands_for_some : (pages : PageMap) (file : OpenedFile) (catalog : Definitions) (referents : Numbered HeldReferents) → LoadsState pages file catalog referents → StandsForSome pages
stands_for_some pages file catalog referents loads = record { contents = loads.contents; state = loads.brings.state; stands = stands_for pages file catalog referents loads }

module _ (one_thing : FileHoldsOne) (says : SameSays) (meant_alike : SameMeant) (state_alike : SameState) where
  -- what was read has no state, so nothing that the pages hold has one
  pub none_stands : (pages : PageMap) (file : OpenedFile) → LoadsContents pages file → ((contents : Contents) → HoldsOpened pages file contents → HasNoState contents) → StandsForNone pages
  none_stands pages file loads none = record {
    none = λ contents state stands.
        let same = one_thing pages contents loads.contents stands.holds loads.holds in
        (none loads.contents (opened_of pages file loads)).none
        (subst (λ (level : ℕ). IsMeant level loads.contents) (same_accepted contents loads.contents same)
        (meant_moves says meant_alike contents.directory.accepted contents loads.contents same stands.meant))
        state (state_moves says state_alike contents loads.contents state same stands.is) stands.views;
  }
