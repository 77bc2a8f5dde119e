-- What storing the catalogue does to the pages that it has.
use Rattle.std.specs.Prelude.{◌≡◌, ◌≤◌, ◌<◌, ◌+◌, ◌*◌, ℕ, Some, List, length, take, Result, MatchResult}
use Rattle.rs_refusal.specs.declared.refusal.Refusal.{Refusal}
use Rattle.rs_page_owners.specs.Changes.{EndsFull, CountsNothing}
use Rattle.rs_page_owners.specs.Counts.{◌&◌, times}
use Rattle.rs_page_owners.specs.Owners.{Moves, Shares}
use Rattle.rs_page.specs.PageBytes.{IsFit}
use Rattle.rs_page.specs.declared.header.TheConstants.{PAGE_ROOM}
use Rattle.rs_pages.specs.PageMap.{PageMap, in_use}
use Rattle.rs_pages.specs.Store.{Store, KeepsCounts}
use Rattle.rs_pages.specs.Uses.{Wants}
use Rattle.rs_catalog_pages.specs.Chain.{HoldsBytes, HoldsFrom, StoresBytes}
use Rattle.rs_catalog_pages.specs.Items.{CatalogueItems, SaysCatalogue}

-- the page with this number is in use and fits it
pub record IsInUse (map : PageMap) (number : ℕ) : Type 0 where
  pub after : 1 < number
  pub below : number < map.fields.pages
  pub page : List ℕ
  pub used : in_use map number ≡ Some page
  pub fit : IsFit page number map.fields.pages

-- these pages are in use, and each is one of them once
pub record AreInUse (map : PageMap) (numbers : List ℕ) : Type 0 where
  pub each : (number : ℕ) → 0 < times numbers number → IsInUse map number
  pub once : (number : ℕ) → times numbers number ≤ 1

-- the owner has other pages now: those that it had were in use, and so are these
pub record MovesPages (old new : PageMap) (before after : List ℕ) : Type 0 where
  pub moves : Moves old new (times before) (times after)
  pub used : AreInUse old before → AreInUse new after

-- these pages aren't all in use with each page one owner's
pub record AreNotOwn (map : PageMap) (numbers : List ℕ) : Type 0 where
  pub none : (others : ℕ → ℕ) → AreInUse map numbers → Shares map (times numbers & others) → ⊥

-- the pages of the list hold these bytes from this one on, if they are in use
pub record WritesParts (old new : PageMap) (numbers bytes : List ℕ) (first : ℕ) : Type 0 where
  pub moves : MovesPages old new numbers numbers
  pub holds : AreInUse old numbers → HoldsFrom new first numbers bytes

-- no bytes of a catalogue are in these pages, with each page one owner's
pub record HasNoOwnBytes (map : PageMap) (numbers : List ℕ) : Type 0 where
  pub none : (bytes : List ℕ) (others : ℕ → ℕ) → HoldsBytes map numbers bytes → Shares map (times numbers & others) → ⊥

-- what a call leaves that may set the place of the catalogue, and why it is refused: 94 only where something is damaged
pub record StoresAfter {T : Type 0} (damaged : Type 0) (result : Result T Refusal) (old new : Store) : Type 0 where
  pub counts : KeepsCounts old new
  pub no_fewer : old.map.fields.pages ≤ new.map.fields.pages
  pub ends : MatchResult result (λ _. CountsNothing old new) (λ why. Wants damaged (EndsFull old new) why old new)

-- these bytes say the catalogue, and these pages, no more than they need, hold them
pub record StoresSaid (old new : PageMap) (before after : List ℕ) (catalogue : CatalogueItems) : Type 0 where
  pub bytes : List ℕ
  pub says : SaysCatalogue bytes catalogue
  pub few : length after * PAGE_ROOM < length bytes + PAGE_ROOM
  pub stores : StoresBytes old new before after bytes

-- bytes that say the catalogue are more than these pages hold
pub record NeedsMorePages (numbers : List ℕ) (catalogue : CatalogueItems) : Type 0 where
  pub bytes : List ℕ
  pub says : SaysCatalogue bytes catalogue
  pub more : length numbers * PAGE_ROOM < length bytes

-- the catalogue is in these pages now: those that there were, as far as they are needed, come first
pub record StoresCatalogue (old new : PageMap) (before after : List ℕ) (catalogue : CatalogueItems) : Type 0 where
  pub kept : take (length before) after ≡ take (length after) before
  pub each : (was : List ℕ) → HoldsBytes old before was → StoresSaid old new before after catalogue
