-- What a call leaves of the pages that it is lent to change.
use Rattle.std.specs.Prelude.{◌≡◌, ℕ, List, Some, Result, IfOk}
use Rattle.rs_pages.specs.Refusal.{Refusal}
use Rattle.rs_pages.specs.PageMap.{PageMap}
use Rattle.rs_pages.specs.declared.pages.Pages.{Ghosts}
use Rattle.rs_page_owners.specs.Changes.{WorksAfter}

-- what is left on any disk, and which refusals may come: 94 on an honest disk only where this is damaged
abbrev pub WorksOn : {S T : Type 0} → Ghosts S → Type 0 → Result T Refusal → S → S → Type 0
WorksOn pages damaged result old new = WorksAfter (pages.is_tied old → damaged) result (pages.store old) (pages.store new)

-- the same, and what lies below the working pages is kept
pub record Leaves {S T : Type 0} (pages : Ghosts S) (damaged : Type 0) (result : Result T Refusal) (old new : S) : Type 0 where
  pub keeps : pages.keeps old new
  pub works : WorksOn pages damaged result old new

-- what a call that is not refused makes of the pages of an honest disk, those before it and after it, with its answer
abbrev pub Makes : {S T : Type 0} → Ghosts S → (PageMap → PageMap → T → Type 0) → Result T Refusal → S → S → Type 0
Makes pages made result old new = pages.is_tied old → IfOk result (made (pages.store old).map (pages.store new).map)

-- on an honest disk, what is so of the pages before a call and after it, and of the bytes that the working page with this number
-- had before it, refused or not
abbrev pub WithPage : {S : Type 0} → Ghosts S → ℕ → (PageMap → PageMap → List ℕ → Type 0) → S → S → Type 0
WithPage pages number told old new = pages.is_tied old → (page : List ℕ) → (pages.store old).map.page number ≡ Some page → told (pages.store old).map (pages.store new).map page
