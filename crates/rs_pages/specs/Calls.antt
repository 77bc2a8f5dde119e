-- What is said of the pages that a call is lent.
use Rattle.std.specs.Prelude.{◌≡◌, Result, Err, IfOk}
use Rattle.rs_refusal.specs.declared.refusal.Refusal.{Refusal}
use Rattle.rs_refusal.specs.declared.refusal.Refusal.TheVariants as refusal
use Rattle.rs_pages.specs.Lending.{RestsAfter}
use Rattle.rs_pages.specs.PageMap.{PageMap}
use Rattle.rs_pages.specs.declared.pages.Pages.{Ghosts}

-- the call only reads: nothing has changed but which clean pages are held, and failures are counted
abbrev pub OnlyReads : {S T : Type 0} → Ghosts S → Result T Refusal → S → S → Type 0
OnlyReads pages result old new = RestsAfter pages.is_tied pages.store pages.keeps result old new

-- on an honest disk, what is so of the pages and of the answer, where the call is not refused
abbrev pub Reads : {S T : Type 0} → Ghosts S → (PageMap → T → Type 0) → Result T Refusal → S → Type 0
Reads pages read result old = pages.is_tied old → IfOk result (read (pages.store old).map)

-- on an honest disk, 94 comes only where this is so of the pages
abbrev pub DamagedOnlyIf : {S T : Type 0} → Ghosts S → (PageMap → Type 0) → Result T Refusal → S → Type 0
DamagedOnlyIf pages damaged result old = result ≡ Err refusal.DamagedFile → pages.is_tied old → damaged (pages.store old).map
