-- As many records of a store may be cleared as are dead, where no version before the one that was accepted last is live.
use Rattle.std.proofs.Common.{◌≡◌, ◌<◌, ◌∙◌, ℕ, List, [], ◌∷◌, ap, length, refl, sym, arith}
use Rattle.std.proofs.lemmas.List.Sums.{sum_by-cons}
use Rattle.std.specs.List.{AllByRecursion, AllZip, sum_by}
use Rattle.rs_cell_versions.specs.declared.cell.TheConstants.{LIVING}
use Rattle.rs_cell_versions.specs.Versioned.{Standing}
use Rattle.rs_disk.specs.declared.disk.Disk as disk
use Rattle.rs_file.specs.Contents.{Contents, LiesTable, TableContents}
use Rattle.rs_file.specs.Opening.{IsOpened}
use Rattle.rs_file.specs.declared.opened.OpenedTable.{OpenedTable}
use Rattle.rs_file_parts.specs.Clearing.{clearable, clearable_events}
use Rattle.rs_pager.specs.Maps.{committed}
use Rattle.rs_pages.specs.PageMap.{PageMap}
use Rattle.rs_versioned.specs.Events.{kept_events}
use Rattle.rs_versioned.specs.Referents.{kept_referents}
use Rattle.rs_versioned.proofs.KeptRecords.{events_are_kept}
use Rattle.rs_versioned.proofs.KeptReferents.{referents_are_kept}
use Rattle.rs_versioned.proofs.Present.{held_clearable}
use Rattle.rs_store.specs.Kept.{Keeps, StoreState, dead_of, garbage_of}

tables_dead : (map : PageMap) (level : ℕ) → level < LIVING → (opened : List OpenedTable) (tables : List TableContents) → AllZip IsOpened opened tables → AllByRecursion (LiesTable map level) tables
    → sum_by (λ (table : TableContents). clearable_events level table.events) tables ≡ sum_by dead_of opened
tables_dead map level before [] [] are lie = refl
tables_dead map level before [] (t ∷ ts) are lie = absurd are
tables_dead map level before (o ∷ os) [] are lie = absurd are
tables_dead map level before (o ∷ os) (t ∷ ts) are lie =
    let weigh : TableContents → ℕ = λ t. clearable_events level t.events in
    let first = held_clearable (kept_events t.types) (events_are_kept t.types) map t.standing level t.events t.used lie.0.records before in
    omega (arith, sum_by-cons weigh t ts, sum_by-cons dead_of o os, first, ap (λ (s : Standing). length s.dead) are.0.stands, tables_dead map level before os ts are.1 lie.1)

pub all_may_go : {D : Type 0} (d : disk.Ghosts D) (store : StoreState D) (contents : Contents) → Keeps d store contents → clearable store.file.accepted contents ≡ garbage_of store.file
all_may_go d store contents keeps =
    let level = contents.directory.accepted in
    let map = committed d store.pager in
    let before : level < LIVING = omega (arith, keeps.holds.limit) in
    let referents = held_clearable kept_referents referents_are_kept map contents.referents.standing level contents.referents.referents contents.referents.used keeps.holds.parts.referents before in
    ap (λ (n : ℕ). clearable n contents) (sym keeps.opened.accepted)
    ∙ omega (
      arith,
      tables_dead map level before store.file.tables.items contents.tables keeps.opened.tables keeps.holds.parts.tables,
      referents,
      ap (λ (s : Standing). length s.dead) keeps.opened.referents,
    )
