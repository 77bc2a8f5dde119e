-- One table of what is open, at its place.
use Rattle.std.proofs.Common.{◌≡◌, ◌<◌, ◌≤◌, ◌+◌, ℕ, Some, List, ◌∷◌, ◌++◌, length, get_or, set, sym, ap, ◌∙◌, subst, arith}
use Rattle.std.proofs.lemmas.Option.{slice_get-get_or}
use Rattle.std.specs.List.{AllByRecursion, AllZip}
use Rattle.rs_attr.specs.Tables.{AreOn, ChangesTable, HoldsNoTable}
use Rattle.rs_file.specs.declared.opened.OpenedFile.{OpenedFile}
use Rattle.rs_file.specs.declared.opened.OpenedTable.{OpenedTable}
use Rattle.rs_file_parts.specs.Inner.{ClearsOpened, ClearsPlaces}
use Rattle.rs_file_parts.specs.Parts.{HoldsNoParts, IsReady, KeepsOpened, Makes}
use Rattle.rs_file_parts.proofs.Cleared.{Went, clears_at, opened_went}
use Rattle.rs_file_parts.proofs.Lists.{Stands, all_one, all_other, each_same, stands_at, together}
use Rattle.rs_file_parts.proofs.Made.{ChangesAt, makes_weaker, no_table, table_made}
use Rattle.rs_file_parts.proofs.Ready.{all_on_cells, same_kept}
use Rattle.rs_pages.specs.PageMap.{PageMap}
use Rattle.rs_versioned.specs.Events.{Event}

module _ (was : OpenedFile) (place : ℕ) (one : OpenedTable) (below : place < length was.tables.items) (is_there : one ≡ get_or was.tables.items place one) where
  stands : Stands was.tables.items place one
  stands = stands_at was.tables.items place one (slice_get-get_or was.tables.items place one below ∙ ap Some (sym is_there))

  pub place_on_cells : IsReady was → AreOn one.records.types one.indexes.items
  place_on_cells ready =
      let P : OpenedTable → Type 0 = λ table. AreOn table.records.types table.indexes.items in
      all_one P stands.before one stands.after (subst (AllByRecursion P) stands.are (all_on_cells was ready))

  pub place_none : (map : PageMap) → HoldsNoTable one.records.types map one.records.working one.indexes.items → HoldsNoParts map was
  place_none map none = no_table was stands.before stands.after one stands.are map none

  module _ (now : OpenedTable) (keeps : KeepsOpened one now) where
    pub place_keeps : AllZip KeepsOpened was.tables.items (set was.tables.items place now)
    place_keeps =
        subst (λ (ts : List OpenedTable). AllZip KeepsOpened ts (set was.tables.items place now)) (sym stands.are)
        (subst (AllZip KeepsOpened (stands.before ++ one ∷ stands.after)) (sym (stands.changed now))
        (together KeepsOpened stands.before one stands.after stands.before now stands.after (each_same KeepsOpened same_kept stands.before) keeps (each_same KeepsOpened same_kept stands.after)))

    pub place_all : (P : OpenedTable → Type 0) → (P one → P now) → AllByRecursion P was.tables.items → AllByRecursion P (set was.tables.items place now)
    place_all P becomes all =
        let before = subst (AllByRecursion P) stands.are all in
        subst (AllByRecursion P) (sym (stands.changed now)) (all_other P stands.before one now stands.after before (becomes (all_one P stands.before one stands.after before)))

    -- whatever the change of the table is
    pub place_made : (old new : PageMap) (is : OpenedFile) (from to : ℕ) (change : List Event → List Event → Type 0) → is.tables.items ≡ set was.tables.items place now → is.definitions ≡ was.definitions
        → is.pages ≡ was.pages → is.referents.working ≡ was.referents.working → from ≤ to
        → ChangesTable one.records.types old new one.records.working now.records.working one.indexes.items now.indexes.items from to change
        → Makes old new was is from to (ChangesAt one.records.types place change)
    place_made old new is from to change tables definitions pages referents later changes =
        subst (λ n. Makes old new was is from to (ChangesAt one.records.types n change)) stands.long
        (table_made was stands.before stands.after one stands.are old new is now from to change (tables ∙ stands.changed now) definitions pages referents keeps.types later changes)

    pub place_cleared : (old new : PageMap) (is : OpenedFile) (oldest most gone : ℕ) → is.tables.items ≡ set was.tables.items place now → is.definitions ≡ was.definitions → is.pages ≡ was.pages
        → is.referents.working ≡ was.referents.working → ClearsOpened old new one now oldest most gone → (accepted : ℕ)
        → Makes old new was is accepted accepted (ClearsPlaces oldest most gone place (place + 1))
    place_cleared old new is oldest most gone tables definitions pages referents clears accepted =
        let went = Went one.records.types oldest most gone in
        makes_weaker (ChangesAt one.records.types place went) (ClearsPlaces oldest most gone place (place + 1)) (clears_at one.records.types place oldest most gone) old new was is accepted accepted
        (place_made old new is accepted accepted went tables definitions pages referents (omega arith) (opened_went old new one now oldest most gone clears accepted))
