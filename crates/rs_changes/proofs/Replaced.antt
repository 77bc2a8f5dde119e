-- One table of what is open becomes another at its place, and becomes what it was where that is taken back.
use Rattle.std.proofs.Common.{◌≡◌, ◌<◌, ◌≤◌, ◌+◌, ℕ, zero, suc, Some, List, [], ◌∷◌, ◌++◌, Result, Ok, Err, IsOk, OnErr, OnOk, get_or, length, set, slice_get, refl, sym, ap, ◌∙◌, subst, arith}
use Rattle.std.proofs.lemmas.List.{length-append, length-map}
use Rattle.std.proofs.lemmas.Option.{slice_get-get_or}
use Rattle.std.specs.List.{AllByRecursion, AllZip}
use Rattle.rs_attr.specs.Entries.{FitsPages}
use Rattle.rs_attr.specs.Tables.{ChangesTable}
use Rattle.rs_catalog_pages.specs.Items.{CatalogueItems, IndexItem, RouteItem, TableItem}
use Rattle.rs_catalog_pages.specs.Said.{said_catalogue}
use Rattle.rs_cell_versions.specs.Version.{HaveDiedBy}
use Rattle.rs_file.specs.Contents.{type_of}
use Rattle.rs_file.specs.Slots.{IsOfItem, indexes_on}
use Rattle.rs_file.specs.declared.opened.OpenedFile.{OpenedFile}
use Rattle.rs_file.specs.declared.opened.OpenedTable.{OpenedTable}
use Rattle.rs_file_parts.specs.Parts.{IsReady, KeepsOpened, Makes}
use Rattle.rs_file_parts.proofs.Lists.{Stands, all_other, each_same, stands_at, together}
use Rattle.rs_file_parts.specs.Clearing.{ClearsAsMany}
use Rattle.rs_changes.proofs.Among.{set_between}
use Rattle.rs_changes.specs.Tables.{HasIndexAt, HasIndexOfAt, StaySame}
use Rattle.rs_file_parts.proofs.Made.{ChangesAt, makes_then, makes_weaker, table_made}
use Rattle.rs_file_parts.proofs.Ready.{same_kept}
use Rattle.rs_pages.specs.PageMap.{PageMap}
use Rattle.rs_change_laws.specs.Parts.{ChangesTableAt}
use Rattle.rs_changes.proofs.Commuting.{ThenChanges, changes_table_at, then_changes}
use Rattle.rs_changes.proofs.Readied.{on_both, on_this}
use Rattle.rs_value.specs.declared.column.ColumnType.{ColumnType}
use Rattle.rs_versioned.specs.Events.{Event}

pub any_err : {T E A : Type 0} (result : Result T E) → A → OnErr result A
any_err (Ok x) a = tt
any_err (Err e) a = a

pub when_ok : {T E A : Type 0} (result : Result T E) → IsOk result → OnOk result A → A
when_ok (Ok x) is a = a
when_ok (Err e) is a = absurd (cc)

pub inside_of : {X : Type 0} (xs : List X) (k : ℕ) (x : X) → slice_get xs k ≡ Some x → k < length xs
inside_of [] k x there = absurd (cc)
inside_of (y ∷ ys) zero x there = omega arith
inside_of (y ∷ ys) (suc k) x there = omega (arith, inside_of ys k x there)

pub zip_at : {X Y : Type 0} (R : X → Y → Type 0) (xs : List X) (ys : List Y) (k : ℕ) (x : X) (y : Y) → AllZip R xs ys → slice_get xs k ≡ Some x → slice_get ys k ≡ Some y → R x y
zip_at R [] [] k x y all there here = absurd (cc)
zip_at R [] (z ∷ zs) k x y all there here = absurd all
zip_at R (w ∷ ws) [] k x y all there here = absurd all
zip_at R (w ∷ ws) (z ∷ zs) zero x y all there here = let one : w ≡ x = cc in let other : z ≡ y = cc in subst (λ v. R v y) one (subst (R w) other all.0)
zip_at R (w ∷ ws) (z ∷ zs) (suc k) x y all there here = zip_at R ws zs k x y all.1 there here

zip_long : {X Y : Type 0} (R : X → Y → Type 0) (xs : List X) (ys : List Y) → AllZip R xs ys → length xs ≡ length ys
zip_long R [] [] all = refl
zip_long R [] (y ∷ ys) all = absurd all
zip_long R (x ∷ xs) [] all = absurd all
zip_long R (x ∷ xs) (y ∷ ys) all = ap suc (zip_long R xs ys all.1)

-- a table that is defined is open
pub open_there : (file : OpenedFile) (place : ℕ) (item : TableItem) → IsReady file → slice_get (said_catalogue file.definitions).tables place ≡ Some item → place < length file.tables.items
open_there file place item ready there =
    omega (
      arith,
      inside_of (said_catalogue file.definitions).tables place item there,
      zip_long (IsOfItem (said_catalogue file.definitions)) (said_catalogue file.definitions).tables file.tables.items ready.tables,
    )

pub as_many_indexes : (file : OpenedFile) (place : ℕ) (item : TableItem) (one : OpenedTable) → IsReady file → slice_get (said_catalogue file.definitions).tables place ≡ Some item
    → slice_get file.tables.items place ≡ Some one → IsOfItem (said_catalogue file.definitions) item one × (length (indexes_on (said_catalogue file.definitions).indexes item.number) ≡ length one.indexes.items)
as_many_indexes file place item one ready there here =
    let of = zip_at (IsOfItem (said_catalogue file.definitions)) (said_catalogue file.definitions).tables file.tables.items place item one ready.tables there here in
    (of, zip_long _ (indexes_on (said_catalogue file.definitions).indexes item.number) one.indexes.items of.indexes)

module _ (file : OpenedFile) (place : ℕ) (one : OpenedTable) (below : place < length file.tables.items) (is_there : one ≡ get_or file.tables.items place one) where
  pub here_is : slice_get file.tables.items place ≡ Some one
  here_is = slice_get-get_or file.tables.items place one below ∙ ap Some (sym is_there)

  here : Stands file.tables.items place one
  here = stands_at file.tables.items place one here_is

  -- the events of the table have changed so, whatever its indexes are
  pub place_changed : (now : OpenedTable) (old new : PageMap) (is : OpenedFile) (from to : ℕ) (change : List Event → List Event → Type 0) → is.tables.items ≡ set file.tables.items place now
      → is.definitions ≡ file.definitions → is.pages ≡ file.pages → is.referents.working ≡ file.referents.working → now.records.types ≡ one.records.types → from ≤ to
      → ChangesTable one.records.types old new one.records.working now.records.working one.indexes.items now.indexes.items from to change
      → Makes old new file is from to (ChangesTableAt place change)
  place_changed now old new is from to change tables definitions pages referents types later changes =
      makes_weaker (ChangesAt one.records.types place change) (ChangesTableAt place change) (changes_table_at one.records.types place change) old new file is from to
      (subst (λ n. Makes old new file is from to (ChangesAt one.records.types n change)) here.long
      (table_made file here.before here.after one here.are old new is now from to change (tables ∙ here.changed now) definitions pages referents types later changes))

  -- the same records of it are dead
  pub place_order : (now : OpenedTable) (version : ℕ) → now.records ≡ one.records → AllByRecursion (λ (table : OpenedTable). HaveDiedBy version table.records.working.dead) file.tables.items
      → AllByRecursion (λ (table : OpenedTable). HaveDiedBy version table.records.working.dead) (set file.tables.items place now)
  place_order now version same all =
      let P : OpenedTable → Type 0 = λ table. HaveDiedBy version table.records.working.dead in
      let before = subst (AllByRecursion P) here.are all in
      subst (AllByRecursion P) (sym (here.changed now))
      (all_other P here.before one now here.after before (subst (λ (r : _). HaveDiedBy version r.working.dead) (sym same) (first here.before here.after before))) where
        first : (before after : List OpenedTable) → AllByRecursion (λ (table : OpenedTable). HaveDiedBy version table.records.working.dead) (before ++ one ∷ after) → HaveDiedBy version one.records.working.dead
        first [] after all = all.0
        first (b ∷ bs) after all = first bs after all.1

  -- another was there and a last one is, of which what was committed is that of the first
  pub place_restored : (now last : OpenedTable) → KeepsOpened one last → AllZip KeepsOpened file.tables.items (set (set file.tables.items place now) place last)
  place_restored now last keeps =
      let are : set (set file.tables.items place now) place last ≡ here.before ++ last ∷ here.after =
      ap (λ (ts : List OpenedTable). set ts place last) (here.changed now) ∙ set_between here.before here.after place now last here.long in
      subst (λ (ts : List OpenedTable). AllZip KeepsOpened ts (set (set file.tables.items place now) place last)) (sym here.are)
      (subst (AllZip KeepsOpened (here.before ++ one ∷ here.after)) (sym are)
      (together KeepsOpened here.before one here.after here.before last here.after (each_same KeepsOpened same_kept here.before) keeps (each_same KeepsOpened same_kept here.after)))

  pub place_kept : (last : OpenedTable) → KeepsOpened one last → AllZip KeepsOpened file.tables.items (set file.tables.items place last)
  place_kept last keeps =
      subst (λ (ts : List OpenedTable). AllZip KeepsOpened ts (set file.tables.items place last)) (sym here.are)
      (subst (AllZip KeepsOpened (here.before ++ one ∷ here.after)) (sym (here.changed last))
      (together KeepsOpened here.before one here.after here.before last here.after (each_same KeepsOpened same_kept here.before) keeps (each_same KeepsOpened same_kept here.after)))

  -- what is read at the place after it was written
  pub read_back : (now other : OpenedTable) → other ≡ get_or (set file.tables.items place now) place other → other ≡ now
  read_back now other is = is ∙ ap (λ (ts : List OpenedTable). get_or ts place other) (here.changed now) ∙ at here.before here.after place here.long where
    at : (before after : List OpenedTable) (k : ℕ) → length before ≡ k → get_or (before ++ now ∷ after) k other ≡ now
    at [] after zero long = refl
    at [] after (suc k) long = absurd (omega arith)
    at (b ∷ bs) after zero long = absurd (omega arith)
    at (b ∷ bs) after (suc k) long = at bs after k (omega arith)

-- the routes' births, where the version that was accepted last stays
pub births_still : (routes : List RouteItem) (one other : ℕ) → other ≡ one → AllByRecursion (λ (route : RouteItem). route.born ≤ one + 1) routes
    → AllByRecursion (λ (route : RouteItem). route.born ≤ other + 1) routes
births_still routes one other same births = subst (λ n. AllByRecursion (λ (route : RouteItem). route.born ≤ n + 1) routes) (sym same) births

-- an index that is listed at a position is open there
pub position_inside : (definitions : CatalogueItems) (file : OpenedFile) (place position : ℕ) (one : OpenedTable) → IsReady file → slice_get file.tables.items place ≡ Some one
    → HasIndexAt place position definitions (said_catalogue file.definitions) → position < length one.indexes.items
position_inside definitions file place position one ready here less =
    let n = less.table.number in
    let many = (as_many_indexes file place less.table one ready less.there here).1 in
    let on : indexes_on (said_catalogue file.definitions).indexes n ≡ indexes_on less.before n ++ less.index ∷ indexes_on less.after n =
    ap (λ (xs : List IndexItem). indexes_on xs n) less.are ∙ on_this less.before less.after less.index n less.of_table in
    omega (arith, many, ap length on, length-append (indexes_on less.before n) (less.index ∷ indexes_on less.after n), less.long)

-- records were cleared, and then the table has other indexes
pub index_made : (oldest gone place : ℕ) (old mid new : PageMap) (was between is : OpenedFile) (one now : OpenedTable) → place < length between.tables.items → one ≡ get_or between.tables.items place one
    → is.tables.items ≡ set between.tables.items place now → is.definitions ≡ between.definitions → is.pages ≡ between.pages → is.referents.working ≡ between.referents.working
    → now.records.types ≡ one.records.types → ((version : ℕ) → Makes old mid was between version version (ClearsAsMany oldest 64 gone))
    → ((version : ℕ) → ChangesTable one.records.types mid new one.records.working now.records.working one.indexes.items now.indexes.items version version StaySame)
    → (version : ℕ) → Makes old new was is version version (ThenChanges oldest gone (ChangesTableAt place StaySame))
index_made oldest gone place old mid new was between is one now below is_there tables definitions pages referents types clears changes version =
    makes_then (ClearsAsMany oldest 64 gone) (ChangesTableAt place StaySame) (ThenChanges oldest gone (ChangesTableAt place StaySame)) (then_changes oldest gone (ChangesTableAt place StaySame))
    old mid new was between is version version version (clears version)
    (place_changed between place one below is_there now mid new is version version StaySame tables definitions pages referents types (omega arith) (changes version))

-- the table of an index that is to come is there, and the index fits it
pub indexed_there : (definitions : CatalogueItems) (file : OpenedFile) (place position : ℕ) → (more : HasIndexAt place position (said_catalogue file.definitions) definitions)
    → slice_get (said_catalogue file.definitions).tables place ≡ Some more.table
indexed_there definitions file place position more = ap (λ (ts : List TableItem). slice_get ts place) (sym more.tables) ∙ more.there

pub index_fits : (definitions : CatalogueItems) (file : OpenedFile) (place position column : ℕ) (one : OpenedTable) → IsReady file → slice_get file.tables.items place ≡ Some one
    → HasIndexOfAt place position column (said_catalogue file.definitions) definitions
    → (column < length one.records.types) × FitsPages one.records.types column × (position ≤ length one.indexes.items)
index_fits definitions file place position column one ready here of_column =
    let more = of_column.more in
    let n = more.table.number in
    let found = as_many_indexes file place more.table one ready (indexed_there definitions file place position more) here in
    let on : indexes_on (said_catalogue file.definitions).indexes n ≡ indexes_on more.before n ++ indexes_on more.after n =
    ap (λ (xs : List IndexItem). indexes_on xs n) more.were ∙ on_both more.before more.after n in (
      omega (arith, of_column.below, ap length found.0.types, length-map more.table.columns type_of),
      subst (λ (ts : List ColumnType). FitsPages ts column) (sym found.0.types) of_column.fits,
      omega (arith, found.1, ap length on, length-append (indexes_on more.before n) (indexes_on more.after n), more.long),
    )
