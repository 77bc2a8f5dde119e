-- The place of a table of the catalogue among those of the file.
use Rattle.std.proofs.Common.{◌≡◌, ◌≤◌, ◌<◌, ◌∙◌, ℕ, zero, suc, Bool, true, false, cond, List, [], ◌∷◌, Some, None, ap, length, map, refl, slice_get, subst, sym, arith}
use Rattle.std.specs.FinMap as names
use Rattle.std.specs.FinMap.{find, get-entries}
use Rattle.std.specs.List.{AllByRecursion, AllZip}
use Rattle.std.specs.Option.{option_map}
use Rattle.std.specs.Ordering.{eq_by_cmp}
use Rattle.std.specs.Prelude.{Contains, IfNone, IsSome, Option, is_some}
use Rattle.std.proofs.lemmas.Bool.{false≢true, ne_eqb}
use Rattle.std.proofs.lemmas.Option.{none-some, same_Some, slice_get-map, slice_get_within}
use Rattle.rs_catalog.specs.Definitions.{AreDefinitions, Definitions, TableItem}
use Rattle.rs_catalog.proofs.Names.{each_entry}
use Rattle.rs_catalog_laws.proofs.Numbers.{only_of_number}
use Rattle.rs_catalog_pages.specs.Items as items
use Rattle.rs_catalog_pages.specs.Items.{CatalogueItems}
use Rattle.rs_catalog_pages.specs.Said.{said_catalogue, said_table}
use Rattle.rs_facts.specs.Fact.{Name, Names, name_cmp}
use Rattle.rs_facts.specs.Query.{Column}
use Rattle.rs_file.specs.Contents.{table_numbers, type_of}
use Rattle.rs_file.specs.Slots.{IsOfItem}
use Rattle.rs_file.specs.declared.opened.OpenedFile.{OpenedFile}
use Rattle.rs_file.specs.declared.opened.OpenedTable.{OpenedTable}
use Rattle.rs_file_meaning.proofs.Named.{later_there, same_name}
use Rattle.rs_machine.specs.Checks.{column_types}
use Rattle.rs_machine.specs.State.{has}
use Rattle.rs_store.specs.Kept.{IsAtRest}
use Rattle.rs_store.specs.Placing.{HasNoNumber, IsNumberedAt, IsPlaceOf}
use Rattle.rs_stored_catalog.specs.Listing.{listed_column, listed_table}
use Rattle.rs_syntax.specs.Sound.{AreColumns}
use Rattle.rs_value.specs.declared.column.ColumnType.{ColumnType}
use Rattle.rs_value.specs.declared.column.ColumnType.TheVariants.{Int, Text}

-- ---- lists

-- what an element of a list that was said comes from
pub record ComesFrom {X Y : Type 0} (said : X → Y) (xs : List X) (place : ℕ) (y : Y) : Type 0 where
  pub one : X
  pub there : slice_get xs place ≡ Some one
  pub is : said one ≡ y

pub comes_from : {X Y : Type 0} (said : X → Y) (xs : List X) (place : ℕ) (y : Y) → slice_get (map said xs) place ≡ Some y → ComesFrom said xs place y
comes_from said [] place y is = absurd (none-some y is)
comes_from said (x ∷ xs) zero y is = record { one = x; there = refl; is = same_Some (said x) y is }
comes_from said (x ∷ xs) (suc place) y is = let rest = comes_from said xs place y is in record { one = rest.one; there = rest.there; is = rest.is }

pub at_place : {X : Type 0} (xs : List X) (x : X) → Contains xs x → (place : ℕ) × (slice_get xs place ≡ Some x)
at_place [] x has = absurd (omega (arith, has.1))
at_place (y ∷ ys) x (zero, inside, is) = (0, ap Some is)
at_place (y ∷ ys) x (suc place, inside, is) = let rest = at_place ys x (place, omega arith, is) in (suc rest.0, rest.1)

pub each_at : {X : Type 0} (P : X → Type 0) (xs : List X) (place : ℕ) (x : X) → AllByRecursion P xs → slice_get xs place ≡ Some x → P x
each_at P [] place x all is = absurd (none-some x is)
each_at P (y ∷ ys) zero x all is = subst P (same_Some y x is) all.0
each_at P (y ∷ ys) (suc place) x all is = each_at P ys place x all.1 is

-- the element that goes with one at the same place
pub record GoesWith {X Y : Type 0} (R : X → Y → Type 0) (x : X) (ys : List Y) (place : ℕ) : Type 0 where
  pub one : Y
  pub there : slice_get ys place ≡ Some one
  pub goes : R x one

pub goes_with : {X Y : Type 0} (R : X → Y → Type 0) (xs : List X) (ys : List Y) (place : ℕ) (x : X) → AllZip R xs ys → slice_get xs place ≡ Some x → GoesWith R x ys place
goes_with R [] ys place x all is = absurd (none-some x is)
goes_with R (y ∷ xs) [] place x all is = absurd all
goes_with R (y ∷ xs) (z ∷ zs) zero x all is = record { one = z; there = refl; goes = subst (λ (w : _). R w z) (same_Some y x is) all.0 }
goes_with R (y ∷ xs) (z ∷ zs) (suc place) x all is = let rest = goes_with R xs zs place x all.1 is in record { one = rest.one; there = rest.there; goes = rest.goes }

-- ---- entries of a map

found_there : {X : Type 0} (entries : List (Name × X)) (name : Name) (x : X) → find name_cmp name entries ≡ Some x → Contains entries (name, x)
found_there [] name x found = absurd (none-some x found)
found_there (e ∷ es) name x found =
    elim (eq_by_cmp name_cmp name e.0) as (λ b. eq_by_cmp name_cmp name e.0 ≡ b → cond b (Some e.1) (find name_cmp name es) ≡ Some x → Contains (e ∷ es) (name, x)) [
      | true ↦ λ same is. (0, omega arith, λ i. (sym (same_name name e.0 same) i, same_Some e.1 x is i))
      | false ↦ λ other is. later_there e (name, x) es (found_there es name x is)
    ] refl found

pub entry_there : {X : Type 0} (values : Names X) (name : Name) (x : X) → names.get values name ≡ Some x → Contains (names.entries values) (name, x)
entry_there values name x there = found_there (names.entries values) name x (sym (get-entries values name) ∙ there)

-- what a name that is there stands for
pub has_one : {X : Type 0} (values : Names X) (name : Name) → has values name ≡ true → (x : X) × (names.get values name ≡ Some x)
has_one {X} values name there = of (names.get values name) there where
  of : (found : Option X) → is_some found ≡ true → (x : X) × (found ≡ Some x)
  of None none = absurd (false≢true none)
  of (Some x) some = (x, refl)

-- ---- columns

-- a column that a table may have is listed as a column of its type
pub columns_listed : (columns : List Column) → AreColumns columns → map type_of (map listed_column columns) ≡ column_types columns
columns_listed [] are = refl
columns_listed ((name, Int) ∷ columns) are = ap (λ (types : List ColumnType). Int ∷ types) (columns_listed columns are.2)
columns_listed ((name, Text most) ∷ columns) are =
    let some : 1 ≤ most = are.1.0 in
    ap (λ (b : Bool). cond b Int (Text most) ∷ map type_of (map listed_column columns)) (ne_eqb most 0 (λ none. omega (arith, some, none)))
    ∙ ap (λ (types : List ColumnType). Text most ∷ types) (columns_listed columns are.2)

-- ---- tables

-- a number that is not nowhere is found
pub is_found : {P : Type 0} (found : Option ℕ) → IfNone found P → (P → ⊥) → IsSome found
is_found None none some = absurd (some none)
is_found (Some place) none some = refl

-- what is said of the table at the place of a number
said_at : (file : OpenedFile) (number place : ℕ) (at : IsNumberedAt file.definitions.tables.items number place)
    → slice_get (said_catalogue file.definitions).tables place ≡ Some (said_table at.table)
said_at file number place at = slice_get-map said_table file.definitions.tables.items place ∙ ap (option_map said_table) at.there

-- its number is the number at the place
pub numbers_at : (file : OpenedFile) (number place : ℕ) → IsNumberedAt file.definitions.tables.items number place
    → slice_get (table_numbers (said_catalogue file.definitions)) place ≡ Some number
numbers_at file number place at =
    slice_get-map (λ (table : items.TableItem). table.number) (said_catalogue file.definitions).tables place
    ∙ ap (option_map (λ (table : items.TableItem). table.number)) (said_at file number place at) ∙ ap Some at.numbered

module _ (file : OpenedFile) (catalog : Definitions) (rests : IsAtRest file catalog) where
  tables_listed : map listed_table (names.entries catalog.tables) ≡ map said_table file.definitions.tables.items
  tables_listed = ap (λ (said : CatalogueItems). said.tables) rests.listing

  -- a table of the catalogue has its number in the file
  pub number_there : (name : Name) (item : TableItem) (number : ℕ) → names.get catalog.tables name ≡ Some item → item.number ≡ number → HasNoNumber file.definitions.tables.items number → ⊥
  number_there name item number there numbered none =
      let at = at_place (names.entries catalog.tables) (name, item) (entry_there catalog.tables name item there) in
      let said : slice_get (map said_table file.definitions.tables.items) at.0 ≡ Some (listed_table (name, item)) =
      ap (λ (tables : List items.TableItem). slice_get tables at.0) (sym tables_listed) ∙ slice_get-map listed_table (names.entries catalog.tables) at.0
      ∙ ap (option_map listed_table) at.1 in
      let from = comes_from said_table file.definitions.tables.items at.0 (listed_table (name, item)) said in
      none.none at.0 from.one from.there (ap (λ (table : items.TableItem). table.number) from.is ∙ numbered)

  -- a table is open at the place of a number
  opened_at : (number place : ℕ) (at : IsNumberedAt file.definitions.tables.items number place)
      → GoesWith (IsOfItem (said_catalogue file.definitions)) (said_table at.table) file.tables.items place
  opened_at number place at =
      goes_with (IsOfItem (said_catalogue file.definitions)) (said_catalogue file.definitions).tables file.tables.items place (said_table at.table) rests.may.ready.tables
      (said_at file number place at)

  pub place_below : (number place : ℕ) → IsNumberedAt file.definitions.tables.items number place → place < length file.tables.items
  place_below number place at = let goes = opened_at number place at in slice_get_within file.tables.items place goes.one goes.there

  -- the place of its number is its place
  pub place_of_number : AreDefinitions catalog → (name : Name) (item : TableItem) (place : ℕ) → names.get catalog.tables name ≡ Some item
      → IsNumberedAt file.definitions.tables.items item.number place → IsPlaceOf file item place
  place_of_number are name item place there at =
      let from = comes_from listed_table (names.entries catalog.tables) place (said_table at.table)
      (ap (λ (tables : List items.TableItem). slice_get tables place) tables_listed ∙ said_at file item.number place at) in
      let entry = from.one in
      let under : names.get catalog.tables entry.0 ≡ Some entry.1 =
      each_at (λ (e : Name × TableItem). names.get catalog.tables e.0 ≡ Some e.1) (names.entries catalog.tables) place entry (each_entry catalog.tables) from.there in
      let same : entry.1 ≡ item =
      only_of_number (λ (i : TableItem). i.number) catalog.tables are.table_numbers entry.0 name entry.1 item under there (ap (λ (table : items.TableItem). table.number) from.is ∙ at.numbered) in
      let goes = opened_at item.number place at in
      let typed : map type_of (said_table at.table).columns ≡ column_types item.columns =
      ap (λ (table : items.TableItem). map type_of table.columns) (sym from.is) ∙ ap (λ (i : TableItem). map type_of (map listed_column i.columns)) same
      ∙ columns_listed item.columns (rests.columns name item there).sound in
      record {
        numbered = numbers_at file item.number place at;
        below = place_below item.number place at;
        types = λ opened is. ap (λ (o : OpenedTable). o.records.types) (sym (same_Some goes.one opened (sym goes.there ∙ is))) ∙ goes.goes.types ∙ typed;
      }
