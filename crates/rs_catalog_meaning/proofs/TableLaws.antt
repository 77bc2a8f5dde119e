-- Tables, their columns, and what is said of them.
use Rattle.std.proofs.Common.{◌≡◌, ◌<◌, ◌≤◌, ◌+◌, ◌-◌, ◌↔◌, ℕ, Bool, true, false, List, [], ◌∷◌, length, map, drop, take, get_or, refl, sym, ap, subst, ◌∙◌, arith}
use Rattle.std.specs.Prelude.{Contains, ◌≢◌, ◌==◌, string_bytes, if◌then◌else◌}
use Rattle.std.specs.Bool.{MatchBool}
use Rattle.std.specs.List.{AllByRecursion, AllWithin, HoldsAt}
use Rattle.std.proofs.lemmas.Bool.{eqb-false, eqb-true, false≢true}
use Rattle.std.proofs.lemmas.List.{drop_all, drop_more, get_or-map, length-map, take_rest}
use Rattle.std.proofs.lemmas.List.Elements.{All-contains, All-from_recursion, Contains-get_or}
use Rattle.rs_machine.specs.Checks.{column_names}
use Rattle.rs_machine.specs.Lawful.{AreDistinct}
use Rattle.rs_syntax.specs.Sound.{AreColumns, IsColumnType, IsName}
use Rattle.rs_value.specs.declared.column.TheConstants.{TEXT_BYTES}
use Rattle.rs_value.specs.declared.column.ColumnType.TheVariants as types
use Rattle.rs_catalog_pages.specs.Items.{ColumnItem, TableItem}
use Rattle.rs_catalog_pages.specs.Said.{said_column, said_table}
use Rattle.rs_catalog_pages.specs.declared.items.StoredColumn.{StoredColumn}
use Rattle.rs_catalog_pages.specs.declared.items.StoredTable.{StoredTable}
use Rattle.rs_catalog_meaning.specs.Meaning.{column_of, columns_of}
use Rattle.rs_catalog_meaning.proofs.Each.{all_read, each_said}

-- ---- types

abbrev pub type_of : ℕ → Type 0
type_of type = IsColumnType (if type == 0 then types.Int else types.Text type)

pub is_type : (type : ℕ) → type ≤ TEXT_BYTES → type_of type
is_type type short =
    elim (type == 0) as (λ b. (type == 0) ≡ b → IsColumnType (if b then types.Int else types.Text type)) [
      | true ↦ λ e. tt
      | false ↦ λ e. (positive e, short)
    ] refl
  where
    positive : (type == 0) ≡ false → 1 ≤ type
    positive e = let some = eqb-false type 0 e in omega arith

pub type_is : (type : ℕ) → type_of type → type ≤ TEXT_BYTES
type_is type is =
    elim (type == 0) as (λ b. (type == 0) ≡ b → IsColumnType (if b then types.Int else types.Text type) → type ≤ TEXT_BYTES) [
      | true ↦ λ e any. omega (arith, eqb-true type 0 e)
      | false ↦ λ e bounds. bounds.1
    ] refl is

-- ---- columns

abbrev pub IsColumn : ColumnItem → Type 0
IsColumn column = IsName column.name × IsColumnType (column_of column).1

pub are_columns : (columns : List ColumnItem) → AllByRecursion IsColumn columns → AreColumns (columns_of columns)
are_columns [] each = tt
are_columns (column ∷ columns) each = (each.0.0, each.0.1, are_columns columns each.1)

pub each_column : (columns : List ColumnItem) → AreColumns (columns_of columns) → AllByRecursion IsColumn columns
each_column [] are = tt
each_column (column ∷ columns) are = ((are.0, are.1), each_column columns are.2)

-- the answer of `all`
pub answer_columns : (columns : List StoredColumn) (r : Bool) → (r ≡ true) ↔ AllByRecursion IsColumn (map said_column columns)
    → (r ≡ true) ↔ AreColumns (columns_of (map said_column columns))
answer_columns columns r answer = (λ e. are_columns (map said_column columns) (answer.0 e), λ are. answer.1 (each_column (map said_column columns) are))

-- ---- names that are there once

abbrev pub name_of : StoredColumn → List ℕ
name_of column = string_bytes column.name

abbrev names_of : List StoredColumn → List (List ℕ)
names_of columns = column_names (columns_of (map said_column columns))

abbrev pub Distinct : List StoredColumn → Type 0
Distinct columns = AreDistinct (names_of columns)

unlike : (column : StoredColumn) (columns : List StoredColumn) → AllByRecursion (λ (other : StoredColumn). name_of other ≢ name_of column) columns
    → AllByRecursion (λ name. name_of column ≢ name) (names_of columns)
unlike column [] free = tt
unlike column (other ∷ columns) free = (λ e. free.0 (sym e), unlike column columns free.1)

unlike_back : (column : StoredColumn) (columns : List StoredColumn) → AllByRecursion (λ name. name_of column ≢ name) (names_of columns)
    → AllByRecursion (λ (other : StoredColumn). name_of other ≢ name_of column) columns
unlike_back column [] free = tt
unlike_back column (other ∷ columns) free = (λ e. free.0 (sym e), unlike_back column columns free.1)

opened : (columns : List StoredColumn) (i : ℕ) (column : StoredColumn) → i < length columns → column ≡ get_or columns i column
    → drop i columns ≡ column ∷ drop (i + 1) columns
opened columns i column inside is = drop_more columns i column inside ∙ ap (λ c. c ∷ drop (i + 1) columns) (sym is)

-- the columns after one of them
rest : (columns : List StoredColumn) (i : ℕ) → take (length columns - (i + 1)) (drop (i + 1) columns) ≡ drop (i + 1) columns
rest columns i = take_rest columns (i + 1)

abbrev pub Free : List ℕ → List StoredColumn → Type 0
Free name columns = AllByRecursion (λ (other : StoredColumn). name_of other ≢ name) columns

pub rest_free : (columns : List StoredColumn) (i : ℕ) (name own : List ℕ) → name ≡ own → Free name (take (length columns - (i + 1)) (drop (i + 1) columns))
    → Free own (drop (i + 1) columns)
rest_free columns i name own same free = subst (λ n. Free n (drop (i + 1) columns)) same (subst (Free name) (rest columns i) free)

pub free_rest : (columns : List StoredColumn) (i : ℕ) (name own : List ℕ) → name ≡ own → Free own (drop (i + 1) columns)
    → Free name (take (length columns - (i + 1)) (drop (i + 1) columns))
free_rest columns i name own same free = subst (Free name) (sym (rest columns i)) (subst (λ n. Free n (drop (i + 1) columns)) (sym same) free)

-- one column more
pub distinct_more : (columns : List StoredColumn) (i : ℕ) (column : StoredColumn) → i < length columns → column ≡ get_or columns i column
    → AllByRecursion (λ (other : StoredColumn). name_of other ≢ name_of column) (drop (i + 1) columns)
    → Distinct columns ↔ Distinct (drop i columns) → Distinct columns ↔ Distinct (drop (i + 1) columns)
distinct_more columns i column inside is free so = (
  λ are. let here : Distinct (column ∷ drop (i + 1) columns) = subst Distinct (opened columns i column inside is) (so.0 are) in here.1,
  λ are. so.1 (subst Distinct (sym (opened columns i column inside is)) (unlike column (drop (i + 1) columns) free, are)),
)

pub distinct_not : (columns : List StoredColumn) (i : ℕ) (column : StoredColumn) → i < length columns → column ≡ get_or columns i column
    → (AllByRecursion (λ (other : StoredColumn). name_of other ≢ name_of column) (drop (i + 1) columns) → ⊥)
    → Distinct columns ↔ Distinct (drop i columns) → Distinct columns → ⊥
distinct_not columns i column inside is taken so are =
    let here : Distinct (column ∷ drop (i + 1) columns) = subst Distinct (opened columns i column inside is) (so.0 are) in
    taken (unlike_back column (drop (i + 1) columns) here.0)

pub distinct_all : (columns : List StoredColumn) (i : ℕ) → length columns ≤ i → Distinct columns ↔ Distinct (drop i columns) → Distinct columns
distinct_all columns i whole so = so.1 (subst Distinct (sym (drop_all i columns whole)) tt)

-- ---- tables by their numbers

abbrev pub HasColumn : ℕ → ℕ → TableItem → Type 0
HasColumn number column table = (table.number ≡ number) × (column < length table.columns)

-- the answer of `any`
pub answer_column : (number column : ℕ) (tables : List StoredTable) (r : Bool)
    → MatchBool r ((k : ℕ) × (k < length tables) × HoldsAt (λ (t : StoredTable). HasColumn number column (said_table t)) tables k)
    (AllWithin (λ (t : StoredTable). HasColumn number column (said_table t) → ⊥) tables 0 (length tables))
    → (r ≡ true) ↔ ((table : TableItem) × Contains (map said_table tables) table × (table.number ≡ number) × (column < length table.columns))
answer_column number column [] true there = absurd (omega (arith, there.1))
answer_column number column (t ∷ tables) true there = (
  λ e.
      let inside : there.0 < length (map said_table (t ∷ tables)) = omega (arith, there.1, length-map (t ∷ tables) said_table) in
      let is = get_or-map said_table (t ∷ tables) there.0 t (said_table t) there.1 in
      let has = subst (HasColumn number column) (sym is) (there.2 t) in
      (get_or (map said_table (t ∷ tables)) there.0 (said_table t), Contains-get_or (map said_table (t ∷ tables)) there.0 (said_table t) inside, has.0, has.1),
  λ has. refl,
)
answer_column number column tables false none = (
  λ e. absurd (false≢true e),
  λ has. absurd (All-contains (λ (table : TableItem). HasColumn number column table → ⊥) (map said_table tables) has.0
      (All-from_recursion (λ (table : TableItem). HasColumn number column table → ⊥) (map said_table tables)
      (each_said said_table (λ (table : TableItem). HasColumn number column table → ⊥) tables
      (all_read (λ (t : StoredTable). HasColumn number column (said_table t) → ⊥) tables (length tables) (omega arith) none)))
      has.1 (has.2, has.3)),
)
