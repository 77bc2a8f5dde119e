-- The indexes of a dump are accepted, each by the name of its column.
use Rattle.std.proofs.Common.{◌≡◌, ◌≢◌, ◌∙◌, ℕ, zero, suc, ◌+◌, ◌<◌, ◌≤◌, true, false, List, [], ◌∷◌, length, map, Option, Some, Ok, sym, ap, subst, arith}
use Rattle.std.specs.Prelude.{fold}
use Rattle.std.specs.List.{AllByRecursion}
use Rattle.std.specs.FinMap as names
use Rattle.rs_refusal.specs.declared.refusal.Refusal.TheVariants.{Limit, NameTaken, NoSuchColumn, NoSuchName}
use Rattle.rs_facts.specs.Fact.{Name, Names}
use Rattle.rs_facts.specs.Insert.{same_name}
use Rattle.rs_facts.specs.Query.{Column, Table, column_at, table_columns}
use Rattle.rs_planning.specs.Basis.{IndexedColumn}
use Rattle.rs_machine.specs.State.{State, has}
use Rattle.rs_machine.specs.Checks.{column_names, found, unless}
use Rattle.rs_machine.specs.Checking.{column_place, place_in}
use Rattle.rs_machine.specs.Lawful.{AreDistinct}
use Rattle.rs_machine.specs.Step.{may_change, with_index}
use Rattle.rs_machine.specs.declared.limits.TheConstants.{CHANGES, INDEXES}
use Rattle.rs_dump_laws.specs.Accepted.{Accepted}
use Rattle.rs_dump_laws.specs.Dump.{index_command, indexed_name}
use Rattle.rs_dump_laws.proofs.NamedThings.{AreNewNames, itself, put_all_named, room_for_first, same_name-apart, same_name-itself}
use Rattle.rs_dump_laws.proofs.Walks.{AreTaken, IsTaken, fails, is_below, is_found, may, next_is, taken}

-- ---- columns

abbrev name_at : List Column → ℕ → Name
name_at columns place = (column_at columns place).0

-- a column's name is none of those of other columns
later_apart : (name : Name) (columns : List Column) (place : ℕ) → place < length columns → AllByRecursion (λ other. name ≢ other) (column_names columns) → name ≢ name_at columns place
later_apart name [] place less apart = absurd (omega arith)
later_apart name (column ∷ columns) zero less apart = apart.0
later_apart name (column ∷ columns) (suc place) less apart = later_apart name columns place (omega arith) apart.1

-- the place in a list that has one element more before
place_further : (first : Name) (more : List Name) (name : Name) → same_name name first ≡ false → (place : ℕ) → place_in more name ≡ Some place → place_in (first ∷ more) name ≡ Some (suc place)
place_further first more name apart place there = simp (apart, there)

-- a column is found by its name
found_by_name : (columns : List Column) (place : ℕ) → place < length columns → AreDistinct (column_names columns) → place_in (column_names columns) (name_at columns place) ≡ Some place
found_by_name [] place less distinct = absurd (omega arith)
found_by_name (column ∷ columns) zero less distinct = let same : same_name column.0 column.0 ≡ true = same_name-itself column.0 in simp same
found_by_name (column ∷ columns) (suc place) less distinct =
    place_further column.0 (column_names columns) (name_at columns place)
    (same_name-apart (name_at columns place) column.0 (λ same. later_apart column.0 columns place (omega arith) distinct.0 (sym same)))
    place (found_by_name columns place (omega arith) distinct.1)

place_found : (columns : List Column) (place : ℕ) → place < length columns → AreDistinct (column_names columns) → column_place columns (name_at columns place) ≡ Ok place
place_found columns place less distinct = is_found (place_in (column_names columns) (name_at columns place)) NoSuchColumn place (found_by_name columns place less distinct)

-- ---- indexes

-- an index of a column of a table whose columns have different names
pub record IsOfColumn (tables : Names Table) (index : IndexedColumn) : Type 0 where
  pub table : Table
  pub there : names.get tables index.table ≡ Some table
  pub column : index.column < length table.columns
  pub distinct : AreDistinct (column_names table.columns)

-- `named` is the state by which columns are named; it has the same tables
module _ (named : State) where
  abbrev put_index : State → (Name × IndexedColumn) → State
  put_index state index = with_index state index.0 index.1

  abbrev with_indexes : State → Names IndexedColumn → ℕ → State
  with_indexes state indexes changes = record state { indexes = indexes; changes = changes }

  one_taken : (state : State) (index : Name × IndexedColumn) → state.tables ≡ named.tables → has state.indexes index.0 ≡ false → IsOfColumn named.tables index.1
      → names.len state.indexes < INDEXES → state.changes < CHANGES → IsTaken (index_command named) put_index state index
  one_taken state index same new is few room =
      let there : names.get state.tables index.1.table ≡ Some is.table = ap (λ ts. names.get ts index.1.table) same ∙ is.there in
      let column : column_place is.table.columns (indexed_name named index.1) ≡ Ok index.1.column =
      ap (λ (o : Option Table). column_place is.table.columns (name_at (table_columns o) index.1.column)) is.there ∙ place_found is.table.columns index.1.column is.column is.distinct in (
        0,
        next_is (found _ NoSuchName) is.table _ (is_found (names.get state.tables index.1.table) NoSuchName is.table there)
            ∙ next_is (column_place is.table.columns (indexed_name named index.1)) index.1.column _ column
            ∙ next_is (unless _ NameTaken) tt _ (fails (has state.indexes index.0) NameTaken new)
            ∙ next_is (unless _ Limit) tt _ (is_below (names.len state.indexes) INDEXES Limit few)
            ∙ next_is (may_change state) tt _ (may state room),
      )

  all_taken : (state : State) (list : List (Name × IndexedColumn)) → state.tables ≡ named.tables → AreNewNames itself state.indexes list → AllByRecursion (λ index. IsOfColumn named.tables index.1) list
      → names.len (put_all_named itself state.indexes list) ≤ INDEXES → state.changes + length list ≤ CHANGES → AreTaken (index_command named) put_index state list
  all_taken state [] same new are few room = tt
  all_taken state (index ∷ more) same new are few room = (
    one_taken state index same new.0 are.0 (room_for_first itself state.indexes index more INDEXES new.0 few) (omega arith),
    all_taken (put_index state index) more same new.1 are.1 few (omega arith),
  )

  after_all : (state : State) (list : List (Name × IndexedColumn)) → fold put_index state list ≡ with_indexes state (put_all_named itself state.indexes list) (state.changes + length list)
  after_all state [] = ap (with_indexes state state.indexes) (let e : state.changes ≡ state.changes + 0 = omega arith in e)
  after_all state (index ∷ more) =
      after_all (put_index state index) more
      ∙ ap (with_indexes state (put_all_named itself state.indexes (index ∷ more))) (let e : state.changes + 1 + length more ≡ state.changes + length (index ∷ more) = omega arith in e)

  pub indexes_accepted : (state : State) (list : List (Name × IndexedColumn)) → state.tables ≡ named.tables → AreNewNames itself state.indexes list → AllByRecursion (λ index. IsOfColumn named.tables index.1) list
      → names.len (put_all_named itself state.indexes list) ≤ INDEXES → state.changes + length list ≤ CHANGES
      → Accepted state (map (index_command named) list) (with_indexes state (put_all_named itself state.indexes list) (state.changes + length list))
  indexes_accepted state list same new are few room =
      subst (Accepted state (map (index_command named) list)) (after_all state list) (taken (index_command named) put_index state list (all_taken state list same new are few room))
