-- The tables of a dump are accepted, each without its rows.
use Rattle.std.proofs.Common.{◌≡◌, ◌≢◌, ◌∙◌, ℕ, ◌+◌, ◌<◌, ◌≤◌, false, ◌||◌, List, [], ◌∷◌, length, map, is_some, refl, ap, subst, arith}
use Rattle.std.specs.Prelude.{fold, nat_le}
use Rattle.std.specs.List.{AllByRecursion, list_any}
use Rattle.std.specs.FinMap as names
use Rattle.std.specs.FinMap.{get-empty}
use Rattle.std.proofs.lemmas.Bool.{le-leb}
use Rattle.rs_refusal.specs.declared.refusal.Refusal.TheVariants.{ColumnTwice, Limit, NameTaken}
use Rattle.rs_value.specs.Encoding.{row_width}
use Rattle.rs_value.specs.declared.column.TheConstants.{COLUMNS, ROW_BYTES}
use Rattle.rs_facts.specs.Fact.{Name, Names, name_cmp}
use Rattle.rs_facts.specs.Insert.{same_name}
use Rattle.rs_facts.specs.Query.{Table}
use Rattle.rs_machine.specs.State.{State, has}
use Rattle.rs_machine.specs.Checks.{column_names, column_types, has_table_or_view, some_name_twice, unless}
use Rattle.rs_machine.specs.Lawful.{AreColumnsOfTable, AreDistinct}
use Rattle.rs_machine.specs.Step.{empty_table, may_change, with_table}
use Rattle.rs_machine.specs.declared.limits.TheConstants.{CHANGES, TABLES}
use Rattle.rs_dump_laws.specs.Accepted.{Accepted}
use Rattle.rs_dump_laws.specs.Dump.{table_command}
use Rattle.rs_dump_laws.proofs.NamedThings.{AreNewNames, put_all_named, room_for_first, same_name-apart}
use Rattle.rs_dump_laws.proofs.Walks.{AreTaken, IsTaken, fails, holds, is_below, may, next_is, taken}

-- the table without its rows
abbrev pub emptied : Table → Table
emptied table = empty_table table.kind table.columns

-- ---- columns

none_same : (name : Name) (more : List Name) → AllByRecursion (λ other. name ≢ other) more → list_any (same_name name) more ≡ false
none_same name [] apart = refl
none_same name (other ∷ more) apart = ap (λ b. b || list_any (same_name name) more) (same_name-apart name other apart.0) ∙ none_same name more apart.1

none_twice : (list : List Name) → AreDistinct list → some_name_twice list ≡ false
none_twice [] distinct = refl
none_twice (name ∷ more) distinct = ap (λ b. b || some_name_twice more) (none_same name more distinct.0) ∙ none_twice more distinct.1

-- ---- tables

abbrev put_table : State → (Name × Table) → State
put_table state table = with_table state table.0 (emptied table.1)

abbrev with_tables : State → Names Table → ℕ → State
with_tables state tables changes = record state { tables = tables; changes = changes }

-- no table of the name, and no view at all
no_name : (state : State) (name : Name) → state.views ≡ names.empty → has state.tables name ≡ false → has_table_or_view state name ≡ false
no_name state name none new = ap (λ b. b || has state.views name) new ∙ ap (λ views. has views name) none ∙ ap is_some (get-empty name_cmp name)

one_taken : (state : State) (table : Name × Table) → state.views ≡ names.empty → has state.tables table.0 ≡ false → AreColumnsOfTable table.1.columns
    → names.len state.tables < TABLES → state.changes < CHANGES → IsTaken table_command put_table state table
one_taken state table none new are few room = (
  0,
  next_is (unless _ NameTaken) tt _ (fails (has_table_or_view state table.0) NameTaken (no_name state table.0 none new))
      ∙ next_is (unless _ ColumnTwice) tt _ (fails (some_name_twice (column_names table.1.columns)) ColumnTwice (none_twice (column_names table.1.columns) are.distinct))
      ∙ next_is (unless _ Limit) tt _ (holds (nat_le (length table.1.columns) COLUMNS) Limit (le-leb (length table.1.columns) COLUMNS are.few))
      ∙ next_is (unless _ Limit) tt _ (holds (nat_le (row_width (column_types table.1.columns)) ROW_BYTES) Limit (le-leb (row_width (column_types table.1.columns)) ROW_BYTES are.narrow))
      ∙ next_is (unless _ Limit) tt _ (is_below (names.len state.tables) TABLES Limit few)
      ∙ next_is (may_change state) tt _ (may state room),
)

all_taken : (state : State) (list : List (Name × Table)) → state.views ≡ names.empty → AreNewNames emptied state.tables list → AllByRecursion (λ table. AreColumnsOfTable table.1.columns) list
    → names.len (put_all_named emptied state.tables list) ≤ TABLES → state.changes + length list ≤ CHANGES → AreTaken table_command put_table state list
all_taken state [] none new are few room = tt
all_taken state (table ∷ more) none new are few room = (
  one_taken state table none new.0 are.0 (room_for_first emptied state.tables table more TABLES new.0 few) (omega arith),
  all_taken (put_table state table) more none new.1 are.1 few (omega arith),
)

after_all : (state : State) (list : List (Name × Table)) → fold put_table state list ≡ with_tables state (put_all_named emptied state.tables list) (state.changes + length list)
after_all state [] = ap (with_tables state state.tables) (let e : state.changes ≡ state.changes + 0 = omega arith in e)
after_all state (table ∷ more) =
    after_all (put_table state table) more
    ∙ ap (with_tables state (put_all_named emptied state.tables (table ∷ more))) (let e : state.changes + 1 + length more ≡ state.changes + length (table ∷ more) = omega arith in e)

pub tables_accepted : (state : State) (list : List (Name × Table)) → state.views ≡ names.empty → AreNewNames emptied state.tables list → AllByRecursion (λ table. AreColumnsOfTable table.1.columns) list
    → names.len (put_all_named emptied state.tables list) ≤ TABLES → state.changes + length list ≤ CHANGES
    → Accepted state (map table_command list) (with_tables state (put_all_named emptied state.tables list) (state.changes + length list))
tables_accepted state list none new are few room =
    subst (Accepted state (map table_command list)) (after_all state list) (taken table_command put_table state list (all_taken state list none new are few room))
