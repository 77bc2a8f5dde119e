-- Indexes, whose tables a file says by numbers and the machine by names.
use Rattle.std.proofs.Common.{◌≡◌, ◌<◌, ◌≤◌, ◌&&◌, ℕ, zero, suc, Bool, true, false, List, [], ◌∷◌, length, map, get_or, refl, sym, ap, ◌∙◌, arith}
use Rattle.std.specs.Prelude.{Contains, ◌==◌, nat_lt, if◌then◌else◌}
use Rattle.std.specs.FinMap as names
use Rattle.std.specs.FinMap.{is_sorted}
use Rattle.std.proofs.lemmas.Bool.{and_from, and_parts, eq-eqb, eqb-true, false≢true, lt-ltb, ltb-true}
use Rattle.std.proofs.lemmas.List.{length-map}
use Rattle.rs_facts.specs.Fact.{Name, Names, name_cmp}
use Rattle.rs_facts.specs.Query.{RouteEnds}
use Rattle.rs_machine.specs.Lawful as lawful
use Rattle.rs_page_owners.specs.Counts.{times}
use Rattle.rs_catalog_pages.specs.Items.{IndexItem, TableItem}
use Rattle.rs_catalog_meaning.specs.Meaning.{IsIndex, column_of}
use Rattle.rs_catalog_meaning.specs.Stating.{column_indexed, named_table, table_with, tables_of}
use Rattle.rs_lexer.proofs.NameTexts.{not_empty}
use Rattle.rs_catalog_meaning.proofs.PlaceLaws.{same_by_number}
use Rattle.rs_catalog_meaning.proofs.TableLaws.{HasColumn}
use Rattle.rs_catalog_meaning.proofs.UnderNames.{under_name}

module _ (number column : ℕ) where
  abbrev fits : TableItem → Bool
  fits table = (table.number == number) && nat_lt column (length table.columns)

  fitting : (table : TableItem) → fits table ≡ true → HasColumn number column table
  fitting table e =
      let parts = and_parts (table.number == number) (nat_lt column (length table.columns)) e in
      (eqb-true table.number number parts.0, ltb-true column (length table.columns) parts.1)

  it_fits : (table : TableItem) → HasColumn number column table → fits table ≡ true
  it_fits table has = and_from (table.number == number) (nat_lt column (length table.columns)) (eq-eqb table.number number has.0) (lt-ltb column (length table.columns) has.1)

  -- a table that has the number and the column, of this name
  abbrev HasTable : List TableItem → Name → Type 0
  HasTable tables name = (table : TableItem) × Contains tables table × HasColumn number column table × (name ≡ table.name)

  later : (first : TableItem) (tables : List TableItem) (name : Name) → HasTable tables name → HasTable (first ∷ tables) name
  later first tables name more = (more.0, (suc more.1.0, omega (arith, more.1.1), more.1.2), more.2, more.3)

  -- one is found where one is there
  found_table : (tables : List TableItem) (table : TableItem) → Contains tables table → HasColumn number column table → HasTable tables (table_with tables number column)
  found_table [] table there has = absurd (omega (arith, there.1))
  found_table (first ∷ tables) table there has =
      elim (fits first) as (λ b. fits first ≡ b → HasTable (first ∷ tables) (if b then first.name else table_with tables number column)) [
        | true ↦ λ e. (first, (0, omega arith, refl), fitting first e, refl)
        | false ↦ λ e. later first tables (table_with tables number column) (found_table tables table (rest there.0 there.1 there.2 e) has)
      ] refl
    where
      rest : (k : ℕ) → k < length (first ∷ tables) → get_or (first ∷ tables) k table ≡ table → fits first ≡ false → Contains tables table
      rest zero inside is other = absurd (false≢true (sym other ∙ ap fits is ∙ it_fits table has))
      rest (suc k) inside is other = (k, omega arith, is)

  -- what is found is one
  table_found : (tables : List TableItem) → (table_with tables number column ≡ [] → ⊥) → HasTable tables (table_with tables number column)
  table_found [] some = absurd (some refl)
  table_found (first ∷ tables) some =
      elim (fits first) as (λ b. fits first ≡ b → ((if b then first.name else table_with tables number column) ≡ [] → ⊥)
      → HasTable (first ∷ tables) (if b then first.name else table_with tables number column)) [
        | true ↦ λ e given. (first, (0, omega arith, refl), fitting first e, refl)
        | false ↦ λ e given. later first tables (table_with tables number column) (table_found tables given)
      ] refl some

module _ (tables : List TableItem) (index : IndexItem) where
  abbrev table_name : Name
  table_name = table_with tables index.table index.column

  pub index_lawful : is_sorted name_cmp (map named_table tables) ≡ true → IsIndex tables index → lawful.IsIndex (tables_of tables) index.name (column_indexed tables index)
  index_lawful sorted is =
      let found = found_table index.table index.column tables is.table is.there (is.number, is.column) in
      record {
        named = is.named;
        table = (named_table found.0).1;
        there = ap (names.get (tables_of tables)) found.3 ∙ under_name named_table tables found.0 sorted found.1;
        column = omega (arith, found.2.1, length-map found.0.columns column_of);
      }

  pub index_meant : (routes : Names RouteEnds) → lawful.Each (tables_of tables) (lawful.IsTable routes) → lawful.IsIndex (tables_of tables) index.name (column_indexed tables index)
      → IsIndex tables index
  index_meant routes each is =
      let found = table_found index.table index.column tables (not_empty table_name (each table_name is.table is.there).named) in
      record {
        named = is.named;
        table = found.0;
        there = found.1;
        number = found.2.0;
        column = found.2.1;
      }

  -- where a number is one table's, its name is that table's
  pub of_table : (table : TableItem) → IsIndex tables index → ((n : ℕ) → times (map (λ (t : TableItem). t.number) tables) n ≤ 1) → Contains tables table → table.number ≡ index.table
      → column_indexed tables index ≡ record { table = table.name; column = index.column }
  of_table table is once there number =
      let found = found_table index.table index.column tables is.table is.there (is.number, is.column) in
      let same = same_by_number (λ (t : TableItem). t.number) tables found.0 table found.1 there (found.2.0 ∙ sym number) once in
      ap (λ (name : Name). record { table = name; column = index.column }) (found.3 ∙ ap (λ (t : TableItem). t.name) same)
