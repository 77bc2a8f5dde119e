-- The tables of a catalogue, one after another.
use Rattle.std.proofs.Common.{◌≡◌, ◌||◌, ◌∙◌, Bool, true, false, List, ◌∷◌, ap, sym}
use Rattle.std.specs.FinMap as names
use Rattle.std.specs.List.{list_any}
use Rattle.arrayvec.specs.ArrayString.{ArrayString}
use Rattle.rs_catalog.specs.Definitions.{Definitions, TableItem}
use Rattle.rs_catalog.specs.Names.{entries_by_bytes}
use Rattle.rs_exec.specs.Snapshot.{NumberedTable}
use Rattle.rs_facts.specs.Fact.{Name}
use Rattle.rs_facts.proofs.RowSets.{any-map}
use Rattle.rs_store_source.specs.Shown.{is_table, table_there}

abbrev pub Entries : Type 0
Entries = List (ArrayString × TableItem)

abbrev pub some_left : NumberedTable → Entries → Bool
some_left asked tables = list_any (λ entry. is_table asked entry.1) tables

module _ (asked : NumberedTable) where
  -- the test of all tables is that of their entries
  pub some_entries : (definitions : Definitions) (tables : Entries) → entries_by_bytes (λ table. table) tables ≡ names.entries definitions.tables → table_there definitions asked ≡ some_left asked tables
  some_entries definitions tables are =
      ap (list_any (λ (e : Name × TableItem). is_table asked e.1)) (sym are)
      ∙ any-map (λ (e : Name × TableItem). is_table asked e.1) (λ (e : ArrayString × TableItem). (e.0.bytes, e.1)) tables

  module _ (all tables rest : Entries) (name : ArrayString) (table : TableItem) where
    -- a table of which it is so decides
    pub table_found : some_left asked tables ≡ some_left asked all → tables ≡ (name, table) ∷ rest → true ≡ is_table asked table → true ≡ some_left asked all
    table_found left next is = ap (λ b. b || some_left asked rest) is ∙ ap (some_left asked) (sym next) ∙ left

    -- else those that are left do
    pub table_passed : some_left asked tables ≡ some_left asked all → tables ≡ (name, table) ∷ rest → false ≡ is_table asked table → some_left asked rest ≡ some_left asked all
    table_passed left next is = ap (λ b. b || some_left asked rest) is ∙ ap (some_left asked) (sym next) ∙ left
