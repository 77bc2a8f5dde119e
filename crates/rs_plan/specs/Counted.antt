-- What counts answer, and what they stand for.
use Rattle.std.specs.Prelude.{◌≡◌, ℕ, ◌^◌, ◌≤◌, ◌==◌, List, [], ◌∷◌, length}
use Rattle.std.specs.FinMap as names
use Rattle.std.specs.List.{AllByRecursion}
use Rattle.rs_facts.specs.Fact.{Name}
use Rattle.rs_facts.specs.Insert.{same_name}
use Rattle.rs_facts.specs.Query.{Query, table_columns}
use Rattle.rs_facts.specs.WellFormed.{IsWellFormed}
use Rattle.rs_planning.specs.Basis.{IndexedColumn, Basis}
use Rattle.rs_planning.specs.Checked.{nodes_of}
use Rattle.rs_planning.specs.Numbered.{Numbered, numbered_table, numbered_route, numbered_index}
use Rattle.rs_plan.specs.declared.counts.Index.{Index}

pub record Counted : Type 0 where
  -- by the numbers of tables
  pub records : ℕ → ℕ
  -- in the order of their names
  pub indexes : List Index

abbrev pub named_index : Index → Numbered
named_index index = numbered_index index.name.bytes index.number

-- the indexes are the same ones, and those of the table of this name are those of its number
abbrev pub AreIndexesOf : Name → ℕ → List (Name × IndexedColumn) → List Index → Type 0
AreIndexesOf name number [] [] = Unit {0}
AreIndexesOf name number [] (index ∷ indexes) = ⊥
AreIndexesOf name number (entry ∷ entries) [] = ⊥
AreIndexesOf name number (entry ∷ entries) (index ∷ indexes) = (entry.0 ≡ index.name.bytes) × (entry.1.column ≡ index.column) × (same_name entry.1.table name ≡ (index.table == number)) × AreIndexesOf name number entries indexes

-- a table of the query is that of the basis: its width, its number of records and its indexes
abbrev pub IsCounted : Counted → Basis → Numbered → Type 0
IsCounted counted basis (numbered_table name number kind width) = (length (table_columns (names.get basis.world.tables name)) ≡ width) × (basis.record_count name ≡ counted.records number) × AreIndexesOf name number (names.entries basis.indexes) counted.indexes
IsCounted counted basis (numbered_route name number) = Unit {0}
IsCounted counted basis (numbered_index name number) = Unit {0}

-- The counts stand for the basis on a query that names these: the query is well formed in the basis's world, and has no
-- more nodes than a sum of as many numbers of records can be told of.
pub record StandsFor (counted : Counted) (basis : Basis) (query : Query) (named : List Numbered) : Type 0 where
  pub well_formed : IsWellFormed basis.world query
  pub few : nodes_of query ≤ 2 ^ 32
  pub tables : AllByRecursion (IsCounted counted basis) named
