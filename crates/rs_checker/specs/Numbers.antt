-- The numbers that a checked query has are those of the catalogue.
use Rattle.std.specs.Prelude.{◌≡◌, List, length, Some}
use Rattle.std.specs.List.{AllByRecursion}
use Rattle.std.specs.FinMap as names
use Rattle.rs_planning.specs.Numbered.{Numbered, numbered_table, numbered_route, numbered_index}
use Rattle.rs_catalog.specs.Definitions.{Definitions, RouteItem, TableItem}

-- what is defined under the name has the number, and a table the kind and the columns
abbrev pub IsNumberedIn : Definitions → Numbered → Type 0
IsNumberedIn definitions (numbered_table name number kind width) = (item : TableItem) × (names.get definitions.tables name ≡ Some item) × (item.number ≡ number) × (item.kind ≡ kind) × (length item.columns ≡ width)
IsNumberedIn definitions (numbered_route name number) = (item : RouteItem) × (names.get definitions.routes name ≡ Some item) × (item.number ≡ number)
IsNumberedIn definitions (numbered_index name number) = ⊥

abbrev pub AreNumberedIn : Definitions → List Numbered → Type 0
AreNumberedIn definitions named = AllByRecursion (IsNumberedIn definitions) named
