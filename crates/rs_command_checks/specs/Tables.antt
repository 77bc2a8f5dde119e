-- A table by its name and its number.
use Rattle.std.specs.Prelude.{◌≡◌, ℕ, Some}
use Rattle.std.specs.FinMap as names
use Rattle.rs_facts.specs.Fact.{Name}
use Rattle.rs_catalog.specs.Definitions.{TableItem, Definitions}

-- the table of this name has this number
pub record HasTable (definitions : Definitions) (name : Name) (number : ℕ) : Type 0 where
  pub item : TableItem
  pub there : names.get definitions.tables name ≡ Some item
  pub numbered : item.number ≡ number
