-- What changes in a file's contents: one table among the others, and the definitions beside the records.
use Rattle.std.specs.Prelude.{◌≡◌, ◌≢◌, ◌≤◌, ◌<◌, ◌⊎◌, ℕ, Contains, List, [], ◌∷◌, ◌++◌, filter, length, map}
use Rattle.std.specs.List.{AllByRecursion, AllZip}
use Rattle.rs_catalog_pages.specs.Items.{CatalogueItems, RouteItem, TableItem}
use Rattle.rs_file.specs.Contents.{Contents, TableContents}
use Rattle.rs_page_owners.specs.Counts.{times}
use Rattle.rs_versioned.specs.Events.{sees_event}
use Rattle.rs_versioned.specs.Records.{is_seen}
use Rattle.rs_versioned.specs.Referents.{kept_referents}

-- the same definitions, events of each table, referents and accepted version
pub record SaysTheSame (one other : Contents) : Type 0 where
  pub definitions : one.definitions ≡ other.definitions
  pub tables : AllZip (λ table same. table.events ≡ same.events) one.tables other.tables
  pub referents : one.referents.referents ≡ other.referents.referents
  pub accepted : one.directory.accepted ≡ other.directory.accepted

-- each table has a number of its own
abbrev pub HaveOwnNumbers : List TableItem → Type 0
HaveOwnNumbers tables = (number : ℕ) → times (map (λ table. table.number) tables) number ≤ 1

-- ---- one table

-- the item's table is this one, with these before it and these after it
pub record HasTableBetween (contents : Contents) (item : TableItem) (before : List TableContents) (table : TableContents) (after : List TableContents) : Type 0 where
  pub first : List TableItem
  pub last : List TableItem
  pub items : contents.definitions.tables ≡ first ++ item ∷ last
  pub long : length first ≡ length before
  pub tables : contents.tables ≡ before ++ table ∷ after

-- the same contents with another table in that place
abbrev pub with_table : Contents → List TableContents → TableContents → List TableContents → Contents
with_table contents before table after = record contents { tables = before ++ table ∷ after }

-- ---- definitions

-- each route is there still, and another was born after the version
pub record RoutesComeAfter (version : ℕ) (old now : List RouteItem) : Type 0 where
  pub still : (route : RouteItem) → Contains old route → Contains now route
  pub others : (route : RouteItem) → Contains now route → Contains old route ⊎ (version < route.born)

-- no version from the oldest up to the one that was accepted last sees an event or a referent on the route with this number
pub record IsUnusedFrom (oldest number : ℕ) (contents : Contents) : Type 0 where
  pub events : (version : ℕ) → oldest ≤ version → version ≤ contents.directory.accepted
      → AllByRecursion (λ table. AllByRecursion (λ event. event.route ≢ number) (filter (sees_event version) table.events)) contents.tables
  pub referents : (version : ℕ) → oldest ≤ version → version ≤ contents.directory.accepted
      → AllByRecursion (λ referent. referent.route ≢ number) (filter (is_seen kept_referents version) contents.referents.referents)

-- the tables are those that were there but for one, which has come between these, and has no events
pub record TableComes (contents : Contents) (definitions : CatalogueItems) (before : List TableContents) (table : TableContents) (after : List TableContents) : Type 0 where
  pub first : List TableItem
  pub item : TableItem
  pub last : List TableItem
  pub were : contents.definitions.tables ≡ first ++ last
  pub are : definitions.tables ≡ first ++ item ∷ last
  pub long : length first ≡ length before
  pub tables : contents.tables ≡ before ++ after
  pub no_events : table.events ≡ []
