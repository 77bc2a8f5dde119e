-- Definitions of which a lawful state is made, and a listing that has one of them more.
use Rattle.std.specs.Prelude.{◌≡◌, ◌==◌, ℕ, not, List, ◌∷◌, ◌++◌, filter}
use Rattle.rs_catalog.specs.Definitions.{AreDefinitions, Definitions, Rest, state_from}
use Rattle.rs_catalog_pages.specs.Items.{AlignmentItem, CatalogueItems, IndexItem, RouteItem, TableItem, ViewItem}
use Rattle.rs_facts.specs.Fact.{Names}
use Rattle.rs_facts.specs.Runs.{Stretch}
use Rattle.rs_file_meaning.specs.States.{HasLine}
use Rattle.rs_machine.specs.Lawful.{Each, IsLawful}
use Rattle.rs_syntax.specs.QueryView.{query_tree}

-- they keep to what is so of every catalogue, some state with them is lawful, and some line defines each view
pub record AreLawful (definitions : Definitions) : Type 0 where
  pub are : AreDefinitions definitions
  pub referents : ℕ → Names ℕ
  pub spans : ℕ → ℕ → List Stretch
  pub rest : Rest
  pub lawful : IsLawful (state_from definitions referents spans rest)
  pub lines : Each definitions.views (λ name item. HasLine name (query_tree item.query) item.text)

-- the item is put between those before it and those after it
pub record IsPutBetween {X : Type 0} (one : X) (old now : List X) : Type 0 where
  pub before : List X
  pub after : List X
  pub was : old ≡ before ++ after
  pub is : now ≡ before ++ one ∷ after

-- one more definition of a kind, and all others as they were. Taken the other way round, one less
pub record HasRouteMore (route : RouteItem) (old now : CatalogueItems) : Type 0 where
  pub routes : IsPutBetween route old.routes now.routes
  pub others : now ≡ record old { routes = now.routes }

pub record HasTableMore (table : TableItem) (old now : CatalogueItems) : Type 0 where
  pub tables : IsPutBetween table old.tables now.tables
  pub others : now ≡ record old { tables = now.tables }

pub record HasIndexMore (index : IndexItem) (old now : CatalogueItems) : Type 0 where
  pub indexes : IsPutBetween index old.indexes now.indexes
  pub others : now ≡ record old { indexes = now.indexes }

pub record HasViewMore (view : ViewItem) (old now : CatalogueItems) : Type 0 where
  pub views : IsPutBetween view old.views now.views
  pub others : now ≡ record old { views = now.views }

pub record HasAlignmentMore (alignment : AlignmentItem) (old now : CatalogueItems) : Type 0 where
  pub alignments : IsPutBetween alignment old.alignments now.alignments
  pub others : now ≡ record old { alignments = now.alignments }

-- the table is gone with the indexes of its number, and all else is as it was
pub record LosesTable (table : TableItem) (old now : CatalogueItems) : Type 0 where
  pub tables : IsPutBetween table now.tables old.tables
  pub indexes : now.indexes ≡ filter (λ index. not (index.table == table.number)) old.indexes
  pub others : now ≡ record old { tables = now.tables; indexes = now.indexes }
