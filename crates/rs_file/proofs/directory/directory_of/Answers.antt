-- The trees and the roots together.
use Rattle.std.proofs.Common.{◌<◌, ◌≤◌, ◌∙◌, List, ap, length, map, sym, subst}
use Rattle.std.specs.List.{AllByRecursion, AllZip}
use Rattle.std.proofs.lemmas.List.{length-map}
use Rattle.rs_catalog_pages.specs.Items.{IndexItem, TableItem}
use Rattle.rs_catalog_pages.specs.Said.{said_catalogue, said_directory, said_index, said_table, said_tree}
use Rattle.rs_catalog_pages.specs.declared.directory_items.StoredDirectory.{StoredDirectory}
use Rattle.rs_catalog_pages.specs.declared.directory_items.TheConstants.{INDEXES, TABLES}
use Rattle.rs_catalog_pages.specs.declared.items.StoredIndex.{StoredIndex}
use Rattle.rs_catalog_pages.specs.declared.items.StoredTable.{StoredTable}
use Rattle.rs_file.specs.Contents.{item_of}
use Rattle.rs_file.specs.Slots.{AreRoots, AreTrees, HasAsMany, IsOfItem, said_roots}
use Rattle.rs_file.proofs.Slotted.{as_many, said_of}
use Rattle.rs_page_owners.specs.Counts.{times}
use Rattle.rs_tree.proofs.Lists.{zip_lengths}
use Rattle.rs_file.proofs.directory.directory_of.Goals as goal

pub trees_of-requires-clause-many : goal.trees_of-requires-clause-many
trees_of-requires-clause-many c =
    let definitions = said_catalogue c.args.definitions.now in
    ap length c.as_slice-items.ensures.value ∙ sym (length-map c.args.definitions.now.tables.items said_table)
    ∙ zip_lengths (IsOfItem definitions) definitions.tables c.args.tables.now c.requires.tables

pub trees_of-requires-clause-below : goal.trees_of-requires-clause-below
trees_of-requires-clause-below c =
    subst (λ (xs : List StoredTable). AllByRecursion (λ (item : TableItem). item.number < TABLES) (map said_table xs)) (sym c.as_slice-items.ensures.value) c.requires.given.tables_below

pub trees_of-requires-clause-once : goal.trees_of-requires-clause-once
trees_of-requires-clause-once c = λ n.
    subst (λ (xs : List StoredTable). times (map (λ (item : TableItem). item.number) (map said_table xs)) n ≤ 1) (sym c.as_slice-items.ensures.value) (c.requires.given.tables_once n)

pub roots_of-requires-clause-many : goal.roots_of-requires-clause-many
roots_of-requires-clause-many c =
    let definitions = said_catalogue c.args.definitions.now in
    subst (λ (xs : List StoredTable). AllZip (HasAsMany (map said_index c.as_slice.result.now)) (map said_table xs) c.args.tables.now) (sym c.as_slice-items.ensures.value)
    (subst (λ (xs : List StoredIndex). AllZip (HasAsMany (map said_index xs)) definitions.tables c.args.tables.now) (sym c.as_slice.ensures.value)
    (as_many definitions definitions.tables c.args.tables.now c.requires.tables))

pub roots_of-requires-clause-tables_once : goal.roots_of-requires-clause-tables_once
roots_of-requires-clause-tables_once c = λ n.
    subst (λ (xs : List StoredTable). times (map (λ (item : TableItem). item.number) (map said_table xs)) n ≤ 1) (sym c.as_slice-items.ensures.value) (c.requires.given.tables_once n)

pub roots_of-requires-clause-below : goal.roots_of-requires-clause-below
roots_of-requires-clause-below c =
    subst (λ (xs : List StoredIndex). AllByRecursion (λ (index : IndexItem). index.number < INDEXES) (map said_index xs)) (sym c.as_slice.ensures.value) c.requires.given.indexes_below

pub roots_of-requires-clause-once : goal.roots_of-requires-clause-once
roots_of-requires-clause-once c = λ n.
    subst (λ (xs : List StoredIndex). times (map (λ (index : IndexItem). index.number) (map said_index xs)) n ≤ 1) (sym c.as_slice.ensures.value) (c.requires.given.indexes_once n)

pub returns-clause-fits : goal.returns-clause-fits
returns-clause-fits c = record {
  all_tables = c.in_ok-trees.ensures.slots;
  tables = c.in_ok-trees.ensures.fit;
  all_indexes = c.in_ok-roots.ensures.slots;
  indexes = c.in_ok-roots.ensures.fit;
  referents = c.referents_tree.ensures.fits;
  accepted = c.ranges.accepted.fits;
}

pub returns-clause-said : goal.returns-clause-said
returns-clause-said c = λ contents are opened referents.
    let definitions = said_catalogue c.args.definitions.now in
    let directory : StoredDirectory = record {
      tables = record { list = c.in_ok-trees.trees };
      indexes = record { list = c.in_ok-roots.roots };
      referents = c.referents_tree.result;
      accepted = c.args.accepted;
    } in
    let trees = subst (λ (xs : List StoredTable). AreTrees (map said_table xs) c.args.tables.now (map said_tree c.in_ok-trees.trees.items)) c.as_slice-items.ensures.value c.in_ok-trees.ensures in
    let roots = subst (λ (xs : List StoredTable). AreRoots definitions.indexes (map said_table xs) c.args.tables.now (said_roots c.in_ok-roots.roots.items)) c.as_slice-items.ensures.value
    (subst (λ (xs : List StoredIndex). AreRoots (map said_index xs) (map said_table c.as_slice-items.result.now) c.args.tables.now (said_roots c.in_ok-roots.roots.items)) c.as_slice.ensures.value c.in_ok-roots.ensures) in
    said_of definitions (said_directory directory) c.args.tables.now c.requires.given c.requires.tables trees roots contents are opened
    (c.referents_tree.ensures.tree ∙ ap item_of (sym referents))
