-- What stands in a file in which there are no definitions yet.
use Rattle.std.specs.Prelude.{ℕ, List, [], replicate}
use Rattle.rs_catalog_pages.specs.Directory.{DirectoryItems}
use Rattle.rs_catalog_pages.specs.Items.{CatalogueItems}
use Rattle.rs_catalog_pages.specs.declared.directory_items.TheConstants.{INDEXES, TABLES}
use Rattle.rs_file.specs.Contents.{Contents, no_tree}
use Rattle.rs_page_owners.specs.Counts.{no_pages}
use Rattle.rs_attr.specs.Versioned.{nothing_stands}

abbrev pub no_definitions : CatalogueItems
no_definitions = record { routes = []; tables = []; indexes = []; views = []; alignments = [] }

abbrev pub no_trees : DirectoryItems
no_trees = record { tables = replicate TABLES no_tree; indexes = replicate INDEXES 0; referents = no_tree; accepted = 0 }

-- no definitions, in these pages
abbrev pub no_contents : List ℕ → Contents
no_contents pages = record {
  definitions = no_definitions;
  pages = pages;
  directory = no_trees;
  tables = [];
  referents = record { standing = nothing_stands; referents = []; used = no_pages };
}
