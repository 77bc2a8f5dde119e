use Rattle.std.proofs.Common.{◌≡◌, ◌++◌, map}
use Rattle.std.specs.FinMap as names
use Rattle.rs_catalog.specs.Names.{entries_by_bytes}
use Rattle.rs_catalog_pages.specs.Said.{said_index}
use Rattle.rs_stored_catalog.specs.Listing.{listed_index}
use Rattle.rs_stored_catalog.proofs.listing.stored_indexes.Given as goal

-- what is listed so far, and what is still to come
abbrev pub invariant-loop-name : goal.invariant-loop-name
invariant-loop-name l = map said_index l.stored.items ++ map listed_index (entries_by_bytes (λ item. item) l.name-iterator) ≡ map listed_index (names.entries l.catalog.indexes)
