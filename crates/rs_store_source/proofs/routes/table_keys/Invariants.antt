-- The keys so far and those that are left are all.
use Rattle.std.proofs.Common.{◌≡◌, ◌++◌, map}
use Rattle.rs_catalog.specs.Names.{entries_by_bytes}
use Rattle.rs_store_source.specs.Routes.{table_keys}
use Rattle.rs_store_source.proofs.Keyed.{key_listed}
use Rattle.rs_store_source.proofs.routes.table_keys.Given as goal

abbrev pub invariant-loop-table : goal.invariant-loop-table
invariant-loop-table l = l.keys.items ++ map key_listed (entries_by_bytes (λ table. table) l.table-iterator) ≡ table_keys l.catalog
