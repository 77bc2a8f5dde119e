use Rattle.std.proofs.Common.{◌≡◌, ◌++◌, map}
use Rattle.rs_catalog.specs.Names.{entries_by_bytes}
use Rattle.rs_answers.specs.Counts.{index_seen, item_seen, indexes_kept}
use Rattle.rs_answers.proofs.plans.planning_indexes.Given as goal

abbrev pub invariant-loop-name : goal.invariant-loop-name
invariant-loop-name l = map index_seen l.indexes.items ++ map item_seen (entries_by_bytes (λ item. item) l.name-iterator) ≡ indexes_kept l.catalog
