-- What definitions are after one of them is added or taken out.
use Rattle.std.specs.Prelude.{Bool, false, not, List, Option, Some, None}
use Rattle.std.specs.FinMap as names
use Rattle.rs_facts.specs.Fact.{Name, Names}
use Rattle.rs_facts.specs.Insert.{same_name}
use Rattle.rs_facts.specs.Query.{Piece}
use Rattle.rs_catalog.specs.Definitions.{RouteItem, TableItem, IndexItem, ViewItem, Definitions}

abbrev pub with_route : Definitions → Name → RouteItem → Definitions
with_route definitions name item = record definitions { routes = names.insert definitions.routes name item }

abbrev pub with_table : Definitions → Name → TableItem → Definitions
with_table definitions name item = record definitions { tables = names.insert definitions.tables name item }

abbrev pub with_index : Definitions → Name → IndexItem → Definitions
with_index definitions name item = record definitions { indexes = names.insert definitions.indexes name item }

abbrev pub with_view : Definitions → Name → ViewItem → Definitions
with_view definitions name item = record definitions { views = names.insert definitions.views name item }

abbrev pub with_alignment : Definitions → Name → List Piece → Definitions
with_alignment definitions name pieces = record definitions { alignments = names.insert definitions.alignments name pieces }

abbrev pub without_route : Definitions → Name → Definitions
without_route definitions name = record definitions { routes = names.remove definitions.routes name }

-- whether it is an index, and of another table than this
abbrev pub is_of_another : Name → Option IndexItem → Bool
is_of_another table None = false
is_of_another table (Some item) = not (same_name table item.table)

-- the indexes of other tables than this
unfoldable pub indexes_of_others : Name → Names IndexItem → Names IndexItem
indexes_of_others table items = names.retain_keys items (λ name. is_of_another table (names.get items name))

-- the table goes with its indexes
abbrev pub without_table : Definitions → Name → Definitions
without_table definitions name = record definitions { tables = names.remove definitions.tables name; indexes = indexes_of_others name definitions.indexes }

abbrev pub without_index : Definitions → Name → Definitions
without_index definitions name = record definitions { indexes = names.remove definitions.indexes name }

abbrev pub without_view : Definitions → Name → Definitions
without_view definitions name = record definitions { views = names.remove definitions.views name }

abbrev pub without_alignment : Definitions → Name → Definitions
without_alignment definitions name = record definitions { alignments = names.remove definitions.alignments name }
