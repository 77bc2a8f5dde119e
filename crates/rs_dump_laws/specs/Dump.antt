-- The commands that rebuild a state.
use Rattle.std.specs.Prelude.{◌≡◌, ℕ, List, ◌++◌, map, Ok}
use Rattle.std.specs.FinMap as names
use Rattle.rs_methods.specs.Position.{absolute}
use Rattle.rs_value.specs.declared.column.Kind.{Kind}
use Rattle.rs_value.specs.declared.column.Kind.TheVariants.{Point, Line}
use Rattle.rs_facts.specs.Fact.{Name}
use Rattle.rs_facts.specs.Query.{RouteEnds, Table, Piece, Query, column_at, table_kind, table_columns}
use Rattle.rs_facts.specs.Runs.{Stretch}
use Rattle.rs_planning.specs.Basis.{IndexedColumn}
use Rattle.rs_syntax.specs.Tree.{EventLocationTree, along, at_point, PieceTree, QueryTree, CommandTree, define_route, define_table, define_referent, define_index, define_view, define_alignment, insert}
use Rattle.rs_machine.specs.State.{State, no_cursors}
use Rattle.rs_machine.specs.Checking.{checked}
use Rattle.rs_machine.specs.Lawful.{Each}
use Rattle.rs_dump_laws.specs.Parts.{PlacedReferent, PlacedRow, Parts, ArePartsOf}

-- ---- the command of a part

abbrev pub route_command : (Name × RouteEnds) → CommandTree
route_command route = define_route route.0 route.1.start route.1.finish

-- at its measure
abbrev pub referent_command : PlacedReferent → CommandTree
referent_command one = define_referent one.route one.name (absolute one.measure)

-- the table without its rows
abbrev pub table_command : (Name × Table) → CommandTree
table_command table = define_table table.1.kind table.0 table.1.columns

-- a line along its span, a point at its place
abbrev pub location_of : Kind → Stretch → EventLocationTree
location_of Line span = along (absolute span.lo) (absolute span.hi)
location_of Point span = at_point (absolute span.lo)

abbrev pub row_command : State → PlacedRow → CommandTree
row_command state one = insert one.table one.route (location_of (table_kind (names.get state.tables one.table)) one.span) one.span.row

abbrev pub written_piece : Piece → PieceTree
written_piece piece = record { from_route = piece.from_route; from = piece.from; to = piece.to; onto_route = piece.onto_route; onto = piece.onto }

abbrev pub alignment_command : (Name × List Piece) → CommandTree
alignment_command alignment = define_alignment alignment.0 (map written_piece alignment.1)

-- with the text of its query
abbrev pub view_command : (Name → List ℕ) → (Name × QueryTree) → CommandTree
view_command texts view = define_view view.0 view.1 (texts view.0)

-- the name of the column that an index is of
abbrev pub indexed_name : State → IndexedColumn → Name
indexed_name state index = (column_at (table_columns (names.get state.tables index.table)) index.column).0

abbrev pub index_command : State → (Name × IndexedColumn) → CommandTree
index_command state index = define_index index.0 index.1.table (indexed_name state index.1)

-- ---- the dump

abbrev pub commands_of : (Name → List ℕ) → State → Parts → List CommandTree
commands_of texts state parts =
    map route_command parts.routes ++ (map referent_command parts.referents ++ (map table_command parts.tables ++ (map (row_command state) parts.rows
    ++ (map alignment_command parts.alignments ++ (map (view_command texts) parts.views ++ map (index_command state) parts.indexes)))))

-- The commands tell all parts of the state: routes first, then referents, tables, rows, alignments, views and indexes. `texts`
-- are the texts of the views' queries by the views' names, of which the state knows nothing.
pub record IsDumpOf (texts : Name → List ℕ) (state : State) (commands : List CommandTree) : Type 0 where
  pub parts : Parts
  pub are_parts : ArePartsOf state parts
  pub are : commands ≡ commands_of texts state parts

-- each view passes now the checks of its DEFINE line
abbrev pub ViewsPass : State → Type 0
ViewsPass state = Each state.views (λ name query. (made : Query) × (checked state query ≡ Ok made))

-- the same state, but that it has no cursors, and that so many changes were accepted
abbrev pub rebuilt : State → ℕ → State
rebuilt state changes = record state { changes = changes; cursors = no_cursors }
