-- The value of a command of the code, and how a written one is written.
use Rattle.std.specs.Prelude.{ℕ, List, map, Option, Some, None, Vec, string_bytes}
use Rattle.std.specs.declared.alloc.Global.{Global}
use Rattle.arrayvec.specs.ArrayString.{ArrayString}
use Rattle.rs_methods.specs.Position.{expression_of}
use Rattle.rs_value.specs.declared.column.ColumnType.{ColumnType}
use Rattle.rs_value.specs.View.{literal_row}
use Rattle.rs_syntax.specs.declared.commands.ColumnDefinition.{ColumnDefinition}
use Rattle.rs_syntax.specs.declared.commands.EventLocation.{EventLocation}
use Rattle.rs_syntax.specs.declared.commands.Piece.{Piece}
use Rattle.rs_syntax.specs.declared.commands.EventLocation.TheVariants as locations
use Rattle.rs_syntax.specs.declared.commands.Command.{Command}
use Rattle.rs_syntax.specs.declared.commands.Command.TheVariants as commands
use Rattle.rs_syntax.specs.declared.written.WrittenCommand.{WrittenCommand}
use Rattle.rs_syntax.specs.declared.written.WrittenCommand.TheVariants as forms
use Rattle.rs_syntax.specs.Written.{Written, written_route, written_table, written_referent, written_index, written_view, written_alignment, written_move, written_drop_route, written_drop_table, written_drop_index, written_drop_view, written_drop_alignment, written_drop_referent, written_insert, written_remove, written_translate, written_select, written_total, written_explain, written_open, written_fetch, written_close, written_save, written_reopen}
use Rattle.rs_syntax.specs.WrittenView.{query_syntax, removal_syntax}
use Rattle.rs_syntax.specs.declared.queries.Atom.{Atom}
use Rattle.rs_syntax.specs.QueryView.{window_tree, condition_tree, query_tree}
use Rattle.rs_syntax.specs.Tree.{EventLocationTree, along, at_point, PieceTree, ConditionTree, CommandTree, define_route, define_table, define_referent, define_index, define_view, define_alignment, move_referent, drop_route, drop_table, drop_index, drop_view, drop_alignment, drop_referent, insert, remove, translate, select, total, explain, open_cursor, fetch, close_cursor, save, reopen}

-- a column's name and type
abbrev pub column_tree : ColumnDefinition → List ℕ × ColumnType
column_tree definition = (definition.name.bytes, definition.column_type)

-- where an event is put
abbrev pub location_tree : EventLocation → EventLocationTree
location_tree (locations.Along from to) = along (expression_of from) (expression_of to)
location_tree (locations.At position) = at_point (expression_of position)

-- a piece of an alignment
abbrev pub piece_tree : Piece → PieceTree
piece_tree piece = record { from_route = piece.from_route.bytes; from = piece.from; to = piece.to; onto_route = piece.onto_route.bytes; onto = piece.onto }

-- which rows REMOVE takes, where the line says it
abbrev pub removal_tree : Option (Vec (Vec Atom Global) Global) → Option ConditionTree
removal_tree None = None
removal_tree (Some conjunctions) = Some (condition_tree conjunctions.items)

-- the column that is summed, where the line says it
abbrev pub summed_tree : Option ArrayString → Option (List ℕ)
summed_tree None = None
summed_tree (Some name) = Some name.bytes

-- a command as a value
abbrev pub tree_of : Command → CommandTree
tree_of (commands.DefineRoute name start finish) = define_route name.bytes start finish
tree_of (commands.DefineTable kind name columns) = define_table kind name.bytes (map column_tree columns.items)
tree_of (commands.DefineReferent route name position) = define_referent route.bytes name.bytes (expression_of position)
tree_of (commands.DefineIndex name table column) = define_index name.bytes table.bytes column.bytes
tree_of (commands.DefineView name query text) = define_view name.bytes (query_tree query) (string_bytes text)
tree_of (commands.DefineAlignment name pieces) = define_alignment name.bytes (map piece_tree pieces.items)
tree_of (commands.MoveReferent route name position) = move_referent route.bytes name.bytes (expression_of position)
tree_of (commands.DropRoute name) = drop_route name.bytes
tree_of (commands.DropTable name) = drop_table name.bytes
tree_of (commands.DropIndex name) = drop_index name.bytes
tree_of (commands.DropView name) = drop_view name.bytes
tree_of (commands.DropAlignment name) = drop_alignment name.bytes
tree_of (commands.DropReferent route name) = drop_referent route.bytes name.bytes
tree_of (commands.Insert table route place values) = insert table.bytes route.bytes (location_tree place) (literal_row values.items)
tree_of (commands.Remove table window condition) = remove table.bytes (window_tree window) (removal_tree condition)
tree_of (commands.Translate route position method) = translate route.bytes (expression_of position) method
tree_of (commands.Select query method) = select (query_tree query) method
tree_of (commands.Total query by summed) = total (query_tree query) (map (λ name. name.bytes) by.items) (summed_tree summed)
tree_of (commands.Explain query) = explain (query_tree query)
tree_of (commands.Open cursor query method) = open_cursor cursor.bytes (query_tree query) method
tree_of (commands.Fetch cursor rows) = fetch cursor.bytes rows
tree_of (commands.Close cursor) = close_cursor cursor.bytes
tree_of commands.Save = save
tree_of commands.Reopen = reopen

-- how a command of the code is written
abbrev pub written_of : WrittenCommand → Written
written_of (forms.DefineRoute name start finish) = written_route name start finish
written_of (forms.DefineTable kind name columns) = written_table kind name columns.items
written_of (forms.DefineReferent route name position) = written_referent route name position
written_of (forms.DefineIndex name table column) = written_index name table column
written_of (forms.DefineView name query) = written_view name (query_syntax query.value)
written_of (forms.DefineAlignment name pieces) = written_alignment name pieces.items
written_of (forms.MoveReferent route name position) = written_move route name position
written_of (forms.DropRoute name) = written_drop_route name
written_of (forms.DropTable name) = written_drop_table name
written_of (forms.DropIndex name) = written_drop_index name
written_of (forms.DropView name) = written_drop_view name
written_of (forms.DropAlignment name) = written_drop_alignment name
written_of (forms.DropReferent route name) = written_drop_referent route name
written_of (forms.Insert table route place values) = written_insert table route place values.items
written_of (forms.Remove table window condition) = written_remove table window (removal_syntax condition)
written_of (forms.Translate route position method) = written_translate route position method
written_of (forms.Select query method) = written_select (query_syntax query.value) method
written_of (forms.Total query by summed) = written_total (query_syntax query.value) by.items summed
written_of (forms.Explain query) = written_explain (query_syntax query.value)
written_of (forms.Open cursor query method) = written_open cursor (query_syntax query.value) method
written_of (forms.Fetch cursor rows) = written_fetch cursor rows
written_of (forms.Close cursor) = written_close cursor
written_of forms.Save = written_save
written_of forms.Reopen = written_reopen
