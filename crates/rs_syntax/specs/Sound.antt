-- What every command that a line says keeps to.
use Rattle.std.specs.Prelude.{◌≢◌, ℕ, ◌≤◌, List, [], ◌∷◌, length, Option, Some, None}
use Rattle.std.specs.List.{AllByRecursion}
use Rattle.rs_measure.specs.declared.part.TheConstants.{GREATEST_PART}
pub use Rattle.rs_measure.specs.Measure.{IsMeasure}
use Rattle.rs_value.specs.declared.column.TheConstants.{TEXT_BYTES}
use Rattle.rs_value.specs.declared.column.ColumnType.{ColumnType}
use Rattle.rs_value.specs.declared.column.ColumnType.TheVariants as types
use Rattle.rs_value.specs.Row.{null}
use Rattle.rs_value.specs.Values.{IsValue, AreValues}
use Rattle.rs_grammar.specs.declared.kind.TheConstants.{FETCHED_ROWS}
pub use Rattle.rs_lexer.specs.Names.{IsName}
use Rattle.rs_methods.specs.Position.{PositionExpression, absolute, beyond, before, interpolative}
use Rattle.rs_syntax.specs.Tree.{EventLocationTree, along, at_point, WindowTree, whole_route, part_of_route, PieceTree, OperandTree, column_named, written_value, ConditionTree, compare, is_null, is_not_null, negated, bracketed, both, either, QueryTree, named, filtered, dissolved, renamed, overlaid, covered, merged, subtracted, windowed, transformed, gapped, CommandTree, define_route, define_table, define_referent, define_index, define_view, define_alignment, move_referent, drop_route, drop_table, drop_index, drop_view, drop_alignment, drop_referent, insert, remove, translate, select, total, explain, open_cursor, fetch, close_cursor, save, reopen}

-- a text's column has room for a byte at least
abbrev pub IsColumnType : ColumnType → Type 0
IsColumnType types.Int = Unit {0}
IsColumnType (types.Text most) = (1 ≤ most) × (most ≤ TEXT_BYTES)

abbrev pub AreColumns : List (List ℕ × ColumnType) → Type 0
AreColumns [] = Unit {0}
AreColumns (column ∷ columns) = IsName column.0 × IsColumnType column.1 × AreColumns columns

-- the referent's name is a name, the measure a measure, the part at most all
abbrev pub IsPosition : PositionExpression → Type 0
IsPosition (absolute measure) = IsMeasure measure
IsPosition (beyond name measure) = IsName name × IsMeasure measure
IsPosition (before name measure) = IsName name × IsMeasure measure
IsPosition (interpolative part) = part ≤ GREATEST_PART

abbrev pub IsEventLocation : EventLocationTree → Type 0
IsEventLocation (along from to) = IsPosition from × IsPosition to
IsEventLocation (at_point position) = IsPosition position

abbrev pub IsWindow : WindowTree → Type 0
IsWindow (whole_route route) = IsName route
IsWindow (part_of_route route from to) = IsName route × IsPosition from × IsPosition to

-- a column's name; or a number or a text, and not NULL
abbrev pub IsOperand : OperandTree → Type 0
IsOperand (column_named name) = IsName name
IsOperand (written_value datum) = IsValue datum × (datum ≢ null)

abbrev pub IsCondition : ConditionTree → Type 0
IsCondition (compare name comparison operand) = IsName name × IsOperand operand
IsCondition (is_null name) = IsName name
IsCondition (is_not_null name) = IsName name
IsCondition (negated condition) = IsCondition condition
IsCondition (bracketed condition) = IsCondition condition
IsCondition (both a b) = IsCondition a × IsCondition b
IsCondition (either a b) = IsCondition a × IsCondition b

-- its routes have names, and its places are measures
pub record IsPiece (piece : PieceTree) : Type 0 where
  pub from_route : IsName piece.from_route
  pub from : IsMeasure piece.from
  pub to : IsMeasure piece.to
  pub onto_route : IsName piece.onto_route
  pub onto : IsMeasure piece.onto

-- all rows where no condition is written
abbrev pub IsRemovalCondition : Option ConditionTree → Type 0
IsRemovalCondition None = Unit {0}
IsRemovalCondition (Some condition) = IsCondition condition

abbrev pub IsQuery : QueryTree → Type 0
IsQuery (named name) = IsName name
IsQuery (filtered query condition) = IsQuery query × IsCondition condition
IsQuery (dissolved query names) = IsQuery query × AllByRecursion IsName names
IsQuery (renamed query from to) = IsQuery query × IsName from × IsName to
IsQuery (overlaid a b) = IsQuery a × IsQuery b
IsQuery (covered a b) = IsQuery a × IsQuery b
IsQuery (merged a b) = IsQuery a × IsQuery b
IsQuery (subtracted a b) = IsQuery a × IsQuery b
IsQuery (windowed query window) = IsQuery query × IsWindow window
IsQuery (transformed query alignment) = IsQuery query × IsName alignment
IsQuery (gapped query) = IsQuery query

-- none where no column is summed
abbrev pub IsSummedColumn : Option (List ℕ) → Type 0
IsSummedColumn None = Unit {0}
IsSummedColumn (Some name) = IsName name

-- names are names, each list but that of TOTAL's columns has an item, numbers are in their ranges, and texts are UTF-8 without control bytes
abbrev pub IsSound : CommandTree → Type 0
IsSound (define_route name start finish) = IsName name × IsMeasure start × IsMeasure finish
IsSound (define_table kind name columns) = IsName name × (1 ≤ length columns) × AreColumns columns
IsSound (define_referent route name position) = IsName route × IsName name × IsPosition position
IsSound (define_index name table column) = IsName name × IsName table × IsName column
IsSound (define_view name query text) = IsName name × IsQuery query
IsSound (define_alignment name pieces) = IsName name × (1 ≤ length pieces) × AllByRecursion IsPiece pieces
IsSound (move_referent route name position) = IsName route × IsName name × IsPosition position
IsSound (drop_route name) = IsName name
IsSound (drop_table name) = IsName name
IsSound (drop_index name) = IsName name
IsSound (drop_view name) = IsName name
IsSound (drop_alignment name) = IsName name
IsSound (drop_referent route name) = IsName route × IsName name
IsSound (insert table route place row) = IsName table × IsName route × IsEventLocation place × (1 ≤ length row) × AreValues row
IsSound (remove table window condition) = IsName table × IsWindow window × IsRemovalCondition condition
IsSound (translate route position method) = IsName route × IsPosition position
IsSound (select query method) = IsQuery query
IsSound (total query by summed) = IsQuery query × AllByRecursion IsName by × IsSummedColumn summed
IsSound (explain query) = IsQuery query
IsSound (open_cursor name query method) = IsName name × IsQuery query
IsSound (fetch name rows) = IsName name × (1 ≤ rows) × (rows ≤ FETCHED_ROWS)
IsSound (close_cursor name) = IsName name
IsSound save = Unit {0}
IsSound reopen = Unit {0}
