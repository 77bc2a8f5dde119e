-- The line of each command of a dump: by session 0, measures in their shortest form, and blanks only where tokens need them.
use Rattle.std.specs.Prelude.{ℕ, ◌+◌, ◌/◌, ◌%◌, ◌==◌, if◌then◌else◌, List, [], ◌∷◌, ◌++◌, map, codes, decimal}
use Rattle.std.specs.List.{join_with_byte}
use Rattle.rs_measure.specs.FixedPoint.{three_digits}
use Rattle.rs_methods.specs.Position.{absolute}
use Rattle.rs_value.specs.declared.column.Kind.{Kind}
use Rattle.rs_value.specs.declared.column.Kind.TheVariants.{Point, Line}
use Rattle.rs_value.specs.declared.column.ColumnType.{ColumnType}
use Rattle.rs_value.specs.declared.column.ColumnType.TheVariants as types
use Rattle.rs_value.specs.Row.{Row}
use Rattle.rs_value.specs.Text.{datum_text}
use Rattle.rs_syntax.specs.Tree.{along, at_point, PieceTree, CommandTree, define_route, define_table, define_referent, define_index, define_view, define_alignment, insert}
use Rattle.rs_machine.specs.Request.{Asks, command}
use Rattle.rs_machine_laws.specs.ViewLines.{shortest_view_line}

-- ---- measures

-- the decimals of so many thousandths, without zeros at their end
abbrev pub decimals_text : ℕ → List ℕ
decimals_text n =
    if n % 100 == 0 then (48 + n / 100) ∷ []
    else if n % 10 == 0 then (48 + n / 100) ∷ (48 + n / 10 % 10) ∷ []
    else three_digits n

-- what follows the whole part: nothing, or a point and decimals
abbrev pub point_text : ℕ → List ℕ
point_text n = if n == 0 then [] else codes "." ++ decimals_text n

-- the shortest text that says the measure
abbrev pub shortest_text : ℕ → List ℕ
shortest_text thousandths = decimal (thousandths / 1000) ++ point_text (thousandths % 1000)

-- ---- parts of a line

abbrev pub COMMA : ℕ
COMMA = 44

-- the texts in brackets, with a comma between them
abbrev pub bracketed_texts : List (List ℕ) → List ℕ
bracketed_texts texts = codes "(" ++ (join_with_byte COMMA texts ++ codes ")")

abbrev pub kind_word : Kind → List ℕ
kind_word Line = codes "LINE"
kind_word Point = codes "POINT"

abbrev pub type_text : ColumnType → List ℕ
type_text types.Int = codes "INT"
type_text (types.Text most) = codes "TEXT(" ++ (decimal most ++ codes ")")

abbrev pub column_text : (List ℕ × ColumnType) → List ℕ
column_text column = column.0 ++ (codes " " ++ type_text column.1)

abbrev pub span_text : ℕ → ℕ → List ℕ
span_text from to = codes " FROM " ++ (shortest_text from ++ (codes " TO " ++ shortest_text to))

abbrev pub piece_text : PieceTree → List ℕ
piece_text piece = piece.from_route ++ (span_text piece.from piece.to ++ (codes " INTO " ++ (piece.onto_route ++ (codes " AT " ++ shortest_text piece.onto))))

-- from the table on, its place being written so
abbrev pub insert_text : List ℕ → List ℕ → List ℕ → Row → List ℕ
insert_text table route place row = codes "0 INSERT INTO " ++ (table ++ (codes " ON " ++ (route ++ (place ++ (codes " VALUES" ++ bracketed_texts (map datum_text row))))))

-- ---- the line

-- other commands are no part of a dump
abbrev pub dump_line : CommandTree → List ℕ
dump_line (define_route name start finish) = codes "0 DEFINE ROUTE " ++ (name ++ span_text start finish)
dump_line (define_referent route name (absolute measure)) = codes "0 DEFINE REFERENT " ++ (route ++ (codes " " ++ (name ++ (codes " AT " ++ shortest_text measure))))
dump_line (define_table kind name columns) = codes "0 DEFINE " ++ (kind_word kind ++ (codes " TABLE " ++ (name ++ bracketed_texts (map column_text columns))))
dump_line (insert table route (along (absolute from) (absolute to)) row) = insert_text table route (span_text from to) row
dump_line (insert table route (at_point (absolute measure)) row) = insert_text table route (codes " AT " ++ shortest_text measure) row
dump_line (define_alignment name pieces) = codes "0 DEFINE ALIGNMENT " ++ (name ++ bracketed_texts (map piece_text pieces))
dump_line (define_view name query text) = shortest_view_line name text
dump_line (define_index name table column) = codes "0 DEFINE INDEX " ++ (name ++ (codes " ON " ++ (table ++ bracketed_texts (column ∷ []))))
dump_line _ = []

-- its line asks it of session 0
abbrev pub IsSaid : CommandTree → Type 0
IsSaid tree = Asks (dump_line tree) (command 0 tree)
