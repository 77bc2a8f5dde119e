-- What a checked query keeps to, so that its operators can be evaluated.
use Rattle.std.specs.Prelude.{◌≡◌, ℕ, ◌+◌, ◌-◌, ◌<◌, ◌≤◌, List, length, Some}
use Rattle.std.specs.List.{AllByRecursion}
use Rattle.std.specs.FinMap as names
use Rattle.rs_value.specs.declared.column.TheConstants.{COLUMNS}
use Rattle.rs_facts.specs.Fact.{Names}
use Rattle.rs_facts.specs.Query.{RouteEnds, Table, World, Piece, Query, table_rows, where_rows, dissolve_rows, rename_column, overlay_rows, cover_rows, merge_rows, minus_rows, window_rows, transform_rows, gaps_rows, kind_of, columns_of}

-- how wide the query's rows are
abbrev pub width_of : World → Query → ℕ
width_of world query = length (columns_of world query)

-- The piece is carried from a part of a route that is there to a place on a route that is there, and some of it is.
pub record IsPieceOn (routes : Names RouteEnds) (piece : Piece) : Type 0 where
  pub first : RouteEnds
  pub second : RouteEnds
  pub first_there : names.get routes piece.from_route ≡ Some first
  pub second_there : names.get routes piece.onto_route ≡ Some second
  pub from_start : first.start ≤ piece.from
  pub some : piece.from < piece.to
  pub upto_finish : piece.to ≤ first.finish
  pub onto_start : second.start ≤ piece.onto
  pub onto_finish : piece.onto + (piece.to - piece.from) ≤ second.finish

abbrev pub ArePiecesOn : Names RouteEnds → List Piece → Type 0
ArePiecesOn routes pieces = AllByRecursion (IsPieceOn routes) pieces

-- The tables are there, rows are nowhere wider than a row may be, COVER knows the widths of its operands, and operands
-- of COVER, MERGE and MINUS are of one kind, those of MERGE and MINUS of one width; pieces lie on routes that are there.
abbrev pub IsWellFormed : World → Query → Type 0
IsWellFormed world (table_rows name) = (table : Table) × (names.get world.tables name ≡ Some table) × (length table.columns ≤ COLUMNS)
IsWellFormed world (where_rows query condition) = IsWellFormed world query
IsWellFormed world (dissolve_rows query columns) = IsWellFormed world query × (length columns ≤ COLUMNS)
IsWellFormed world (rename_column query column name) = IsWellFormed world query
IsWellFormed world (overlay_rows a b) = IsWellFormed world a × IsWellFormed world b × (width_of world a + width_of world b ≤ COLUMNS)
IsWellFormed world (cover_rows m n a b) = IsWellFormed world a × IsWellFormed world b × (m + n ≤ COLUMNS)
    × (m ≡ width_of world a) × (n ≡ width_of world b) × (kind_of world a ≡ kind_of world b)
IsWellFormed world (merge_rows a b) = IsWellFormed world a × IsWellFormed world b × (kind_of world a ≡ kind_of world b) × (width_of world a ≡ width_of world b)
IsWellFormed world (minus_rows a b) = IsWellFormed world a × IsWellFormed world b × (kind_of world a ≡ kind_of world b) × (width_of world a ≡ width_of world b)
IsWellFormed world (window_rows query window) = IsWellFormed world query
IsWellFormed world (transform_rows query name pieces) = IsWellFormed world query × ArePiecesOn world.routes pieces
IsWellFormed world (gaps_rows query) = IsWellFormed world query
