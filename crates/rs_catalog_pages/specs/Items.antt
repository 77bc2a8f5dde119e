-- Which bytes say the definitions of a file: five lists, each in the order of names.
use Rattle.std.specs.Prelude.{◌==◌, ℕ, List, if◌then◌else◌}
use Rattle.rs_bytes.specs.Codes.{Code, SaysBoth, SaysCounted, SaysEach, SaysNumber, SaysUtf8}
use Rattle.rs_value.specs.declared.column.Kind.{Kind}
use Rattle.rs_value.specs.declared.column.Kind.TheVariants.{Line, Point}

pub record RouteItem : Type 0 where
  pub name : List ℕ
  pub number : ℕ
  pub start : ℕ
  pub finish : ℕ
  pub born : ℕ

pub record ColumnItem : Type 0 where
  pub name : List ℕ
  pub type : ℕ  -- 0: numbers; else the greatest length of a text

pub record TableItem : Type 0 where
  pub name : List ℕ
  pub number : ℕ
  pub kind : ℕ  -- 0: points, 1: lines
  pub columns : List ColumnItem

-- the kind that the code of a table says
abbrev pub kind_of : ℕ → Kind
kind_of code = if code == 0 then Point else Line

pub record IndexItem : Type 0 where
  pub name : List ℕ
  pub number : ℕ
  pub table : ℕ
  pub column : ℕ

pub record ViewItem : Type 0 where
  pub name : List ℕ
  pub text : List ℕ

pub record PieceItem : Type 0 where
  pub from_route : ℕ
  pub from : ℕ
  pub to : ℕ
  pub onto_route : ℕ
  pub onto : ℕ

pub record AlignmentItem : Type 0 where
  pub name : List ℕ
  pub pieces : List PieceItem

pub record CatalogueItems : Type 0 where
  pub routes : List RouteItem
  pub tables : List TableItem
  pub indexes : List IndexItem
  pub views : List ViewItem
  pub alignments : List AlignmentItem

-- the bytes of a name after the number of them
abbrev pub SaysName : Code (List ℕ)
SaysName = SaysCounted 1 SaysUtf8

-- its name, its number, where it starts and where it ends in thousandths, the version from which on it is seen
abbrev pub SaysRoute : Code RouteItem
SaysRoute bytes route =
    SaysBoth SaysName (SaysBoth (SaysNumber 4) (SaysBoth (SaysNumber 4) (SaysBoth (SaysNumber 4) (SaysNumber 8))))
    bytes (route.name, (route.number, (route.start, (route.finish, route.born))))

abbrev pub SaysColumn : Code ColumnItem
SaysColumn bytes column = SaysBoth SaysName (SaysNumber 1) bytes (column.name, column.type)

abbrev pub SaysTable : Code TableItem
SaysTable bytes table =
    SaysBoth SaysName (SaysBoth (SaysNumber 4) (SaysBoth (SaysNumber 1) (SaysCounted 1 (SaysEach SaysColumn))))
    bytes (table.name, (table.number, (table.kind, table.columns)))

-- its name, its number, the number of its table, the place of its column
abbrev pub SaysIndex : Code IndexItem
SaysIndex bytes index =
    SaysBoth SaysName (SaysBoth (SaysNumber 4) (SaysBoth (SaysNumber 4) (SaysNumber 1)))
    bytes (index.name, (index.number, (index.table, index.column)))

-- its name, and the text of its query
abbrev pub SaysView : Code ViewItem
SaysView bytes view = SaysBoth SaysName (SaysCounted 2 SaysUtf8) bytes (view.name, view.text)

-- the number of a route and a part of it, the number of the route that it is carried onto, and where
abbrev pub SaysPiece : Code PieceItem
SaysPiece bytes piece =
    SaysBoth (SaysNumber 4) (SaysBoth (SaysNumber 4) (SaysBoth (SaysNumber 4) (SaysBoth (SaysNumber 4) (SaysNumber 4))))
    bytes (piece.from_route, (piece.from, (piece.to, (piece.onto_route, piece.onto))))

abbrev pub SaysAlignment : Code AlignmentItem
SaysAlignment bytes alignment = SaysBoth SaysName (SaysCounted 1 (SaysEach SaysPiece)) bytes (alignment.name, alignment.pieces)

abbrev pub SaysCatalogue : Code CatalogueItems
SaysCatalogue bytes catalogue =
    SaysBoth (SaysCounted 4 (SaysEach SaysRoute)) (SaysBoth (SaysCounted 4 (SaysEach SaysTable)) (SaysBoth (SaysCounted 4 (SaysEach SaysIndex))
    (SaysBoth (SaysCounted 4 (SaysEach SaysView)) (SaysCounted 4 (SaysEach SaysAlignment)))))
    bytes (catalogue.routes, (catalogue.tables, (catalogue.indexes, (catalogue.views, catalogue.alignments))))
