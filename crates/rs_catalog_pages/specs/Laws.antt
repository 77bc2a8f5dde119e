-- Bytes say one definition at their front at the most, and one that can be written.
use Rattle.std.specs.Prelude.{◌≡◌, ◌<◌, ◌^◌, ℕ, List}
use Rattle.std.proofs.Common.{refl, sym, ap, ◌∙◌}
use Rattle.rs_bytes.specs.Codes.{Code, IsOne, IsOneOfLength, SaysNumber, SaysBoth, SaysUtf8, SaysEach, SaysMany, SaysCounted}
use Rattle.rs_bytes.specs.Laws.{number_one, both_one, utf8_one, each_one, counted_one, each_fits}
use Rattle.rs_catalog_pages.specs.Directory.{TreeItem, DirectoryItems, SaysTree, SaysDirectory}
use Rattle.rs_catalog_pages.specs.Fitting.{FitsRoute, FitsColumn, FitsTable, FitsIndex, FitsView, FitsPiece, FitsAlignment, FitsCatalogue, FitsTree, FitsDirectory}
use Rattle.rs_catalog_pages.specs.Items.{RouteItem, ColumnItem, TableItem, IndexItem, ViewItem, PieceItem, AlignmentItem, CatalogueItems, SaysName, SaysRoute, SaysColumn, SaysTable, SaysIndex, SaysView, SaysPiece, SaysAlignment, SaysCatalogue}

-- what is said by its parts is one where they are
pub one_by : {A B : Type 0} (says : Code A) (tells : Code B) (parts : B → A) (make : A → B) → ((b : B) → make (parts b) ≡ b)
    → ((f : List ℕ) (b : B) → tells f b → says f (parts b)) → IsOne says → IsOne tells
one_by says tells parts make back by one f r g s x y a b same =
    let e = one f r g s (parts x) (parts y) (by f x a) (by g y b) same in
    (sym (back x) ∙ ap make e.0 ∙ back y, e.1)

name_one : IsOne SaysName
name_one = counted_one 1 SaysUtf8 utf8_one

abbrev pub route_parts : RouteItem → List ℕ × (ℕ × (ℕ × (ℕ × ℕ)))
route_parts route = (route.name, (route.number, (route.start, (route.finish, route.born))))

abbrev pub make_route : List ℕ × (ℕ × (ℕ × (ℕ × ℕ))) → RouteItem
make_route parts = record { name = parts.0; number = parts.1.0; start = parts.1.1.0; finish = parts.1.1.1.0; born = parts.1.1.1.1 }

pub route_one : IsOne SaysRoute
route_one =
    one_by (SaysBoth SaysName (SaysBoth (SaysNumber 4) (SaysBoth (SaysNumber 4) (SaysBoth (SaysNumber 4) (SaysNumber 8))))) SaysRoute route_parts make_route (λ b. refl) (λ f b h. h)
    (both_one SaysName (SaysBoth (SaysNumber 4) (SaysBoth (SaysNumber 4) (SaysBoth (SaysNumber 4) (SaysNumber 8)))) name_one
    (both_one (SaysNumber 4) (SaysBoth (SaysNumber 4) (SaysBoth (SaysNumber 4) (SaysNumber 8))) (number_one 4)
    (both_one (SaysNumber 4) (SaysBoth (SaysNumber 4) (SaysNumber 8)) (number_one 4)
    (both_one (SaysNumber 4) (SaysNumber 8) (number_one 4) (number_one 8)))))

pub route_fits : (bytes : List ℕ) (route : RouteItem) → SaysRoute bytes route → FitsRoute route
route_fits bytes route is = record { name = is.3.3.0; number = is.4.3.0; start = is.4.4.3.0; finish = is.4.4.4.3.0; born = is.4.4.4.4.0 }

abbrev pub column_parts : ColumnItem → List ℕ × ℕ
column_parts column = (column.name, column.type)

abbrev pub make_column : List ℕ × ℕ → ColumnItem
make_column parts = record { name = parts.0; type = parts.1 }

pub column_one : IsOne SaysColumn
column_one = one_by (SaysBoth SaysName (SaysNumber 1)) SaysColumn column_parts make_column (λ b. refl) (λ f b h. h) (both_one SaysName (SaysNumber 1) name_one (number_one 1))

pub column_fits : (bytes : List ℕ) (column : ColumnItem) → SaysColumn bytes column → FitsColumn column
column_fits bytes column is = record { name = is.3.3.0; type = is.4.0 }

abbrev pub table_parts : TableItem → List ℕ × (ℕ × (ℕ × List ColumnItem))
table_parts table = (table.name, (table.number, (table.kind, table.columns)))

abbrev pub make_table : List ℕ × (ℕ × (ℕ × List ColumnItem)) → TableItem
make_table parts = record { name = parts.0; number = parts.1.0; kind = parts.1.1.0; columns = parts.1.1.1 }

pub table_one : IsOne SaysTable
table_one =
    one_by (SaysBoth SaysName (SaysBoth (SaysNumber 4) (SaysBoth (SaysNumber 1) (SaysCounted 1 (SaysEach SaysColumn))))) SaysTable table_parts make_table (λ b. refl) (λ f b h. h)
    (both_one SaysName (SaysBoth (SaysNumber 4) (SaysBoth (SaysNumber 1) (SaysCounted 1 (SaysEach SaysColumn)))) name_one
    (both_one (SaysNumber 4) (SaysBoth (SaysNumber 1) (SaysCounted 1 (SaysEach SaysColumn))) (number_one 4)
    (both_one (SaysNumber 1) (SaysCounted 1 (SaysEach SaysColumn)) (number_one 1)
    (counted_one 1 (SaysEach SaysColumn) (each_one SaysColumn column_one)))))

pub table_fits : (bytes : List ℕ) (table : TableItem) → SaysTable bytes table → FitsTable table
table_fits bytes table is = record {
  name = is.3.3.0;
  number = is.4.3.0;
  kind = is.4.4.3.0;
  few = is.4.4.4.3.0;
  columns = each_fits SaysColumn FitsColumn column_fits is.4.4.4.1 table.columns is.4.4.4.4;
}

abbrev pub index_parts : IndexItem → List ℕ × (ℕ × (ℕ × ℕ))
index_parts index = (index.name, (index.number, (index.table, index.column)))

abbrev pub make_index : List ℕ × (ℕ × (ℕ × ℕ)) → IndexItem
make_index parts = record { name = parts.0; number = parts.1.0; table = parts.1.1.0; column = parts.1.1.1 }

pub index_one : IsOne SaysIndex
index_one =
    one_by (SaysBoth SaysName (SaysBoth (SaysNumber 4) (SaysBoth (SaysNumber 4) (SaysNumber 1)))) SaysIndex index_parts make_index (λ b. refl) (λ f b h. h)
    (both_one SaysName (SaysBoth (SaysNumber 4) (SaysBoth (SaysNumber 4) (SaysNumber 1))) name_one
    (both_one (SaysNumber 4) (SaysBoth (SaysNumber 4) (SaysNumber 1)) (number_one 4)
    (both_one (SaysNumber 4) (SaysNumber 1) (number_one 4) (number_one 1))))

pub index_fits : (bytes : List ℕ) (index : IndexItem) → SaysIndex bytes index → FitsIndex index
index_fits bytes index is = record { name = is.3.3.0; number = is.4.3.0; table = is.4.4.3.0; column = is.4.4.4.0 }

abbrev pub view_parts : ViewItem → List ℕ × List ℕ
view_parts view = (view.name, view.text)

abbrev pub make_view : List ℕ × List ℕ → ViewItem
make_view parts = record { name = parts.0; text = parts.1 }

pub view_one : IsOne SaysView
view_one =
    one_by (SaysBoth SaysName (SaysCounted 2 SaysUtf8)) SaysView view_parts make_view (λ b. refl) (λ f b h. h)
    (both_one SaysName (SaysCounted 2 SaysUtf8) name_one (counted_one 2 SaysUtf8 utf8_one))

pub view_fits : (bytes : List ℕ) (view : ViewItem) → SaysView bytes view → FitsView view
view_fits bytes view is = record { name = is.3.3.0; text = is.4.3.0 }

abbrev pub piece_parts : PieceItem → ℕ × (ℕ × (ℕ × (ℕ × ℕ)))
piece_parts piece = (piece.from_route, (piece.from, (piece.to, (piece.onto_route, piece.onto))))

abbrev pub make_piece : ℕ × (ℕ × (ℕ × (ℕ × ℕ))) → PieceItem
make_piece parts = record { from_route = parts.0; from = parts.1.0; to = parts.1.1.0; onto_route = parts.1.1.1.0; onto = parts.1.1.1.1 }

pub piece_one : IsOne SaysPiece
piece_one =
    one_by (SaysBoth (SaysNumber 4) (SaysBoth (SaysNumber 4) (SaysBoth (SaysNumber 4) (SaysBoth (SaysNumber 4) (SaysNumber 4))))) SaysPiece piece_parts make_piece (λ b. refl) (λ f b h. h)
    (both_one (SaysNumber 4) (SaysBoth (SaysNumber 4) (SaysBoth (SaysNumber 4) (SaysBoth (SaysNumber 4) (SaysNumber 4)))) (number_one 4)
    (both_one (SaysNumber 4) (SaysBoth (SaysNumber 4) (SaysBoth (SaysNumber 4) (SaysNumber 4))) (number_one 4)
    (both_one (SaysNumber 4) (SaysBoth (SaysNumber 4) (SaysNumber 4)) (number_one 4)
    (both_one (SaysNumber 4) (SaysNumber 4) (number_one 4) (number_one 4)))))

pub piece_fits : (bytes : List ℕ) (piece : PieceItem) → SaysPiece bytes piece → FitsPiece piece
piece_fits bytes piece is = record { from_route = is.3.0; from = is.4.3.0; to = is.4.4.3.0; onto_route = is.4.4.4.3.0; onto = is.4.4.4.4.0 }

abbrev pub alignment_parts : AlignmentItem → List ℕ × List PieceItem
alignment_parts alignment = (alignment.name, alignment.pieces)

abbrev pub make_alignment : List ℕ × List PieceItem → AlignmentItem
make_alignment parts = record { name = parts.0; pieces = parts.1 }

pub alignment_one : IsOne SaysAlignment
alignment_one =
    one_by (SaysBoth SaysName (SaysCounted 1 (SaysEach SaysPiece))) SaysAlignment alignment_parts make_alignment (λ b. refl) (λ f b h. h)
    (both_one SaysName (SaysCounted 1 (SaysEach SaysPiece)) name_one (counted_one 1 (SaysEach SaysPiece) (each_one SaysPiece piece_one)))

pub alignment_fits : (bytes : List ℕ) (alignment : AlignmentItem) → SaysAlignment bytes alignment → FitsAlignment alignment
alignment_fits bytes alignment is = record { name = is.3.3.0; few = is.4.3.0; pieces = each_fits SaysPiece FitsPiece piece_fits is.4.1 alignment.pieces is.4.4 }

abbrev pub catalogue_parts : CatalogueItems → List RouteItem × (List TableItem × (List IndexItem × (List ViewItem × List AlignmentItem)))
catalogue_parts catalogue = (catalogue.routes, (catalogue.tables, (catalogue.indexes, (catalogue.views, catalogue.alignments))))

abbrev pub make_catalogue : List RouteItem × (List TableItem × (List IndexItem × (List ViewItem × List AlignmentItem))) → CatalogueItems
make_catalogue parts = record { routes = parts.0; tables = parts.1.0; indexes = parts.1.1.0; views = parts.1.1.1.0; alignments = parts.1.1.1.1 }

list_one : {A : Type 0} (says : Code A) → IsOne says → IsOne (SaysCounted 4 (SaysEach says))
list_one says one = counted_one 4 (SaysEach says) (each_one says one)

pub catalogue_one : IsOne SaysCatalogue
catalogue_one =
    one_by (SaysBoth (SaysCounted 4 (SaysEach SaysRoute)) (SaysBoth (SaysCounted 4 (SaysEach SaysTable)) (SaysBoth (SaysCounted 4 (SaysEach SaysIndex)) (SaysBoth (SaysCounted 4 (SaysEach SaysView)) (SaysCounted 4 (SaysEach SaysAlignment))))))
    SaysCatalogue catalogue_parts make_catalogue (λ b. refl) (λ f b h. h)
    (both_one (SaysCounted 4 (SaysEach SaysRoute)) (SaysBoth (SaysCounted 4 (SaysEach SaysTable)) (SaysBoth (SaysCounted 4 (SaysEach SaysIndex)) (SaysBoth (SaysCounted 4 (SaysEach SaysView)) (SaysCounted 4 (SaysEach SaysAlignment))))) (list_one SaysRoute route_one)
    (both_one (SaysCounted 4 (SaysEach SaysTable)) (SaysBoth (SaysCounted 4 (SaysEach SaysIndex)) (SaysBoth (SaysCounted 4 (SaysEach SaysView)) (SaysCounted 4 (SaysEach SaysAlignment)))) (list_one SaysTable table_one)
    (both_one (SaysCounted 4 (SaysEach SaysIndex)) (SaysBoth (SaysCounted 4 (SaysEach SaysView)) (SaysCounted 4 (SaysEach SaysAlignment))) (list_one SaysIndex index_one)
    (both_one (SaysCounted 4 (SaysEach SaysView)) (SaysCounted 4 (SaysEach SaysAlignment)) (list_one SaysView view_one) (list_one SaysAlignment alignment_one)))))

pub catalogue_fits : (bytes : List ℕ) (catalogue : CatalogueItems) → SaysCatalogue bytes catalogue → FitsCatalogue catalogue
catalogue_fits bytes catalogue is = record {
  few_routes = is.3.3.0;
  routes = each_fits SaysRoute FitsRoute route_fits is.3.1 catalogue.routes is.3.4;
  few_tables = is.4.3.3.0;
  tables = each_fits SaysTable FitsTable table_fits is.4.3.1 catalogue.tables is.4.3.4;
  few_indexes = is.4.4.3.3.0;
  indexes = each_fits SaysIndex FitsIndex index_fits is.4.4.3.1 catalogue.indexes is.4.4.3.4;
  few_views = is.4.4.4.3.3.0;
  views = each_fits SaysView FitsView view_fits is.4.4.4.3.1 catalogue.views is.4.4.4.3.4;
  few_alignments = is.4.4.4.4.3.0;
  alignments = each_fits SaysAlignment FitsAlignment alignment_fits is.4.4.4.4.1 catalogue.alignments is.4.4.4.4.4;
}

-- so many values one after another
pub many_one : {A : Type 0} (count : ℕ) (says : Code (List A)) → IsOneOfLength says → IsOne (SaysMany count says)
many_one count says one f r g s xs ys a b same = one f r g s xs ys (a.0 ∙ sym b.0) a.1 b.1 same

abbrev pub tree_parts : TreeItem → ℕ × (ℕ × ℕ)
tree_parts tree = (tree.root, (tree.living, tree.garbage))

abbrev pub make_tree : ℕ × (ℕ × ℕ) → TreeItem
make_tree parts = record { root = parts.0; living = parts.1.0; garbage = parts.1.1 }

pub tree_one : IsOne SaysTree
tree_one =
    one_by (SaysBoth (SaysNumber 4) (SaysBoth (SaysNumber 8) (SaysNumber 8))) SaysTree tree_parts make_tree (λ b. refl) (λ f b h. h)
    (both_one (SaysNumber 4) (SaysBoth (SaysNumber 8) (SaysNumber 8)) (number_one 4) (both_one (SaysNumber 8) (SaysNumber 8) (number_one 8) (number_one 8)))

pub tree_fits : (bytes : List ℕ) (tree : TreeItem) → SaysTree bytes tree → FitsTree tree
tree_fits bytes tree is = record { root = is.3.0; living = is.4.3.0; garbage = is.4.4.0 }

abbrev pub directory_parts : DirectoryItems → List TreeItem × (List ℕ × (TreeItem × ℕ))
directory_parts directory = (directory.tables, (directory.indexes, (directory.referents, directory.accepted)))

abbrev pub make_directory : List TreeItem × (List ℕ × (TreeItem × ℕ)) → DirectoryItems
make_directory parts = record { tables = parts.0; indexes = parts.1.0; referents = parts.1.1.0; accepted = parts.1.1.1 }

pub directory_one : IsOne SaysDirectory
directory_one =
    one_by (SaysBoth (SaysMany 128 (SaysEach SaysTree)) (SaysBoth (SaysMany 64 (SaysEach (SaysNumber 4))) (SaysBoth SaysTree (SaysNumber 8)))) SaysDirectory directory_parts make_directory (λ b. refl) (λ f b h. h)
    (both_one (SaysMany 128 (SaysEach SaysTree)) (SaysBoth (SaysMany 64 (SaysEach (SaysNumber 4))) (SaysBoth SaysTree (SaysNumber 8))) (many_one 128 (SaysEach SaysTree) (each_one SaysTree tree_one))
    (both_one (SaysMany 64 (SaysEach (SaysNumber 4))) (SaysBoth SaysTree (SaysNumber 8)) (many_one 64 (SaysEach (SaysNumber 4)) (each_one (SaysNumber 4) (number_one 4)))
    (both_one SaysTree (SaysNumber 8) tree_one (number_one 8))))

pub directory_fits : (bytes : List ℕ) (directory : DirectoryItems) → SaysDirectory bytes directory → FitsDirectory directory
directory_fits bytes directory is = record {
  all_tables = is.3.0;
  tables = each_fits SaysTree FitsTree tree_fits is.0 directory.tables is.3.1;
  all_indexes = is.4.3.0;
  indexes = each_fits (SaysNumber 4) (λ root. root < 2 ^ 32) (λ b x h. h.0) is.4.0 directory.indexes is.4.3.1;
  referents = tree_fits is.4.4.0 directory.referents is.4.4.3;
  accepted = is.4.4.4.0;
}
