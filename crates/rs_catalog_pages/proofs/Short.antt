-- How many bytes definitions take at the most.
use Rattle.std.proofs.Common.{◌≡◌, ◌≤◌, ◌<◌, ◌+◌, ◌*◌, ℕ, zero, suc, List, [], ◌∷◌, ◌++◌, length, refl, ap, ◌∙◌, arith, length-append}
use Rattle.std.specs.Int.{bytes_high_first}
use Rattle.rs_bytes.specs.Codes.{Code, SaysCounted, SaysEach, SaysNumber}
use Rattle.rs_catalog_pages.specs.Fitting.{IsShort}
use Rattle.rs_catalog_pages.specs.Items.{CatalogueItems, SaysAlignment, SaysColumn, SaysIndex, SaysName, SaysPiece, SaysRoute, SaysTable, SaysView}

-- a value takes at most so many bytes
abbrev IsWithin : {A : Type 0} → Code A → ℕ → Type 0
IsWithin {A} says most = (bytes : List ℕ) (value : A) → says bytes value → length bytes ≤ most

high_length : (n x : ℕ) → length (bytes_high_first n x) ≡ n
high_length zero x = refl
high_length (suc n) x = ap suc (high_length n x)

number_length : (n : ℕ) (bytes : List ℕ) (x : ℕ) → SaysNumber n bytes x → length bytes ≡ n
number_length n bytes x is = ap length is.1 ∙ high_length n x

parted : (bytes first rest : List ℕ) → bytes ≡ first ++ rest → length bytes ≡ length first + length rest
parted bytes first rest is = ap length is ∙ length-append first rest

name_length : (bytes name : List ℕ) → SaysName bytes name → length bytes ≤ 256
name_length bytes name is = omega (arith, parted bytes is.0 is.1 is.2, number_length 1 is.0 (length name) is.3, ap length is.4.0, is.3.0)

-- values one after another
each_length : {A : Type 0} (says : Code A) (most : ℕ) → IsWithin says most → (values : List A) (bytes : List ℕ) → SaysEach says bytes values → length bytes ≤ length values * most
each_length says most within [] bytes is = omega (arith, ap length is)
each_length says most within (value ∷ values) bytes is =
    let one = within is.0 value is.3 in
    let more = each_length says most within values is.1 is.4 in
    omega (arith, parted bytes is.0 is.1 is.2, one, more)

piece_length : IsWithin SaysPiece 20
piece_length bytes piece is =
    omega (
      arith,
      parted bytes is.0 is.1 is.2,
      number_length 4 is.0 piece.from_route is.3,
      parted is.1 is.4.0 is.4.1 is.4.2,
      number_length 4 is.4.0 piece.from is.4.3,
      parted is.4.1 is.4.4.0 is.4.4.1 is.4.4.2,
      number_length 4 is.4.4.0 piece.to is.4.4.3,
      parted is.4.4.1 is.4.4.4.0 is.4.4.4.1 is.4.4.4.2,
      number_length 4 is.4.4.4.0 piece.onto_route is.4.4.4.3,
      number_length 4 is.4.4.4.1 piece.onto is.4.4.4.4,
    )

column_length : IsWithin SaysColumn 257
column_length bytes column is = omega (arith, parted bytes is.0 is.1 is.2, name_length is.0 column.name is.3, number_length 1 is.1 column.type is.4)

route_length : IsWithin SaysRoute 276
route_length bytes route is =
    omega (
      arith,
      parted bytes is.0 is.1 is.2,
      name_length is.0 route.name is.3,
      parted is.1 is.4.0 is.4.1 is.4.2,
      number_length 4 is.4.0 route.number is.4.3,
      parted is.4.1 is.4.4.0 is.4.4.1 is.4.4.2,
      number_length 4 is.4.4.0 route.start is.4.4.3,
      parted is.4.4.1 is.4.4.4.0 is.4.4.4.1 is.4.4.4.2,
      number_length 4 is.4.4.4.0 route.finish is.4.4.4.3,
      number_length 8 is.4.4.4.1 route.born is.4.4.4.4,
    )

-- a list with its length in a byte
few_length : {A : Type 0} (says : Code A) (most : ℕ) → IsWithin says most → (bytes : List ℕ) (values : List A) → SaysCounted 1 (SaysEach says) bytes values
    → (length values < 256) × (length bytes ≤ 1 + length values * most)
few_length says most within bytes values is = (
  is.3.0,
  omega (arith, parted bytes is.0 is.1 is.2, number_length 1 is.0 (length values) is.3, each_length says most within values is.1 is.4),
)

table_length : IsWithin SaysTable 65797
table_length bytes table is =
    let few = few_length SaysColumn 257 column_length is.4.4.1 table.columns is.4.4.4 in
    omega (
      arith,
      parted bytes is.0 is.1 is.2,
      name_length is.0 table.name is.3,
      parted is.1 is.4.0 is.4.1 is.4.2,
      number_length 4 is.4.0 table.number is.4.3,
      parted is.4.1 is.4.4.0 is.4.4.1 is.4.4.2,
      number_length 1 is.4.4.0 table.kind is.4.4.3,
      few.0,
      few.1,
    )

index_length : IsWithin SaysIndex 265
index_length bytes index is =
    omega (
      arith,
      parted bytes is.0 is.1 is.2,
      name_length is.0 index.name is.3,
      parted is.1 is.4.0 is.4.1 is.4.2,
      number_length 4 is.4.0 index.number is.4.3,
      parted is.4.1 is.4.4.0 is.4.4.1 is.4.4.2,
      number_length 4 is.4.4.0 index.table is.4.4.3,
      number_length 1 is.4.4.1 index.column is.4.4.4,
    )

view_length : IsWithin SaysView 65793
view_length bytes view is =
    omega (
      arith,
      parted bytes is.0 is.1 is.2,
      name_length is.0 view.name is.3,
      parted is.1 is.4.0 is.4.1 is.4.2,
      number_length 2 is.4.0 (length view.text) is.4.3,
      is.4.3.0,
      ap length is.4.4.0,
    )

alignment_length : IsWithin SaysAlignment 5357
alignment_length bytes alignment is =
    let few = few_length SaysPiece 20 piece_length is.1 alignment.pieces is.4 in
    omega (arith, parted bytes is.0 is.1 is.2, name_length is.0 alignment.name is.3, few.0, few.1)

-- a list with its length in four bytes
list_length : {A : Type 0} (says : Code A) (most : ℕ) → IsWithin says most → (bytes : List ℕ) (values : List A) → SaysCounted 4 (SaysEach says) bytes values
    → length bytes ≤ 4 + length values * most
list_length says most within bytes values is =
    omega (arith, parted bytes is.0 is.1 is.2, number_length 4 is.0 (length values) is.3, each_length says most within values is.1 is.4)

pub few_definitions : (catalogue : CatalogueItems) → length catalogue.routes ≤ 4096 → length catalogue.tables ≤ 4096 → length catalogue.indexes ≤ 4096
    → length catalogue.views ≤ 4096 → length catalogue.alignments ≤ 4096 → IsShort catalogue
few_definitions catalogue routes tables indexes views alignments = record {
  each = λ bytes is.
      omega (
        arith,
        routes,
        tables,
        indexes,
        views,
        alignments,
        parted bytes is.0 is.1 is.2,
        list_length SaysRoute 276 route_length is.0 catalogue.routes is.3,
        parted is.1 is.4.0 is.4.1 is.4.2,
        list_length SaysTable 65797 table_length is.4.0 catalogue.tables is.4.3,
        parted is.4.1 is.4.4.0 is.4.4.1 is.4.4.2,
        list_length SaysIndex 265 index_length is.4.4.0 catalogue.indexes is.4.4.3,
        parted is.4.4.1 is.4.4.4.0 is.4.4.4.1 is.4.4.4.2,
        list_length SaysView 65793 view_length is.4.4.4.0 catalogue.views is.4.4.4.3,
        list_length SaysAlignment 5357 alignment_length is.4.4.4.1 catalogue.alignments is.4.4.4.4,
      );
}
