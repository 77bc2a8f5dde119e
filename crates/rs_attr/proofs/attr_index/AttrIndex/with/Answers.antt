-- The width of an entry bounds all sums.
use Rattle.std.proofs.Common.{◌≡◌, ◌<◌, ◌≤◌, ◌+◌, ◌*◌, ℕ, Some, List, length, take, get_or, slice_get, sym, ap, subst, arith}
use Rattle.std.proofs.lemmas.Option.{slice_get-get_or}
use Rattle.rs_attr.specs.Entries.{FitsPages}
use Rattle.rs_tree.proofs.Lists.{sum_upto}
use Rattle.rs_value.specs.declared.column.ColumnType.{ColumnType}
use Rattle.rs_value.specs.declared.column.ColumnType.TheVariants as types
use Rattle.rs_value.specs.Encoding.{row_width, width}
use Rattle.rs_attr.proofs.attr_index.AttrIndex.with.Goals as goal

-- the column at its place, and how many bytes there are up to its values and in all
record HasColumn (columns items : List ColumnType) (column : ℕ) : Type 0 where
  there : slice_get items column ≡ Some (get_or columns column types.Int)
  before : row_width (take column columns) ≡ row_width (take column items)
  all : row_width columns ≡ row_width items
  upto : row_width (take column items) + width (get_or columns column types.Int) ≤ row_width items
  fits : 3 * (4 + (width (get_or columns column types.Int) + (row_width items + 28))) ≤ 4080

has_column : (columns items : List ColumnType) (column : ℕ) → columns ≡ items → column < length items → FitsPages items column → HasColumn columns items column
has_column columns items column same inside fits =
    let there : slice_get items column ≡ Some (get_or columns column types.Int) =
    subst (λ (ts : List ColumnType). slice_get items column ≡ Some (get_or ts column types.Int)) (sym same) (slice_get-get_or items column types.Int inside) in
    record {
      there = there;
      before = ap (λ (ts : List ColumnType). row_width (take column ts)) same;
      all = ap row_width same;
      upto = sum_upto width items column (get_or columns column types.Int) there;
      fits = fits.fits (get_or columns column types.Int) there;
    }

pub overflow_add-start : goal.overflow_add-start
overflow_add-start c =
    let has = has_column c.as_slice-columns.result.now c.args.schema.now.items c.args.column c.as_slice-columns.ensures.value c.requires.column c.requires.fits in
    omega (arith, has.before, has.upto, has.fits, c.bytes_of-start.ensures)

pub overflow_add-cell_width : goal.overflow_add-cell_width
overflow_add-cell_width c =
    let has = has_column c.as_slice-columns.result.now c.args.schema.now.items c.args.column c.as_slice-columns.ensures.value c.requires.column c.requires.fits in
    omega (arith, has.all, has.fits, c.bytes_of-cell_width.ensures)

pub overflow_add-width : goal.overflow_add-width
overflow_add-width c =
    let has = has_column c.as_slice-columns.result.now c.args.schema.now.items c.args.column c.as_slice-columns.ensures.value c.requires.column c.requires.fits in
    omega (arith, has.all, has.fits, c.bytes_of-cell_width.ensures, c.column_width-width.ensures.value)

pub at-requires-clause-fits : goal.at-requires-clause-fits
at-requires-clause-fits c =
    let has = has_column c.as_slice-columns.result.now c.args.schema.now.items c.args.column c.as_slice-columns.ensures.value c.requires.column c.requires.fits in
    omega (arith, has.all, has.fits, c.bytes_of-cell_width.ensures, c.column_width-width.ensures.value)

pub returns-clause-column : goal.returns-clause-column
returns-clause-column c =
    let has = has_column c.as_slice-columns.result.now c.args.schema.now.items c.args.column c.as_slice-columns.ensures.value c.requires.column c.requires.fits in
    record {
      type = has.there;
      start = omega (arith, has.before, c.bytes_of-start.ensures);
      cell_width = omega (arith, has.all, c.bytes_of-cell_width.ensures);
    }
