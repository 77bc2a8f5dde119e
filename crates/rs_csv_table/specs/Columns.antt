-- The columns of some records, the first of which is the header.
use Rattle.std.specs.Prelude.{ℕ, Bool, max, List, [], ◌∷◌, get_or, length, map}
use Rattle.std.specs.List.{list_all, range_with_len}
use Rattle.rs_csv_table.specs.Fields.{Field, Record, fits_right, width}
use Rattle.rs_csv_table.specs.declared.columns.Column.{Column}

-- the field in a column, or nothing where the record is shorter
abbrev pub field_in : ℕ → Record → Field
field_in place row = get_or row place []

-- the greatest width of a column's fields
abbrev pub width_in : ℕ → List Record → ℕ
width_in place [] = 0
width_in place (row ∷ rows) = max (width (field_in place row)) (width_in place rows)

-- all fields of a column are numbers, but for those that are empty
abbrev pub are_numbers : ℕ → List Record → Bool
are_numbers place rows = list_all (λ row. fits_right (field_in place row)) rows

-- the records after the header
abbrev pub rows_after : List Record → List Record
rows_after [] = []
rows_after (header ∷ rows) = rows

-- a column is as wide as its widest field, the header's too, and stands to the right where its rows have numbers alone
abbrev pub column_in : List Record → ℕ → Column
column_in records place = record { width = width_in place records; is_right = are_numbers place (rows_after records) }

-- how many fields the longest record has
abbrev pub most_fields : List Record → ℕ
most_fields [] = 0
most_fields (row ∷ rows) = max (length row) (most_fields rows)

abbrev pub columns_of : List Record → List Column
columns_of records = map (column_in records) (range_with_len 0 (most_fields records))
