-- No record is longer than the longest, and no field wider than the widest.
use Rattle.std.proofs.Common.{◌≤◌, ℕ, List, [], ◌∷◌, arith, length}
use Rattle.std.proofs.lemmas.List.FromFn.{length-map-range_with_len}
use Rattle.std.specs.List.{AllByRecursion}
use Rattle.rs_csv_table.specs.Columns.{column_in, columns_of, field_in, most_fields, width_in}
use Rattle.rs_csv_table.specs.Fields.{Record, width}

no_more : (records : List Record) (n : ℕ) → most_fields records ≤ n → AllByRecursion (λ row. length row ≤ n) records
no_more [] n below = tt
no_more (row ∷ rows) n below = (omega arith, no_more rows n (omega arith))

pub no_longer : (records : List Record) → AllByRecursion (λ row. length row ≤ length (columns_of records)) records
no_longer records =
    let count = length-map-range_with_len (column_in records) 0 (most_fields records) in
    no_more records (length (columns_of records)) (omega (arith, count))

no_broader : (place : ℕ) (records : List Record) (n : ℕ) → width_in place records ≤ n → AllByRecursion (λ row. width (field_in place row) ≤ n) records
no_broader place [] n below = tt
no_broader place (row ∷ rows) n below = (omega arith, no_broader place rows n (omega arith))

pub no_wider : (records : List Record) (place : ℕ) → AllByRecursion (λ row. width (field_in place row) ≤ width_in place records) records
no_wider records place = no_broader place records (width_in place records) (omega arith)
