-- Records of CSV as a table for the eye.
use Rattle.std.specs.Prelude.{◌≡◌, ◌≢◌, ◌≤◌, ℕ, ◌-◌, Bool, true, false, List, [], ◌∷◌, ◌++◌, flat_map, length, replicate, if◌then◌else◌}
use Rattle.std.specs.List.{AllByRecursion}
use Rattle.csv.specs.Reading.{AreRecords, default_config, strip_bom}
use Rattle.csv.specs.declared.parser.Config.{Config}
use Rattle.csv.specs.declared.parser.State.TheVariants as states
use Rattle.rs_csv_table.specs.Columns.{columns_of}
use Rattle.rs_csv_table.specs.Fields.{Field, Record, shown, width}
use Rattle.rs_csv_table.specs.declared.columns.Column.{Column}
use Rattle.rs_csv_table.specs.declared.table.TheConstants.{ROWS}

abbrev pub spaces : ℕ → List ℕ
spaces count = replicate count 32

-- A field as wide as its column, at the right of it or at the left. Nothing follows the last one of a line.
abbrev pub cell : Column → Bool → Field → List ℕ
cell column is_last field = if column.is_right then spaces (column.width - width field) ++ shown field
    else (if is_last then shown field else shown field ++ spaces (column.width - width field))

-- two spaces between the cells of a line
abbrev pub gap : Bool → List ℕ
gap true = []
gap false = spaces 2

abbrev pub is_none : {X : Type 0} → List X → Bool
is_none [] = true
is_none (x ∷ xs) = false

abbrev pub cells_of : Record → List Column → List ℕ
cells_of [] columns = []
cells_of (field ∷ fields) [] = []
cells_of (field ∷ fields) (column ∷ columns) = (cell column (is_none fields) field ++ gap (is_none fields)) ++ cells_of fields columns

-- a record's line
abbrev pub line_of : List Column → Record → List ℕ
line_of columns row = cells_of row columns ++ 10 ∷ []

-- a portion: a line for each of the records, the header first
abbrev pub portion_text : List Record → List ℕ
portion_text records = flat_map (line_of (columns_of records)) records

-- The rows are cut into portions of so many, the last of which may have fewer, and has some where there are others.
pub record IsCutIntoPortions (rows : List Record) (full : List (List Record)) (last : List Record) : Type 0 where
  pub whole : rows ≡ flat_map (λ portion. portion) full ++ last
  pub each : AllByRecursion (λ portion. length portion ≡ ROWS) full
  pub within : length last ≤ ROWS
  pub some : full ≢ [] → last ≢ []

-- each portion but the last with an empty line after it
abbrev pub full_text : Record → List (List Record) → List ℕ
full_text header full = flat_map (λ portion. portion_text (header ∷ portion) ++ 10 ∷ []) full

-- The table of some records: the header, which is the first of them, before each portion of the others.
abbrev pub IsTableOf : List Record → List ℕ → Type 0
IsTableOf [] text = text ≡ []
IsTableOf (header ∷ rows) text =
    (full : List (List Record)) × (last : List Record) × IsCutIntoPortions rows full last × (text ≡ full_text header full ++ portion_text (header ∷ last))

-- how a reader reads with this byte between two fields
abbrev pub config_of : ℕ → Config
config_of separator = record default_config { delimiter = separator }

-- these are the records of a text
abbrev pub ReadsAll : ℕ → List ℕ → List Record → Type 0
ReadsAll separator text records = AreRecords (config_of separator) states.StartRecord (strip_bom text) records
