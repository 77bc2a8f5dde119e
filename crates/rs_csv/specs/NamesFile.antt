-- The file of names that were made.
use Rattle.std.specs.Prelude.{◌≡◌, ◌⊎◌, ℕ, List, [], ◌∷◌, ◌++◌, Option, Some, None, Vec, codes, flat_map}
use Rattle.std.specs.FinMap as names
use Rattle.std.specs.declared.alloc.Global.{Global}
use Rattle.csv.specs.declared.record.ByteRecord.{ByteRecord}
use Rattle.csv.specs.Records.{fields_of}
use Rattle.rs_facts.specs.Fact.{Name, Names}
use Rattle.rs_csv_lines.specs.Fields.{content}
use Rattle.rs_csv_lines.specs.Names.{IsMadeName}
use Rattle.rs_csv.specs.declared.names_file.MadeNames.{MadeNames}
use Rattle.rs_csv.specs.Rejects.{quoted}

-- the header of the file
abbrev pub file_header : List ℕ
file_header = codes "old,new,what\n"

-- the row of a name: a text in quotes, the name that is made of it, and what it is of
abbrev pub name_row : (text name what : List ℕ) → List ℕ
name_row text name what = quoted text ++ codes "," ++ name ++ codes "," ++ what ++ codes "\n"

-- the row of a column of the header: none where no name is made of it
abbrev pub IsColumnRow : List ℕ → List ℕ → Type 0
IsColumnRow field row = ((name : List ℕ) × IsMadeName (content field) name × (row ≡ name_row (content field) name (codes "column")))
    ⊎ (((name : List ℕ) → ¬ IsMadeName (content field) name) × (row ≡ []))

-- those of columns, in their order
abbrev pub AreColumnRows : List (List ℕ) → List ℕ → Type 0
AreColumnRows [] rows = rows ≡ []
AreColumnRows (field ∷ fields) rows = (row : List ℕ) × (others : List ℕ) × IsColumnRow field row × AreColumnRows fields others × (rows ≡ row ++ others)

-- the columns of a header, where there is one
abbrev pub columns_of : Option ByteRecord → List (List ℕ)
columns_of (Some header) = fields_of header
columns_of None = []

-- the row of a route, by its name and its text
abbrev pub route_row : Name × Vec ℕ Global → List ℕ
route_row route = name_row route.1.items route.0 (codes "route")

-- those of routes, by name
abbrev pub route_rows : Names (Vec ℕ Global) → List ℕ
route_rows texts = flat_map route_row (names.entries texts)

-- What the file has: its header, the rows of the columns, and those of the routes.
pub record IsNamesFile (made : MadeNames) (bytes : List ℕ) : Type 0 where
  pub columns : List ℕ
  pub of_columns : AreColumnRows (columns_of made.header) columns
  pub whole : bytes ≡ file_header ++ columns ++ route_rows made.texts
