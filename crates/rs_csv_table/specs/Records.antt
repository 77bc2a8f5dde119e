-- Records as they are held.
use Rattle.std.specs.Prelude.{ℕ, List, Vec, map}
use Rattle.std.specs.declared.alloc.Global.{Global}
use Rattle.rs_csv_table.specs.Fields.{Record}

abbrev pub fields_of : List (Vec ℕ Global) → Record
fields_of row = map (λ field. field.items) row

abbrev pub records_of : List (Vec (Vec ℕ Global) Global) → List Record
records_of rows = map (λ row. fields_of row.items) rows
