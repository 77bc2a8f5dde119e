-- The INSERT of a record, and the line that is written for it.
use Rattle.std.specs.Prelude.{◌≡◌, ◌⊎◌, ℕ, Bool, false, IsTrue, List, [], ◌∷◌, ◌++◌, Some, codes, decimal}
use Rattle.csv.specs.Records.{field_at}
use Rattle.rs_methods.specs.Position.{PositionExpression, expression_of}
use Rattle.rs_value.specs.Row.{Row}
use Rattle.rs_value.specs.Values.{is_text}
use Rattle.rs_syntax.specs.Tree.{EventLocationTree, along, at_point, CommandTree, insert}
use Rattle.rs_csv_lines.specs.declared.insert.Ends.{Ends}
use Rattle.rs_csv_lines.specs.declared.plan.Column.{Column}
use Rattle.rs_csv_lines.specs.declared.plan.Measures.{Measures}
use Rattle.rs_csv_lines.specs.declared.plan.Place.{Place}
use Rattle.rs_csv_lines.specs.declared.plan.Place.TheVariants as places
use Rattle.rs_csv_lines.specs.declared.plan.Plan.{Plan}
use Rattle.rs_csv_lines.specs.declared.plan.Source.{Source}
use Rattle.rs_csv_lines.specs.declared.plan.Source.TheVariants as sources
use Rattle.rs_csv_lines.specs.Fields.{content, TellsPosition, TellsDatum}
use Rattle.rs_csv_lines.specs.Names.{SaysRoute}
use Rattle.rs_csv_lines.specs.Texts.{session_text, PutsPosition, PutsDatum}

-- the field of a record at a place is text, and says so
abbrev pub Field : List (List ℕ) → ℕ → (List ℕ → Type 0) → Type 0
Field fields i IsSo = (field : List ℕ) × (field_at fields i ≡ Some field) × IsTrue (is_text (content field)) × IsSo field

-- what the record says of its route: a text that is its name, or where names are made whatever bytes it is made of
abbrev pub TellsRoute : (makes_names : Bool) → List (List ℕ) → ℕ → List ℕ → Type 0
TellsRoute makes_names fields i route =
    (field : List ℕ) × (field_at fields i ≡ Some field) × (makes_names ≡ false → IsTrue (is_text (content field))) × SaysRoute makes_names (content field) route

-- what it says of its place
abbrev pub TellsPositionAt : Measures → List (List ℕ) → ℕ → PositionExpression → Type 0
TellsPositionAt reading fields i position = Field fields i (λ field. TellsPosition reading (content field) position)

abbrev pub TellsPlace : Measures → List (List ℕ) → Place → EventLocationTree → Type 0
TellsPlace reading fields (places.Along from to) (along first second) = TellsPositionAt reading fields from first × TellsPositionAt reading fields to second
TellsPlace reading fields (places.At at) (at_point position) = TellsPositionAt reading fields at position
TellsPlace reading fields _ _ = ⊥

-- what gives the value of a column: a field of the record, or as such a field the record's number, in digits
abbrev pub source_fields : ℕ → List (List ℕ) → Source → List (List ℕ)
source_fields number fields (sources.Field i) = fields
source_fields number fields sources.Number = decimal number ∷ []

abbrev pub source_place : Source → ℕ
source_place (sources.Field i) = i
source_place sources.Number = 0

abbrev pub Given : ℕ → List (List ℕ) → Source → (List ℕ → Type 0) → Type 0
Given number fields source IsSo = Field (source_fields number fields source) (source_place source) IsSo

-- the values of the record of this number, in the columns' order
abbrev pub TellsRow : ℕ → List (List ℕ) → List Column → Row → Type 0
TellsRow number fields [] [] = Unit {0}
TellsRow number fields (column ∷ columns) (datum ∷ row) = Given number fields column.source (λ field. TellsDatum column.column_type column.scale field datum) × TellsRow number fields columns row
TellsRow number fields _ _ = ⊥

-- The command is the INSERT of the record of this number: into the table, on its route, at its place, with its values.
pub record IsInsertOf (plan : Plan) (number : ℕ) (fields : List (List ℕ)) (tree : CommandTree) : Type 0 where
  pub route : List ℕ
  pub place : EventLocationTree
  pub row : Row
  pub route_told : TellsRoute plan.makes_names fields plan.route route
  pub place_told : TellsPlace plan.measures fields plan.place place
  pub row_told : TellsRow number fields plan.columns.items row
  pub is : tree ≡ insert plan.table.bytes route place row

-- the event is where it begins and ends: from the one position to the other, or at the one that both are
abbrev pub IsAt : EventLocationTree → Ends → Type 0
IsAt location ends = (location ≡ along (expression_of ends.first) (expression_of ends.last))
    ⊎ ((location ≡ at_point (expression_of ends.first)) × (ends.last ≡ ends.first))

-- ---- the line

abbrev pub PutsPositionAt : Measures → List (List ℕ) → ℕ → PositionExpression → List ℕ → Type 0
PutsPositionAt reading fields i position bytes = Field fields i (λ field. PutsPosition reading (content field) position bytes)

-- from FROM or AT on, up to VALUES
abbrev pub PutsPlace : Measures → List (List ℕ) → Place → EventLocationTree → List ℕ → Type 0
PutsPlace reading fields (places.Along from to) (along first second) bytes =
    (one : List ℕ) × (other : List ℕ) × PutsPositionAt reading fields from first one × PutsPositionAt reading fields to second other
    × (bytes ≡ codes " FROM " ++ one ++ codes " TO " ++ other)
PutsPlace reading fields (places.At at) (at_point position) bytes = (one : List ℕ) × PutsPositionAt reading fields at position one × (bytes ≡ codes " AT " ++ one)
PutsPlace reading fields _ _ _ = ⊥

-- the values, with a comma and a blank before each
abbrev pub PutsFurther : ℕ → List (List ℕ) → List Column → Row → List ℕ → Type 0
PutsFurther number fields [] [] bytes = bytes ≡ []
PutsFurther number fields (column ∷ columns) (datum ∷ row) bytes =
    (one : List ℕ) × (others : List ℕ) × Given number fields column.source (λ field. PutsDatum column.column_type column.scale field datum one)
    × PutsFurther number fields columns row others × (bytes ≡ codes ", " ++ one ++ others)
PutsFurther number fields _ _ _ = ⊥

-- the values, with a comma and a blank between them
abbrev pub PutsRow : ℕ → List (List ℕ) → List Column → Row → List ℕ → Type 0
PutsRow number fields (column ∷ columns) (datum ∷ row) bytes =
    (one : List ℕ) × (others : List ℕ) × Given number fields column.source (λ field. PutsDatum column.column_type column.scale field datum one)
    × PutsFurther number fields columns row others × (bytes ≡ one ++ others)
PutsRow number fields _ _ _ = ⊥

-- the line of an INSERT, of its parts
abbrev pub insert_line : ℕ → List ℕ → List ℕ → List ℕ → List ℕ → List ℕ
insert_line session table route place values =
    session_text session ++ (codes " INSERT INTO " ++ (table ++ (codes " ON " ++ (route ++ (place ++ (codes " VALUES (" ++ (values ++ codes ")")))))))
