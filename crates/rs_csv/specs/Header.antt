-- Which fields of a record a plan takes: those that have the names that are wanted in the header.
use Rattle.std.specs.Prelude.{◌≡◌, ◌⊎◌, ℕ, ◌<◌, ◌==◌, Bool, true, false, List, [], ◌∷◌, length, map, Some, codes, option_map}
use Rattle.std.specs.List.{position_or_len, before_first, after_first}
use Rattle.std.specs.Char.{to_ascii_lowercase}
use Rattle.csv.specs.Records.{field_at}
use Rattle.rs_value.specs.declared.column.ColumnType.{ColumnType}
use Rattle.rs_value.specs.declared.column.Kind.{Kind}
use Rattle.rs_value.specs.declared.column.Kind.TheVariants as kinds
use Rattle.rs_syntax.specs.declared.commands.ColumnDefinition.{ColumnDefinition}
use Rattle.rs_csv_lines.specs.declared.plan.Column.{Column}
use Rattle.rs_csv_lines.specs.declared.plan.Place.{Place}
use Rattle.rs_csv_lines.specs.declared.plan.Source.{Source}
use Rattle.rs_csv_lines.specs.declared.plan.Source.TheVariants as sources
use Rattle.rs_csv_lines.specs.declared.plan.Scale.{Scale}
use Rattle.rs_csv_lines.specs.declared.plan.Place.TheVariants as places
use Rattle.rs_csv_lines.specs.Fields.{content}
use Rattle.rs_csv_lines.specs.Names.{IsMadeName}
use Rattle.rs_csv_lines.specs.Numbers.{scale_text}
use Rattle.rs_csv.specs.declared.filter.Wanted.{Wanted}
use Rattle.rs_csv.specs.declared.names.Case.{Case}
use Rattle.rs_csv.specs.declared.names.Case.TheVariants as cases
use Rattle.rs_csv.specs.declared.names.Found.{Found}
use Rattle.rs_csv.specs.declared.names.Found.TheVariants as found
use Rattle.rs_csv.specs.declared.tell.Lack.{Lack}
use Rattle.rs_csv.specs.declared.tell.Lack.TheVariants as lacks

-- two texts are the same, with the case of their letters, or but for the case of letters of ASCII
abbrev pub small : List ℕ → List ℕ
small bytes = map to_ascii_lowercase bytes

abbrev pub AreSame : Case → List ℕ → List ℕ → Type 0
AreSame cases.Kept text other = text ≡ other
AreSame cases.Ignored text other = small text ≡ small other

-- the names that are made of them are the same
abbrev pub AreMadeSame : Case → List ℕ → List ℕ → Type 0
AreMadeSame case text other = (name : List ℕ) × (other_name : List ℕ) × IsMadeName text name × IsMadeName other other_name × AreSame case name other_name

-- they are one name: they are the same, or where names are made those that are made of them are
abbrev pub AreOne : (makes_names : Bool) → Case → List ℕ → List ℕ → Type 0
AreOne false case text other = AreSame case text other
AreOne true case text other = AreSame case text other ⊎ AreMadeSame case text other

-- the field of the header at a place is this name, in quotes or not
abbrev pub Has : (makes_names : Bool) → Case → List (List ℕ) → List ℕ → ℕ → Type 0
Has makes_names case header name place = (field : List ℕ) × (field_at header place ≡ Some field) × AreOne makes_names case (content field) name

-- The place has it, and no other does.
pub record IsOnly (Has : ℕ → Type 0) (place : ℕ) : Type 0 where
  pub has : Has place
  pub alone : (other : ℕ) → Has other → other ≡ place

-- Two places have it.
pub record IsTwice (Has : ℕ → Type 0) : Type 0 where
  pub first : ℕ
  pub second : ℕ
  pub in_order : first < second
  pub first_has : Has first
  pub second_has : Has second

-- no place has it
abbrev pub HasNone : (ℕ → Type 0) → Type 0
HasNone Has = (place : ℕ) → ¬ Has place

-- It is the only field that has this name; or where none has it, the only one that has it but for the case of letters.
abbrev pub IsNamed : (makes_names : Bool) → List (List ℕ) → List ℕ → ℕ → Type 0
IsNamed makes_names header name place = IsOnly (Has makes_names cases.Kept header name) place
    ⊎ (HasNone (Has makes_names cases.Kept header name) × IsOnly (Has makes_names cases.Ignored header name) place)

-- ---- a look for one

-- what is found: no place that has it, the only one, or two
abbrev pub IsFound : (ℕ → Type 0) → Found → Type 0
IsFound Has found.Nowhere = HasNone Has
IsFound Has (found.At place) = IsOnly Has place
IsFound Has found.Twice = IsTwice Has

-- why none is taken: no field has the name, in letters of whichever case; two have it; or none has it, and two but for the case of letters
abbrev pub IsLack : (makes_names : Bool) → List (List ℕ) → List ℕ → Lack → Type 0
IsLack makes_names header name lacks.Nowhere = HasNone (Has makes_names cases.Ignored header name)
IsLack makes_names header name lacks.Twice = IsTwice (Has makes_names cases.Kept header name)
IsLack makes_names header name lacks.TwiceButForCase = HasNone (Has makes_names cases.Kept header name) × IsTwice (Has makes_names cases.Ignored header name)

abbrev pub IsUnnamed : (makes_names : Bool) → List (List ℕ) → List ℕ → Type 0
IsUnnamed makes_names header name = (lack : Lack) × IsLack makes_names header name lack

-- ---- the names

abbrev pub is_equals : ℕ → Bool
is_equals byte = byte == 61

-- the words are `column=text`, cut at their first `=`
abbrev pub Renames : List ℕ → List ℕ → List ℕ → Type 0
Renames words column name = (position_or_len is_equals words < length words) × (before_first is_equals words ≡ column) × (after_first is_equals words ≡ name)

-- what words tell of a column: the first `column=text` of them gives it, or it is what is told of any other
abbrev pub IsTold : List (List ℕ) → List ℕ → List ℕ → List ℕ → Type 0
IsTold [] column fallback text = text ≡ fallback
IsTold (words ∷ more) column fallback text = Renames words column text ⊎ (((other : List ℕ) → ¬ Renames words column other) × IsTold more column fallback text)

-- the name that is wanted for a column is told so, or its own
abbrev pub IsCalled : List (List ℕ) → List ℕ → List ℕ → Type 0
IsCalled words column name = IsTold words column column name

-- the scale of a column is told so, or 1
abbrev pub IsScaled : List (List ℕ) → List ℕ → Scale → Type 0
IsScaled words column scale = IsTold words column (codes "1") (scale_text scale)

-- ---- the fields of a plan

-- the fields that say where an event of this kind is
abbrev pub IsPlaceNamed : Wanted → List (List ℕ) → Kind → Place → Type 0
IsPlaceNamed wanted header kinds.Line (places.Along from to) = IsNamed wanted.makes_names header wanted.from.now from × IsNamed wanted.makes_names header wanted.to.now to
IsPlaceNamed wanted header kinds.Point (places.At at) = IsNamed wanted.makes_names header wanted.at.now at
IsPlaceNamed wanted header _ _ = ⊥

-- the number of the record is wanted for this column
abbrev pub IsNumbered : Wanted → List ℕ → Type 0
IsNumbered wanted column = option_map (λ name. name.now) wanted.number ≡ Some column

-- what gives the value of this column: the number of the record where that is wanted, and else the field that has the name that is wanted
abbrev pub IsSourceOf : Wanted → List (List ℕ) → List ℕ → Source → Type 0
IsSourceOf wanted header column (sources.Field place) = (¬ IsNumbered wanted column)
    × ((name : List ℕ) × IsCalled (map (λ words. words.now) wanted.columns.now) column name × IsNamed wanted.makes_names header name place)
IsSourceOf wanted header column sources.Number = IsNumbered wanted column

-- the column of a plan is of the type of this column of the table, takes what is wanted for it, and has its scale
abbrev pub IsColumnOf : Wanted → List (List ℕ) → List ℕ × ColumnType → Column → Type 0
IsColumnOf wanted header definition column =
    (column.column_type ≡ definition.1) × IsSourceOf wanted header definition.0 column.source × IsScaled (map (λ words. words.now) wanted.scales.now) definition.0 column.scale

-- the same of each, in their order
abbrev pub AreColumnsOf : Wanted → List (List ℕ) → List (List ℕ × ColumnType) → List Column → Type 0
AreColumnsOf wanted header [] [] = Unit {0}
AreColumnsOf wanted header (definition ∷ definitions) (column ∷ columns) = IsColumnOf wanted header definition column × AreColumnsOf wanted header definitions columns
AreColumnsOf wanted header _ _ = ⊥

-- the scale of each column, in their order
abbrev pub AreScales : Wanted → List ColumnDefinition → List Scale → Type 0
AreScales wanted [] [] = Unit {0}
AreScales wanted (column ∷ columns) (scale ∷ scales) = IsScaled (map (λ words. words.now) wanted.scales.now) column.name.bytes scale × AreScales wanted columns scales
AreScales wanted _ _ = ⊥
