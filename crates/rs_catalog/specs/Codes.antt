-- The codes of what the catalogue keeps, by which its values are told apart.
use Rattle.std.specs.Prelude.{◌≡◌, ℕ, Bool, true, false, List, Option, Some, None, refl}
use Rattle.std.specs.Coded.{Coded, code_by, coded×, coded_ℕ, coded_bool, coded_list, coded_option}
use Rattle.std.specs.FinMap as map
use Rattle.rs_value.specs.declared.column.Kind.{Kind}
use Rattle.rs_value.specs.declared.column.Kind.TheVariants.{Point, Line}
use Rattle.rs_value.specs.declared.column.ColumnType.{ColumnType}
use Rattle.rs_value.specs.declared.column.ColumnType.TheVariants.{Int, Text}
use Rattle.rs_facts.specs.Fact.{Name, Names}
use Rattle.rs_facts.specs.Query.{RouteEnds, Column, Piece}
use Rattle.rs_syntax.specs.contracts.queries.Query as query
use Rattle.rs_syntax.specs.declared.queries.Query.{Query}
use Rattle.rs_catalog.specs.Definitions.{Numbered, RouteItem, TableItem, IndexItem, ViewItem, Definitions}

abbrev pub name_code : Coded Name
name_code = coded_list coded_ℕ

abbrev pub names_code : {X : Type 0} → Coded X → Coded (Names X)
names_code code = map.code name_code code

abbrev pub numbered_code : {X : Type 0} → Coded X → Coded (Numbered X)
numbered_code code = map.code coded_ℕ code

abbrev pub route_ends_code : Coded RouteEnds
route_ends_code = code_by (ℕ × ℕ) (coded× coded_ℕ coded_ℕ) (λ e. (e.start, e.finish)) (λ p. record { start = p.0; finish = p.1 }) (λ _. refl)

abbrev pub route_code : Coded RouteItem
route_code = code_by (ℕ × (ℕ × RouteEnds)) (coded× coded_ℕ (coded× coded_ℕ route_ends_code)) (λ r. (r.number, (r.born, r.ends)))
    (λ p. record { number = p.0; born = p.1.0; ends = p.1.1 }) (λ _. refl)

abbrev pub line_or_not : Kind → Bool
line_or_not Line = true
line_or_not Point = false

abbrev pub kind_by : Bool → Kind
kind_by true = Line
kind_by false = Point

pub kind_by-line_or_not : (kind : Kind) → kind_by (line_or_not kind) ≡ kind
kind_by-line_or_not Line = refl
kind_by-line_or_not Point = refl

abbrev pub kind_code : Coded Kind
kind_code = code_by Bool coded_bool line_or_not kind_by kind_by-line_or_not

abbrev pub most_bytes : ColumnType → Option ℕ
most_bytes Int = None
most_bytes (Text most) = Some most

abbrev pub type_by : Option ℕ → ColumnType
type_by None = Int
type_by (Some most) = Text most

pub type_by-most_bytes : (type : ColumnType) → type_by (most_bytes type) ≡ type
type_by-most_bytes Int = refl
type_by-most_bytes (Text most) = refl

abbrev pub column_code : Coded Column
column_code = coded× name_code (code_by (Option ℕ) (coded_option coded_ℕ) most_bytes type_by type_by-most_bytes)

abbrev pub table_code : Coded TableItem
table_code = code_by (ℕ × (Kind × List Column)) (coded× coded_ℕ (coded× kind_code (coded_list column_code))) (λ t. (t.number, (t.kind, t.columns)))
    (λ p. record { number = p.0; kind = p.1.0; columns = p.1.1 }) (λ _. refl)

abbrev pub index_code : Coded IndexItem
index_code = code_by (ℕ × (Name × (ℕ × ℕ))) (coded× coded_ℕ (coded× name_code (coded× coded_ℕ coded_ℕ))) (λ i. (i.number, (i.table, (i.table_number, i.column))))
    (λ p. record { number = p.0; table = p.1.0; table_number = p.1.1.0; column = p.1.1.1 }) (λ _. refl)

abbrev pub view_code : Coded ViewItem
view_code = code_by (Query × List ℕ) (coded× query.the_row.coded (coded_list coded_ℕ)) (λ v. (v.query, v.text)) (λ p. record { query = p.0; text = p.1 }) (λ _. refl)

abbrev pub piece_code : Coded Piece
piece_code = code_by (Name × (ℕ × (ℕ × (Name × ℕ)))) (coded× name_code (coded× coded_ℕ (coded× coded_ℕ (coded× name_code coded_ℕ))))
    (λ p. (p.from_route, (p.from, (p.to, (p.onto_route, p.onto))))) (λ t. record { from_route = t.0; from = t.1.0; to = t.1.1.0; onto_route = t.1.1.1.0; onto = t.1.1.1.1 }) (λ _. refl)

abbrev pub pieces_code : Coded (List Piece)
pieces_code = coded_list piece_code

abbrev pub definitions_code : Coded Definitions
definitions_code = code_by (Names RouteItem × (Names TableItem × (Names IndexItem × (Names ViewItem × Names (List Piece)))))
    (coded× (names_code route_code) (coded× (names_code table_code) (coded× (names_code index_code) (coded× (names_code view_code) (names_code pieces_code)))))
    (λ d. (d.routes, (d.tables, (d.indexes, (d.views, d.alignments)))))
    (λ p. record { routes = p.0; tables = p.1.0; indexes = p.1.1.0; views = p.1.1.1.0; alignments = p.1.1.1.1 }) (λ _. refl)
