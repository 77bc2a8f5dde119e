-- What was put into a line, part by part.
use Rattle.std.proofs.Common.{◌≡◌, ◌∙◌, ℕ, Bool, true, false, List, [], ◌∷◌, ◌++◌, refl, sym, ap, subst, append_assoc, append-nil, length, arith}
use Rattle.std.specs.Prelude.{IsTrue, codes, decimal}
use Rattle.std.proofs.lemmas.Bool.{false≢true}
use Rattle.csv.specs.Records.{field_at}
use Rattle.rs_methods.specs.Position.{PositionExpression}
use Rattle.rs_value.specs.declared.column.ColumnType.{ColumnType}
use Rattle.rs_value.specs.declared.column.ColumnType.TheVariants as types
use Rattle.rs_value.specs.Row.{Datum, Row, null, text}
use Rattle.rs_value.specs.Text.{datum_text}
use Rattle.rs_value.specs.Values.{is_text}
use Rattle.rs_syntax.specs.Tree.{along, at_point}
use Rattle.rs_csv_lines.specs.declared.plan.Measures.{Measures}
use Rattle.rs_csv_lines.specs.declared.plan.Column.{Column}
use Rattle.rs_csv_lines.specs.declared.plan.Scale.{Scale}
use Rattle.rs_csv_lines.specs.declared.plan.Source.{Source}
use Rattle.rs_csv_lines.specs.declared.plan.Source.TheVariants as sources
use Rattle.rs_csv_lines.specs.declared.plan.Place.{Place}
use Rattle.rs_csv_lines.specs.declared.plan.Place.TheVariants as places
use Rattle.rs_csv_lines.specs.Fields.{content, HasText}
use Rattle.rs_csv_lines.specs.Texts.{session_text, PutsNumber, PutsDatum}
use Rattle.rs_csv_lines.specs.Inserts.{Field, Given, PutsPositionAt, PutsPlace, PutsFurther, PutsRow, insert_line}

-- a field that has something
filled : (said : List ℕ) (is_empty : Bool) (field : List ℕ) (Puts : List ℕ → Type 0) → HasText said is_empty field → is_empty ≡ false → ((byte : ℕ) (rest : List ℕ) → said ≡ content (byte ∷ rest) → Puts (byte ∷ rest)) → Puts field
filled said is_empty [] Puts has other each = absurd (false≢true (sym other ∙ has.1.1 refl))
filled said is_empty (byte ∷ rest) Puts has other each = each byte rest has.0

pub puts_null : (type : ColumnType) (scale : Scale) (bytes : List ℕ) (is_empty : Bool) → is_empty ≡ true → (field : List ℕ) → HasText bytes is_empty field → PutsDatum type scale field null (codes "NULL")
puts_null type scale bytes is_empty is field has = subst (λ f. PutsDatum type scale f null (codes "NULL")) (sym (has.1.0 is)) (refl, refl)

pub puts_number : (type : ColumnType) (scale : Scale) (bytes : List ℕ) (is_empty : Bool) (datum : Datum) (put : List ℕ) → is_empty ≡ false → type ≡ types.Int → PutsNumber scale bytes datum put
    → (field : List ℕ) → HasText bytes is_empty field → PutsDatum type scale field datum put
puts_number type scale bytes is_empty datum put other is puts field has =
    subst (λ t. PutsDatum t scale field datum put) (sym is)
    (filled bytes is_empty field (λ f. PutsDatum types.Int scale f datum put) has other (λ byte rest same. subst (λ bs. PutsNumber scale bs datum put) same puts))

pub puts_text : (most : ℕ) (type : ColumnType) (scale : Scale) (bytes : List ℕ) (is_empty : Bool) → is_empty ≡ false → type ≡ types.Text most
    → (field : List ℕ) → HasText bytes is_empty field → PutsDatum type scale field (text bytes) (datum_text (text bytes))
puts_text most type scale bytes is_empty other is field has =
    subst (λ t. PutsDatum t scale field (text bytes) (datum_text (text bytes))) (sym is)
    (filled bytes is_empty field (λ f. PutsDatum (types.Text most) scale f (text bytes) (datum_text (text bytes))) has other (λ byte rest same. (ap text same, ap (λ bs. datum_text (text bs)) same)))

-- what a field of the record, or its number, says
pub given_field : (number_of : ℕ) (fields : List (List ℕ)) (source : Source) (i : ℕ) (IsSo : List ℕ → Type 0) → source ≡ sources.Field i → Field fields i IsSo → Given number_of fields source IsSo
given_field number_of fields source i IsSo is said = subst (λ s. Given number_of fields s IsSo) (sym is) said

pub given_number : (number_of : ℕ) (fields : List (List ℕ)) (source : Source) (IsSo : List ℕ → Type 0) → source ≡ sources.Number → IsTrue (is_text (content (decimal number_of))) → IsSo (decimal number_of) → Given number_of fields source IsSo
unfolding field_at
given_number number_of fields source IsSo is clean so = subst (λ s. Given number_of fields s IsSo) (sym is) (decimal number_of, refl, clean, so)

pub two_more : (old first last a b : List ℕ) → first ≡ old ++ a → last ≡ first ++ b → last ≡ old ++ (a ++ b)
two_more old first last a b p q = q ∙ ap (λ bs. bs ++ b) p ∙ append_assoc old a b

pub four_more : (old l1 l2 l3 l4 a b c d : List ℕ) → l1 ≡ old ++ a → l2 ≡ l1 ++ b → l3 ≡ l2 ++ c → l4 ≡ l3 ++ d → l4 ≡ old ++ (a ++ b ++ c ++ d)
four_more old l1 l2 l3 l4 a b c d p q r s = two_more old l3 l4 (a ++ b ++ c) d (two_more old l2 l3 (a ++ b) c (two_more old l1 l2 a b p q) r) s

pub puts_along : (reading : Measures) (fields : List (List ℕ)) (place : Place) (from to : ℕ) (first second : PositionExpression) (one other : List ℕ) → place ≡ places.Along from to → PutsPositionAt reading fields from first one → PutsPositionAt reading fields to second other
    → PutsPlace reading fields place (along first second) (codes " FROM " ++ one ++ codes " TO " ++ other)
puts_along reading fields place from to first second one other is p q = subst (λ pl. PutsPlace reading fields pl (along first second) (codes " FROM " ++ one ++ codes " TO " ++ other)) (sym is) (one, other, p, q, refl)

pub puts_at : (reading : Measures) (fields : List (List ℕ)) (place : Place) (at : ℕ) (position : PositionExpression) (one : List ℕ) → place ≡ places.At at → PutsPositionAt reading fields at position one → PutsPlace reading fields place (at_point position) (codes " AT " ++ one)
puts_at reading fields place at position one is p = subst (λ pl. PutsPlace reading fields pl (at_point position) (codes " AT " ++ one)) (sym is) (one, p, refl)

-- ---- a row

pub no_column : (columns : List Column) → length columns ≡ 0 → columns ≡ []
no_column [] none = refl
no_column (column ∷ columns) none = absurd (omega arith)

pub none_further : (number_of : ℕ) (fields : List (List ℕ)) (columns : List Column) (before : List ℕ) → columns ≡ [] → (row : Row) × (bytes : List ℕ) × PutsFurther number_of fields columns row bytes × (before ≡ before ++ bytes)
none_further number_of fields columns before is = ([], [], subst (λ cs. PutsFurther number_of fields cs [] []) (sym is) refl, sym (append-nil before))

-- a value after a comma, and those after it
abbrev pub Further : ℕ → List (List ℕ) → List Column → List ℕ → List ℕ → Type 0
Further number_of fields columns before after = (row : Row) × (bytes : List ℕ) × PutsFurther number_of fields columns row bytes × (after ≡ before ++ bytes)

abbrev pub One : ℕ → List (List ℕ) → Column → List ℕ → List ℕ → Type 0
One number_of fields column before after = (datum : Datum) × (bytes : List ℕ) × Given number_of fields column.source (λ field. PutsDatum column.column_type column.scale field datum bytes) × (after ≡ before ++ bytes)

pub more_further : (number_of : ℕ) (fields : List (List ℕ)) (columns : List Column) (column : Column) (others : List Column) (before first second last : List ℕ) → columns ≡ column ∷ others → first ≡ before ++ codes ", " → One number_of fields column first second
    → Further number_of fields others second last → Further number_of fields columns before last
more_further number_of fields columns column others before first second last is comma one more = (
  one.0 ∷ more.0,
  codes ", " ++ one.1 ++ more.1,
  subst (λ cs. PutsFurther number_of fields cs (one.0 ∷ more.0) (codes ", " ++ one.1 ++ more.1)) (sym is) (one.1, more.1, one.2, more.2, refl),
  two_more before second last (codes ", " ++ one.1) more.1 (two_more before first second (codes ", ") one.1 comma one.3) more.3,
)

pub row_put : (number_of : ℕ) (fields : List (List ℕ)) (columns : List Column) (column : Column) (others : List Column) (before second last : List ℕ) → columns ≡ column ∷ others → One number_of fields column before second
    → Further number_of fields others second last → (row : Row) × (bytes : List ℕ) × PutsRow number_of fields columns row bytes × (last ≡ before ++ bytes)
row_put number_of fields columns column others before second last is one more = (
  one.0 ∷ more.0,
  one.1 ++ more.1,
  subst (λ cs. PutsRow number_of fields cs (one.0 ∷ more.0) (one.1 ++ more.1)) (sym is) (one.1, more.1, one.2, more.2, refl),
  two_more before second last one.1 more.1 one.3 more.3,
)

-- ---- the whole line

pub whole_line : (session : ℕ) (table route place values : List ℕ) (l0 l1 l2 l3 l4 l5 l6 l7 l8 l9 : List ℕ) → l0 ≡ [] → l1 ≡ l0 ++ session_text session → l2 ≡ l1 ++ codes " INSERT INTO " → l3 ≡ l2 ++ table → l4 ≡ l3 ++ codes " ON "
    → l5 ≡ l4 ++ route → l6 ≡ l5 ++ place → l7 ≡ l6 ++ codes " VALUES (" → l8 ≡ l7 ++ values → l9 ≡ l8 ++ codes ")" → l9 ≡ insert_line session table route place values
whole_line session table route place values l0 l1 l2 l3 l4 l5 l6 l7 l8 l9 e0 e1 e2 e3 e4 e5 e6 e7 e8 e9 =
    let f1 : l1 ≡ session_text session = e1 ∙ ap (λ l. l ++ session_text session) e0 in
    let f4 = four_more (session_text session) l2 l3 l4 l5 (codes " INSERT INTO ") table (codes " ON ") route (e2 ∙ ap (λ l. l ++ codes " INSERT INTO ") f1) e3 e4 e5 in
    let f8 = four_more l5 l6 l7 l8 l9 place (codes " VALUES (") values (codes ")") e6 e7 e8 e9 in
    let front : List ℕ = codes " INSERT INTO " ++ table ++ codes " ON " ++ route in
    let back : List ℕ = place ++ codes " VALUES (" ++ values ++ codes ")" in
    let back_is : back ≡ place ++ (codes " VALUES (" ++ (values ++ codes ")")) = simp append_assoc in
    f8 ∙ ap (λ l. l ++ back) f4 ∙ append_assoc (session_text session) front back
    ∙ ap (λ l. session_text session ++ l)
    (append_assoc (codes " INSERT INTO " ++ table ++ codes " ON ") route back
    ∙ append_assoc (codes " INSERT INTO " ++ table) (codes " ON ") (route ++ back)
    ∙ append_assoc (codes " INSERT INTO ") table (codes " ON " ++ (route ++ back))
    ∙ ap (λ l. codes " INSERT INTO " ++ (table ++ (codes " ON " ++ (route ++ l)))) back_is)
