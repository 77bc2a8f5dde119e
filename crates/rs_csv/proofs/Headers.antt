-- The fields of a header that have a name, and the columns of a plan.
use Rattle.std.proofs.Common.{◌≡◌, ◌∙◌, ◌⊎◌, inl, inr, ℕ, zero, suc, ◌+◌, ◌<◌, ◌≤◌, Bool, List, [], ◌∷◌, ◌++◌, length, map, Option, Some, None, refl, sym, ap, subst, arith}
use Rattle.std.specs.Prelude.{is_some}
use Rattle.std.proofs.lemmas.Bool.{false≢true}
use Rattle.std.proofs.Common.{false, true, Bor, drop, get_or, take}
use Rattle.std.proofs.lemmas.List.{drop-map, drop_all, drop_more, length-map, map-append, take_more}
use Rattle.std.specs.List.{position_or_len, before_first}
use Rattle.csv.specs.Records.{field_at}
use Rattle.rs_value.specs.declared.column.ColumnType.{ColumnType}
use Rattle.rs_syntax.specs.declared.commands.ColumnDefinition.{ColumnDefinition}
use Rattle.rs_syntax.specs.View.{column_tree}
use Rattle.rs_csv_lines.specs.declared.plan.Column.{Column}
use Rattle.rs_csv_lines.specs.declared.plan.Scale.{Scale}
use Rattle.rs_csv.specs.declared.filter.Wanted.{Wanted}
use Rattle.rs_csv.specs.declared.names.Case.{Case}
use Rattle.rs_csv.specs.Header.{Has, HasNone, IsOnly, IsTwice, IsColumnOf, AreColumnsOf, AreScales, IsScaled, IsTold, Renames, is_equals}

-- what was found among the places before one
abbrev pub HasBelow : (ℕ → Type 0) → ℕ → Option ℕ → Type 0
HasBelow Has end None = (place : ℕ) → place < end → ¬ Has place
HasBelow Has end (Some found) = Has found × ((place : ℕ) → place < end → Has place → place ≡ found) × (found < end)

last_or_below : (place end : ℕ) → place < end + 1 → (place < end) ⊎ (place ≡ end)
last_or_below place zero less = inr (omega arith)
last_or_below zero (suc end) less = inl (omega arith)
last_or_below (suc place) (suc end) less = elim (last_or_below place end (omega arith)) [ inl below ↦ inl (omega arith) | inr last ↦ inr (ap suc last) ]

module _ (Has : ℕ → Type 0) where
  pub below_start : HasBelow Has 0 None
  below_start place less has = let wrong : ⊥ = omega arith in wrong

  pub below_first : (end : ℕ) → HasBelow Has end None → Has end → HasBelow Has (end + 1) (Some end)
  below_first end none has = (has, λ place less at. elim (last_or_below place end less) [ inl below ↦ absurd (none place below at) | inr last ↦ last ], omega arith)

  pub below_other : (end : ℕ) (found : Option ℕ) → HasBelow Has end found → ¬ Has end → HasBelow Has (end + 1) found
  below_other end None none other = λ place less at. elim (last_or_below place end less) [ inl below ↦ none place below at | inr last ↦ other (subst Has last at) ]
  below_other end (Some found) named other =
      let inside = named.2 in
      (named.0, λ place less at. elim (last_or_below place end less) [ inl below ↦ named.1 place below at | inr last ↦ absurd (other (subst Has last at)) ], omega arith)

  pub below_twice : (end : ℕ) (found : Option ℕ) → is_some found ≡ true → HasBelow Has end found → Has end → IsTwice Has
  below_twice end None is named has = absurd (false≢true is)
  below_twice end (Some found) is named has = record { first = found; second = end; in_order = named.2; first_has = named.0; second_has = has }

  pub below_none : (end : ℕ) (found : Option ℕ) → is_some found ≡ false → HasBelow Has end found → HasBelow Has end None
  below_none end None is named = named
  below_none end (Some found) is named = absurd (false≢true (sym is))

  -- where all places that have it are before this one
  pub only_in_all : (end found : ℕ) → ((place : ℕ) → Has place → place < end) → HasBelow Has end (Some found) → IsOnly Has found
  only_in_all end found inside named = record { has = named.0; alone = λ other has. named.1 other (inside other has) has }

  pub none_in_all : (end : ℕ) → ((place : ℕ) → Has place → place < end) → HasBelow Has end None → HasNone Has
  none_in_all end inside none place has = none place (inside place has) has

within : (fields : List (List ℕ)) (place : ℕ) (field : List ℕ) → field_at fields place ≡ Some field → place < length fields
unfolding field_at
within [] place field is = cc
within (one ∷ fields) zero field is = omega arith
within (one ∷ fields) (suc place) field is = let less : place < length fields = within fields place field is in omega arith

-- a field that has a name is one of the header
pub has_inside : (makes_names : Bool) (case : Case) (header : List (List ℕ)) (name : List ℕ) (end : ℕ) → length header ≤ end → (place : ℕ) → Has makes_names case header name place → place < end
has_inside makes_names case header name end all place has = let less : place < length header = within header place has.0 has.1 in omega arith

-- ---- columns

pub columns_more : (wanted : Wanted) (header : List (List ℕ)) (definitions : List (List ℕ × ColumnType)) (columns : List Column) (definition : List ℕ × ColumnType) (column : Column)
    → AreColumnsOf wanted header definitions columns → IsColumnOf wanted header definition column → AreColumnsOf wanted header (definitions ++ definition ∷ []) (columns ++ column ∷ [])
columns_more wanted header [] [] definition column are is = (is, tt)
columns_more wanted header [] (one ∷ columns) definition column are is = absurd are
columns_more wanted header (one ∷ definitions) [] definition column are is = absurd are
columns_more wanted header (one ∷ definitions) (other ∷ columns) definition column are is = (are.0, columns_more wanted header definitions columns definition column are.1 is)

pub columns_length : (wanted : Wanted) (header : List (List ℕ)) (definitions : List (List ℕ × ColumnType)) (columns : List Column) → AreColumnsOf wanted header definitions columns → length columns ≡ length definitions
columns_length wanted header [] [] are = refl
columns_length wanted header [] (one ∷ columns) are = absurd are
columns_length wanted header (one ∷ definitions) [] are = absurd are
columns_length wanted header (one ∷ definitions) (other ∷ columns) are = ap suc (columns_length wanted header definitions columns are.1)

pub columns_step : (wanted : Wanted) (header : List (List ℕ)) (items : List ColumnDefinition) (i : ℕ) (item : ColumnDefinition) (columns now : List Column) (column : Column) → i < length items → item ≡ get_or items i item
    → AreColumnsOf wanted header (map column_tree (take i items)) columns → IsColumnOf wanted header (column_tree item) column → now ≡ columns ++ column ∷ []
    → AreColumnsOf wanted header (map column_tree (take (i + 1) items)) now
columns_step wanted header items i item columns now column less is are one grown =
    let more : take (i + 1) items ≡ take i items ++ item ∷ [] = take_more items i item less ∙ ap (λ it. take i items ++ it ∷ []) (sym is) in
    let all : map column_tree (take (i + 1) items) ≡ map column_tree (take i items) ++ column_tree item ∷ [] = ap (map column_tree) more ∙ map-append column_tree (take i items) (item ∷ []) in
    subst (λ definitions. AreColumnsOf wanted header definitions now) (sym all)
    (subst (AreColumnsOf wanted header (map column_tree (take i items) ++ column_tree item ∷ [])) (sym grown) (columns_more wanted header (map column_tree (take i items)) columns (column_tree item) column are one))

-- ---- scales

scales_more : (wanted : Wanted) (columns : List ColumnDefinition) (scales : List Scale) (column : ColumnDefinition) (scale : Scale)
    → AreScales wanted columns scales → IsScaled (map (λ words. words.now) wanted.scales.now) column.name.bytes scale → AreScales wanted (columns ++ column ∷ []) (scales ++ scale ∷ [])
scales_more wanted [] [] column scale are is = (is, tt)
scales_more wanted [] (one ∷ scales) column scale are is = absurd are
scales_more wanted (one ∷ columns) [] column scale are is = absurd are
scales_more wanted (one ∷ columns) (other ∷ scales) column scale are is = (are.0, scales_more wanted columns scales column scale are.1 is)

pub scales_step : (wanted : Wanted) (items : List ColumnDefinition) (i : ℕ) (item : ColumnDefinition) (scales now : List Scale) (scale : Scale) → i < length items → item ≡ get_or items i item
    → AreScales wanted (take i items) scales → IsScaled (map (λ words. words.now) wanted.scales.now) item.name.bytes scale → now ≡ scales ++ scale ∷ [] → AreScales wanted (take (i + 1) items) now
scales_step wanted items i item scales now scale less is are one grown =
    let more : take (i + 1) items ≡ take i items ++ item ∷ [] = take_more items i item less ∙ ap (λ it. take i items ++ it ∷ []) (sym is) in
    subst (λ columns. AreScales wanted columns now) (sym more) (subst (AreScales wanted (take i items ++ item ∷ [])) (sym grown) (scales_more wanted (take i items) scales item scale are one))

-- the scale of the column at a place
pub scale_at : (wanted : Wanted) (items : List ColumnDefinition) (scales : List Scale) (i : ℕ) (item : ColumnDefinition) (d : Scale) → AreScales wanted items scales → i < length items → item ≡ get_or items i item
    → IsScaled (map (λ words. words.now) wanted.scales.now) item.name.bytes (get_or scales i d)
scale_at wanted [] scales i item d are less is = let wrong : ⊥ = omega arith in absurd wrong
scale_at wanted (one ∷ items) [] i item d are less is = absurd are
scale_at wanted (one ∷ items) (other ∷ scales) zero item d are less is = subst (λ (column : ColumnDefinition). IsScaled (map (λ words. words.now) wanted.scales.now) column.name.bytes other) (sym is) are.0
scale_at wanted (one ∷ items) (other ∷ scales) (suc i) item d are less is = scale_at wanted items scales i item d are.1 (omega arith) is

pub scales_length : (wanted : Wanted) (items : List ColumnDefinition) (scales : List Scale) → AreScales wanted items scales → length scales ≡ length items
scales_length wanted [] [] are = refl
scales_length wanted [] (one ∷ scales) are = absurd are
scales_length wanted (one ∷ items) [] are = absurd are
scales_length wanted (one ∷ items) (other ∷ scales) are = ap suc (scales_length wanted items scales are.1)

-- ---- renamings

abbrev texts : List (Bor (List ℕ)) → List (List ℕ)
texts list = map (λ words. words.now) list

pub words_at : (list : List (Bor (List ℕ))) (i : ℕ) (d : Bor (List ℕ)) → i < length list → drop i (map (λ words. words.now) list) ≡ (get_or list i d).now ∷ drop (i + 1) (map (λ words. words.now) list)
words_at list i d less =
    drop-map (λ (words : Bor (List ℕ)). words.now) i list ∙ (ap texts (drop_more list i d less) ∙ ap (λ rest. (get_or list i d).now ∷ rest) (sym (drop-map (λ (words : Bor (List ℕ)). words.now) (i + 1) list)))

-- what the words at a place tell
pub told_at : (list : List (Bor (List ℕ))) (i : ℕ) (d : Bor (List ℕ)) (column fallback text : List ℕ) → i < length list → Renames (get_or list i d).now column text → IsTold (drop i (map (λ words. words.now) list)) column fallback text
told_at list i d column fallback text less renames = subst (λ rest. IsTold rest column fallback text) (sym (words_at list i d less)) (inl renames)

-- those at a place tell nothing of it
pub told_after : (list : List (Bor (List ℕ))) (i : ℕ) (d : Bor (List ℕ)) (column fallback text : List ℕ) → i < length list → ((other : List ℕ) → ¬ Renames (get_or list i d).now column other)
    → IsTold (drop (i + 1) (map (λ words. words.now) list)) column fallback text → IsTold (drop i (map (λ words. words.now) list)) column fallback text
told_after list i d column fallback text less none called = subst (λ rest. IsTold rest column fallback text) (sym (words_at list i d less)) (inr (none, called))

pub told_none : (list : List (Bor (List ℕ))) (i : ℕ) (column fallback : List ℕ) → length list ≤ i → IsTold (drop i (map (λ words. words.now) list)) column fallback fallback
told_none list i column fallback past = subst (λ rest. IsTold rest column fallback fallback) (sym (drop_all i (texts list) (omega (arith, length-map list (λ (words : Bor (List ℕ)). words.now))))) refl

pub not_cut : (words column : List ℕ) → position_or_len is_equals words ≡ length words → (other : List ℕ) → ¬ Renames words column other
not_cut words column none other renames = let less = renames.0 in let wrong : ⊥ = omega arith in wrong

pub not_named : (words column name : List ℕ) → name ≡ before_first is_equals words → (name ≡ column → ⊥) → (other : List ℕ) → ¬ Renames words column other
not_named words column name is differs other renames = differs (is ∙ renames.1)
