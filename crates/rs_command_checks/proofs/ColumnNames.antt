-- Columns whose names are alike.
use Rattle.std.proofs.Common.{◌≡◌, ℕ, ◌+◌, ◌<◌, ◌≤◌, ◌-◌, length, take, drop, take_all, length-drop, arith, get_or, Bool, false, ◌||◌, List, map, sym, ap, ◌∙◌, nat_eq}
use Rattle.std.proofs.lemmas.List.{at_drop_more, at_drop_all}
use Rattle.std.specs.List.{list_any}
use Rattle.std.specs.Cmp.Lexicographic.{pointwise, texts_ties}
use Rattle.rs_facts.specs.Fact.{Name, name_cmp}
use Rattle.rs_facts.specs.Insert.{same_name}
use Rattle.rs_syntax.specs.declared.commands.ColumnDefinition.{ColumnDefinition}
use Rattle.rs_syntax.specs.View.{column_tree}
use Rattle.rs_machine.specs.Checks.{column_names, some_name_twice}

pub same_name-by_bytes : (a b : Name) → pointwise nat_eq a b ≡ same_name a b
unfolding name_cmp
same_name-by_bytes a b = texts_ties a b

abbrev pub names_in : List ColumnDefinition → List Name
names_in columns = column_names (map column_tree columns)

abbrev pub has_name_in : Name → List ColumnDefinition → Bool
has_name_in name columns = list_any (same_name name) (names_in columns)

abbrev pub twice_in : List ColumnDefinition → Bool
twice_in columns = some_name_twice (names_in columns)

whole : (columns : List ColumnDefinition) (i : ℕ) → take (length columns - (i + 1)) (drop (i + 1) columns) ≡ drop (i + 1) columns
whole columns i = take_all _ _ (omega (arith, length-drop (i + 1) columns))

-- a name among the columns from the first on, by the first and by those after it
pub first_has : (name : Name) (all : Bool) (columns : List ColumnDefinition) (i : ℕ) (item : ColumnDefinition) (b : Bool)
    → all ≡ has_name_in name (drop i columns) → i < length columns → item ≡ get_or columns i item → pointwise nat_eq name item.name.bytes ≡ b
    → all ≡ (b || has_name_in name (drop (i + 1) columns))
first_has name all columns i item b e h is test =
    e ∙ at_drop_more (has_name_in name) columns i item h
    ∙ ap (λ (x : ColumnDefinition). same_name name x.name.bytes || has_name_in name (drop (i + 1) columns)) (sym is)
    ∙ ap (λ b. b || has_name_in name (drop (i + 1) columns)) (sym (same_name-by_bytes name item.name.bytes) ∙ test)

pub first_twice : (all : Bool) (columns : List ColumnDefinition) (i : ℕ) (item : ColumnDefinition) (b : Bool)
    → all ≡ twice_in (drop i columns) → i < length columns → item ≡ get_or columns i item → has_name_in item.name.bytes (take (length columns - (i + 1)) (drop (i + 1) columns)) ≡ b
    → all ≡ (b || twice_in (drop (i + 1) columns))
first_twice all columns i item b e h is test =
    e ∙ at_drop_more twice_in columns i item h
    ∙ ap (λ (x : ColumnDefinition). has_name_in x.name.bytes (drop (i + 1) columns) || twice_in (drop (i + 1) columns)) (sym is)
    ∙ ap (λ b. b || twice_in (drop (i + 1) columns)) (ap (has_name_in item.name.bytes) (sym (whole columns i)) ∙ test)

pub none_has : (name : Name) (columns : List ColumnDefinition) (i : ℕ) → length columns ≤ i → has_name_in name (drop i columns) ≡ false
none_has name columns i h = at_drop_all (has_name_in name) columns i h

pub none_twice : (columns : List ColumnDefinition) (i : ℕ) → length columns ≤ i → twice_in (drop i columns) ≡ false
none_twice columns i h = at_drop_all twice_in columns i h
