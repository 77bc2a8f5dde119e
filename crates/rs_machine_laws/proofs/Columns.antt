-- Columns by name: where a name stands, that names are distinct, and how many there may be.
use Rattle.std.proofs.Common.{◌≡◌, ◌≢◌, ◌∙◌, ℕ, zero, suc, ◌<◌, ◌≤◌, Bool, true, false, not, ◌&&◌, ◌||◌, List, [], ◌∷◌, ◌++◌, map, length, get_or, set, Option, Some, None, Ok, inl, inr, refl, sym, ap, subst, arith}
use Rattle.std.specs.List.{AllByRecursion, list_any, IsDistinct}
use Rattle.std.specs.Ordering.{eq_by_cmp}
use Rattle.std.specs.Cmp.{eq_by_cmp_equiv}
use Rattle.std.proofs.lemmas.Bool.{or_cases}
use Rattle.std.proofs.lemmas.List.{length-map, map-set, set-get_or, get_or-map}
use Rattle.std.proofs.lemmas.List.Folds.{list_any_at}
use Rattle.std.proofs.lemmas.Map.Made.{length-le_from_is_member}
use Rattle.rs_refusal.specs.declared.refusal.Refusal.TheVariants.{NoSuchColumn}
use Rattle.rs_value.specs.declared.column.ColumnType.TheVariants as types
use Rattle.rs_facts.specs.Fact.{Name, name_cmp}
use Rattle.rs_facts.specs.Insert.{same_name}
use Rattle.rs_facts.specs.Query.{Column, column_at, renamed_at}
use Rattle.rs_machine.specs.Checks.{column_names, some_name_twice}
use Rattle.rs_machine.specs.Checking.{place_in, column_place, column_places, same_class, same_columns, share_a_name}
use Rattle.rs_machine.specs.Lawful.{AreDistinct}
use Rattle.rs_machine.proofs.NameOrder.{name_cmp-total}
use Rattle.rs_machine_laws.proofs.Names.{false_true, none_some, some_same, either_false, same_name-true}
use Rattle.rs_machine_laws.proofs.Checked.{ok_same, not_true, was_found, then_ok, others}
use Rattle.rs_machine_laws.proofs.Lists.{none_pass, all_append}

-- ---- the place of a name

-- the name stands at the place
pub record IsNamedAt (list : List Name) (name : Name) (place : ℕ) : Type 0 where
  pub within : place < length list
  pub is : (d : Name) → get_or list place d ≡ name

one_later : (first : Name) (others : List Name) (name : Name) (place : ℕ) → IsNamedAt others name place → IsNamedAt (first ∷ others) name (suc place)
one_later first others name place at = let w = at.within in record { within = omega arith; is = at.is }

-- where it stands by whether the first has it, and where it stands among the others
stands_by : (first : Name) (others : List Name) (name : Name) (place : ℕ) → ((p : ℕ) → place_in others name ≡ Some p → IsNamedAt others name p)
    → (same : Bool) (found : Option ℕ) → same_name name first ≡ same → place_in others name ≡ found → place_in (first ∷ others) name ≡ Some place → IsNamedAt (first ∷ others) name place
stands_by first others name place later true found same rest e =
    let here : place_in (first ∷ others) name ≡ Some 0 = rw same refl in
    subst (IsNamedAt (first ∷ others) name) (some_same 0 place (sym here ∙ e)) (record { within = omega arith; is = λ d. sym (same_name-true name first same) })
stands_by first others name place later false None other none e = let missing : place_in (first ∷ others) name ≡ None = rw (other, none) refl in none_some place (sym missing ∙ e)
stands_by first others name place later false (Some p) other found e =
    let here : place_in (first ∷ others) name ≡ Some (suc p) = rw (other, found) refl in
    subst (IsNamedAt (first ∷ others) name) (some_same (suc p) place (sym here ∙ e)) (one_later first others name p (later p found))

place-stands : (list : List Name) (name : Name) (place : ℕ) → place_in list name ≡ Some place → IsNamedAt list name place
place-stands [] name place e = none_some place e
place-stands (first ∷ others) name place e = stands_by first others name place (λ p found. place-stands others name p found) (same_name name first) (place_in others name) refl refl e

pub column-stands : (columns : List Column) (name : Name) (place : ℕ) → column_place columns name ≡ Ok place → IsNamedAt (column_names columns) name place
column-stands columns name place e = place-stands (column_names columns) name place (was_found (place_in (column_names columns) name) NoSuchColumn place e)

-- the column that stands there has the name
column-named : (columns : List Column) (name : Name) (place : ℕ) → IsNamedAt (column_names columns) name place → (column_at columns place).0 ≡ name
column-named columns name place at =
    sym (get_or-map (λ (column : Column). column.0) columns place ([], types.Int) [] (subst (λ n. place < n) (length-map columns (λ (column : Column). column.0)) at.within)) ∙ at.is []

-- ---- columns that are named one after another

-- places for each of the names
pub record AreChosen (columns : List Column) (list : List Name) (places : List ℕ) : Type 0 where
  pub as_many : length places ≡ length list
  pub named : column_names (map (column_at columns) places) ≡ list
  pub among : (name : Name) → list_any (same_name name) list ≡ true → list_any (same_name name) (column_names columns) ≡ true

pub are-chosen : (columns : List Column) (list : List Name) (places : List ℕ) → column_places columns list ≡ Ok places → AreChosen columns list places
are-chosen columns [] places e = subst (AreChosen columns []) (ok_same [] places e) (record { as_many = refl; named = refl; among = λ name wrong. false_true wrong })
are-chosen columns (name ∷ more) places e =
    let first = then_ok (column_place columns name) _ places e in
    let rest = then_ok (column_places columns more) _ places first.2 in
    let here = column-stands columns name first.0 first.1 in
    let later = are-chosen columns more rest.0 rest.1 in
    subst (AreChosen columns (name ∷ more)) (ok_same (first.0 ∷ rest.0) places rest.2) (record {
      as_many = ap suc later.as_many;
      named = λ i. column-named columns name first.0 here i ∷ later.named i;
      among = λ q named. elim (or_cases (same_name q name) (list_any (same_name q) more) named) [
        | inl same ↦ list_any_at (same_name q) (column_names columns) first.0 [] here.within (ap (same_name q) (here.is []) ∙ same)
        | inr other ↦ later.among q other
      ];
    })

apart : (list : List Name) → some_name_twice list ≡ false → IsDistinct (eq_by_cmp name_cmp) list
unfolding IsDistinct
apart [] none = tt
apart (name ∷ more) none =
    let parts = either_false (list_any (same_name name) more) (some_name_twice more) none in
    (none_pass (same_name name) more parts.0, apart more parts.1)

-- where none is named twice they are no more than the columns
pub no_more_chosen : (columns : List Column) (list : List Name) (places : List ℕ) → AreChosen columns list places → some_name_twice list ≡ false → length places ≤ length columns
no_more_chosen columns list places are none =
    let few = length-le_from_is_member (eq_by_cmp_equiv name_cmp-total) list (column_names columns) (apart list none) are.among in
    omega (arith, few, are.as_many, length-map columns (λ (column : Column). column.0))

-- ---- distinct names

apart_from_all : (name : Name) (xs ys : List Name) → AllByRecursion (λ other. name ≢ other) xs → list_any (same_name name) ys ≡ false → AllByRecursion (λ other. name ≢ other) (xs ++ ys)
apart_from_all name xs ys all none = all_append (λ other. name ≢ other) xs ys all (others name ys none)

-- names of two lists that share none
pub distinct_together : (xs ys : List Name) → AreDistinct xs → AreDistinct ys → share_a_name xs ys ≡ false → AreDistinct (xs ++ ys)
distinct_together [] ys one other none = other
distinct_together (x ∷ xs) ys one other none =
    let parts = either_false (list_any (same_name x) ys) (list_any (λ name. list_any (same_name name) ys) xs) none in
    (apart_from_all x xs ys one.0 parts.0, distinct_together xs ys one.1 other parts.1)

all_set : (P : Name → Type 0) (xs : List Name) (i : ℕ) (y : Name) → P y → AllByRecursion P xs → AllByRecursion P (set xs i y)
all_set P [] i y is all = tt
all_set P (x ∷ xs) zero y is all = (is, all.1)
all_set P (x ∷ xs) (suc i) y is all = (all.0, all_set P xs i y is all.1)

set_distinct : (xs : List Name) (i : ℕ) (y : Name) → AllByRecursion (λ other. y ≢ other) xs → AreDistinct xs → AreDistinct (set xs i y)
set_distinct [] i y new are = tt
set_distinct (x ∷ xs) zero y new are = (new.1, are.1)
set_distinct (x ∷ xs) (suc i) y new are = (all_set (λ other. x ≢ other) xs i y (λ same. new.0 (sym same)) are.0, set_distinct xs i y new.1 are.1)

-- a column is renamed to its own name or to one that no column has
pub distinct_renamed : (columns : List Column) (from to : Name) (place : ℕ) → IsNamedAt (column_names columns) from place → same_name from to || not (list_any (same_name to) (column_names columns)) ≡ true
    → AreDistinct (column_names columns) → AreDistinct (column_names (renamed_at place to columns))
distinct_renamed columns from to place at may are =
    subst AreDistinct (sym (map-set (λ (column : Column). column.0) columns place (to, (column_at columns place).1)))
    (elim (or_cases (same_name from to) (not (list_any (same_name to) (column_names columns))) may) [
      | inl same ↦
          let kept : set (column_names columns) place to ≡ column_names columns =
          ap (set (column_names columns) place) (sym (at.is [] ∙ same_name-true from to same)) ∙ set-get_or (column_names columns) place [] in
          subst AreDistinct (sym kept) are
      | inr new ↦ set_distinct (column_names columns) place to (others to (column_names columns) (not_true (list_any (same_name to) (column_names columns)) new)) are
    ])

-- ---- columns that agree

pub same_widths : (left right : List Column) → same_columns left right ≡ true → length left ≡ length right
same_widths [] [] e = refl
same_widths [] (b ∷ right) e = false_true e
same_widths (a ∷ left) [] e = false_true e
same_widths (a ∷ left) (b ∷ right) e = ap suc (same_widths left right (last_true (same_name a.0 b.0) (same_class a.1 b.1) (same_columns left right) e))
  where
    last_true : (x y z : Bool) → x && y && z ≡ true → z ≡ true
    last_true true true z is = is
    last_true true false z is = false_true is
    last_true false y z is = false_true is
