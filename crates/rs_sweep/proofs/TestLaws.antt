-- Values that are compared, and chains of conditions.
use Rattle.std.proofs.Common.{◌≡◌, ℕ, ℤ, ◌+◌, ◌<◌, ◌≤◌, Bool, true, false, ◌&&◌, ◌||◌, List, length, drop, get_or, Some, Ordering, Less, Equal, Greater, Vec, Global, refl, sym, ap, ◌∙◌}
use Rattle.std.proofs.lemmas.List.{drop_more, drop_all}
use Rattle.std.specs.Cmp.Lexicographic.{slice_cmp}
use Rattle.std.specs.Ordering.{nat_cmp, int_cmp, ordering_then}
use mathlib.Core.Former.{Count}
use Rattle.rs_value.specs.Row.{Datum, number, text, Row, datum_cmp}
use Rattle.rs_facts.specs.Condition as said
use Rattle.rs_facts.specs.ConditionView.{condition_of, all_of, any_of}
use Rattle.rs_facts.specs.declared.condition.Condition.{Condition, Both, Either, Both', Either', Row_of-Condition, end_of-Condition, more_of-Condition, items-the_row-Condition, items_hidden-the_row-Condition-0}
use Rattle.rs_sweep.specs.Tests.{all_met, any_met, compared}

then_equal : (o : Ordering) → ordering_then o Equal ≡ o
then_equal Less = refl
then_equal Equal = refl
then_equal Greater = refl

pub numbers : (a b : Datum) (m n : ℤ) (o : Ordering) → a ≡ number m → b ≡ number n → o ≡ int_cmp m n → Some o ≡ compared a b
unfolding datum_cmp
numbers a b m n o p q is = ap Some (is ∙ sym (then_equal (int_cmp m n))) ∙ sym (λ i. compared (p i) (q i))

pub texts : (a b : Datum) (m n : List ℕ) (o : Ordering) → a ≡ text m → b ≡ text n → o ≡ slice_cmp nat_cmp m n → Some o ≡ compared a b
unfolding datum_cmp
texts a b m n o p q is = ap Some is ∙ sym (λ i. compared (p i) (q i))

pub number_first : (a b : Datum) (m : ℤ) (n : List ℕ) → a ≡ number m → b ≡ text n → Some Less ≡ compared a b
unfolding datum_cmp
number_first a b m n p q = sym (λ i. compared (p i) (q i))

pub text_first : (a b : Datum) (m : List ℕ) (n : ℤ) → a ≡ text m → b ≡ number n → Some Greater ≡ compared a b
unfolding datum_cmp
text_first a b m n p q = sym (λ i. compared (p i) (q i))

-- ---- chains

pub met-next : (row : Row) (parts : List Condition) (i : ℕ) (part : Condition) (test all : Bool) → i < length parts → part ≡ get_or parts i part → test ≡ said.meets (condition_of part) row
    → all_met (drop i parts) row ≡ all → (test && all_met (drop (i + 1) parts) row) ≡ all
met-next row parts i part test all below is says h =
    (λ j. says j && all_met (drop (i + 1) parts) row)
    ∙ ap (λ c. said.meets (condition_of c) row && all_met (drop (i + 1) parts) row) is
    ∙ sym (ap (λ zs. all_met zs row) (drop_more parts i part below))
    ∙ h

pub any-next : (row : Row) (parts : List Condition) (i : ℕ) (part : Condition) (test any : Bool) → i < length parts → part ≡ get_or parts i part → test ≡ said.meets (condition_of part) row
    → any_met (drop i parts) row ≡ any → (test || any_met (drop (i + 1) parts) row) ≡ any
any-next row parts i part test any below is says h =
    (λ j. says j || any_met (drop (i + 1) parts) row)
    ∙ ap (λ c. said.meets (condition_of c) row || any_met (drop (i + 1) parts) row) is
    ∙ sym (ap (λ zs. any_met zs row) (drop_more parts i part below))
    ∙ h

pub met-end : (row : Row) (parts : List Condition) (i : ℕ) (all : Bool) → length parts ≤ i → all_met (drop i parts) row ≡ all → true ≡ all
met-end row parts i all done h = sym (ap (λ zs. all_met zs row) (drop_all i parts done)) ∙ h

pub any-end : (row : Row) (parts : List Condition) (i : ℕ) (any : Bool) → length parts ≤ i → any_met (drop i parts) row ≡ any → false ≡ any
any-end row parts i any done h = sym (ap (λ zs. any_met zs row) (drop_all i parts done)) ∙ h

pub met-false : (row : Row) (parts : List Condition) (i : ℕ) (part : Condition) (test all : Bool) → i < length parts → part ≡ get_or parts i part → test ≡ said.meets (condition_of part) row
    → all_met (drop i parts) row ≡ all → test ≡ false → false ≡ all
met-false row parts i part test all below is says h e = sym (ap (λ t. t && all_met (drop (i + 1) parts) row) e) ∙ met-next row parts i part test all below is says h

pub met-true : (row : Row) (parts : List Condition) (i : ℕ) (part : Condition) (test all : Bool) → i < length parts → part ≡ get_or parts i part → test ≡ said.meets (condition_of part) row
    → all_met (drop i parts) row ≡ all → test ≡ true → all_met (drop (i + 1) parts) row ≡ all
met-true row parts i part test all below is says h e = sym (ap (λ t. t && all_met (drop (i + 1) parts) row) e) ∙ met-next row parts i part test all below is says h

pub any-true : (row : Row) (parts : List Condition) (i : ℕ) (part : Condition) (test any : Bool) → i < length parts → part ≡ get_or parts i part → test ≡ said.meets (condition_of part) row
    → any_met (drop i parts) row ≡ any → test ≡ true → true ≡ any
any-true row parts i part test any below is says h e = sym (ap (λ t. t || any_met (drop (i + 1) parts) row) e) ∙ any-next row parts i part test any below is says h

pub any-false : (row : Row) (parts : List Condition) (i : ℕ) (part : Condition) (test any : Bool) → i < length parts → part ≡ get_or parts i part → test ≡ said.meets (condition_of part) row
    → any_met (drop i parts) row ≡ any → test ≡ false → any_met (drop (i + 1) parts) row ≡ any
any-false row parts i part test any below is says h e = sym (ap (λ t. t || any_met (drop (i + 1) parts) row) e) ∙ any-next row parts i part test any below is says h

-- ---- the same of a list inside a condition

abbrev row_of_parts : Condition → (n : Count) × Row_of-Condition n
row_of_parts (Both' _ parts) = (_, parts)
row_of_parts (Either' _ parts) = (_, parts)
row_of_parts _ = (_, end_of-Condition)

and_true : (test : Bool) → (test && true) ≡ test
and_true true = refl
and_true false = refl

or_false : (test : Bool) → (test || false) ≡ test
or_false true = refl
or_false false = refl

row_all : (row : Row) (n : _) (parts : Row_of-Condition n) → all_met (items-the_row-Condition n parts) row ≡ said.meets (all_of parts) row
row_all row n end_of-Condition = refl
row_all row n (more_of-Condition part end_of-Condition) = and_true (said.meets (condition_of part) row)
row_all row n (more_of-Condition part (more_of-Condition next rest)) = ap (λ t. said.meets (condition_of part) row && t) (row_all row _ (more_of-Condition next rest))

row_any : (row : Row) (n : _) (parts : Row_of-Condition n) → any_met (items-the_row-Condition n parts) row ≡ said.meets (any_of parts) row
row_any row n end_of-Condition = refl
row_any row n (more_of-Condition part end_of-Condition) = or_false (said.meets (condition_of part) row)
row_any row n (more_of-Condition part (more_of-Condition next rest)) = ap (λ t. said.meets (condition_of part) row || t) (row_any row _ (more_of-Condition next rest))

pub both-met : (parts : Vec Condition Global) (row : Row) → all_met parts.items row ≡ said.meets (condition_of (Both parts)) row
both-met parts row =
    let inner = row_of_parts (Both parts) in
    ap (λ zs. all_met zs row) (sym (items_hidden-the_row-Condition-0 parts)) ∙ row_all row inner.0 inner.1

pub either-met : (parts : Vec Condition Global) (row : Row) → any_met parts.items row ≡ said.meets (condition_of (Either parts)) row
either-met parts row =
    let inner = row_of_parts (Either parts) in
    ap (λ zs. any_met zs row) (sym (items_hidden-the_row-Condition-0 parts)) ∙ row_any row inner.0 inner.1
