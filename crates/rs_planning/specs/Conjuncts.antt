-- The conjuncts of a condition, and the columns that a condition reads.
use Rattle.std.specs.Prelude.{ℕ, ◌-◌, ◌==◌, Bool, false, not, ◌&&◌, nat_le, nat_lt, List, [], ◌∷◌, ◌++◌, get_or}
use Rattle.std.specs.List.{list_all}
use Rattle.rs_value.specs.declared.comparison.Comparison.TheVariants as comparisons
use Rattle.rs_value.specs.Row.{Row}
use Rattle.rs_facts.specs.Condition.{Term, column, written, is_null, Condition, compare, tests_null, negated, both, either, bracketed, meets}

-- The atoms of the outermost AND list, from the left. An atom in brackets is one, whatever is inside, and so is one with
-- NOT; a condition with an outermost OR is one conjunct.
abbrev pub conjuncts : Condition → List Condition
conjuncts (both a b) = conjuncts a ++ conjuncts b
conjuncts (compare a comparison b) = compare a comparison b ∷ []
conjuncts (tests_null a) = tests_null a ∷ []
conjuncts (negated a) = negated a ∷ []
conjuncts (either a b) = either a b ∷ []
conjuncts (bracketed a) = bracketed a ∷ []

-- a row meets each of them
abbrev pub meets_each : List Condition → Row → Bool
meets_each conditions row = list_all (λ condition. meets condition row) conditions

-- The condition is `column = literal`, of the column at this place. A literal is a number or a text: NULL is none, no line
-- compares a column with it, and such a comparison would be false of every row. What is in brackets or under NOT is not
-- looked at.
abbrev pub equates : ℕ → Condition → Bool
equates place (compare (column other) comparisons.Equal (written datum)) = other == place && not (is_null datum)
equates place condition = false

-- ---- the columns of a condition

abbrev pub column_of_term : Term → List ℕ
column_of_term (column place) = place ∷ []
column_of_term (written datum) = []

-- the places of the columns that the condition names
abbrev pub columns_read : Condition → List ℕ
columns_read (compare a comparison b) = column_of_term a ++ column_of_term b
columns_read (tests_null a) = column_of_term a
columns_read (negated a) = columns_read a
columns_read (both a b) = columns_read a ++ columns_read b
columns_read (either a b) = columns_read a ++ columns_read b
columns_read (bracketed a) = columns_read a

-- of two operands, the left of this width, all its columns are the left's
abbrev pub is_of_left : ℕ → Condition → Bool
is_of_left width condition = list_all (λ place. nat_lt place width) (columns_read condition)

-- all are the right's; one without a column is the left's
abbrev pub is_of_right : ℕ → Condition → Bool
is_of_right width condition = not (is_of_left width condition) && list_all (nat_le width) (columns_read condition)

-- some are the left's and some the right's
abbrev pub is_of_both : ℕ → Condition → Bool
is_of_both width condition = not (is_of_left width condition) && not (is_of_right width condition)

-- ---- the same condition where the columns have other places

abbrev pub term_at : (ℕ → ℕ) → Term → Term
term_at place_of (column place) = column (place_of place)
term_at place_of (written datum) = written datum

abbrev pub condition_at : (ℕ → ℕ) → Condition → Condition
condition_at place_of (compare a comparison b) = compare (term_at place_of a) comparison (term_at place_of b)
condition_at place_of (tests_null a) = tests_null (term_at place_of a)
condition_at place_of (negated a) = negated (condition_at place_of a)
condition_at place_of (both a b) = both (condition_at place_of a) (condition_at place_of b)
condition_at place_of (either a b) = either (condition_at place_of a) (condition_at place_of b)
condition_at place_of (bracketed a) = bracketed (condition_at place_of a)

-- in the operand of DISSOLVE, where the column has the place that is named
abbrev pub under_dissolve : List ℕ → Condition → Condition
under_dissolve columns condition = condition_at (λ place. get_or columns place 0) condition

-- in the right operand of OVERLAY, the left being of this width
abbrev pub under_right : ℕ → Condition → Condition
under_right width condition = condition_at (λ place. place - width) condition
