-- Chains of conditions, by their parts.
use Rattle.std.proofs.Common.{◌≡◌, ℕ, Bool, ◌&&◌, List, [], ◌∷◌, ◌++◌, map, flat_map, length, Vec, Global, refl, sym, ap, ◌∙◌, arith}
use Rattle.std.specs.List.{list_all}
use Rattle.rs_facts.specs.Condition as said
use Rattle.rs_facts.specs.Condition.{column, written, compare, tests_null, negated, both, either, bracketed}
use Rattle.rs_facts.specs.ConditionView.{condition_of}
use Rattle.rs_facts.specs.declared.condition.Condition.{Condition}
use Rattle.rs_facts.specs.declared.condition.Condition.TheVariants as variants
use Rattle.rs_planning.specs.Conjuncts.{conjuncts, equates, columns_read, condition_at, term_at}
use Rattle.rs_checker.specs.Inner.{all_joined, any_joined}
use Rattle.rs_checker.proofs.ConditionLaws.{both_is, either_is}
use Rattle.rs_plan.specs.Conditions.{only_equates}
use Rattle.rs_plan.specs.PlanView.{conditions_of}
use Rattle.rs_plan.proofs.Walks.{all-map, all-append, and-true, append-end}

-- ---- columns at other places

module _ (place_of : ℕ → ℕ) where
  all-at : (parts : List said.Condition) → all_joined (map (condition_at place_of) parts) ≡ condition_at place_of (all_joined parts)
  all-at [] = refl
  all-at (part ∷ []) = refl
  all-at (part ∷ next ∷ parts) = ap (both (condition_at place_of part)) (all-at (next ∷ parts))

  any-at : (parts : List said.Condition) → any_joined (map (condition_at place_of) parts) ≡ condition_at place_of (any_joined parts)
  any-at [] = refl
  any-at (part ∷ []) = refl
  any-at (part ∷ next ∷ parts) = ap (either (condition_at place_of part)) (any-at (next ∷ parts))

  pub both-at : (parts copies : Vec Condition Global) → conditions_of copies ≡ map (condition_at place_of) (conditions_of parts) → condition_of (variants.Both copies) ≡ condition_at place_of (condition_of (variants.Both parts))
  both-at parts copies same = both_is copies ∙ ap all_joined same ∙ all-at (conditions_of parts) ∙ ap (condition_at place_of) (sym (both_is parts))

  pub either-at : (parts copies : Vec Condition Global) → conditions_of copies ≡ map (condition_at place_of) (conditions_of parts) → condition_of (variants.Either copies) ≡ condition_at place_of (condition_of (variants.Either parts))
  either-at parts copies same = either_is copies ∙ ap any_joined same ∙ any-at (conditions_of parts) ∙ ap (condition_at place_of) (sym (either_is parts))

term-same : (term : said.Term) → term_at (λ place. place) term ≡ term
term-same (column place) = refl
term-same (written datum) = refl

-- where each column stays, the condition is the same
pub at-same : (condition : said.Condition) → condition_at (λ place. place) condition ≡ condition
at-same (compare a comparison b) = λ i. compare (term-same a i) comparison (term-same b i)
at-same (tests_null a) = ap tests_null (term-same a)
at-same (negated condition) = ap negated (at-same condition)
at-same (both a b) = λ i. both (at-same a i) (at-same b i)
at-same (either a b) = λ i. either (at-same a i) (at-same b i)
at-same (bracketed condition) = ap bracketed (at-same condition)

pub all-at_same : (conditions : List said.Condition) → map (condition_at (λ place. place)) conditions ≡ conditions
all-at_same [] = refl
all-at_same (condition ∷ conditions) = λ i. at-same condition i ∷ all-at_same conditions i

-- ---- the columns that are read

module _ (within : ℕ → Bool) where
  abbrev reads : said.Condition → Bool
  reads condition = list_all within (columns_read condition)

  all-read : (parts : List said.Condition) → reads (all_joined parts) ≡ list_all reads parts
  all-read [] = refl
  all-read (part ∷ []) = and-true (reads part)
  all-read (part ∷ next ∷ parts) = all-append within (columns_read part) (columns_read (all_joined (next ∷ parts))) ∙ ap (λ b. reads part && b) (all-read (next ∷ parts))

  any-read : (parts : List said.Condition) → reads (any_joined parts) ≡ list_all reads parts
  any-read [] = refl
  any-read (part ∷ []) = and-true (reads part)
  any-read (part ∷ next ∷ parts) = all-append within (columns_read part) (columns_read (any_joined (next ∷ parts))) ∙ ap (λ b. reads part && b) (any-read (next ∷ parts))

  pub both-read : (parts : Vec Condition Global) → list_all (λ part. reads (condition_of part)) parts.items ≡ reads (condition_of (variants.Both parts))
  both-read parts = sym (ap reads (both_is parts) ∙ all-read (conditions_of parts) ∙ all-map reads condition_of parts.items)

  pub either-read : (parts : Vec Condition Global) → list_all (λ part. reads (condition_of part)) parts.items ≡ reads (condition_of (variants.Either parts))
  either-read parts = sym (ap reads (either_is parts) ∙ any-read (conditions_of parts) ∙ all-map reads condition_of parts.items)

-- ---- `column = literal`

all-equate : (place : ℕ) (parts : List said.Condition) → only_equates place parts ≡ equates place (all_joined parts)
all-equate place [] = refl
all-equate place (part ∷ []) = refl
all-equate place (part ∷ next ∷ parts) = refl

any-equate : (place : ℕ) (parts : List said.Condition) → only_equates place parts ≡ equates place (any_joined parts)
any-equate place [] = refl
any-equate place (part ∷ []) = refl
any-equate place (part ∷ next ∷ parts) = refl

pub both-equate : (place : ℕ) (parts : Vec Condition Global) → only_equates place (conditions_of parts) ≡ equates place (condition_of (variants.Both parts))
both-equate place parts = all-equate place (conditions_of parts) ∙ ap (equates place) (sym (both_is parts))

pub either-equate : (place : ℕ) (parts : Vec Condition Global) → only_equates place (conditions_of parts) ≡ equates place (condition_of (variants.Either parts))
either-equate place parts = any-equate place (conditions_of parts) ∙ ap (equates place) (sym (either_is parts))

-- ---- conjuncts

all-conjuncts : (parts : List Condition) → (length parts ≡ 0 → ⊥) → flat_map (λ part. conjuncts (condition_of part)) parts ≡ conjuncts (all_joined (map condition_of parts))
all-conjuncts [] some = absurd (some refl)
all-conjuncts (part ∷ []) some = append-end (conjuncts (condition_of part))
all-conjuncts (part ∷ next ∷ parts) some = ap (λ l. conjuncts (condition_of part) ++ l) (all-conjuncts (next ∷ parts) (λ e. omega (arith, e)))

pub both-conjuncts : (parts : Vec Condition Global) → (length parts.items ≡ 0 → ⊥) → flat_map (λ part. conjuncts (condition_of part)) parts.items ≡ conjuncts (condition_of (variants.Both parts))
both-conjuncts parts some = all-conjuncts parts.items some ∙ ap conjuncts (sym (both_is parts))

pub none-conjuncts : (parts : Vec Condition Global) → length parts.items ≡ 0 → condition_of (variants.Both parts) ∷ [] ≡ conjuncts (condition_of (variants.Both parts))
none-conjuncts parts none = (ap (λ c. c ∷ []) (both_is parts) ∙ by parts.items none) ∙ ap conjuncts (sym (both_is parts))
  where
    by : (items : List Condition) → length items ≡ 0 → all_joined (map condition_of items) ∷ [] ≡ conjuncts (all_joined (map condition_of items))
    by [] none = refl
    by (item ∷ items) none = absurd (omega (arith, none))

pub only-conjuncts : (parts : Vec Condition Global) → length parts.items ≡ 1 → flat_map (λ part. conjuncts (condition_of part)) parts.items ≡ conjuncts (condition_of (variants.Either parts))
only-conjuncts parts one = by parts.items one ∙ ap conjuncts (sym (either_is parts))
  where
    by : (items : List Condition) → length items ≡ 1 → flat_map (λ part. conjuncts (condition_of part)) items ≡ conjuncts (any_joined (map condition_of items))
    by [] one = absurd (omega (arith, one))
    by (item ∷ []) one = append-end (conjuncts (condition_of item))
    by (item ∷ next ∷ items) one = absurd (omega (arith, one))

pub several-conjuncts : (parts : Vec Condition Global) → (length parts.items ≡ 1 → ⊥) → condition_of (variants.Either parts) ∷ [] ≡ conjuncts (condition_of (variants.Either parts))
several-conjuncts parts several = (ap (λ c. c ∷ []) (either_is parts) ∙ by parts.items several) ∙ ap conjuncts (sym (either_is parts))
  where
    by : (items : List Condition) → (length items ≡ 1 → ⊥) → any_joined (map condition_of items) ∷ [] ≡ conjuncts (any_joined (map condition_of items))
    by [] several = refl
    by (item ∷ []) several = absurd (several refl)
    by (item ∷ next ∷ items) several = refl
