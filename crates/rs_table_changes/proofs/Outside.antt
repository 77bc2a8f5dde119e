-- Parts of spans.
use Rattle.std.proofs.Common.{◌≡◌, ℕ, suc, min, max, Bool, true, false, cond, ◌||◌, List, [], ◌∷◌, ◌++◌, map, refl, arith}
use Rattle.std.specs.List.{AllByRecursion, Contains, list_any}
use Rattle.std.specs.Prelude.{IsTrue, nat_lt}
use Rattle.rs_facts.specs.declared.fact.Span.{Span}
use Rattle.rs_facts.specs.Runs.{Stretch, stretch}
use Rattle.rs_facts.specs.Spans.{seen}
use Rattle.rs_value.specs.Row.{Row}
use Rattle.rs_table_changes.specs.Picked.{back_of, covers, front_of, outside, outside_all}

pub all_join : (P : Stretch → Type 0) (xs ys : List Stretch) → AllByRecursion P xs → AllByRecursion P ys → AllByRecursion P (xs ++ ys)
all_join P [] ys a b = b
all_join P (x ∷ xs) ys a b = (a.0, all_join P xs ys a.1 b)

-- what is said of the row of a span is said of its parts
pub rows_outside : (Q : Row → Type 0) (lo hi : ℕ) (spans : List Stretch) → AllByRecursion (λ span. Q span.row) spans → AllByRecursion (λ span. Q span.row) (outside_all lo hi spans)
rows_outside Q lo hi [] all = tt
rows_outside Q lo hi (s ∷ spans) all =
    all_join (λ span. Q span.row) (outside lo hi s) (outside_all lo hi spans)
    (all_join (λ span. Q span.row) (front_of lo s) (back_of hi s)
    (elim (nat_lt s.lo lo) as (λ t. AllByRecursion (λ (span : Stretch). Q span.row) (cond t (stretch s.lo (min s.hi lo) s.row ∷ []) [])) [ true ↦ (all.0, tt) | false ↦ tt ])
    (elim (nat_lt hi s.hi) as (λ t. AllByRecursion (λ (span : Stretch). Q span.row) (cond t (stretch (max s.lo hi) s.hi s.row ∷ []) [])) [ true ↦ (all.0, tt) | false ↦ tt ]))
    (rows_outside Q lo hi spans all.1)

-- a span of the list that holds all along
pub record Holding (span : Stretch) (spans : List Stretch) : Type 0 where
  pub one : Stretch
  pub among : Contains spans one
  pub covered : IsTrue (covers span one)

holding_next : (b : Bool) (span first : Stretch) (spans : List Stretch) (rest : Bool) → covers span first ≡ b → (b || rest) ≡ true → (rest ≡ true → Holding span spans) → Holding span (first ∷ spans)
holding_next true span first spans rest is e more = record { one = first; among = (0, omega arith, refl); covered = is }
holding_next false span first spans rest is e more =
    let later = more e in
    record { one = later.one; among = (suc later.among.0, omega (arith, later.among.1), later.among.2); covered = later.covered }

pub holding : (span : Stretch) (spans : List Span) → list_any (λ other. covers span (seen other)) spans ≡ true → Holding span (map seen spans)
holding span [] e = absurd (let wrong : false ≡ true = e in cc)
holding span (s ∷ spans) e = holding_next (covers span (seen s)) span (seen s) (map seen spans) (list_any (λ other. covers span (seen other)) spans) refl e (holding span spans)
