-- Numbers that ascend are parted by a bound.
use Rattle.std.proofs.Common.{◌≡◌, ℕ, ◌<◌, ◌≤◌, List, length, slice_index, get_or, nat_lt, true, arith, rules, ap, inl, inr}
use Rattle.std.proofs.lemmas.Bool.{cases_lt, ltb-true, ltb-false}
use Rattle.std.proofs.lemmas.Bool.Decides.{nat_tests}
use Rattle.std.proofs.lemmas.Grind.{get_or_default_zero}
use Rattle.std.proofs.lemmas.Fn.{always_returns_same}
use Rattle.std.specs.List.Sorted.{IsPartitionedBy}
use Rattle.rs_journal.specs.Journal.{Ascends}
use Rattle.rs_journal.proofs.look.count_below.Goals as goal

lower : (a b bound : ℕ) → a ≤ b → nat_lt b bound ≡ true → nat_lt a bound ≡ true
lower a b bound le is = grind (arith, nat_tests)

never-falls : (numbers : List ℕ) (i j d : ℕ) → Ascends (length numbers) (slice_index numbers) → i ≤ j → j < length numbers
    → get_or numbers i d ≤ get_or numbers j d
never-falls numbers i j d ascends le lt =
    let one = get_or_default_zero numbers i d (omega arith) in
    let other = get_or_default_zero numbers j d lt in
    elim (cases_lt i j) [
      | inl before ↦ let less : get_or numbers i 0 < get_or numbers j 0 = ascends i j before lt in omega (arith, one, other, less)
      | inr after ↦ let same : i ≡ j = omega arith in let alike = ap (λ (k : ℕ). get_or numbers k d) same in omega (arith, alike)
    ]

parted : (numbers : List ℕ) (bound : ℕ) → Ascends (length numbers) (slice_index numbers) → IsPartitionedBy (λ (x : ℕ). nat_lt x bound) numbers
parted numbers bound ascends i j d le lt is = lower (get_or numbers i d) (get_or numbers j d) bound (never-falls numbers i j d ascends le lt) is

pub returns-clause-below : goal.returns-clause-below
returns-clause-below c = λ ascends k lt.
    let sides = c.partition_point.ensures.partitioned (λ (x : ℕ). nat_lt x c.args.bound) (always_returns_same _ _ _ (λ a r f t. search rules)) (parted c.args.numbers.now c.args.bound ascends) in
    ltb-true _ _ (sides.0 k 0 (omega arith) lt)

pub returns-clause-others : goal.returns-clause-others
returns-clause-others c = λ ascends k from lt.
    let sides = c.partition_point.ensures.partitioned (λ (x : ℕ). nat_lt x c.args.bound) (always_returns_same _ _ _ (λ a r f t. search rules)) (parted c.args.numbers.now c.args.bound ascends) in
    ltb-false _ _ (sides.1 k 0 from lt)
