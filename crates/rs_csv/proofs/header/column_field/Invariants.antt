use Rattle.std.proofs.Common.{◌≡◌, ℕ, List, drop, map}
use Rattle.rs_csv.specs.Header.{IsCalled}
use Rattle.rs_csv.proofs.header.column_field.Given as goal

abbrev pub invariant-loop-renaming : goal.invariant-loop-renaming
invariant-loop-renaming g l = record {
  errors : l.errors ≡ l.fn.errors;
  others : (name : List ℕ) → IsCalled (drop l.renaming-index (map (λ words. words.now) l.wanted.columns.now)) l.column name → IsCalled (map (λ words. words.now) l.wanted.columns.now) l.column name;
}
