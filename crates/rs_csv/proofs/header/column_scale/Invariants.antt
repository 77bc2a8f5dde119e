use Rattle.std.proofs.Common.{ℕ, List, codes, drop, map}
use Rattle.rs_csv.specs.Header.{IsTold}
use Rattle.rs_csv.proofs.header.column_scale.Given as goal

abbrev pub invariant-loop-telling : goal.invariant-loop-telling
invariant-loop-telling l = record {
  others : (text : List ℕ) → IsTold (drop l.telling-index (map (λ words. words.now) l.wanted.scales.now)) l.column (codes "1") text → IsTold (map (λ words. words.now) l.wanted.scales.now) l.column (codes "1") text;
}
