-- Past the last record there is no key; else the record is told by its bytes.
use Rattle.std.proofs.Common.{◌≡◌, ◌-◌, ℕ, List, Some, length, drop, take, sym, ap, ◌∙◌, arith}
use Rattle.std.proofs.lemmas.Bool.{false≢true}
use Rattle.std.proofs.lemmas.Bool.Decides.{Decides-eqb}
use Rattle.std.proofs.lemmas.Slice.Eq.{slice_eq-Decides}
use Rattle.std.proofs.lemmas.List.{take_rest}
use Rattle.rs_records.specs.Records.{records, keys}
use Rattle.rs_records.proofs.RecordLists.{length-keys}
use Rattle.rs_tree.proofs.Lists.{has_inside, map_at}
use Rattle.rs_tree_edit.proofs.choosing.has_key.Goals as goal

pub returns-then-at-count : goal.returns-then-at-count
returns-then-at-count c = (
  λ no. absurd (false≢true no),
  λ has. absurd (omega (
    arith,
    has_inside (keys c.args.from (records c.args.count c.args.width c.args.bytes.now)) c.args.at c.args.key.now has,
    length-keys c.args.from c.args.count c.args.width c.args.bytes.now,
  )),
)

pub returns : goal.returns
returns c =
    let there = map_at (drop c.args.from) (records c.args.count c.args.width c.args.bytes.now) c.args.at c.record_at-record.result.now (c.record_at-record.ensures.one c.args.count (omega arith)) in
    let rest = take_rest c.record_at-record.result.now c.args.from in
    let told = slice_eq-Decides Decides-eqb (take (length c.record_at-record.result.now - c.args.from) (drop c.args.from c.record_at-record.result.now)) c.args.key.now c.eq.result c.eq.ensures in (
      λ yes. there ∙ ap (λ (xs : List ℕ). Some xs) (sym rest ∙ told.0 yes),
      λ has. told.1 (rest ∙ some_same (drop c.args.from c.record_at-record.result.now) c.args.key.now (sym there ∙ has)),
    ) where
      some_same : (one other : List ℕ) → Some one ≡ Some other → one ≡ other
      some_same one other e = cc
