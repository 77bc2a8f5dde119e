-- The run is one of those that were found.
use Rattle.std.proofs.Common.{◌≡◌, ◌<◌, ◌≤◌, ◌-◌, ◌∙◌, List, ap, arith, get_or, length, nat_lt, rules, subst, sym, take, true, false}
use Rattle.std.proofs.lemmas.Fn.{always_returns_same}
use Rattle.std.proofs.lemmas.List.{get_or-take, length-take}
use Rattle.std.proofs.lemmas.Option.{get_or_from_slice_get, slice_get_within}
use Rattle.std.specs.List.Sorted.{IsPartitionPoint, IsPartitionedBy}
use Rattle.rs_facts.specs.declared.fact.Span.{Span}
use Rattle.rs_answers.proofs.Marking.{found-ordered, mark-counts}
use Rattle.rs_answers.proofs.ResumedRuns.{spans-parted}
use Rattle.rs_answers.specs.Versions.{runs_seen}
use Rattle.rs_answers.proofs.resuming.mark_before.Goals as goal

pub returns : goal.returns
returns c = λ shown plan on are.
    let spans = c.args.found.now.runs.items in
    let mark = c.args.found.now.mark in
    let last = c.in-Some.last.now in
    let given = take c.min.result c.deref.result.now in
    let i = length given - 1 in
    let all = runs_seen shown plan on in
    let there = sym c.in-Some.ensures.value in
    let long = length-take c.min.result c.deref.result.now in
    let among = slice_get_within given i last there in
    let same = ap length c.deref.ensures.value in
    let within : i < length spans = omega (arith, among, long, same) in
    let is : last ≡ get_or spans i last =
    sym (get_or_from_slice_get given i last last there) ∙ get_or-take c.min.result c.deref.result.now i last (omega (arith, among, long)) ∙ ap (λ (xs : List Span). get_or xs i last) c.deref.ensures.value in
    let point = c.partition_point-beside.ensures in
    let value = c.deref-2.ensures.value in
    let below = λ (s : Span). nat_lt s.lo last.lo in
    let parted = point.partitioned below (always_returns_same _ _ _ (λ a r f k. search rules))
    (subst (λ (xs : List Span). IsPartitionedBy below xs) (sym value) (spans-parted last.lo spans (found-ordered all spans mark.before are.ordered are.starts))) in
    record {
      counts = are.marked.counts;
      below = c.in-Some-checked_add.ensures.1
          ∙ mark-counts all spans mark.from mark.before i c.partition_point-beside.result last are.ordered are.marked.below are.starts within is
          (subst (λ (xs : List Span). c.partition_point-beside.result ≤ length xs) value point.bound)
          (subst (λ (xs : List Span). IsPartitionPoint (λ (s : Span). nat_lt s.lo last.lo ≡ true) (λ (s : Span). nat_lt s.lo last.lo ≡ false) xs c.partition_point-beside.result) value parted);
    }
