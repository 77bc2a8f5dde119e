-- The runs that end inside the window, from its mark on.
use Rattle.std.proofs.Common.{◌≡◌, ◌∙◌, ◌+◌, ◌-◌, ◌<◌, ◌≤◌, List, ap, arith, drop, length, map, nat_lt, rules, subst, sym, take, true, false}
use Rattle.std.proofs.lemmas.Fn.{always_returns_same}
use Rattle.std.proofs.lemmas.List.{length-drop, take_all}
use Rattle.std.specs.List.{AllByRecursion}
use Rattle.std.specs.List.Sorted.{IsPartitionPoint, IsPartitionedBy}
use Rattle.rs_answers.proofs.Marking.{runs-start}
use Rattle.rs_answers.proofs.QueryRuns.{hold-within, holds-within}
use Rattle.rs_answers.proofs.ResumedRuns.{spans-below, spans-parted}
use Rattle.rs_answers.proofs.resuming.runs_until.Goals as goal
use Rattle.rs_answers.specs.Portions.{IsStart}
use Rattle.rs_answers.specs.Resumed.{within}
use Rattle.rs_answers.specs.Versions.{runs_seen}
use Rattle.rs_exec.specs.Meaning.{kind_in, rows_in}
use Rattle.rs_exec.specs.Snapshot.{Snapshot}
use Rattle.rs_facts.proofs.RunsOf.{runs_of-runs}
use Rattle.rs_facts.specs.Runs.{AreRunsOf}
use Rattle.rs_facts.specs.Spans.{seen}
use Rattle.rs_facts.specs.declared.fact.Span.{Span}

pub returns-clause-runs : goal.returns-clause-runs
returns-clause-runs g c = λ shown shows lies there marked.
    let source = c.args.source.now in
    let asked = c.args.asked.now in
    let named = c.args.named.now in
    let plan = asked.plan.now in
    let kind = kind_in plan in
    let ends = named.route.ends in
    let places = rows_in plan shown.snapshot named.route.number in
    let mark = c.args.mark in
    let to = c.saturating_add-to.result in
    let spans = c.in_ok-runs.runs.items in
    let has = g.met.V.Versions.shows_rows source asked.version shown shows in
    let inside = hold-within kind ends places (holds-within kind ends places (lies.each named.name.bytes named.route there)) in
    let are : AreRunsOf kind (within (mark.from - 1) to places) (map seen spans) =
    subst (λ (snapshot : Snapshot). AreRunsOf kind (within (mark.from - 1) to (rows_in plan snapshot named.route.number)) (map seen spans)) has.there
    (subst (λ number. AreRunsOf kind (within (mark.from - 1) to (rows_in plan (has.snapshots asked.version) number)) (map seen spans)) c.number.ensures
    (subst (λ from. AreRunsOf kind (within from to (rows_in plan (has.snapshots asked.version) c.number.result)) (map seen spans)) c.saturating_sub.ensures (c.in_ok-runs.ensures.runs has.snapshots has.is))) in
    let first = c.partition_point-first.result in
    let sure = c.ended_below-sure.result in
    let point = c.partition_point-first.ensures in
    let value = c.deref.ensures.value in
    let below = λ (s : Span). nat_lt s.lo mark.from in
    let parted = point.partitioned below (always_returns_same _ _ _ (λ a r f k. search rules)) (subst (λ (xs : List Span). IsPartitionedBy below xs) (sym value) (spans-parted mark.from spans are.ordered)) in
    let is = spans-below mark.from spans first (subst (λ (xs : List Span). first ≤ length xs) value point.bound)
    (subst (λ (xs : List Span). IsPartitionPoint (λ (s : Span). nat_lt s.lo mark.from ≡ true) (λ (s : Span). nat_lt s.lo mark.from ≡ false) xs first) value parted) in
    let others = c.deref-2.result.now in
    let rest : take (length others - first) (drop first others) ≡ drop first spans = take_all (length others - first) (drop first others) (omega (arith, length-drop first others)) ∙ ap (drop first) c.deref-2.ensures.value in
    let few = subst (λ (xs : List Span). sure ≤ length xs) rest c.ended_below-sure.ensures.within in
    let ended = subst (λ (xs : List Span). AllByRecursion (λ run. run.hi < to) (take sure (map seen xs))) rest c.ended_below-sure.ensures.ended in
    let left = c.in_ok-runs-2.ensures.tail ∙ ap (drop first) c.truncate.ensures.items in
    record {
      marked = marked;
      ordered = (runs_of-runs kind ends.start (ends.finish + 1) places inside).ordered;
      starts = subst (λ (xs : List Span). IsStart (map seen xs) (drop mark.before (runs_seen shown plan named.route))) (sym left)
          (runs-start kind places mark.from to spans are ends.start (ends.finish + 1) inside first sure mark.before is few ended marked.below);
    }
