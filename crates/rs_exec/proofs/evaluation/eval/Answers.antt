-- Sorted, spans of which no two are one run are the maximal runs of what they mean.
use Rattle.std.proofs.Common.{map, refl, subst}
use Rattle.std.proofs.lemmas.List.Sorted.{IsPermutation-map}
use Rattle.rs_facts.specs.Runs.{AreRunsOf}
use Rattle.rs_facts.specs.Spans.{seen, ArePlaced}
use Rattle.rs_coalesce.proofs.Whole.{made}
use Rattle.rs_sweep.specs.Lists.{AreWide}
use Rattle.rs_exec.specs.Meaning.{kind_in, rows_in, width_in}
use Rattle.rs_exec.proofs.Steps.{placed-moved, wide-moved}
use Rattle.rs_exec.proofs.evaluation.eval.Goals as goal

pub returns-clause-runs : goal.returns-clause-runs
returns-clause-runs g c = λ snapshots there.
    let kind = kind_in c.of.result.plan.now in
    let held = c.in_ok-rows.ensures.held.0 in
    let runs = made kind c.in_ok-rows.rows.first.items c.in_ok-rows.rows.first.items c.sort_by_place.new.spans.items (c.in_ok-rows.ensures.joined.0 snapshots there) held.shaped.placed refl c.sort_by_place.ensures.moved c.sort_by_place.ensures.sorted in
    subst (λ plan. AreRunsOf (kind_in plan) (rows_in plan (snapshots c.args.version) c.args.route) (map seen c.sort_by_place.new.spans.items)) c.of.ensures
    (subst (λ places. AreRunsOf kind places (map seen c.sort_by_place.new.spans.items)) {y = rows_in c.of.result.plan.now (snapshots c.args.version) c.args.route} (λ i k. held.means snapshots there k i) runs.runs)

pub returns-clause-placed : goal.returns-clause-placed
returns-clause-placed g c =
    subst (λ plan. ArePlaced (kind_in plan) (map seen c.sort_by_place.new.spans.items)) c.of.ensures
    (placed-moved (kind_in c.of.result.plan.now) (map seen c.in_ok-rows.rows.first.items) (map seen c.sort_by_place.new.spans.items) (IsPermutation-map seen _ _ c.sort_by_place.ensures.moved) c.in_ok-rows.ensures.held.0.shaped.placed)

pub returns-clause-wide : goal.returns-clause-wide
returns-clause-wide g c =
    subst (λ plan. AreWide (width_in plan) (map seen c.sort_by_place.new.spans.items)) c.of.ensures
    (wide-moved (width_in c.of.result.plan.now) (map seen c.in_ok-rows.rows.first.items) (map seen c.sort_by_place.new.spans.items) (IsPermutation-map seen _ _ c.sort_by_place.ensures.moved) c.in_ok-rows.ensures.held.0.shaped.wide)
