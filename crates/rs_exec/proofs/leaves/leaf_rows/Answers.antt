use Rattle.std.proofs.Common.{◌≡◌, ℕ, List, map, subst}
use Rattle.std.proofs.lemmas.List.Sorted.{IsPermutation-map}
use Rattle.rs_facts.specs.ConditionView.{condition_of}
use Rattle.rs_facts.specs.declared.condition.Condition.{Condition}
use Rattle.rs_facts.specs.Spans.{seen, places_of}
use Rattle.rs_planning.specs.Plan.{met_by_each}
use Rattle.rs_plan.specs.declared.plan.PlannedWindow.{PlannedWindow}
use Rattle.rs_exec.specs.Windows.{IsInsideEach, AreOff}
use Rattle.rs_facts.proofs.Apart.{apart-permutation}
use Rattle.rs_exec.proofs.Finding.{leaf-step, leaf-off}
use Rattle.rs_exec.proofs.JoinedRows.{none-joined}
use Rattle.rs_exec.proofs.leaves.leaf_rows.Goals as goal

pub returns-in_default-clause-held : goal.returns-in_default-clause-held
returns-in_default-clause-held g c =
    leaf-off (g.S.Source.is c.args.source.now) c.args.version c.args.route c.args.leaf.now c.new.result
    (subst (λ (windows : List PlannedWindow). AreOff windows c.args.route) c.as_slice.ensures.value c.in_default.ensures.none) c.new.ensures.items

pub returns-clause-held : goal.returns-clause-held
returns-clause-held g c =
    leaf-step (g.S.Source.is c.args.source.now) c.args.version c.args.route c.args.leaf.now c.in-Some.part
    (map seen c.in_ok-spans.spans.items) (map seen c.sort_by_place.new.spans.items) (map seen c.cut.new.spans.items) c.select_each.new.spans
    (subst (λ (windows : List PlannedWindow). IsInsideEach windows c.args.route c.in-Some.part) c.as_slice.ensures.value c.in-Some.ensures.part)
    c.in_ok-spans.ensures.found (IsPermutation-map seen _ _ c.sort_by_place.ensures.moved)
    c.cut.ensures.means c.cut.ensures.placed c.cut.ensures.width
    (subst (λ (conditions : List Condition). (k : ℕ) → places_of (map seen c.select_each.new.spans.items) k ≡ met_by_each (map condition_of conditions) (places_of (map seen c.cut.new.spans.items) k)) c.as_slice-2.ensures.value c.select_each.ensures.means)
    c.select_each.ensures.sorted c.select_each.ensures.placed c.select_each.ensures.width

pub returns-in_default-clause-joined : goal.returns-in_default-clause-joined
returns-in_default-clause-joined g c = λ snapshots there. none-joined c.args.leaf.now.table.kind c.new.result c.new.ensures.items

pub returns-clause-joined : goal.returns-clause-joined
returns-clause-joined g c = λ snapshots there.
    let kind = c.args.leaf.now.table.kind in
    c.select_each.ensures.joined kind (c.cut.ensures.joined kind
    (apart-permutation kind (map seen c.in_ok-spans.spans.items) (map seen c.sort_by_place.new.spans.items) (IsPermutation-map seen _ _ c.sort_by_place.ensures.moved)
    (c.in_ok-spans.ensures.found.joined snapshots there)))
