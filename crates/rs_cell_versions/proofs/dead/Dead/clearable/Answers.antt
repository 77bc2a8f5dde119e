-- One cell after the other.
use Rattle.std.proofs.Common.{◌≡◌, ◌≤◌, ◌+◌, ◌-◌, ◌++◌, ◌∷◌, [], suc, Some, false, length, take, slice_get, sym, ap, ◌∙◌, subst, arith}
use Rattle.std.proofs.lemmas.List.{length-take-le}
use Rattle.rs_records.specs.Listed.{listed}
use Rattle.rs_records.specs.Records.{records}
use Rattle.rs_tree.proofs.Lists.{take_next}
use Rattle.rs_cell_versions.specs.Changes.{cleared}
use Rattle.rs_cell_versions.specs.DeadCells.{DeadCells, part}
use Rattle.rs_cell_versions.specs.Version.{is_clearable}
use Rattle.rs_cell_versions.proofs.Fronts.{AreClearable, clearable-next, clearable-none, cleared-all, cleared-most, cleared-seen, length-part, part-at}
use Rattle.rs_cell_versions.proofs.dead.Dead.clearable.Goals as goal

pub loop-index-init : goal.loop-index-init
loop-index-init c =
    let d = c.self.inside in
    let ds = part d.first d.end d.width d.bytes.items in
    let none : d.first - d.first ≡ 0 = omega arith in
    record {
      width = c.new-found.ensures.width;
      few = omega arith;
      found = c.new-found.ensures.none ∙ ap (λ n. take n ds) (sym none);
      clearable = subst (λ n. AreClearable c.args.oldest n ds) (sym none) (clearable-none c.args.oldest ds);
    }

pub returns-then-len-most-clause-cleared : goal.returns-then-len-most-clause-cleared
returns-then-len-most-clause-cleared c =
    let d = c.self.inside in
    let ds = part d.first d.end d.width d.bytes.items in
    let i = c.loop-index.index - d.first in
    let size = length-part d.first d.end d.width d.bytes.items in
    let inside : i ≤ length ds = omega (arith, size, c.loop-index-test.true) in
    let long : length (listed c.loop-index.found) ≡ i = ap length c.loop-index.invariant.found ∙ length-take-le i ds inside in
    c.loop-index.invariant.found ∙ sym (cleared-most c.args.oldest c.args.most i ds c.loop-index.invariant.clearable (omega (arith, long, c.len.ensures, c.if-len-most.true)) inside)
    ∙ ap (λ (v : DeadCells). cleared c.args.oldest c.args.most v.working) c.self.view_is

pub returns-then-not-is_clearable-clause-cleared : goal.returns-then-not-is_clearable-clause-cleared
returns-then-not-is_clearable-clause-cleared c =
    let d = c.self.inside in
    let ds = part d.first d.end d.width d.bytes.items in
    let i = c.loop-index.index - d.first in
    let cell = c.record_at-cell.result.now in
    let lent : slice_get (records d.end d.width d.bytes.items) c.loop-index.index ≡ Some cell =
    subst (λ bytes. slice_get (records d.end d.width bytes) c.loop-index.index ≡ Some cell) c.deref.ensures.value (c.record_at-cell.ensures.one d.end c.loop-index-test.true) in
    let there = part-at d.first d.end d.width c.loop-index.index d.bytes.items cell c.loop-index.auto.index lent in
    let seen : is_clearable c.args.oldest cell ≡ false = sym c.is_clearable.ensures ∙ c.if-not-is_clearable.true in
    c.loop-index.invariant.found
    ∙ sym (cleared-seen c.args.oldest c.args.most i ds cell (omega (arith, c.ranges.oldest)) c.self.invariant.in_order c.loop-index.invariant.clearable c.loop-index.invariant.few there seen)
    ∙ ap (λ (v : DeadCells). cleared c.args.oldest c.args.most v.working) c.self.view_is

pub returns-then-not-is_clearable-clause-first : goal.returns-then-not-is_clearable-clause-first
returns-then-not-is_clearable-clause-first c =
    let d = c.self.inside in
    let ds = part d.first d.end d.width d.bytes.items in
    let i = c.loop-index.index - d.first in
    let size = length-part d.first d.end d.width d.bytes.items in
    let inside : i ≤ length ds = omega (arith, size, c.loop-index-test.true) in
    let long : length (listed c.loop-index.found) ≡ i = ap length c.loop-index.invariant.found ∙ length-take-le i ds inside in
    c.loop-index.invariant.found ∙ ap (λ n. take n ds) (sym long) ∙ ap (λ (v : DeadCells). take (length (listed c.loop-index.found)) v.working) c.self.view_is

pub loop-index-preserved : goal.loop-index-preserved
loop-index-preserved c =
    let d = c.self.inside in
    let ds = part d.first d.end d.width d.bytes.items in
    let i = c.loop-index.index - d.first in
    let cell = c.record_at-cell.result.now in
    let size = length-part d.first d.end d.width d.bytes.items in
    let inside : i ≤ length ds = omega (arith, size, c.loop-index-test.true) in
    let long : length (listed c.loop-index.found) ≡ i = ap length c.loop-index.invariant.found ∙ length-take-le i ds inside in
    let lent : slice_get (records d.end d.width d.bytes.items) c.loop-index.index ≡ Some cell =
    subst (λ bytes. slice_get (records d.end d.width bytes) c.loop-index.index ≡ Some cell) c.deref.ensures.value (c.record_at-cell.ensures.one d.end c.loop-index-test.true) in
    let there = part-at d.first d.end d.width c.loop-index.index d.bytes.items cell c.loop-index.auto.index lent in
    let next : suc i ≡ (c.loop-index.index + 1) - d.first = omega (arith, c.loop-index.auto.index) in
    record {
      width = c.in_ok-push.ensures.width ∙ c.loop-index.invariant.width;
      few = omega (arith, long, c.len.ensures, c.if-len-most.false, c.loop-index.invariant.few);
      found = c.in_ok-push.ensures.pushed ∙ ap (λ xs. xs ++ cell ∷ []) c.loop-index.invariant.found ∙ sym (take_next ds i cell there) ∙ ap (λ n. take n ds) next;
      clearable = subst (λ n. AreClearable c.args.oldest n ds) next (clearable-next c.args.oldest i ds cell c.loop-index.invariant.clearable there (sym c.is_clearable.ensures ∙ c.if-not-is_clearable.false));
    }

pub returns-clause-cleared : goal.returns-clause-cleared
returns-clause-cleared c =
    let d = c.self.inside in
    let ds = part d.first d.end d.width d.bytes.items in
    let i = c.loop-index.index - d.first in
    let size = length-part d.first d.end d.width d.bytes.items in
    let all : length ds ≡ i = omega (arith, size, c.loop-index-test.false, c.loop-index.auto.index-end, c.self.invariant.begins) in
    c.loop-index.invariant.found ∙ sym (cleared-all c.args.oldest c.args.most i ds c.loop-index.invariant.clearable c.loop-index.invariant.few all)
    ∙ ap (λ (v : DeadCells). cleared c.args.oldest c.args.most v.working) c.self.view_is
