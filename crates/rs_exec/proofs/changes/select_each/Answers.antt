use Rattle.std.proofs.Common.{◌+◌, drop, map, refl, sym, ap, ◌∙◌}
use Rattle.rs_facts.specs.ConditionView.{condition_of}
use Rattle.rs_facts.specs.Spans.{seen, places_of}
use Rattle.rs_planning.specs.Plan.{met_by_each}
use Rattle.rs_exec.proofs.Lists.{more, end}
use Rattle.rs_exec.proofs.RowLaws.{met-none, met-more}
use Rattle.rs_exec.proofs.changes.select_each.Goals as goal

pub loop-condition-init : goal.loop-condition-init
loop-condition-init c = record {
  means = λ k. refl;
  sorted = c.requires.sorted;
  placed = λ kind placed. placed;
  wide = λ width wide. wide;
  joined = λ kind joined. joined;
}

pub loop-condition-preserved : goal.loop-condition-preserved
loop-condition-preserved c = record {
  means = λ k.
      ap (met_by_each (map condition_of (drop (c.loop-condition.condition-index + 1) c.args.conditions.now))) (c.select.ensures.means k)
      ∙ sym (met-more (condition_of c.condition-item.result) (map condition_of (drop (c.loop-condition.condition-index + 1) c.args.conditions.now)) (places_of (map seen c.loop-condition.spans.items) k))
      ∙ ap (λ conditions. met_by_each (map condition_of conditions) (places_of (map seen c.loop-condition.spans.items) k)) (sym (more c.args.conditions.now c.loop-condition.condition-index c.condition-item.result c.loop-condition-test.true c.condition-item.is))
      ∙ c.loop-condition.invariant.means k;
  sorted = c.select.ensures.sorted;
  placed = λ kind placed. c.select.ensures.placed kind (c.loop-condition.invariant.placed kind placed);
  wide = λ width wide. c.select.ensures.width width (c.loop-condition.invariant.wide width wide);
  joined = λ kind joined. c.select.ensures.joined kind (c.loop-condition.invariant.joined kind joined);
}

pub returns-clause-means : goal.returns-clause-means
returns-clause-means c = λ k.
    sym (met-none (places_of (map seen c.loop-condition.spans.items) k))
    ∙ ap (λ conditions. met_by_each (map condition_of conditions) (places_of (map seen c.loop-condition.spans.items) k)) (sym (end c.args.conditions.now c.loop-condition.condition-index c.loop-condition-test.false))
    ∙ c.loop-condition.invariant.means k
