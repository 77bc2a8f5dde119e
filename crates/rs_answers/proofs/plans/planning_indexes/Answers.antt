use Rattle.std.proofs.Common.{◌≡◌, ◌++◌, map, sym, ap, ◌∙◌, append-nil}
use Rattle.rs_catalog.specs.Names.{entries_by_bytes}
use Rattle.rs_plan.specs.declared.counts.Index.{Index}
use Rattle.rs_answers.specs.Counts.{index_seen, item_seen, indexes_kept}
use Rattle.rs_answers.proofs.Counting.{indexes-more}
use Rattle.rs_answers.proofs.plans.planning_indexes.Goals as goal

pub loop-name-init : goal.loop-name-init
unfolding indexes_kept
loop-name-init c =
    let all = ap (entries_by_bytes (λ item. item)) c.into_iter-name-iterator.ensures.into_iter_gives ∙ c.indexes-name-items.ensures in
    ap (λ items. map index_seen items ++ map item_seen (entries_by_bytes (λ item. item) c.into_iter-name-iterator.result)) c.new-indexes.ensures.items
    ∙ ap (map item_seen) all

pub loop-name-preserved : goal.loop-name-preserved
loop-name-preserved c =
    let one : Index = record { name = c.in-Some.name.now; number = c.number.result; table = c.table_number.result; column = c.column.result } in
    let same : index_seen one ≡ item_seen (c.in-Some.name.now.bytes, c.in-Some.index.now) = λ i. (c.in-Some.name.now.bytes, (c.number.ensures i, (c.table_number.ensures i, c.column.ensures i))) in
    ap (λ items. map index_seen items ++ map item_seen (entries_by_bytes (λ item. item) c.next.new.self)) c.in_ok-push.ensures.items
    ∙ indexes-more c.loop-name.indexes.items one c.loop-name.name-iterator c.in-Some.name.now c.in-Some.index.now c.next.new.self c.in-Some.ensures.steps same
    ∙ c.loop-name.invariant

pub returns : goal.returns
returns c =
    sym (append-nil _)
    ∙ ap (λ rest. map index_seen c.loop-name.indexes.items ++ map item_seen (entries_by_bytes (λ item. item) rest)) (sym c.in-None.ensures.steps.0)
    ∙ c.loop-name.invariant
