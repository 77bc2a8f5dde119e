use Rattle.std.proofs.Common.{ap, ◌∙◌}
use Rattle.rs_catalog.specs.Names.{entries_by_bytes}
use Rattle.rs_cursor.proofs.Lowest.{goes_to_end}
use Rattle.rs_cursor.proofs.Oldests.{Counts, IsAny, lowest_of_all, one_counted}
use Rattle.rs_cursor.proofs.cursors.oldest_of.Goals as goal

pub loop-cursor-preserved : goal.loop-cursor-preserved
loop-cursor-preserved c =
    one_counted IsAny (entries_by_bytes (λ v. v) c.into_iter-cursor-iterator.result) (entries_by_bytes (λ v. v) c.loop-cursor.cursor-iterator) (entries_by_bytes (λ v. v) c.next.new.self)
    (c.in-Some.field-0-0.now.bytes, c.in-Some.cursor.now) c.args.most c.loop-cursor.oldest (ap (entries_by_bytes (λ v. v)) c.in-Some.ensures.steps) c.loop-cursor.invariant
    c.min-oldest.result tt c.min-oldest.ensures

pub returns : goal.returns
returns c =
    lowest_of_all c.args.cursors.now (entries_by_bytes (λ v. v) c.into_iter-cursor-iterator.result) (ap (entries_by_bytes (λ v. v)) c.into_iter-cursor-iterator.ensures.into_iter_gives ∙ c.iter-cursor-items.ensures)
    c.args.most c.loop-cursor.oldest
    (goes_to_end (Counts IsAny) _ _ c.args.most c.loop-cursor.oldest (ap (entries_by_bytes (λ v. v)) c.in-None.ensures.steps.0) c.loop-cursor.invariant)
