-- One write.
use Rattle.rs_disk.proofs.Reaching.{torn_keeps, others_keep, passes_less}
use Rattle.rs_journal.proofs.writing.write_at.Goals as goal

pub returns-clause-reaches : goal.returns-clause-reaches
returns-clause-reaches g c = record {
  honesty = c.write.ensures.honesty;
  keeping = c.write.ensures.keeping;
  reads = λ honest. others_keep _ _ _ _ (c.write.ensures.others honest);
  images = λ keeps. passes_less g.D.Disk.may_leave g.D.Disk.left_since _ _ _ _ (λ a b torn. torn_keeps _ _ a b torn) (c.write.ensures.crash keeps);
}
