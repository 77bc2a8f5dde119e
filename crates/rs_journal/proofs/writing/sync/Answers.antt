-- One sync.
use Rattle.rs_journal.proofs.writing.sync.Goals as goal

pub returns-clause-reaches : goal.returns-clause-reaches
returns-clause-reaches g c = record {
  honesty = c.sync.ensures.honesty;
  keeping = c.sync.ensures.keeping;
  reads = λ honest. c.sync.ensures.same honest;
  images = λ keeps. c.sync.ensures.crash keeps;
}
