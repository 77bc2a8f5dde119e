-- What lasts while the checkpoint is made leaves the pages kept last or the committed ones.
use Rattle.rs_checkpoint.proofs.Kept.{keeps_committed, leaves_kept}
use Rattle.rs_checkpoint.proofs.checkpointing.checkpoint.Goals as goal

pub returns-clause-leaves : goal.returns-clause-leaves
returns-clause-leaves g c = leaves_kept g.D.Disk c.args.pager.now c.checkpoint.new.self (g.met.D.Disk.only_now c.args.pager.now.disk) c.checkpoint.ensures.checkpoints.lasts

pub returns-clause-keeps : goal.returns-clause-keeps
returns-clause-keeps g c =
    keeps_committed g.D.Disk c.checkpoint.result c.args.pager.now c.checkpoint.new.self c.checkpoint.ensures.checkpoints c.checkpoint.ensures.fresh
