-- The checkpoint keeps the same pages, in version 2.
use Rattle.rs_checkpoint.proofs.Kept.{migrates}
use Rattle.rs_checkpoint.proofs.checkpointing.migrate.Goals as goal

pub returns-clause-migrates : goal.returns-clause-migrates
returns-clause-migrates g c =
    migrates g.D.Disk c.checkpoint.result c.args.pager.now c.checkpoint.new.pager c.checkpoint.ensures.keeps c.checkpoint.ensures.no_change c.checkpoint.ensures.fresh
