-- What is kept is the file's, and the disk stands for the state.
use Rattle.std.proofs.Common.{subst}
use Rattle.rs_store.specs.Calls.{KeepsStore, Saves}
use Rattle.rs_store.specs.Changing.{StillHolds}
use Rattle.rs_store.specs.Kept.{StoreState}
use Rattle.rs_store.proofs.HeldChanges.{still_saved}
use Rattle.rs_store.proofs.Keeping.{keeps_by_maps, saves_checkpoint, store_over}
use Rattle.rs_store.proofs.store.Store.save.Given.{Over}
use Rattle.rs_store.proofs.store.Store.save.Goals as goal

module _ (g : Over) (c : goal.After-checkpoint g) where
  abbrev was : StoreState g.row.D.Denot
  was = store_over g.D.Disk c.self.inside.pager c.self.inside.file c.self.inside.catalog c.self.inside.referents

  abbrev now : StoreState g.row.D.Denot
  now = store_over g.D.Disk c.checkpoint.new.pager was.file was.catalog was.referents

pub returns-clause-keeps : goal.returns-clause-keeps
returns-clause-keeps g c =
    subst (λ (s : StoreState g.row.D.Denot). KeepsStore g.D.Disk s (now g c)) c.self.view_is
    (keeps_by_maps g.D.Disk c.self.inside.pager c.checkpoint.new.pager c.self.inside.file c.self.inside.catalog c.self.inside.referents
    c.checkpoint.ensures.checkpoints.keeps c.checkpoint.ensures.checkpoints.lasts)

pub returns-clause-saves : goal.returns-clause-saves
returns-clause-saves g c =
    subst (λ (s : StoreState g.row.D.Denot). Saves g.D.Disk c.checkpoint.result s (now g c)) c.self.view_is
    (saves_checkpoint g.D.Disk (was g c) c.checkpoint.new.pager c.checkpoint.result c.checkpoint.ensures.checkpoints.keeps c.checkpoint.ensures.checkpoints.kept
    c.checkpoint.ensures.fresh)

pub returns-clause-changes : goal.returns-clause-changes
returns-clause-changes g c =
    subst (λ (s : StoreState g.row.D.Denot). StillHolds g.D.Disk s.pager c.checkpoint.new.pager) c.self.view_is
    (still_saved g.D.Disk c.self.inside.pager c.checkpoint.new.pager c.checkpoint.result c.checkpoint.ensures.checkpoints.keeps c.checkpoint.ensures.changes
    c.checkpoint.ensures.no_change)
