-- The disk of a store that was saved.
use Rattle.std.proofs.Common.{◌∙◌, ℕ, IsTrue, ap, subst, sym}
use Rattle.rs_disk.specs.Content.{Content}
use Rattle.rs_store.specs.Lasting.{LeavesOneOf}
use Rattle.rs_store.specs.Standing.{IsSecondFileOf, Stands}
use Rattle.rs_store.proofs.Enduring.{leaves_one, stand_within}
use Rattle.rs_store.proofs.store.Store.close.Goals as goal

pub returns-in-Ok-clause-closes : goal.returns-in-Ok-clause-closes
returns-in-Ok-clause-closes g c =
    let d = g.D.Disk in
    let was = c.args.self in
    let last = c.save.new.self in
    let same = c.into_disk.ensures in
    record {
      stands = λ oldest state stands.
          subst (λ (disk : g.row.D.Denot). Stands was.pager.limit (d.seen disk) state) (sym same)
          (subst (λ (most : ℕ). Stands most (d.seen last.pager.disk) state) c.save.ensures.keeps.limit (c.in-Ok.ensures.saves.stands oldest state stands));
      second = λ oldest state stands.
          subst (λ (disk : g.row.D.Denot). IsSecondFileOf was.pager.limit (d.seen disk) state) (sym same)
          (subst (λ (most : ℕ). IsSecondFileOf most (d.seen last.pager.disk) state) c.save.ensures.keeps.limit (c.in-Ok.ensures.saves.second oldest state stands));
      durable = λ oldest state stands.
          subst (λ (disk : g.row.D.Denot). IsTrue (d.keeps_crashes disk) → (image : Content) → d.may_leave disk image → Stands was.pager.limit image state) (sym same)
          (λ on image left. subst (λ (most : ℕ). Stands most image state) c.save.ensures.keeps.limit (c.in-Ok.ensures.saves.durable oldest state stands on image left));
      meanwhile = λ oldest state before stands is on within.
          subst (λ (disk : g.row.D.Denot). LeavesOneOf d was.pager.limit before state was.pager.disk disk) (sym same)
          (leaves_one d was.pager last.pager c.save.ensures.keeps.endures.lasts stands.keeps.tied before state is
          (stand_within d oldest was state stands was.pager.limit within) on);
      keeping = ap d.keeps_crashes same ∙ c.save.ensures.keeps.endures.lasts.keeping;
      honesty = ap d.is_honest same ∙ c.save.ensures.keeps.honesty;
      keeps = tt;
    }
