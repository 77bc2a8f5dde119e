-- The page is read, and then it is released or refused.
use Rattle.std.proofs.lemmas.Result.{on_ok_weaker}
use Rattle.rs_pager.specs.Maps.{pager_store, IsTied}
use Rattle.rs_pager.proofs.Copied.{Loaded}
use Rattle.rs_pager.proofs.Released.{releases-after, free-refused}
use Rattle.rs_pager.specs.Below.{KeepsBelow-trans}
use Rattle.rs_pager.proofs.paging.PagerPages.release.Goals as goal

pub returns-clause-releases : goal.returns-clause-releases
returns-clause-releases g c =
    let d = g.D.Disk in
    let old = c.args.self.now in
    let mid = c.load.new.self in
    on_ok_weaker c.free.result (releases-after (IsTied d old) (IsTied d mid) c.args.number (pager_store d old) (pager_store d mid) (pager_store d c.free.new.self)
    c.load.ensures.rests.below.tied c.load.ensures.rests.rests c.in_ok-load.ensures.rests.count) c.free.ensures.releases

pub returns-clause-refused : goal.returns-clause-refused
returns-clause-refused g c =
    let loaded : Loaded g.D.Disk c.args.self.now c.load.new.self = record {
      rests = c.load.ensures.rests.rests;
      below = c.load.ensures.rests.below;
      count = c.in_ok-load.ensures.rests.count;
    } in
    free-refused g.D.Disk c.args.number c.args.self.now c.load.new.self loaded c.free.result c.free.new.self c.free.ensures.same c.free.ensures.refused

pub returns-clause-keeps : goal.returns-clause-keeps
returns-clause-keeps g c = KeepsBelow-trans g.D.Disk _ _ _ c.load.ensures.rests.below c.free.ensures.keeps
