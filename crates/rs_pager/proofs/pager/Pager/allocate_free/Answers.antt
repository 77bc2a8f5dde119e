-- The first of the free list is read and taken from it, or refused.
use Rattle.std.proofs.Common.{◌≡◌, ap, subst}
use Rattle.std.proofs.lemmas.Result.{err_from_is_err_and}
use Rattle.rs_pager.specs.Paged.{Paged}
use Rattle.rs_pager.specs.Maps.{pager_store, IsTied}
use Rattle.rs_pager.specs.Taking.{FindsNoFree}
use Rattle.rs_pager.proofs.AllocatedFree.{allocates-after, none-refuses}
use Rattle.rs_pager.specs.Below.{KeepsBelow-trans}
use Rattle.rs_pager.proofs.pager.Pager.allocate_free.Goals as goal

pub returns-in_err-next-clause-refused : goal.returns-in_err-next-clause-refused
returns-in_err-next-clause-refused g c =
    let p = err_from_is_err_and c.from_residual.result c.from_residual.ensures.1 in
    let old = c.args.self.now in
    let first : c.self.inside.working.first_free ≡ old.working.first_free = ap (λ (q : Paged _). q.working.first_free) c.self.view_is in
    let none = subst (λ n. FindsNoFree g.D.Disk n old c.in_err-next.field-0.0) first c.in_err-next.ensures.none in
    rw (p.1, p.2) (none-refuses g.D.Disk old c.requires.some_free c.in_err-next.field-0.0 c.load_free.new.self c.load_free.ensures.rests.rests c.in_err-next.ensures.rests.count none)

pub returns-clause-allocates : goal.returns-clause-allocates
returns-clause-allocates g c =
    let d = g.D.Disk in
    let old = c.args.self.now in
    let mid = c.load_free.new.self in
    allocates-after (IsTied d old) (IsTied d mid) c.args.kind c.self.inside.working.first_free (pager_store d old) (pager_store d mid) (pager_store d c.take_free.new.self)
    c.load_free.ensures.rests.below.tied c.load_free.ensures.rests.rests c.in_ok-next.ensures.rests.count c.in_ok-take_free.ensures.allocates

pub returns-clause-keeps : goal.returns-clause-keeps
returns-clause-keeps g c = KeepsBelow-trans g.D.Disk _ _ _ c.load_free.ensures.rests.below c.take_free.ensures.keeps
