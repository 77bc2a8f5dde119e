-- Records are cleared in pages that are kept or taken back.
use Rattle.std.proofs.Common.{◌≤◌, ℕ, Err, IfOk, arith, subst}
use Rattle.rs_machine.specs.State.{State}
use Rattle.rs_store.proofs.Changed.{given_so}
use Rattle.rs_store.proofs.Keeping.{store_over}
use Rattle.rs_store.proofs.NoneDead.{none_released}
use Rattle.rs_store.proofs.Released.{left_released, released, rests_released, unreleased}
use Rattle.rs_store.proofs.Settled.{has_begun}
use Rattle.rs_store.specs.Kept.{StandsIn}
use Rattle.rs_store.specs.Kept.{StoreState}
use Rattle.rs_store.specs.Releasing.{HasReleased, LeavesReleased}
use Rattle.rs_store.specs.Settling.{HasBegun}
use Rattle.std.proofs.lemmas.Bool.Decides.{nat_tests}
use Rattle.std.proofs.lemmas.Result.{err_from_is_err_and}
use Rattle.rs_store.proofs.store.Store.release.Given.{Over}
use Rattle.rs_store.proofs.store.Store.release.Goals as goal

module _ (g : Over) (c : goal.After-settle g) where
  abbrev was : StoreState g.row.D.Denot
  was = store_over g.D.Disk c.self.inside.pager c.self.inside.file c.self.inside.catalog c.self.inside.referents

  begun : HasBegun g.D.Disk was (store_over g.D.Disk c.begin_change.new.pager was.file was.catalog was.referents)
  begun = has_begun g.D.Disk was c.begin_change.new.pager c.in_ok-begin_change.ensures.begins

  abbrev now : StoreState g.row.D.Denot
  now = store_over g.D.Disk c.settle.new.pager c.settle.new.file was.catalog was.referents

pub invariant_of-self-2 : goal.invariant_of-self-2
invariant_of-self-2 g c =
    let made = c.clear_only-made in
    record {
      shut = c.settle.ensures.shut;
      rests = rests_released g.D.Disk made.result made.new.pages c.settle.new.pager (was g c).file made.new.file c.settle.new.file (was g c).catalog
          c.self.invariant.rests made.ensures.keeps made.ensures.may c.settle.ensures.settles;
    }

pub returns-clause-leaves : goal.returns-clause-leaves
returns-clause-leaves g c =
    let made = c.clear_only-made in
    given_so (λ r s. LeavesReleased g.D.Disk r s (now g c)) made.result c.settle.result (was g c) c.args.self.now c.settle.ensures.same c.self.view_is
    (left_released g.D.Disk (was g c) c.begin_change.new.pager made.new.pages c.settle.new.pager (was g c).file made.new.file c.settle.new.file (was g c).catalog (was g c).referents (begun g c) made.ensures.leaves.keeps
    made.result made.ensures.leaves.stores made.ensures.keeps c.self.invariant.rests.committed made.ensures.room c.settle.ensures.settles)

pub returns-clause-releases : goal.returns-clause-releases
returns-clause-releases g c =
    let d = g.D.Disk in
    let made = c.clear_only-made in
    given_so (λ r s. (from : ℕ) (state : State) (stands : StandsIn d from s state) → from ≤ c.args.oldest → c.args.oldest ≤ s.file.accepted
    → IfOk r (λ gone. HasReleased d c.args.oldest gone stands.contents (now g c) state))
    made.result c.settle.result (was g c) c.args.self.now c.settle.ensures.same c.self.view_is
    (λ from state stands low high. released g.D.Disk (was g c) c.begin_change.new.pager made.new.pages c.settle.new.pager (was g c).file made.new.file c.settle.new.file (was g c).catalog (was g c).referents (begun g c) made.ensures.leaves.keeps
    c.meant_contents_stay_meant.ensures.says c.meant_contents_stay_meant.ensures.same c.contents_have_one_state.ensures.same
    c.live_versions_see_their_events.ensures.unchanged c.live_versions_see_their_referents.ensures.unchanged
    c.live_versions_see_the_same.ensures.records c.live_versions_see_the_same.ensures.joined c.cleared_file_stands_for_the_same_state.ensures
    made.result from c.args.oldest state stands low high (made.ensures.clears ((begun g c).keeps.contents stands.contents stands.keeps).tied) c.settle.ensures.settles)

pub returns-in_err-begin_change-clause-leaves : goal.returns-in_err-begin_change-clause-leaves
returns-in_err-begin_change-clause-leaves g c =
    let at = store_over g.D.Disk c.self.inside.pager c.self.inside.file c.self.inside.catalog c.self.inside.referents in
    let now = store_over g.D.Disk c.begin_change.new.pager at.file at.catalog at.referents in
    let p = err_from_is_err_and c.from_residual.result c.from_residual.ensures.1 in
    rw (p.1, p.2) (subst (λ (s : StoreState g.row.D.Denot). LeavesReleased g.D.Disk {T = ℕ} (Err c.in_err-begin_change.field-0.0) s now) c.self.view_is
    (unreleased g.D.Disk {T = ℕ} c.in_err-begin_change.field-0.0 at c.begin_change.new.pager c.in_err-begin_change.ensures.begins))

pub returns-then-garbage-eq0-clause-releases : goal.returns-then-garbage-eq0-clause-releases
returns-then-garbage-eq0-clause-releases g c = λ from state stands low high.
    none_released g.D.Disk c.live_versions_see_the_same.ensures.directory c.args.self.now (grind (arith, nat_tests, c.garbage.ensures, c.if-garbage-eq0.true))
    from c.args.oldest state stands low high
