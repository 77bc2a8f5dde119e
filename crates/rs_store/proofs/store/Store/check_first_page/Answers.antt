-- Nothing changes, and a disk that has all that was written is not found damaged.
use Rattle.std.proofs.Common.{◌≡◌, ℕ, Err, subst}
use Rattle.rs_machine.specs.State.{State}
use Rattle.rs_pager.specs.Maps.{HoldsNoChange}
use Rattle.rs_pager.proofs.Lasting.{below_lasts}
use Rattle.rs_refusal.specs.declared.refusal.Refusal.TheVariants.{DamagedFile}
use Rattle.rs_store.specs.Calls.{KeepsStore}
use Rattle.rs_store.specs.Kept.{StandsIn, StoreState}
use Rattle.rs_store.proofs.Keeping.{keeps_by_maps, store_over}
use Rattle.rs_store.proofs.store.Store.check_first_page.Goals as goal

pub returns-clause-keeps : goal.returns-clause-keeps
returns-clause-keeps g c =
    let d = g.D.Disk in
    let was = c.self.inside in
    let last = c.check_first_page.new.self in
    subst (λ (s : StoreState g.row.D.Denot). KeepsStore d s (store_over d last was.file was.catalog was.referents)) c.self.view_is
    (keeps_by_maps d was.pager last was.file was.catalog was.referents c.check_first_page.ensures.keeps
    (below_lasts d was.pager last c.check_first_page.ensures.below))

pub returns-clause-sound : goal.returns-clause-sound
returns-clause-sound g c =
    subst (λ (s : StoreState g.row.D.Denot). HoldsNoChange s.pager → (oldest : ℕ) (state : State) → StandsIn g.D.Disk oldest s state
    → c.check_first_page.result ≡ Err DamagedFile → ⊥) c.self.view_is
    (λ written oldest state stands. c.check_first_page.ensures.sound stands.keeps.tied written) c.requires.written
