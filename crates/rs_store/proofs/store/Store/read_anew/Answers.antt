-- What is read is what was kept.
use Rattle.std.proofs.Common.{Ok, Err, ap, subst}
use Rattle.std.proofs.lemmas.Result.{err_from_is_err_and}
use Rattle.rs_file.specs.Contents.{Contents}
use Rattle.rs_pager.specs.Below.{KeepsBelow-trans}
use Rattle.rs_pager.specs.Maps.{KeepsBelow, KeepsChanges}
use Rattle.rs_pager.specs.Paged.{Paged}
use Rattle.rs_store.specs.Calls.{KeepsSame, Reopens}
use Rattle.rs_store.specs.Kept.{Keeps, StoreState}
use Rattle.rs_pager.proofs.Lasting.{below_lasts}
use Rattle.rs_store.proofs.HeldChanges.{below_by_forgetting, changes-trans, changes_by_forgetting, changes_by_reading, still_by_changes}
use Rattle.rs_store.proofs.Keeping.{keeps_anew, keeps_by_moves, keeps_store-trans, moves_by_maps, moves_by_reading, not_none, reopens_err, reopens_after, stands_anew, stands_kept, store_over}
use Rattle.rs_store.proofs.store.Store.read_anew.Goals as goal

pub returns-in_err-file-clause-reopens : goal.returns-in_err-file-clause-reopens
returns-in_err-file-clause-reopens g c =
    let d = g.D.Disk in
    let was = c.self.inside in
    let bare = c.forget.new.self in
    let last = c.load_state.new.pages in
    let over : (p : Paged g.row.D.Denot) → StoreState g.row.D.Denot = λ p. store_over d p was.file was.catalog was.referents in
    let dropped = keeps_by_moves d was.pager bare was.file was.catalog was.referents (moves_by_maps d was.pager bare c.forget.ensures.keeps
    (below_lasts d was.pager bare (below_by_forgetting d was.pager bare c.forget.ensures.forgets))) in
    let read = keeps_by_moves d bare last was.file was.catalog was.referents (moves_by_reading d c.load_state.result bare last c.load_state.ensures.rests) in
    let p = err_from_is_err_and c.from_residual.result c.from_residual.ensures.1 in
    rw (p.1, p.2) (subst (λ (s : StoreState g.row.D.Denot). Reopens d (Err c.in_err-file.field-0.0) s (over last)) c.self.view_is
    (reopens_err d c.in_err-file.field-0.0 (over was.pager) (over last) (keeps_store-trans d (over was.pager) (over bare) (over last) dropped read)
    (λ oldest state stands is.
    let still = stands_kept d oldest (over was.pager) (over bare) state dropped stands in
    not_none d oldest (over bare) state still (c.in_err-file.ensures.damaged still.keeps.tied (ap Err is)))
    (still_by_changes d was.pager last (changes-trans was.pager bare last (changes_by_forgetting d was.pager bare c.forget.ensures.forgets) (changes_by_reading d c.load_state.result bare last c.load_state.ensures.rests)))))

pub returns-in_err-file-clause-changes : goal.returns-in_err-file-clause-changes
returns-in_err-file-clause-changes g c =
    let d = g.D.Disk in
    let was = c.self.inside in
    let bare = c.forget.new.self in
    let last = c.load_state.new.pages in
    let p = err_from_is_err_and c.from_residual.result c.from_residual.ensures.1 in
    rw p.1 (subst (λ (s : StoreState g.row.D.Denot). KeepsChanges s.pager last) c.self.view_is
    (changes-trans was.pager bare last (changes_by_forgetting d was.pager bare c.forget.ensures.forgets) (changes_by_reading d c.load_state.result bare last c.load_state.ensures.rests)))

pub returns-clause-reopens : goal.returns-clause-reopens
returns-clause-reopens g c =
    let d = g.D.Disk in
    let was = c.self.inside in
    let bare = c.forget.new.self in
    let last = c.load_state.new.pages in
    let over : (p : Paged g.row.D.Denot) → StoreState g.row.D.Denot = λ p. store_over d p was.file was.catalog was.referents in
    let now = store_over d last c.in_ok-file.field-0.file c.in_ok-file.field-0.catalog c.in_ok-file.field-0.referents in
    let dropped = keeps_by_moves d was.pager bare was.file was.catalog was.referents (moves_by_maps d was.pager bare c.forget.ensures.keeps
    (below_lasts d was.pager bare (below_by_forgetting d was.pager bare c.forget.ensures.forgets))) in
    let moves = moves_by_reading d c.load_state.result bare last c.load_state.ensures.rests in
    let anew : (contents : Contents) → Keeps d (over bare) contents → KeepsSame d contents now =
    λ contents kept. keeps_anew d bare last c.in_ok-file.field-0.file c.in_ok-file.field-0.catalog c.in_ok-file.field-0.referents c.file_holds_one_thing.ensures moves was.file was.catalog was.referents contents kept (c.in_ok-file.ensures.loads kept.tied) in
    subst (λ (s : StoreState g.row.D.Denot). Reopens d (Ok tt) s now) c.self.view_is
    (reopens_after d (Ok tt) (over was.pager) (over bare) now dropped (record {
      same = anew;
      state = λ oldest state stands. stands_anew d c.meant_contents_stay_meant.ensures.says c.meant_contents_stay_meant.ensures.same c.contents_have_one_state.ensures.same oldest (over bare) now state stands
          (anew stands.contents stands.keeps);
      stays = λ contents kept. tt;
      file = tt;
      catalog = tt;
      referents = tt;
      changes = tt;
      sound = λ oldest state stands is. absurd cc;
      honesty = moves.honesty;
      limit = moves.limit;
      full = moves.full;
      endures = record { tied = moves.tied; committed = moves.committed_pages; lasts = moves.lasts };
    }) (still_by_changes d was.pager bare (changes_by_forgetting d was.pager bare c.forget.ensures.forgets)) tt)

pub returns-in_err-file-clause-below : goal.returns-in_err-file-clause-below
returns-in_err-file-clause-below g c =
    let d = g.D.Disk in
    let was = c.self.inside in
    let last = c.load_state.new.pages in
    subst (λ (s : StoreState g.row.D.Denot). KeepsBelow d s.pager last) c.self.view_is
    (KeepsBelow-trans d was.pager c.forget.new.self last (below_by_forgetting d was.pager c.forget.new.self c.forget.ensures.forgets) c.load_state.ensures.rests.below)

pub returns-clause-below : goal.returns-clause-below
returns-clause-below g c =
    let d = g.D.Disk in
    let was = c.self.inside in
    let last = c.load_state.new.pages in
    subst (λ (s : StoreState g.row.D.Denot). KeepsBelow d s.pager last) c.self.view_is
    (KeepsBelow-trans d was.pager c.forget.new.self last (below_by_forgetting d was.pager c.forget.new.self c.forget.ensures.forgets) c.load_state.ensures.rests.below)
