-- The referents of the route, as they lie in the pages that the store keeps.
use Rattle.std.proofs.Common.{◌≤◌, sym, subst}
use Rattle.rs_store.specs.Kept.{Keeps, StandsIn, StoreState}
use Rattle.rs_store.specs.Reading.{ReadsStore}
use Rattle.rs_store.proofs.Keeping.{store_over}
use Rattle.rs_store.proofs.TableReads.{reads_by_reading}
use Rattle.rs_store.proofs.Visible.{not_damaged, referents_there}
use Rattle.rs_store.proofs.store.Store.referents_at.Goals as goal

pub returns-clause-reads : goal.returns-clause-reads
returns-clause-reads g c =
    let d = g.D.Disk in
    let was = c.self.inside in
    let now = c.referents_of_route.new.pages in
    subst (λ (s : StoreState g.row.D.Denot). ReadsStore d s (store_over d now was.file was.catalog was.referents)) c.self.view_is
    (reads_by_reading d c.referents_of_route.result was.pager now was.file was.catalog was.referents c.referents_of_route.ensures.refused c.referents_of_route.ensures.rests)

pub returns-clause-sees : goal.returns-clause-sees
returns-clause-sees g c = λ oldest state stands low high.
    let d = g.D.Disk in
    let was = c.self.inside in
    let over = store_over d was.pager was.file was.catalog was.referents in
    let kept = subst (λ (s : StoreState g.row.D.Denot). Keeps d s stands.contents) (sym c.self.view_is) stands.keeps in
    let there : StandsIn d oldest over state =
    record { contents = stands.contents; keeps = kept; live = stands.live; meant = stands.meant; is = stands.is; views = stands.views } in
    referents_there d oldest over state there c.args.version low (subst (λ (s : StoreState g.row.D.Denot). c.args.version ≤ s.file.accepted) (sym c.self.view_is) high)
    c.args.route c.referents_of_route.result (c.referents_of_route.ensures.brings kept.tied)

pub returns-clause-sound : goal.returns-clause-sound
returns-clause-sound g c = λ oldest state stands low high damaged.
    let d = g.D.Disk in
    let was = c.self.inside in
    let over = store_over d was.pager was.file was.catalog was.referents in
    let kept = subst (λ (s : StoreState g.row.D.Denot). Keeps d s stands.contents) (sym c.self.view_is) stands.keeps in
    let there : StandsIn d oldest over state =
    record { contents = stands.contents; keeps = kept; live = stands.live; meant = stands.meant; is = stands.is; views = stands.views } in
    not_damaged d oldest over state there c.args.version low (subst (λ (s : StoreState g.row.D.Denot). c.args.version ≤ s.file.accepted) (sym c.self.view_is) high)
    (c.referents_of_route.ensures.damaged kept.tied damaged)
