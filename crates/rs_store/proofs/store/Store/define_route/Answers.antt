-- The route is in the file and in memory, and so it is in the state.
use Rattle.std.proofs.Common.{◌≡◌, ◌<◌, ◌+◌, ◌∙◌, ℕ, Err, ap, refl, subst, sym}
use Rattle.rs_catalog.specs.Changes as changes
use Rattle.rs_catalog.specs.Definitions.{AreDefinitions, Definitions, IsFree, RouteItem}
use Rattle.rs_catalog.specs.Referents.{referents_on}
use Rattle.rs_file_parts.specs.Calls.{ChangesDefinitions}
use Rattle.rs_machine.specs.Lawful.{IsLawful}
use Rattle.rs_machine.specs.State.{State, has}
use Rattle.rs_machine.specs.Step.{with_route}
use Rattle.rs_machine.specs.declared.limits.TheConstants.{CHANGES, ROUTES}
use Rattle.rs_pager.specs.Maps.{committed}
use Rattle.rs_store.proofs.Redefined.{Gives, given_kept, next_lives, stands_still}
use Rattle.rs_store.proofs.Results.{err_always, ok_always}
use Rattle.rs_store.specs.Bracket.{StandsNext}
use Rattle.rs_store.specs.Changing.{LeavesStore}
use Rattle.rs_store.specs.Kept.{StoreState}
use Rattle.rs_store.specs.Settling.{HasBegun}
use Rattle.rs_stored_catalog.specs.Listing.{listing_of}
use Rattle.std.proofs.lemmas.Result.{err_from_is_err_and}
use Rattle.std.specs.FinMap as names
use Rattle.rs_store.proofs.Changed.{given_so, redefined_becomes, redefined_left, redefined_rests}
use Rattle.rs_store.proofs.Keeping.{store_over}
use Rattle.rs_store.proofs.Settled.{has_begun, left_unbegun}
use Rattle.rs_store.proofs.store.Store.define_route.Given.{Over}
use Rattle.rs_store.proofs.store.Store.define_route.Goals as goal

module _ (g : Over) (c : goal.After-settle g) where
  abbrev was : StoreState g.row.D.Denot
  was = store_over g.D.Disk c.self.inside.pager c.self.inside.file c.self.inside.catalog c.self.inside.referents

  begun : HasBegun g.D.Disk was (store_over g.D.Disk c.begin_change.new.pager was.file was.catalog was.referents)
  begun = has_begun g.D.Disk was c.begin_change.new.pager c.in_ok-begin_change.ensures.begins

  room : was.file.accepted < CHANGES
  room = subst (λ (s : StoreState g.row.D.Denot). s.file.accepted < CHANGES) (sym c.self.view_is) c.requires.room

  abbrev number : ℕ
  number = c.define_route_in_both-made.ensures.number

  abbrev item : RouteItem
  item = record { number = number; born = was.file.accepted + 1; ends = record { start = c.args.start; finish = c.args.finish } }

  abbrev next : Definitions
  next = changes.with_route was.catalog c.args.name.bytes item

  abbrev after : State → State
  after state = with_route state c.args.name.bytes c.args.start c.args.finish

  abbrev may : State → Type 0
  may state = IsLawful (after state)

  gives : AreDefinitions next × IsFree (λ (x : RouteItem). x.number) was.catalog.routes number → Gives g.D.Disk was next may after
  gives numbered from oldest state stands low allowed part changed =
      let level : stands.contents.directory.accepted ≡ was.file.accepted = stands.keeps.opened.accepted in
      c.route_defined_gives_its_state.ensures from oldest (committed g.D.Disk was.pager) was.file was.catalog was.referents state (stands_still g.D.Disk was from state stands) low
      (next_lives g.D.Disk was from state stands room) c.args.name.bytes item part numbered.0
      (ap (λ (s : StoreState g.row.D.Denot). has s.catalog.routes c.args.name.bytes) c.self.view_is ∙ c.requires.new) numbered.1 (ap (λ (v : ℕ). v + 1) (sym level)) changed allowed

  abbrev now : StoreState g.row.D.Denot
  now = store_over g.D.Disk c.settle.new.pager c.settle.new.file c.define_route_in_both-made.new.catalog was.referents

pub invariant_of-self-2 : goal.invariant_of-self-2
invariant_of-self-2 g c =
    let made = c.define_route_in_both-made in
    let redefines = c.define_route_in_both-made.ensures.redefines in
    record {
      shut = c.settle.ensures.shut;
      rests = redefined_rests g.D.Disk (was g c) c.begin_change.new.pager made.new.pages c.settle.new.pager made.new.file c.settle.new.file (begun g c)
          c.args.oldest (ChangesDefinitions (listing_of (next g c))) (next g c) made.result made.new.catalog redefines c.settle.ensures.settles c.self.invariant.rests (room g c) c.self.invariant.rests.columns;
    }

pub returns-clause-leaves : goal.returns-clause-leaves
returns-clause-leaves g c =
    let made = c.define_route_in_both-made in
    given_so (λ r s. LeavesStore g.D.Disk (may g c) r s (now g c)) made.result c.settle.result (was g c) c.args.self.now c.settle.ensures.same c.self.view_is
    (redefined_left g.D.Disk (was g c) c.begin_change.new.pager made.new.pages c.settle.new.pager made.new.file c.settle.new.file (begun g c) {may = may g c}
    c.args.oldest (ChangesDefinitions (listing_of (next g c))) (next g c) made.result made.new.catalog (was g c).referents c.define_route_in_both-made.ensures.redefines c.settle.ensures.settles (err_always {P = (route : ℕ) → referents_on (was g c).referents route ≡ referents_on (was g c).referents route} made.result (λ route. refl)) c.self.invariant.rests.committed
    (λ is. given_kept g.D.Disk (was g c) c.shortest_line_defines_the_view.ensures.readable (next g c) (may g c) (after g c) (gives g c (made.ensures.numbered (λ none. absurd (cc (is, none)))))))

pub returns-clause-defines : goal.returns-clause-defines
returns-clause-defines g c =
    let made = c.define_route_in_both-made in
    given_so (λ r s. StandsNext g.D.Disk c.args.oldest (may g c) (after g c) r s (now g c)) made.result c.settle.result (was g c) c.args.self.now c.settle.ensures.same c.self.view_is
    (λ from state stands low high allowed. redefined_becomes g.D.Disk (was g c) c.begin_change.new.pager made.new.pages c.settle.new.pager made.new.file c.settle.new.file (begun g c)
    c.args.oldest (ChangesDefinitions (listing_of (next g c))) (next g c) made.result made.new.catalog (was g c).referents c.define_route_in_both-made.ensures.redefines c.settle.ensures.settles c.kept_change_gives_its_state.ensures (room g c)
    from state (after g c state) stands low high (λ some. ok_always made.result (λ part changed. gives g c (made.ensures.numbered some) from c.args.oldest state stands low allowed part changed)) allowed.views)

pub define_route_in_both-made-requires-clause-new : goal.define_route_in_both-made-requires-clause-new
define_route_in_both-made-requires-clause-new g c = ap (λ (s : StoreState g.row.D.Denot). has s.catalog.routes c.args.name.bytes) c.self.view_is ∙ c.requires.new

pub define_route_in_both-made-requires-clause-few : goal.define_route_in_both-made-requires-clause-few
define_route_in_both-made-requires-clause-few g c = subst (λ (s : StoreState g.row.D.Denot). names.len s.catalog.routes < ROUTES) (sym c.self.view_is) c.requires.few

pub define_route_in_both-made-requires-clause-room : goal.define_route_in_both-made-requires-clause-room
define_route_in_both-made-requires-clause-room g c = subst (λ (s : StoreState g.row.D.Denot). s.file.accepted < CHANGES) (sym c.self.view_is) c.requires.room

pub returns-in_err-begin_change-clause-leaves : goal.returns-in_err-begin_change-clause-leaves
returns-in_err-begin_change-clause-leaves g c =
    let at = store_over g.D.Disk c.self.inside.pager c.self.inside.file c.self.inside.catalog c.self.inside.referents in
    let now = store_over g.D.Disk c.begin_change.new.pager at.file at.catalog at.referents in
    let may : State → Type 0 = λ state. IsLawful (with_route state c.args.name.bytes c.args.start c.args.finish) in
    let p = err_from_is_err_and c.from_residual.result c.from_residual.ensures.1 in
    rw (p.1, p.2) (subst (λ (s : StoreState g.row.D.Denot). LeavesStore g.D.Disk may {T = Unit {0}} (Err c.in_err-begin_change.field-0.0) s now) c.self.view_is
    (left_unbegun g.D.Disk {may = may} {T = Unit {0}} c.in_err-begin_change.field-0.0 at c.begin_change.new.pager c.in_err-begin_change.ensures.begins))
