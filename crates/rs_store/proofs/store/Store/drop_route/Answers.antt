-- The route is neither in the file nor in memory, and so it is not in the state.
use Rattle.std.proofs.Common.{◌≡◌, ◌<◌, ◌+◌, ◌∙◌, Err, Some, ap, false, subst, sym}
use Rattle.rs_catalog.specs.Changes as changes
use Rattle.rs_catalog.specs.Definitions.{Definitions, RouteItem}
use Rattle.rs_catalog.specs.Uses.{some_piece_on}
use Rattle.rs_changes.specs.Parts.{DropsRoute}
use Rattle.rs_machine.specs.Lawful.{IsLawful}
use Rattle.rs_machine.specs.State.{State, has}
use Rattle.rs_machine.specs.Step.{without_route}
use Rattle.rs_machine.specs.declared.limits.TheConstants.{CHANGES}
use Rattle.rs_store.proofs.Placed.{has_one}
use Rattle.rs_store.proofs.RouteLess.{less_gives, less_kept}
use Rattle.rs_store.specs.Bracket.{StandsNext}
use Rattle.rs_store.specs.Changing.{LeavesStore}
use Rattle.rs_store.specs.Kept.{StoreState}
use Rattle.rs_store.specs.Routing.{HasNoFactOn}
use Rattle.rs_store.specs.Settling.{HasBegun}
use Rattle.rs_stored_catalog.specs.Listing.{listing_of}
use Rattle.std.proofs.lemmas.Result.{err_from_is_err_and}
use Rattle.std.specs.FinMap as names
use Rattle.rs_store.proofs.Changed.{err_alike, given_so, ok_of, redefined_becomes, redefined_left, redefined_rests}
use Rattle.rs_store.proofs.Keeping.{store_over}
use Rattle.rs_store.proofs.Settled.{has_begun, left_unbegun}
use Rattle.rs_store.proofs.store.Store.drop_route.Given.{Over}
use Rattle.rs_store.proofs.store.Store.drop_route.Goals as goal

module _ (g : Over) (c : goal.After-settle g) where
  abbrev was : StoreState g.row.D.Denot
  was = store_over g.D.Disk c.self.inside.pager c.self.inside.file c.self.inside.catalog c.self.inside.referents

  begun : HasBegun g.D.Disk was (store_over g.D.Disk c.begin_change.new.pager was.file was.catalog was.referents)
  begun = has_begun g.D.Disk was c.begin_change.new.pager c.in_ok-begin_change.ensures.begins

  room : was.file.accepted < CHANGES
  room = subst (λ (s : StoreState g.row.D.Denot). s.file.accepted < CHANGES) (sym c.self.view_is) c.requires.room

  abbrev next : Definitions
  next = changes.without_route was.catalog c.args.name.now.bytes

  abbrev after : State → State
  after state = without_route state c.args.name.now.bytes

  abbrev may : State → Type 0
  may state = HasNoFactOn c.args.name.now.bytes state × IsLawful (after state)

  one : (item : RouteItem) × (names.get was.catalog.routes c.args.name.now.bytes ≡ Some item)
  one = has_one was.catalog.routes c.args.name.now.bytes (ap (λ (s : StoreState g.row.D.Denot). has s.catalog.routes c.args.name.now.bytes) c.self.view_is ∙ c.requires.there)

  unused : some_piece_on was.catalog c.args.name.now.bytes ≡ false
  unused = ap (λ (s : StoreState g.row.D.Denot). some_piece_on s.catalog c.args.name.now.bytes) c.self.view_is ∙ c.requires.unused

  abbrev now : StoreState g.row.D.Denot
  now = store_over g.D.Disk c.settle.new.pager c.settle.new.file c.drop_route_from_all-made.new.catalog c.drop_route_from_all-made.new.referents

pub invariant_of-self-2 : goal.invariant_of-self-2
invariant_of-self-2 g c =
    let made = c.drop_route_from_all-made in
    let redefines = (c.drop_route_from_all-made.ensures.redefines (one g c).0 (one g c).1) in
    record {
      shut = c.settle.ensures.shut;
      rests = redefined_rests g.D.Disk (was g c) c.begin_change.new.pager made.new.pages c.settle.new.pager made.new.file c.settle.new.file (begun g c)
          c.args.oldest (DropsRoute (one g c).0.number (listing_of (next g c))) (next g c) made.result made.new.catalog redefines c.settle.ensures.settles c.self.invariant.rests (room g c) c.self.invariant.rests.columns;
    }

pub returns-clause-leaves : goal.returns-clause-leaves
returns-clause-leaves g c =
    let made = c.drop_route_from_all-made in
    given_so (λ r s. LeavesStore g.D.Disk (may g c) r s (now g c)) made.result c.settle.result (was g c) c.args.self.now c.settle.ensures.same c.self.view_is
    (redefined_left g.D.Disk (was g c) c.begin_change.new.pager made.new.pages c.settle.new.pager made.new.file c.settle.new.file (begun g c) {may = may g c}
    c.args.oldest (DropsRoute (one g c).0.number (listing_of (next g c))) (next g c) made.result made.new.catalog c.drop_route_from_all-made.new.referents (c.drop_route_from_all-made.ensures.redefines (one g c).0 (one g c).1) c.settle.ensures.settles (err_alike made.result made.new.referents (was g c).referents made.ensures.back) c.self.invariant.rests.committed
    (λ is from state stands allowed. less_kept g.D.Disk (was g c) (room g c) c.store_stands_in_one_state.ensures.state c.args.name.now.bytes (one g c).0 c.stand.ensures (one g c).1 (unused g c)
    c.state_has_one_route_more_or_less.ensures.less c.listed_definitions_of_a_lawful_catalogue_are_meant.ensures.meant c.self.invariant.rests.listing from state stands
    c.shortest_line_defines_the_view.ensures.readable allowed))

pub returns-clause-drops : goal.returns-clause-drops
returns-clause-drops g c = λ past.
    let made = c.drop_route_from_all-made in
    given_so (λ r s. StandsNext g.D.Disk c.args.oldest (may g c) (after g c) r s (now g c)) made.result c.settle.result (was g c) c.args.self.now c.settle.ensures.same c.self.view_is
    (λ from state stands low high allowed. redefined_becomes g.D.Disk (was g c) c.begin_change.new.pager made.new.pages c.settle.new.pager made.new.file c.settle.new.file (begun g c)
    c.args.oldest (DropsRoute (one g c).0.number (listing_of (next g c))) (next g c) made.result made.new.catalog c.drop_route_from_all-made.new.referents (c.drop_route_from_all-made.ensures.redefines (one g c).0 (one g c).1) c.settle.ensures.settles c.kept_change_gives_its_state.ensures (room g c)
    from state (after g c state) stands low high (λ some. ok_of made.result (λ ended part drops. less_gives g.D.Disk (was g c) (room g c) c.store_stands_in_one_state.ensures.state c.args.name.now.bytes (one g c).0 c.stand.ensures (one g c).1 (unused g c)
    c.route_dropped_gives_its_state.ensures made.new.referents ended from c.args.oldest state stands (past ∙ ap (λ (s : StoreState g.row.D.Denot). s.file.accepted + 1) (sym c.self.view_is)) allowed part drops)
    (made.ensures.ended (one g c).0 (one g c).1)) allowed.1.views)

pub drop_route_from_all-made-requires-clause-there : goal.drop_route_from_all-made-requires-clause-there
drop_route_from_all-made-requires-clause-there g c = ap (λ (s : StoreState g.row.D.Denot). has s.catalog.routes c.args.name.now.bytes) c.self.view_is ∙ c.requires.there

pub drop_route_from_all-made-requires-clause-unused : goal.drop_route_from_all-made-requires-clause-unused
drop_route_from_all-made-requires-clause-unused g c = ap (λ (s : StoreState g.row.D.Denot). some_piece_on s.catalog c.args.name.now.bytes) c.self.view_is ∙ c.requires.unused

pub drop_route_from_all-made-requires-clause-room : goal.drop_route_from_all-made-requires-clause-room
drop_route_from_all-made-requires-clause-room g c = subst (λ (s : StoreState g.row.D.Denot). s.file.accepted < CHANGES) (sym c.self.view_is) c.requires.room

pub returns-in_err-begin_change-clause-leaves : goal.returns-in_err-begin_change-clause-leaves
returns-in_err-begin_change-clause-leaves g c =
    let at = store_over g.D.Disk c.self.inside.pager c.self.inside.file c.self.inside.catalog c.self.inside.referents in
    let now = store_over g.D.Disk c.begin_change.new.pager at.file at.catalog at.referents in
    let may : State → Type 0 = λ state. HasNoFactOn c.args.name.now.bytes state × IsLawful (without_route state c.args.name.now.bytes) in
    let p = err_from_is_err_and c.from_residual.result c.from_residual.ensures.1 in
    rw (p.1, p.2) (subst (λ (s : StoreState g.row.D.Denot). LeavesStore g.D.Disk may {T = Unit {0}} (Err c.in_err-begin_change.field-0.0) s now) c.self.view_is
    (left_unbegun g.D.Disk {may = may} {T = Unit {0}} c.in_err-begin_change.field-0.0 at c.begin_change.new.pager c.in_err-begin_change.ensures.begins))
