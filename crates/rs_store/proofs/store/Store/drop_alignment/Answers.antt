-- The alignment is neither in the file nor in memory, and so it is not in the state.
use Rattle.std.proofs.Common.{◌≡◌, ◌<◌, ◌∙◌, ℕ, Err, List, Some, ap, refl, subst, sym}
use Rattle.rs_catalog.specs.Changes as changes
use Rattle.rs_catalog.specs.Definitions.{Definitions}
use Rattle.rs_catalog.specs.Referents.{referents_on}
use Rattle.rs_facts.specs.Query.{Piece}
use Rattle.rs_file_parts.specs.Calls.{ChangesDefinitions}
use Rattle.rs_machine.specs.Lawful.{IsLawful}
use Rattle.rs_machine.specs.State.{State, has}
use Rattle.rs_machine.specs.Step.{without_alignment}
use Rattle.rs_machine.specs.declared.limits.TheConstants.{CHANGES}
use Rattle.rs_pager.specs.Maps.{committed}
use Rattle.rs_store.proofs.Redefined.{Gives, given_kept, next_lives, stands_still, stood_there}
use Rattle.rs_store.proofs.Results.{err_always, ok_always}
use Rattle.rs_store.specs.Bracket.{StandsNext}
use Rattle.rs_store.specs.Changing.{LeavesStore}
use Rattle.rs_store.specs.Kept.{StoreState}
use Rattle.rs_store.specs.Settling.{HasBegun}
use Rattle.rs_stored_catalog.specs.Listing.{listing_of}
use Rattle.std.proofs.lemmas.Result.{err_from_is_err_and}
use Rattle.std.specs.FinMap as names
use Rattle.rs_store.proofs.Changed.{given_so, redefined_becomes, redefined_left, redefined_rests}
use Rattle.rs_store.proofs.Keeping.{store_over}
use Rattle.rs_store.proofs.Settled.{has_begun, left_unbegun}
use Rattle.rs_store.proofs.store.Store.drop_alignment.Given.{Over}
use Rattle.rs_store.proofs.store.Store.drop_alignment.Goals as goal

module _ (g : Over) (c : goal.After-settle g) where
  abbrev was : StoreState g.row.D.Denot
  was = store_over g.D.Disk c.self.inside.pager c.self.inside.file c.self.inside.catalog c.self.inside.referents

  begun : HasBegun g.D.Disk was (store_over g.D.Disk c.begin_change.new.pager was.file was.catalog was.referents)
  begun = has_begun g.D.Disk was c.begin_change.new.pager c.in_ok-begin_change.ensures.begins

  room : was.file.accepted < CHANGES
  room = subst (λ (s : StoreState g.row.D.Denot). s.file.accepted < CHANGES) (sym c.self.view_is) c.requires.room

  abbrev next : Definitions
  next = changes.without_alignment was.catalog c.args.name.now.bytes

  abbrev after : State → State
  after state = without_alignment state c.args.name.now.bytes

  abbrev may : State → Type 0
  may state = IsLawful (after state)

  there : (item : List Piece) × (names.get was.catalog.alignments c.args.name.now.bytes ≡ Some item)
  there = stood_there was.catalog.alignments c.args.name.now.bytes (ap (λ (s : StoreState g.row.D.Denot). has s.catalog.alignments c.args.name.now.bytes) c.self.view_is ∙ c.requires.there)

  gives : Gives g.D.Disk was next may after
  gives from oldest state stands low allowed part changed =
      c.alignment_listed_gives_its_state.ensures.dropped from oldest (committed g.D.Disk was.pager) was.file was.catalog was.referents state (stands_still g.D.Disk was from state stands) low
      (next_lives g.D.Disk was from state stands room) c.args.name.now.bytes there.0 part there.1 changed allowed

  abbrev now : StoreState g.row.D.Denot
  now = store_over g.D.Disk c.settle.new.pager c.settle.new.file c.drop_alignment_from_both-made.new.catalog was.referents

pub invariant_of-self-2 : goal.invariant_of-self-2
invariant_of-self-2 g c =
    let made = c.drop_alignment_from_both-made in
    let redefines = c.drop_alignment_from_both-made.ensures in
    record {
      shut = c.settle.ensures.shut;
      rests = redefined_rests g.D.Disk (was g c) c.begin_change.new.pager made.new.pages c.settle.new.pager made.new.file c.settle.new.file (begun g c)
          c.args.oldest (ChangesDefinitions (listing_of (next g c))) (next g c) made.result made.new.catalog redefines c.settle.ensures.settles c.self.invariant.rests (room g c) c.self.invariant.rests.columns;
    }

pub returns-clause-leaves : goal.returns-clause-leaves
returns-clause-leaves g c =
    let made = c.drop_alignment_from_both-made in
    given_so (λ r s. LeavesStore g.D.Disk (may g c) r s (now g c)) made.result c.settle.result (was g c) c.args.self.now c.settle.ensures.same c.self.view_is
    (redefined_left g.D.Disk (was g c) c.begin_change.new.pager made.new.pages c.settle.new.pager made.new.file c.settle.new.file (begun g c) {may = may g c}
    c.args.oldest (ChangesDefinitions (listing_of (next g c))) (next g c) made.result made.new.catalog (was g c).referents c.drop_alignment_from_both-made.ensures c.settle.ensures.settles (err_always {P = (route : ℕ) → referents_on (was g c).referents route ≡ referents_on (was g c).referents route} made.result (λ route. refl)) c.self.invariant.rests.committed
    (λ is. given_kept g.D.Disk (was g c) c.shortest_line_defines_the_view.ensures.readable (next g c) (may g c) (after g c) (gives g c)))

pub returns-clause-drops : goal.returns-clause-drops
returns-clause-drops g c =
    let made = c.drop_alignment_from_both-made in
    given_so (λ r s. StandsNext g.D.Disk c.args.oldest (may g c) (after g c) r s (now g c)) made.result c.settle.result (was g c) c.args.self.now c.settle.ensures.same c.self.view_is
    (λ from state stands low high allowed. redefined_becomes g.D.Disk (was g c) c.begin_change.new.pager made.new.pages c.settle.new.pager made.new.file c.settle.new.file (begun g c)
    c.args.oldest (ChangesDefinitions (listing_of (next g c))) (next g c) made.result made.new.catalog (was g c).referents c.drop_alignment_from_both-made.ensures c.settle.ensures.settles c.kept_change_gives_its_state.ensures (room g c)
    from state (after g c state) stands low high (λ some. ok_always made.result (λ part changed. gives g c from c.args.oldest state stands low allowed part changed)) allowed.views)

pub drop_alignment_from_both-made-requires-clause-room : goal.drop_alignment_from_both-made-requires-clause-room
drop_alignment_from_both-made-requires-clause-room g c = subst (λ (s : StoreState g.row.D.Denot). s.file.accepted < CHANGES) (sym c.self.view_is) c.requires.room

pub returns-in_err-begin_change-clause-leaves : goal.returns-in_err-begin_change-clause-leaves
returns-in_err-begin_change-clause-leaves g c =
    let at = store_over g.D.Disk c.self.inside.pager c.self.inside.file c.self.inside.catalog c.self.inside.referents in
    let now = store_over g.D.Disk c.begin_change.new.pager at.file at.catalog at.referents in
    let may : State → Type 0 = λ state. IsLawful (without_alignment state c.args.name.now.bytes) in
    let p = err_from_is_err_and c.from_residual.result c.from_residual.ensures.1 in
    rw (p.1, p.2) (subst (λ (s : StoreState g.row.D.Denot). LeavesStore g.D.Disk may {T = Unit {0}} (Err c.in_err-begin_change.field-0.0) s now) c.self.view_is
    (left_unbegun g.D.Disk {may = may} {T = Unit {0}} c.in_err-begin_change.field-0.0 at c.begin_change.new.pager c.in_err-begin_change.ensures.begins))
