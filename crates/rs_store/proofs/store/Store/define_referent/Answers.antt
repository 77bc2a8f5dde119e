-- The referent is put by a change of the file and of memory, which is kept or taken back.
use Rattle.std.proofs.Common.{◌≡◌, ◌<◌, ◌∙◌, ℕ, Err, Some, ap, subst, sym, false}
use Rattle.rs_catalog.specs.Referents.{at_number, referents_on}
use Rattle.rs_changes.specs.Changing.{ChangesFile}
use Rattle.rs_changes.specs.Parts.{PutsReferent}
use Rattle.rs_machine.specs.Lawful.{IsLawful}
use Rattle.rs_machine.specs.State.{State, has}
use Rattle.rs_machine.specs.Step.{with_referents}
use Rattle.rs_machine.specs.declared.limits.TheConstants.{CHANGES}
use Rattle.rs_pager.specs.Maps.{working}
use Rattle.rs_store.proofs.Changed.{given_so}
use Rattle.rs_store.proofs.Keeping.{store_over}
use Rattle.rs_store.proofs.Rows.{by_part, made_both, next_below}
use Rattle.rs_store.proofs.Settled.{has_begun, left_settled, left_unbegun, rests_settled, stands_at_first}
use Rattle.rs_store.specs.Bracket.{StandsNext}
use Rattle.rs_store.specs.Changing.{Always, HasBecome, LeavesStore}
use Rattle.rs_store.specs.Kept.{StoreState}
use Rattle.rs_store.specs.Settling.{HasBegun}
use Rattle.std.proofs.lemmas.Result.{err_from_is_err_and}
use Rattle.std.specs.FinMap as names
use Rattle.rs_store.proofs.store.Store.define_referent.Given.{Over}
use Rattle.rs_store.proofs.store.Store.define_referent.Goals as goal

module _ (g : Over) (c : goal.After-settle g) where
  abbrev was : StoreState g.row.D.Denot
  was = store_over g.D.Disk c.self.inside.pager c.self.inside.file c.self.inside.catalog c.self.inside.referents

  begun : HasBegun g.D.Disk was (store_over g.D.Disk c.begin_change.new.pager was.file was.catalog was.referents)
  begun = has_begun g.D.Disk was c.begin_change.new.pager c.in_ok-begin_change.ensures.begins

  room : was.file.accepted < CHANGES
  room = subst (λ (s : StoreState g.row.D.Denot). s.file.accepted < CHANGES) (sym c.self.view_is) c.requires.room

  abbrev now : StoreState g.row.D.Denot
  now = store_over g.D.Disk c.settle.new.pager c.settle.new.file was.catalog c.define_in_both-made.new.referents

pub define_in_both-made-requires-clause-may : goal.define_in_both-made-requires-clause-may
define_in_both-made-requires-clause-may g c = record {
  begun = c.in_ok-begin_change.ensures.begun;
  opened = c.self.invariant.rests.may;
  committed = c.self.invariant.rests.committed;
  room = subst (λ (s : StoreState g.row.D.Denot). s.file.accepted < CHANGES) (sym c.self.view_is) c.requires.room;
}

pub invariant_of-self-2 : goal.invariant_of-self-2
invariant_of-self-2 g c =
    let made = c.define_in_both-made in
    record {
      shut = c.settle.ensures.shut;
      rests = rests_settled g.D.Disk made.result made.new.pages c.settle.new.pager (was g c).file made.new.file c.settle.new.file (was g c).catalog
          c.self.invariant.rests (room g c) made.ensures.opened.next made.ensures.opened.stays c.settle.ensures.settles;
    }

pub returns-clause-leaves : goal.returns-clause-leaves
returns-clause-leaves g c =
    let made = c.define_in_both-made in
    given_so (λ r s. LeavesStore g.D.Disk Always r s (now g c)) made.result c.settle.result (was g c) c.args.self.now c.settle.ensures.same c.self.view_is
    (left_settled g.D.Disk (was g c) c.begin_change.new.pager made.new.pages c.settle.new.pager (was g c).file made.new.file c.settle.new.file (was g c).catalog (was g c).referents (begun g c) made.ensures.leaves.keeps
    {may = Always} made.result (was g c).file.definitions made.new.referents made.ensures.leaves.stores made.ensures.opened.next made.ensures.opened.stays c.self.invariant.rests.committed
    c.settle.ensures.settles made.ensures.back)

pub returns-clause-puts : goal.returns-clause-puts
returns-clause-puts g c = λ route on there numbered.
    let d = g.D.Disk in
    let made = c.define_in_both-made in
    let first = c.begin_change.new.pager in
    let one = c.args.referent.now in
    let name = one.name.bytes in
    let held = made.new.referents in
    let was = was g c in
    let next : State → State = λ state. with_referents state route (names.insert (state.referents route) name one.measure) in
    let route_there : names.get was.catalog.routes route ≡ Some on = ap (λ (s : StoreState g.row.D.Denot). names.get s.catalog.routes route) c.self.view_is ∙ there in
    given_so (λ r s. StandsNext d c.args.oldest (λ (state : State). (has (state.referents route) name ≡ false) × IsLawful (next state)) next r s (now g c))
    made.result c.settle.result was c.args.self.now c.settle.ensures.same c.self.view_is
    (λ from state stands low high allowed.
    made_both d (λ answer. ChangesFile c.args.oldest (working d first) (working d made.new.pages) was.file made.new.file (PutsReferent one.route name one.measure))
    (λ answer. HasBecome d c.args.oldest stands.contents (now g c) (next state))
    made.result made.new.pages c.settle.new.pager made.new.file c.settle.new.file (made.ensures.puts ((begun g c).keeps.contents stands.contents stands.keeps).tied) made.ensures.held c.settle.ensures.settles
    (λ answer changes put keeps. by_part g.D.Disk was c.begin_change.new.pager made.new.pages c.settle.new.pager was.file made.new.file c.settle.new.file was.catalog was.referents (begun g c) made.ensures.leaves.keeps
    c.kept_change_gives_its_state.ensures from c.args.oldest state stands low high (room g c) was.catalog held (next state) (PutsReferent on.number name one.measure)
    (subst (λ (n : ℕ). ChangesFile c.args.oldest (working d first) (working d made.new.pages) was.file made.new.file (PutsReferent n name one.measure)) (sym numbered) changes)
    (λ part turns. c.referent_put_gives_its_state.ensures from c.args.oldest (working d first) was.file was.catalog was.referents held state
    (stands_at_first g.D.Disk was c.begin_change.new.pager made.new.pages c.settle.new.pager was.file made.new.file c.settle.new.file was.catalog was.referents (begun g c) made.ensures.leaves.keeps from state stands) low
    (next_below g.D.Disk was c.begin_change.new.pager made.new.pages c.settle.new.pager was.file made.new.file c.settle.new.file was.catalog was.referents (begun g c) made.ensures.leaves.keeps c.kept_change_gives_its_state.ensures from c.args.oldest state stands low high (room g c))
    route name one.measure on part route_there allowed.0
    (subst (λ (n : ℕ). referents_on held ≡ at_number n (names.insert (referents_on was.referents n) name one.measure) (referents_on was.referents)) (sym numbered) put) turns allowed.1)
    allowed.1.views keeps))

pub returns-in_err-begin_change-clause-leaves : goal.returns-in_err-begin_change-clause-leaves
returns-in_err-begin_change-clause-leaves g c =
    let at = store_over g.D.Disk c.self.inside.pager c.self.inside.file c.self.inside.catalog c.self.inside.referents in
    let now = store_over g.D.Disk c.begin_change.new.pager at.file at.catalog at.referents in
    let p = err_from_is_err_and c.from_residual.result c.from_residual.ensures.1 in
    rw (p.1, p.2) (subst (λ (s : StoreState g.row.D.Denot). LeavesStore g.D.Disk Always {T = Unit {0}} (Err c.in_err-begin_change.field-0.0) s now) c.self.view_is
    (left_unbegun g.D.Disk {may = Always} {T = Unit {0}} c.in_err-begin_change.field-0.0 at c.begin_change.new.pager c.in_err-begin_change.ensures.begins))
