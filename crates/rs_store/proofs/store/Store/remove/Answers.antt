-- The rows are taken away by a change of the file, which is kept or taken back.
use Rattle.std.proofs.Common.{◌≡◌, ◌≤◌, ◌<◌, ◌+◌, ℕ, Err, IfOk, Some, refl, subst, sym}
use Rattle.rs_catalog.specs.Definitions.{IsFree, TableItem}
use Rattle.rs_catalog.specs.Referents.{referents_on}
use Rattle.rs_changes.specs.Changing.{ChangesFile}
use Rattle.rs_changes.specs.Parts.{RemovesRows}
use Rattle.rs_facts.specs.Fact.{Name}
use Rattle.rs_facts.specs.Query.{Table}
use Rattle.rs_facts.specs.Remove.{removed_facts}
use Rattle.rs_machine.specs.Lawful.{IsLawful}
use Rattle.rs_machine.specs.State.{State}
use Rattle.rs_machine.specs.Step.{with_table, without_facts}
use Rattle.rs_machine.specs.declared.limits.TheConstants.{CHANGES}
use Rattle.rs_pager.specs.Maps.{working}
use Rattle.rs_spans.specs.Removal.{goes_by}
use Rattle.rs_store.proofs.Changed.{given_so}
use Rattle.rs_store.proofs.Keeping.{store_over}
use Rattle.rs_store.proofs.Placed.{number_there, place_below}
use Rattle.rs_store.proofs.Results.{err_always}
use Rattle.rs_store.proofs.Rows.{made_and_kept, rows_taken}
use Rattle.rs_store.proofs.Settled.{has_begun, left_settled, left_unbegun, rests_settled}
use Rattle.rs_store.specs.Changing.{Always, HasBecome, HaveNumbers, LeavesStore}
use Rattle.rs_store.specs.Kept.{StandsIn}
use Rattle.rs_store.specs.Kept.{StoreState}
use Rattle.rs_store.specs.Settling.{HasBegun}
use Rattle.std.proofs.lemmas.Result.{err_from_is_err_and}
use Rattle.std.specs.FinMap as names
use Rattle.rs_store.proofs.store.Store.remove.Given.{Over}
use Rattle.rs_store.proofs.store.Store.remove.Goals as goal

module _ (g : Over) (c : goal.Joined-removal-5 g) where
  abbrev was : StoreState g.row.D.Denot
  was = store_over g.D.Disk c.self.inside.pager c.self.inside.file c.self.inside.catalog c.self.inside.referents

  begun : HasBegun g.D.Disk was (store_over g.D.Disk c.begin_change.new.pager was.file was.catalog was.referents)
  begun = has_begun g.D.Disk was c.begin_change.new.pager c.in_ok-begin_change.ensures.begins

  room : was.file.accepted < CHANGES
  room = subst (λ (s : StoreState g.row.D.Denot). s.file.accepted < CHANGES) (sym c.self.view_is) c.requires.room

  abbrev now : StoreState g.row.D.Denot
  now = store_over g.D.Disk c.settle.new.pager c.settle.new.file was.catalog was.referents

pub numbered_place-requires : goal.numbered_place-requires
numbered_place-requires g c =
    let some = subst (λ (s : StoreState g.row.D.Denot). IsFree (λ (item : TableItem). item.number) s.catalog.tables c.args.table → ⊥) (sym c.self.view_is) c.requires.table in
    λ none. some (λ name item there numbered. number_there c.self.inside.file c.self.inside.catalog c.self.invariant.rests name item c.args.table there numbered none)

pub remove-made-requires-clause-place : goal.remove-made-requires-clause-place
remove-made-requires-clause-place g c =
    place_below c.self.inside.file c.self.inside.catalog c.self.invariant.rests c.args.table c.numbered_place.result c.numbered_place.ensures

pub remove-made-requires-clause-may : goal.remove-made-requires-clause-may
remove-made-requires-clause-may g c = record {
  begun = c.in_ok-begin_change.ensures.begun;
  opened = c.self.invariant.rests.may;
  committed = c.self.invariant.rests.committed;
  room = subst (λ (s : StoreState g.row.D.Denot). s.file.accepted < CHANGES) (sym c.self.view_is) c.requires.room;
}

pub invariant_of-self-2 : goal.invariant_of-self-2
invariant_of-self-2 g c =
    let made = c.remove-made in
    record {
      shut = c.settle.ensures.shut;
      rests = rests_settled g.D.Disk made.result made.new.pages c.settle.new.pager (was g c).file made.new.file c.settle.new.file (was g c).catalog
          c.self.invariant.rests (room g c) made.ensures.opened.next made.ensures.opened.stays c.settle.ensures.settles;
    }

pub returns-clause-leaves : goal.returns-clause-leaves
returns-clause-leaves g c =
    let made = c.remove-made in
    given_so (λ r s. LeavesStore g.D.Disk Always r s (now g c)) made.result c.settle.result (was g c) c.args.self.now c.settle.ensures.same c.self.view_is
    (left_settled g.D.Disk (was g c) c.begin_change.new.pager made.new.pages c.settle.new.pager (was g c).file made.new.file c.settle.new.file (was g c).catalog (was g c).referents (begun g c) made.ensures.leaves.keeps
    {may = Always} made.result (was g c).file.definitions (was g c).referents made.ensures.leaves.stores made.ensures.opened.next made.ensures.opened.stays c.self.invariant.rests.committed
    c.settle.ensures.settles (err_always {P = (route : ℕ) → referents_on (was g c).referents route ≡ referents_on (was g c).referents route} made.result (λ route. refl)))

pub returns-clause-removes : goal.returns-clause-removes
returns-clause-removes g c =
    let d = g.D.Disk in
    let made = c.remove-made in
    let first = c.begin_change.new.pager in
    let lo = c.args.section.lo in
    let hi = c.args.section.hi in
    let goes = goes_by c.args.goes in
    let place = c.numbered_place.result in
    given_so (λ r s. (name on : Name) → HaveNumbers s.catalog name on c.args.table c.args.route → (from : ℕ) (state : State) (stands : StandsIn d from s state)
    → from ≤ c.args.oldest → c.args.oldest ≤ s.file.accepted + 1 → (there : Table) → names.get state.tables name ≡ Some there
    → IsLawful (with_table state name (without_facts there on lo hi goes))
    → IfOk r (λ count. HasBecome d c.args.oldest stands.contents (now g c) (with_table state name (without_facts there on lo hi goes)) × (count ≡ removed_facts there.facts on lo hi goes)))
    made.result c.settle.result (was g c) c.args.self.now c.settle.ensures.same c.self.view_is
    (λ name on have from state stands low high there is lawful.
    made_and_kept d
    (λ count. ChangesFile c.args.oldest (working d first) (working d made.new.pages) (was g c).file made.new.file (RemovesRows place c.args.route lo hi c.args.goes count))
    (λ count. HasBecome d c.args.oldest stands.contents (now g c) (with_table state name (without_facts there on lo hi goes)) × (count ≡ removed_facts there.facts on lo hi goes))
    made.result made.new.pages c.settle.new.pager made.new.file c.settle.new.file (made.ensures.removes ((begun g c).keeps.contents stands.contents stands.keeps).tied) c.settle.ensures.settles
    (λ count changes keeps. rows_taken g.D.Disk (was g c) c.begin_change.new.pager made.new.pages c.settle.new.pager (was g c).file made.new.file c.settle.new.file (was g c).catalog (was g c).referents (begun g c) made.ensures.leaves.keeps
    c.kept_change_gives_its_state.ensures from c.args.oldest state stands low high (room g c) c.rows_taken_away_give_their_state.ensures name on c.args.table c.args.route have
    place lo hi c.args.goes c.numbered_place.ensures there is lawful count changes keeps))

pub returns-in_err-begin_change-clause-leaves : goal.returns-in_err-begin_change-clause-leaves
returns-in_err-begin_change-clause-leaves g c =
    let at = store_over g.D.Disk c.self.inside.pager c.self.inside.file c.self.inside.catalog c.self.inside.referents in
    let now = store_over g.D.Disk c.begin_change.new.pager at.file at.catalog at.referents in
    let p = err_from_is_err_and c.from_residual.result c.from_residual.ensures.1 in
    rw (p.1, p.2) (subst (λ (s : StoreState g.row.D.Denot). LeavesStore g.D.Disk Always {T = ℕ} (Err c.in_err-begin_change.field-0.0) s now) c.self.view_is
    (left_unbegun g.D.Disk {may = Always} {T = ℕ} c.in_err-begin_change.field-0.0 at c.begin_change.new.pager c.in_err-begin_change.ensures.begins))
