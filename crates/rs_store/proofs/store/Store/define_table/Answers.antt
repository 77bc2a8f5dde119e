-- The table is in the file and in memory, and so it is in the state.
use Rattle.std.proofs.Common.{◌≡◌, ◌<◌, ◌∙◌, ℕ, Err, ap, false, map, refl, subst, sym}
use Rattle.rs_catalog.specs.Changes as changes
use Rattle.rs_catalog.specs.Definitions.{Definitions, TableItem}
use Rattle.rs_catalog.specs.Referents.{referents_on}
use Rattle.rs_catalog_pages.specs.Said.{said_catalogue}
use Rattle.rs_machine.specs.Lawful.{IsLawful}
use Rattle.rs_machine.specs.State.{State, has}
use Rattle.rs_machine.specs.Step.{empty_table, with_table}
use Rattle.rs_machine.specs.declared.limits.TheConstants.{CHANGES, TABLES}
use Rattle.rs_store.proofs.Given.{given_once}
use Rattle.rs_store.proofs.Results.{err_always, ok_always}
use Rattle.rs_store.proofs.TableMore.{more_gives, more_kept}
use Rattle.rs_store.proofs.Tabled.{columns_more}
use Rattle.rs_store.specs.Bracket.{StandsNext}
use Rattle.rs_store.specs.Changing.{LeavesStore}
use Rattle.rs_store.specs.Kept.{StoreState}
use Rattle.rs_store.specs.Settling.{HasBegun}
use Rattle.rs_store.specs.Tabling.{PutsNumbered}
use Rattle.rs_stored_catalog.specs.Listing.{listing_of}
use Rattle.rs_syntax.specs.View.{column_tree}
use Rattle.std.proofs.lemmas.Result.{err_from_is_err_and}
use Rattle.std.specs.FinMap as names
use Rattle.rs_store.proofs.Changed.{given_so, redefined_becomes, redefined_left, redefined_rests}
use Rattle.rs_store.proofs.Keeping.{store_over}
use Rattle.rs_store.proofs.Settled.{has_begun, left_unbegun}
use Rattle.rs_store.proofs.store.Store.define_table.Given.{Over}
use Rattle.rs_store.proofs.store.Store.define_table.Goals as goal

module _ (g : Over) (c : goal.After-settle g) where
  abbrev was : StoreState g.row.D.Denot
  was = store_over g.D.Disk c.self.inside.pager c.self.inside.file c.self.inside.catalog c.self.inside.referents

  begun : HasBegun g.D.Disk was (store_over g.D.Disk c.begin_change.new.pager was.file was.catalog was.referents)
  begun = has_begun g.D.Disk was c.begin_change.new.pager c.in_ok-begin_change.ensures.begins

  room : was.file.accepted < CHANGES
  room = subst (λ (s : StoreState g.row.D.Denot). s.file.accepted < CHANGES) (sym c.self.view_is) c.requires.room

  abbrev number : ℕ
  number = c.define_table_in_both-made.ensures.number

  abbrev item : TableItem
  item = record { number = number; kind = c.args.kind; columns = map column_tree c.args.columns.items }

  abbrev next : Definitions
  next = changes.with_table was.catalog c.args.name.bytes item

  abbrev after : State → State
  after state = with_table state c.args.name.bytes (empty_table c.args.kind (map column_tree c.args.columns.items))

  abbrev may : State → Type 0
  may state = IsLawful (after state)

  new : has was.catalog.tables c.args.name.bytes ≡ false
  new = ap (λ (s : StoreState g.row.D.Denot). has s.catalog.tables c.args.name.bytes) c.self.view_is ∙ c.requires.new

  abbrev now : StoreState g.row.D.Denot
  now = store_over g.D.Disk c.settle.new.pager c.settle.new.file c.define_table_in_both-made.new.catalog was.referents

pub invariant_of-self-2 : goal.invariant_of-self-2
invariant_of-self-2 g c =
    let made = c.define_table_in_both-made in
    let redefines = c.define_table_in_both-made.ensures.redefines in
    record {
      shut = c.settle.ensures.shut;
      rests = redefined_rests g.D.Disk (was g c) c.begin_change.new.pager made.new.pages c.settle.new.pager made.new.file c.settle.new.file (begun g c)
          c.args.oldest (PutsNumbered (number g c) (listing_of (next g c))) (next g c) made.result made.new.catalog redefines c.settle.ensures.settles c.self.invariant.rests (room g c) (columns_more (was g c).catalog.tables c.args.name.bytes (item g c) c.self.invariant.rests.columns c.requires.columns);
    }

pub returns-clause-leaves : goal.returns-clause-leaves
returns-clause-leaves g c =
    let made = c.define_table_in_both-made in
    given_so (λ r s. LeavesStore g.D.Disk (may g c) r s (now g c)) made.result c.settle.result (was g c) c.args.self.now c.settle.ensures.same c.self.view_is
    (redefined_left g.D.Disk (was g c) c.begin_change.new.pager made.new.pages c.settle.new.pager made.new.file c.settle.new.file (begun g c) {may = may g c}
    c.args.oldest (PutsNumbered (number g c) (listing_of (next g c))) (next g c) made.result made.new.catalog (was g c).referents c.define_table_in_both-made.ensures.redefines c.settle.ensures.settles (err_always {P = (route : ℕ) → referents_on (was g c).referents route ≡ referents_on (was g c).referents route} made.result (λ route. refl)) c.self.invariant.rests.committed
    (λ is from state stands allowed.
    let numbered = made.ensures.numbered (λ none. absurd (cc (is, none))) in
    more_kept g.D.Disk (was g c) (room g c) c.table_defined_gives_its_state.ensures c.args.name.bytes (item g c) (next g c) refl numbered.0 (new g c) numbered.1 (said_catalogue (was g c).file.definitions)
    numbered.2 (given_once (next g c) numbered.0).tables_once c.shortest_line_defines_the_view.ensures.readable refl from state stands allowed))

pub returns-clause-defines : goal.returns-clause-defines
returns-clause-defines g c =
    let made = c.define_table_in_both-made in
    given_so (λ r s. StandsNext g.D.Disk c.args.oldest (may g c) (after g c) r s (now g c)) made.result c.settle.result (was g c) c.args.self.now c.settle.ensures.same c.self.view_is
    (λ from state stands low high allowed. redefined_becomes g.D.Disk (was g c) c.begin_change.new.pager made.new.pages c.settle.new.pager made.new.file c.settle.new.file (begun g c)
    c.args.oldest (PutsNumbered (number g c) (listing_of (next g c))) (next g c) made.result made.new.catalog (was g c).referents c.define_table_in_both-made.ensures.redefines c.settle.ensures.settles c.kept_change_gives_its_state.ensures (room g c)
    from state (after g c state) stands low high (λ some. let numbered = made.ensures.numbered some in
    ok_always made.result (more_gives g.D.Disk (was g c) (room g c) c.table_defined_gives_its_state.ensures c.args.name.bytes (item g c) (next g c) refl numbered.0 (new g c) numbered.1
    from c.args.oldest state stands low allowed)) allowed.views)

pub define_table_in_both-made-requires-clause-new : goal.define_table_in_both-made-requires-clause-new
define_table_in_both-made-requires-clause-new g c = ap (λ (s : StoreState g.row.D.Denot). has s.catalog.tables c.args.name.bytes) c.self.view_is ∙ c.requires.new

pub define_table_in_both-made-requires-clause-few : goal.define_table_in_both-made-requires-clause-few
define_table_in_both-made-requires-clause-few g c = subst (λ (s : StoreState g.row.D.Denot). names.len s.catalog.tables < TABLES) (sym c.self.view_is) c.requires.few

pub define_table_in_both-made-requires-clause-room : goal.define_table_in_both-made-requires-clause-room
define_table_in_both-made-requires-clause-room g c = subst (λ (s : StoreState g.row.D.Denot). s.file.accepted < CHANGES) (sym c.self.view_is) c.requires.room

pub returns-in_err-begin_change-clause-leaves : goal.returns-in_err-begin_change-clause-leaves
returns-in_err-begin_change-clause-leaves g c =
    let at = store_over g.D.Disk c.self.inside.pager c.self.inside.file c.self.inside.catalog c.self.inside.referents in
    let now = store_over g.D.Disk c.begin_change.new.pager at.file at.catalog at.referents in
    let may : State → Type 0 = λ state. IsLawful (with_table state c.args.name.bytes (empty_table c.args.kind (map column_tree c.args.columns.items))) in
    let p = err_from_is_err_and c.from_residual.result c.from_residual.ensures.1 in
    rw (p.1, p.2) (subst (λ (s : StoreState g.row.D.Denot). LeavesStore g.D.Disk may {T = Unit {0}} (Err c.in_err-begin_change.field-0.0) s now) c.self.view_is
    (left_unbegun g.D.Disk {may = may} {T = Unit {0}} c.in_err-begin_change.field-0.0 at c.begin_change.new.pager c.in_err-begin_change.ensures.begins))
