-- A row that is put into a table.
use Rattle.std.proofs.Common.{◌≡◌, ◌∙◌, ℕ, [], Err, Ok, Some, ap, refl, subst, sym}
use Rattle.std.proofs.lemmas.Result.{err_from_is_err_and}
use Rattle.std.specs.FinMap as names
use Rattle.rs_catalog.specs.Definitions.{Definitions}
use Rattle.rs_facts.specs.Insert.{new_facts}
use Rattle.rs_facts.specs.Query.{Table}
use Rattle.rs_facts.specs.Spans.{seen}
use Rattle.rs_engine.specs.Kept.{EngineState, IsMachine}
use Rattle.rs_engine.specs.Replied.{count_reply_of}
use Rattle.rs_engine.specs.Clearing.{ByChange, IsServedClearing}
use Rattle.rs_engine.proofs.Staying.{leaves_at_once, leaves_made, leaves_refused}
use Rattle.rs_engine.proofs.Stepping.{by_step, check_wanting, found, made_at, refused_at}
use Rattle.rs_engine.proofs.Tables.{HasTableSo, in_store, table_so, table_step, with_table_named}
use Rattle.rs_machine.specs.Served.{done}
use Rattle.rs_machine.specs.State.{State}
use Rattle.rs_machine.specs.Step.{counted, outcome, with_facts_along}
use Rattle.rs_store_source.specs.Changing.{Always, HaveNumbers, IsRowFor, LiesOn}
use Rattle.rs_syntax.specs.Tree as tree
use Rattle.rs_syntax.specs.View.{location_tree}
use Rattle.rs_value.specs.View.{literal_row}
use Rattle.rs_engine.proofs.engine.Engine.insert.Goals as goal

pub returns-in_err-insertion : goal.returns-in_err-insertion
returns-in_err-insertion g c =
    let p = err_from_is_err_and c.from_residual.result c.from_residual.ensures.1 in
    record {
      serves = λ machine here. check_wanting c.accepted_step_leaves_the_state_lawful.ensures g.D.Disk c.stores_have_their_laws.ensures c.args.self.now c.args.self.now refl
          c.checks.result c.checks.ensures machine here (tree.insert c.args.table.now.bytes c.args.route.now.bytes (location_tree c.args.place.now) (literal_row c.args.values.now))
          c.from_residual.result count_reply_of c.in_err-insertion.field-0.0 c.args.self.now refl (p.1 ∙ ap Err p.2) refl c.in_err-insertion.ensures.refused;
      leaves = leaves_at_once g.D.Disk c.args.self.now c.from_residual.result;
    }

pub insert-requires-clause-row : goal.insert-requires-clause-row
insert-requires-clause-row g c =
    let old : EngineState g.row.D.Denot = record { store = c.self.inside.live.store; oldest = c.self.inside.live.oldest; cursors = c.self.inside.cursors } in
    let insertion = c.in_ok-insertion.insertion in
    let event = c.in_ok-insertion.ensures.event in
    in_store old c.args.self.now c.self.view_is c.checks.result c.checks.ensures
    (λ (definitions : Definitions). IsRowFor definitions insertion.table insertion.kind (seen insertion.span))
    (record {
      name = c.args.table.now.bytes;
      table = event.table;
      there = event.table_there;
      numbered = event.table_numbered;
      of_kind = event.of_kind;
      row = event.row;
      placed = event.placed;
    })

pub insert-requires-clause-lies : goal.insert-requires-clause-lies
insert-requires-clause-lies g c =
    let old : EngineState g.row.D.Denot = record { store = c.self.inside.live.store; oldest = c.self.inside.live.oldest; cursors = c.self.inside.cursors } in
    let insertion = c.in_ok-insertion.insertion in
    let event = c.in_ok-insertion.ensures.event in
    in_store old c.args.self.now c.self.view_is c.checks.result c.checks.ensures
    (λ (definitions : Definitions). LiesOn definitions insertion.kind insertion.route (seen insertion.span))
    (record {
      name = c.args.route.now.bytes;
      on = event.on;
      there = event.route_there;
      numbered = event.route_numbered;
      from = event.from;
      upto = event.upto;
    })

pub returns-in_err-new_facts : goal.returns-in_err-new_facts
returns-in_err-new_facts g c =
    let old : EngineState g.row.D.Denot = record { store = c.self.inside.live.store; oldest = c.self.inside.live.oldest; cursors = c.self.inside.cursors } in
    let laws = c.accepted_step_leaves_the_state_lawful.ensures in
    let states = c.stores_have_their_laws.ensures in
    let name = c.args.table.now.bytes in
    let route = c.args.route.now.bytes in
    let insertion = c.in_ok-insertion.insertion in
    let span = seen insertion.span in
    let said = tree.insert name route (location_tree c.args.place.now) (literal_row c.args.values.now) in
    let event = c.in_ok-insertion.ensures.event in
    let p = err_from_is_err_and c.from_residual-in_err-new_facts.result c.from_residual-in_err-new_facts.ensures.1 in
    record {
      serves = λ machine here.
          let so : State → Table → Type 0 = λ state table. outcome state 0 said
          ≡ Ok (counted (new_facts table.facts route span.lo span.hi span.row) (with_table_named name (with_facts_along table route span.lo span.hi span.row) state)) in
          let t = found laws g.D.Disk states old c.args.self.now c.self.view_is c.checks.result c.checks.ensures machine here said (HasTableSo name so)
          (λ unseen. table_so c.checks.result name event.table event.table_there so unseen (c.in_ok-insertion.ensures.accepted unseen)) in
          let next = with_facts_along t.table route span.lo span.hi span.row in
          refused_at laws g.D.Disk states old c.args.self.now c.self.view_is c.checks.result c.checks.ensures machine here said c.requires.sound
          (with_table_named name next) (table_step name next) (new_facts t.table.facts route span.lo span.hi span.row) t.is
          Always (record { store = c.insert.new.self; oldest = old.oldest; cursors = old.cursors }) c.from_residual-in_err-new_facts.result count_reply_of c.in_err-new_facts.field-0.0
          c.in_err-new_facts.ensures.leaves (refl, refl) (λ is known lawful. tt) (p.1 ∙ ap Err p.2) refl;
      leaves = leaves_refused g.D.Disk c.self.view_is c.in_err-new_facts.ensures.leaves (refl, refl) c.from_residual-in_err-new_facts.result;
    }

pub returns : goal.returns
returns g c =
    let d = g.D.Disk in
    let old : EngineState g.row.D.Denot = record { store = c.self.inside.live.store; oldest = c.self.inside.live.oldest; cursors = c.self.inside.cursors } in
    let now : EngineState g.row.D.Denot = record { store = c.insert.new.self; oldest = c.oldest-oldest.result; cursors = old.cursors } in
    let laws = c.accepted_step_leaves_the_state_lawful.ensures in
    let states = c.stores_have_their_laws.ensures in
    let name = c.args.table.now.bytes in
    let route = c.args.route.now.bytes in
    let insertion = c.in_ok-insertion.insertion in
    let span = seen insertion.span in
    let said = tree.insert name route (location_tree c.args.place.now) (literal_row c.args.values.now) in
    let event = c.in_ok-insertion.ensures.event in
    record {
      serves = λ machine here.
          let so : State → Table → Type 0 = λ state table. outcome state 0 said
          ≡ Ok (counted (new_facts table.facts route span.lo span.hi span.row) (with_table_named name (with_facts_along table route span.lo span.hi span.row) state)) in
          let t = found laws d states old c.args.self.now c.self.view_is c.checks.result c.checks.ensures machine here said (HasTableSo name so)
          (λ unseen. table_so c.checks.result name event.table event.table_there so unseen (c.in_ok-insertion.ensures.accepted unseen)) in
          let next = with_facts_along t.table route span.lo span.hi span.row in
          let count = new_facts t.table.facts route span.lo span.hi span.row in
          let there : (is : IsMachine d old machine) → names.get is.state.tables name ≡ Some t.table = λ is.
          subst (λ (state : State). names.get state.tables name ≡ Some t.table) is.is t.there in
          let have = in_store old c.args.self.now c.self.view_is c.checks.result c.checks.ensures (λ (definitions : Definitions). HaveNumbers definitions name route insertion.table insertion.route) (record {
            table_item = event.table;
            table_there = event.table_there;
            table_numbered = event.table_numbered;
            route_item = event.on;
            route_there = event.route_there;
            route_numbered = event.route_numbered;
          }) in
          let counted_so : c.in_ok-new_facts.new_facts ≡ count = by_step laws d states old c.args.self.now c.self.view_is c.checks.result c.checks.ensures machine here said c.requires.sound
          (with_table_named name next) (table_step name next) count t.is c.oldest-oldest.result c.oldest-oldest.ensures (λ is low high lawful. (c.in_ok-new_facts.ensures.inserts name route have old.oldest is.state is.stands low high t.table (there is) lawful).1) in
          subst (λ (n : ℕ). IsServedClearing d ByChange (outcome machine.state 0 said) machine here.stands.contents (done [] n) now) (sym (c.from.ensures ∙ counted_so))
          (made_at laws d states old c.args.self.now c.self.view_is c.checks.result c.checks.ensures machine here said c.requires.sound
          (with_table_named name next) (table_step name next) count t.is Always now c.in_ok-new_facts.new_facts c.in_ok-new_facts.ensures.leaves
          c.oldest-oldest.result (refl, refl) c.oldest-oldest.ensures (λ is known low high level lawful. (c.in_ok-new_facts.ensures.inserts name route have old.oldest is.state is.stands low high t.table (there is) lawful).0));
      leaves = leaves_made g.D.Disk c.self.view_is c.in_ok-new_facts.ensures.leaves refl;
    }
