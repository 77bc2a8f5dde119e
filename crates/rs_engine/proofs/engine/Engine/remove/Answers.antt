-- Rows that are taken away from a table.
use Rattle.std.proofs.Common.{◌≡◌, ◌∙◌, ℕ, [], Err, Ok, Some, ap, refl, subst, sym}
use Rattle.std.proofs.lemmas.Result.{err_from_is_err_and}
use Rattle.std.specs.FinMap as names
use Rattle.rs_catalog.specs.Definitions.{Definitions, IsFree, TableItem}
use Rattle.rs_spans.specs.Removal.{goes_by}
use Rattle.rs_facts.specs.Query.{Table}
use Rattle.rs_facts.specs.Remove.{removed_facts}
use Rattle.rs_engine.specs.Kept.{EngineState, IsMachine}
use Rattle.rs_engine.specs.Replied.{count_reply_of}
use Rattle.rs_engine.specs.Clearing.{ByChange, IsServedClearing}
use Rattle.rs_engine.proofs.Staying.{leaves_at_once, leaves_made, leaves_refused}
use Rattle.rs_engine.proofs.Stepping.{by_step, check_wanting, found, made_at, refused_at}
use Rattle.rs_engine.proofs.Tables.{HasTableSo, in_store, table_so, table_step, with_table_named}
use Rattle.rs_machine.specs.Checks.{window_route}
use Rattle.rs_machine.specs.Served.{done}
use Rattle.rs_machine.specs.State.{State}
use Rattle.rs_machine.specs.Step.{counted, outcome, without_facts}
use Rattle.rs_store_source.specs.Changing.{Always, HaveNumbers}
use Rattle.rs_syntax.specs.QueryView.{window_tree}
use Rattle.rs_syntax.specs.Tree as tree
use Rattle.rs_syntax.specs.View.{removal_tree}
use Rattle.rs_engine.proofs.engine.Engine.remove.Goals as goal

pub returns-in_err-removal : goal.returns-in_err-removal
returns-in_err-removal g c =
    let p = err_from_is_err_and c.from_residual.result c.from_residual.ensures.1 in
    record {
      serves = λ machine here. check_wanting c.accepted_step_leaves_the_state_lawful.ensures g.D.Disk c.stores_have_their_laws.ensures c.args.self.now c.args.self.now refl
          c.checks.result c.checks.ensures machine here (tree.remove c.args.table.now.bytes (window_tree c.args.window.now) (removal_tree c.args.condition.now))
          c.from_residual.result count_reply_of c.in_err-removal.field-0.0 c.args.self.now refl (p.1 ∙ ap Err p.2) refl c.in_err-removal.ensures.refused;
      leaves = leaves_at_once g.D.Disk c.args.self.now c.from_residual.result;
    }

pub remove-requires-clause-table : goal.remove-requires-clause-table
remove-requires-clause-table g c =
    let old : EngineState g.row.D.Denot = record { store = c.self.inside.live.store; oldest = c.self.inside.live.oldest; cursors = c.self.inside.cursors } in
    let event = c.in_ok-removal.ensures.there in
    in_store old c.args.self.now c.self.view_is c.checks.result c.checks.ensures
    (λ (definitions : Definitions). IsFree (λ (item : TableItem). item.number) definitions.tables c.in_ok-removal.removal.table → ⊥)
    (λ free. free c.args.table.now.bytes event.table event.table_there event.table_numbered)

pub returns-in_err-gone : goal.returns-in_err-gone
returns-in_err-gone g c =
    let old : EngineState g.row.D.Denot = record { store = c.self.inside.live.store; oldest = c.self.inside.live.oldest; cursors = c.self.inside.cursors } in
    let laws = c.accepted_step_leaves_the_state_lawful.ensures in
    let states = c.stores_have_their_laws.ensures in
    let name = c.args.table.now.bytes in
    let removal = c.in_ok-removal.removal in
    let route = window_route (window_tree c.args.window.now) in
    let goes = goes_by removal.goes in
    let said = tree.remove name (window_tree c.args.window.now) (removal_tree c.args.condition.now) in
    let event = c.in_ok-removal.ensures.there in
    let p = err_from_is_err_and c.from_residual-in_err-gone.result c.from_residual-in_err-gone.ensures.1 in
    record {
      serves = λ machine here.
          let so : State → Table → Type 0 = λ state table. outcome state 0 said
          ≡ Ok (counted (removed_facts table.facts route removal.lo removal.hi goes) (with_table_named name (without_facts table route removal.lo removal.hi goes) state)) in
          let t = found laws g.D.Disk states old c.args.self.now c.self.view_is c.checks.result c.checks.ensures machine here said (HasTableSo name so)
          (λ unseen. table_so c.checks.result name event.table event.table_there so unseen (c.in_ok-removal.ensures.accepted unseen)) in
          let next = without_facts t.table route removal.lo removal.hi goes in
          refused_at laws g.D.Disk states old c.args.self.now c.self.view_is c.checks.result c.checks.ensures machine here said c.requires.sound
          (with_table_named name next) (table_step name next) (removed_facts t.table.facts route removal.lo removal.hi goes) t.is
          Always (record { store = c.remove.new.self; oldest = old.oldest; cursors = old.cursors }) c.from_residual-in_err-gone.result count_reply_of c.in_err-gone.field-0.0
          c.in_err-gone.ensures.leaves (refl, refl) (λ is known lawful. tt) (p.1 ∙ ap Err p.2) refl;
      leaves = leaves_refused g.D.Disk c.self.view_is c.in_err-gone.ensures.leaves (refl, refl) c.from_residual-in_err-gone.result;
    }

pub returns : goal.returns
returns g c =
    let d = g.D.Disk in
    let old : EngineState g.row.D.Denot = record { store = c.self.inside.live.store; oldest = c.self.inside.live.oldest; cursors = c.self.inside.cursors } in
    let now : EngineState g.row.D.Denot = record { store = c.remove.new.self; oldest = c.oldest-oldest.result; cursors = old.cursors } in
    let laws = c.accepted_step_leaves_the_state_lawful.ensures in
    let states = c.stores_have_their_laws.ensures in
    let name = c.args.table.now.bytes in
    let removal = c.in_ok-removal.removal in
    let route = window_route (window_tree c.args.window.now) in
    let goes = goes_by removal.goes in
    let said = tree.remove name (window_tree c.args.window.now) (removal_tree c.args.condition.now) in
    let event = c.in_ok-removal.ensures.there in
    record {
      serves = λ machine here.
          let so : State → Table → Type 0 = λ state table. outcome state 0 said
          ≡ Ok (counted (removed_facts table.facts route removal.lo removal.hi goes) (with_table_named name (without_facts table route removal.lo removal.hi goes) state)) in
          let t = found laws d states old c.args.self.now c.self.view_is c.checks.result c.checks.ensures machine here said (HasTableSo name so)
          (λ unseen. table_so c.checks.result name event.table event.table_there so unseen (c.in_ok-removal.ensures.accepted unseen)) in
          let next = without_facts t.table route removal.lo removal.hi goes in
          let count = removed_facts t.table.facts route removal.lo removal.hi goes in
          let there : (is : IsMachine d old machine) → names.get is.state.tables name ≡ Some t.table = λ is.
          subst (λ (state : State). names.get state.tables name ≡ Some t.table) is.is t.there in
          let have = in_store old c.args.self.now c.self.view_is c.checks.result c.checks.ensures (λ (definitions : Definitions). HaveNumbers definitions name route removal.table removal.route) (record {
            table_item = event.table;
            table_there = event.table_there;
            table_numbered = event.table_numbered;
            route_item = event.on;
            route_there = event.route_there;
            route_numbered = event.route_numbered;
          }) in
          let counted_so : c.in_ok-gone.gone ≡ count = by_step laws d states old c.args.self.now c.self.view_is c.checks.result c.checks.ensures machine here said c.requires.sound
          (with_table_named name next) (table_step name next) count t.is c.oldest-oldest.result c.oldest-oldest.ensures (λ is low high lawful. (c.in_ok-gone.ensures.removes name route have old.oldest is.state is.stands low high t.table (there is) lawful).1) in
          subst (λ (n : ℕ). IsServedClearing d ByChange (outcome machine.state 0 said) machine here.stands.contents (done [] n) now) (sym counted_so)
          (made_at laws d states old c.args.self.now c.self.view_is c.checks.result c.checks.ensures machine here said c.requires.sound
          (with_table_named name next) (table_step name next) count t.is Always now c.in_ok-gone.gone c.in_ok-gone.ensures.leaves
          c.oldest-oldest.result (refl, refl) c.oldest-oldest.ensures (λ is known low high level lawful. (c.in_ok-gone.ensures.removes name route have old.oldest is.state is.stands low high t.table (there is) lawful).0));
      leaves = leaves_made g.D.Disk c.self.view_is c.in_ok-gone.ensures.leaves refl;
    }
