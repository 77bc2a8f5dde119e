-- A table that is defined.
use Rattle.std.proofs.Common.{◌≡◌, ◌∙◌, ℕ, List, [], Err, Ok, ap, refl, subst, sym, length, ◌≤◌}
use Rattle.std.proofs.lemmas.List.{length-map}
use Rattle.rs_value.specs.Encoding.{row_width}
use Rattle.rs_value.specs.declared.column.TheConstants.{COLUMNS, ROW_BYTES}
use Rattle.std.proofs.lemmas.Result.{err_from_is_err_and}
use Rattle.rs_engine.specs.Kept.{EngineState}
use Rattle.rs_engine.specs.Replied.{count_reply_of}
use Rattle.rs_engine.proofs.Staying.{leaves_at_once, leaves_made, leaves_refused}
use Rattle.rs_engine.proofs.Stepping.{IsStep, change_made, change_refused, check_refused}
use Rattle.rs_machine.specs.Checks.{column_types}
use Rattle.rs_machine.specs.State.{State}
use Rattle.rs_syntax.specs.Tree as tree
use Rattle.rs_machine.specs.Step.{counted, empty_table, outcome, with_table}
use Rattle.rs_machine.specs.Lawful.{IsLawful}
use Rattle.rs_command_checks.specs.States.{Unseen, state_by}
use Rattle.rs_syntax.specs.declared.commands.ColumnDefinition.{ColumnDefinition}
use Rattle.std.specs.Prelude.{map}
use Rattle.rs_facts.specs.Query.{Column}
use Rattle.rs_engine.proofs.Columns.{columns_accepted}
use Rattle.rs_syntax.specs.View.{column_tree}
use Rattle.rs_value.specs.declared.column.Kind.{Kind}
use Rattle.rs_engine.proofs.engine.Engine.define_table.Goals as goal

abbrev next_of : Kind → List ℕ → List Column → State → State
next_of kind name columns state = with_table state name (empty_table kind columns)

is_step : (kind : Kind) (name : List ℕ) (columns : List Column) → IsStep (next_of kind name columns)
is_step kind name columns = record { beside = λ cursors state. refl; none = λ state. refl }

pub define_table-requires-clause-columns : goal.define_table-requires-clause-columns
define_table-requires-clause-columns g c = columns_accepted _ c.args.kind c.args.name.bytes (map column_tree c.args.columns.items) _ c.requires.sound.1 c.requires.sound.2
    (subst (λ (n : ℕ). n ≤ COLUMNS) (sym (length-map c.args.columns.items column_tree)) (subst (λ (xs : List ColumnDefinition). length xs ≤ COLUMNS) c.deref.ensures.value c.in_ok-check_new_table.ensures.few_columns))
    (subst (λ (xs : List ColumnDefinition). row_width (column_types (map column_tree xs)) ≤ ROW_BYTES) c.deref.ensures.value c.in_ok-check_new_table.ensures.narrow_rows)
    ((subst (λ (xs : List ColumnDefinition). (unseen : Unseen) → outcome (state_by c.checks.result unseen) 0 (tree.define_table c.args.kind c.args.name.bytes (map column_tree xs)) ≡ Ok (counted 0 (next_of c.args.kind c.args.name.bytes (map column_tree xs) (state_by c.checks.result unseen)))) c.deref.ensures.value c.in_ok-check_new_table.ensures.accepted) (record { spans = λ table route. []; lines = λ cursor. [] }))

pub returns-in_err-check_new_table : goal.returns-in_err-check_new_table
returns-in_err-check_new_table g c =
    let name = c.args.name.bytes in
    let columns = map column_tree c.args.columns.items in
    let p = err_from_is_err_and c.from_residual.result c.from_residual.ensures.1 in
    record {
      serves = λ machine here. check_refused c.accepted_step_leaves_the_state_lawful.ensures g.D.Disk c.stores_have_their_laws.ensures c.args.self.now c.args.self.now refl
          c.checks.result c.checks.ensures machine here (tree.define_table c.args.kind name columns) c.from_residual.result count_reply_of c.in_err-check_new_table.field-0.0
          c.args.self.now refl (p.1 ∙ ap Err p.2) refl (subst (λ (xs : List ColumnDefinition). (unseen : Unseen) → outcome (state_by c.checks.result unseen) 0 (tree.define_table c.args.kind name (map column_tree xs)) ≡ Err c.in_err-check_new_table.field-0.0) c.deref.ensures.value c.in_err-check_new_table.ensures.refused);
      leaves = leaves_at_once g.D.Disk c.args.self.now c.from_residual.result;
    }

pub returns-in_err-define_table : goal.returns-in_err-define_table
returns-in_err-define_table g c =
    let old : EngineState g.row.D.Denot = record { store = c.self.inside.live.store; oldest = c.self.inside.live.oldest; cursors = c.self.inside.cursors } in
    let name = c.args.name.bytes in
    let columns = map column_tree c.args.columns.items in
    let p = err_from_is_err_and c.from_residual-in_err-define_table.result c.from_residual-in_err-define_table.ensures.1 in
    record {
      serves = λ machine here. change_refused c.accepted_step_leaves_the_state_lawful.ensures g.D.Disk c.stores_have_their_laws.ensures old c.args.self.now c.self.view_is
          c.checks.result c.checks.ensures machine here (tree.define_table c.args.kind name columns) c.requires.sound (next_of c.args.kind name columns) (is_step c.args.kind name columns) 0 (subst (λ (xs : List ColumnDefinition). (unseen : Unseen) → outcome (state_by c.checks.result unseen) 0 (tree.define_table c.args.kind name (map column_tree xs)) ≡ Ok (counted 0 (next_of c.args.kind name (map column_tree xs) (state_by c.checks.result unseen)))) c.deref.ensures.value c.in_ok-check_new_table.ensures.accepted)
          (λ (state : State). IsLawful (next_of c.args.kind name columns state)) (record { store = c.define_table.new.self; oldest = old.oldest; cursors = old.cursors }) c.from_residual-in_err-define_table.result count_reply_of c.in_err-define_table.field-0.0
          c.in_err-define_table.ensures.leaves (refl, refl) (λ is known lawful. lawful) (p.1 ∙ ap Err p.2) refl;
      leaves = leaves_refused g.D.Disk c.self.view_is c.in_err-define_table.ensures.leaves (refl, refl) c.from_residual-in_err-define_table.result;
    }

pub returns : goal.returns
returns g c =
    let old : EngineState g.row.D.Denot = record { store = c.self.inside.live.store; oldest = c.self.inside.live.oldest; cursors = c.self.inside.cursors } in
    let name = c.args.name.bytes in
    let columns = map column_tree c.args.columns.items in
    record {
      serves = λ machine here. change_made c.accepted_step_leaves_the_state_lawful.ensures g.D.Disk c.stores_have_their_laws.ensures old c.args.self.now c.self.view_is
          c.checks.result c.checks.ensures machine here (tree.define_table c.args.kind name columns) c.requires.sound (next_of c.args.kind name columns) (is_step c.args.kind name columns) 0 (subst (λ (xs : List ColumnDefinition). (unseen : Unseen) → outcome (state_by c.checks.result unseen) 0 (tree.define_table c.args.kind name (map column_tree xs)) ≡ Ok (counted 0 (next_of c.args.kind name (map column_tree xs) (state_by c.checks.result unseen)))) c.deref.ensures.value c.in_ok-check_new_table.ensures.accepted)
          (λ (state : State). IsLawful (next_of c.args.kind name columns state)) (record { store = c.define_table.new.self; oldest = c.oldest-oldest.result; cursors = old.cursors }) c.in_ok-define_table.field-0 c.in_ok-define_table.ensures.leaves
          c.oldest-oldest.result (refl, refl) c.oldest-oldest.ensures (λ is known low high level lawful. c.in_ok-define_table.ensures.defines old.oldest is.state is.stands low high lawful);
      leaves = leaves_made g.D.Disk c.self.view_is c.in_ok-define_table.ensures.leaves refl;
    }
