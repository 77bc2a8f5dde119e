-- An alignment that is defined.
use Rattle.std.proofs.Common.{◌≡◌, ◌∙◌, ℕ, List, Err, Ok, ap, refl, subst}
use Rattle.std.proofs.lemmas.Result.{err_from_is_err_and}
use Rattle.rs_engine.specs.Kept.{EngineState}
use Rattle.rs_engine.specs.Replied.{count_reply_of}
use Rattle.rs_engine.proofs.Staying.{leaves_at_once, leaves_made, leaves_refused}
use Rattle.rs_engine.proofs.Stepping.{IsStep, change_made, change_refused, check_refused}
use Rattle.rs_machine.specs.State.{State}
use Rattle.rs_syntax.specs.Tree as tree
use Rattle.rs_machine.specs.Step.{counted, outcome, with_alignment}
use Rattle.rs_machine.specs.Lawful.{IsLawful}
use Rattle.rs_command_checks.specs.States.{Unseen, state_by}
use Rattle.rs_syntax.specs.declared.commands.Piece as code
use Rattle.std.specs.Prelude.{map}
use Rattle.rs_facts.specs.Query.{Piece}
use Rattle.rs_catalog.specs.Definitions.{pieces_of}
use Rattle.rs_syntax.specs.View.{piece_tree}
use Rattle.rs_engine.proofs.engine.Engine.define_alignment.Goals as goal

abbrev next_of : List ℕ → List Piece → State → State
next_of name pieces state = with_alignment state name pieces

is_step : (name : List ℕ) (pieces : List Piece) → IsStep (next_of name pieces)
is_step name pieces = record { beside = λ cursors state. refl; none = λ state. refl }

pub returns-in_err-check_new_alignment : goal.returns-in_err-check_new_alignment
returns-in_err-check_new_alignment g c =
    let name = c.args.name.bytes in
    let pieces = c.args.pieces.items in
    let p = err_from_is_err_and c.from_residual.result c.from_residual.ensures.1 in
    record {
      serves = λ machine here. check_refused c.accepted_step_leaves_the_state_lawful.ensures g.D.Disk c.stores_have_their_laws.ensures c.args.self.now c.args.self.now refl
          c.checks.result c.checks.ensures machine here (tree.define_alignment name (map piece_tree pieces)) c.from_residual.result count_reply_of c.in_err-check_new_alignment.field-0.0
          c.args.self.now refl (p.1 ∙ ap Err p.2) refl (subst (λ (xs : List code.Piece). (unseen : Unseen) → outcome (state_by c.checks.result unseen) 0 (tree.define_alignment name (map piece_tree xs)) ≡ Err c.in_err-check_new_alignment.field-0.0) c.deref.ensures.value c.in_err-check_new_alignment.ensures.refused);
      leaves = leaves_at_once g.D.Disk c.args.self.now c.from_residual.result;
    }

pub returns-in_err-define_alignment : goal.returns-in_err-define_alignment
returns-in_err-define_alignment g c =
    let old : EngineState g.row.D.Denot = record { store = c.self.inside.live.store; oldest = c.self.inside.live.oldest; cursors = c.self.inside.cursors } in
    let name = c.args.name.bytes in
    let pieces = c.args.pieces.items in
    let p = err_from_is_err_and c.from_residual-in_err-define_alignment.result c.from_residual-in_err-define_alignment.ensures.1 in
    record {
      serves = λ machine here. change_refused c.accepted_step_leaves_the_state_lawful.ensures g.D.Disk c.stores_have_their_laws.ensures old c.args.self.now c.self.view_is
          c.checks.result c.checks.ensures machine here (tree.define_alignment name (map piece_tree pieces)) c.requires.sound (next_of name (pieces_of pieces)) (is_step name (pieces_of pieces)) 0 (subst (λ (xs : List code.Piece). (unseen : Unseen) → outcome (state_by c.checks.result unseen) 0 (tree.define_alignment name (map piece_tree xs)) ≡ Ok (counted 0 (next_of name (pieces_of xs) (state_by c.checks.result unseen)))) c.deref.ensures.value c.in_ok-check_new_alignment.ensures.accepted)
          (λ (state : State). IsLawful (next_of name (pieces_of pieces) state)) (record { store = c.define_alignment.new.self; oldest = old.oldest; cursors = old.cursors }) c.from_residual-in_err-define_alignment.result count_reply_of c.in_err-define_alignment.field-0.0
          c.in_err-define_alignment.ensures.leaves (refl, refl) (λ is known lawful. lawful) (p.1 ∙ ap Err p.2) refl;
      leaves = leaves_refused g.D.Disk c.self.view_is c.in_err-define_alignment.ensures.leaves (refl, refl) c.from_residual-in_err-define_alignment.result;
    }

pub returns : goal.returns
returns g c =
    let old : EngineState g.row.D.Denot = record { store = c.self.inside.live.store; oldest = c.self.inside.live.oldest; cursors = c.self.inside.cursors } in
    let name = c.args.name.bytes in
    let pieces = c.args.pieces.items in
    record {
      serves = λ machine here. change_made c.accepted_step_leaves_the_state_lawful.ensures g.D.Disk c.stores_have_their_laws.ensures old c.args.self.now c.self.view_is
          c.checks.result c.checks.ensures machine here (tree.define_alignment name (map piece_tree pieces)) c.requires.sound (next_of name (pieces_of pieces)) (is_step name (pieces_of pieces)) 0 (subst (λ (xs : List code.Piece). (unseen : Unseen) → outcome (state_by c.checks.result unseen) 0 (tree.define_alignment name (map piece_tree xs)) ≡ Ok (counted 0 (next_of name (pieces_of xs) (state_by c.checks.result unseen)))) c.deref.ensures.value c.in_ok-check_new_alignment.ensures.accepted)
          (λ (state : State). IsLawful (next_of name (pieces_of pieces) state)) (record { store = c.define_alignment.new.self; oldest = c.oldest-oldest.result; cursors = old.cursors }) c.in_ok-define_alignment.field-0 c.in_ok-define_alignment.ensures.leaves
          c.oldest-oldest.result (refl, refl) c.oldest-oldest.ensures (λ is known low high level lawful. c.in_ok-define_alignment.ensures.defines old.oldest is.state is.stands low high lawful);
      leaves = leaves_made g.D.Disk c.self.view_is c.in_ok-define_alignment.ensures.leaves refl;
    }
