-- What the machine answers where a cursor is to be opened.
use Rattle.std.proofs.Common.{◌≡◌, ℕ, ◌<◌, ◌≤◌, true, false, not, nat_lt, Result, Ok, Err, refl, ap, ◌∙◌}
use Rattle.std.specs.FinMap as names
use Rattle.rs_refusal.specs.declared.refusal.Refusal.{Refusal}
use Rattle.rs_refusal.specs.declared.refusal.Refusal.TheVariants.{CursorNameTaken, TooManyCursors}
use Rattle.rs_methods.specs.declared.position.Method.{Method}
use Rattle.rs_facts.specs.Fact.{Name}
use Rattle.rs_facts.specs.Query.{Query}
use Rattle.rs_syntax.specs.Tree.{QueryTree}
use Rattle.rs_machine.specs.declared.limits.TheConstants.{CURSORS}
use Rattle.rs_machine.specs.State.{has}
use Rattle.rs_machine.specs.Checks.{◌>>=◌, unless}
use Rattle.rs_machine.specs.Checking.{checked}
use Rattle.rs_machine.specs.Step.{Effect, counted, lines_of, with_cursor, cursor_opened}
use Rattle.rs_cursor.specs.Held.{cursors_by}
use Rattle.rs_command_checks.specs.declared.checks.Checks.{Checks}
use Rattle.rs_command_checks.specs.States.{Unseen, state_by}
use Rattle.rs_command_checks.proofs.Outcomes.{below-true, below-false}

-- ---- a cursor is opened

module _ (checks : Checks) (unseen : Unseen) (session : ℕ) (name : Name) (tree : QueryTree) (method : Method) where
  abbrev Opened : Result Effect Refusal → Type 0
  Opened answer = cursor_opened (state_by checks unseen) session name tree method ≡ answer

  abbrev after_check : Query → Result Effect Refusal
  after_check query =
      unless (not (has (cursors_by unseen.lines checks.cursors.now session) name)) CursorNameTaken >>= λ _.
      unless (nat_lt (names.len (cursors_by unseen.lines checks.cursors.now session)) CURSORS) TooManyCursors >>= λ _.
      Ok (counted 0 (with_cursor (state_by checks unseen) session name (lines_of (state_by checks unseen) query method)))

  pub open_unchecked : (refusal : Refusal) → checked (state_by checks unseen) tree ≡ Err refusal → Opened (Err refusal)
  open_unchecked refusal off = ap (λ (r : Result Query Refusal). r >>= after_check) off

  module _ (query : Query) (is : checked (state_by checks unseen) tree ≡ Ok query) where
    behind : Opened (after_check query)
    behind = ap (λ (r : Result Query Refusal). r >>= after_check) is

    pub open_taken : has (cursors_by unseen.lines checks.cursors.now session) name ≡ true → Opened (Err CursorNameTaken)
    open_taken e = behind ∙ rw e refl

    pub open_too_many : has (cursors_by unseen.lines checks.cursors.now session) name ≡ false → CURSORS ≤ names.len (cursors_by unseen.lines checks.cursors.now session) → Opened (Err TooManyCursors)
    open_too_many e f = behind ∙ rw (e, below-false (names.len (cursors_by unseen.lines checks.cursors.now session)) CURSORS f) refl

    pub open_checked : has (cursors_by unseen.lines checks.cursors.now session) name ≡ false → names.len (cursors_by unseen.lines checks.cursors.now session) < CURSORS
        → Opened (Ok (counted 0 (with_cursor (state_by checks unseen) session name (lines_of (state_by checks unseen) query method))))
    open_checked e f = behind ∙ rw (e, below-true (names.len (cursors_by unseen.lines checks.cursors.now session)) CURSORS f) refl
