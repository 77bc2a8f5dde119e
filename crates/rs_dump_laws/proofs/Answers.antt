-- Lines that ask commands which are accepted one after another are answered OK.
use Rattle.std.proofs.Common.{◌≡◌, ◌∙◌, ℕ, List, [], ◌∷◌, Some, None, Result, Ok, Err, inl, inr, refl, sym, ap, subst, arith}
use Rattle.std.specs.Prelude.{take}
use Rattle.rs_measure.specs.FixedPoint.{number_of_digits}
use Rattle.std.specs.List.{AllByRecursion}
use Rattle.rs_refusal.specs.declared.refusal.Refusal.{Refusal}
use Rattle.rs_syntax.specs.Tree.{CommandTree}
use Rattle.rs_syntax.specs.Verdict.{Reads}
use Rattle.rs_machine.specs.Answered.{Answer, Answered, AnswersLine, Replies, answer}
use Rattle.rs_machine.specs.Request.{Asks, Request, SessionReads, command, no_command, unreadable, without_return}
use Rattle.rs_machine.specs.Served.{Answers, CountsOn, Machine, Served, done}
use Rattle.rs_machine.specs.State.{State}
use Rattle.rs_machine.specs.Step.{Effect, outcome}
use Rattle.rs_machine_laws.specs.Given.{is_accepted}
use Rattle.rs_dump_laws.specs.Accepted.{Accepted}
use Rattle.rs_dump_laws.specs.Lines.{IsSaid, dump_line}
use Rattle.rs_dump_laws.specs.Replaying.{AreSaid, IsOkAnswer, NamesNoWant, dump_lines}
use Rattle.rs_dump_laws.proofs.NamedThings.{some_same}

ok_same : {A : Type 0} (a b : A) → ◌≡◌ {A = Result A Refusal} (Ok a) (Ok b) → a ≡ b
ok_same a b e = cc

same_counts : (machine : Machine) (state : State) → CountsOn machine (record machine { state = state })
same_counts machine state = record { failures = omega arith; full_refusals = omega arith }

-- ---- they can be

abbrev given_for : Effect → Answer
given_for effect = answer 0 (done effect.rows effect.count)

pub can_answer : (commands : List CommandTree) (old : Machine) (state new : State) → old.state ≡ state → Accepted state commands new → AreSaid commands
    → (answers : List Answer) × (last : Machine) × Answered old (dump_lines commands) answers last × AllByRecursion IsOkAnswer answers
can_answer [] old state new same accepted said = ([], old, refl, tt)
can_answer (tree ∷ commands) old state new same accepted said =
    let effect = accepted.0 in
    let next : Machine = record old { state = effect.state } in
    let others = can_answer commands next effect.state new refl accepted.2 said.1 in
    let is : outcome old.state 0 tree ≡ Ok effect = ap (λ s. outcome s 0 tree) same ∙ accepted.1 in
    let served : Answers old (outcome old.state 0 tree) (done effect.rows effect.count) next =
    subst (λ r. Answers old r (done effect.rows effect.count) next) (sym is) (refl, refl, same_counts old effect.state) in
    (given_for effect ∷ others.0, others.1, (next, inl (command 0 tree, said.0, (refl, inl served)), others.2), (record { session = refl; accepted = refl }, others.3))

-- ---- they are

-- one request is asked
module _ (one : (line : List ℕ) (from : ℕ) (a b : Result CommandTree Refusal) → Reads line from a → Reads line from b → a ≡ b) where
  -- what two readings of a line say is the same
  same_reading : (line : List ℕ) (session other : ℕ) (a b : Result CommandTree Refusal) → SessionReads line session a → SessionReads line other b → (session ≡ other) × (a ≡ b)
  same_reading line session other a b first second =
      let digits : first.digits ≡ second.digits = some_same first.digits second.digits (sym first.begins.begins ∙ second.begins.begins) in
      (first.begins.session_is ∙ ap (λ d. number_of_digits (take d (without_return line))) digits ∙ sym second.begins.session_is, one (without_return line) second.digits a b (subst (λ d. Reads (without_return line) d a) digits first.reads) second.reads)

  done_or_wants : (old : Machine) (tree : CommandTree) (given : Answer) (new : Machine) (effect : Effect) → outcome old.state 0 tree ≡ Ok effect → NamesNoWant given → (given.session ≡ 0) → Served old 0 tree given.reply new
      → IsOkAnswer given × (new.state ≡ effect.state)
  done_or_wants old tree given new effect is none session (inl answers) =
      let done_so : Answers old (Ok effect) given.reply new = subst (λ r. Answers old r given.reply new) is answers in
      (record { session = session; accepted = ap is_accepted done_so.0 }, done_so.1)
  done_or_wants old tree given new effect is none session (inr want) = absurd (elim want.1 [
    | inl memory ↦ none.memory memory
    | inr other ↦ elim other [ inl disk ↦ none.disk disk.0 | inr room ↦ none.room room.0 ]
  ])

  replied : (old : Machine) (tree : CommandTree) (request : Request) (given : Answer) (new : Machine) (effect : Effect) → outcome old.state 0 tree ≡ Ok effect → NamesNoWant given
      → Asks (dump_line tree) (command 0 tree) → Asks (dump_line tree) request → Replies old request given new → IsOkAnswer given × (new.state ≡ effect.state)
  replied old tree (unreadable refusal) given new effect is none said asks replies = absurd (let wrong : None ≡ Some refusal = sym said.begins.is_readable ∙ asks in cc)
  replied old tree (no_command session refusal) given new effect is none said asks replies =
      absurd (let wrong : ◌≡◌ {A = Result CommandTree Refusal} (Ok tree) (Err refusal) = (same_reading (dump_line tree) 0 session (Ok tree) (Err refusal) said asks).1 in cc)
  replied old tree (command session other) given new effect is none said asks replies =
      let same = same_reading (dump_line tree) 0 session (Ok tree) (Ok other) said asks in
      let tree_is : tree ≡ other = ok_same tree other same.1 in
      done_or_wants old other given new effect (ap (λ t. outcome old.state 0 t) (sym tree_is) ∙ is) none (replies.0 ∙ sym same.0) (subst (λ s. Served old s other given.reply new) (sym same.0) replies.1)

  answered_one : (old : Machine) (tree : CommandTree) (given : Answer) (new : Machine) (effect : Effect) → outcome old.state 0 tree ≡ Ok effect → NamesNoWant given → IsSaid tree → AnswersLine old (dump_line tree) given new
      → IsOkAnswer given × (new.state ≡ effect.state)
  answered_one old tree given new effect is none said (inl asked) = replied old tree asked.0 given new effect is none said asked.1 asked.2
  answered_one old tree given new effect is none said (inr want) = absurd (none.memory (ap (λ (a : Answer). a.reply) want.given_is))

  pub all_answered : (commands : List CommandTree) (old : Machine) (state final : State) (answers : List Answer) (new : Machine) → old.state ≡ state → Accepted state commands final → AreSaid commands
      → Answered old (dump_lines commands) answers new → AllByRecursion NamesNoWant answers → AllByRecursion IsOkAnswer answers × (new.state ≡ final)
  all_answered [] old state final [] new same accepted said answered none = (tt, ap (λ (m : Machine). m.state) answered ∙ same ∙ sym accepted)
  all_answered [] old state final (given ∷ answers) new same accepted said answered none = absurd answered
  all_answered (tree ∷ commands) old state final [] new same accepted said answered none = absurd answered
  all_answered (tree ∷ commands) old state final (given ∷ answers) new same accepted said answered none =
      let effect = accepted.0 in
      let first = answered_one old tree given answered.0 effect (ap (λ s. outcome s 0 tree) same ∙ accepted.1) none.0 said.0 answered.1 in
      let others = all_answered commands answered.0 effect.state final answers new first.1 accepted.2 said.1 answered.2 none.1 in
      ((first.0, others.0), others.1)
