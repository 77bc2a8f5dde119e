-- Lines that are answered are steps of the commands that they ask.
use Rattle.std.proofs.Common.{◌≡◌, ℕ, List, [], ◌∷◌, ◌++◌, Result, Ok, Err, refl, sym, ap, subst, inl, inr, arith}
use Rattle.rs_refusal.specs.declared.refusal.Refusal.{Refusal}
use Rattle.rs_syntax.specs.Tree.{CommandTree}
use Rattle.rs_syntax.specs.Verdict.{Reads}
use Rattle.rs_machine.specs.Served.{Machine, IsUnchanged}
use Rattle.rs_machine.specs.Request.{Request, unreadable, no_command, command, without_return, Asks}
use Rattle.rs_machine.specs.Answered.{Answer, Replies, WantsMemory, AnswersLine, Answered}
use Rattle.rs_machine_laws.specs.Given.{Exchange, Steps, exchanged, AreCommandsOf}

same_unchanged : (old new : Machine) → new ≡ old → IsUnchanged old new
same_unchanged old new e = subst (IsUnchanged old) (sym e) (record { state = refl; counts = record { failures = omega arith; full_refusals = omega arith } })

steps_joined : (old between new : Machine) (xs ys : List Exchange) → Steps old xs between → Steps between ys new → Steps old (xs ++ ys) new
steps_joined old between new [] ys on more = subst (λ (m : Machine). Steps m ys new) on more
steps_joined old between new (x ∷ xs) ys on more = (on.0, on.1, steps_joined on.0 between new xs ys on.2 more)

-- the steps of one line, none or one
record LineSteps (old : Machine) (line : List ℕ) (given : Answer) (new : Machine) : Type 0 where
  request : Request
  asks : Asks line request
  steps : Steps old (exchanged request given.reply) new

asked_steps : (old new : Machine) (line : List ℕ) (request : Request) (given : Answer) → Asks line request → Replies old request given new → LineSteps old line given new
asked_steps old new line (unreadable refusal) given asks replies = record { request = unreadable refusal; asks = asks; steps = replies.1 }
asked_steps old new line (no_command session refusal) given asks replies = record { request = no_command session refusal; asks = asks; steps = replies.1 }
asked_steps old new line (command session tree) given asks replies = record { request = command session tree; asks = asks; steps = (new, replies.1, refl) }

-- A line always says something.
module _ (reads_as : (line : List ℕ) (from : ℕ) → (answer : Result CommandTree Refusal) × Reads line from answer) where
  wanting_steps : (old new : Machine) (line : List ℕ) (given : Answer) (want : WantsMemory old line given new) (answer : Result CommandTree Refusal) → Reads (without_return line) want.digits answer → LineSteps old line given new
  wanting_steps old new line given want (Ok tree) reads = record {
    request = command want.session tree;
    asks = record { digits = want.digits; begins = want.begins; reads = reads };
    steps = (new, inr (same_unchanged old new want.rests, inl (ap (λ (a : Answer). a.reply) want.given_is)), refl);
  }
  wanting_steps old new line given want (Err refusal) reads = record {
    request = no_command want.session refusal;
    asks = record { digits = want.digits; begins = want.begins; reads = reads };
    steps = want.rests;
  }

  line_steps : (old new : Machine) (line : List ℕ) (given : Answer) → AnswersLine old line given new → LineSteps old line given new
  line_steps old new line given (inl asked) = asked_steps old new line asked.0 given asked.1 asked.2
  line_steps old new line given (inr want) = let says = reads_as (without_return line) want.digits in wanting_steps old new line given want says.0 says.1

  pub answered_steps : (old new : Machine) (lines : List (List ℕ)) (answers : List Answer) → Answered old lines answers new → (steps : List Exchange) × AreCommandsOf lines answers steps × Steps old steps new
  answered_steps old new [] [] answered = ([], refl, answered)
  answered_steps old new [] (given ∷ more) answered = absurd answered
  answered_steps old new (line ∷ lines) [] answered = absurd answered
  answered_steps old new (line ∷ lines) (given ∷ more) answered =
      let first = line_steps old answered.0 line given answered.1 in
      let others = answered_steps answered.0 new lines more answered.2 in
      (exchanged first.request given.reply ++ others.0, (first.request, others.0, first.asks, refl, others.1), steps_joined old answered.0 new (exchanged first.request given.reply) others.0 first.steps others.2)
