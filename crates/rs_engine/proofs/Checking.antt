-- What the checks of commands say of the machine that an engine is.
use Rattle.std.proofs.Common.{◌≡◌, ◌∙◌, ℕ, List, [], Result, Ok, Err, ap, subst, sym}
use Rattle.std.specs.Prelude.{IfOk, Option, length}
use Rattle.rs_answers.specs.Plans.{CanBePlanned}
use Rattle.rs_answers.specs.Totalled.{totals_of_query}
use Rattle.rs_catalog.specs.Definitions.{Definitions}
use Rattle.rs_checker.specs.CheckedView.{named_in}
use Rattle.rs_checker.specs.Checks.{IsChecked}
use Rattle.rs_checker.specs.Numbers.{AreNumberedIn}
use Rattle.rs_checker.specs.declared.checked.Checked.{Checked}
use Rattle.rs_command_checks.specs.States.{Unseen, state_by}
use Rattle.rs_command_checks.specs.declared.checks.Checks.{Checks}
use Rattle.rs_disk.specs.declared.disk.Disk as disk
use Rattle.rs_facts.specs.Fact.{Name}
use Rattle.rs_facts.specs.Query.{Query}
use Rattle.rs_facts.specs.Runs.{Stretch}
use Rattle.rs_engine.specs.Kept.{AreChecksOf, EngineState, IsMachine}
use Rattle.rs_engine.specs.Laws.{StoreLaws}
use Rattle.rs_engine.proofs.Machines.{checked_state, unseen_of}
use Rattle.rs_machine.specs.Checking.{checked}
use Rattle.rs_machine.specs.Checks.{◌>>=◌}
use Rattle.rs_machine.specs.Served.{Machine}
use Rattle.rs_machine.specs.State.{RowText, State, world_of}
use Rattle.rs_machine.specs.Step.{Effect, effect, lines_of, plan_printed, selected, totals_printed}
use Rattle.rs_methods.specs.declared.position.Method.{Method}
use Rattle.rs_planning.specs.Explain.{explained}
use Rattle.rs_refusal.specs.declared.refusal.Refusal.{Refusal}
use Rattle.rs_syntax.specs.Tree.{QueryTree}

-- what is so whatever spans tables have is so of the machine's state
pub on_machine : {D : Type 0} (d : disk.Ghosts D) → StoreLaws d → (engine : EngineState D) (checks : Checks) → AreChecksOf engine checks → (P : State → Type 0)
    → ((unseen : Unseen) → P (state_by checks unseen)) → (machine : Machine) → IsMachine d engine machine → P machine.state
on_machine d laws engine checks are P each machine is = subst P (sym (checked_state d laws engine checks machine is are)) (each (unseen_of d engine machine is))

-- tables have these spans, and no cursor has a line
abbrev unseen_with : (ℕ → ℕ → List Stretch) → Unseen
unseen_with spans = record { spans = spans; lines = λ cursor. [] }

-- a query that was checked can be planned
pub can_be_planned : {D : Type 0} (engine : EngineState D) (checks : Checks) → AreChecksOf engine checks → (tree : QueryTree) (result : Result Checked Refusal)
    → ((unseen : Unseen) → IfOk result (IsChecked (state_by checks unseen) tree)) → IfOk result (λ made. AreNumberedIn checks.catalog.now (named_in made.query))
    → IfOk result (CanBePlanned engine.store.catalog)
can_be_planned engine checks are tree (Ok made) is numbers =
    subst (λ (definitions : Definitions). CanBePlanned definitions made) are.catalog (record {
      well_formed = λ spans. (is (unseen_with spans)).well_formed;
      named = λ spans. (is (unseen_with spans)).named;
      few = (is (unseen_with (λ table route. []))).few;
      kind = λ spans. (is (unseen_with spans)).kind;
      numbers = numbers;
    })
can_be_planned engine checks are tree (Err why) is numbers = tt

-- ---- what is answered to a query, once it was checked

module _ (state : State) (tree : QueryTree) where
  module _ (method : Method) where
    abbrev after_select : Query → Result Effect Refusal
    after_select query = Ok (effect (lines_of state query method) (length (lines_of state query method)) state)

    pub select_unchecked : (why : Refusal) → checked state tree ≡ Err why → selected state tree method ≡ Err why
    select_unchecked why off = ap (λ (r : Result Query Refusal). r >>= after_select) off

    pub select_checked : (query : Query) (lines : List RowText) → checked state tree ≡ Ok query → lines ≡ lines_of state query method → selected state tree method ≡ Ok (effect lines (length lines) state)
    select_checked query lines is are = ap (λ (r : Result Query Refusal). r >>= after_select) is ∙ ap (λ (l : List RowText). Ok (effect l (length l) state)) (sym are)

  abbrev after_explain : Query → Result Effect Refusal
  after_explain query = Ok (effect (explained (world_of state) state.indexes query) (length (explained (world_of state) state.indexes query)) state)

  pub explain_unchecked : (why : Refusal) → checked state tree ≡ Err why → plan_printed state tree ≡ Err why
  explain_unchecked why off = ap (λ (r : Result Query Refusal). r >>= after_explain) off

  pub explain_checked : (query : Query) (lines : List RowText) → checked state tree ≡ Ok query → lines ≡ explained (world_of state) state.indexes query
      → plan_printed state tree ≡ Ok (effect lines (length lines) state)
  explain_checked query lines is are = ap (λ (r : Result Query Refusal). r >>= after_explain) is ∙ ap (λ (l : List RowText). Ok (effect l (length l) state)) (sym are)

  module _ (by : List Name) (summed : Option Name) where
    abbrev after_total : Query → Result Effect Refusal
    after_total query = totals_of_query state query by summed

    pub total_unchecked : (why : Refusal) → checked state tree ≡ Err why → totals_printed state tree by summed ≡ Err why
    total_unchecked why off = ap (λ (r : Result Query Refusal). r >>= after_total) off

    pub total_checked : (query : Query) → checked state tree ≡ Ok query → totals_printed state tree by summed ≡ totals_of_query state query by summed
    total_checked query is = ap (λ (r : Result Query Refusal). r >>= after_total) is
