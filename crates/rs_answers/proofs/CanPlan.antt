-- A query that was checked can be planned.
use Rattle.std.proofs.Common.{ℕ, List, [], Result, Ok, Err}
use Rattle.std.specs.Prelude.{IfOk}
use Rattle.rs_refusal.specs.declared.refusal.Refusal.{Refusal}
use Rattle.rs_facts.specs.Fact.{Names}
use Rattle.rs_facts.specs.Runs.{Stretch}
use Rattle.rs_syntax.specs.Tree.{QueryTree}
use Rattle.rs_machine.specs.State.{no_cursors}
use Rattle.rs_catalog.specs.Definitions.{Definitions, Rest, state_from}
use Rattle.rs_checker.specs.declared.checked.Checked.{Checked}
use Rattle.rs_checker.specs.Checks.{IsChecked}
use Rattle.rs_checker.specs.CheckedView.{named_in}
use Rattle.rs_checker.specs.Numbers.{AreNumberedIn}
use Rattle.rs_answers.specs.Plans.{CanBePlanned}

abbrev no_rest : Rest
no_rest = record { changes = 0; cursors = no_cursors }

abbrev IsCheckedIn : Definitions → (ℕ → Names ℕ) → QueryTree → Checked → Type 0
IsCheckedIn definitions referents tree checked = (spans : ℕ → ℕ → List Stretch) (rest : Rest) → IsChecked (state_from definitions referents spans rest) tree checked

can : (definitions : Definitions) (referents : ℕ → Names ℕ) (tree : QueryTree) (checked : Checked) → IsCheckedIn definitions referents tree checked → AreNumberedIn definitions (named_in checked.query) → CanBePlanned definitions checked
can definitions referents tree checked is numbers = record {
  well_formed = λ spans. (is spans no_rest).well_formed;
  named = λ spans. (is spans no_rest).named;
  few = (is (λ table route. []) no_rest).few;
  kind = λ spans. (is spans no_rest).kind;
  numbers = numbers;
}

pub can-be-planned : (definitions : Definitions) (referents : ℕ → Names ℕ) (tree : QueryTree) (result : Result Checked Refusal)
    → IfOk result (IsCheckedIn definitions referents tree) → IfOk result (λ made. AreNumberedIn definitions (named_in made.query)) → IfOk result (CanBePlanned definitions)
can-be-planned definitions referents tree (Ok checked) is numbers = can definitions referents tree checked is numbers
can-be-planned definitions referents tree (Err refusal) is numbers = tt
