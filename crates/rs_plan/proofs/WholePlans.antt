-- The plan of a whole query.
use Rattle.std.proofs.Common.{◌≡◌, List, [], ◌∷◌, ◌++◌, map, refl, arith}
use Rattle.std.specs.Prelude.{Contains}
use Rattle.std.proofs.lemmas.List.Elements.{Contains-append_left, Contains-append_right}
use Rattle.rs_facts.specs.Condition.{Condition}
use Rattle.rs_planning.specs.Numbered.{Numbered}
use Rattle.rs_planning.proofs.Meeting.{every-weaker}
use Rattle.rs_checker.specs.declared.checked.Checked.{Checked}
use Rattle.rs_checker.specs.CheckedView.{query_of, named_in}
use Rattle.rs_plan.specs.declared.operand.Operand.{Operand}
use Rattle.rs_plan.specs.declared.plan.PlannedWindow.{PlannedWindow}
use Rattle.rs_plan.specs.Counted.{Counted, named_index}
use Rattle.rs_plan.specs.Operands.{AreAmong, IsPlacedAlone}
use Rattle.rs_plan.specs.Planned.{IsPlanOf}
use Rattle.rs_plan.proofs.PlacingLaws.{alone-as}

all-contained : (xs : List Numbered) → AreAmong xs xs
all-contained [] = tt
all-contained (x ∷ xs) = ((0, omega arith, refl), every-weaker (Contains xs) (Contains (x ∷ xs)) (λ z among. Contains-append_right (x ∷ []) xs z among) xs (all-contained xs))

pub planned : (counted : Counted) (checked : Checked) (windows : List PlannedWindow) (conditions : List Condition) (one : Operand) → windows ≡ [] → conditions ≡ []
    → IsPlacedAlone counted (query_of checked.query) (named_in checked.query) windows conditions one → IsPlanOf counted checked one.plan
planned counted checked windows conditions one no_windows no_conditions placed =
    let named = named_in checked.query in
    let indexes = map named_index counted.indexes in
    let alone = alone-as counted (query_of checked.query) (query_of checked.query) named named windows [] conditions [] one refl refl no_windows no_conditions placed in
    record {
      tree = λ basis stands. alone.tree basis stands;
      numbers = alone.names (named ++ indexes)
          (every-weaker (Contains named) (Contains (named ++ indexes)) (λ z among. Contains-append_left named indexes z among) named (all-contained named)) tt
          (every-weaker (Contains indexes) (Contains (named ++ indexes)) (λ z among. Contains-append_right named indexes z among) indexes (all-contained indexes));
    }
