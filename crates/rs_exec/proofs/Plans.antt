-- By induction on a plan it is the same by number and by name.
use Rattle.std.proofs.Common.{ℕ, List, [], ◌∷◌, ◌++◌, map, flat_map, sym, subst}
use Rattle.std.specs.List.{AllZip, AllByRecursion}
use Rattle.rs_facts.specs.Fact.{Names}
use Rattle.rs_facts.specs.Query.{World}
use Rattle.rs_planning.proofs.Meeting.{every-left, every-right}
use Rattle.rs_planning.specs.Numbered.{Numbered}
use Rattle.rs_planning.specs.Plan as plans
use Rattle.rs_plan.specs.declared.plan.Plan.{Plan}
use Rattle.rs_plan.specs.declared.plan.Plan as codes
use Rattle.rs_plan.specs.declared.plan.Plan.TheOpen.{Plan-F}
use Rattle.rs_plan.specs.PlanView.{plan_step, plan_tree, named_step, named_in, conditions_of, named_by_piece, named_by_window}
use Rattle.rs_exec.specs.Snapshot.{Snapshot}
use Rattle.rs_exec.specs.Meaning.{PlanMeaning, meaning_step, meaning_of}
use Rattle.rs_exec.specs.Agreement.{AgreesOn, HasItsEnds, AreDistinct, IsTheSame, PlansAreTheSame}
use Rattle.rs_exec.proofs.Same.{where-same, dissolve-same, cover-same, merge-same, minus-same, overlay-same, window-same, transform-same, gaps-same, leaf-same}

module _ (world : World) (snapshot : Snapshot) (numbers : Names ℕ) (distinct : AreDistinct numbers) (ends : HasItsEnds world snapshot numbers) where
  abbrev Agree : List Numbered → Type 0
  Agree named = AllByRecursion (AgreesOn world snapshot numbers) named

  abbrev Alike : PlanMeaning → plans.Plan → Type 0
  Alike by_number by_name = IsTheSame world snapshot numbers by_number by_name

  abbrev IsSame : Plan → Type 0
  IsSame plan = Agree (named_in plan) → Alike (meaning_of plan) (plan_tree plan)

  -- a plan of which it is shown
  abbrev Each : Type 0
  Each = (plan : Plan) × IsSame plan

  abbrev plan_in : Each → Plan
  plan_in each = each.0

  abbrev plans_in : Plan-F Each → Plan-F Plan
  plans_in layer = codes.map-Plan Each Plan plan_in layer

  together : (each : List Each) → Agree (flat_map (λ (named : List Numbered). named) (map named_in (map plan_in each))) → AllZip Alike (map meaning_of (map plan_in each)) (map plan_tree (map plan_in each))
  together [] agree = tt
  together (one ∷ each) agree = (
    one.1 (every-left (AgreesOn world snapshot numbers) (named_in one.0) (flat_map (λ (named : List Numbered). named) (map named_in (map plan_in each))) agree),
    together each (every-right (AgreesOn world snapshot numbers) (named_in one.0) (flat_map (λ (named : List Numbered). named) (map named_in (map plan_in each))) agree),
  )

  left : (one other : Each) → Agree (named_in one.0 ++ named_in other.0) → Alike (meaning_of one.0) (plan_tree one.0)
  left one other agree = one.1 (every-left (AgreesOn world snapshot numbers) (named_in one.0) (named_in other.0) agree)

  right : (one other : Each) → Agree (named_in one.0 ++ named_in other.0) → Alike (meaning_of other.0) (plan_tree other.0)
  right one other agree = other.1 (every-right (AgreesOn world snapshot numbers) (named_in one.0) (named_in other.0) agree)

  layer_same : (layer : Plan-F Each) → Agree (named_step (codes.map-Plan Plan (List Numbered) named_in (plans_in layer)))
      → Alike (meaning_step (codes.map-Plan Plan PlanMeaning meaning_of (plans_in layer))) (plan_step (codes.map-Plan Plan plans.Plan plan_tree (plans_in layer)))
  layer_same (Plan-F.Leaf leaf) agree = leaf-same world snapshot numbers distinct leaf agree
  layer_same (Plan-F.Where conditions plan) agree = where-same world snapshot numbers (conditions_of conditions) (meaning_of plan.value.0) (plan_tree plan.value.0) (plan.value.1 agree)
  layer_same (Plan-F.Dissolve columns plan) agree = dissolve-same world snapshot numbers columns.items (meaning_of plan.value.0) (plan_tree plan.value.0) (plan.value.1 agree)
  layer_same (Plan-F.Overlay back operands) agree =
      overlay-same world snapshot numbers back.items (map meaning_of (map plan_in operands.items)) (map plan_tree (map plan_in operands.items)) (together operands.items agree)
  layer_same (Plan-F.Cover left_width right_width one other) agree =
      cover-same world snapshot numbers left_width right_width (meaning_of one.value.0) (meaning_of other.value.0) (plan_tree one.value.0) (plan_tree other.value.0) (left one.value other.value agree) (right one.value other.value agree)
  layer_same (Plan-F.Merge one other) agree =
      merge-same world snapshot numbers (meaning_of one.value.0) (meaning_of other.value.0) (plan_tree one.value.0) (plan_tree other.value.0) (left one.value other.value agree) (right one.value other.value agree)
  layer_same (Plan-F.Minus one other) agree =
      minus-same world snapshot numbers (meaning_of one.value.0) (meaning_of other.value.0) (plan_tree one.value.0) (plan_tree other.value.0) (left one.value other.value agree) (right one.value other.value agree)
  layer_same (Plan-F.Window windows plan) agree =
      window-same world snapshot numbers distinct windows.items (meaning_of plan.value.0) (plan_tree plan.value.0)
      (every-left (AgreesOn world snapshot numbers) (map named_by_window windows.items) (named_in plan.value.0) agree)
      (plan.value.1 (every-right (AgreesOn world snapshot numbers) (map named_by_window windows.items) (named_in plan.value.0) agree))
  layer_same (Plan-F.Transform name pieces plan) agree =
      transform-same world snapshot numbers distinct name.bytes pieces.items (meaning_of plan.value.0) (plan_tree plan.value.0)
      (every-left (AgreesOn world snapshot numbers) (flat_map named_by_piece pieces.items) (named_in plan.value.0) agree)
      (plan.value.1 (every-right (AgreesOn world snapshot numbers) (flat_map named_by_piece pieces.items) (named_in plan.value.0) agree))
  layer_same (Plan-F.Gaps plan) agree = gaps-same world snapshot numbers ends (meaning_of plan.value.0) (plan_tree plan.value.0) (plan.value.1 agree)

  rolled : (layer : Plan-F Each) → IsSame (codes.roll-Plan (plans_in layer))
  rolled layer agree =
      subst (λ by_number. Alike by_number (plan_tree (codes.roll-Plan (plans_in layer)))) (sym (codes.fold-roll-Plan PlanMeaning meaning_step (plans_in layer)))
      (subst (Alike (meaning_step (codes.map-Plan Plan PlanMeaning meaning_of (plans_in layer)))) (sym (codes.fold-roll-Plan plans.Plan plan_step (plans_in layer)))
      (layer_same layer (subst Agree (codes.fold-roll-Plan (List Numbered) named_step (plans_in layer)) agree)))

  -- y is x with what is shown of each operand beside it
  plan_same : (plan : Plan) → IsSame plan
  plan_same = codes.ind-Plan IsSame (λ x y is. subst (λ layer. IsSame (codes.roll-Plan layer)) is (rolled y))

pub plans-same : PlansAreTheSame
plans-same world snapshot numbers plan distinct ends agree = plan_same world snapshot numbers distinct ends plan agree
