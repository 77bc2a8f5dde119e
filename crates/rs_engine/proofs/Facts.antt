-- Whether some table of the machine has a fact on a route, by what the store says of it.
use Rattle.std.proofs.Common.{◌≡◌, ◌∙◌, ℕ, Bool, None, false, Ok, Err, Result, Some, ap, refl, subst, sym}
use Rattle.std.specs.FinMap as names
use Rattle.std.specs.Option.{option_map}
use Rattle.std.specs.Prelude.{IfOk}
use Rattle.rs_catalog.specs.Definitions.{RouteItem}
use Rattle.rs_catalog.proofs.StateLaws.{get-routes_of}
use Rattle.rs_command_checks.specs.Facts.{TellsOfFacts}
use Rattle.rs_disk.specs.declared.disk.Disk as disk
use Rattle.rs_facts.specs.Fact.{Name}
use Rattle.rs_facts.specs.Query.{RouteEnds}
use Rattle.rs_engine.specs.Kept.{EngineState, IsMachine, with_cursors}
use Rattle.rs_engine.specs.Laws.{StoreLaws}
use Rattle.rs_engine.proofs.Machines.{cursors_in}
use Rattle.rs_machine.specs.Served.{Machine}
use Rattle.rs_machine.specs.State.{State}
use Rattle.rs_machine.specs.Step.{has_fact_on, some_table}
use Rattle.rs_refusal.specs.declared.refusal.Refusal.{Refusal}
use Rattle.rs_store_source.specs.Reads.{SaysFactsOn}

module _ {D : Type 0} (d : disk.Ghosts D) (laws : StoreLaws d) (engine : EngineState D) (machine : Machine) (is : IsMachine d engine machine) (name : Name) where
  -- the machine's route of the name is that of the catalogue
  route_of : names.get machine.state.routes name ≡ option_map (λ (item : RouteItem). item.ends) (names.get engine.store.catalog.routes name)
  route_of = ap (λ (state : State). names.get state.routes name) (is.is ∙ ap (with_cursors (cursors_in d engine machine is)) (laws.state engine.oldest engine.store is.state is.stands))
      ∙ get-routes_of engine.store.catalog name

  -- nothing is to be told of a route that is not there
  pub no_route : names.get engine.store.catalog.routes name ≡ None → TellsOfFacts machine.state name false
  no_route none ends there =
      let gone : names.get machine.state.routes name ≡ None = route_of ∙ ap (option_map (λ (item : RouteItem). item.ends)) none in
      absurd (cc (gone, there))

  told : (item : RouteItem) → names.get engine.store.catalog.routes name ≡ Some item → (answer : Bool) → SaysFactsOn d engine.store item.number answer → TellsOfFacts machine.state name answer
  told item known answer says ends there =
      let at : names.get machine.state.routes name ≡ Some item.ends = route_of ∙ ap (option_map (λ (item : RouteItem). item.ends)) known in
      let same : item.ends ≡ ends = cc (at, there) in
      subst (λ (e : RouteEnds). answer ≡ some_table machine.state (has_fact_on name e)) same
      (subst (λ (state : State). answer ≡ some_table state (has_fact_on name item.ends)) (sym is.is)
      (says.each engine.oldest is.state is.stands name item known refl))

  -- what the store says is so of the machine
  pub told_result : (item : RouteItem) → names.get engine.store.catalog.routes name ≡ Some item → (number : ℕ) → number ≡ item.number → (result : Result Bool Refusal)
      → IfOk result (SaysFactsOn d engine.store number) → IfOk result (TellsOfFacts machine.state name)
  told_result item known number is_number (Ok answer) says = told item known answer (subst (λ (n : ℕ). SaysFactsOn d engine.store n answer) is_number says)
  told_result item known number is_number (Err why) says = tt
