-- What stands under a name in a state of these definitions.
use Rattle.std.proofs.Common.{◌≡◌, ℕ, Option, Some, None, refl, ap, ◌∙◌}
use Rattle.std.specs.Option.{option_map}
use Rattle.std.specs.FinMap as names
use Rattle.rs_facts.specs.Fact.{Name, Names}
use Rattle.rs_facts.specs.Query.{RouteEnds}
use Rattle.rs_machine.specs.State.{State, world_of}
use Rattle.rs_catalog.specs.Definitions.{RouteItem, TableItem, Definitions, routes_of, indexes_of, table_from, world_from}
use Rattle.rs_catalog.proofs.MapLaws.{none_some, some_same}
use Rattle.rs_catalog.proofs.StateLaws.{get-routes_of, get-tables_from}
use Rattle.rs_catalog_laws.proofs.OtherReferents as laws
use Rattle.rs_answers.specs.Present.{IsDefinedBy}

pub mapped-some : {X Y : Type 0} (change : X → Y) (found : Option X) (y : Y) → option_map change found ≡ Some y → (x : X) × (found ≡ Some x) × (change x ≡ y)
mapped-some change None y e = none_some y e
mapped-some change (Some x) y e = (x, refl, some_same (change x) y e)

module _ (definitions : Definitions) (referents : ℕ → Names ℕ) (state : State) (is : IsDefinedBy definitions referents state) where
  pub routes-are : state.routes ≡ routes_of definitions
  routes-are = ap (λ (s : State). s.routes) is.made

  pub indexes-are : state.indexes ≡ indexes_of definitions
  indexes-are = ap (λ (s : State). s.indexes) is.made

  pub world-is : world_of state ≡ world_from definitions is.spans
  world-is = ap world_of is.made

  pub route-at : (name : Name) (item : RouteItem) → names.get definitions.routes name ≡ Some item → names.get state.routes name ≡ Some item.ends
  route-at name item there = ap (λ (routes : Names RouteEnds). names.get routes name) routes-are ∙ get-routes_of definitions name ∙ ap (option_map (λ (item : RouteItem). item.ends)) there

  pub table-at : (name : Name) (item : TableItem) → names.get definitions.tables name ≡ Some item → names.get state.tables name ≡ Some (table_from definitions.routes is.spans item)
  table-at name item there =
      ap (λ (s : State). names.get s.tables name) is.made ∙ get-tables_from definitions is.spans name ∙ ap (option_map (table_from definitions.routes is.spans)) there

  pub referents-at : (name : Name) (item : RouteItem) → names.get definitions.routes name ≡ Some item → state.referents name ≡ referents item.number
  referents-at name item there = ap (λ (s : State). s.referents name) is.made ∙ laws.referents_there definitions name item referents there
