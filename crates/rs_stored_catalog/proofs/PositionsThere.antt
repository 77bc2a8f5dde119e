-- Whether the referent that a position names is there, however the position is written.
use Rattle.std.proofs.Common.{◌≡◌, ◌∙◌, ◌&&◌, ◌||◌, ℕ, Option, Some, is_some, refl, ap}
use Rattle.std.specs.FinMap as names
use Rattle.rs_catalog.specs.Definitions.{Definitions, RouteItem, on_numbered, referents_from}
use Rattle.rs_facts.specs.Fact.{Name, Names}
use Rattle.rs_facts.specs.Insert.{same_name}
use Rattle.rs_machine.specs.State.{has}
use Rattle.rs_methods.specs.Position.{relative_of, start_name}
use Rattle.rs_methods.specs.declared.position.Sign.{Sign}
use Rattle.rs_methods.specs.declared.position.Sign.TheVariants as signs
use Rattle.rs_stored_catalog.specs.Windows.{position_there, referent_there}

module _ (definitions : Definitions) (on : ℕ → Names ℕ) (route : Name) where
  relative_there : (name : Name) (sign : Sign) (measure : ℕ) → position_there definitions on route (relative_of name sign measure) ≡ referent_there definitions on route name
  relative_there name signs.Plus measure = refl
  relative_there name signs.Minus measure = refl

  -- the route of this item has it
  referent_by : (item : RouteItem) (name : Name) → names.get definitions.routes route ≡ Some item → referent_there definitions on route name ≡ same_name start_name name || has (on item.number) name
  unfolding referents_from
  referent_by item name there = ap (λ (o : Option RouteItem). same_name start_name name || has (on_numbered names.empty on o) name) there

  pub is_there : (item : RouteItem) (name : Name) (sign : Sign) (measure : ℕ) → names.get definitions.routes route ≡ Some item
      → (has definitions.routes route && position_there definitions on route (relative_of name sign measure)) ≡ same_name start_name name || has (on item.number) name
  is_there item name sign measure there =
      ap (λ (o : Option RouteItem). is_some o && position_there definitions on route (relative_of name sign measure)) there ∙ relative_there name sign measure ∙ referent_by item name there
