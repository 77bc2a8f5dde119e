-- A route that comes to a catalogue: by which version all routes are born, and that nothing lies on it.
use Rattle.std.proofs.Common.{◌≡◌, ◌≤◌, ◌+◌, ◌∙◌, ◌||◌, ℕ, Bool, true, false, List, [], ◌∷◌, ◌++◌, Some, None, ap, refl, subst, sym, arith}
use Rattle.std.specs.FinMap as names
use Rattle.std.specs.List.{AllByRecursion, list_any}
use Rattle.std.specs.Option.{option_map}
use Rattle.std.specs.Prelude.{Option, is_some}
use Rattle.std.proofs.lemmas.Bool.{false≢true}
use Rattle.rs_catalog.specs.Definitions.{AreDefinitions, Definitions, RouteItem, routes_of}
use Rattle.rs_catalog.specs.Uses.{some_piece_on}
use Rattle.rs_catalog.proofs.MapLaws.{none_some, same_name-true}
use Rattle.rs_catalog.proofs.Names.{each_entry, get-map_values}
use Rattle.rs_catalog_pages.specs.Items as items
use Rattle.rs_catalog_pages.specs.Items.{CatalogueItems}
use Rattle.rs_facts.specs.Fact.{Name}
use Rattle.rs_facts.specs.Insert.{same_name}
use Rattle.rs_facts.specs.Query.{Piece, RouteEnds}
use Rattle.rs_facts.specs.WellFormed.{ArePiecesOn}
use Rattle.rs_machine.specs.Opening.{piece_on}
use Rattle.rs_machine.specs.State.{has}
use Rattle.rs_stored_catalog.specs.Relisting.{HasRouteMore}

-- ---- births

all_with_one : {X : Type 0} (P Q : X → Type 0) → ((x : X) → P x → Q x) → (before after : List X) (one : X) → AllByRecursion P (before ++ after) → Q one → AllByRecursion Q (before ++ one ∷ after)
all_with_one P Q gives [] after one all is = (is, each after all) where
  each : (xs : List _) → AllByRecursion P xs → AllByRecursion Q xs
  each [] all = tt
  each (x ∷ xs) all = (gives x all.0, each xs all.1)
all_with_one P Q gives (x ∷ before) after one all is = (gives x all.0, all_with_one P Q gives before after one all.1 is)

-- a route more that is born by the next version
pub births_more : (route : items.RouteItem) (old now : CatalogueItems) (accepted : ℕ) → HasRouteMore route old now → route.born ≡ accepted + 1
    → AllByRecursion (λ r. r.born ≤ accepted) old.routes → AllByRecursion (λ r. r.born ≤ accepted + 1) now.routes
births_more route old now accepted more born births =
    subst (AllByRecursion (λ (r : items.RouteItem). r.born ≤ accepted + 1)) (sym more.routes.is)
    (all_with_one (λ (r : items.RouteItem). r.born ≤ accepted) (λ (r : items.RouteItem). r.born ≤ accepted + 1) (λ r early. omega (arith, early)) more.routes.before more.routes.after route
    (subst (AllByRecursion (λ (r : items.RouteItem). r.born ≤ accepted)) more.routes.was births) (omega (arith, born)))

all_without_one : {X : Type 0} (P Q : X → Type 0) → ((x : X) → P x → Q x) → (before after : List X) (one : X) → AllByRecursion P (before ++ one ∷ after) → AllByRecursion Q (before ++ after)
all_without_one P Q gives [] after one all = each after all.1 where
  each : (xs : List _) → AllByRecursion P xs → AllByRecursion Q xs
  each [] all = tt
  each (x ∷ xs) all = (gives x all.0, each xs all.1)
all_without_one P Q gives (x ∷ before) after one all = (gives x all.0, all_without_one P Q gives before after one all.1)

-- a route less
pub births_less : (route : items.RouteItem) (old now : CatalogueItems) (accepted : ℕ) → HasRouteMore route now old
    → AllByRecursion (λ r. r.born ≤ accepted) old.routes → AllByRecursion (λ r. r.born ≤ accepted + 1) now.routes
births_less route old now accepted more births =
    subst (AllByRecursion (λ (r : items.RouteItem). r.born ≤ accepted + 1)) (sym more.routes.was)
    (all_without_one (λ (r : items.RouteItem). r.born ≤ accepted) (λ (r : items.RouteItem). r.born ≤ accepted + 1) (λ r early. omega (arith, early)) more.routes.before more.routes.after route
    (subst (AllByRecursion (λ (r : items.RouteItem). r.born ≤ accepted)) more.routes.is births))

-- ---- pieces

or_false : (a b : Bool) → a ≡ false → b ≡ false → (a || b) ≡ false
or_false a b first second = ap (λ x. x || b) first ∙ second

none_has : {X : Type 0} (found : Option X) → is_some found ≡ false → found ≡ None
none_has None none = refl
none_has (Some x) some = absurd (false≢true (sym some))

module _ (definitions : Definitions) (name : Name) (new : has definitions.routes name ≡ false) where
  nowhere : names.get (routes_of definitions) name ≡ None
  nowhere = get-map_values (λ item. item.ends) definitions.routes name ∙ ap (option_map (λ (item : RouteItem). item.ends)) (none_has (names.get definitions.routes name) new)

  other_route : (route : Name) (ends : RouteEnds) → names.get (routes_of definitions) route ≡ Some ends → same_name name route ≡ false
  other_route route ends there = elim (same_name name route) as (λ b. same_name name route ≡ b → b ≡ false) [
    | true ↦ λ same. none_some ends (sym nowhere ∙ ap (names.get (routes_of definitions)) (same_name-true name route same) ∙ there)
    | false ↦ λ other. refl
  ] refl

  none_of_pieces : (pieces : List Piece) → ArePiecesOn (routes_of definitions) pieces → list_any (piece_on name) pieces ≡ false
  none_of_pieces [] are = refl
  none_of_pieces (piece ∷ pieces) are =
      let is = are.0 in
      or_false (piece_on name piece) (list_any (piece_on name) pieces)
      (or_false (same_name name piece.from_route) (same_name name piece.onto_route) (other_route piece.from_route is.first is.first_there) (other_route piece.onto_route is.second is.second_there))
      (none_of_pieces pieces are.1)

  none_aligned : AreDefinitions definitions → (entries : List (Name × List Piece)) → AllByRecursion (λ e. names.get definitions.alignments e.0 ≡ Some e.1) entries
      → list_any (λ (alignment : Name × List Piece). list_any (piece_on name) alignment.1) entries ≡ false
  none_aligned are [] all = refl
  none_aligned are (e ∷ es) all =
      or_false (list_any (piece_on name) e.1) (list_any (λ (alignment : Name × List Piece). list_any (piece_on name) alignment.1) es) (none_of_pieces e.1 (are.alignments e.0 e.1 all.0)) (none_aligned are es all.1)

  -- no alignment carries anything of a route that isn't there
  pub none_carries : AreDefinitions definitions → some_piece_on definitions name ≡ false
  none_carries are = none_aligned are (names.entries definitions.alignments) (each_entry definitions.alignments)
