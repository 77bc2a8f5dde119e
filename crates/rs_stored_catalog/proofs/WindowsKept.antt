-- What windows name does not depend on views.
use Rattle.std.proofs.Common.{◌≡◌, ℕ, Bool, List, [], ◌∷◌, ◌&&◌, refl, sym, ◌∙◌}
use Rattle.std.specs.List.{list_all}
use Rattle.rs_catalog.specs.Definitions as catalog
use Rattle.rs_catalog.specs.Definitions.{Definitions, referents_from}
use Rattle.rs_facts.specs.Fact.{Name, Names}
use Rattle.rs_methods.specs.Position.{PositionExpression, absolute, before, beyond, interpolative}
use Rattle.rs_syntax.specs.Tree.{QueryTree, WindowTree, part_of_route, whole_route}
use Rattle.rs_machine.specs.Opening.{windows_in}
use Rattle.rs_stored_catalog.specs.EnteringViews.{AreWindowsThere}
use Rattle.rs_stored_catalog.specs.Windows.{position_there, window_there}

module _ (definitions : Definitions) (views : Names catalog.ViewItem) (on : ℕ → Names ℕ) where
  abbrev other : Definitions
  other = record definitions { views = views }

  position_kept : (route : Name) (position : PositionExpression) → position_there other on route position ≡ position_there definitions on route position
  unfolding referents_from
  position_kept route (absolute measure) = refl
  position_kept route (beyond name measure) = refl
  position_kept route (before name measure) = refl
  position_kept route (interpolative part) = refl

  window_kept : (window : WindowTree) → window_there other on window ≡ window_there definitions on window
  window_kept (whole_route route) = refl
  window_kept (part_of_route route from to) = λ i. is_there && (position_kept route from i && position_kept route to i)
    where
      is_there : Bool
      is_there = window_there definitions on (whole_route route)

  all_kept : (windows : List WindowTree) → list_all (window_there other on) windows ≡ list_all (window_there definitions on) windows
  all_kept [] = refl
  all_kept (window ∷ windows) = λ i. window_kept window i && all_kept windows i

  pub windows_kept : (query : QueryTree) → AreWindowsThere definitions on query → AreWindowsThere other on query
  windows_kept query there = all_kept (windows_in query) ∙ there

  pub windows_back : (query : QueryTree) → AreWindowsThere other on query → AreWindowsThere definitions on query
  windows_back query there = sym (all_kept (windows_in query)) ∙ there
