-- Queries with their views opened, their size, and what they name.
use Rattle.std.specs.Prelude.{◌≡◌, ℕ, zero, suc, ◌+◌, ◌<◌, max, Bool, false, ◌&&◌, ◌||◌, List, [], ◌∷◌, ◌++◌, Some, unwrap_or, Contains}
use Rattle.std.specs.List.{list_any}
use Rattle.std.specs.FinMap as names
use Rattle.rs_methods.specs.Position.{PositionExpression, absolute, beyond, before, interpolative}
use Rattle.rs_facts.specs.Fact.{Name, Names}
use Rattle.rs_facts.specs.Insert.{same_name}
use Rattle.rs_facts.specs.Query.{Piece}
use Rattle.rs_syntax.specs.Tree.{WindowTree, whole_route, part_of_route, QueryTree, named, filtered, dissolved, renamed, overlaid, covered, merged, subtracted, windowed, transformed, gapped}
use Rattle.rs_machine.specs.State.{State}

-- ---- what a query names

-- the tables and views, from the left
abbrev pub names_in : QueryTree → List Name
names_in (named name) = name ∷ []
names_in (filtered query condition) = names_in query
names_in (dissolved query columns) = names_in query
names_in (renamed query from to) = names_in query
names_in (overlaid a b) = names_in a ++ names_in b
names_in (covered a b) = names_in a ++ names_in b
names_in (merged a b) = names_in a ++ names_in b
names_in (subtracted a b) = names_in a ++ names_in b
names_in (windowed query window) = names_in query
names_in (transformed query alignment) = names_in query
names_in (gapped query) = names_in query

-- the alignments, from the left, those inside first
abbrev pub alignments_in : QueryTree → List Name
alignments_in (named name) = []
alignments_in (filtered query condition) = alignments_in query
alignments_in (dissolved query columns) = alignments_in query
alignments_in (renamed query from to) = alignments_in query
alignments_in (overlaid a b) = alignments_in a ++ alignments_in b
alignments_in (covered a b) = alignments_in a ++ alignments_in b
alignments_in (merged a b) = alignments_in a ++ alignments_in b
alignments_in (subtracted a b) = alignments_in a ++ alignments_in b
alignments_in (windowed query window) = alignments_in query
alignments_in (transformed query alignment) = alignments_in query ++ alignment ∷ []
alignments_in (gapped query) = alignments_in query

-- the windows, from the left, those inside first
abbrev pub windows_in : QueryTree → List WindowTree
windows_in (named name) = []
windows_in (filtered query condition) = windows_in query
windows_in (dissolved query columns) = windows_in query
windows_in (renamed query from to) = windows_in query
windows_in (overlaid a b) = windows_in a ++ windows_in b
windows_in (covered a b) = windows_in a ++ windows_in b
windows_in (merged a b) = windows_in a ++ windows_in b
windows_in (subtracted a b) = windows_in a ++ windows_in b
windows_in (windowed query window) = windows_in query ++ window ∷ []
windows_in (transformed query alignment) = windows_in query
windows_in (gapped query) = windows_in query

-- ---- opening

-- each name of a view replaced by its query, one level deep
abbrev pub opened_once : Names QueryTree → QueryTree → QueryTree
opened_once views (named name) = unwrap_or (names.get views name) (named name)
opened_once views (filtered query condition) = filtered (opened_once views query) condition
opened_once views (dissolved query columns) = dissolved (opened_once views query) columns
opened_once views (renamed query from to) = renamed (opened_once views query) from to
opened_once views (overlaid a b) = overlaid (opened_once views a) (opened_once views b)
opened_once views (covered a b) = covered (opened_once views a) (opened_once views b)
opened_once views (merged a b) = merged (opened_once views a) (opened_once views b)
opened_once views (subtracted a b) = subtracted (opened_once views a) (opened_once views b)
opened_once views (windowed query window) = windowed (opened_once views query) window
opened_once views (transformed query alignment) = transformed (opened_once views query) alignment
opened_once views (gapped query) = gapped (opened_once views query)

abbrev pub opened_times : ℕ → Names QueryTree → QueryTree → QueryTree
opened_times zero views query = query
opened_times (suc times) views query = opened_times times views (opened_once views query)

-- Views stand in an order: each has a place of its own below their number, and names only views before it.
pub record AreInOrder (views : Names QueryTree) : Type 0 where
  pub place : Name → ℕ
  pub below : (name : Name) (query : QueryTree) → names.get views name ≡ Some query → place name < names.len views
  pub apart : (a b : Name) (x y : QueryTree) → names.get views a ≡ Some x → names.get views b ≡ Some y → place a ≡ place b → a ≡ b
  pub before : (name other : Name) (query : QueryTree) → names.get views name ≡ Some query → Contains (names_in query) other
      → (y : QueryTree) → names.get views other ≡ Some y → place other < place name

-- Views name only views before them, so after as many openings as there are views none is left.
unfoldable pub opened : Names QueryTree → QueryTree → QueryTree
opened views query = opened_times (names.len views) views query

-- ---- size

-- each operator and each table is one
abbrev pub nodes : QueryTree → ℕ
nodes (named name) = 1
nodes (filtered query condition) = nodes query + 1
nodes (dissolved query columns) = nodes query + 1
nodes (renamed query from to) = nodes query + 1
nodes (overlaid a b) = nodes a + nodes b + 1
nodes (covered a b) = nodes a + nodes b + 1
nodes (merged a b) = nodes a + nodes b + 1
nodes (subtracted a b) = nodes a + nodes b + 1
nodes (windowed query window) = nodes query + 1
nodes (transformed query alignment) = nodes query + 1
nodes (gapped query) = nodes query + 1

-- a table has depth 1, an operator one more than its deepest operand
abbrev pub depth : QueryTree → ℕ
depth (named name) = 1
depth (filtered query condition) = depth query + 1
depth (dissolved query columns) = depth query + 1
depth (renamed query from to) = depth query + 1
depth (overlaid a b) = max (depth a) (depth b) + 1
depth (covered a b) = max (depth a) (depth b) + 1
depth (merged a b) = max (depth a) (depth b) + 1
depth (subtracted a b) = max (depth a) (depth b) + 1
depth (windowed query window) = depth query + 1
depth (transformed query alignment) = depth query + 1
depth (gapped query) = depth query + 1

-- ---- what views and alignments name

-- whether some view's query is so
abbrev pub some_view : State → (QueryTree → Bool) → Bool
some_view state test = list_any (λ view. test view.1) (names.entries state.views)

-- whether a table or view of this name is named
abbrev pub names_query : Name → QueryTree → Bool
names_query name query = list_any (same_name name) (names_in query)

-- whether the alignment of this name is named
abbrev pub names_alignment : Name → QueryTree → Bool
names_alignment name query = list_any (same_name name) (alignments_in query)

abbrev pub window_on : Name → WindowTree → Bool
window_on name (whole_route route) = same_name name route
window_on name (part_of_route route from to) = same_name name route

-- whether a window is on this route
abbrev pub names_route : Name → QueryTree → Bool
names_route route query = list_any (window_on route) (windows_in query)

abbrev pub position_by : Name → PositionExpression → Bool
position_by name (absolute measure) = false
position_by name (beyond referent measure) = same_name name referent
position_by name (before referent measure) = same_name name referent
position_by name (interpolative part) = false

abbrev pub window_by : Name → Name → WindowTree → Bool
window_by route name (whole_route other) = false
window_by route name (part_of_route other from to) = same_name route other && (position_by name from || position_by name to)

-- whether a window on this route names this referent
abbrev pub names_referent : Name → Name → QueryTree → Bool
names_referent route name query = list_any (window_by route name) (windows_in query)

-- whether a part of the route is carried, or something onto it
abbrev pub piece_on : Name → Piece → Bool
piece_on route piece = same_name route piece.from_route || same_name route piece.onto_route

-- whether some alignment has a piece on the route
abbrev pub some_piece_on : State → Name → Bool
some_piece_on state route = list_any (λ alignment. list_any (piece_on route) alignment.1) (names.entries state.alignments)
