-- The state of the reference machine.
--
-- It knows routes, referents, tables, views, alignments, indexes and cursors by name, and the rows at each single
-- thousandth. It knows no span, page, version or plan: of an index it knows the table and the column alone.
use Rattle.std.specs.Prelude.{ℕ, Bool, nat_eq, nat_lt, is_some, List, if◌then◌else◌}
use Rattle.std.specs.List.{list_any, range_with_len}
use Rattle.std.specs.FinMap as map
use Rattle.rs_facts.specs.Fact.{Name, Names}
use Rattle.rs_facts.specs.Query.{RouteEnds, Table, World, Piece}
use Rattle.rs_planning.specs.Basis.{IndexedColumn}
use Rattle.rs_syntax.specs.Tree.{QueryTree}
use Rattle.rs_machine.specs.declared.limits.TheConstants.{SESSIONS}

-- what follows `ROW ` in a reply's line, without its LF
abbrev pub RowText : Type 0
RowText = List ℕ

-- the cursors of a session, each the lines that it has still to give
abbrev pub Cursors : Type 0
Cursors = Names (List RowText)

pub record State : Type 0 where
  pub routes : Names RouteEnds
  -- of each route, the referents beside START, each with its measure
  pub referents : Name → Names ℕ
  pub tables : Names Table
  -- each its query as it was written
  pub views : Names QueryTree
  -- each its pieces as they were written
  pub alignments : Names (List Piece)
  -- each the table and the place of the column that it is of
  pub indexes : Names IndexedColumn
  -- how many changes were accepted
  pub changes : ℕ
  -- by session, 0 to 63
  pub cursors : ℕ → Cursors

abbrev pub no_referents : Name → Names ℕ
no_referents route = map.empty

abbrev pub no_cursors : ℕ → Cursors
no_cursors session = map.empty

-- no route, no referent, no table, no view, no alignment, no index, no change, no cursor
unfoldable pub fresh : State
fresh = record { routes = map.empty; referents = no_referents; tables = map.empty; views = map.empty; alignments = map.empty; indexes = map.empty; changes = 0; cursors = no_cursors }

-- what a query of this state is asked of
abbrev pub world_of : State → World
world_of state = record { routes = state.routes; tables = state.tables }

abbrev pub has : {X : Type 0} → Names X → Name → Bool
has names name = is_some (map.get names name)

-- whether any session has a cursor
unfoldable pub some_cursor : (ℕ → Cursors) → Bool
some_cursor cursors = list_any (λ session. nat_lt 0 (map.len (cursors session))) (range_with_len 0 SESSIONS)

-- one session has other cursors
unfoldable pub cursors_at : ℕ → Cursors → (ℕ → Cursors) → ℕ → Cursors
cursors_at session cursors old = λ other. if nat_eq other session then cursors else old other
