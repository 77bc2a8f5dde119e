-- What the queries of views and the pieces of alignments name.
use Rattle.std.specs.Prelude.{Bool}
use Rattle.std.specs.List.{list_any}
use Rattle.std.specs.FinMap as names
use Rattle.rs_facts.specs.Fact.{Name}
use Rattle.rs_syntax.specs.Tree.{QueryTree}
use Rattle.rs_machine.specs.Opening.{piece_on}
use Rattle.rs_catalog.specs.Definitions.{Definitions, views_of}

-- a view's query is so; of each state that is made of the definitions it is `some_view`
abbrev pub some_view_query : Definitions → (QueryTree → Bool) → Bool
some_view_query definitions test = list_any (λ view. test view.1) (names.entries (views_of definitions))

-- whether some alignment has a piece on the route; of each state that is made of the definitions it is the machine's
abbrev pub some_piece_on : Definitions → Name → Bool
some_piece_on definitions route = list_any (λ alignment. list_any (piece_on route) alignment.1) (names.entries definitions.alignments)
