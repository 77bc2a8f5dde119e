-- The header of an answer.
use Rattle.std.specs.Prelude.{◌≡◌, ℕ, Bool, true, false, List, [], ◌∷◌, ◌++◌, codes, Ok, is_some}
use Rattle.rs_facts.specs.Fact.{Name}
use Rattle.rs_facts.specs.Query.{Column, Query, kind_of}
use Rattle.rs_machine.specs.Checking.{checked, columns_in}
use Rattle.rs_machine.specs.Checks.{column_names}
use Rattle.rs_machine.specs.State.{State, world_of}
use Rattle.rs_syntax.specs.Tree.{CommandTree, QueryTree, open_cursor, select, total, translate}
use Rattle.rs_value.specs.declared.column.Kind.{Kind}
use Rattle.rs_value.specs.declared.column.Kind.TheVariants.{Line, Point}

-- each name after a comma
abbrev pub names_after : List Name → List ℕ
names_after [] = []
names_after (name ∷ names) = 44 ∷ (name ++ names_after names)

-- each name before a comma
abbrev pub names_before : List Name → List ℕ
names_before [] = []
names_before (name ∷ names) = name ++ 44 ∷ names_before names

abbrev pub places_head : Kind → List ℕ
places_head Line = codes "route,from,to"
places_head Point = codes "route,at"

-- that of a query's lines
abbrev pub lines_head : Kind → List Name → List ℕ
lines_head kind columns = places_head kind ++ names_after columns ++ 10 ∷ []

abbrev pub amounts_head : Bool → List ℕ
amounts_head true = codes "length,weight,sum"
amounts_head false = codes "length"

-- that of totals, by these columns and with a sum or without
abbrev pub total_head : List Name → Bool → List ℕ
total_head by sums = names_before by ++ amounts_head sums ++ 10 ∷ []

-- a query has this kind and these columns
pub record HasShape (state : State) (tree : QueryTree) (kind : Kind) (columns : List Column) : Type 0 where
  pub query : Query
  pub is : checked state tree ≡ Ok query
  pub kind_is : kind ≡ kind_of (world_of state) query
  pub columns_are : columns ≡ columns_in state query

-- The header of what a command answers in a state: that of lines, of totals and of a position. The lines of a cursor have theirs where
-- it is opened, so that what is fetched goes on under it.
abbrev pub HasHead : State → CommandTree → List ℕ → Type 0
HasHead state (select query method) head = (kind : Kind) × (columns : List Column) × HasShape state query kind columns × (head ≡ lines_head kind (column_names columns))
HasHead state (total query by summed) head = head ≡ total_head by (is_some summed)
HasHead state (open_cursor name query method) head =
    (kind : Kind) × (columns : List Column) × HasShape state query kind columns × (head ≡ lines_head kind (column_names columns))
HasHead state (translate route position method) head = head ≡ codes "position\n"
HasHead state command head = head ≡ []
