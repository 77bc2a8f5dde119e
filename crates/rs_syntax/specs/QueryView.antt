-- The value of a query and of a condition of the code.
use Rattle.std.specs.Prelude.{List, [], ◌∷◌, map, Vec}
use Rattle.std.specs.declared.alloc.Global.{Global}
use Rattle.rs_methods.specs.Position.{expression_of}
use Rattle.rs_value.specs.View.{literal_datum}
use Rattle.rs_syntax.specs.declared.queries.Window.{Window}
use Rattle.rs_syntax.specs.declared.queries.Window.TheVariants as windows
use Rattle.rs_syntax.specs.declared.queries.Operand.{Operand}
use Rattle.rs_syntax.specs.declared.queries.Operand.TheVariants as operands
use Rattle.rs_syntax.specs.declared.queries.Atom.{Atom, fold-Atom}
use Rattle.rs_syntax.specs.declared.queries.Atom.TheOpen.{Atom-F}
use Rattle.rs_syntax.specs.declared.queries.Query.{Query, fold-Query}
use Rattle.rs_syntax.specs.declared.queries.Query.TheOpen.{Query-F}
use Rattle.rs_syntax.specs.Tree.{WindowTree, whole_route, part_of_route, OperandTree, column_named, written_value, ConditionTree, compare, is_null, is_not_null, negated, bracketed, both, either, QueryTree, named, filtered, dissolved, renamed, overlaid, covered, merged, subtracted, windowed, transformed, gapped}

abbrev pub window_tree : Window → WindowTree
window_tree (windows.Whole route) = whole_route route.bytes
window_tree (windows.Part route from to) = part_of_route route.bytes (expression_of from) (expression_of to)

abbrev pub operand_tree : Operand → OperandTree
operand_tree (operands.Column name) = column_named name.bytes
operand_tree (operands.Value literal) = written_value (literal_datum literal)

-- no column; a chain has a part at least, so it is never read
abbrev pub no_condition : ConditionTree
no_condition = is_null []

-- parts between which AND stands
abbrev pub all_of : List ConditionTree → ConditionTree
all_of [] = no_condition
all_of (first ∷ []) = first
all_of (first ∷ second ∷ others) = both first (all_of (second ∷ others))

-- parts between which OR stands
abbrev pub any_of : List ConditionTree → ConditionTree
any_of [] = no_condition
any_of (first ∷ []) = first
any_of (first ∷ second ∷ others) = either first (any_of (second ∷ others))

-- an OR of ANDs, of the values of their parts
abbrev pub chain : List (Vec ConditionTree Global) → ConditionTree
chain conjunctions = any_of (map (λ parts. all_of parts.items) conjunctions)

-- one level, with the value of each part inside in its place
abbrev pub atom_step : Atom-F ConditionTree → ConditionTree
atom_step (Atom-F.Compare name comparison operand) = compare name.bytes comparison (operand_tree operand)
atom_step (Atom-F.IsNull name) = is_null name.bytes
atom_step (Atom-F.IsNotNull name) = is_not_null name.bytes
atom_step (Atom-F.Negated conjunctions) = negated (chain conjunctions.items)
atom_step (Atom-F.Bracketed conjunctions) = bracketed (chain conjunctions.items)

abbrev pub atom_tree : Atom → ConditionTree
atom_tree = fold-Atom ConditionTree atom_step

-- a condition, an OR of ANDs
abbrev pub condition_tree : List (Vec Atom Global) → ConditionTree
condition_tree conjunctions = any_of (map (λ atoms. all_of (map atom_tree atoms.items)) conjunctions)

-- one level, with the value of each operand in its place
abbrev pub query_step : Query-F QueryTree → QueryTree
query_step (Query-F.Named name) = named name.bytes
query_step (Query-F.Where query conjunctions) = filtered query.value (condition_tree conjunctions.items)
query_step (Query-F.Dissolve query names) = dissolved query.value (map (λ name. name.bytes) names.items)
query_step (Query-F.Rename query from to) = renamed query.value from.bytes to.bytes
query_step (Query-F.Overlay left right) = overlaid left.value right.value
query_step (Query-F.Cover left right) = covered left.value right.value
query_step (Query-F.Merge left right) = merged left.value right.value
query_step (Query-F.Minus left right) = subtracted left.value right.value
query_step (Query-F.Window query window) = windowed query.value (window_tree window)
query_step (Query-F.Transform query alignment) = transformed query.value alignment.bytes
query_step (Query-F.Gaps query) = gapped query.value

abbrev pub query_tree : Query → QueryTree
query_tree = fold-Query QueryTree query_step
