-- The lines of EXPLAIN: each node before its operands, with its depth.
use Rattle.std.specs.Prelude.{ℕ, suc, List, [], ◌∷◌, ◌++◌, length, codes, decimal}
use Rattle.rs_facts.specs.Fact.{Names}
use Rattle.rs_facts.specs.Query.{World, Query}
use Rattle.rs_planning.specs.Basis.{IndexedColumn, Basis, present_basis}
use Rattle.rs_planning.specs.Plan.{Access, scan, range, index, Plan, leaf_node, where_node, dissolve_node, overlay_node, cover_node, merge_node, minus_node, window_node, transform_node, gaps_node, Operands, no_operand, operand}
use Rattle.rs_planning.specs.Rule.{plan_of}

-- `SCAN`, `RANGE`, or `INDEX` and the index
abbrev pub access_text : Access → List ℕ
access_text scan = codes "SCAN"
access_text range = codes "RANGE"
access_text (index name) = codes "INDEX " ++ name

-- a number after a space
abbrev pub and_number : ℕ → List ℕ
and_number n = codes " " ++ decimal n

abbrev pub operands_counted : Operands → ℕ
operands_counted no_operand = 0
operands_counted (operand plan operands) = suc (operands_counted operands)

-- the node alone
abbrev pub node_text : Plan → List ℕ
node_text (leaf_node access table windows conditions) = access_text access ++ codes " " ++ table ++ and_number (length windows) ++ and_number (length conditions)
node_text (where_node conditions plan) = codes "WHERE" ++ and_number (length conditions)
node_text (window_node windows plan) = codes "WINDOW" ++ and_number (length windows)
node_text (dissolve_node columns plan) = codes "DISSOLVE" ++ and_number (length columns)
node_text (overlay_node back operands) = codes "OVERLAY" ++ and_number (operands_counted operands)
node_text (cover_node m n a b) = codes "COVER"
node_text (merge_node a b) = codes "MERGE"
node_text (minus_node a b) = codes "MINUS"
node_text (transform_node name pieces plan) = codes "TRANSFORM " ++ name
node_text (gaps_node plan) = codes "GAPS"

-- what follows `ROW ` in the reply's line, without its LF: the depth and the node
abbrev pub line_of_node : ℕ → Plan → List ℕ
line_of_node depth plan = decimal depth ++ codes " " ++ node_text plan

-- the lines of a plan whose outermost node has this depth
abbrev mutual
  pub lines_from : ℕ → Plan → List (List ℕ)
  lines_from depth (leaf_node access table windows conditions) = line_of_node depth (leaf_node access table windows conditions) ∷ []
  lines_from depth (where_node conditions plan) = line_of_node depth (where_node conditions plan) ∷ lines_from (suc depth) plan
  lines_from depth (window_node windows plan) = line_of_node depth (window_node windows plan) ∷ lines_from (suc depth) plan
  lines_from depth (dissolve_node columns plan) = line_of_node depth (dissolve_node columns plan) ∷ lines_from (suc depth) plan
  lines_from depth (overlay_node back operands) = line_of_node depth (overlay_node back operands) ∷ lines_of_each (suc depth) operands
  lines_from depth (cover_node m n a b) = line_of_node depth (cover_node m n a b) ∷ lines_from (suc depth) a ++ lines_from (suc depth) b
  lines_from depth (merge_node a b) = line_of_node depth (merge_node a b) ∷ lines_from (suc depth) a ++ lines_from (suc depth) b
  lines_from depth (minus_node a b) = line_of_node depth (minus_node a b) ∷ lines_from (suc depth) a ++ lines_from (suc depth) b
  lines_from depth (transform_node name pieces plan) = line_of_node depth (transform_node name pieces plan) ∷ lines_from (suc depth) plan
  lines_from depth (gaps_node plan) = line_of_node depth (gaps_node plan) ∷ lines_from (suc depth) plan

  pub lines_of_each : ℕ → Operands → List (List ℕ)
  lines_of_each depth no_operand = []
  lines_of_each depth (operand plan operands) = lines_from depth plan ++ lines_of_each depth operands

-- the lines of the query's plan
abbrev pub explained_by : Basis → Query → List (List ℕ)
explained_by basis query = lines_from 0 (plan_of basis query)

-- what EXPLAIN prints of a query
unfoldable pub explained : World → Names IndexedColumn → Query → List (List ℕ)
explained world indexes query = explained_by (present_basis world indexes) query
