-- Queries by their topmost node: what they name, how large they are, and their views opened.
use Rattle.std.proofs.Common.{◌≡◌, ℕ, zero, suc, ◌+◌, ◌-◌, ◌<◌, ◌≤◌, ◌++◌, Some, None, Bor, refl, ap, ◌∙◌, arith}
use Rattle.std.specs.Prelude.{max, unwrap_or}
use Rattle.std.specs.FinMap as names
use Rattle.arrayvec.specs.ArrayString.{ArrayString}
use Rattle.rs_facts.specs.Fact.{Names, Name}
use Rattle.rs_syntax.specs.declared.queries.Query.{Query}
use Rattle.rs_syntax.specs.QueryView.{query_tree}
use Rattle.rs_syntax.specs.Tree.{QueryTree, named}
use Rattle.rs_machine.specs.Opening.{names_in, alignments_in, opened_once, opened_times, nodes, depth}
use Rattle.rs_checker.specs.declared.node.UnaryOperator.{UnaryOperator}
use Rattle.rs_checker.specs.declared.node.UnaryOperator.TheVariants as unary
use Rattle.rs_checker.specs.declared.node.BinaryOperator.{BinaryOperator}
use Rattle.rs_checker.specs.declared.node.BinaryOperator.TheVariants as binary
use Rattle.rs_checker.specs.declared.node.Node.{Node}
use Rattle.rs_checker.specs.declared.node.Node.TheVariants as tops
use Rattle.rs_checker.specs.NodeView.{unary_tree, binary_tree, node_tree}

-- ---- names and size

pub names_unary : (operator : UnaryOperator) (a : QueryTree) → names_in (unary_tree operator a) ≡ names_in a
names_unary (unary.Where condition) a = refl
names_unary (unary.Dissolve columns) a = refl
names_unary (unary.Rename from to) a = refl
names_unary (unary.Window window) a = refl
names_unary (unary.Transform name) a = refl
names_unary unary.Gaps a = refl

pub names_binary : (operator : BinaryOperator) (a b : QueryTree) → names_in (binary_tree operator a b) ≡ names_in a ++ names_in b
names_binary binary.Overlay a b = refl
names_binary binary.Cover a b = refl
names_binary binary.Merge a b = refl
names_binary binary.Minus a b = refl

pub alignments_binary : (operator : BinaryOperator) (a b : QueryTree) → alignments_in (binary_tree operator a b) ≡ alignments_in a ++ alignments_in b
alignments_binary binary.Overlay a b = refl
alignments_binary binary.Cover a b = refl
alignments_binary binary.Merge a b = refl
alignments_binary binary.Minus a b = refl

pub nodes_unary : (operator : UnaryOperator) (a : QueryTree) → nodes (unary_tree operator a) ≡ nodes a + 1
nodes_unary (unary.Where condition) a = refl
nodes_unary (unary.Dissolve columns) a = refl
nodes_unary (unary.Rename from to) a = refl
nodes_unary (unary.Window window) a = refl
nodes_unary (unary.Transform name) a = refl
nodes_unary unary.Gaps a = refl

pub nodes_binary : (operator : BinaryOperator) (a b : QueryTree) → nodes (binary_tree operator a b) ≡ nodes a + nodes b + 1
nodes_binary binary.Overlay a b = refl
nodes_binary binary.Cover a b = refl
nodes_binary binary.Merge a b = refl
nodes_binary binary.Minus a b = refl

pub depth_unary : (operator : UnaryOperator) (a : QueryTree) → depth (unary_tree operator a) ≡ depth a + 1
depth_unary (unary.Where condition) a = refl
depth_unary (unary.Dissolve columns) a = refl
depth_unary (unary.Rename from to) a = refl
depth_unary (unary.Window window) a = refl
depth_unary (unary.Transform name) a = refl
depth_unary unary.Gaps a = refl

pub depth_binary : (operator : BinaryOperator) (a b : QueryTree) → depth (binary_tree operator a b) ≡ max (depth a) (depth b) + 1
depth_binary binary.Overlay a b = refl
depth_binary binary.Cover a b = refl
depth_binary binary.Merge a b = refl
depth_binary binary.Minus a b = refl

-- ---- opening

pub opened_unary : (n : ℕ) (views : Names QueryTree) (operator : UnaryOperator) (a : QueryTree) → opened_times n views (unary_tree operator a) ≡ unary_tree operator (opened_times n views a)
opened_unary zero views operator a = refl
opened_unary (suc n) views (unary.Where condition) a = opened_unary n views (unary.Where condition) (opened_once views a)
opened_unary (suc n) views (unary.Dissolve columns) a = opened_unary n views (unary.Dissolve columns) (opened_once views a)
opened_unary (suc n) views (unary.Rename from to) a = opened_unary n views (unary.Rename from to) (opened_once views a)
opened_unary (suc n) views (unary.Window window) a = opened_unary n views (unary.Window window) (opened_once views a)
opened_unary (suc n) views (unary.Transform name) a = opened_unary n views (unary.Transform name) (opened_once views a)
opened_unary (suc n) views unary.Gaps a = opened_unary n views unary.Gaps (opened_once views a)

pub opened_binary : (n : ℕ) (views : Names QueryTree) (operator : BinaryOperator) (a b : QueryTree) → opened_times n views (binary_tree operator a b) ≡ binary_tree operator (opened_times n views a) (opened_times n views b)
opened_binary zero views operator a b = refl
opened_binary (suc n) views binary.Overlay a b = opened_binary n views binary.Overlay (opened_once views a) (opened_once views b)
opened_binary (suc n) views binary.Cover a b = opened_binary n views binary.Cover (opened_once views a) (opened_once views b)
opened_binary (suc n) views binary.Merge a b = opened_binary n views binary.Merge (opened_once views a) (opened_once views b)
opened_binary (suc n) views binary.Minus a b = opened_binary n views binary.Minus (opened_once views a) (opened_once views b)

-- a view's name is its query, once more opened
pub opened_view : (n : ℕ) (views : Names QueryTree) (name : Name) (query : QueryTree) → 0 < n → names.get views name ≡ Some query → opened_times n views (named name) ≡ opened_times (n - 1) views query
opened_view zero views name query some there = absurd (omega arith)
opened_view (suc n) views name query some there = ap (λ o. opened_times n views (unwrap_or o (named name))) there ∙ ap (λ m. opened_times m views query) (less n)
  where
    less : (n : ℕ) → n ≡ suc n - 1
    less n = omega arith

-- each other name stays
pub opened_table : (n : ℕ) (views : Names QueryTree) (name : Name) → names.get views name ≡ None → opened_times n views (named name) ≡ named name
opened_table zero views name none = refl
opened_table (suc n) views name none = ap (λ o. opened_times n views (unwrap_or o (named name))) none ∙ opened_table n views name none

pub opened_never : (n : ℕ) (views : Names QueryTree) (name : Name) → n ≤ 0 → opened_times n views (named name) ≡ named name
opened_never n views name none = let e : n ≡ 0 = omega arith in ap (λ m. opened_times m views (named name)) e

-- ---- a query of the code

module _ (n : ℕ) (views : Names QueryTree) (query : Query) (node : Node) (top : query_tree query ≡ node_tree node) where
  pub named_opened : (name : Bor ArrayString) → node ≡ tops.Named name → opened_times n views (query_tree query) ≡ opened_times n views (named name.now.bytes)
  named_opened name is = ap (opened_times n views) (top ∙ ap node_tree is)

  pub unary_opened : (operator : UnaryOperator) (operand : Bor Query) → node ≡ tops.Unary operator operand → opened_times n views (query_tree query) ≡ unary_tree operator (opened_times n views (query_tree operand.now))
  unary_opened operator operand is = ap (opened_times n views) (top ∙ ap node_tree is) ∙ opened_unary n views operator (query_tree operand.now)

  pub binary_opened : (operator : BinaryOperator) (left right : Bor Query) → node ≡ tops.Binary operator left right
      → opened_times n views (query_tree query) ≡ binary_tree operator (opened_times n views (query_tree left.now)) (opened_times n views (query_tree right.now))
  binary_opened operator left right is = ap (opened_times n views) (top ∙ ap node_tree is) ∙ opened_binary n views operator (query_tree left.now) (query_tree right.now)
