-- Nodes over checked operands, in every state of the same definitions and referents.
use Rattle.std.proofs.Common.{◌≡◌, ℕ, true, false, ◌||◌, List, [], ◌∷◌, ◌++◌, map, Option, Some, None, Result, Ok, Err, refl, sym, ap, ◌∙◌}
use Rattle.std.specs.Option.{option_map}
use Rattle.std.specs.Prelude.{is_some, nat_lt}
use Rattle.std.specs.FinMap as names
use Rattle.rs_refusal.specs.declared.refusal.Refusal.{Refusal}
use Rattle.rs_refusal.specs.declared.refusal.Refusal.TheVariants.{NoSuchName, NoSuchRoute, EmptySpan}
use Rattle.rs_methods.specs.Position.{located}
use Rattle.rs_facts.specs.Fact.{Name, Names}
use Rattle.rs_facts.specs.Query.{on_route, between, Query, merge_rows, minus_rows, window_rows, transform_rows}
use Rattle.rs_facts.specs.Runs.{Stretch}
use Rattle.rs_syntax.specs.QueryView.{condition_tree, window_tree}
use Rattle.rs_syntax.specs.Tree.{WindowTree, whole_route, part_of_route, QueryTree}
use Rattle.rs_machine.specs.State.{State, has, world_of}
use Rattle.rs_machine.specs.Checks.{◌>>=◌, unless, found, alignment_named, span_on}
use Rattle.rs_machine.specs.Checking as machine
use Rattle.rs_machine.specs.Checking.{nodes_checked}
use Rattle.rs_catalog.specs.Definitions.{Definitions, state_from, referents_from, on_numbered, Rest}
use Rattle.rs_catalog.proofs.StateLaws.{get-routes_of, get-views_of, get-tables_from}
use Rattle.rs_checker.specs.declared.checked.Checked.{Checked}
use Rattle.rs_checker.specs.declared.node.UnaryOperator.{UnaryOperator}
use Rattle.rs_checker.specs.declared.node.UnaryOperator.TheVariants as unary
use Rattle.rs_checker.specs.declared.node.BinaryOperator.{BinaryOperator}
use Rattle.rs_checker.specs.declared.node.BinaryOperator.TheVariants as binary
use Rattle.rs_checker.specs.CheckedView.{query_of}
use Rattle.rs_checker.specs.NodeView.{unary_tree, binary_tree}
use Rattle.rs_checker.specs.Steps.{IsStep, Stands, seen_columns, filter_step, dissolve_step, rename_step, gaps_step, overlay_step, cover_step, merge_step, minus_step, binary_step}
use Rattle.rs_checker.specs.Nodes.{names_there, located_window, unary_step, StandsAmong, AreNodes, AreRefused}

-- ---- names

pub there_append : (definitions : Definitions) (xs ys : List Name) → names_there definitions (xs ++ ys) ≡ (names_there definitions xs >>= (λ _. names_there definitions ys))
there_append definitions [] ys = refl
there_append definitions (x ∷ xs) ys =
    elim (has definitions.tables x || has definitions.views x) as (λ b. (unless b NoSuchName >>= (λ _. names_there definitions (xs ++ ys))) ≡ ((unless b NoSuchName >>= (λ _. names_there definitions xs)) >>= (λ _. names_there definitions ys))) [
      | true ↦ there_append definitions xs ys
      | false ↦ refl
    ]

same_some : {X Y : Type 0} (f : X → Y) (o : Option X) → is_some (option_map f o) ≡ is_some o
same_some f None = refl
same_some f (Some x) = refl

pub known_there : (definitions : Definitions) (on : ℕ → Names ℕ) (spans_on : ℕ → ℕ → List Stretch) (rest : Rest) (xs : List Name)
    → machine.names_known (state_from definitions on spans_on rest) xs ≡ names_there definitions xs
known_there definitions on spans_on rest [] = refl
known_there definitions on spans_on rest (x ∷ xs) = λ i.
    unless ((ap is_some (get-tables_from definitions spans_on x) ∙ same_some _ (names.get definitions.tables x)) i || (ap is_some (get-views_of definitions x) ∙ same_some _ (names.get definitions.views x)) i) NoSuchName
    >>= (λ _. known_there definitions on spans_on rest xs i)

-- ---- windows

same_found : {X Y Z : Type 0} (f : X → Y) (o : Option X) (z : Z) → (found (option_map f o) NoSuchRoute >>= (λ _. Ok z)) ≡ (found o NoSuchRoute >>= (λ _. Ok z))
same_found f None z = refl
same_found f (Some x) z = refl

spans : (route : Name) (a b : Result ℕ Refusal)
    → ((a >>= (λ x. b >>= (λ y. unless (nat_lt x y) EmptySpan >>= (λ _. Ok (x, y))))) >>= (λ (span : ℕ × ℕ). Ok (between route span.0 span.1))) ≡ (a >>= (λ x. b >>= (λ y. unless (nat_lt x y) EmptySpan >>= (λ _. Ok (between route x y)))))
spans route (Err refusal) b = refl
spans route (Ok x) (Err refusal) = refl
spans route (Ok x) (Ok y) = elim (nat_lt x y) as (λ test. ((unless test EmptySpan >>= (λ _. Ok (x, y))) >>= (λ (span : ℕ × ℕ). Ok (between route span.0 span.1))) ≡ (unless test EmptySpan >>= (λ _. Ok (between route x y)))) [ true ↦ refl | false ↦ refl ]

pub window_same : (definitions : Definitions) (on : ℕ → Names ℕ) (spans_on : ℕ → ℕ → List Stretch) (rest : Rest) (window : WindowTree)
    → machine.window_checked (state_from definitions on spans_on rest) window ≡ located_window definitions on window
unfolding referents_from
window_same definitions on spans_on rest (whole_route route) = ap (λ o. found o NoSuchRoute >>= (λ _. Ok (on_route route))) (get-routes_of definitions route) ∙ same_found _ (names.get definitions.routes route) (on_route route)
window_same definitions on spans_on rest (part_of_route route from to) =
    ap (λ o. found o NoSuchRoute >>= (λ ends. span_on (state_from definitions on spans_on rest) route ends from to >>= (λ (span : ℕ × ℕ). Ok (between route span.0 span.1)))) (get-routes_of definitions route)
    ∙ elim (names.get definitions.routes route) as (λ o. (found (option_map (λ item. item.ends) o) NoSuchRoute >>= (λ ends.
    (located ends.start ends.finish (names.entries (on_numbered names.empty on o)) from >>= (λ a. located ends.start ends.finish (names.entries (on_numbered names.empty on o)) to >>= (λ b. unless (nat_lt a b) EmptySpan >>= (λ _. Ok (a, b)))))
    >>= (λ (span : ℕ × ℕ). Ok (between route span.0 span.1))))
    ≡ (found o NoSuchRoute >>= (λ item. located item.ends.start item.ends.finish (names.entries (on item.number)) from >>= (λ a. located item.ends.start item.ends.finish (names.entries (on item.number)) to >>= (λ b. unless (nat_lt a b) EmptySpan >>= (λ _. Ok (between route a b))))))) [
      | None ↦ refl
      | Some item ↦ spans route (located item.ends.start item.ends.finish (names.entries (on item.number)) from) (located item.ends.start item.ends.finish (names.entries (on item.number)) to)
    ]

-- ---- an operator over one operand

module _ (definitions : Definitions) (on : ℕ → Names ℕ) where
  -- what the machine asks
  abbrev asks_one : State → UnaryOperator → Query → Result Query Refusal
  asks_one state (unary.Where condition) query = machine.filter_checked state query (condition_tree condition.now)
  asks_one state (unary.Dissolve columns) query = machine.dissolve_checked state query (map (λ name. name.bytes) columns.now)
  asks_one state (unary.Rename from to) query = machine.rename_checked state query from.now.bytes to.now.bytes
  asks_one state (unary.Window window) query = machine.window_checked state (window_tree window.now) >>= (λ located. Ok (window_rows query located))
  asks_one state (unary.Transform name) query = alignment_named state name.now.bytes >>= (λ pieces. Ok (transform_rows query name.now.bytes pieces))
  asks_one state unary.Gaps query = machine.gaps_checked state query

  one_checked : (state : State) (operator : UnaryOperator) (a : QueryTree) → nodes_checked state (unary_tree operator a) ≡ (nodes_checked state a >>= asks_one state operator)
  one_checked state (unary.Where condition) a = refl
  one_checked state (unary.Dissolve columns) a = refl
  one_checked state (unary.Rename from to) a = refl
  one_checked state (unary.Window window) a = refl
  one_checked state (unary.Transform name) a = refl
  one_checked state unary.Gaps a = refl

  one_asked : (spans_on : ℕ → ℕ → List Stretch) (rest : Rest) (operator : UnaryOperator) (operand : Checked) → Stands (world_of (state_from definitions on spans_on rest)) operand
      → asks_one (state_from definitions on spans_on rest) operator (query_of operand.query) ≡ unary_step definitions on operator operand.kind (seen_columns operand) (query_of operand.query)
  one_asked s c (unary.Where condition) operand h = ap (λ columns. filter_step columns (query_of operand.query) (condition_tree condition.now)) (sym h.columns)
  one_asked s c (unary.Dissolve names) operand h = ap (λ columns. dissolve_step columns (query_of operand.query) (map (λ name. name.bytes) names.now)) (sym h.columns)
  one_asked s c (unary.Rename from to) operand h = ap (λ columns. rename_step columns (query_of operand.query) from.now.bytes to.now.bytes) (sym h.columns)
  one_asked s c (unary.Window window) operand h = ap (λ r. r >>= (λ located. Ok (window_rows (query_of operand.query) located))) (window_same definitions on s c (window_tree window.now))
  one_asked s c (unary.Transform name) operand h = refl
  one_asked s c unary.Gaps operand h = ap (λ kind. gaps_step kind (query_of operand.query)) (sym h.kind)

  module _ (node a : QueryTree) (operator : UnaryOperator) (is : node ≡ unary_tree operator a) where
    pub unary_inside : (refusal : Refusal) → AreRefused definitions on a refusal → AreRefused definitions on node refusal
    unary_inside refusal refused = record {
      each = λ s c.
          let state = state_from definitions on s c in
          ap (nodes_checked state) is ∙ one_checked state operator a ∙ ap (λ r. r >>= asks_one state operator) (refused.each s c);
    }

    module _ (operand : Checked) (at : AreNodes definitions on a operand) where
      abbrev expected : Result Query Refusal
      expected = unary_step definitions on operator operand.kind (seen_columns operand) (query_of operand.query)

      asked : (spans_on : ℕ → ℕ → List Stretch) (rest : Rest) → nodes_checked (state_from definitions on spans_on rest) node ≡ expected
      asked s c =
          let state = state_from definitions on s c in
          ap (nodes_checked state) is ∙ one_checked state operator a ∙ ap (λ r. r >>= asks_one state operator) ((at.each s c).is) ∙ one_asked s c operator operand ((at.each s c).stands)

      pub unary_made : (made : Checked) → IsStep expected (λ world. StandsAmong definitions world operand) made → AreNodes definitions on node made
      unary_made made step = record {
        each = λ s c. record { is = asked s c ∙ step.query; stands = step.stands (world_of (state_from definitions on s c)) (record { routes = refl; stands = (at.each s c).stands }) };
      }

      pub unary_refused : (refusal : Refusal) → expected ≡ Err refusal → AreRefused definitions on node refusal
      unary_refused refusal e = record { each = λ s c. asked s c ∙ e }

-- ---- an operator over two operands

module _ (definitions : Definitions) (on : ℕ → Names ℕ) where
  abbrev asks_two : State → BinaryOperator → Query → Query → Result Query Refusal
  asks_two state binary.Overlay x y = machine.overlay_checked state x y
  asks_two state binary.Cover x y = machine.cover_checked state x y
  asks_two state binary.Merge x y = machine.alike state x y >>= (λ _. Ok (merge_rows x y))
  asks_two state binary.Minus x y = machine.alike state x y >>= (λ _. Ok (minus_rows x y))

  two_checked : (state : State) (operator : BinaryOperator) (a b : QueryTree) → nodes_checked state (binary_tree operator a b) ≡ (nodes_checked state a >>= (λ x. nodes_checked state b >>= (λ y. asks_two state operator x y)))
  two_checked state binary.Overlay a b = refl
  two_checked state binary.Cover a b = refl
  two_checked state binary.Merge a b = refl
  two_checked state binary.Minus a b = refl

  cover_asks : (together kinds : Result (Unit {0}) Refusal) (query : Query) → (together >>= (λ _. kinds >>= (λ _. Ok query))) ≡ ((together >>= (λ _. kinds)) >>= (λ _. Ok query))
  cover_asks (Ok x) kinds query = refl
  cover_asks (Err refusal) kinds query = refl

  two_asked : (spans_on : ℕ → ℕ → List Stretch) (rest : Rest) (operator : BinaryOperator) (one other : Checked)
      → Stands (world_of (state_from definitions on spans_on rest)) one → Stands (world_of (state_from definitions on spans_on rest)) other
      → asks_two (state_from definitions on spans_on rest) operator (query_of one.query) (query_of other.query) ≡ binary_step operator one.kind other.kind (seen_columns one) (seen_columns other) (query_of one.query) (query_of other.query)
  two_asked s c binary.Overlay one other h k = λ i. overlay_step (sym h.columns i) (sym k.columns i) (query_of one.query) (query_of other.query)
  two_asked s c binary.Cover one other h k = cover_asks _ _ _ ∙ (λ i. cover_step (sym h.kind i) (sym k.kind i) (sym h.columns i) (sym k.columns i) (query_of one.query) (query_of other.query))
  two_asked s c binary.Merge one other h k = λ i. merge_step (sym h.kind i) (sym k.kind i) (sym h.columns i) (sym k.columns i) (query_of one.query) (query_of other.query)
  two_asked s c binary.Minus one other h k = λ i. minus_step (sym h.kind i) (sym k.kind i) (sym h.columns i) (sym k.columns i) (query_of one.query) (query_of other.query)

  module _ (node a b : QueryTree) (operator : BinaryOperator) (is : node ≡ binary_tree operator a b) where
    opens : (spans_on : ℕ → ℕ → List Stretch) (rest : Rest) → nodes_checked (state_from definitions on spans_on rest) node
        ≡ (nodes_checked (state_from definitions on spans_on rest) a >>= (λ x. nodes_checked (state_from definitions on spans_on rest) b >>= (λ y. asks_two (state_from definitions on spans_on rest) operator x y)))
    opens s c = ap (nodes_checked (state_from definitions on s c)) is ∙ two_checked (state_from definitions on s c) operator a b

    pub first_inside : (refusal : Refusal) → AreRefused definitions on a refusal → AreRefused definitions on node refusal
    first_inside refusal refused = record {
      each = λ s c.
          let state = state_from definitions on s c in
          opens s c ∙ ap (λ r. r >>= (λ x. nodes_checked state b >>= (λ y. asks_two state operator x y))) (refused.each s c);
    }

    module _ (one : Checked) (at : AreNodes definitions on a one) where
      after_first : (spans_on : ℕ → ℕ → List Stretch) (rest : Rest) → nodes_checked (state_from definitions on spans_on rest) node
          ≡ (nodes_checked (state_from definitions on spans_on rest) b >>= (λ y. asks_two (state_from definitions on spans_on rest) operator (query_of one.query) y))
      after_first s c =
          let state = state_from definitions on s c in
          opens s c ∙ ap (λ r. r >>= (λ x. nodes_checked state b >>= (λ y. asks_two state operator x y))) ((at.each s c).is)

      pub second_inside : (refusal : Refusal) → AreRefused definitions on b refusal → AreRefused definitions on node refusal
      second_inside refusal refused = record {
        each = λ s c. after_first s c ∙ ap (λ r. r >>= (λ y. asks_two (state_from definitions on s c) operator (query_of one.query) y)) (refused.each s c);
      }

      module _ (other : Checked) (at_other : AreNodes definitions on b other) where
        abbrev both_expected : Result Query Refusal
        both_expected = binary_step operator one.kind other.kind (seen_columns one) (seen_columns other) (query_of one.query) (query_of other.query)

        both_asked : (spans_on : ℕ → ℕ → List Stretch) (rest : Rest) → nodes_checked (state_from definitions on spans_on rest) node ≡ both_expected
        both_asked s c =
            let state = state_from definitions on s c in
            after_first s c ∙ ap (λ r. r >>= (λ y. asks_two state operator (query_of one.query) y)) ((at_other.each s c).is) ∙ two_asked s c operator one other ((at.each s c).stands) ((at_other.each s c).stands)

        pub binary_made : (made : Checked) → IsStep both_expected (λ world. Stands world one × Stands world other) made → AreNodes definitions on node made
        binary_made made step = record {
          each = λ s c. record { is = both_asked s c ∙ step.query; stands = step.stands (world_of (state_from definitions on s c)) ((at.each s c).stands, (at_other.each s c).stands) };
        }

        pub binary_refused : (refusal : Refusal) → both_expected ≡ Err refusal → AreRefused definitions on node refusal
        binary_refused refusal e = record { each = λ s c. both_asked s c ∙ e }
