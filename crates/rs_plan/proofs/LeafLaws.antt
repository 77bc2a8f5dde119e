-- Leaves: the index that the rule takes, by numbers.
use Rattle.std.proofs.Common.{◌≡◌, ℕ, ◌+◌, ◌<◌, ◌≤◌, ◌&&◌, Bool, true, false, cond, List, [], ◌∷◌, map, drop, length, get_or, Option, Some, None, refl, sym, ap, ◌∙◌, subst, arith}
use Rattle.std.specs.Prelude.{Contains, Vec}
use Rattle.std.specs.declared.alloc.Global.{Global}
use Rattle.std.proofs.lemmas.List.Sums.{sum_by-cons}
use Rattle.std.specs.List.{find, list_any}
use Rattle.std.specs.Option.{option_map}
use Rattle.std.specs.FinMap as names
use Rattle.std.proofs.lemmas.List.{drop_more, drop_all}
use Rattle.rs_facts.specs.Condition as said
use Rattle.rs_facts.specs.Fact.{Name}
use Rattle.rs_facts.specs.Query.{table_rows}
use Rattle.rs_facts.specs.declared.condition.Condition.{Condition}
use Rattle.rs_planning.specs.Basis.{IndexedColumn, Basis}
use Rattle.rs_planning.specs.Conjuncts.{equates}
use Rattle.rs_planning.specs.Numbered.{Numbered}
use Rattle.rs_planning.specs.Plan.{leaf_node, plan_width}
use Rattle.rs_planning.specs.Rule as rule
use Rattle.rs_planning.specs.Rule.{serves, index_for, found_by, weight}
use Rattle.rs_checker.specs.declared.checked.CheckedTable.{CheckedTable}
use Rattle.rs_checker.specs.CheckedView as checked
use Rattle.rs_plan.specs.declared.counts.Index.{Index}
use Rattle.rs_plan.specs.declared.plan.PlannedIndex.{PlannedIndex}
use Rattle.rs_plan.specs.declared.plan.PlannedWindow.{PlannedWindow}
use Rattle.rs_plan.specs.declared.operand.Operand.{Operand}
use Rattle.rs_plan.specs.declared.plan.Access.{Access}
use Rattle.rs_plan.specs.declared.plan.Leaf.{Leaf}
use Rattle.rs_plan.specs.declared.plan.PlannedTable.{PlannedTable}
use Rattle.rs_plan.specs.declared.plan.Plan.TheVariants as variants
use Rattle.rs_plan.specs.Counted.{Counted, named_index, AreIndexesOf, StandsFor}
use Rattle.rs_plan.specs.Leaves.{serves_as, index_among, access_for, planned_table}
use Rattle.rs_plan.specs.Operands.{operand_tree, operand_names, AreAmong, IsWeighed, most_records, IsPlaced}
use Rattle.rs_plan.specs.PlanView.{access_of, window_of, windows_of, conditions_of, named_table, named_by_access, named_by_window}
use Rattle.rs_plan.proofs.PlanLaws.{leaf-tree, leaf-names}
use Rattle.rs_plan.proofs.Standing.{joined}
use Rattle.rs_plan.proofs.Walks.{append-end}

abbrev taken : Index → PlannedIndex
taken index = record { name = index.name; number = index.number }

-- ---- in a loop over the indexes

module _ (table : ℕ) (conditions : List said.Condition) (indexes : List Index) (i : ℕ) (index : Index) (below : i < length indexes) (is : index ≡ get_or indexes i index) (found : Option PlannedIndex) (so_far : found ≡ index_among (drop i indexes) table conditions) where
  opened : found ≡ cond (serves_as index table conditions) (Some (taken index)) (index_among (drop (i + 1) indexes) table conditions)
  opened = so_far ∙ ap (λ l. index_among l table conditions) (drop_more indexes i index below)
      ∙ ap (λ x. cond (serves_as x table conditions) (Some (taken x)) (index_among (drop (i + 1) indexes) table conditions)) (sym is)

  pub among-here : true ≡ serves_as index table conditions → Some (taken index) ≡ found
  among-here serves = sym (opened ∙ ap (λ t. cond t (Some (taken index)) (index_among (drop (i + 1) indexes) table conditions)) (sym serves))

  pub among-later : false ≡ serves_as index table conditions → found ≡ index_among (drop (i + 1) indexes) table conditions
  among-later fails = opened ∙ ap (λ t. cond t (Some (taken index)) (index_among (drop (i + 1) indexes) table conditions)) (sym fails)

pub among-end : (table : ℕ) (conditions : List said.Condition) (indexes : List Index) (i : ℕ) (found : Option PlannedIndex) → found ≡ index_among (drop i indexes) table conditions → length indexes ≤ i → None ≡ found
among-end table conditions indexes i found so_far done = sym (so_far ∙ ap (λ l. index_among l table conditions) (drop_all i indexes done))

-- ---- the rule's index

module _ (name : Name) (number : ℕ) (conditions : List said.Condition) where
  abbrev of_rule : List (Name × IndexedColumn) → Option Name
  of_rule entries = option_map (λ entry. entry.0) (find (λ entry. serves name conditions entry.1) entries)

  abbrev of_code : List Index → Option Name
  of_code indexes = option_map (λ (index : PlannedIndex). index.name.bytes) (index_among indexes number conditions)

  same-index : (entries : List (Name × IndexedColumn)) (indexes : List Index) → AreIndexesOf name number entries indexes → of_code indexes ≡ of_rule entries
  same-index [] [] are = refl
  same-index [] (index ∷ indexes) are = absurd are
  same-index (entry ∷ entries) [] are = absurd are
  same-index (entry ∷ entries) (index ∷ indexes) are =
      by (serves_as index number conditions) (serves name conditions entry.1) ((λ i. sym are.2 i && list_any (equates (sym are.1 i)) conditions)) (same-index entries indexes are.3)
    where
      by : (s t : Bool) → s ≡ t → of_code indexes ≡ of_rule entries
          → option_map (λ (index : PlannedIndex). index.name.bytes) (cond s (Some (taken index)) (index_among indexes number conditions)) ≡ option_map (λ (e : Name × IndexedColumn). e.0) (cond t (Some entry) (find (λ entry. serves name conditions entry.1) entries))
      by true true same rest = ap Some (sym are.0)
      by false false same rest = rest
      by true false same rest = absurd (let wrong = same in cc)
      by false true same rest = absurd (let wrong = same in cc)

  access-is : (found : Option PlannedIndex) (windows : List PlannedWindow) → access_of (access_for found windows) ≡ found_by (option_map (λ (index : PlannedIndex). index.name.bytes) found) (map window_of windows)
  access-is (Some index) windows = refl
  access-is None [] = refl
  access-is None (window ∷ windows) = refl

  pub same-access : (basis : Basis) (indexes : List Index) (windows : List PlannedWindow) → AreIndexesOf name number (names.entries basis.indexes) indexes
      → access_of (access_for (index_among indexes number conditions) windows) ≡ found_by (index_for basis name conditions) (map window_of windows)
  same-access basis indexes windows are =
      access-is (index_among indexes number conditions) windows
      ∙ ap (λ o. found_by o (map window_of windows)) (same-index (names.entries basis.indexes) indexes are)

-- ---- it is one of the indexes

pub index-among : (whole : List Numbered) (table : ℕ) (conditions : List said.Condition) (windows : List PlannedWindow) (indexes : List Index) → AreAmong whole (map named_index indexes)
    → AreAmong whole (named_by_access (access_for (index_among indexes table conditions) windows))
index-among whole table conditions windows [] among = none windows
  where
    none : (windows : List PlannedWindow) → AreAmong whole (named_by_access (access_for None windows))
    none [] = tt
    none (window ∷ windows) = tt
index-among whole table conditions windows (index ∷ indexes) among = by (serves_as index table conditions) (index-among whole table conditions windows indexes among.1)
  where
    by : (t : Bool) → AreAmong whole (named_by_access (access_for (index_among indexes table conditions) windows)) → AreAmong whole (named_by_access (access_for (cond t (Some (taken index)) (index_among indexes table conditions)) windows))
    by true rest = (among.0, tt)
    by false rest = rest

-- ---- a leaf that is placed

module _ (counted : Counted) (table : CheckedTable) (windows : Vec PlannedWindow Global) (conditions : Vec Condition Global) (access : Access) (access_is : access ≡ access_for (index_among counted.indexes table.number (conditions_of conditions)) windows.items)
    (planned : PlannedTable) (planned_is : planned ≡ planned_table table) (heavy : ℕ) (heavy_is : heavy ≡ counted.records table.number) (light : heavy ≤ most_records) where
  abbrev leaf : Leaf
  leaf = record { access = access; table = planned; windows = windows; conditions = conditions }

  abbrev one : Operand
  one = record { plan = variants.Leaf leaf; weight = heavy; width = table.width }

  module _ (basis : Basis) (stands : StandsFor counted basis (table_rows table.name.bytes) (checked.named_table table ∷ [])) where
    leaf_is : operand_tree one ≡ rule.leaf basis table.name.bytes (map window_of windows.items) (conditions_of conditions)
    leaf_is =
        leaf-tree leaf
        ∙ (λ i. leaf_node ((ap access_of access_is ∙ same-access table.name.bytes table.number (conditions_of conditions) basis counted.indexes windows.items stands.tables.0.2) i) (planned_is i).name.bytes (windows_of windows) (conditions_of conditions))

    leaf_weighed : IsWeighed basis one
    leaf_weighed = (heavy_is ∙ sym stands.tables.0.1 ∙ ap (weight basis.record_count) (sym leaf_is), sym stands.tables.0.0 ∙ ap (plan_width basis.world) (sym leaf_is))

  pub leaf-placed : (operands : List Operand) → operands ≡ one ∷ [] → IsPlaced counted (table_rows table.name.bytes) (checked.named_table table ∷ []) windows.items (conditions_of conditions) operands
  leaf-placed operands alone = subst (IsPlaced counted (table_rows table.name.bytes) (checked.named_table table ∷ []) windows.items (conditions_of conditions)) (sym alone) (record {
    trees = λ basis stands. ap (λ t. t ∷ []) (leaf_is basis stands);
    weighed = λ basis stands. (leaf_weighed basis stands, tt);
    light = let all = sum_by-cons (λ (one : Operand). one.weight) one [] in omega (arith, all, light);
    names = λ whole among seen indexes.
        subst (AreAmong whole) (sym (append-end (operand_names one) ∙ leaf-names leaf)) (
          subst (λ t. Contains whole (named_table t)) (sym planned_is) among.0,
          joined (Contains whole) (named_by_access access) (map named_by_window windows.items)
              (subst (λ x. AreAmong whole (named_by_access x)) (sym access_is) (index-among whole table.number (conditions_of conditions) windows.items counted.indexes indexes)) seen,
        );
  })
