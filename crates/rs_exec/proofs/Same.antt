-- A node is the same by number and by name where its operands are.
use Rattle.std.proofs.Common.{◌≡◌, ◌≤◌, ℕ, ◌+◌, true, ◌&&◌, List, [], ◌∷◌, map, flat_map, length, Some, refl, sym, ap, ◌∙◌, subst, arith}
use Rattle.std.proofs.lemmas.Bool.{and_from}
use Rattle.std.proofs.lemmas.List.{length-map}
use Rattle.std.specs.Cmp.{IsTotalOrder}
use Rattle.std.specs.Cmp.Lexicographic.{nat_list_cmp_total}
use Rattle.std.specs.FinMap.{IsAntisymmetric, nat_cmp-IsAntisymmetric, slice_cmp-IsAntisymmetric}
use Rattle.std.proofs.lemmas.Bool.Decides.{nat_tests}
use Rattle.std.specs.Cmp.{Equal-is, eq_by_cmp_equiv}
use Rattle.std.specs.FinMap as names
use Rattle.std.specs.List.{AllZip, AllByRecursion, list_all}
use Rattle.std.specs.Prelude.{◌==◌, nat_le, if◌then◌else◌}
use Rattle.rs_value.specs.declared.column.Kind.{Kind}
use Rattle.rs_value.specs.declared.column.Kind.TheVariants as kinds
use Rattle.rs_value.specs.declared.column.TheConstants.{COLUMNS}
use Rattle.rs_facts.specs.Condition.{Condition}
use Rattle.rs_facts.specs.Fact.{Name, name_cmp, Names, Places, RowSet, none}
use Rattle.rs_facts.specs.Insert.{same_name}
use Rattle.rs_facts.specs.Operators.{mapped, chosen, dissolved, overlaid, covered, merged, without, windowed, carried}
use Rattle.rs_facts.specs.Query.{World, gapped_on, overlaid_kind}
use Rattle.rs_facts.specs.Query as queries
use Rattle.rs_facts.specs.WellFormed.{ArePiecesOn}
use Rattle.rs_facts.proofs.RowSets.{either-way}
use Rattle.rs_planning.proofs.Meeting.{every-right}
use Rattle.rs_planning.specs.Numbered.{Numbered}
use Rattle.rs_planning.specs.Explain.{operands_counted}
use Rattle.rs_planning.specs.Plan as plans
use Rattle.rs_planning.specs.WellFormedPlan.{IsWellFormedPlan, AreWellFormedOperands, operands_width}
use Rattle.rs_plan.specs.PlanView.{conditions_of, leaf_of, named_by_access, named_by_leaf, named_by_piece, named_by_window, operands_in, piece_of, window_of}
use Rattle.rs_plan.specs.declared.plan.Leaf.{Leaf}
use Rattle.rs_plan.specs.declared.plan.PlannedPiece.{PlannedPiece}
use Rattle.rs_plan.specs.declared.plan.PlannedWindow.{PlannedWindow}
use Rattle.rs_plan.specs.declared.plan.PlannedWindow.TheVariants as windows
use Rattle.rs_exec.specs.Snapshot.{Snapshot}
use Rattle.rs_exec.specs.Meaning.{PlanMeaning, same_kind, table_of, leaf_meaning, where_meaning, dissolve_meaning, overlay_meaning, cover_meaning, merge_meaning, minus_meaning, window_meaning, transform_meaning, gaps_meaning, rows_together, kinds_together, widths_together, seen_through, seen_through_each, goes_forwards, carried_by, transformed}
use Rattle.rs_exec.specs.Agreement.{IsNumberedTable, AgreesOn, HasItsEnds, AreDistinct, IsTheSame}
use Rattle.rs_exec.proofs.Tests.{same-number, is-number}

at_most : (a b : ℕ) → a ≤ b → nat_le a b ≡ true
at_most a b e = grind (arith, nat_tests)

same_kinds : (a b : Kind) → a ≡ b → same_kind a b ≡ true
same_kinds a b e = subst (λ kind. same_kind a kind ≡ true) e (itself a)
  where
    itself : (kind : Kind) → same_kind kind kind ≡ true
    itself kinds.Line = refl
    itself kinds.Point = refl

module _ (world : World) (snapshot : Snapshot) (numbers : Names ℕ) where
  abbrev Same : PlanMeaning → plans.Plan → Type 0
  Same by_number by_name = IsTheSame world snapshot numbers by_number by_name

  pub where-same : (conditions : List Condition) (plan : PlanMeaning) (tree : plans.Plan) → Same plan tree → Same (where_meaning conditions plan) (plans.where_node conditions tree)
  where-same conditions plan tree same = record {
    rows = λ route number there k. ap (plans.met_by_each conditions) (same.rows route number there k);
    kind = same.kind;
    width = same.width;
    formed = λ formed. same.formed formed.0;
  }

  pub dissolve-same : (columns : List ℕ) (plan : PlanMeaning) (tree : plans.Plan) → Same plan tree → Same (dissolve_meaning columns plan) (plans.dissolve_node columns tree)
  dissolve-same columns plan tree same = record {
    rows = λ route number there k. ap (dissolved columns) (same.rows route number there k);
    kind = same.kind;
    width = refl;
    formed = λ formed. and_from plan.is_well_formed (nat_le (length columns) COLUMNS) (same.formed formed.0) (at_most (length columns) COLUMNS formed.1);
  }

  pub cover-same : (m n : ℕ) (a b : PlanMeaning) (left right : plans.Plan) → Same a left → Same b right → Same (cover_meaning m n a b) (plans.cover_node m n left right)
  cover-same m n a b left right first second = record {
    rows = λ route number there k. (λ i. covered m n (first.rows route number there k i) (second.rows route number there k i));
    kind = first.kind;
    width = refl;
    formed = λ formed.
        and_from (a.is_well_formed && b.is_well_formed) ((nat_le (m + n) COLUMNS && (m == a.width && n == b.width)) && same_kind a.kind b.kind)
        (and_from a.is_well_formed b.is_well_formed (first.formed formed.0) (second.formed formed.1))
        (and_from (nat_le (m + n) COLUMNS && (m == a.width && n == b.width)) (same_kind a.kind b.kind)
        (and_from (nat_le (m + n) COLUMNS) (m == a.width && n == b.width) (at_most (m + n) COLUMNS formed.2)
        (and_from (m == a.width) (n == b.width) (same-number m a.width (formed.3 ∙ sym first.width)) (same-number n b.width (formed.4 ∙ sym second.width))))
        (same_kinds a.kind b.kind (first.kind ∙ formed.5 ∙ sym second.kind)));
  }

  alike : (a b : PlanMeaning) (left right : plans.Plan) → Same a left → Same b right → IsWellFormedPlan world left → IsWellFormedPlan world right → plans.plan_kind world left ≡ plans.plan_kind world right → plans.plan_width world left ≡ plans.plan_width world right
      → ((a.is_well_formed && b.is_well_formed) && (same_kind a.kind b.kind && a.width == b.width)) ≡ true
  alike a b left right first second one two kinds_same widths_same =
      and_from (a.is_well_formed && b.is_well_formed) (same_kind a.kind b.kind && a.width == b.width)
      (and_from a.is_well_formed b.is_well_formed (first.formed one) (second.formed two))
      (and_from (same_kind a.kind b.kind) (a.width == b.width) (same_kinds a.kind b.kind (first.kind ∙ kinds_same ∙ sym second.kind)) (same-number a.width b.width (first.width ∙ widths_same ∙ sym second.width)))

  pub merge-same : (a b : PlanMeaning) (left right : plans.Plan) → Same a left → Same b right → Same (merge_meaning a b) (plans.merge_node left right)
  merge-same a b left right first second = record {
    rows = λ route number there k. (λ i. merged (first.rows route number there k i) (second.rows route number there k i));
    kind = first.kind;
    width = first.width;
    formed = λ formed. alike a b left right first second formed.0 formed.1 formed.2 formed.3;
  }

  pub minus-same : (a b : PlanMeaning) (left right : plans.Plan) → Same a left → Same b right → Same (minus_meaning a b) (plans.minus_node left right)
  minus-same a b left right first second = record {
    rows = λ route number there k. (λ i. without (first.rows route number there k i) (second.rows route number there k i));
    kind = first.kind;
    width = first.width;
    formed = λ formed. alike a b left right first second formed.0 formed.1 formed.2 formed.3;
  }

  -- the ends of a route are those of its number
  pub gaps-same : HasItsEnds world snapshot numbers → (plan : PlanMeaning) (tree : plans.Plan) → Same plan tree → Same (gaps_meaning plan) (plans.gaps_node tree)
  gaps-same ends plan tree same = record {
    rows = λ route number there k. (λ i. gapped_on (sym (ends route number there) i) k (same.rows route number there k i));
    kind = refl;
    width = refl;
    formed = same.formed;
  }

  -- ---- OVERLAY

  rows_same : (metas : List PlanMeaning) (trees : List plans.Plan) → AllZip Same metas trees → (route : Name) (number : ℕ) → names.get numbers route ≡ Some number → (k : ℕ) → rows_together metas snapshot number k ≡ plans.overlaid_rows_at world (operands_in trees) route k
  rows_same [] [] all route number there k = refl
  rows_same [] (tree ∷ trees) all route number there k = absurd all
  rows_same (plan ∷ metas) [] all route number there k = absurd all
  rows_same (plan ∷ metas) (tree ∷ trees) all route number there k = (λ i. overlaid (all.0.rows route number there k i) (rows_same metas trees all.1 route number there k i))

  kinds_alike : (metas : List PlanMeaning) (trees : List plans.Plan) → AllZip Same metas trees → kinds_together metas ≡ plans.overlaid_kinds world (operands_in trees)
  kinds_alike [] [] all = refl
  kinds_alike [] (tree ∷ trees) all = absurd all
  kinds_alike (plan ∷ metas) [] all = absurd all
  kinds_alike (plan ∷ metas) (tree ∷ trees) all = (λ i. overlaid_kind (all.0.kind i) (kinds_alike metas trees all.1 i))

  widths_alike : (metas : List PlanMeaning) (trees : List plans.Plan) → AllZip Same metas trees → widths_together metas ≡ operands_width world (operands_in trees)
  widths_alike [] [] all = refl
  widths_alike [] (tree ∷ trees) all = absurd all
  widths_alike (plan ∷ metas) [] all = absurd all
  widths_alike (plan ∷ metas) (tree ∷ trees) all = (λ i. all.0.width i + widths_alike metas trees all.1 i)

  counted : (metas : List PlanMeaning) (trees : List plans.Plan) → AllZip Same metas trees → length metas ≡ operands_counted (operands_in trees)
  counted [] [] all = refl
  counted [] (tree ∷ trees) all = absurd all
  counted (plan ∷ metas) [] all = absurd all
  counted (plan ∷ metas) (tree ∷ trees) all = let e = counted metas trees all.1 in omega (arith, e)

  formed_each : (metas : List PlanMeaning) (trees : List plans.Plan) → AllZip Same metas trees → AreWellFormedOperands world (operands_in trees) → list_all (λ (plan : PlanMeaning). plan.is_well_formed) metas ≡ true
  formed_each [] [] all formed = refl
  formed_each [] (tree ∷ trees) all formed = absurd all
  formed_each (plan ∷ metas) [] all formed = absurd all
  formed_each (plan ∷ metas) (tree ∷ trees) all formed = and_from plan.is_well_formed (list_all (λ (each : PlanMeaning). each.is_well_formed) metas) (all.0.formed formed.0) (formed_each metas trees all.1 formed.2)

  pub overlay-same : (back : List ℕ) (metas : List PlanMeaning) (trees : List plans.Plan) → AllZip Same metas trees → Same (overlay_meaning back metas) (plans.overlay_node back (operands_in trees))
  overlay-same back metas trees all = record {
    rows = λ route number there k. ap (mapped (chosen back)) (rows_same metas trees all route number there k);
    kind = kinds_alike metas trees all;
    width = refl;
    formed = λ formed.
        and_from (list_all (λ (plan : PlanMeaning). plan.is_well_formed) metas) (nat_le 2 (length metas) && (widths_together metas == length back && nat_le (length back) COLUMNS)) (formed_each metas trees all formed.0)
        (and_from (nat_le 2 (length metas)) (widths_together metas == length back && nat_le (length back) COLUMNS) (at_most 2 (length metas) (let e = counted metas trees all in let f = formed.1 in omega (arith, e, f)))
        (and_from (widths_together metas == length back) (nat_le (length back) COLUMNS) (same-number (widths_together metas) (length back) (widths_alike metas trees all ∙ formed.2)) (at_most (length back) COLUMNS formed.3)));
  }

-- ---- names of routes and their numbers

name_total : IsTotalOrder name_cmp
unfolding name_cmp
name_total = nat_list_cmp_total

name_antisymmetric : IsAntisymmetric name_cmp
unfolding name_cmp
name_antisymmetric = slice_cmp-IsAntisymmetric nat_cmp-IsAntisymmetric

same_itself : (name : Name) → same_name name name ≡ true
same_itself name = (eq_by_cmp_equiv name_total).refl name

same_true : (one other : Name) → same_name one other ≡ true → one ≡ other
same_true one other e = name_antisymmetric one other ((Equal-is (name_cmp one other)).0 e)

some_same : {X : Type 0} (x y : X) → Some x ≡ Some y → x ≡ y
some_same x y e = cc

module _ (world : World) (snapshot : Snapshot) (numbers : Names ℕ) (distinct : AreDistinct numbers) where
  abbrev Agrees : Numbered → Type 0
  Agrees named = AgreesOn world snapshot numbers named

  abbrev Alike : PlanMeaning → plans.Plan → Type 0
  Alike by_number by_name = IsTheSame world snapshot numbers by_number by_name

  by_number-by_name : (one other : Name) (a n : ℕ) → names.get numbers one ≡ Some a → names.get numbers other ≡ Some n → (a == n) ≡ same_name one other
  by_number-by_name one other a n first second = either-way _ _
      (λ e. let equal = is-number a n e in subst (λ name. same_name one name ≡ true) (distinct one other n (first ∙ ap Some equal) second) (same_itself one))
      (λ e. same-number a n (some_same a n (sym first ∙ ap (names.get numbers) (same_true one other e) ∙ second)))

  -- ---- windows

  through_same : (window : PlannedWindow) (route : Name) (number : ℕ) (k : ℕ) (rows : RowSet) → names.get numbers route ≡ Some number → Agrees (named_by_window window) → seen_through window number k rows ≡ queries.seen_through (window_of window) route k rows
  through_same (windows.Whole own) route number k rows there agree = ap (λ b. if b then rows else none) (by_number-by_name own.name.bytes route own.number number agree there)
  through_same (windows.Part own from to) route number k rows there agree = ap (λ b. if b then windowed from to k rows else none) (by_number-by_name own.name.bytes route own.number number agree there)

  through_each-same : (each : List PlannedWindow) (route : Name) (number : ℕ) (k : ℕ) (rows : RowSet) → names.get numbers route ≡ Some number → AllByRecursion Agrees (map named_by_window each) → seen_through_each each number k rows ≡ plans.seen_through_each (map window_of each) route k rows
  through_each-same [] route number k rows there agree = refl
  through_each-same (window ∷ each) route number k rows there agree =
      through_same window route number k (seen_through_each each number k rows) there agree.0
      ∙ ap (queries.seen_through (window_of window) route k) (through_each-same each route number k rows there agree.1)

  pub window-same : (each : List PlannedWindow) (plan : PlanMeaning) (tree : plans.Plan) → AllByRecursion Agrees (map named_by_window each) → Alike plan tree → Alike (window_meaning each plan) (plans.window_node (map window_of each) tree)
  window-same each plan tree agree same = record {
    rows = λ route number there k. through_each-same each route number k (plan.rows snapshot number k) there agree ∙ ap (plans.seen_through_each (map window_of each) route k) (same.rows route number there k);
    kind = same.kind;
    width = same.width;
    formed = λ formed. and_from plan.is_well_formed (nat_le 1 (length each)) (same.formed formed.0) (at_most 1 (length each) (let e = length-map each window_of in let f = formed.1 in omega (arith, e, f)));
  }

  -- ---- pieces

  carried_same : (piece : PlannedPiece) (facts : ℕ → Places) (named : Name → Places) (route : Name) (number : ℕ) (j : ℕ) → names.get numbers route ≡ Some number → names.get numbers piece.onto_route.name.bytes ≡ Some piece.onto_route.number
      → ((k : ℕ) → facts piece.from_route.number k ≡ named piece.from_route.name.bytes k) → carried_by piece facts number j ≡ queries.carried_by (piece_of piece) named route j
  carried_same piece facts named route number j there onto same =
      (λ i. if by_number-by_name piece.onto_route.name.bytes route piece.onto_route.number number onto there i then carried piece.from piece.to piece.onto (λ k. same k i) j else none)

  transformed_same : (pieces : List PlannedPiece) (facts : ℕ → Places) (named : Name → Places) (route : Name) (number : ℕ) (j : ℕ) → names.get numbers route ≡ Some number → AllByRecursion Agrees (flat_map named_by_piece pieces)
      → ((other : Name) (its : ℕ) → names.get numbers other ≡ Some its → (k : ℕ) → facts its k ≡ named other k) → transformed pieces facts number j ≡ queries.transformed (map piece_of pieces) named route j
  transformed_same [] facts named route number j there agree same = refl
  transformed_same (piece ∷ pieces) facts named route number j there agree same =
      (λ i. merged (carried_same piece facts named route number j there agree.1.0 (same piece.from_route.name.bytes piece.from_route.number agree.0) i) (transformed_same pieces facts named route number j there agree.1.1 same i))

  forwards : (pieces : List PlannedPiece) → ArePiecesOn world.routes (map piece_of pieces) → list_all goes_forwards pieces ≡ true
  forwards [] lie = refl
  forwards (piece ∷ pieces) lie = and_from (goes_forwards piece) (list_all goes_forwards pieces) (at_most piece.from piece.to (let some = lie.0.some in omega (arith, some))) (forwards pieces lie.1)

  pub transform-same : (name : Name) (pieces : List PlannedPiece) (plan : PlanMeaning) (tree : plans.Plan) → AllByRecursion Agrees (flat_map named_by_piece pieces) → Alike plan tree → Alike (transform_meaning pieces plan) (plans.transform_node name (map piece_of pieces) tree)
  transform-same name pieces plan tree agree same = record {
    rows = λ route number there k. transformed_same pieces (plan.rows snapshot) (plans.plan_rows_at world tree) route number k there agree (λ other its named i. same.rows other its named i);
    kind = same.kind;
    width = same.width;
    formed = λ formed. and_from plan.is_well_formed (list_all goes_forwards pieces) (same.formed formed.0) (forwards pieces formed.1);
  }

  -- ---- a leaf

  pub leaf-same : (leaf : Leaf) → AllByRecursion Agrees (named_by_leaf leaf) → Alike (leaf_meaning leaf) (leaf_of leaf)
  leaf-same leaf agree = record {
    rows = λ route number there k.
        ap (plans.met_by_each (conditions_of leaf.conditions))
        (through_each-same leaf.windows.items route number k (snapshot.rows (table_of leaf.table) number k) there windows_agree
        ∙ ap (plans.seen_through_each (map window_of leaf.windows.items) route k) (sym (table.facts route number there k) ∙ sym (ap (λ found. queries.facts_of found route k) table.there)));
    kind = sym (ap queries.table_kind table.there ∙ table.kind);
    width = wide;
    formed = λ formed. at_most leaf.table.width COLUMNS (let e = wide ∙ ap (λ found. length (queries.table_columns found)) formed.1 in let f = formed.2 in omega (arith, e, f));
  }
    where
      table : IsNumberedTable world snapshot numbers leaf.table.name.bytes (table_of leaf.table)
      table = agree.0

      windows_agree : AllByRecursion Agrees (map named_by_window leaf.windows.items)
      windows_agree = every-right Agrees (named_by_access leaf.access) (map named_by_window leaf.windows.items) agree.1

      wide : leaf.table.width ≡ length (queries.table_columns (names.get world.tables leaf.table.name.bytes))
      wide = sym (ap (λ found. length (queries.table_columns found)) table.there ∙ table.width)
