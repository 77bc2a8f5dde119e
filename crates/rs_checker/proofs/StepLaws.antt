-- What a checked query keeps where an operator is put over checked operands.
use Rattle.std.proofs.Common.{◌≡◌, ℕ, suc, ◌+◌, ◌≤◌, Bool, true, false, not, ◌&&◌, List, [], ◌∷◌, ◌++◌, map, length, Result, Ok, Err, Vec, Global, refl, sym, ap, subst, ◌∙◌, arith, nat_le}
use Rattle.std.proofs.lemmas.Bool.Decides.{nat_tests}
use Rattle.arrayvec.specs.ArrayString.{ArrayString}
use Rattle.arrayvec.specs.ArrayVec.{ArrayVec}
use Rattle.rs_refusal.specs.declared.refusal.Refusal.{Refusal}
use Rattle.rs_refusal.specs.declared.refusal.Refusal.TheVariants.{Limit, ColumnsDiffer, ColumnTwice}
use Rattle.rs_value.specs.declared.column.Kind.{Kind}
use Rattle.rs_value.specs.declared.column.Kind.TheVariants.{Point, Line}
use Rattle.rs_value.specs.declared.column.TheConstants.{COLUMNS}
use Rattle.rs_facts.specs.ConditionView.{condition_of}
use Rattle.rs_facts.specs.declared.condition.Condition.{Condition}
use Rattle.rs_facts.specs.Fact.{Name}
use Rattle.rs_facts.specs.Query.{Column, World, Query, Window, where_rows, dissolve_rows, rename_column, overlay_rows, cover_rows, merge_rows, minus_rows, window_rows, gaps_rows, column_at, renamed_at, overlaid_kind, kind_of, columns_of}
use Rattle.rs_facts.specs.WellFormed.{IsWellFormed, width_of}
use Rattle.rs_syntax.specs.Tree.{ConditionTree}
use Rattle.rs_syntax.specs.declared.commands.ColumnDefinition.{ColumnDefinition}
use Rattle.rs_syntax.specs.View.{column_tree}
use Rattle.rs_machine.specs.Checks.{◌>>=◌, unless, some_name_twice}
use Rattle.rs_machine.specs.Checking.{condition_checked, column_place, column_places, may_stand_together, same_columns}
use Rattle.rs_checker.specs.declared.checked.LocatedWindow.{LocatedWindow}
use Rattle.rs_checker.specs.declared.checked.CheckedQuery as code
use Rattle.rs_checker.specs.declared.checked.CheckedQuery.{Where, Dissolve, Rename, Overlay, Cover, Merge, Minus, Gaps, fold-roll-CheckedQuery}
use Rattle.rs_checker.specs.declared.checked.CheckedQuery.TheVariants.{rolls-Where, rolls-Dissolve, rolls-Rename, rolls-Overlay, rolls-Cover, rolls-Merge, rolls-Minus, rolls-Window, rolls-Gaps}
use Rattle.rs_checker.specs.declared.checked.CheckedQuery.TheOpen.{CheckedQuery-F}
use Rattle.rs_checker.specs.declared.operand.CheckedOperand.{CheckedOperand}
use Rattle.rs_checker.specs.CheckedView.{window_of, query_of, query_step}
use Rattle.rs_checker.specs.Steps.{IsStep, Stands, checked_of, seen_columns, kinds_agree, may_cover, alike, are_lines, may_rename, filter_step, dissolve_step, rename_step, overlay_step, cover_step, merge_step, minus_step, gaps_step}

-- a test that passed
pub passed : {A : Type 0} (test : Bool) (refusal : Refusal) (next : Result A Refusal) (made : A) → (unless test refusal >>= (λ _. next)) ≡ Ok made → (test ≡ true) × (next ≡ Ok made)
passed true refusal next made e = (refl, e)
passed false refusal next made e = cc

both_passed : (first second : Result (Unit {0}) Refusal) → (first >>= (λ _. second)) ≡ Ok tt → (first ≡ Ok tt) × (second ≡ Ok tt)
both_passed (Ok tt) second e = (refl, e)
both_passed (Err refusal) second e = cc

pub few_together : (left right : List Column) → may_stand_together left right ≡ Ok tt → length left + length right ≤ COLUMNS
few_together left right e = few (nat_le (length left + length right) COLUMNS) refl (passed (nat_le (length left + length right) COLUMNS) Limit _ tt e).0
  where
    few : (b : Bool) → nat_le (length left + length right) COLUMNS ≡ b → nat_le (length left + length right) COLUMNS ≡ true → length left + length right ≤ COLUMNS
    few b e h = grind (arith, nat_tests)

pub kinds_same : (one other : Kind) → kinds_agree one other ≡ Ok tt → one ≡ other
kinds_same Line Line e = refl
kinds_same Point Point e = refl
kinds_same Line Point e = cc
kinds_same Point Line e = cc

and_last : (a b : Bool) → (a && b) ≡ true → b ≡ true
and_last true b e = e
and_last false b e = cc

pub same_widths : (left right : List Column) → same_columns left right ≡ true → length left ≡ length right
same_widths [] [] e = refl
same_widths [] (b ∷ right) e = cc
same_widths (a ∷ left) [] e = cc
same_widths (a ∷ left) (b ∷ right) e = ap suc (same_widths left right (and_last _ _ e))

-- ---- over one operand

pub filter_made : (operand : CheckedOperand) (test : Condition) (tree : ConditionTree) → condition_checked (seen_columns (checked_of operand)) tree ≡ Ok (condition_of test)
    → IsStep (filter_step (seen_columns (checked_of operand)) (query_of operand.query.value) tree) (λ world. Stands world (checked_of operand)) (record { query = Where operand.query test; kind = operand.kind; columns = operand.columns })
filter_made operand test tree passes =
    let is : query_of (Where operand.query test) ≡ where_rows (query_of operand.query.value) (condition_of test) =
    ap query_of (sym (rolls-Where operand.query test)) ∙ fold-roll-CheckedQuery Query query_step (CheckedQuery-F.Where operand.query test) in
    record {
      query = ap (λ r. r >>= (λ test. Ok (where_rows (query_of operand.query.value) test))) passes ∙ ap Ok (sym is);
      stands = λ world h. record {
        well_formed = subst (IsWellFormed world) (sym is) h.well_formed;
        kind = h.kind ∙ ap (kind_of world) (sym is);
        columns = h.columns ∙ ap (columns_of world) (sym is);
      };
    }

pub dissolve_made : (operand : CheckedOperand) (names : List Name) (places : Vec ℕ Global) (columns : ArrayVec ColumnDefinition)
    → column_places (seen_columns (checked_of operand)) names ≡ Ok places.items → some_name_twice names ≡ false → map column_tree columns.items ≡ map (column_at (seen_columns (checked_of operand))) places.items → length places.items ≤ COLUMNS
    → IsStep (dissolve_step (seen_columns (checked_of operand)) (query_of operand.query.value) names) (λ world. Stands world (checked_of operand)) (record { query = Dissolve operand.query places; kind = operand.kind; columns = columns })
dissolve_made operand names places columns found once chosen few =
    let is : query_of (Dissolve operand.query places) ≡ dissolve_rows (query_of operand.query.value) places.items =
    ap query_of (sym (rolls-Dissolve operand.query places)) ∙ fold-roll-CheckedQuery Query query_step (CheckedQuery-F.Dissolve operand.query places) in
    record {
      query = ap (λ r. r >>= (λ places. unless (not (some_name_twice names)) ColumnTwice >>= (λ _. Ok (dissolve_rows (query_of operand.query.value) places)))) found
          ∙ ap (λ b. unless (not b) ColumnTwice >>= (λ _. Ok (dissolve_rows (query_of operand.query.value) places.items))) once ∙ ap Ok (sym is);
      stands = λ world h. record {
        well_formed = subst (IsWellFormed world) (sym is) (h.well_formed, few);
        kind = h.kind ∙ ap (kind_of world) (sym is);
        columns = chosen ∙ ap (λ zs. map (column_at zs) places.items) h.columns ∙ ap (columns_of world) (sym is);
      };
    }

pub rename_made : (operand : CheckedOperand) (from to : Name) (place : ℕ) (name : ArrayString) (columns : ArrayVec ColumnDefinition)
    → column_place (seen_columns (checked_of operand)) from ≡ Ok place → may_rename (seen_columns (checked_of operand)) from to ≡ true → name.bytes ≡ to
    → map column_tree columns.items ≡ renamed_at place to (seen_columns (checked_of operand))
    → IsStep (rename_step (seen_columns (checked_of operand)) (query_of operand.query.value) from to) (λ world. Stands world (checked_of operand)) (record { query = Rename operand.query place name; kind = operand.kind; columns = columns })
rename_made operand from to place name columns found may same renames =
    let is : query_of (Rename operand.query place name) ≡ rename_column (query_of operand.query.value) place to =
    ap query_of (sym (rolls-Rename operand.query place name)) ∙ fold-roll-CheckedQuery Query query_step (CheckedQuery-F.Rename operand.query place name) ∙ ap (rename_column (query_of operand.query.value) place) same in
    record {
      query = ap (λ r. r >>= (λ place. unless (may_rename (seen_columns (checked_of operand)) from to) ColumnTwice >>= (λ _. Ok (rename_column (query_of operand.query.value) place to)))) found
          ∙ ap (λ b. unless b ColumnTwice >>= (λ _. Ok (rename_column (query_of operand.query.value) place to))) may ∙ ap Ok (sym is);
      stands = λ world h. record {
        well_formed = subst (IsWellFormed world) (sym is) h.well_formed;
        kind = h.kind ∙ ap (kind_of world) (sym is);
        columns = renames ∙ ap (renamed_at place to) h.columns ∙ ap (columns_of world) (sym is);
      };
    }

pub window_made : (operand : CheckedOperand) (window : LocatedWindow) (found : Result Window Refusal) → found ≡ Ok (window_of window)
    → IsStep (found >>= (λ place. Ok (window_rows (query_of operand.query.value) place))) (λ world. Stands world (checked_of operand)) (record { query = code.Window operand.query window; kind = operand.kind; columns = operand.columns })
window_made operand window found lies =
    let is : query_of (code.Window operand.query window) ≡ window_rows (query_of operand.query.value) (window_of window) =
    ap query_of (sym (rolls-Window operand.query window)) ∙ fold-roll-CheckedQuery Query query_step (CheckedQuery-F.Window operand.query window) in
    record {
      query = ap (λ r. r >>= (λ place. Ok (window_rows (query_of operand.query.value) place))) lies ∙ ap Ok (sym is);
      stands = λ world h. record {
        well_formed = subst (IsWellFormed world) (sym is) h.well_formed;
        kind = h.kind ∙ ap (kind_of world) (sym is);
        columns = h.columns ∙ ap (columns_of world) (sym is);
      };
    }

pub gaps_made : (operand : CheckedOperand) (columns : ArrayVec ColumnDefinition) → columns.items ≡ [] → are_lines operand.kind ≡ Ok tt
    → IsStep (gaps_step operand.kind (query_of operand.query.value)) (λ world. Stands world (checked_of operand)) (record { query = Gaps operand.query; kind = Line; columns = columns })
gaps_made operand columns none passes =
    let is : query_of (Gaps operand.query) ≡ gaps_rows (query_of operand.query.value) =
    ap query_of (sym (rolls-Gaps operand.query)) ∙ fold-roll-CheckedQuery Query query_step (CheckedQuery-F.Gaps operand.query) in
    record {
      query = ap (λ r. r >>= (λ _. Ok (gaps_rows (query_of operand.query.value)))) passes ∙ ap Ok (sym is);
      stands = λ world h. record {
        well_formed = subst (IsWellFormed world) (sym is) h.well_formed;
        kind = ap (kind_of world) (sym is);
        columns = ap (map column_tree) none ∙ ap (columns_of world) (sym is);
      };
    }

-- ---- over two operands

module _ (left right : CheckedOperand) where
  abbrev Operands : World → Type 0
  Operands world = Stands world (checked_of left) × Stands world (checked_of right)

  module _ (columns : ArrayVec ColumnDefinition) (joined : map column_tree columns.items ≡ seen_columns (checked_of left) ++ seen_columns (checked_of right)) where
    both_columns : (world : World) → Operands world → map column_tree columns.items ≡ columns_of world (query_of left.query.value) ++ columns_of world (query_of right.query.value)
    both_columns world h = joined ∙ (λ i. h.0.columns i ++ h.1.columns i)

    pub overlay_made : (kind : Kind) → kind ≡ overlaid_kind left.kind right.kind → may_stand_together (seen_columns (checked_of left)) (seen_columns (checked_of right)) ≡ Ok tt
        → IsStep (overlay_step (seen_columns (checked_of left)) (seen_columns (checked_of right)) (query_of left.query.value) (query_of right.query.value)) Operands
        (record { query = Overlay left.query right.query; kind = kind; columns = columns })
    overlay_made kind of_both passes =
        let is : query_of (Overlay left.query right.query) ≡ overlay_rows (query_of left.query.value) (query_of right.query.value) =
        ap query_of (sym (rolls-Overlay left.query right.query)) ∙ fold-roll-CheckedQuery Query query_step (CheckedQuery-F.Overlay left.query right.query) in
        record {
          query = ap (λ r. r >>= (λ _. Ok (overlay_rows (query_of left.query.value) (query_of right.query.value)))) passes ∙ ap Ok (sym is);
          stands = λ world h. record {
            well_formed = subst (IsWellFormed world) (sym is) (h.0.well_formed, h.1.well_formed, subst (λ n. n ≤ COLUMNS) (λ i. length (h.0.columns i) + length (h.1.columns i)) (few_together (seen_columns (checked_of left)) (seen_columns (checked_of right)) passes));
            kind = of_both ∙ (λ i. overlaid_kind (h.0.kind i) (h.1.kind i)) ∙ ap (kind_of world) (sym is);
            columns = both_columns world h ∙ ap (columns_of world) (sym is);
          };
        }

    pub cover_made : (m n : ℕ) → m ≡ length (seen_columns (checked_of left)) → n ≡ length (seen_columns (checked_of right))
        → may_cover left.kind right.kind (seen_columns (checked_of left)) (seen_columns (checked_of right)) ≡ Ok tt
        → IsStep (cover_step left.kind right.kind (seen_columns (checked_of left)) (seen_columns (checked_of right)) (query_of left.query.value) (query_of right.query.value)) Operands
        (record { query = Cover m n left.query right.query; kind = left.kind; columns = columns })
    cover_made m n first second passes =
        let tests = both_passed (may_stand_together (seen_columns (checked_of left)) (seen_columns (checked_of right))) (kinds_agree left.kind right.kind) passes in
        let is : query_of (Cover m n left.query right.query) ≡ cover_rows m n (query_of left.query.value) (query_of right.query.value) =
        ap query_of (sym (rolls-Cover m n left.query right.query)) ∙ fold-roll-CheckedQuery Query query_step (CheckedQuery-F.Cover m n left.query right.query) in
        record {
          query = ap (λ r. r >>= (λ _. Ok (cover_rows (length (seen_columns (checked_of left))) (length (seen_columns (checked_of right))) (query_of left.query.value) (query_of right.query.value)))) passes
              ∙ ap Ok (sym (is ∙ (λ i. cover_rows (first i) (second i) (query_of left.query.value) (query_of right.query.value))));
          stands = λ world h. record {
            well_formed = subst (IsWellFormed world) (sym is) (
              h.0.well_formed,
              h.1.well_formed,
              subst (λ k. k ≤ COLUMNS) (sym (λ i. first i + second i)) (few_together (seen_columns (checked_of left)) (seen_columns (checked_of right)) tests.0),
              first ∙ ap length h.0.columns,
              second ∙ ap length h.1.columns,
              sym h.0.kind ∙ kinds_same left.kind right.kind tests.1 ∙ h.1.kind,
            );
            kind = h.0.kind ∙ ap (kind_of world) (sym is);
            columns = both_columns world h ∙ ap (columns_of world) (sym is);
          };
        }

  -- ---- MERGE and MINUS

  module _ (passes : alike left.kind right.kind (seen_columns (checked_of left)) (seen_columns (checked_of right)) ≡ Ok tt) where
    tests : (same_columns (seen_columns (checked_of left)) (seen_columns (checked_of right)) ≡ true) × (kinds_agree left.kind right.kind ≡ Ok tt)
    tests = passed (same_columns (seen_columns (checked_of left)) (seen_columns (checked_of right))) ColumnsDiffer (kinds_agree left.kind right.kind) tt passes

    same_kinds : (world : World) → Operands world → kind_of world (query_of left.query.value) ≡ kind_of world (query_of right.query.value)
    same_kinds world h = sym h.0.kind ∙ kinds_same left.kind right.kind tests.1 ∙ h.1.kind

    same_width : (world : World) → Operands world → width_of world (query_of left.query.value) ≡ width_of world (query_of right.query.value)
    same_width world h = ap length (sym h.0.columns) ∙ same_widths (seen_columns (checked_of left)) (seen_columns (checked_of right)) tests.0 ∙ ap length h.1.columns

    pub merge_made : IsStep (merge_step left.kind right.kind (seen_columns (checked_of left)) (seen_columns (checked_of right)) (query_of left.query.value) (query_of right.query.value)) Operands
        (record { query = Merge left.query right.query; kind = left.kind; columns = left.columns })
    merge_made =
        let is : query_of (Merge left.query right.query) ≡ merge_rows (query_of left.query.value) (query_of right.query.value) =
        ap query_of (sym (rolls-Merge left.query right.query)) ∙ fold-roll-CheckedQuery Query query_step (CheckedQuery-F.Merge left.query right.query) in
        record {
          query = ap (λ r. r >>= (λ _. Ok (merge_rows (query_of left.query.value) (query_of right.query.value)))) passes ∙ ap Ok (sym is);
          stands = λ world h. record {
            well_formed = subst (IsWellFormed world) (sym is) (h.0.well_formed, h.1.well_formed, same_kinds world h, same_width world h);
            kind = h.0.kind ∙ ap (kind_of world) (sym is);
            columns = h.0.columns ∙ ap (columns_of world) (sym is);
          };
        }

    pub minus_made : IsStep (minus_step left.kind right.kind (seen_columns (checked_of left)) (seen_columns (checked_of right)) (query_of left.query.value) (query_of right.query.value)) Operands
        (record { query = Minus left.query right.query; kind = left.kind; columns = left.columns })
    minus_made =
        let is : query_of (Minus left.query right.query) ≡ minus_rows (query_of left.query.value) (query_of right.query.value) =
        ap query_of (sym (rolls-Minus left.query right.query)) ∙ fold-roll-CheckedQuery Query query_step (CheckedQuery-F.Minus left.query right.query) in
        record {
          query = ap (λ r. r >>= (λ _. Ok (minus_rows (query_of left.query.value) (query_of right.query.value)))) passes ∙ ap Ok (sym is);
          stands = λ world h. record {
            well_formed = subst (IsWellFormed world) (sym is) (h.0.well_formed, h.1.well_formed, same_kinds world h, same_width world h);
            kind = h.0.kind ∙ ap (kind_of world) (sym is);
            columns = h.0.columns ∙ ap (columns_of world) (sym is);
          };
        }
