-- The value of a checked query, and what it names, by its outermost node.
use Rattle.std.proofs.Common.{◌≡◌, ℕ, List, [], ◌∷◌, ◌++◌, flat_map, Vec, Global, sym, ap, ◌∙◌}
use Rattle.std.specs.Prelude.{Box}
use Rattle.arrayvec.specs.ArrayString.{ArrayString}
use Rattle.rs_facts.specs.ConditionView.{condition_of}
use Rattle.rs_facts.specs.declared.condition.Condition.{Condition}
use Rattle.rs_facts.specs.Query as queries
use Rattle.rs_facts.specs.Query.{Query}
use Rattle.rs_planning.specs.Numbered.{Numbered}
use Rattle.rs_checker.specs.declared.checked.CheckedTable.{CheckedTable}
use Rattle.rs_checker.specs.declared.checked.LocatedWindow.{LocatedWindow}
use Rattle.rs_checker.specs.declared.checked.LocatedPiece.{LocatedPiece}
use Rattle.rs_checker.specs.declared.checked.CheckedQuery.{CheckedQuery, fold-roll-CheckedQuery}
use Rattle.rs_checker.specs.declared.checked.CheckedQuery.TheVariants as variants
use Rattle.rs_checker.specs.declared.checked.CheckedQuery.TheOpen.{CheckedQuery-F}
use Rattle.rs_checker.specs.CheckedView.{window_of, located_pieces, named_table, named_by_window, named_by_piece, query_step, query_of, named_step, named_in}

pub table-query : (table : CheckedTable) → query_of (variants.Table table) ≡ queries.table_rows table.name.bytes
table-query table = ap query_of (sym (variants.rolls-Table table)) ∙ fold-roll-CheckedQuery Query query_step (CheckedQuery-F.Table table)

pub table-named : (table : CheckedTable) → named_in (variants.Table table) ≡ named_table table ∷ []
table-named table = ap named_in (sym (variants.rolls-Table table)) ∙ fold-roll-CheckedQuery (List Numbered) named_step (CheckedQuery-F.Table table)

pub where-query : (operand : Box CheckedQuery Global) (condition : Condition) → query_of (variants.Where operand condition) ≡ queries.where_rows (query_of operand.value) (condition_of condition)
where-query operand condition = ap query_of (sym (variants.rolls-Where operand condition)) ∙ fold-roll-CheckedQuery Query query_step (CheckedQuery-F.Where operand condition)

pub where-named : (operand : Box CheckedQuery Global) (condition : Condition) → named_in (variants.Where operand condition) ≡ named_in operand.value
where-named operand condition = ap named_in (sym (variants.rolls-Where operand condition)) ∙ fold-roll-CheckedQuery (List Numbered) named_step (CheckedQuery-F.Where operand condition)

pub dissolve-query : (operand : Box CheckedQuery Global) (columns : Vec ℕ Global) → query_of (variants.Dissolve operand columns) ≡ queries.dissolve_rows (query_of operand.value) columns.items
dissolve-query operand columns = ap query_of (sym (variants.rolls-Dissolve operand columns)) ∙ fold-roll-CheckedQuery Query query_step (CheckedQuery-F.Dissolve operand columns)

pub dissolve-named : (operand : Box CheckedQuery Global) (columns : Vec ℕ Global) → named_in (variants.Dissolve operand columns) ≡ named_in operand.value
dissolve-named operand columns = ap named_in (sym (variants.rolls-Dissolve operand columns)) ∙ fold-roll-CheckedQuery (List Numbered) named_step (CheckedQuery-F.Dissolve operand columns)

pub rename-query : (operand : Box CheckedQuery Global) (column : ℕ) (name : ArrayString) → query_of (variants.Rename operand column name) ≡ queries.rename_column (query_of operand.value) column name.bytes
rename-query operand column name = ap query_of (sym (variants.rolls-Rename operand column name)) ∙ fold-roll-CheckedQuery Query query_step (CheckedQuery-F.Rename operand column name)

pub rename-named : (operand : Box CheckedQuery Global) (column : ℕ) (name : ArrayString) → named_in (variants.Rename operand column name) ≡ named_in operand.value
rename-named operand column name = ap named_in (sym (variants.rolls-Rename operand column name)) ∙ fold-roll-CheckedQuery (List Numbered) named_step (CheckedQuery-F.Rename operand column name)

pub window-query : (operand : Box CheckedQuery Global) (window : LocatedWindow) → query_of (variants.Window operand window) ≡ queries.window_rows (query_of operand.value) (window_of window)
window-query operand window = ap query_of (sym (variants.rolls-Window operand window)) ∙ fold-roll-CheckedQuery Query query_step (CheckedQuery-F.Window operand window)

pub window-named : (operand : Box CheckedQuery Global) (window : LocatedWindow) → named_in (variants.Window operand window) ≡ named_in operand.value ++ named_by_window window ∷ []
window-named operand window = ap named_in (sym (variants.rolls-Window operand window)) ∙ fold-roll-CheckedQuery (List Numbered) named_step (CheckedQuery-F.Window operand window)

pub transform-query : (operand : Box CheckedQuery Global) (name : ArrayString) (pieces : Vec LocatedPiece Global) → query_of (variants.Transform operand name pieces) ≡ queries.transform_rows (query_of operand.value) name.bytes (located_pieces pieces.items)
transform-query operand name pieces = ap query_of (sym (variants.rolls-Transform operand name pieces)) ∙ fold-roll-CheckedQuery Query query_step (CheckedQuery-F.Transform operand name pieces)

pub transform-named : (operand : Box CheckedQuery Global) (name : ArrayString) (pieces : Vec LocatedPiece Global) → named_in (variants.Transform operand name pieces) ≡ named_in operand.value ++ flat_map named_by_piece pieces.items
transform-named operand name pieces = ap named_in (sym (variants.rolls-Transform operand name pieces)) ∙ fold-roll-CheckedQuery (List Numbered) named_step (CheckedQuery-F.Transform operand name pieces)

pub gaps-query : (operand : Box CheckedQuery Global) → query_of (variants.Gaps operand) ≡ queries.gaps_rows (query_of operand.value)
gaps-query operand = ap query_of (sym (variants.rolls-Gaps operand)) ∙ fold-roll-CheckedQuery Query query_step (CheckedQuery-F.Gaps operand)

pub gaps-named : (operand : Box CheckedQuery Global) → named_in (variants.Gaps operand) ≡ named_in operand.value
gaps-named operand = ap named_in (sym (variants.rolls-Gaps operand)) ∙ fold-roll-CheckedQuery (List Numbered) named_step (CheckedQuery-F.Gaps operand)

pub overlay-query : (left right : Box CheckedQuery Global) → query_of (variants.Overlay left right) ≡ queries.overlay_rows (query_of left.value) (query_of right.value)
overlay-query left right = ap query_of (sym (variants.rolls-Overlay left right)) ∙ fold-roll-CheckedQuery Query query_step (CheckedQuery-F.Overlay left right)

pub overlay-named : (left right : Box CheckedQuery Global) → named_in (variants.Overlay left right) ≡ named_in left.value ++ named_in right.value
overlay-named left right = ap named_in (sym (variants.rolls-Overlay left right)) ∙ fold-roll-CheckedQuery (List Numbered) named_step (CheckedQuery-F.Overlay left right)

pub cover-query : (m n : ℕ) (left right : Box CheckedQuery Global) → query_of (variants.Cover m n left right) ≡ queries.cover_rows m n (query_of left.value) (query_of right.value)
cover-query m n left right = ap query_of (sym (variants.rolls-Cover m n left right)) ∙ fold-roll-CheckedQuery Query query_step (CheckedQuery-F.Cover m n left right)

pub cover-named : (m n : ℕ) (left right : Box CheckedQuery Global) → named_in (variants.Cover m n left right) ≡ named_in left.value ++ named_in right.value
cover-named m n left right = ap named_in (sym (variants.rolls-Cover m n left right)) ∙ fold-roll-CheckedQuery (List Numbered) named_step (CheckedQuery-F.Cover m n left right)

pub merge-query : (left right : Box CheckedQuery Global) → query_of (variants.Merge left right) ≡ queries.merge_rows (query_of left.value) (query_of right.value)
merge-query left right = ap query_of (sym (variants.rolls-Merge left right)) ∙ fold-roll-CheckedQuery Query query_step (CheckedQuery-F.Merge left right)

pub merge-named : (left right : Box CheckedQuery Global) → named_in (variants.Merge left right) ≡ named_in left.value ++ named_in right.value
merge-named left right = ap named_in (sym (variants.rolls-Merge left right)) ∙ fold-roll-CheckedQuery (List Numbered) named_step (CheckedQuery-F.Merge left right)

pub minus-query : (left right : Box CheckedQuery Global) → query_of (variants.Minus left right) ≡ queries.minus_rows (query_of left.value) (query_of right.value)
minus-query left right = ap query_of (sym (variants.rolls-Minus left right)) ∙ fold-roll-CheckedQuery Query query_step (CheckedQuery-F.Minus left right)

pub minus-named : (left right : Box CheckedQuery Global) → named_in (variants.Minus left right) ≡ named_in left.value ++ named_in right.value
minus-named left right = ap named_in (sym (variants.rolls-Minus left right)) ∙ fold-roll-CheckedQuery (List Numbered) named_step (CheckedQuery-F.Minus left right)
