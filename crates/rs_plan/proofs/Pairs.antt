-- Which checked queries join two others.
use Rattle.std.proofs.Common.{◌≡◌, ℕ, true, Vec, Global, sym, ap, ◌∙◌}
use Rattle.std.proofs.lemmas.Bool.{false≢true}
use Rattle.std.specs.Prelude.{Box}
use Rattle.arrayvec.specs.ArrayString.{ArrayString}
use Rattle.rs_facts.specs.declared.condition.Condition.{Condition}
use Rattle.rs_facts.specs.Query.{Query}
use Rattle.rs_checker.specs.declared.checked.CheckedTable.{CheckedTable}
use Rattle.rs_checker.specs.declared.checked.LocatedPiece.{LocatedPiece}
use Rattle.rs_checker.specs.declared.checked.LocatedWindow.{LocatedWindow}
use Rattle.rs_checker.specs.declared.checked.CheckedQuery as codes
use Rattle.rs_checker.specs.declared.checked.CheckedQuery.{CheckedQuery}
use Rattle.rs_checker.specs.declared.checked.CheckedQuery.TheVariants as variants
use Rattle.rs_checker.specs.declared.checked.CheckedQuery.TheOpen.{CheckedQuery-F}
use Rattle.rs_checker.specs.CheckedView.{query_of, query_step}
use Rattle.rs_plan.specs.Operands.{is_pair}

-- none of those over one operand or none
pub record IsNotAlone (query : CheckedQuery) : Type 0 where
  pub table : (table : CheckedTable) → query ≡ variants.Table table → ⊥
  pub filtered : (operand : Box CheckedQuery Global) (condition : Condition) → query ≡ variants.Where operand condition → ⊥
  pub dissolved : (operand : Box CheckedQuery Global) (columns : Vec ℕ Global) → query ≡ variants.Dissolve operand columns → ⊥
  pub renamed : (operand : Box CheckedQuery Global) (column : ℕ) (name : ArrayString) → query ≡ variants.Rename operand column name → ⊥
  pub windowed : (operand : Box CheckedQuery Global) (window : LocatedWindow) → query ≡ variants.Window operand window → ⊥
  pub transformed : (operand : Box CheckedQuery Global) (name : ArrayString) (pieces : Vec LocatedPiece Global) → query ≡ variants.Transform operand name pieces → ⊥
  pub gapped : (operand : Box CheckedQuery Global) → query ≡ variants.Gaps operand → ⊥

-- none of those over two
pub record IsNoPair (query : CheckedQuery) : Type 0 where
  pub overlaid : (left right : Box CheckedQuery Global) → query ≡ variants.Overlay left right → ⊥
  pub covered : (left_width right_width : ℕ) (left right : Box CheckedQuery Global) → query ≡ variants.Cover left_width right_width left right → ⊥
  pub merged : (left right : Box CheckedQuery Global) → query ≡ variants.Merge left right → ⊥
  pub subtracted : (left right : Box CheckedQuery Global) → query ≡ variants.Minus left right → ⊥

abbrev BecomesPair : CheckedQuery → Type 0
BecomesPair query = IsNotAlone query → is_pair (query_of query) ≡ true

abbrev NeedsPair : CheckedQuery → Type 0
NeedsPair query = IsNoPair query → is_pair (query_of query) ≡ true → ⊥

rolled : (layer : CheckedQuery-F CheckedQuery) → query_of (codes.roll-CheckedQuery layer) ≡ query_step (codes.map-CheckedQuery CheckedQuery Query query_of layer)
rolled layer = codes.fold-roll-CheckedQuery Query query_step layer

pair_layer : (layer : CheckedQuery-F CheckedQuery) → BecomesPair (codes.roll-CheckedQuery layer)
pair_layer (CheckedQuery-F.Table table) misses = absurd (misses.table table (variants.rolls-Table table))
pair_layer (CheckedQuery-F.Where operand condition) misses = absurd (misses.filtered operand condition (variants.rolls-Where operand condition))
pair_layer (CheckedQuery-F.Dissolve operand columns) misses = absurd (misses.dissolved operand columns (variants.rolls-Dissolve operand columns))
pair_layer (CheckedQuery-F.Rename operand column name) misses = absurd (misses.renamed operand column name (variants.rolls-Rename operand column name))
pair_layer (CheckedQuery-F.Window operand window) misses = absurd (misses.windowed operand window (variants.rolls-Window operand window))
pair_layer (CheckedQuery-F.Transform operand name pieces) misses = absurd (misses.transformed operand name pieces (variants.rolls-Transform operand name pieces))
pair_layer (CheckedQuery-F.Gaps operand) misses = absurd (misses.gapped operand (variants.rolls-Gaps operand))
pair_layer (CheckedQuery-F.Overlay left right) misses = ap is_pair (rolled (CheckedQuery-F.Overlay left right))
pair_layer (CheckedQuery-F.Cover left_width right_width left right) misses = ap is_pair (rolled (CheckedQuery-F.Cover left_width right_width left right))
pair_layer (CheckedQuery-F.Merge left right) misses = ap is_pair (rolled (CheckedQuery-F.Merge left right))
pair_layer (CheckedQuery-F.Minus left right) misses = ap is_pair (rolled (CheckedQuery-F.Minus left right))

alone_layer : (layer : CheckedQuery-F CheckedQuery) → NeedsPair (codes.roll-CheckedQuery layer)
alone_layer (CheckedQuery-F.Table table) misses is = false≢true (sym (ap is_pair (rolled (CheckedQuery-F.Table table))) ∙ is)
alone_layer (CheckedQuery-F.Where operand condition) misses is = false≢true (sym (ap is_pair (rolled (CheckedQuery-F.Where operand condition))) ∙ is)
alone_layer (CheckedQuery-F.Dissolve operand columns) misses is = false≢true (sym (ap is_pair (rolled (CheckedQuery-F.Dissolve operand columns))) ∙ is)
alone_layer (CheckedQuery-F.Rename operand column name) misses is = false≢true (sym (ap is_pair (rolled (CheckedQuery-F.Rename operand column name))) ∙ is)
alone_layer (CheckedQuery-F.Window operand window) misses is = false≢true (sym (ap is_pair (rolled (CheckedQuery-F.Window operand window))) ∙ is)
alone_layer (CheckedQuery-F.Transform operand name pieces) misses is = false≢true (sym (ap is_pair (rolled (CheckedQuery-F.Transform operand name pieces))) ∙ is)
alone_layer (CheckedQuery-F.Gaps operand) misses is = false≢true (sym (ap is_pair (rolled (CheckedQuery-F.Gaps operand))) ∙ is)
alone_layer (CheckedQuery-F.Overlay left right) misses is = misses.overlaid left right (variants.rolls-Overlay left right)
alone_layer (CheckedQuery-F.Cover left_width right_width left right) misses is = misses.covered left_width right_width left right (variants.rolls-Cover left_width right_width left right)
alone_layer (CheckedQuery-F.Merge left right) misses is = misses.merged left right (variants.rolls-Merge left right)
alone_layer (CheckedQuery-F.Minus left right) misses is = misses.subtracted left right (variants.rolls-Minus left right)

pub becomes_pair : (query : CheckedQuery) → BecomesPair query
becomes_pair = codes.ind-CheckedQuery BecomesPair (λ x y is. pair_layer x)

pub needs_pair : (query : CheckedQuery) → NeedsPair query
needs_pair = codes.ind-CheckedQuery NeedsPair (λ x y is. alone_layer x)
