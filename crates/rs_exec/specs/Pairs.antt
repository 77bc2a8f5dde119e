-- Operators of two operands, and what they make of spans.
use Rattle.std.specs.Prelude.{◌≡◌, ℕ, ◌+◌, ◌≤◌, List, map, Vec}
use Rattle.std.specs.declared.alloc.Global.{Global}
use Rattle.rs_value.specs.declared.column.Kind.{Kind}
use Rattle.rs_value.specs.declared.column.TheConstants.{COLUMNS}
use Rattle.rs_facts.specs.declared.fact.Span.{Span}
use Rattle.rs_facts.specs.Fact.{RowSet}
use Rattle.rs_facts.specs.Operators.{overlaid, covered, merged, without}
use Rattle.rs_facts.specs.Query.{overlaid_kind}
use Rattle.rs_coalesce.specs.Joined.{AreJoined}
use Rattle.rs_facts.specs.Runs.{Stretch, AreRunsOf}
use Rattle.rs_facts.specs.Spans.{seen, places_of, ArePlaced}
use Rattle.rs_sweep.specs.Lists.{AreSorted, AreWide}
use Rattle.rs_exec.specs.Routes.{AreShaped}
use Rattle.rs_exec.specs.declared.pairs.Kinds.{Kinds}
use Rattle.rs_exec.specs.declared.pairs.Pairing.{Pairing}
use Rattle.rs_exec.specs.declared.pairs.Pairing.TheVariants as pairings

abbrev pub paired_rows : Pairing → RowSet → RowSet → RowSet
paired_rows pairings.Overlay a b = overlaid a b
paired_rows (pairings.Cover m n) a b = covered m n a b
paired_rows pairings.Merge a b = merged a b
paired_rows pairings.Minus a b = without a b

-- the kind of what is made, of operands of these kinds
abbrev pub paired_kind : Pairing → Kind → Kind → Kind
paired_kind pairings.Overlay a b = overlaid_kind a b
paired_kind (pairings.Cover m n) a b = a
paired_kind pairings.Merge a b = a
paired_kind pairings.Minus a b = a

-- how wide what is made is, of operands of these widths
abbrev pub paired_width : Pairing → ℕ → ℕ → ℕ
paired_width pairings.Overlay m n = m + n
paired_width (pairings.Cover m n) a b = m + n
paired_width pairings.Merge m n = m
paired_width pairings.Minus m n = m

-- what an operator needs of the widths of its operands
abbrev pub FitTogether : Pairing → ℕ → ℕ → Type 0
FitTogether pairings.Overlay m n = m + n ≤ COLUMNS
FitTogether (pairings.Cover m n) a b = (m + n ≤ COLUMNS) × (m ≡ a) × (n ≡ b)
FitTogether pairings.Merge m n = Unit {0}
FitTogether pairings.Minus m n = Unit {0}

-- for which kinds of operands it says what is made
abbrev pub KindsSuit : Pairing → Kind → Kind → Type 0
KindsSuit pairings.Overlay a b = Unit {0}
KindsSuit (pairings.Cover m n) a b = a ≡ b
KindsSuit pairings.Merge a b = a ≡ b
KindsSuit pairings.Minus a b = Unit {0}

-- and of their widths
abbrev pub WidthsSuit : Pairing → ℕ → ℕ → Type 0
WidthsSuit pairings.Overlay m n = Unit {0}
WidthsSuit (pairings.Cover m n) a b = Unit {0}
WidthsSuit pairings.Merge m n = m ≡ n
WidthsSuit pairings.Minus m n = Unit {0}

-- operands of these kinds, and of some widths that the operator can take
pub record CanPairSpans (pairing : Pairing) (kinds : Kinds) (left right : List Stretch) : Type 0 where
  pub left_width : ℕ
  pub right_width : ℕ
  pub left_shaped : AreShaped kinds.left left_width left
  pub right_shaped : AreShaped kinds.right right_width right
  pub fit : FitTogether pairing left_width right_width

abbrev pub CanPair : Pairing → Kinds → Vec Span Global → Vec Span Global → Type 0
CanPair pairing kinds left right = CanPairSpans pairing kinds (map seen left.items) (map seen right.items)

-- each operand is the maximal runs of what it means
abbrev pub AreMaximal : Kinds → List Stretch → List Stretch → Type 0
AreMaximal kinds left right = AreRunsOf kinds.left (places_of left) left × AreRunsOf kinds.right (places_of right) right

-- which operators make no two spans that are one run, of operands without such
abbrev pub PairingKeepsJoined : Pairing → Type 0
PairingKeepsJoined pairings.Overlay = Unit {0}
PairingKeepsJoined (pairings.Cover m n) = ⊥
PairingKeepsJoined pairings.Merge = ⊥
PairingKeepsJoined pairings.Minus = ⊥

-- what the operator makes of the two lists of spans, which are of these kinds
pub record ArePaired (pairing : Pairing) (kinds : Kinds) (operands : List Stretch × List Stretch) (made : List Stretch) : Type 0 where
  pub means : (k : ℕ) → places_of made k ≡ paired_rows pairing (places_of operands.0 k) (places_of operands.1 k)
  pub sorted : AreSorted made
  pub placed : KindsSuit pairing kinds.left kinds.right → ArePlaced kinds.left operands.0 → ArePlaced kinds.right operands.1 → ArePlaced (paired_kind pairing kinds.left kinds.right) made
  pub wide : (m n : ℕ) → WidthsSuit pairing m n → AreWide m operands.0 → AreWide n operands.1 → AreWide (paired_width pairing m n) made
  pub joined : (m n : ℕ) → PairingKeepsJoined pairing → AreWide m operands.0 → AreWide n operands.1 → AreJoined kinds.left operands.0 → AreJoined kinds.right operands.1 → AreJoined (paired_kind pairing kinds.left kinds.right) made

abbrev pub IsPaired : Pairing → Kinds → Vec Span Global × Vec Span Global → Vec Span Global → Type 0
IsPaired pairing kinds operands made = ArePaired pairing kinds (map seen operands.0.items, map seen operands.1.items) (map seen made.items)
