-- From what an operator says of spans to what they are of a plan, on one route.
use Rattle.std.proofs.Common.{◌≡◌, ◌≤◌, ◌<◌, ℕ, ◌+◌, true, false, ◌&&◌, List, [], ◌∷◌, map, length, refl, sym, ap, ◌∙◌, subst, arith}
use Rattle.std.proofs.lemmas.Bool.{and_parts}
use Rattle.std.proofs.lemmas.Bool.Decides.{nat_tests}
use Rattle.std.specs.Prelude.{◌==◌, nat_le, Vec, IsPermutation}
use Rattle.std.specs.declared.alloc.Global.{Global}
use Rattle.std.specs.List.{AllByRecursion}
use Rattle.std.proofs.lemmas.List.Elements.{All-from_recursion, recursion_from_All}
use Rattle.std.proofs.lemmas.List.Sorted.{All-permutation}
use Rattle.rs_value.specs.declared.column.Kind.{Kind}
use Rattle.rs_value.specs.declared.column.Kind.TheVariants as kinds
use Rattle.rs_value.specs.declared.column.TheConstants.{COLUMNS}
use Rattle.rs_facts.specs.declared.fact.Span.{Span}
use Rattle.rs_facts.specs.Fact.{none}
use Rattle.rs_facts.specs.Runs.{Stretch}
use Rattle.rs_facts.specs.Spans.{seen, places_of, IsPlaced, ArePlaced}
use Rattle.rs_sweep.specs.Lists.{AreSorted, AreWide}
use Rattle.rs_plan.specs.declared.plan.PlannedWindow.{PlannedWindow}
use Rattle.rs_exec.specs.Snapshot.{Snapshots}
use Rattle.rs_exec.specs.Meaning.{PlanMeaning, same_kind, window_meaning}
use Rattle.rs_exec.specs.Operand.{changed_meaning, paired_meaning}
use Rattle.rs_exec.specs.declared.changes.Change.{Change}
use Rattle.rs_exec.specs.declared.changes.Change.TheVariants as changes
use Rattle.rs_exec.specs.declared.pairs.Pairing.{Pairing}
use Rattle.rs_exec.specs.declared.pairs.Pairing.TheVariants as pairings
use Rattle.rs_exec.specs.Changes.{IsNarrow, changed_rows, IsChanged}
use Rattle.rs_exec.specs.Pairs.{paired_rows, FitTogether, ArePaired}
use Rattle.rs_exec.specs.Routes.{IsShaped}
use Rattle.rs_exec.specs.Held.{HoldsRows, AreRowsOf}

-- ---- kinds and widths

-- a point is a line of one thousandth
line_placed : (kind : Kind) (span : Stretch) → IsPlaced kind span → IsPlaced kinds.Line span
line_placed kinds.Line span placed = placed
line_placed kinds.Point span placed = omega (arith, placed)

pub lines_placed : (kind : Kind) (spans : List Stretch) → ArePlaced kind spans → ArePlaced kinds.Line spans
lines_placed kind [] placed = tt
lines_placed kind (span ∷ spans) placed = (line_placed kind span placed.0, lines_placed kind spans placed.1)

every_moved : (P : Stretch → Type 0) (xs ys : List Stretch) → IsPermutation xs ys → AllByRecursion P xs → AllByRecursion P ys
every_moved P xs ys h all = recursion_from_All P ys (All-permutation P xs ys h (All-from_recursion P xs all))

pub placed-moved : (kind : Kind) (xs ys : List Stretch) → IsPermutation xs ys → ArePlaced kind xs → ArePlaced kind ys
placed-moved kind xs ys moved all = every_moved (IsPlaced kind) xs ys moved all

pub wide-moved : (width : ℕ) (xs ys : List Stretch) → IsPermutation xs ys → AreWide width xs → AreWide width ys
wide-moved width xs ys moved all = every_moved (λ span. length span.row ≡ width) xs ys moved all

-- ---- what is well-formed

pub at-most : (a b : ℕ) → nat_le a b ≡ true → a ≤ b
at-most a b e = grind (arith, nat_tests)

pub more-than : (a b : ℕ) → nat_le a b ≡ false → b < a
more-than a b e = grind (arith, nat_tests)

is_same : (a b : ℕ) → (a == b) ≡ true → a ≡ b
is_same a b e = grind (arith, nat_tests)

is_kind : (a b : Kind) → same_kind a b ≡ true → a ≡ b
is_kind kinds.Line kinds.Line e = refl
is_kind kinds.Line kinds.Point e = absurd (let wrong : false ≡ true = e in cc)
is_kind kinds.Point kinds.Line e = absurd (let wrong : false ≡ true = e in cc)
is_kind kinds.Point kinds.Point e = refl

-- the operands of two of an operator that is well-formed
pub record Formed (pairing : Pairing) (left right : PlanMeaning) : Type 0 where
  pub first : left.is_well_formed ≡ true
  pub second : right.is_well_formed ≡ true
  pub fit : FitTogether pairing left.width right.width

pub formed-pair : (pairing : Pairing) (left right : PlanMeaning) → (paired_meaning pairing left right).is_well_formed ≡ true → Formed pairing left right
formed-pair pairings.Overlay left right e =
    let parts = and_parts (left.is_well_formed && right.is_well_formed) (nat_le (left.width + right.width) COLUMNS) e in
    let both = and_parts left.is_well_formed right.is_well_formed parts.0 in
    record { first = both.0; second = both.1; fit = at-most (left.width + right.width) COLUMNS parts.1 }
formed-pair (pairings.Cover m n) left right e =
    let parts = and_parts (left.is_well_formed && right.is_well_formed) ((nat_le (m + n) COLUMNS && (m == left.width && n == right.width)) && same_kind left.kind right.kind) e in
    let both = and_parts left.is_well_formed right.is_well_formed parts.0 in
    let widths = (and_parts (nat_le (m + n) COLUMNS && (m == left.width && n == right.width)) (same_kind left.kind right.kind) parts.1).0 in
    let room = and_parts (nat_le (m + n) COLUMNS) (m == left.width && n == right.width) widths in
    let same = and_parts (m == left.width) (n == right.width) room.1 in
    record { first = both.0; second = both.1; fit = (at-most (m + n) COLUMNS room.0, is_same m left.width same.0, is_same n right.width same.1) }
formed-pair pairings.Merge left right e =
    let both = and_parts left.is_well_formed right.is_well_formed (and_parts (left.is_well_formed && right.is_well_formed) (same_kind left.kind right.kind && left.width == right.width) e).0 in
    record { first = both.0; second = both.1; fit = tt }
formed-pair pairings.Minus left right e =
    let both = and_parts left.is_well_formed right.is_well_formed (and_parts (left.is_well_formed && right.is_well_formed) (same_kind left.kind right.kind && left.width == right.width) e).0 in
    record { first = both.0; second = both.1; fit = tt }

-- the operand of an operator of one
pub formed-changed : (change : Change) (plan : PlanMeaning) → (changed_meaning change plan).is_well_formed ≡ true → (plan.is_well_formed ≡ true) × IsNarrow change
formed-changed (changes.Where conditions) plan e = (e, tt)
formed-changed (changes.Dissolve columns) plan e = let parts = and_parts plan.is_well_formed (nat_le (length columns.now) COLUMNS) e in (parts.0, at-most (length columns.now) COLUMNS parts.1)

pub formed-window : (windows : List PlannedWindow) (plan : PlanMeaning) → (window_meaning windows plan).is_well_formed ≡ true → (plan.is_well_formed ≡ true) × (1 ≤ length windows)
formed-window windows plan e = let parts = and_parts plan.is_well_formed (nat_le 1 (length windows)) e in (parts.0, at-most 1 (length windows) parts.1)

-- ---- operators

module _ (stands : Snapshots → Type 0) (version route : ℕ) where
  pub changed-step : (change : Change) (plan : PlanMeaning) (old new : Vec Span Global) → HoldsRows stands version plan route old → IsChanged change old new → HoldsRows stands version (changed_meaning change plan) route new
  changed-step (changes.Where conditions) plan old new held is = record {
    means = λ snapshots there k. is.means k ∙ ap (changed_rows (changes.Where conditions)) (held.means snapshots there k);
    shaped = record { sorted = is.sorted; placed = is.placed plan.kind held.shaped.placed; wide = is.wide plan.width held.shaped.wide };
  }
  changed-step (changes.Dissolve columns) plan old new held is = record {
    means = λ snapshots there k. is.means k ∙ ap (changed_rows (changes.Dissolve columns)) (held.means snapshots there k);
    shaped = record { sorted = is.sorted; placed = is.placed plan.kind held.shaped.placed; wide = is.wide plan.width held.shaped.wide };
  }

  pub paired-step : (pairing : Pairing) (left right : PlanMeaning) (one other made : List Stretch) → (paired_meaning pairing left right).is_well_formed ≡ true
      → AreRowsOf stands version left route one → AreRowsOf stands version right route other → ArePaired pairing (record { left = left.kind; right = right.kind }) (one, other) made → AreRowsOf stands version (paired_meaning pairing left right) route made
  paired-step pairings.Overlay left right one other made formed first second is = record {
    means = λ snapshots there k. is.means k ∙ (λ i. paired_rows pairings.Overlay (first.means snapshots there k i) (second.means snapshots there k i));
    shaped = record { sorted = is.sorted; placed = is.placed tt first.shaped.placed second.shaped.placed; wide = is.wide left.width right.width tt first.shaped.wide second.shaped.wide };
  }
  paired-step (pairings.Cover m n) left right one other made formed first second is = record {
    means = λ snapshots there k. is.means k ∙ (λ i. paired_rows (pairings.Cover m n) (first.means snapshots there k i) (second.means snapshots there k i));
    shaped = record { sorted = is.sorted; placed = is.placed kinds_same first.shaped.placed second.shaped.placed; wide = is.wide left.width right.width tt first.shaped.wide second.shaped.wide };
  }
    where
      kinds_same : left.kind ≡ right.kind
      kinds_same =
          let parts = and_parts (left.is_well_formed && right.is_well_formed) ((nat_le (m + n) COLUMNS && (m == left.width && n == right.width)) && same_kind left.kind right.kind) formed in
          is_kind left.kind right.kind (and_parts (nat_le (m + n) COLUMNS && (m == left.width && n == right.width)) (same_kind left.kind right.kind) parts.1).1
  paired-step pairings.Merge left right one other made formed first second is = record {
    means = λ snapshots there k. is.means k ∙ (λ i. paired_rows pairings.Merge (first.means snapshots there k i) (second.means snapshots there k i));
    shaped = record { sorted = is.sorted; placed = is.placed (is_kind left.kind right.kind alike.0) first.shaped.placed second.shaped.placed; wide = is.wide left.width right.width (is_same left.width right.width alike.1) first.shaped.wide second.shaped.wide };
  }
    where
      alike : (same_kind left.kind right.kind ≡ true) × ((left.width == right.width) ≡ true)
      alike = and_parts (same_kind left.kind right.kind) (left.width == right.width) (and_parts (left.is_well_formed && right.is_well_formed) (same_kind left.kind right.kind && left.width == right.width) formed).1
  paired-step pairings.Minus left right one other made formed first second is = record {
    means = λ snapshots there k. is.means k ∙ (λ i. paired_rows pairings.Minus (first.means snapshots there k i) (second.means snapshots there k i));
    shaped = record { sorted = is.sorted; placed = is.placed tt first.shaped.placed second.shaped.placed; wide = is.wide left.width right.width tt first.shaped.wide second.shaped.wide };
  }

-- what stood for later snapshots stood for earlier ones
pub earlier-one : (was is : Snapshots → Type 0) (version route : ℕ) (plan : PlanMeaning) (rows : Vec Span Global) → ((snapshots : Snapshots) → was snapshots → is snapshots) → HoldsRows is version plan route rows → HoldsRows was version plan route rows
earlier-one was is version route plan rows stands holds = record { means = λ snapshots there k. holds.means snapshots (stands snapshots there) k; shaped = holds.shaped }

-- no spans are of each kind and width
pub none-shaped : (kind : Kind) (width : ℕ) (rows : Vec Span Global) → rows.items ≡ [] → IsShaped kind width rows
none-shaped kind width rows bare = record {
  sorted = subst (λ spans. AreSorted (map seen spans)) (sym bare) tt;
  placed = subst (λ spans. ArePlaced kind (map seen spans)) (sym bare) tt;
  wide = subst (λ spans. AreWide width (map seen spans)) (sym bare) tt;
}

pub none-means : (rows : Vec Span Global) (k : ℕ) → rows.items ≡ [] → places_of (map seen rows.items) k ≡ none
none-means rows k bare = ap (λ spans. places_of (map seen spans) k) bare
