-- What the operators of two operands make of spans, from what each says of them.
use Rattle.std.proofs.Common.{◌≡◌, ℕ, ◌+◌, ◌≤◌, inl, inr, List, [], ◌∷◌, Less, sym, ap, ◌∙◌, subst, arith}
use Rattle.rs_value.specs.declared.column.Kind.{Kind}
use Rattle.rs_facts.specs.Operators.{overlaid, covered, merged, without}
use Rattle.rs_facts.specs.Query.{overlaid_kind}
use Rattle.rs_facts.specs.Runs.{Stretch, stretch_cmp, AreOrdered}
use Rattle.rs_facts.specs.Spans.{places_of, ArePlaced}
use Rattle.rs_facts.proofs.KeptLaws.{every-weaker}
use Rattle.rs_facts.proofs.StretchOrder.{stretch_cmp-less}
use Rattle.rs_coalesce.specs.Joined.{AreJoined}
use Rattle.rs_coalesce.proofs.Separate.{joined-from_runs}
use Rattle.rs_sweep.specs.Lists.{AreSorted, AreWide}
use Rattle.rs_exec.specs.declared.pairs.Kinds.{Kinds}
use Rattle.rs_exec.specs.declared.pairs.Pairing.{Pairing}
use Rattle.rs_exec.specs.declared.pairs.Pairing.TheVariants as pairings
use Rattle.rs_exec.specs.Joined.{AreTheRuns}
use Rattle.rs_exec.specs.Routes.{AreShaped}
use Rattle.rs_exec.proofs.CarriedSpans.{runs-wide}
use Rattle.rs_exec.specs.Pairs.{ArePaired, CanPairSpans, paired_rows}

module _ (kinds : Kinds) (lower upper made : List Stretch) (sorted : AreSorted made) where
  pub overlay-paired : ((k : ℕ) → places_of made k ≡ overlaid (places_of lower k) (places_of upper k))
      → ((p q : Kind) → ArePlaced p lower → ArePlaced q upper → ArePlaced (overlaid_kind p q) made)
      → ((m n : ℕ) → AreWide m lower → AreWide n upper → AreWide (m + n) made)
      → ((p q : Kind) (m n : ℕ) → AreWide m lower → AreWide n upper → AreJoined p lower → AreJoined q upper → AreJoined (overlaid_kind p q) made)
      → ArePaired pairings.Overlay kinds (lower, upper) made
  overlay-paired means placed wide joined = record {
    means = means;
    sorted = sorted;
    placed = λ suit one two. placed kinds.left kinds.right one two;
    wide = λ m n suit one two. wide m n one two;
    joined = λ m n keeps one two. joined kinds.left kinds.right m n one two;
  }

  -- the widths as the code has them
  pub cover-paired : (m n p q : ℕ) → p ≡ m → q ≡ n → ((k : ℕ) → places_of made k ≡ covered p q (places_of lower k) (places_of upper k))
      → ((kind : Kind) → ArePlaced kind lower → ArePlaced kind upper → ArePlaced kind made)
      → AreWide (p + q) made
      → ArePaired (pairings.Cover m n) kinds (lower, upper) made
  cover-paired m n p q pm qn means placed wide = record {
    means = λ k. means k ∙ (λ i. covered (pm i) (qn i) (places_of lower k) (places_of upper k));
    sorted = sorted;
    placed = λ same one two. placed kinds.left one (subst (λ kind. ArePlaced kind upper) (sym same) two);
    wide = λ a b suit one two. subst (λ w. AreWide w made) (λ i. pm i + qn i) wide;
    joined = λ a b keeps one two. absurd keeps;
  }

  pub merge-paired : ((k : ℕ) → places_of made k ≡ merged (places_of lower k) (places_of upper k))
      → ((kind : Kind) → ArePlaced kind lower → ArePlaced kind upper → ArePlaced kind made)
      → ((width : ℕ) → AreWide width lower → AreWide width upper → AreWide width made)
      → ArePaired pairings.Merge kinds (lower, upper) made
  merge-paired means placed wide = record {
    means = means;
    sorted = sorted;
    placed = λ same one two. placed kinds.left one (subst (λ kind. ArePlaced kind upper) (sym same) two);
    wide = λ m n same one two. wide m one (subst (λ w. AreWide w upper) (sym same) two);
    joined = λ m n keeps one two. absurd keeps;
  }

  pub minus-paired : ((k : ℕ) → places_of made k ≡ without (places_of lower k) (places_of upper k))
      → ((kind : Kind) → ArePlaced kind lower → ArePlaced kind made)
      → ((width : ℕ) → AreWide width lower → AreWide width made)
      → ArePaired pairings.Minus kinds (lower, upper) made
  minus-paired means placed wide = record {
    means = means;
    sorted = sorted;
    placed = λ suit one two. placed kinds.left one;
    wide = λ m n suit one two. wide m one;
    joined = λ m n keeps one two. absurd keeps;
  }

-- ---- operands as their maximal runs

ordered-sorted : (spans : List Stretch) → AreOrdered spans → AreSorted spans
ordered-sorted [] h = tt
ordered-sorted (span ∷ spans) h = (every-weaker (λ later. stretch_cmp span later ≡ Less) (λ later. span.lo ≤ later.lo) (λ later less. begins-before span later less) spans h.0, ordered-sorted spans h.1)
  where
    begins-before : (a b : Stretch) → stretch_cmp a b ≡ Less → a.lo ≤ b.lo
    begins-before a b less = elim (stretch_cmp-less a b less) [ inl h ↦ omega (arith, h) | inr h ↦ let e = h.0 in omega (arith, e) ]

pub runs-shaped : (kind : Kind) (width : ℕ) (spans runs : List Stretch) → AreTheRuns kind spans runs → AreShaped kind width spans → AreShaped kind width runs
runs-shaped kind width spans runs are shaped = record {
  sorted = ordered-sorted runs are.runs.ordered;
  placed = are.placed;
  wide = runs-wide kind width spans runs shaped.wide are.runs.maximal;
}

pub runs-can : (pairing : Pairing) (kinds : Kinds) (left right lower upper one other : List Stretch) → AreTheRuns kinds.left left lower → AreTheRuns kinds.right right upper → one ≡ lower → other ≡ upper
    → CanPairSpans pairing kinds left right → CanPairSpans pairing kinds one other
runs-can pairing kinds left right lower upper one other first second e f can =
    subst (λ spans. CanPairSpans pairing kinds spans other) (sym e) (subst (CanPairSpans pairing kinds lower) (sym f) (record {
      left_width = can.left_width;
      right_width = can.right_width;
      left_shaped = runs-shaped kinds.left can.left_width left lower first can.left_shaped;
      right_shaped = runs-shaped kinds.right can.right_width right upper second can.right_shaped;
      fit = can.fit;
    }))

pub runs-paired : (pairing : Pairing) (kinds : Kinds) (left right lower upper one other made : List Stretch) → AreTheRuns kinds.left left lower → AreTheRuns kinds.right right upper → one ≡ lower → other ≡ upper
    → ArePaired pairing kinds (one, other) made → ArePaired pairing kinds (left, right) made
runs-paired pairing kinds left right lower upper one other made first second e f is =
    let same_left : places_of one ≡ places_of left = ap places_of e ∙ first.same in
    let same_right : places_of other ≡ places_of right = ap places_of f ∙ second.same in
    record {
      means = λ k. is.means k ∙ (λ i. paired_rows pairing (same_left i k) (same_right i k));
      sorted = is.sorted;
      placed = λ suit h l. is.placed suit (subst (ArePlaced kinds.left) (sym e) first.placed) (subst (ArePlaced kinds.right) (sym f) second.placed);
      wide = λ m n suit h l. is.wide m n suit (subst (AreWide m) (sym e) (runs-wide kinds.left m left lower h first.runs.maximal)) (subst (AreWide n) (sym f) (runs-wide kinds.right n right upper l second.runs.maximal));
      joined = λ m n keeps h l p q. is.joined m n keeps (subst (AreWide m) (sym e) (runs-wide kinds.left m left lower h first.runs.maximal)) (subst (AreWide n) (sym f) (runs-wide kinds.right n right upper l second.runs.maximal))
          (subst (AreJoined kinds.left) (sym e) (joined-from_runs kinds.left (places_of left) lower first.runs)) (subst (AreJoined kinds.right) (sym f) (joined-from_runs kinds.right (places_of right) upper second.runs));
    }
