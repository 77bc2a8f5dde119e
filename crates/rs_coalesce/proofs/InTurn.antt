-- What joining leaves of spans by place that lie apart: their runs, in printing order.
use Rattle.std.proofs.Common.{◌≡◌, ℕ, zero, suc, ◌+◌, ◌<◌, ◌≤◌, ◌≢◌, true, false, cond, inl, inr, List, [], ◌∷◌, length, map, get_or, Less, refl, sym, ap, ◌∙◌, subst, arith}
use Rattle.std.proofs.lemmas.Bool.{and_cases, ltb-false}
use Rattle.std.proofs.lemmas.List.Elements.{Contains-get_or}
use Rattle.std.specs.List.{AllByRecursion}
use Rattle.std.specs.Prelude.{nat_lt}
use Rattle.rs_value.specs.declared.column.Kind.{Kind}
use Rattle.rs_value.specs.declared.column.Kind.TheVariants.{Point, Line}
use Rattle.rs_facts.specs.declared.fact.Span.{Span}
use Rattle.rs_facts.specs.Insert.{with_row}
use Rattle.rs_facts.specs.Runs.{Stretch, stretch_cmp, AreOrdered, AreRunsOf}
use Rattle.rs_facts.specs.Spans.{seen, places_of, IsPlaced, ArePlaced, gap_of}
use Rattle.rs_facts.proofs.Rows.{same_row, same_row-equal}
use Rattle.rs_facts.proofs.KeptLaws.{placed-some, every-weaker}
use Rattle.rs_facts.proofs.RunLaws.{IsApart, each-at, runs-from_apart}
use Rattle.rs_facts.proofs.StretchOrder.{stretch_cmp-below}
use Rattle.rs_coalesce.specs.Joined.{joins, join, joined_onto, joined, AreApart}
use Rattle.rs_coalesce.proofs.Joining.{joins-true, join-placed, join-means}
use Rattle.rs_coalesce.proofs.Whole.{Made}

-- ---- before they are joined

-- each begins at or after the end of the one before it
abbrev pub Follow : Stretch → List Stretch → Type 0
Follow before [] = Unit {0}
Follow before (next ∷ rest) = (before.hi ≤ next.lo) × Follow next rest

follow-from_apart : (first : Stretch) (rest : List Stretch) → AreApart (first ∷ rest) → Follow first rest
follow-from_apart first [] h = tt
follow-from_apart first (next ∷ rest) h = (h 0 first (omega arith), follow-from_apart next rest (λ k d inside. h (suc k) d (omega (arith, inside))))

begins-later : (kind : Kind) (a b : Stretch) → IsPlaced kind a → a.hi ≤ b.lo → a.lo ≤ b.lo
begins-later kind a b p low = let some : a.lo < a.hi = placed-some kind a p in omega (arith, some, low)

-- what follows the second follows the two joined
follow-join : (kind : Kind) (a b : Stretch) (rest : List Stretch) → a.hi ≤ b.lo → IsPlaced kind b → Follow b rest → Follow (join a b) rest
follow-join kind a b [] low p s = tt
follow-join kind a b (c ∷ rest) low p s = let some : b.lo < b.hi = placed-some kind b p in (omega (arith, low, some, s.0), s.1)

-- ---- after

-- it ends before the other begins, and the two are no run
abbrev pub IsAhead : Kind → Stretch → Stretch → Type 0
IsAhead kind a b = (a.hi ≤ b.lo) × (a.row ≡ b.row → a.hi + gap_of kind ≤ b.lo)

abbrev pub AreAhead : Kind → List Stretch → Type 0
AreAhead kind [] = Unit {0}
AreAhead kind (span ∷ spans) = IsPlaced kind span × AllByRecursion (IsAhead kind span) spans × AreAhead kind spans

ahead-unjoined : (kind : Kind) (a b : Stretch) → joins kind a b ≡ false → a.hi ≤ b.lo → IsAhead kind a b
unfolding joins same_row
ahead-unjoined kind a b e low = (
  low,
  λ same. elim (and_cases (nat_lt b.lo (a.hi + gap_of kind)) (same_row a.row b.row) e) [
    | inl far ↦ ltb-false b.lo (a.hi + gap_of kind) far
    | inr other ↦ let one : same_row a.row b.row ≡ true = same_row-equal a.row b.row same in cc
  ],
)

ahead-on : (kind : Kind) (a b c : Stretch) → IsPlaced kind b → a.hi ≤ b.lo → b.hi ≤ c.lo → IsAhead kind a c
ahead-on kind a b c p low later = let some : b.lo < b.hi = placed-some kind b p in (omega (arith, some, low, later), λ same. gap kind some)
  where
    gap : (kind : Kind) → b.lo < b.hi → a.hi + gap_of kind ≤ c.lo
    gap Line some = omega (arith, some, low, later)
    gap Point some = omega (arith, some, low, later)

-- what is ahead of a span is ahead of what is joined onto it
ahead-all : (kind : Kind) (a before : Stretch) (rest : List Stretch) → IsAhead kind a before → IsPlaced kind before → Follow before rest → ArePlaced kind rest → AllByRecursion (IsAhead kind a) (joined_onto kind before rest)
ahead-all kind a before [] h p s q = (h, tt)
ahead-all kind a before (next ∷ rest) h p s q =
    elim (joins kind before next) as (λ t. joins kind before next ≡ t → AllByRecursion (IsAhead kind a) (cond t (joined_onto kind (join before next) rest) (before ∷ joined_onto kind next rest))) [
      | true ↦ λ e.
          let near = joins-true kind before next e in
          ahead-all kind a (join before next) rest h (join-placed kind before next (begins-later kind before next p s.0) near.0 p q.0) (follow-join kind before next rest s.0 q.0 s.1) q.1
      | false ↦ λ e. (h, ahead-all kind a next rest (ahead-on kind a before next p h.0 s.0) q.0 s.1 q.1)
    ] refl

joined-ahead : (kind : Kind) (before : Stretch) (rest : List Stretch) → IsPlaced kind before → Follow before rest → ArePlaced kind rest → AreAhead kind (joined_onto kind before rest)
joined-ahead kind before [] p s q = (p, tt, tt)
joined-ahead kind before (next ∷ rest) p s q =
    elim (joins kind before next) as (λ t. joins kind before next ≡ t → AreAhead kind (cond t (joined_onto kind (join before next) rest) (before ∷ joined_onto kind next rest))) [
      | true ↦ λ e.
          let near = joins-true kind before next e in
          joined-ahead kind (join before next) rest (join-placed kind before next (begins-later kind before next p s.0) near.0 p q.0) (follow-join kind before next rest s.0 q.0 s.1) q.1
      | false ↦ λ e. (p, ahead-all kind before next rest (ahead-unjoined kind before next e s.0) q.0 s.1 q.1, joined-ahead kind next rest q.0 s.1 q.1)
    ] refl

joined-same : (kind : Kind) (before : Stretch) (rest : List Stretch) → IsPlaced kind before → Follow before rest → ArePlaced kind rest → places_of (joined_onto kind before rest) ≡ places_of (before ∷ rest)
joined-same kind before [] p s q = refl
joined-same kind before (next ∷ rest) p s q =
    elim (joins kind before next) as (λ t. joins kind before next ≡ t → places_of (cond t (joined_onto kind (join before next) rest) (before ∷ joined_onto kind next rest)) ≡ places_of (before ∷ next ∷ rest)) [
      | true ↦ λ e.
          let near = joins-true kind before next e in
          let l = begins-later kind before next p s.0 in
          joined-same kind (join before next) rest (join-placed kind before next l near.0 p q.0) (follow-join kind before next rest s.0 q.0 s.1) q.1 ∙ join-means kind before next rest l near.0 near.1 q.0
      | false ↦ λ e. ap (with_row before.lo before.hi before.row) (joined-same kind next rest q.0 s.1 q.1)
    ] refl

-- ---- what such spans are

ahead-placed : (kind : Kind) (spans : List Stretch) → AreAhead kind spans → ArePlaced kind spans
ahead-placed kind [] h = tt
ahead-placed kind (span ∷ spans) h = (h.0, ahead-placed kind spans h.2)

ahead-ordered : (kind : Kind) (spans : List Stretch) → AreAhead kind spans → AreOrdered spans
ahead-ordered kind [] h = tt
ahead-ordered kind (span ∷ spans) h =
    let some : span.lo < span.hi = placed-some kind span h.0 in
    (every-weaker (IsAhead kind span) (λ later. stretch_cmp span later ≡ Less) (λ later l. stretch_cmp-below span later (omega (arith, some, l.0))) spans h.1, ahead-ordered kind spans h.2)

ahead_apart : (kind : Kind) (spans : List Stretch) → AreAhead kind spans → (i j : ℕ) (d : Stretch) → i < length spans → j < length spans → i ≢ j → IsApart kind (get_or spans i d) (get_or spans j d)
ahead_apart kind [] h i j d a b apart = absurd (omega arith)
ahead_apart kind (span ∷ spans) h zero zero d a b apart = absurd (apart refl)
ahead_apart kind (span ∷ spans) h zero (suc j) d a b apart = λ same. inl ((each-at (IsAhead kind span) spans (get_or spans j d) h.1 (Contains-get_or spans j d (omega arith))).1 same)
ahead_apart kind (span ∷ spans) h (suc i) zero d a b apart = λ same. inr ((each-at (IsAhead kind span) spans (get_or spans i d) h.1 (Contains-get_or spans i d (omega arith))).1 (sym same))
ahead_apart kind (span ∷ spans) h (suc i) (suc j) d a b apart = ahead_apart kind spans h.2 i j d (omega arith) (omega arith) (λ e. apart (ap suc e))

-- ---- all of a list

ahead-from_apart : (kind : Kind) (spans : List Stretch) → ArePlaced kind spans → AreApart spans → AreAhead kind (joined kind spans)
unfolding joined
ahead-from_apart kind [] p apart = tt
ahead-from_apart kind (first ∷ rest) p apart = joined-ahead kind first rest p.0 (follow-from_apart first rest apart) p.1

same-from_apart : (kind : Kind) (spans : List Stretch) → ArePlaced kind spans → AreApart spans → places_of (joined kind spans) ≡ places_of spans
unfolding joined
same-from_apart kind [] p apart = refl
same-from_apart kind (first ∷ rest) p apart = joined-same kind first rest p.0 (follow-from_apart first rest apart) p.1

pub made-in_turn : (kind : Kind) (given left : List Span) → ArePlaced kind (map seen given) → AreApart (map seen given) → map seen left ≡ joined kind (map seen given) → Made kind given left
made-in_turn kind given left placed apart are_joined =
    let ahead : AreAhead kind (map seen left) = subst (AreAhead kind) (sym are_joined) (ahead-from_apart kind (map seen given) placed apart) in
    let left_placed = ahead-placed kind (map seen left) ahead in
    let same : places_of (map seen left) ≡ places_of (map seen given) = ap places_of are_joined ∙ same-from_apart kind (map seen given) placed apart in
    record {
      runs = subst (λ p. AreRunsOf kind p (map seen left)) same (runs-from_apart kind (map seen left) left_placed (ahead_apart kind (map seen left) ahead) (ahead-ordered kind (map seen left) ahead));
      placed = left_placed;
      same = same;
    }
