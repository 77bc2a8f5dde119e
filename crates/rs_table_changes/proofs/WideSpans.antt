-- A span joined with the spans of its row that it overlaps or touches, beside all others.
use Rattle.std.proofs.Common.{◌≡◌, ◌+◌, ◌-◌, ◌<◌, ◌≤◌, ◌⊎◌, ℕ, suc, min, max, true, IsTrue, inl, inr, List, [], ◌∷◌, ◌++◌, refl, sym, ap, ◌∙◌, subst, arith}
use Rattle.std.proofs.lemmas.Bool.{and_parts, leb-true}
use Rattle.std.proofs.lemmas.List.Elements.{Contains-append_right}
use Rattle.std.proofs.lemmas.List.Sorted.{IsPermutation-sym, IsPermutation-trans}
use Rattle.std.specs.List.{AllByRecursion, Contains}
use Rattle.std.specs.List.Sorted.{IsPermutation}
use Rattle.std.specs.Prelude.{nat_le}
use Rattle.rs_value.specs.Row.{Row}
use Rattle.rs_value.specs.declared.column.Kind.{Kind}
use Rattle.rs_value.specs.declared.column.Kind.TheVariants.{Line, Point}
use Rattle.rs_facts.specs.Insert.{missing, with_row}
use Rattle.rs_facts.specs.Runs.{Stretch, stretch}
use Rattle.rs_facts.specs.Spans.{AreAllRunsOf, IsPlaced, gap_of, places_of}
use Rattle.rs_facts.proofs.KeptLaws.{known, missing-kept, placed-some, shared, shared-other, shared-outside, shared-same}
use Rattle.rs_facts.proofs.Rows.{cases_row, same_row, same_row-equal}
use Rattle.rs_facts.proofs.RunLaws.{IsApart, cases_cons}
use Rattle.rs_facts.proofs.SpanLaws.{Holds, places_of-alike, places_of-permutation, with_row-absorb}
use Rattle.rs_versioned.proofs.Shuffles.{shuffled}
use Rattle.rs_table_changes.specs.Picked.{covers, highest, lowest, shared_by, wide}
use Rattle.rs_table_changes.proofs.Apart.{AreApart, apart_across, apart_first, apart_last, apart_of, apart_shuffled, in_form, runs_of_apart}

-- the other is of the span's row, and they overlap or touch
pub record Touches (kind : Kind) (span other : Stretch) : Type 0 where
  pub same : other.row ≡ span.row
  pub from : other.lo < span.hi + gap_of kind
  pub upto : span.lo < other.hi + gap_of kind

-- the others that a change leaves: of another row, or farther away
pub record StandsOff (kind : Kind) (span other : Stretch) : Type 0 where
  pub placed : IsPlaced kind other
  pub off : other.row ≡ span.row → (other.hi + gap_of kind ≤ span.lo) ⊎ (span.hi + gap_of kind ≤ other.lo)

pub gap_small : (kind : Kind) → gap_of kind ≤ 1
gap_small Line = omega arith
gap_small Point = omega arith

-- ---- the wide span

-- with the ends that the span has so far
abbrev wider : ℕ → ℕ → Row → List Stretch → Stretch
wider lo hi row met = stretch (lowest lo met) (highest hi met) row

module _ (kind : Kind) (span : Stretch) (placed : IsPlaced kind span) where
  -- a span so far: of the row, and as wide as this one at least
  record SoFar (lo hi : ℕ) : Type 0 where
    from : lo ≤ span.lo
    upto : span.hi ≤ hi
    is : IsPlaced kind (stretch lo hi span.row)

  more : (lo hi : ℕ) (one : Stretch) → SoFar lo hi → IsPlaced kind one → Touches kind span one → SoFar (min lo one.lo) (max hi one.hi)
  more lo hi one so there touches = record { from = omega (arith, so.from); upto = omega (arith, so.upto); is = by kind refl } where
    by : (k : Kind) → k ≡ kind → IsPlaced kind (stretch (min lo one.lo) (max hi one.hi) span.row)
    by Line e = subst (λ k. IsPlaced k (stretch (min lo one.lo) (max hi one.hi) span.row)) e (
        let a : lo < hi = subst (λ k. IsPlaced k (stretch lo hi span.row)) (sym e) so.is in omega (arith, a))
    by Point e = subst (λ k. IsPlaced k (stretch (min lo one.lo) (max hi one.hi) span.row)) e (
        let a : hi ≡ suc lo = subst (λ k. IsPlaced k (stretch lo hi span.row)) (sym e) so.is in
        let b : one.hi ≡ suc one.lo = subst (λ k. IsPlaced k one) (sym e) there in
        let c : span.hi ≡ suc span.lo = subst (λ k. IsPlaced k span) (sym e) placed in
        let d : one.lo < span.hi + 0 = subst (λ k. one.lo < span.hi + gap_of k) (sym e) touches.from in
        let f : span.lo < one.hi + 0 = subst (λ k. span.lo < one.hi + gap_of k) (sym e) touches.upto in
        omega (arith, a, b, c, d, f, so.from, so.upto))

  placed_wide : (lo hi : ℕ) (met : List Stretch) → SoFar lo hi → AllByRecursion (IsPlaced kind) met → AllByRecursion (Touches kind span) met → IsPlaced kind (wider lo hi span.row met)
  placed_wide lo hi [] so there touch = so.is
  placed_wide lo hi (m ∷ met) so there touch = placed_wide (min lo m.lo) (max hi m.hi) met (more lo hi m so there.0 touch.0) there.1 touch.1

  -- one that stands off from the span so far and lies apart from those that are met stands off from all of it
  apart_wide : (one : Stretch) → IsPlaced kind one → one.row ≡ span.row → (lo hi : ℕ) (met : List Stretch) → SoFar lo hi → AllByRecursion (IsPlaced kind) met → AllByRecursion (Touches kind span) met
      → AllByRecursion (λ m. IsApart kind m one) met → (one.hi + gap_of kind ≤ lo) ⊎ (hi + gap_of kind ≤ one.lo)
      → (one.hi + gap_of kind ≤ lowest lo met) ⊎ (highest hi met + gap_of kind ≤ one.lo)
  apart_wide one here row lo hi [] so there touch apart off = off
  apart_wide one here row lo hi (m ∷ met) so there touch apart off =
      apart_wide one here row (min lo m.lo) (max hi m.hi) met (more lo hi m so there.0 touch.0) there.1 touch.1 apart.1 (by off (apart.0 (touch.0.same ∙ sym row)))
    where
      by : (one.hi + gap_of kind ≤ lo) ⊎ (hi + gap_of kind ≤ one.lo) → (m.hi + gap_of kind ≤ one.lo) ⊎ (one.hi + gap_of kind ≤ m.lo)
          → (one.hi + gap_of kind ≤ min lo m.lo) ⊎ (max hi m.hi + gap_of kind ≤ one.lo)
      by (inl before) (inr too) = inl (omega (arith, before, too))
      by (inr after) (inl too) = inr (omega (arith, after, too))
      by (inl before) (inl wrong) =
          let some = placed-some kind one here in let mine = placed-some kind m there.0 in let upto = touch.0.upto in
          absurd (omega (arith, before, wrong, some, mine, upto, so.from))
      by (inr after) (inr wrong) =
          let some = placed-some kind one here in let mine = placed-some kind m there.0 in let from = touch.0.from in
          absurd (omega (arith, after, wrong, some, mine, from, so.upto))

  -- the wide span means what the span and those that it meets mean
  means_wide : (lo hi : ℕ) (met rest : List Stretch) → SoFar lo hi → AllByRecursion (IsPlaced kind) met → AllByRecursion (Touches kind span) met
      → with_row lo hi span.row (places_of (met ++ rest)) ≡ with_row (lowest lo met) (highest hi met) span.row (places_of rest)
  means_wide lo hi [] rest so there touch = refl
  means_wide lo hi (m ∷ met) rest so there touch =
      let gap = gap_small kind in let from = touch.0.from in let upto = touch.0.upto in
      with_row-absorb lo hi span.row [] m (met ++ rest) touch.0.same (omega (arith, so.upto, from, gap)) (omega (arith, so.from, upto, gap))
      ∙ means_wide (min lo m.lo) (max hi m.hi) met rest (more lo hi m so there.0 touch.0) there.1 touch.1

  first_so_far : SoFar span.lo span.hi
  first_so_far = record { from = omega arith; upto = omega arith; is = placed }

  -- ---- beside the others

  off_each : (met : List Stretch) → AllByRecursion (IsPlaced kind) met → AllByRecursion (Touches kind span) met → (rest : List Stretch) → AllByRecursion (λ m. AllByRecursion (IsApart kind m) rest) met
      → AllByRecursion (StandsOff kind span) rest → AllByRecursion (IsApart kind (wide span met)) rest
  off_each met there touch [] across off = tt
  off_each met there touch (r ∷ rest) across off = (
    λ same. elim (apart_wide r off.0.placed (sym same) span.lo span.hi met first_so_far there touch (firsts met across) (off.0.off (sym same))) [ inl before ↦ inr before | inr after ↦ inl after ],
    off_each met there touch rest (lasts met across) off.1,
  )
    where
      firsts : (met : List Stretch) → AllByRecursion (λ m. AllByRecursion (IsApart kind m) (r ∷ rest)) met → AllByRecursion (λ m. IsApart kind m r) met
      firsts [] all = tt
      firsts (m ∷ met) all = (all.0.0, firsts met all.1)

      lasts : (met : List Stretch) → AllByRecursion (λ m. AllByRecursion (IsApart kind m) (r ∷ rest)) met → AllByRecursion (λ m. AllByRecursion (IsApart kind m) rest) met
      lasts [] all = tt
      lasts (m ∷ met) all = (all.0.1, lasts met all.1)

  each_placed : (spans : List Stretch) → AreApart kind spans → AllByRecursion (IsPlaced kind) spans
  each_placed [] all = tt
  each_placed (s ∷ spans) all = (all.0, each_placed spans all.2)

  module _ (all met rest : List Stretch) (are : IsPermutation all (met ++ rest)) (runs : AreAllRunsOf kind (places_of all) all)
      (touch : AllByRecursion (Touches kind span) met) (off : AllByRecursion (StandsOff kind span) rest) where
    apart_now : AreApart kind (met ++ rest)
    apart_now = apart_shuffled kind all (met ++ rest) are (apart_of kind (places_of all) all runs)

    met_placed : AllByRecursion (IsPlaced kind) met
    met_placed = each_placed met (apart_first kind met rest apart_now)

    -- the wide span and the rest are placed and lie apart
    pub joined_apart : AreApart kind (wide span met ∷ rest)
    joined_apart = (
      placed_wide span.lo span.hi met first_so_far met_placed touch,
      off_each met met_placed touch rest (apart_across kind met rest apart_now) off,
      apart_last kind met rest apart_now,
    )

    pub joined_runs : AreAllRunsOf kind (places_of (wide span met ∷ rest)) (wide span met ∷ rest)
    joined_runs = runs_of_apart kind (wide span met ∷ rest) joined_apart

    pub joined_means : places_of (wide span met ∷ rest) ≡ with_row span.lo span.hi span.row (places_of all)
    joined_means =
        sym (means_wide span.lo span.hi met rest first_so_far met_placed touch)
        ∙ ap (with_row span.lo span.hi span.row) (sym (places_of-permutation all (met ++ rest) are))

    -- ---- how many facts are new

    known_both : (xs ys : List Stretch) → known span.lo span.hi span.row (xs ++ ys) ≡ known span.lo span.hi span.row xs + known span.lo span.hi span.row ys
    known_both [] ys = omega arith
    known_both (x ∷ xs) ys = let rest = known_both xs ys in omega (arith, rest)

    known_met : (met : List Stretch) → AllByRecursion (Touches kind span) met → known span.lo span.hi span.row met ≡ shared_by span.lo span.hi met
    known_met [] touch = refl
    known_met (m ∷ met) touch =
        let here = shared-same span.lo span.hi span.row m touch.0.same in let later = known_met met touch.1 in omega (arith, here, later)

    known_rest : (rest : List Stretch) → AllByRecursion (StandsOff kind span) rest → known span.lo span.hi span.row rest ≡ 0
    known_rest [] off = refl
    known_rest (r ∷ rest) off =
        let later = known_rest rest off.1 in
        let here = one_rest r off.0 in
        omega (arith, here, later)
      where
        one_rest : (r : Stretch) → StandsOff kind span r → shared span.lo span.hi span.row r ≡ 0
        one_rest r off = elim (cases_row r.row span.row) [
          | inl same ↦ shared-outside span.lo span.hi span.row r (elim (off.off same) [ inl before ↦ inl (omega (arith, before)) | inr after ↦ inr (omega (arith, after)) ])
          | inr apart ↦ shared-other span.lo span.hi span.row r (λ e. let t : same_row r.row span.row ≡ true = same_row-equal r.row span.row e in cc)
        ]

    pub joined_count : missing span.lo span.hi span.row (places_of all) ≡ (span.hi - span.lo) - shared_by span.lo span.hi met
    joined_count =
        let some = placed-some kind span placed in
        let form = in_form kind all (apart_of kind (places_of all) all runs) in
        let counted = missing-kept kind span.lo span.hi span.row form.kept (omega (arith, some)) form.are in
        let places : missing span.lo span.hi span.row (places_of form.kept) ≡ missing span.lo span.hi span.row (places_of all) =
        ap (missing span.lo span.hi span.row) (sym (places_of-permutation all form.kept form.moved)) in
        let alike : known span.lo span.hi span.row (met ++ rest) ≡ known span.lo span.hi span.row form.kept =
        known_shuffled (met ++ rest) form.kept (IsPermutation-trans (met ++ rest) all form.kept (IsPermutation-sym all (met ++ rest) are) form.moved) in
        let parts = known_both met rest in
        let mine = known_met met touch in
        let none = known_rest rest off in
        omega (arith, counted, places, alike, parts, mine, none)
      where
        known_shuffled : (xs ys : List Stretch) → IsPermutation xs ys → known span.lo span.hi span.row xs ≡ known span.lo span.hi span.row ys
        known_shuffled = shuffled (λ xs ys. known span.lo span.hi span.row xs ≡ known span.lo span.hi span.row ys)
            (λ xs. refl) (λ xs ys zs a b. a ∙ b) (λ x xs ys a. ap (λ n. shared span.lo span.hi span.row x + n) a) (λ x y xs. omega arith)

-- ---- a span that another holds all along

module _ (span : Stretch) (all : List Stretch) (one : Stretch) (among : Contains all one) (same : one.row ≡ span.row) (covered : IsTrue (covers span one)) where
  pub low : one.lo ≤ span.lo
  low = leb-true one.lo span.lo (and_parts (nat_le one.lo span.lo) (nat_le span.hi one.hi) covered).0

  pub high : span.hi ≤ one.hi
  high = leb-true span.hi one.hi (and_parts (nat_le one.lo span.lo) (nat_le span.hi one.hi) covered).1

  pub held_means : places_of all ≡ with_row span.lo span.hi span.row (places_of all)
  held_means = places_of-alike all (span ∷ all)
      (λ row k h. record { span = h.span; among = Contains-append_right (span ∷ []) all h.span h.among; is = h.is })
      (λ row k h. elim (cases_cons span h.span all h.among) [
        | inl e ↦
            let here = subst (Holds row k) (sym e) h.is in
            record { span = one; among = among; is = record { same = same ∙ here.same; from = omega (arith, here.from, low); below = omega (arith, here.below, high) } }
        | inr later ↦ record { span = h.span; among = later; is = h.is }
      ])
