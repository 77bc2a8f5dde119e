-- Spans with the bytes of their rows that lie one after another are maximal runs.
use Rattle.std.proofs.Common.{◌≡◌, ◌<◌, ◌≤◌, ◌+◌, ℕ, zero, suc, Bool, true, false, IsTrue, List, [], ◌∷◌, length, map, get_or, nat_cmp, refl, sym, ap, ◌∙◌, subst, inl, inr, arith}
use Rattle.std.proofs.lemmas.Bool.{false≢true, leb-true}
use Rattle.std.proofs.lemmas.List.Elements.{Contains-get_or}
use Rattle.std.specs.Cmp.Lexicographic.{nat_list_cmp_total, slice_cmp}
use Rattle.std.specs.List.{AllByRecursion, IsAllAdjacentAnswer}
use Rattle.std.specs.Ordering.{ordering_reverse}
use Rattle.std.specs.Prelude.{nat_le}
use Rattle.std.specs.declared.cmp.Ordering.{Ordering}
use Rattle.std.specs.declared.cmp.Ordering.TheVariants.{Less, Equal, Greater}
use Rattle.rs_attr.specs.Meant.{lies_before, stretch_of, where_equal}
use Rattle.rs_attr.specs.declared.meant.RowStretch.{RowStretch}
use Rattle.rs_attr.proofs.Lent.{runs_where_apart, text_same}
use Rattle.rs_facts.proofs.KeptLaws.{placed-some}
use Rattle.rs_facts.proofs.RunLaws.{LieApart, each-at}
use Rattle.rs_facts.specs.Runs.{Stretch}
use Rattle.rs_facts.specs.Spans.{AreAllRunsOf, ArePlaced, IsPlaced, gap_of, places_of}
use Rattle.rs_value.specs.declared.column.Kind.{Kind}
use Rattle.rs_value.specs.declared.column.Kind.TheVariants.{Line, Point}

-- a span ends where another begins or before, and before it where they have one row
record LiesBefore (kind : Kind) (a b : Stretch) : Type 0 where
  pub upto : a.hi ≤ b.lo
  pub past : a.row ≡ b.row → a.hi + gap_of kind ≤ b.lo

-- each span lies before all that follow it
abbrev LieInOrder : Kind → List Stretch → Type 0
LieInOrder kind [] = Unit {0}
LieInOrder kind (x ∷ xs) = AllByRecursion (LiesBefore kind x) xs × LieInOrder kind xs

gap-one : (kind : Kind) → gap_of kind ≤ 1
gap-one Line = omega arith
gap-one Point = omega arith

-- what the next one lies before, this one lies before
before_later : (kind : Kind) (x y z : Stretch) → IsPlaced kind y → LiesBefore kind x y → LiesBefore kind y z → LiesBefore kind x z
before_later kind x y z placed one two =
    let some = placed-some kind y placed in
    record {
      upto = omega (arith, one.upto, some, two.upto);
      past = λ same. omega (arith, one.upto, some, two.upto, gap-one kind);
    }

before_all : (kind : Kind) (x y : Stretch) (zs : List Stretch) → IsPlaced kind y → LiesBefore kind x y → AllByRecursion (LiesBefore kind y) zs → AllByRecursion (LiesBefore kind x) zs
before_all kind x y [] placed one all = tt
before_all kind x y (z ∷ zs) placed one all = (before_later kind x y z placed one all.0, before_all kind x y zs placed one all.1)

in_order-apart : (kind : Kind) (spans : List Stretch) → LieInOrder kind spans → LieApart kind spans
in_order-apart kind [] order i j d a b other same = absurd (omega (arith, a))
in_order-apart kind (x ∷ xs) order zero zero d a b other same = absurd (other refl)
in_order-apart kind (x ∷ xs) order zero (suc j) d a b other same =
    inl ((each-at (LiesBefore kind x) xs (get_or xs j d) order.0 (Contains-get_or xs j d (omega (arith, b)))).past same)
in_order-apart kind (x ∷ xs) order (suc i) zero d a b other same =
    inr ((each-at (LiesBefore kind x) xs (get_or xs i d) order.0 (Contains-get_or xs i d (omega (arith, a)))).past (sym same))
in_order-apart kind (x ∷ xs) order (suc i) (suc j) d a b other same = in_order-apart kind xs order.1 i j d (omega (arith, a)) (omega (arith, b)) (λ e. other (ap suc e)) same

-- what the test says
lies : (kind : Kind) (one next : RowStretch) → lies_before kind one next ≡ true → LiesBefore kind (stretch_of one) (stretch_of next)
lies kind one next is = by (slice_cmp nat_cmp one.row.now next.row.now) refl is where
  self : (o : Ordering) → o ≡ ordering_reverse o → o ≡ Equal
  self Less e = absurd (let wrong : Less ≡ Greater = e in cc)
  self Equal e = refl
  self Greater e = absurd (let wrong : Greater ≡ Less = e in cc)

  level : one.row.now ≡ next.row.now → slice_cmp nat_cmp one.row.now next.row.now ≡ Equal
  level same =
      subst (λ (bytes : List ℕ). slice_cmp nat_cmp one.row.now bytes ≡ Equal) same
      (self (slice_cmp nat_cmp one.row.now one.row.now) (nat_list_cmp_total.antisymm one.row.now one.row.now))

  other : (o : Ordering) → slice_cmp nat_cmp one.row.now next.row.now ≡ o → (o ≡ Equal → ⊥) → nat_le one.hi next.lo ≡ true → LiesBefore kind (stretch_of one) (stretch_of next)
  other o e not h = record {
    upto = leb-true one.hi next.lo h;
    past = λ same. absurd (not (sym e ∙ level (text_same one.row.now next.row.now same)));
  }

  by : (o : Ordering) → slice_cmp nat_cmp one.row.now next.row.now ≡ o → where_equal o (nat_le (one.hi + gap_of kind) next.lo) (nat_le one.hi next.lo) ≡ true → LiesBefore kind (stretch_of one) (stretch_of next)
  by Less e h = other Less e (λ wrong. cc) h
  by Equal e h =
      let far = leb-true (one.hi + gap_of kind) next.lo h in
      record { upto = omega (arith, far); past = λ same. far }
  by Greater e h = other Greater e (λ wrong. cc) h

in_order : (kind : Kind) (xs : List RowStretch) → ArePlaced kind (map stretch_of xs) → ((k : ℕ) (d : RowStretch) → k + 1 < length xs → true ≡ lies_before kind (get_or xs k d) (get_or xs (k + 1) d))
    → LieInOrder kind (map stretch_of xs)
in_order kind [] placed all = tt
in_order kind (x ∷ []) placed all = (tt, tt)
in_order kind (x ∷ y ∷ ys) placed all =
    let first : LiesBefore kind (stretch_of x) (stretch_of y) = lies kind x y (sym (all 0 x (omega arith))) in
    let rest = in_order kind (y ∷ ys) placed.1 (λ k d inside.
    let more : suc k + 1 ≡ suc (k + 1) = omega arith in
    subst (λ (n : ℕ). true ≡ lies_before kind (get_or (y ∷ ys) k d) (get_or (x ∷ y ∷ ys) n d)) more (all (suc k) d (omega (arith, inside)))) in
    ((first, before_all kind (stretch_of x) (stretch_of y) (map stretch_of ys) placed.1.0 first rest.0), rest)

-- the answer of `is_sorted_by`
pub place_answer : (kind : Kind) (xs : List RowStretch) → ArePlaced kind (map stretch_of xs) → (r : Bool) → IsAllAdjacentAnswer (λ x y b. b ≡ lies_before kind x y) xs r → IsTrue r
    → AreAllRunsOf kind (places_of (map stretch_of xs)) (map stretch_of xs)
place_answer kind xs placed false all is = absurd (false≢true is)
place_answer kind [] placed true all is = runs_where_apart kind [] tt (in_order-apart kind [] tt)
place_answer kind (x ∷ xs) placed true all is =
    runs_where_apart kind (map stretch_of (x ∷ xs)) placed (in_order-apart kind (map stretch_of (x ∷ xs)) (in_order kind (x ∷ xs) placed (λ k d inside. all k d (omega (arith, inside)))))
