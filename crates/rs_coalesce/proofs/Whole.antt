-- From spans joined and sorted by place to maximal runs, and from spans sorted by row to those joined.
use Rattle.std.proofs.Common.{◌≡◌, suc, ◌+◌, ◌<◌, true, false, inl, inr, List, [], ◌∷◌, map, get_or, Less, Equal, Greater, is_lt, refl, sym, ap, ◌∙◌, subst, arith}
use Rattle.std.proofs.lemmas.List.Elements.{All-from_recursion, recursion_from_All}
use Rattle.std.proofs.lemmas.List.Sorted.{IsPermutation-map, All-permutation}
use Rattle.std.specs.List.Sorted.{IsSortedBy, IsPermutation}
use Rattle.rs_value.specs.declared.column.Kind.{Kind}
use Rattle.rs_facts.specs.declared.fact.Span.{Span}
use Rattle.rs_facts.specs.Runs.{Stretch, stretch_cmp, AreOrdered, AreRunsOf}
use Rattle.rs_facts.specs.Spans.{seen, places_of, IsPlaced, ArePlaced, AreKept}
use Rattle.rs_facts.proofs.SpanLaws.{places_of-permutation}
use Rattle.rs_facts.proofs.StretchOrder.{stretch_cmp-total, stretch_cmp-tie, stretch_cmp-on}
use Rattle.rs_facts.proofs.KeptLaws.{placed-some, kept-placed, every-weaker}
use Rattle.rs_facts.proofs.RunLaws.{IsApart, LieApart, runs-from_apart}
use Rattle.rs_facts.proofs.Apart.{apart-permutation, kept-apart}
use Rattle.rs_coalesce.specs.Joined.{joined, AreJoined}
use Rattle.rs_coalesce.proofs.Joining.{BySorted, kept-from_sorted, means-from_sorted}

abbrev pub ByPlace : {X : Type 0} → (X → Stretch) → List X → Type 0
ByPlace at spans = IsSortedBy (λ a b. is_lt (stretch_cmp (at a) (at b))) spans

pub placed-permutation : (kind : Kind) (xs ys : List Stretch) → IsPermutation xs ys → ArePlaced kind xs → ArePlaced kind ys
placed-permutation kind xs ys h placed = recursion_from_All (IsPlaced kind) ys (All-permutation (IsPlaced kind) xs ys h (All-from_recursion (IsPlaced kind) xs placed))

-- spans of one row that lie apart begin at two places
begin_apart : (kind : Kind) (a b : Stretch) → IsPlaced kind a → IsPlaced kind b → IsApart kind a b → a.lo ≡ b.lo → a.row ≡ b.row → ⊥
begin_apart kind a b x y apart lo row =
    let some_a : a.lo < a.hi = placed-some kind a x in
    let some_b : b.lo < b.hi = placed-some kind b y in
    elim (apart row) [ inl h ↦ omega (arith, h, some_a, lo) | inr h ↦ omega (arith, h, some_b, lo) ]

before : (kind : Kind) (a b : Stretch) → IsPlaced kind a → IsPlaced kind b → IsApart kind a b → is_lt (stretch_cmp b a) ≡ false → stretch_cmp a b ≡ Less
before kind a b x y apart e =
    let back = stretch_cmp-total.antisymm a b in
    elim (stretch_cmp b a) as (λ o. stretch_cmp b a ≡ o → stretch_cmp a b ≡ Less) [
      | Less ↦ λ o. let less : is_lt (stretch_cmp b a) ≡ true = ap is_lt o in cc
      | Equal ↦ λ o. let tie = stretch_cmp-tie b a o in absurd (begin_apart kind a b x y apart (sym tie.0) (sym tie.1))
      | Greater ↦ λ o. rw o at back
    ] refl

rest_apart : (kind : Kind) (first : Stretch) (rest : List Stretch) → LieApart kind (first ∷ rest) → LieApart kind rest
rest_apart kind first rest h i j d a b other = h (suc i) (suc j) d (omega arith) (omega arith) (λ e. other (omega (arith, e)))

module _ {X : Type 0} (at : X → Stretch) where
  rest_sorted : (first : X) (rest : List X) → ByPlace at (first ∷ rest) → ByPlace at rest
  rest_sorted first rest h k d a b =
      let more : suc k + 1 ≡ suc (k + 1) = omega arith in
      subst (λ n. is_lt (stretch_cmp (at (get_or (first ∷ rest) n d)) (at (get_or rest k d))) ≡ false) more (h (suc k) d (omega arith) (omega arith))

  -- sorted by place, spans that lie apart stand in strict order
  ordered-from_sorted : (kind : Kind) (spans : List X) → ByPlace at spans → ArePlaced kind (map at spans) → LieApart kind (map at spans) → AreOrdered (map at spans)
  ordered-from_sorted kind [] h p apart = tt
  ordered-from_sorted kind (first ∷ []) h p apart = (tt, tt)
  ordered-from_sorted kind (first ∷ next ∷ rest) h p apart =
      let later = ordered-from_sorted kind (next ∷ rest) (rest_sorted first (next ∷ rest) h) p.1 (rest_apart kind (at first) (map at (next ∷ rest)) apart) in
      let less = before kind (at first) (at next) p.0 p.1.0 (apart 0 1 (at first) (omega arith) (omega arith) (omega arith)) (h 0 first (omega arith) (omega arith)) in
      ((less, every-weaker (λ run. stretch_cmp (at next) run ≡ Less) (λ run. stretch_cmp (at first) run ≡ Less) (λ run l. stretch_cmp-on (at first) (at next) run less l) (map at rest) later.0), later)

-- ---- from the spans given to the runs

pub record Made (kind : Kind) (given left : List Span) : Type 0 where
  pub runs : AreRunsOf kind (places_of (map seen given)) (map seen left)
  pub placed : ArePlaced kind (map seen left)
  pub same : places_of (map seen left) ≡ places_of (map seen given)

pub made : (kind : Kind) (given left runs : List Span) → AreJoined kind (map seen left) → ArePlaced kind (map seen left) → places_of (map seen left) ≡ places_of (map seen given)
    → IsPermutation left runs → ByPlace seen runs → Made kind given runs
made kind given left runs apart placed same moved by_place =
    let over = IsPermutation-map seen left runs moved in
    let placed_runs = placed-permutation kind (map seen left) (map seen runs) over placed in
    let apart_runs = apart-permutation kind (map seen left) (map seen runs) over apart in
    let means : places_of (map seen runs) ≡ places_of (map seen given) = sym (places_of-permutation (map seen left) (map seen runs) over) ∙ same in
    record {
      runs = subst (λ p. AreRunsOf kind p (map seen runs)) means (runs-from_apart kind (map seen runs) placed_runs apart_runs (ordered-from_sorted seen kind runs by_place placed_runs apart_runs));
      placed = placed_runs;
      same = means;
    }

-- ---- from spans sorted by row

pub record Joined (kind : Kind) (given left : List Span) : Type 0 where
  pub joined : AreJoined kind (map seen left)
  pub placed : ArePlaced kind (map seen left)
  pub same : places_of (map seen left) ≡ places_of (map seen given)

pub joined-by_row : (kind : Kind) (given sorted left : List Span) → ArePlaced kind (map seen given)
    → IsPermutation given sorted → BySorted sorted → map seen left ≡ joined kind (map seen sorted) → Joined kind given left
joined-by_row kind given sorted left placed moved by_row are_joined =
    let over = IsPermutation-map seen given sorted moved in
    let placed_sorted = placed-permutation kind (map seen given) (map seen sorted) over placed in
    let kept : AreKept kind (map seen left) = subst (AreKept kind) (sym are_joined) (kept-from_sorted kind sorted by_row placed_sorted) in
    record {
      joined = kept-apart kind (map seen left) kept;
      placed = kept-placed kind (map seen left) kept;
      same = ap places_of are_joined ∙ means-from_sorted kind sorted by_row placed_sorted ∙ sym (places_of-permutation (map seen given) (map seen sorted) over);
    }
