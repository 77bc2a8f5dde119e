-- The order of spans by row and place is total; the tests whether two spans are one run, and whether spans lie apart.
use Rattle.std.proofs.Common.{◌≡◌, ℕ, suc, ◌+◌, ◌<◌, ◌≤◌, Bool, true, false, ◌&&◌, IsTrue, ◌↔◌, List, [], ◌∷◌, length, map, get_or, refl, sym, ap, ◌∙◌, subst, add-one, arith}
use Rattle.std.proofs.lemmas.Bool.{leb-true, leb-false, false≢true}
use Rattle.std.proofs.lemmas.List.{get_or-map, length-map}
use Rattle.std.proofs.lemmas.Cmp.{nat_cmp_total, on_total, then_total}
use Rattle.std.specs.Cmp.{IsTotalOrder}
use Rattle.std.specs.List.{IsAllAdjacentAnswer}
use Rattle.std.specs.Prelude.{nat_le, nat_lt}
use Rattle.rs_value.specs.declared.column.Kind.{Kind}
use Rattle.rs_facts.specs.declared.fact.Span.{Span}
use Rattle.rs_facts.specs.Runs.{Stretch}
use Rattle.rs_facts.specs.Spans.{seen, gap_of}
use Rattle.rs_facts.proofs.Rows.{row_cmp-total, same_row, same_row-true, same_row-equal}
use Rattle.rs_coalesce.specs.Joined.{row_place_cmp, joins, AreApart}

pub row_place_cmp-total : IsTotalOrder row_place_cmp
unfolding row_place_cmp
row_place_cmp-total = then_total (on_total (λ (s : Stretch). s.row) row_cmp-total) (on_total (λ (s : Stretch). s.lo) nat_cmp_total)

either_way : (a b : Bool) → (a ≡ true → b ≡ true) → (b ≡ true → a ≡ true) → a ≡ b
either_way true b f g = sym (f refl)
either_way false true f g = g refl
either_way false false f g = refl

pub joins-reached : (kind : Kind) (a b : Stretch) (t : Bool) → true ≡ nat_lt b.lo (a.hi + gap_of kind) → IsTrue t ↔ (a.row ≡ b.row) → t ≡ joins kind a b
unfolding joins same_row
joins-reached kind a b t near same =
    either_way t (same_row a.row b.row) (λ e. same_row-equal a.row b.row (same.0 e)) (λ e. same.1 (same_row-true a.row b.row e))
    ∙ ap (λ n. n && same_row a.row b.row) near

pub joins-apart : (kind : Kind) (a b : Stretch) (t : Bool) → t ≡ false → false ≡ nat_lt b.lo (a.hi + gap_of kind) → t ≡ joins kind a b
unfolding joins same_row
joins-apart kind a b t e far = e ∙ ap (λ n. n && same_row a.row b.row) far

-- ---- spans that lie apart

abbrev pub ends_before : Span → Span → Bool
ends_before one next = nat_le one.hi next.lo

unless_apart : (spans : List Span) (k : ℕ) (d : Span) → suc k < length spans → false ≡ ends_before (get_or spans k d) (get_or spans (suc k) d) → AreApart (map seen spans) → ⊥
unless_apart spans k d inside is apart =
    let low : (get_or spans k d).hi ≤ (get_or spans (suc k) d).lo =
    subst (λ x. (get_or spans k d).hi ≤ x.lo) (get_or-map seen spans (suc k) d (seen d) inside)
    (subst (λ x. x.hi ≤ (get_or (map seen spans) (suc k) (seen d)).lo) (get_or-map seen spans k d (seen d) (omega (arith, inside))) (apart k (seen d) (omega (arith, inside, length-map spans seen)))) in
    let high = leb-false (get_or spans k d).hi (get_or spans (suc k) d).lo (sym is) in
    omega (arith, low, high)

-- the answer of `is_sorted_by`
pub apart-answer : (spans : List Span) (r : Bool) → IsAllAdjacentAnswer (λ x y b. b ≡ ends_before x y) spans r → IsTrue r ↔ AreApart (map seen spans)
apart-answer [] true all = (λ e k d inside. absurd (omega (arith, inside)), λ apart. refl)
apart-answer [] false (k, inside, is) = absurd (omega (arith, inside))
apart-answer (first ∷ rest) true all = (
  λ e k d inside.
      let within : suc k < length (first ∷ rest) = omega (arith, inside, length-map (first ∷ rest) seen) in
      let low = leb-true (get_or (first ∷ rest) k first).hi (get_or (first ∷ rest) (suc k) first).lo (subst (λ n. ends_before (get_or (first ∷ rest) k first) (get_or (first ∷ rest) n first) ≡ true) (add-one k) (sym (all k first (omega (arith, within))))) in
      subst (λ x. (get_or (map seen (first ∷ rest)) k d).hi ≤ x.lo) (sym (get_or-map seen (first ∷ rest) (suc k) first d within))
      (subst (λ x. x.hi ≤ (get_or (first ∷ rest) (suc k) first).lo) (sym (get_or-map seen (first ∷ rest) k first d (omega (arith, within)))) low),
  λ apart. refl,
)
apart-answer (first ∷ rest) false (k, inside, is) = (
  λ e. absurd (false≢true e),
  λ apart. absurd (unless_apart (first ∷ rest) k first (omega (arith, inside)) (subst (λ n. false ≡ ends_before (get_or (first ∷ rest) k first) (get_or (first ∷ rest) n first)) (add-one k) (is first)) apart),
)

-- ---- what `is_sorted_by` says of neighbours

abbrev pub begins_before : Span → Span → Bool
begins_before one next = nat_le one.lo next.lo

pub adjacent : (test : Span → Span → Bool) (spans : List Span) (r : Bool) → IsAllAdjacentAnswer (λ x y b. b ≡ test x y) spans r → r ≡ true → (k : ℕ) (d : Span) → suc k < length spans → test (get_or spans k d) (get_or spans (suc k) d) ≡ true
adjacent test spans true all e k d inside = subst (λ n. test (get_or spans k d) (get_or spans n d) ≡ true) (add-one k) (sym (all k d (omega (arith, inside))))
adjacent test spans false answer e k d inside = absurd (false≢true e)
