-- One span laid over those of the other list: what it finds, and how often it asks.
use Rattle.std.proofs.Common.{◌≡◌, ℕ, suc, ◌+◌, ◌<◌, ◌≤◌, min, Bool, true, false, ◌&&◌, ◌||◌, cond, List, [], ◌∷◌, ◌++◌, map, length, drop, get_or, count_by, Bor, refl, sym, ap, ◌∙◌, subst, arith, append_assoc}
use Rattle.std.proofs.lemmas.Bool.{and_parts, and_from, ltb-true, ltb-false, cond-true, cond-false}
use Rattle.std.proofs.lemmas.List.{drop_more, map-append}
use Rattle.std.proofs.lemmas.List.Sums.{sum_by-cons}
use Rattle.std.specs.List.{list_any, AllByRecursion}
use Rattle.std.specs.Prelude.{nat_lt}
use Rattle.rs_value.specs.Row.{Row}
use Rattle.rs_facts.specs.declared.fact.Span.{Span}
use Rattle.rs_facts.specs.Insert.{within}
use Rattle.rs_facts.specs.Runs.{Stretch}
use Rattle.rs_facts.specs.Spans.{seen}
use Rattle.rs_coalesce.specs.Lent.{seen_lent}
use Rattle.rs_facts.proofs.Placing.{within-true, within-bounds}
use Rattle.rs_facts.proofs.Rows.{same_row}
use Rattle.rs_facts.proofs.RowSets.{either-way}
use Rattle.rs_facts.proofs.SpanLaws.{holds}
use Rattle.rs_sweep.specs.Inner.{joined_row, piece_of, laid}
use Rattle.rs_sweep.specs.Lists.{AreSorted}
use Rattle.rs_sweep.specs.declared.laying.Side.{Side}

-- whether the row is made of these two at the thousandth
unfoldable pub both : Side → Row → ℕ → Stretch → Stretch → Bool
both side row k one other = within one.lo one.hi k && (within other.lo other.hi k && same_row (joined_row side one.row other.row) row)

-- ---- a step

pub laid-met : (side : Side) (one other : Stretch) (others : List Stretch) → nat_lt other.lo one.hi ≡ true → laid side one (other ∷ others) ≡ piece_of side one other ∷ laid side one others
laid-met side one other others e = cond-true (nat_lt other.lo one.hi) (piece_of side one other ∷ laid side one others) [] e

pub laid-none : (side : Side) (one other : Stretch) (others : List Stretch) → nat_lt other.lo one.hi ≡ false → laid side one (other ∷ others) ≡ []
laid-none side one other others e = cond-false (nat_lt other.lo one.hi) (piece_of side one other ∷ laid side one others) [] e

-- ---- what it finds

within_piece : (a b c d k : ℕ) → a ≤ c → within c (min b d) k ≡ (within a b k && within c d k)
within_piece a b c d k l = either-way _ _
    (λ e. let h = within-bounds c (min b d) k e in and_from (within a b k) (within c d k) (within-true a b k (omega (arith, h.0)) (omega (arith, h.1))) (within-true c d k h.0 (omega (arith, h.1))))
    (λ e. let p = and_parts (within a b k) (within c d k) e in let x = within-bounds a b k p.0 in let y = within-bounds c d k p.1 in within-true c (min b d) k y.0 (omega (arith, x.1, y.1)))

and_assoc : (a b c : Bool) → (a && b && c) ≡ (a && (b && c))
and_assoc true b c = refl
and_assoc false b c = refl

holds_piece : (side : Side) (row : Row) (k : ℕ) (one other : Stretch) → one.lo ≤ other.lo → holds row k (piece_of side one other) ≡ both side row k one other
unfolding holds both
holds_piece side row k one other l =
    ap (λ t. t && same_row (joined_row side one.row other.row) row) (within_piece one.lo one.hi other.lo other.hi k l)
    ∙ and_assoc (within one.lo one.hi k) (within other.lo other.hi k) (same_row (joined_row side one.row other.row) row)

-- spans that begin where this one has ended share nothing with it
pub both-none : (side : Side) (row : Row) (k : ℕ) (one other : Stretch) → one.hi ≤ other.lo → both side row k one other ≡ false
unfolding both
both-none side row k one other l = elim (both side row k one other) as (λ t. both side row k one other ≡ t → t ≡ false) [
  | true ↦ λ e.
      let p = and_parts (within one.lo one.hi k) (within other.lo other.hi k && same_row (joined_row side one.row other.row) row) e in
      let q = and_parts (within other.lo other.hi k) (same_row (joined_row side one.row other.row) row) p.1 in
      let x = within-bounds one.lo one.hi k p.0 in
      let y = within-bounds other.lo other.hi k q.0 in
      absurd (omega (arith, x.1, y.0, l))
  | false ↦ λ e. refl
] refl

none_behind : (side : Side) (row : Row) (k : ℕ) (one : Stretch) (others : List Stretch) → AllByRecursion (λ other. one.hi ≤ other.lo) others → list_any (both side row k one) others ≡ false
none_behind side row k one [] h = refl
none_behind side row k one (other ∷ others) h = (λ i. both-none side row k one other h.0 i || list_any (both side row k one) others) ∙ none_behind side row k one others h.1

every_above : (n m : ℕ) (xs : List Stretch) → n ≤ m → AllByRecursion (λ x. m ≤ x.lo) xs → AllByRecursion (λ x. n ≤ x.lo) xs
every_above n m [] l h = tt
every_above n m (x ∷ xs) l h = (omega (arith, l, h.0), every_above n m xs l h.1)

pub laid-holds : (side : Side) (row : Row) (k : ℕ) (one : Stretch) (others : List Stretch) → AllByRecursion (λ other. one.lo ≤ other.lo) others → AreSorted others → list_any (holds row k) (laid side one others) ≡ list_any (both side row k one) others
laid-holds side row k one [] low sorted = refl
laid-holds side row k one (other ∷ others) low sorted = elim (nat_lt other.lo one.hi) as (λ t. nat_lt other.lo one.hi ≡ t → list_any (holds row k) (laid side one (other ∷ others)) ≡ list_any (both side row k one) (other ∷ others)) [
  | true ↦ λ e.
      ap (list_any (holds row k)) (laid-met side one other others e)
      ∙ (λ i. holds_piece side row k one other low.0 i || laid-holds side row k one others low.1 sorted.1 i)
  | false ↦ λ e.
      let far : one.hi ≤ other.lo = ltb-false other.lo one.hi e in
      ap (list_any (holds row k)) (laid-none side one other others e)
      ∙ sym (none_behind side row k one (other ∷ others) (far, every_above one.hi other.lo others far sorted.0))
] refl

-- ---- how many it finds

pub laid-few : (side : Side) (one : Stretch) (others : List Stretch) (test : Stretch → Bool) → ((other : Stretch) → one.lo ≤ other.lo → other.lo < one.hi → other.lo < other.hi → test other ≡ true) → AllByRecursion (λ other. one.lo ≤ other.lo) others → AllByRecursion (λ other. other.lo < other.hi) others → length (laid side one others) ≤ count_by test others
laid-few side one [] test met low some = omega arith
laid-few side one (other ∷ others) test met low some =
    let more = sum_by-cons (λ x. cond (test x) 1 0) other others in
    let rest = laid-few side one others test met low.1 some.1 in
    elim (nat_lt other.lo one.hi) as (λ t. nat_lt other.lo one.hi ≡ t → length (laid side one (other ∷ others)) ≤ count_by test (other ∷ others)) [
      | true ↦ λ e.
          let long : length (laid side one (other ∷ others)) ≡ suc (length (laid side one others)) = ap length (laid-met side one other others e) in
          let one_more : ◌≡◌ {A = ℕ} (cond (test other) 1 0) 1 = ap (λ t. let n : ℕ = cond t 1 0 in n) (met other low.0 (ltb-true other.lo one.hi e) some.0) in
          omega (arith, more, rest, long, one_more)
      | false ↦ λ e.
          let long : length (laid side one (other ∷ others)) ≡ 0 = ap length (laid-none side one other others e) in
          omega (arith, long)
    ] refl

one_most : (t : Bool) → ◌≤◌ (cond t 1 0) 1
one_most true = omega arith
one_most false = omega arith

none_counted : (limit : ℕ) (test : Stretch → Bool) → ((other : Stretch) → limit ≤ other.lo → test other ≡ false) → (others : List Stretch) → AllByRecursion (λ other. limit ≤ other.lo) others → count_by test others ≡ 0
none_counted limit test apart [] h = refl
none_counted limit test apart (other ∷ others) h =
    let more = sum_by-cons (λ x. cond (test x) 1 0) other others in
    let rest = none_counted limit test apart others h.1 in
    let none : ◌≡◌ {A = ℕ} (cond (test other) 1 0) 0 = ap (λ t. let n : ℕ = cond t 1 0 in n) (apart other h.0) in
    omega (arith, more, rest, none)

-- it finds all that pass a test which none passes that begins where this one has ended
pub laid-many : (side : Side) (one : Stretch) (others : List Stretch) (test : Stretch → Bool) → ((other : Stretch) → one.hi ≤ other.lo → test other ≡ false) → AreSorted others → count_by test others ≤ length (laid side one others)
laid-many side one [] test apart sorted = omega arith
laid-many side one (other ∷ others) test apart sorted =
    let more = sum_by-cons (λ x. cond (test x) 1 0) other others in
    let rest = laid-many side one others test apart sorted.1 in
    let first = one_most (test other) in
    elim (nat_lt other.lo one.hi) as (λ t. nat_lt other.lo one.hi ≡ t → count_by test (other ∷ others) ≤ length (laid side one (other ∷ others))) [
      | true ↦ λ e.
          let long : length (laid side one (other ∷ others)) ≡ suc (length (laid side one others)) = ap length (laid-met side one other others e) in
          omega (arith, more, rest, long, first)
      | false ↦ λ e.
          let far : one.hi ≤ other.lo = ltb-false other.lo one.hi e in
          let none = none_counted one.hi test apart (other ∷ others) (far, every_above one.hi other.lo others far sorted.0) in
          omega (arith, none)
    ] refl

-- ---- of which kind, how wide

pub laid-all : (P Q : Stretch → Type 0) (side : Side) (one : Stretch) → ((other : Stretch) → one.lo ≤ other.lo → other.lo < one.hi → P other → Q (piece_of side one other)) → (others : List Stretch) → AllByRecursion (λ other. one.lo ≤ other.lo) others → AllByRecursion P others → AllByRecursion Q (laid side one others)
laid-all P Q side one each [] low all = tt
laid-all P Q side one each (other ∷ others) low all = elim (nat_lt other.lo one.hi) as (λ t. nat_lt other.lo one.hi ≡ t → AllByRecursion Q (laid side one (other ∷ others))) [
  | true ↦ λ e. subst (AllByRecursion Q) (sym (laid-met side one other others e)) (each other low.0 (ltb-true other.lo one.hi e) all.0, laid-all P Q side one each others low.1 all.1)
  | false ↦ λ e. subst (AllByRecursion Q) (sym (laid-none side one other others e)) tt
] refl

-- ---- the loop

pub rest-at : (spans : List (Bor Span)) (i : ℕ) (next : Bor Span) → i < length spans → next ≡ get_or spans i next → map seen_lent (drop i spans) ≡ seen_lent next ∷ map seen_lent (drop (i + 1) spans)
rest-at spans i next below is = ap (map seen_lent) (drop_more spans i next below) ∙ ap (λ (s : Bor Span). seen_lent s ∷ map seen_lent (drop (i + 1) spans)) (sym is)

pub found-more : (side : Side) (one : Stretch) (found : List Span) (piece : Span) (other : Stretch) (others rest all : List Stretch) → others ≡ other ∷ rest → nat_lt other.lo one.hi ≡ true → seen piece ≡ piece_of side one other
    → map seen found ++ laid side one others ≡ all → map seen (found ++ piece ∷ []) ++ laid side one rest ≡ all
found-more side one found piece other others rest all is met made h =
    ap (λ zs. zs ++ laid side one rest) (map-append seen found (piece ∷ []))
    ∙ append_assoc (map seen found) (seen piece ∷ []) (laid side one rest)
    ∙ ap (λ z. map seen found ++ z ∷ laid side one rest) made
    ∙ sym (ap (λ zs. map seen found ++ zs) (ap (laid side one) is ∙ laid-met side one other rest met))
    ∙ h

pub found-length : (side : Side) (one other : Stretch) (others rest : List Stretch) → others ≡ other ∷ rest → nat_lt other.lo one.hi ≡ true → length (laid side one others) ≡ suc (length (laid side one rest))
found-length side one other others rest is met = ap (λ zs. length (laid side one zs)) is ∙ ap length (laid-met side one other rest met)

append_nil : {X : Type 0} (xs : List X) → xs ++ [] ≡ xs
append_nil [] = refl
append_nil (x ∷ xs) = ap (λ r. x ∷ r) (append_nil xs)

-- nothing more is found
pub found-all : (found laid_rest all : List Stretch) → laid_rest ≡ [] → found ++ laid_rest ≡ all → found ≡ all
found-all found laid_rest all none h = sym (append_nil found) ∙ sym (ap (λ zs. found ++ zs) none) ∙ h
