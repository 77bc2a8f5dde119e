-- The loop that joins neighbours in place: what stands before the last, the last, and the rest.
use Rattle.std.proofs.Common.{◌≡◌, ℕ, ◌+◌, ◌<◌, ◌≤◌, max, Bool, true, false, List, [], ◌∷◌, ◌++◌, map, length, take, drop, get_or, set, refl, sym, ap, ◌∙◌, arith, append_assoc, get_or-set_same, drop-set-lt}
use Rattle.std.proofs.lemmas.Bool.{cond-true, cond-false}
use Rattle.std.proofs.lemmas.List.{take-set, take-set-le, drop_more, take_more, map-append, map_more, drop_all, get_or_default}
use Rattle.rs_value.specs.declared.column.Kind.{Kind}
use Rattle.rs_facts.specs.declared.fact.Span.{Span}
use Rattle.rs_facts.specs.Runs.{Stretch, stretch}
use Rattle.rs_facts.specs.Spans.{seen}
use Rattle.rs_coalesce.specs.Joined.{joins, join, joined_onto, joined}

-- the spans before the last one, and the rest joined onto it, are all of them
abbrev pub SoFar : Kind → List Span → ℕ → ℕ → List Stretch → Type 0
SoFar kind spans last next all = (d : Span) → map seen (take last spans) ++ joined_onto kind (seen (get_or spans last d)) (map seen (drop next spans)) ≡ all

pub joined-nothing : (kind : Kind) (spans : List Span) → length spans ≡ 0 → ◌≡◌ {A = List Stretch} [] (joined kind (map seen spans))
unfolding joined
joined-nothing kind [] e = refl
joined-nothing kind (first ∷ rest) e = absurd (omega (arith, e))

pub so_far-start : (kind : Kind) (spans : List Span) → 0 < length spans → (d : Span) → joined_onto kind (seen (get_or spans 0 d)) (map seen (drop 1 spans)) ≡ joined kind (map seen spans)
unfolding joined
so_far-start kind [] h d = absurd (omega arith)
so_far-start kind (first ∷ rest) h d = refl

pub joined_onto-one : (kind : Kind) (a b : Stretch) (rest : List Stretch) → joins kind a b ≡ true → joined_onto kind a (b ∷ rest) ≡ joined_onto kind (join a b) rest
joined_onto-one kind a b rest e = cond-true (joins kind a b) (joined_onto kind (join a b) rest) (a ∷ joined_onto kind b rest) e

pub joined_onto-two : (kind : Kind) (a b : Stretch) (rest : List Stretch) → joins kind a b ≡ false → joined_onto kind a (b ∷ rest) ≡ a ∷ joined_onto kind b rest
joined_onto-two kind a b rest e = cond-false (joins kind a b) (joined_onto kind (join a b) rest) (a ∷ joined_onto kind b rest) e

-- the next one is joined onto the last
pub so_far-join : (kind : Kind) (xs ys : List Span) (last next : ℕ) (y : Span) (all : List Stretch) → last < next → next < length xs → ys ≡ set xs last y
    → ((d : Span) → joins kind (seen (get_or xs last d)) (seen (get_or xs next d)) ≡ true)
    → ((d : Span) → seen y ≡ join (seen (get_or xs last d)) (seen (get_or xs next d)))
    → SoFar kind xs last next all → SoFar kind ys last (next + 1) all
so_far-join kind xs ys last next y all below within is near grown so_far d =
    let in_last : last < length xs = omega arith in
    let front : take last ys ≡ take last xs = ap (take last) is ∙ take-set xs last y in
    let here : get_or ys last d ≡ y = ap (λ zs. get_or zs last d) is ∙ get_or-set_same xs last y d in_last in
    let rest : drop (next + 1) ys ≡ drop (next + 1) xs = ap (drop (next + 1)) is ∙ drop-set-lt (next + 1) xs last y (omega arith) in
    ap (λ zs. map seen zs ++ joined_onto kind (seen (get_or ys last d)) (map seen (drop (next + 1) ys))) front
    ∙ ap (λ z. map seen (take last xs) ++ joined_onto kind (seen z) (map seen (drop (next + 1) ys))) here
    ∙ ap (λ zs. map seen (take last xs) ++ joined_onto kind (seen y) (map seen zs)) rest
    ∙ ap (λ s. map seen (take last xs) ++ joined_onto kind s (map seen (drop (next + 1) xs))) (grown d)
    ∙ sym (ap (λ zs. map seen (take last xs) ++ zs) (joined_onto-one kind (seen (get_or xs last d)) (seen (get_or xs next d)) (map seen (drop (next + 1) xs)) (near d)))
    ∙ sym (ap (λ zs. map seen (take last xs) ++ joined_onto kind (seen (get_or xs last d)) (map seen zs)) (drop_more xs next d within))
    ∙ so_far d

-- the next one stands apart, and goes after the last
pub so_far-apart : (kind : Kind) (xs ys : List Span) (last next : ℕ) (all : List Stretch) → last < next → next < length xs
    → ((d : Span) → get_or ys (last + 1) d ≡ get_or xs next d)
    → ((d : Span) → ys ≡ set (set xs (last + 1) (get_or xs next d)) next (get_or xs (last + 1) d))
    → ((d : Span) → joins kind (seen (get_or xs last d)) (seen (get_or xs next d)) ≡ false)
    → SoFar kind xs last next all → SoFar kind ys (last + 1) (next + 1) all
so_far-apart kind xs ys last next all below within moved is far so_far d =
    let in_last : last < length xs = omega arith in
    let front : take (last + 1) ys ≡ take last xs ++ get_or xs last d ∷ [] =
    ap (take (last + 1)) (is d)
    ∙ take-set-le (last + 1) (set xs (last + 1) (get_or xs next d)) next (get_or xs (last + 1) d) (omega arith)
    ∙ take-set xs (last + 1) (get_or xs next d)
    ∙ take_more xs last d in_last in
    let rest : drop (next + 1) ys ≡ drop (next + 1) xs =
    ap (drop (next + 1)) (is d)
    ∙ drop-set-lt (next + 1) (set xs (last + 1) (get_or xs next d)) next (get_or xs (last + 1) d) (omega arith)
    ∙ drop-set-lt (next + 1) xs (last + 1) (get_or xs next d) (omega arith) in
    ap (λ zs. map seen zs ++ joined_onto kind (seen (get_or ys (last + 1) d)) (map seen (drop (next + 1) ys))) front
    ∙ ap (λ z. map seen (take last xs ++ get_or xs last d ∷ []) ++ joined_onto kind (seen z) (map seen (drop (next + 1) ys))) (moved d)
    ∙ ap (λ zs. map seen (take last xs ++ get_or xs last d ∷ []) ++ joined_onto kind (seen (get_or xs next d)) (map seen zs)) rest
    ∙ ap (λ zs. zs ++ joined_onto kind (seen (get_or xs next d)) (map seen (drop (next + 1) xs))) (map-append seen (take last xs) (get_or xs last d ∷ []))
    ∙ append_assoc (map seen (take last xs)) (seen (get_or xs last d) ∷ []) (joined_onto kind (seen (get_or xs next d)) (map seen (drop (next + 1) xs)))
    ∙ sym (ap (λ zs. map seen (take last xs) ++ zs) (joined_onto-two kind (seen (get_or xs last d)) (seen (get_or xs next d)) (map seen (drop (next + 1) xs)) (far d)))
    ∙ sym (ap (λ zs. map seen (take last xs) ++ joined_onto kind (seen (get_or xs last d)) (map seen zs)) (drop_more xs next d within))
    ∙ so_far d

-- the last one with the end of the two
pub grown-is : (xs : List Span) (last next : ℕ) (a b e : Span) (hi : ℕ) → last < length xs → next < length xs → hi ≡ max (get_or xs last a).hi (get_or xs next b).hi → (d : Span) → stretch (get_or xs last e).lo hi (get_or xs last e).tuple ≡ join (seen (get_or xs last d)) (seen (get_or xs next d))
grown-is xs last next a b e hi in_last in_next is d =
    let one = get_or_default xs last e d in_last in
    let high : hi ≡ max (get_or xs last d).hi (get_or xs next d).hi =
    is ∙ ap (λ (z : Span). max z.hi (get_or xs next b).hi) (get_or_default xs last a d in_last) ∙ ap (λ (z : Span). max (get_or xs last d).hi z.hi) (get_or_default xs next b d in_next) in
    λ i. stretch (one i).lo (high i) (one i).tuple

-- what two read elements say of the elements at any default
pub joins-at : (kind : Kind) (xs : List Span) (last next : ℕ) (a b : Span) (t u : Bool) → last < length xs → next < length xs → a ≡ get_or xs last a → b ≡ get_or xs next b → t ≡ joins kind (seen a) (seen b) → t ≡ u → (d : Span) → joins kind (seen (get_or xs last d)) (seen (get_or xs next d)) ≡ u
joins-at kind xs last next a b t u in_last in_next is_a is_b says is d =
    ap (λ z. joins kind (seen z) (seen (get_or xs next d))) (get_or_default xs last d a in_last ∙ sym is_a)
    ∙ ap (λ z. joins kind (seen a) (seen z)) (get_or_default xs next d b in_next ∙ sym is_b)
    ∙ sym says ∙ is

at_end : (kind : Kind) (xs : List Span) (last next : ℕ) (all : List Stretch) (d : Span) → last < length xs → length xs ≤ next → SoFar kind xs last next all → map seen (take (last + 1) xs) ≡ all
at_end kind xs last next all d in_last done so_far =
    map_more seen xs last d in_last
    ∙ sym (ap (λ zs. map seen (take last xs) ++ joined_onto kind (seen (get_or xs last d)) (map seen zs)) (drop_all next xs done))
    ∙ so_far d

pub so_far-end : (kind : Kind) (xs : List Span) (last next : ℕ) (all : List Stretch) → last < length xs → length xs ≤ next → SoFar kind xs last next all → map seen (take (last + 1) xs) ≡ all
so_far-end kind [] last next all in_last done so_far = absurd (omega arith)
so_far-end kind (x ∷ xs) last next all in_last done so_far = at_end kind (x ∷ xs) last next all x in_last done so_far
