-- Loops that change the spans of a list in place, one after another.
use Rattle.std.proofs.Common.{◌≡◌, ℕ, ◌+◌, ◌<◌, ◌≤◌, List, [], ◌∷◌, ◌++◌, map, length, take, drop, get_or, set, refl, sym, ap, ◌∙◌, arith, append_assoc, get_or-set_same, drop-set-lt}
use Rattle.std.proofs.lemmas.List.{take-set, drop_more, take_more, map-append, drop_all, take-append-le, length-set, take_all}
use Rattle.rs_facts.specs.declared.fact.Span.{Span}
use Rattle.rs_facts.specs.Runs.{Stretch}
use Rattle.rs_facts.specs.Spans.{seen}

-- the spans that are changed, and what the rest will be, are all of them changed
abbrev pub Edits : (Stretch → Stretch) → List Span → ℕ → List Stretch → Type 0
Edits change spans i all = map seen (take i spans) ++ map change (map seen (drop i spans)) ≡ all

append_nil : {X : Type 0} (xs : List X) → xs ++ [] ≡ xs
append_nil [] = refl
append_nil (x ∷ xs) = ap (λ r. x ∷ r) (append_nil xs)

pub edits-more : (change : Stretch → Stretch) (xs : List Span) (i : ℕ) (y d : Span) (all : List Stretch) → i < length xs → seen y ≡ change (seen (get_or xs i d)) → Edits change xs i all → Edits change (set xs i y) (i + 1) all
edits-more change xs i y d all below is so_far =
    let long : i < length (set xs i y) = grind (arith, length-set) in
    let front : take (i + 1) (set xs i y) ≡ take i xs ++ y ∷ [] =
    take_more (set xs i y) i d long
    ∙ ap (λ zs. zs ++ get_or (set xs i y) i d ∷ []) (take-set xs i y)
    ∙ ap (λ z. take i xs ++ z ∷ []) (get_or-set_same xs i y d below) in
    let rest : drop (i + 1) (set xs i y) ≡ drop (i + 1) xs = drop-set-lt (i + 1) xs i y (omega arith) in
    ap (λ zs. map seen zs ++ map change (map seen (drop (i + 1) (set xs i y)))) front
    ∙ ap (λ zs. map seen (take i xs ++ y ∷ []) ++ map change (map seen zs)) rest
    ∙ ap (λ zs. zs ++ map change (map seen (drop (i + 1) xs))) (map-append seen (take i xs) (y ∷ []))
    ∙ append_assoc (map seen (take i xs)) (seen y ∷ []) (map change (map seen (drop (i + 1) xs)))
    ∙ ap (λ z. map seen (take i xs) ++ z ∷ map change (map seen (drop (i + 1) xs))) is
    ∙ sym (ap (λ zs. map seen (take i xs) ++ map change (map seen zs)) (drop_more xs i d below))
    ∙ so_far

-- all of them are changed
pub edits-end : (change : Stretch → Stretch) (xs : List Span) (i n : ℕ) (ys : List Span) (all : List Stretch) → length xs ≤ i → length xs ≡ n → Edits change xs i all → map seen (take n (xs ++ drop (length xs) ys)) ≡ all
edits-end change xs i n ys all done long so_far =
    ap (λ m. map seen (take m (xs ++ drop (length xs) ys))) (sym long)
    ∙ ap (map seen) (take-append-le (length xs) xs (drop (length xs) ys) (omega arith) ∙ take_all (length xs) xs (omega arith) ∙ sym (take_all i xs done))
    ∙ sym (append_nil (map seen (take i xs)))
    ∙ sym (ap (λ zs. map seen (take i xs) ++ map change (map seen zs)) (drop_all i xs done))
    ∙ so_far
