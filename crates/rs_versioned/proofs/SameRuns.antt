-- Spans that are all the runs of places are that in another order too.
use Rattle.std.proofs.Common.{◌≡◌, List, ◌∷◌, sym, subst, arith}
use Rattle.std.proofs.lemmas.List.Sorted.{All-permutation, Contains-permutation, IsPermutation-cons, IsPermutation-refl, IsPermutation-swap, IsPermutation-trans}
use Rattle.std.proofs.lemmas.List.Elements.{All-from_recursion, recursion_from_All}
use Rattle.std.specs.List.{AllByRecursion}
use Rattle.std.specs.List.Sorted.{IsPermutation}
use Rattle.rs_value.specs.declared.column.Kind.{Kind}
use Rattle.rs_facts.specs.Runs.{IsMaximalRun, Stretch}
use Rattle.rs_facts.specs.Spans.{AreAllRunsOf, AreOnce, places_of}
use Rattle.rs_facts.proofs.SpanLaws.{places_of-permutation}
use Rattle.rs_versioned.proofs.Shuffles.{shuffled}

all_shuffled : (P : Stretch → Type 0) (xs ys : List Stretch) → IsPermutation xs ys → AllByRecursion P xs → AllByRecursion P ys
all_shuffled P xs ys p all = recursion_from_All P ys (All-permutation P xs ys p (All-from_recursion P xs all))

-- the same elements, and each once where they were
record Stays (xs ys : List Stretch) : Type 0 where
  moved : IsPermutation xs ys
  once : AreOnce xs → AreOnce ys

stays : (xs ys : List Stretch) → IsPermutation xs ys → Stays xs ys
stays = shuffled Stays
    (λ xs. record { moved = IsPermutation-refl xs; once = λ h. h })
    (λ xs ys zs a b. record { moved = IsPermutation-trans xs ys zs a.moved b.moved; once = λ h. b.once (a.once h) })
    (λ x xs ys a. record { moved = IsPermutation-cons x xs ys a.moved; once = λ h. (all_shuffled (λ other. x ≡ other → ⊥) xs ys a.moved h.0, a.once h.1) })
    (λ x y xs. record { moved = IsPermutation-swap (x ∷ y ∷ xs) (y ∷ x ∷ xs) 0 1 (omega arith) (omega arith) (λ i. y ∷ x ∷ xs); once = λ h. ((λ same. h.0.0 (sym same), h.1.0), (h.0.1, h.1.1)) })

pub once_shuffled : (xs ys : List Stretch) → IsPermutation xs ys → AreOnce xs → AreOnce ys
once_shuffled xs ys p = (stays xs ys p).once

pub runs_shuffled : (kind : Kind) (xs ys : List Stretch) → IsPermutation xs ys → AreAllRunsOf kind (places_of xs) xs → AreAllRunsOf kind (places_of ys) ys
runs_shuffled kind xs ys p runs = subst (λ places. AreAllRunsOf kind places ys) (places_of-permutation xs ys p) (record {
  once = (stays xs ys p).once runs.once;
  maximal = all_shuffled (IsMaximalRun kind (places_of xs)) xs ys p runs.maximal;
  complete = λ run is. Contains-permutation xs ys run p (runs.complete run is);
})
