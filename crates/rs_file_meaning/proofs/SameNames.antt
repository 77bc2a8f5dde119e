-- The same entries in another order have the same names, and the same is found under each.
use Rattle.std.proofs.Common.{◌≡◌, true, false, cond, Some, List, ◌∷◌, map, refl, sym, ap, ◌∙◌, arith}
use Rattle.std.specs.Prelude.{◌≢◌}
use Rattle.std.specs.List.{AllByRecursion}
use Rattle.std.specs.List.Sorted.{IsPermutation}
use Rattle.std.specs.Ordering.{eq_by_cmp}
use Rattle.std.specs.FinMap as names
use Rattle.std.specs.FinMap.{find, get-from_entries, same_map}
use Rattle.std.proofs.lemmas.List.Sorted.{IsPermutation-cons, IsPermutation-map, IsPermutation-refl, IsPermutation-swap, IsPermutation-trans}
use Rattle.rs_catalog.proofs.NameOrder.{name_cmp-antisymmetric, name_cmp-total}
use Rattle.rs_facts.specs.Fact.{Name, name_cmp}
use Rattle.rs_machine.specs.Lawful.{AreDistinct}
use Rattle.rs_versioned.proofs.Shuffles.{shuffled}
use Rattle.rs_file_meaning.proofs.Lists.{each_moved}
use Rattle.rs_file_meaning.proofs.Named.{same_name}

module _ {X : Type 0} where
  abbrev pub Distinct : List (Name × X) → Type 0
  Distinct es = AreDistinct (map (λ e. e.0) es)

  -- the same entries, and the same is found under each name
  record Alike (xs ys : List (Name × X)) : Type 0 where
    moved : IsPermutation xs ys
    once : Distinct xs → Distinct ys
    found : Distinct xs → (q : Name) → find name_cmp q xs ≡ find name_cmp q ys

  others_moved : (name : Name) (xs ys : List (Name × X)) → IsPermutation xs ys → AllByRecursion (λ other. name ≢ other) (map (λ e. e.0) xs) → AllByRecursion (λ other. name ≢ other) (map (λ e. e.0) ys)
  others_moved name xs ys p all = each_moved (λ other. name ≢ other) (map (λ e. e.0) xs) (map (λ e. e.0) ys) (IsPermutation-map (λ e. e.0) xs ys p) all

  flipped : (a b : Name × X) (rest : List (Name × X)) (q : Name) → a.0 ≢ b.0 → find name_cmp q (a ∷ b ∷ rest) ≡ find name_cmp q (b ∷ a ∷ rest)
  flipped a b rest q apart =
      elim (eq_by_cmp name_cmp q a.0) as (λ s. eq_by_cmp name_cmp q a.0 ≡ s → cond s (Some a.1) (cond (eq_by_cmp name_cmp q b.0) (Some b.1) (find name_cmp q rest))
      ≡ cond (eq_by_cmp name_cmp q b.0) (Some b.1) (cond s (Some a.1) (find name_cmp q rest))) [
        | true ↦ λ first. elim (eq_by_cmp name_cmp q b.0) as (λ t. eq_by_cmp name_cmp q b.0 ≡ t → Some a.1 ≡ cond t (Some b.1) (Some a.1)) [
          | true ↦ λ second. absurd (apart (sym (same_name q a.0 first) ∙ same_name q b.0 second))
          | false ↦ λ second. refl
        ] refl
        | false ↦ λ first. refl
      ] refl

  alike : (xs ys : List (Name × X)) → IsPermutation xs ys → Alike xs ys
  alike = shuffled Alike
      (λ xs. record { moved = IsPermutation-refl xs; once = λ h. h; found = λ h q. refl })
      (λ xs ys zs a b. record { moved = IsPermutation-trans xs ys zs a.moved b.moved; once = λ h. b.once (a.once h); found = λ h q. a.found h q ∙ b.found (a.once h) q })
      (λ x xs ys a. record {
        moved = IsPermutation-cons x xs ys a.moved;
        once = λ h. (others_moved x.0 xs ys a.moved h.0, a.once h.1);
        found = λ h q. ap (cond (eq_by_cmp name_cmp q x.0) (Some x.1)) (a.found h.1 q);
      })
      (λ x y xs. record {
        moved = IsPermutation-swap (x ∷ y ∷ xs) (y ∷ x ∷ xs) 0 1 (omega arith) (omega arith) (λ i. y ∷ x ∷ xs);
        once = λ h. ((λ same. h.0.0 (sym same), h.1.0), (h.0.1, h.1.1));
        found = λ h q. flipped x y xs q h.0.0;
      })

  pub entries_moved : (xs ys : List (Name × X)) → IsPermutation xs ys → Distinct xs → names.from_entries {R = name_cmp} ys ≡ names.from_entries xs
  entries_moved xs ys p once = same_map name_cmp-total name_cmp-antisymmetric _ _ (λ q.
      get-from_entries name_cmp-total ys q ∙ sym ((alike xs ys p).found once q) ∙ sym (get-from_entries name_cmp-total xs q))

  pub distinct_moved : (xs ys : List (Name × X)) → IsPermutation xs ys → Distinct xs → Distinct ys
  distinct_moved xs ys p = (alike xs ys p).once
