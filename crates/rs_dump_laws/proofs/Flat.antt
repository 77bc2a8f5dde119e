-- Lists that have all that is so: mapped, and put together of others.
use Rattle.std.proofs.Common.{◌≡◌, ◌≢◌, inl, inr, List, [], ◌∷◌, ◌++◌, map, refl, sym, subst}
use Rattle.std.specs.Prelude.{Contains, flat_map}
use Rattle.std.specs.List.{AllByRecursion}
use Rattle.std.proofs.lemmas.List.Elements.{Contains-append_left, Contains-append_right}
use Rattle.rs_dump_laws.specs.Parts.{AreAll, AreOnce}
use Rattle.rs_dump_laws.proofs.Lists.{all_append, all_both, all_map, all_weaker, at_head, first_or_later, in_tail, none_in_nothing, of_each}

pub all_same : {X : Type 0} (P Q : X → Type 0) (xs : List X) → ((x : X) → P x → Q x) → ((x : X) → Q x → P x) → AreAll P xs → AreAll Q xs
all_same P Q xs there back all = record { once = all.once; each = all_weaker P Q there xs all.each; complete = λ x is. all.complete x (back x is) }

pub once_append : {X : Type 0} (xs ys : List X) → AreOnce xs → AreOnce ys → ((x : X) → Contains xs x → AllByRecursion (λ y. x ≢ y) ys) → AreOnce (xs ++ ys)
once_append [] ys one other apart = other
once_append (x ∷ xs) ys one other apart =
    (all_append (λ y. x ≢ y) xs ys one.0 (apart x (at_head x xs)), once_append xs ys one.1 other (λ z among. apart z (in_tail x z xs among)))

-- ---- mapped

in_map : {X Y : Type 0} (f : X → Y) (xs : List X) (x : X) → Contains xs x → Contains (map f xs) (f x)
in_map f [] x among = none_in_nothing _ x among
in_map f (y ∷ xs) x among = elim (first_or_later y x xs among) [
  | inl same ↦ subst (λ z. Contains (map f (y ∷ xs)) (f z)) same (at_head (f y) (map f xs))
  | inr later ↦ in_tail (f y) (f x) (map f xs) (in_map f xs x later)
]

module _ {X Y : Type 0} (f : X → Y) (P : X → Type 0) (apart : (x y : X) → P x → P y → f x ≡ f y → x ≡ y) where
  -- one of them is mapped to it
  abbrev pub IsMapped : Y → Type 0
  IsMapped y = (x : X) × P x × (f x ≡ y)

  once_map : (xs : List X) → AllByRecursion P xs → AreOnce xs → AreOnce (map f xs)
  once_map [] each once = tt
  once_map (x ∷ xs) each once = (
    all_map (λ y. f x ≢ y) (λ y. P y × (x ≢ y)) f (λ y is same. is.1 (apart x y each.0 is.0 same)) xs (all_both P (λ y. x ≢ y) (λ y. P y × (x ≢ y)) (λ y is other. (is, other)) xs each.1 once.0),
    once_map xs each.1 once.1,
  )

  pub all_mapped : (xs : List X) → AreAll P xs → AreAll IsMapped (map f xs)
  all_mapped xs all = record {
    once = once_map xs all.each all.once;
    each = all_map IsMapped P f (λ x is. (x, is, refl)) xs all.each;
    complete = λ y is. subst (Contains (map f xs)) is.2 (in_map f xs is.0 (all.complete is.0 is.1));
  }

-- ---- put together

module _ {A C : Type 0} (lists : A → List C) (IsA : A → Type 0) (IsC : A → C → Type 0) (alls : (a : A) → IsA a → AreAll (IsC a) (lists a))
    (apart : (a b : A) (c : C) → IsA a → IsA b → IsC a c → IsC b c → a ≡ b) where
  -- it is in the list of one of them
  abbrev pub IsOfOne : C → Type 0
  IsOfOne c = (a : A) × IsA a × IsC a c

  each_flat : (list : List A) → AllByRecursion IsA list → AllByRecursion IsOfOne (flat_map lists list)
  each_flat [] each = tt
  each_flat (a ∷ list) each =
      all_append IsOfOne (lists a) (flat_map lists list) (all_weaker (IsC a) IsOfOne (λ c is. (a, each.0, is)) (lists a) (alls a each.0).each) (each_flat list each.1)

  -- an element of the list of one is of no other
  differ : (a : A) → IsA a → (list : List A) → AllByRecursion IsA list → AllByRecursion (λ b. a ≢ b) list → (c : C) → IsC a c → AllByRecursion (λ d. c ≢ d) (flat_map lists list)
  differ a is [] each others c of = tt
  differ a is (b ∷ list) each others c of =
      all_append (λ d. c ≢ d) (lists b) (flat_map lists list)
      (all_weaker (IsC b) (λ d. c ≢ d) (λ d of_b same. others.0 (apart a b d is each.0 (subst (IsC a) same of) of_b)) (lists b) (alls b each.0).each)
      (differ a is list each.1 others.1 c of)

  once_flat : (list : List A) → AllByRecursion IsA list → AreOnce list → AreOnce (flat_map lists list)
  once_flat [] each once = tt
  once_flat (a ∷ list) each once =
      once_append (lists a) (flat_map lists list) (alls a each.0).once (once_flat list each.1 once.1)
      (λ c among. differ a each.0 list each.1 once.0 c (of_each (IsC a) (lists a) c (alls a each.0).each among))

  in_flat : (list : List A) (a : A) (c : C) → Contains list a → Contains (lists a) c → Contains (flat_map lists list) c
  in_flat [] a c among of = none_in_nothing _ a among
  in_flat (b ∷ list) a c among of = elim (first_or_later b a list among) [
    | inl same ↦ Contains-append_left (lists b) (flat_map lists list) c (subst (λ x. Contains (lists x) c) (sym same) of)
    | inr later ↦ Contains-append_right (lists b) (flat_map lists list) c (in_flat list a c later of)
  ]

  pub all_flat : (list : List A) → AreAll IsA list → AreAll IsOfOne (flat_map lists list)
  all_flat list all = record {
    once = once_flat list all.each all.once;
    each = each_flat list all.each;
    complete = λ c is. in_flat list is.0 c (all.complete is.0 is.1) ((alls is.0 is.1).complete c is.2);
  }
