-- Names each of which is before the next.
use Rattle.std.proofs.Common.{◌≡◌, ◌⊎◌, ℕ, true, List, [], ◌∷◌, ◌++◌, map, refl, sym, ap, ◌∙◌, subst, inl, inr}
use Rattle.std.proofs.lemmas.Bool.{false≢true}
use Rattle.std.proofs.lemmas.Cmp.{tied_itself}
use Rattle.std.specs.List.{AllByRecursion}
use Rattle.std.specs.Ordering.{is_lt, ordering_reverse}
use Rattle.std.specs.Prelude.{◌≢◌}
use Rattle.std.specs.declared.cmp.Ordering.{Ordering}
use Rattle.std.specs.declared.cmp.Ordering.TheVariants.{Less, Equal, Greater}
use Rattle.rs_facts.specs.Fact.{AreDistinct, name_cmp}
use Rattle.rs_records.specs.Order.{is_below}
use Rattle.rs_facts.proofs.NameOrder.{name_cmp-antisymmetric, name_cmp-total}
use Rattle.rs_cell_versions.proofs.Joins.{all_push}
use Rattle.rs_versioned.specs.Referents.{AreInNameOrder}
use Rattle.rs_versioned.proofs.MeantLists.{all_weaker}

-- they are distinct, and the last is the one that none of them is after; where there are none, it has no bytes
pub record RisesTo (names : List (List ℕ)) (last : List ℕ) : Type 0 where
  pub distinct : AreDistinct names
  pub upto : AllByRecursion (λ name. (name ≡ last) ⊎ (name_cmp name last ≡ Less)) names
  pub ends : ((names ≡ []) × (last ≡ [])) ⊎ ((front : List (List ℕ)) × (names ≡ front ++ last ∷ []))

pub rises_none : RisesTo [] []
rises_none = record { distinct = tt; upto = tt; ends = inl (refl, refl) }

distinct_push : (names : List (List ℕ)) (name : List ℕ) → AreDistinct names → AllByRecursion (λ other. other ≢ name) names → AreDistinct (names ++ name ∷ [])
distinct_push [] name all none = (tt, tt)
distinct_push (n ∷ ns) name all none = (all_push (λ other. n ≢ other) ns name all.0 none.0, distinct_push ns name all.1 none.1)

not_itself : (name other : List ℕ) → name_cmp name other ≡ Less → name ≢ other
not_itself name other before same =
    let tied : name_cmp name other ≡ Equal = ap (name_cmp name) (sym same) ∙ tied_itself name_cmp-total name in
    let wrong : Less ≡ Equal = sym before ∙ tied in absurd (cc)

pub rises_more : (names : List (List ℕ)) (last name : List ℕ) → RisesTo names last → name_cmp last name ≡ Less → RisesTo (names ++ name ∷ []) name
rises_more names last name rises before =
    let below : AllByRecursion (λ other. name_cmp other name ≡ Less) names =
    all_weaker (λ other. (other ≡ last) ⊎ (name_cmp other last ≡ Less)) (λ other. name_cmp other name ≡ Less) under names rises.upto in
    record {
      distinct = distinct_push names name rises.distinct (all_weaker (λ other. name_cmp other name ≡ Less) (λ other. other ≢ name) (λ other. not_itself other name) names below);
      upto = all_push (λ other. (other ≡ name) ⊎ (name_cmp other name ≡ Less)) names name (all_weaker (λ other. name_cmp other name ≡ Less) (λ other. (other ≡ name) ⊎ (name_cmp other name ≡ Less)) (λ other less. inr less) names below) (inl refl);
      ends = inr (names, refl);
    }
  where
    under : (other : List ℕ) → (other ≡ last) ⊎ (name_cmp other last ≡ Less) → name_cmp other name ≡ Less
    under other (inl same) = ap (λ n. name_cmp n name) same ∙ before
    under other (inr less) = name_cmp-total.trans other last name less before

-- none is before one that is listed before it
abbrev InOrder : List (List ℕ) → Type 0
InOrder [] = Unit {0}
InOrder (name ∷ names) = AllByRecursion (λ later. name_cmp later name ≡ Less → ⊥) names × InOrder names

module _ {X : Type 0} (f : X → List ℕ) (g : X → ℕ) where
  later_names : (name : List ℕ) (xs : List X) → AllByRecursion (λ (later : List ℕ × ℕ). name_cmp later.0 name ≡ Less → ⊥) (map (λ x. (f x, g x)) xs)
      → AllByRecursion (λ later. name_cmp later name ≡ Less → ⊥) (map f xs)
  later_names name [] all = tt
  later_names name (x ∷ xs) all = (all.0, later_names name xs all.1)

  names_in_order : (xs : List X) → AreInNameOrder (map (λ x. (f x, g x)) xs) → InOrder (map f xs)
  names_in_order [] all = tt
  names_in_order (x ∷ xs) all = (later_names (f x) xs all.0, names_in_order xs all.1)

middle : (P : List ℕ → Type 0) (front : List (List ℕ)) (name : List ℕ) (rest : List (List ℕ)) → AllByRecursion P (front ++ name ∷ rest) → P name
middle P [] name rest all = all.0
middle P (n ∷ front) name rest all = middle P front name rest all.1

last_other : (front : List (List ℕ)) (last name : List ℕ) (rest : List (List ℕ)) → AreDistinct ((front ++ last ∷ []) ++ name ∷ rest) → last ≢ name
last_other [] last name rest all = all.0.0
last_other (n ∷ front) last name rest all = last_other front last name rest all.1

last_no_later : (front : List (List ℕ)) (last name : List ℕ) (rest : List (List ℕ)) → InOrder ((front ++ last ∷ []) ++ name ∷ rest) → name_cmp name last ≡ Less → ⊥
last_no_later [] last name rest all = all.0.0
last_no_later (n ∷ front) last name rest all = last_no_later front last name rest all.1

some_name : (name : List ℕ) → name ≢ [] → name_cmp [] name ≡ Less
unfolding name_cmp
some_name [] some = absurd (some refl)
some_name (byte ∷ bytes) some = refl

pub name_below : (one other : List ℕ) → is_below one other ≡ is_lt (name_cmp one other)
unfolding is_below name_cmp
name_below one other = refl

pub before_less : (one other : List ℕ) → is_below one other ≡ true → name_cmp one other ≡ Less
before_less one other below = by_order (name_cmp one other) refl (sym (name_below one other) ∙ below) where
  by_order : (o : Ordering) → name_cmp one other ≡ o → is_lt o ≡ true → name_cmp one other ≡ Less
  by_order Less is less = is
  by_order Equal is less = absurd (false≢true less)
  by_order Greater is less = absurd (false≢true less)

-- where names are in order and distinct, the next is after the last
pub rises : {X : Type 0} (f : X → List ℕ) (g : X → ℕ) (xs : List X) (names rest : List (List ℕ)) (last name : List ℕ) → map f xs ≡ names ++ name ∷ rest → RisesTo names last
    → AreInNameOrder (map (λ x. (f x, g x)) xs) → AllByRecursion (λ n. n ≢ []) (map f xs) → AreDistinct (map f xs) → is_lt (name_cmp last name) ≡ true
rises f g xs names rest last name parted so ordered some distinct = by_end so.ends where
  by_order : (o : Ordering) → name_cmp last name ≡ o → last ≢ name → (name_cmp name last ≡ Less → ⊥) → is_lt o ≡ true
  by_order Less is other none = refl
  by_order Equal is other none = absurd (other (name_cmp-antisymmetric last name is))
  by_order Greater is other none = absurd (none (name_cmp-total.antisymm name last ∙ ap ordering_reverse is))

  by_end : ((names ≡ []) × (last ≡ [])) ⊎ ((front : List (List ℕ)) × (names ≡ front ++ last ∷ [])) → is_lt (name_cmp last name) ≡ true
  by_end (inl first) =
      let there : name ≢ [] = middle (λ n. n ≢ []) names name rest (subst (AllByRecursion (λ n. n ≢ [])) parted some) in
      ap (λ n. is_lt (name_cmp n name)) first.1 ∙ ap is_lt (some_name name there)
  by_end (inr more) =
      let whole : map f xs ≡ (more.0 ++ last ∷ []) ++ name ∷ rest = parted ∙ ap (λ ns. ns ++ name ∷ rest) more.1 in
      by_order (name_cmp last name) refl
      (last_other more.0 last name rest (subst AreDistinct whole distinct))
      (last_no_later more.0 last name rest (subst InOrder whole (names_in_order f g xs ordered)))
