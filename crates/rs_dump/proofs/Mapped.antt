-- Lists that are mapped, and put together of other lists.
use Rattle.std.proofs.Common.{◌≡◌, ◌∙◌, inl, inr, List, [], ◌∷◌, ◌++◌, ap, append_assoc, map, refl, subst}
use Rattle.std.specs.Prelude.{Contains, flat_map}
use Rattle.std.specs.List.{AllByRecursion}
use Rattle.std.proofs.lemmas.List.{map-append}
use Rattle.rs_dump.proofs.Elements.{first_or_later, none_in_nothing}
use Rattle.rs_dump.proofs.Viewed.{at_head, in_tail}

-- ---- mapped

pub map_twice : {X Y Z : Type 0} (f : X → Y) (g : Y → Z) (xs : List X) → map g (map f xs) ≡ map (λ x. g (f x)) xs
map_twice f g [] = refl
map_twice f g (x ∷ xs) = ap (λ more. g (f x) ∷ more) (map_twice f g xs)

-- by functions that are alike on each of them
pub map_alike : {X Y : Type 0} (f g : X → Y) (xs : List X) → AllByRecursion (λ x. f x ≡ g x) xs → map f xs ≡ map g xs
map_alike f g [] alike = refl
map_alike f g (x ∷ xs) alike = λ i. alike.0 i ∷ map_alike f g xs alike.1 i

pub map_same : {X Y : Type 0} (f g : X → Y) (xs : List X) → ((x : X) → f x ≡ g x) → map f xs ≡ map g xs
map_same f g [] same = refl
map_same f g (x ∷ xs) same = λ i. same x i ∷ map_same f g xs same i

pub in_map : {X Y : Type 0} (f : X → Y) (xs : List X) (x : X) → Contains xs x → Contains (map f xs) (f x)
in_map f [] x among = none_in_nothing (Contains [] (f x)) x among
in_map f (y ∷ xs) x among = elim (first_or_later y x xs among) [
  | inl same ↦ subst (λ z. Contains (map f (y ∷ xs)) (f z)) same (at_head (f y) (map f xs))
  | inr later ↦ in_tail (f y) (f x) (map f xs) (in_map f xs x later)
]

pub all_map : {X Y : Type 0} (P : Y → Type 0) (Q : X → Type 0) (f : X → Y) → ((x : X) → Q x → P (f x)) → (xs : List X) → AllByRecursion Q xs → AllByRecursion P (map f xs)
all_map P Q f gives [] all = tt
all_map P Q f gives (x ∷ xs) all = (gives x all.0, all_map P Q f gives xs all.1)

-- what is in a mapped list is of one of the list
pub record IsMappedOf {X Y : Type 0} (f : X → Y) (xs : List X) (y : Y) : Type 0 where
  pub one : X
  pub among : Contains xs one
  pub is : f one ≡ y

pub from_map : {X Y : Type 0} (f : X → Y) (xs : List X) (y : Y) → Contains (map f xs) y → IsMappedOf f xs y
from_map f [] y among = none_in_nothing (IsMappedOf f [] y) y among
from_map f (x ∷ xs) y among = elim (first_or_later (f x) y (map f xs) among) [
  | inl same ↦ record { one = x; among = at_head x xs; is = same }
  | inr later ↦ let rest = from_map f xs y later in record { one = rest.one; among = in_tail x rest.one xs rest.among; is = rest.is }
]

-- ---- put together

pub flat_mapped : {X Y Z : Type 0} (f : X → Y) (lists : Y → List Z) (xs : List X) → flat_map lists (map f xs) ≡ flat_map (λ x. lists (f x)) xs
flat_mapped f lists [] = refl
flat_mapped f lists (x ∷ xs) = ap (λ more. lists (f x) ++ more) (flat_mapped f lists xs)

pub map_flat : {X Y Z : Type 0} (lists : X → List Y) (g : Y → Z) (xs : List X) → map g (flat_map lists xs) ≡ flat_map (λ x. map g (lists x)) xs
map_flat lists g [] = refl
map_flat lists g (x ∷ xs) = map-append g (lists x) (flat_map lists xs) ∙ ap (λ more. map g (lists x) ++ more) (map_flat lists g xs)

-- of lists that are alike
pub flat_alike : {X Y : Type 0} (one other : X → List Y) (xs : List X) → AllByRecursion (λ x. one x ≡ other x) xs → flat_map one xs ≡ flat_map other xs
flat_alike one other [] alike = refl
flat_alike one other (x ∷ xs) alike = λ i. alike.0 i ++ flat_alike one other xs alike.1 i

-- three lists by themselves, and then more
pub regrouped : {X : Type 0} (a b c rest : List X) → (a ++ (b ++ c)) ++ rest ≡ a ++ (b ++ (c ++ rest))
regrouped a b c rest = append_assoc a (b ++ c) rest ∙ ap (λ more. a ++ more) (append_assoc b c rest)
