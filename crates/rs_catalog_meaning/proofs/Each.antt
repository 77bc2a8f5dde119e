-- What is so of each item of a list, where a test says it of one.
use Rattle.std.proofs.Common.{◌≡◌, ◌<◌, ◌≤◌, ◌+◌, ◌↔◌, ℕ, Bool, true, false, List, [], ◌∷◌, length, map, get_or, refl, subst, arith}
use Rattle.std.specs.Bool.{MatchBool}
use Rattle.std.specs.List.{AllByRecursion, AllWithin, HoldsAt}
use Rattle.std.proofs.lemmas.Bool.{false≢true}
use Rattle.std.proofs.lemmas.List.{get_or_default, length-map}
use Rattle.std.proofs.lemmas.List.Elements.{All-from_recursion, AllWithin-more, recursion_from_All}

pub each_said : {X Y : Type 0} (said : X → Y) (P : Y → Type 0) (xs : List X) → AllByRecursion (λ x. P (said x)) xs → AllByRecursion P (map said xs)
each_said said P [] all = tt
each_said said P (x ∷ xs) all = (all.0, each_said said P xs all.1)

pub said_each : {X Y : Type 0} (said : X → Y) (P : Y → Type 0) (xs : List X) → AllByRecursion P (map said xs) → AllByRecursion (λ x. P (said x)) xs
said_each said P [] all = tt
said_each said P (x ∷ xs) all = (all.0, said_each said P xs all.1)

pub each_of : {X : Type 0} (P Q : X → Type 0) → ((x : X) → P x → Q x) → (xs : List X) → AllByRecursion P xs → AllByRecursion Q xs
each_of P Q gives [] all = tt
each_of P Q gives (x ∷ xs) all = (gives x all.0, each_of P Q gives xs all.1)

-- the answer of `all`
pub answer_each : {X : Type 0} (P : X → Type 0) (xs : List X) (r : Bool)
    → MatchBool r (AllWithin P xs 0 (length xs)) ((k : ℕ) × (k < length xs) × HoldsAt (λ x. P x → ⊥) xs k) → (r ≡ true) ↔ AllByRecursion P xs
answer_each P xs true all = (λ e. recursion_from_All P xs (λ k d inside. all k d (omega arith) inside), λ each. refl)
answer_each P [] false none = (λ e. absurd (false≢true e), λ each. absurd (omega (arith, none.1)))
answer_each P (x ∷ xs) false none =
    (λ e. absurd (false≢true e), λ each. absurd (none.2 x (All-from_recursion P (x ∷ xs) each none.0 x none.1)))

-- and of what the items say
pub answer_said : {X Y : Type 0} (said : X → Y) (P : Y → Type 0) (xs : List X) (r : Bool)
    → MatchBool r (AllWithin (λ x. P (said x)) xs 0 (length xs)) ((k : ℕ) × (k < length xs) × HoldsAt (λ x. P (said x) → ⊥) xs k)
    → (r ≡ true) ↔ AllByRecursion P (map said xs)
answer_said said P xs r answer =
    let one = answer_each (λ x. P (said x)) xs r answer in (λ e. each_said said P xs (one.0 e), λ each. one.1 (said_each said P xs each))

-- as many are said
pub few_said : {X Y : Type 0} (said : X → Y) (xs : List X) (most : ℕ) → length xs ≤ most → length (map said xs) ≤ most
few_said said xs most few = omega (arith, length-map xs said)

pub said_few : {X Y : Type 0} (said : X → Y) (xs : List X) (most : ℕ) → length (map said xs) ≤ most → length xs ≤ most
said_few said xs most few = omega (arith, length-map xs said)

-- of all items that were read
pub all_read : {X : Type 0} (P : X → Type 0) (xs : List X) (n : ℕ) → length xs ≤ n → AllWithin P xs 0 n → AllByRecursion P xs
all_read P xs n whole all = recursion_from_All P xs (λ k d inside. all k d (omega arith) (omega arith))

-- where a loop over the items ends, and where it finds one that is not so
pub all_said : {X Y : Type 0} (said : X → Y) (P : Y → Type 0) (xs : List X) (n : ℕ) → length xs ≤ n → AllWithin (λ x. P (said x)) xs 0 n
    → (true ≡ true) ↔ AllByRecursion P (map said xs)
all_said said P xs n whole all = (λ e. each_said said P xs (all_read (λ x. P (said x)) xs n whole all), λ each. refl)

pub not_said : {X Y : Type 0} (said : X → Y) (P : Y → Type 0) (xs : List X) (i : ℕ) (d : X) → i < length xs → (P (said (get_or xs i d)) → ⊥)
    → (false ≡ true) ↔ AllByRecursion P (map said xs)
not_said said P xs i d inside not_so =
    (λ e. absurd (false≢true e), λ each. absurd (not_so (All-from_recursion (λ y. P (said y)) xs (said_each said P xs each) i d inside)))

-- one item more
pub more_at : {X : Type 0} (P : X → Type 0) (xs : List X) (i : ℕ) (d : X) → i < length xs → AllWithin P xs 0 i → P (get_or xs i d) → AllWithin P xs 0 (i + 1)
more_at P xs i d inside all here = AllWithin-more P xs 0 i all (λ e. subst P (get_or_default xs i d e inside) here)
