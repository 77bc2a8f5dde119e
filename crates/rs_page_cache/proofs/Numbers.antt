-- The numbers of the pages whose committed version is held, as they are listed and put in order.
use Rattle.std.proofs.Common.{◌≡◌, ◌∙◌, ◌<◌, ◌+◌, ℕ, Bool, true, nat_eq, cond, Option, Some, None, is_some, IsSome, List, ◌∷◌, length, get_or, take, drop, filter, Contains, IsPermutation, IsSorted, nat_cmp, refl, sym, ap, subst, arith, take-append-drop}
use Rattle.std.specs.Map.{keys_of}
use Rattle.std.specs.Cmp.{nat_eq_equiv}
use Rattle.std.proofs.lemmas.List.{drop_more, get_or-map, length-map}
use Rattle.std.proofs.lemmas.List.Elements.{All-contains, All-contains_itself, All-filter, Contains-append_right, filter-append, filter_passes}
use Rattle.std.proofs.lemmas.List.Sorted.{Contains-permutation, IsNonDecreasingBy-from_sort, IsPermutation-sym}
use Rattle.std.proofs.lemmas.Map.Keys.{IsDistinct-IsPermutation, IsStrictlyIncreasing-from_distinct}
use Rattle.std.proofs.lemmas.Map.Made.{IsDistinct-keys_filter}
use Rattle.rs_pages.specs.Held.{HeldPage, held_change, page_or}
use Rattle.rs_page_cache.specs.Changes.{AreWhole, Changes, HeldSlot, IsWhole, ListsHeld, NumbersCommitted, committed_numbers, held_at}

abbrev is_committed : HeldSlot → Bool
is_committed slot = is_some slot.1.committed

contains_filter : {X : Type 0} (p : X → Bool) (xs : List X) (x : X) → Contains xs x → p x ≡ true → Contains (filter p xs) x
contains_filter p xs x (k, inside, is) passes =
    let rest = drop (k + 1) xs in
    let head : Contains (filter p (x ∷ rest)) x = subst (λ t. Contains (cond t (x ∷ filter p rest) (filter p rest)) x) (sym passes) (0, omega arith, refl) in
    let from : drop k xs ≡ x ∷ rest = drop_more xs k x inside ∙ ap (λ y. y ∷ rest) is in
    subst (λ l. Contains (filter p l) x) (take-append-drop k xs)
    (subst (λ l. Contains l x) (sym (filter-append p (take k xs) (drop k xs)))
    (Contains-append_right (filter p (take k xs)) (filter p (drop k xs)) x (subst (λ l. Contains (filter p l) x) (sym from) head)))

contains_key : (slots : Changes) (slot : HeldSlot) → Contains slots slot → Contains (keys_of slots) slot.0
contains_key slots slot (k, inside, is) =
    let count = length-map slots (λ (e : HeldSlot). e.0) in
    (k, omega (arith, inside, count), get_or-map (λ (e : HeldSlot). e.0) slots k slot slot.0 inside ∙ ap (λ (e : HeldSlot). e.0) is)

-- a listed number is that of a slot whose committed version is held
abbrev CommittedIn : Changes → ℕ → Type 0
CommittedIn slots n = (held : HeldPage) × Contains slots (n, held) × (is_some held.committed ≡ true)

key_of_committed : (slots : Changes) (n : ℕ) → Contains (committed_numbers slots) n → CommittedIn slots n
key_of_committed slots n (k, inside, is) =
    let kept = filter is_committed slots in
    let count = length-map kept (λ (e : HeldSlot). e.0) in
    let within : k < length kept = omega (arith, inside, count) in
    let none : HeldSlot = (n, record { committed = None; copy = None }) in
    let slot : HeldSlot = get_or kept k none in
    let number : slot.0 ≡ n = sym (get_or-map (λ (e : HeldSlot). e.0) kept k none n within) ∙ is in
    let there : Contains slots slot = All-filter is_committed (Contains slots) slots (All-contains_itself slots) k none within in
    let passes : is_committed slot ≡ true = filter_passes is_committed slots k none within in
    (slot.1, (subst (λ i. Contains slots (i, slot.1)) number there), passes)

held_some : (held : HeldPage) → IsSome held.committed → IsSome (held_change held)
held_some held some = or_some held.copy held.committed some
  where
    or_some : (copy committed : Option (List ℕ)) → IsSome committed → IsSome (page_or copy committed)
    or_some None committed some = some
    or_some (Some page) committed some = refl

pub numbers_committed : (slots : Changes) (listed numbers : List ℕ) → ListsHeld slots → AreWhole slots → listed ≡ committed_numbers slots
    → IsPermutation listed numbers → IsSorted nat_cmp numbers → NumbersCommitted slots numbers
numbers_committed slots listed numbers lists whole is moved sorted =
    let same : IsPermutation (committed_numbers slots) numbers = subst (λ l. IsPermutation l numbers) is moved in
    let slot_of = λ (n : ℕ) (some : IsSome (held_at slots n).committed). lists.all n (held_some (held_at slots n) some) in
    record {
      ascending = IsStrictlyIncreasing-from_distinct numbers (IsNonDecreasingBy-from_sort (λ x. x) numbers sorted)
          (IsDistinct-IsPermutation nat_eq nat_eq_equiv.symm (committed_numbers slots) numbers same (IsDistinct-keys_filter nat_eq is_committed slots lists.once));
      each = λ n there.
          let was = key_of_committed slots n (Contains-permutation numbers (committed_numbers slots) n (IsPermutation-sym (committed_numbers slots) numbers same) there) in
          subst (λ (h : HeldPage). IsSome h.committed) (lists.each n was.0 was.1) was.2;
      all = λ n some. Contains-permutation (committed_numbers slots) numbers n same
          (contains_key (filter is_committed slots) (n, held_at slots n) (contains_filter is_committed slots (n, held_at slots n) (slot_of n some) some));
      whole = λ n page there. All-contains IsWhole slots (n, held_at slots n) whole (slot_of n (subst (IsSome {T = List ℕ}) (sym there) refl)) page there;
    }
