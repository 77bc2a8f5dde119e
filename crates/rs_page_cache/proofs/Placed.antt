-- The slots that are held and the list of their places: what is found by number, and after one was written, added or taken out.
use Rattle.std.proofs.Common.{◌≡◌, ◌≢◌, ◌<◌, ◌≤◌, inl, inr, ℕ, zero, suc, nat_eq, Option, Some, None, IsSome, IfSome, IfNone, MatchOption, List, [], ◌∷◌, ◌++◌, ◌+◌, ◌-◌, ◌^◌, length, get_or, set, slice_get, slice_index, Contains, refl, sym, ap, ◌∙◌, subst, arith, length-append, length-set, ne_eqb, get_or-set_same, get_or-set_other}
use Rattle.std.specs.Option.{unwrap_or}
use Rattle.std.specs.List.{IsDistinct, swap_remove}
use Rattle.std.specs.Map.{lookup, keys_of}
use Rattle.std.specs.BTreeMap.{is_at}
use Rattle.std.specs.Ordering.{nat_cmp, eq_by_cmp}
use Rattle.std.proofs.lemmas.Bool.{cases_eq}
use Rattle.std.proofs.lemmas.Cmp.{eq_by_cmp_equiv, nat_cmp_total}
use Rattle.std.proofs.lemmas.List.{map-set, set-get_or, get_or_default, get_or-map, get_or_append_left, get_or_push, length-map, map_push, set-set}
use Rattle.std.proofs.lemmas.List.Elements.{All-set, All-push, All-tail, All-contains}
use Rattle.std.proofs.lemmas.List.Sorted.{All-permutation, IsPermutation-swap_remove}
use Rattle.std.proofs.lemmas.Map.Keys.{IsDistinct-from_apart}
use Rattle.std.proofs.lemmas.Map.Steps.{length-le_from_distinct_below}
use Rattle.std.proofs.lemmas.Map.Views.{Contains-from_any, Contains-from_lookup, exact_unsigned_eq, lookup-from_Contains}
use Rattle.std.proofs.lemmas.Option.{slice_get-get_or, get_or_from_slice_get, slice_get_within}
use Rattle.rs_pages.specs.Held.{HeldPage, nothing_held, held_change}
use Rattle.rs_page_cache.specs.Changes.{ArePlaced, Changes, HeldSlot, HoldsEach, HasPlaces, ListsHeld, held_at}
use Rattle.rs_page_cache.proofs.Changed.{apart, held-found, held-none, none_some, same_number}

-- ---- what is found by number

-- the same number isn't at two places
one_place : (numbers places : List ℕ) → ArePlaced numbers places → (i j : ℕ) → i < length numbers → j < length numbers → slice_index numbers i ≡ slice_index numbers j → i ≡ j
one_place numbers places placed i j in_i in_j same =
    let both : suc i ≡ suc j = sym (placed.listed i in_i) ∙ ap (slice_index places) same ∙ placed.listed j in_j in
    omega (arith, both)

apart_places : (numbers places : List ℕ) → ArePlaced numbers places → (i j d : ℕ) → i < j → j < length numbers → get_or numbers i d ≢ get_or numbers j d
apart_places numbers places placed i j d before inside same =
    let in_i : i < length numbers = omega (arith, before, inside) in
    let at : slice_index numbers i ≡ slice_index numbers j = get_or_default numbers i 0 d in_i ∙ same ∙ get_or_default numbers j d 0 inside in
    let is : i ≡ j = one_place numbers places placed i j in_i inside at in
    omega (arith, before, is)

differ : (numbers places : List ℕ) → ArePlaced numbers places → IsDistinct (eq_by_cmp nat_cmp) numbers
differ numbers places placed = IsDistinct-from_apart (eq_by_cmp nat_cmp) numbers (λ i j d before inside.
    apart (get_or numbers i d) (get_or numbers j d) (λ same. apart_places numbers places placed i j d before inside (sym same)))

differ_plainly : (numbers places : List ℕ) → ArePlaced numbers places → IsDistinct nat_eq numbers
differ_plainly numbers places placed = IsDistinct-from_apart nat_eq numbers (λ i j d before inside.
    ne_eqb (get_or numbers i d) (get_or numbers j d) (apart_places numbers places placed i j d before inside))

-- what is held at the place that one more is written for
abbrev slot_by : ℕ → Changes → Option HeldPage
slot_by zero slots = None
slot_by (suc k) slots = Some (get_or slots k (0, nothing_held)).1

-- the number of the slot at a place
number_of : (slots : Changes) (k : ℕ) (d : HeldSlot) → k < length slots → (get_or slots k d).0 ≡ slice_index (keys_of slots) k
number_of slots k d inside = sym (get_or-map (λ (e : HeldSlot). e.0) slots k d 0 inside)

same_length : (slots : Changes) → length (keys_of slots) ≡ length slots
same_length slots = length-map slots (λ (e : HeldSlot). e.0)

pair_of : (e : HeldSlot) (n : ℕ) → e.0 ≡ n → e ≡ (n, e.1)
pair_of e n is = ap (λ (i : ℕ). (i, e.1)) is

-- what is written for a number, where one more than a place is
abbrev pub WrittenPlace : List ℕ → ℕ → Option ℕ → Type 0
WrittenPlace places n place = MatchOption place (slice_index places n ≡ 0) (λ k. slice_index places n ≡ suc k)

module _ (slots : Changes) (places : List ℕ) (placed : ArePlaced (keys_of slots) places) where
  there : (n k : ℕ) → slice_index places n ≡ suc k → Contains slots (n, (get_or slots k (0, nothing_held)).1)
  there n k is =
      let only = placed.only n k is in
      let inside : k < length slots = subst (λ m. k < m) (same_length slots) only.0 in
      let e : HeldSlot = get_or slots k (0, nothing_held) in
      let number : e.0 ≡ n = number_of slots k (0, nothing_held) inside ∙ only.1 in
      (k, inside, get_or_default slots k (n, e.1) (0, nothing_held) inside ∙ pair_of e n number)

  written : (n : ℕ) (held : HeldPage) → Contains slots (n, held) → (k : ℕ) × (slice_index places n ≡ suc k)
  written n held (k, inside, is) =
      let number : slice_index (keys_of slots) k ≡ n = sym (number_of slots k (n, held) inside) ∙ ap (λ (e : HeldSlot). e.0) is in
      (k, subst (λ i. slice_index places i ≡ suc k) number (placed.listed k (subst (λ m. k < m) (sym (same_length slots)) inside)))

  none_found : (n : ℕ) → slice_index places n ≡ 0 → (found : Option HeldPage) → lookup (is_at (nat_cmp n)) slots ≡ found → found ≡ None
  none_found n none None is = refl
  none_found n none (Some held) is =
      let at = written n held (Contains-from_lookup {eq = eq_by_cmp nat_cmp} same_number n held slots is) in
      let wrong : zero ≡ suc at.0 = sym none ∙ at.1 in
      absurd (omega (arith, wrong))

  -- a look-up finds what is held at the written place
  finds : (n p : ℕ) → slice_index places n ≡ p → lookup (is_at (nat_cmp n)) slots ≡ slot_by p slots
  finds n zero is = none_found n is (lookup (is_at (nat_cmp n)) slots) refl
  finds n (suc k) is = lookup-from_Contains (eq_by_cmp_equiv nat_cmp_total) n (get_or slots k (0, nothing_held)).1 slots (differ (keys_of slots) places placed) (there n k is)

  finds_held : (n p : ℕ) → slice_index places n ≡ p → held_at slots n ≡ unwrap_or (slot_by p slots) nothing_held
  finds_held n p is = ap (λ (found : Option HeldPage). unwrap_or found nothing_held) (finds n p is)

  -- the slot at a written place
  slot_there : (n k : ℕ) → slice_index places n ≡ suc k → slice_get slots k ≡ Some (n, held_at slots n)
  slot_there n k is =
      let only = placed.only n k is in
      let inside : k < length slots = subst (λ m. k < m) (same_length slots) only.0 in
      let e : HeldSlot = get_or slots k (0, nothing_held) in
      let number : e.0 ≡ n = number_of slots k (0, nothing_held) inside ∙ only.1 in
      slice_get-get_or slots k (0, nothing_held) inside
      ∙ ap (λ (x : HeldSlot). Some x) (pair_of e n number ∙ ap (λ (h : HeldPage). (n, h)) (sym (finds_held n (suc k) is)))

  -- so much for what was read of a number's place
  pub found_some : (n : ℕ) (place : Option ℕ) → WrittenPlace places n place → IfSome place (λ k. slice_get slots k ≡ Some (n, held_at slots n))
  found_some n (Some k) is = slot_there n k is
  found_some n None is = tt

  pub found_none : (n : ℕ) (place : Option ℕ) → WrittenPlace places n place → IfNone place (lookup (is_at (nat_cmp n)) slots ≡ None)
  found_none n (Some k) is = tt
  found_none n None is = finds n 0 is

-- ---- after a slot was written

-- the number of the slot at a place, and that it is written with it
number_at : (slots : Changes) (k n : ℕ) (was : HeldPage) → slice_get slots k ≡ Some (n, was) → slice_index (keys_of slots) k ≡ n
number_at slots k n was is =
    sym (number_of slots k (n, was) (slice_get_within slots k (n, was) is)) ∙ ap (λ (e : HeldSlot). e.0) (get_or_from_slice_get slots k (n, was) (n, was) is)

written_there : (slots : Changes) (places : List ℕ) → ArePlaced (keys_of slots) places → (k n : ℕ) (was : HeldPage) → slice_get slots k ≡ Some (n, was) → slice_index places n ≡ suc k
written_there slots places placed k n was is =
    let inside = slice_get_within slots k (n, was) is in
    subst (λ i. slice_index places i ≡ suc k) (number_at slots k n was is) (placed.listed k (subst (λ m. k < m) (sym (same_length slots)) inside))

-- the numbers stay where the slot at a place keeps its number
same_numbers : (slots : Changes) (k n : ℕ) (was held : HeldPage) → slice_get slots k ≡ Some (n, was) → keys_of (set slots k (n, held)) ≡ keys_of slots
same_numbers slots k n was held is =
    map-set (λ (e : HeldSlot). e.0) slots k (n, held)
    ∙ ap (set (keys_of slots) k) (sym (number_at slots k n was is))
    ∙ set-get_or (keys_of slots) k 0

module _ (slots : Changes) (places : List ℕ) (placed : ArePlaced (keys_of slots) places)
    (k n : ℕ) (was held : HeldPage) (is : slice_get slots k ≡ Some (n, was)) where
  inside : k < length slots
  inside = slice_get_within slots k (n, was) is

  placed_written : ArePlaced (keys_of (set slots k (n, held))) places
  placed_written = subst (λ (numbers : List ℕ). ArePlaced numbers places) (sym (same_numbers slots k n was held is)) placed

  at_n : slice_index places n ≡ suc k
  at_n = written_there slots places placed k n was is

  held_written : held_at (set slots k (n, held)) n ≡ held
  held_written = finds_held (set slots k (n, held)) places placed_written n (suc k) at_n
      ∙ ap (λ (e : HeldSlot). e.1) (get_or-set_same slots k (n, held) (0, nothing_held) inside)

  by_other : (m p : ℕ) → m ≢ n → slice_index places m ≡ p → slot_by p (set slots k (n, held)) ≡ slot_by p slots
  by_other m zero ne at = refl
  by_other m (suc j) ne at = ap (λ (e : HeldSlot). Some e.1) (get_or-set_other slots k j (n, held) (0, nothing_held) (λ same.
      ne (sym (placed.only m j at).1 ∙ ap (slice_index (keys_of slots)) same ∙ (placed.only n k at_n).1)))

  others_written : (m : ℕ) → m ≢ n → held_at (set slots k (n, held)) m ≡ held_at slots m
  others_written m ne = finds_held (set slots k (n, held)) places placed_written m (slice_index places m) refl
      ∙ ap (λ (found : Option HeldPage). unwrap_or found nothing_held) (by_other m (slice_index places m) ne refl)
      ∙ sym (finds_held slots places placed m (slice_index places m) refl)

-- the slot that was read at a place has what is held of its page
pub held_read : (slots value : Changes) → slots ≡ value → (k n : ℕ) → slice_get value k ≡ Some (n, held_at value n) → (slot : HeldSlot) → slot ≡ get_or slots k slot → held_at value n ≡ slot.1
held_read slots value view_is k n is slot read =
    sym (ap (λ (e : HeldSlot). e.1) (read ∙ ap (λ (all : Changes). get_or all k slot) view_is ∙ get_or_from_slice_get value k (n, held_at value n) slot is))

-- what a slot holds is changed at its place, where `value` is what was held
module _ (slots : Changes) (places : List ℕ) (has : HasPlaces slots places) (value : Changes) (view_is : slots ≡ value)
    (k n : ℕ) (is : slice_get value k ≡ Some (n, held_at value n))
    (old new : HeldSlot) (read : old ≡ get_or slots k old) (change : HeldPage → HeldPage) (changed : new ≡ (old.0, change old.1)) where
  there_was : slice_get slots k ≡ Some (n, held_at slots n)
  there_was = subst (λ (all : Changes). slice_get all k ≡ Some (n, held_at all n)) (sym view_is) is

  new_is : new ≡ (n, change (held_at slots n))
  new_is =
      let was : old ≡ (n, held_at slots n) = read ∙ get_or_from_slice_get slots k (n, held_at slots n) old there_was in
      changed ∙ ap (λ (e : HeldSlot). (e.0, change e.1)) was

  pub some_there : IsSome (held_change (held_at slots n))
  some_there = subst (λ (e : HeldSlot). IsSome (held_change e.1)) (get_or_from_slice_get slots k (n, held_at slots n) (0, nothing_held) there_was)
      (has.some k (0, nothing_held) (slice_get_within slots k (n, held_at slots n) there_was))

  pub places_changed : IsSome (held_change (change (held_at slots n))) → HasPlaces (set slots k new) places
  places_changed some = subst (λ (e : HeldSlot). HasPlaces (set slots k e) places) (sym new_is) (record {
    placed = placed_written slots places has.placed k n (held_at slots n) (change (held_at slots n)) there_was;
    few = has.few;
    some = All-set (λ (e : HeldSlot). IsSome (held_change e.1)) slots k (n, change (held_at slots n)) some has.some;
  })

  pub held_changed : held_at (set slots k new) n ≡ change (held_at value n)
  held_changed = ap (λ (e : HeldSlot). held_at (set slots k e) n) new_is
      ∙ held_written slots places has.placed k n (held_at slots n) (change (held_at slots n)) there_was
      ∙ ap (λ (all : Changes). change (held_at all n)) view_is

  pub others_changed : (m : ℕ) → m ≢ n → held_at (set slots k new) m ≡ held_at value m
  others_changed m ne = ap (λ (e : HeldSlot). held_at (set slots k e) m) new_is
      ∙ others_written slots places has.placed k n (held_at slots n) (change (held_at slots n)) there_was m ne
      ∙ ap (λ (all : Changes). held_at all m) view_is

-- ---- after a slot was added

-- what is written matters, and not how far the list reaches
placed_longer : (numbers places more : List ℕ) → ((n : ℕ) → slice_index more n ≡ slice_index places n) → ArePlaced numbers places → ArePlaced numbers more
placed_longer numbers places more same placed = record {
  listed = λ k inside. same (slice_index numbers k) ∙ placed.listed k inside;
  only = λ n k is. placed.only n k (sym (same n) ∙ is);
}

pub places_longer : (slots : Changes) (places more : List ℕ) → ((n : ℕ) → slice_index more n ≡ slice_index places n) → (length places < 2 ^ 32 → length more < 2 ^ 32)
    → HasPlaces slots places → HasPlaces slots more
places_longer slots places more same few has = record {
  placed = placed_longer (keys_of slots) places more same has.placed;
  few = few has.few;
  some = has.some;
}

-- a list reaches each number for which a place is written
reached : (places : List ℕ) (n k : ℕ) → slice_index places n ≡ suc k → n < length places
reached [] n k is = absurd (omega (arith, is))
reached (p ∷ places) zero k is = omega arith
reached (p ∷ places) (suc n) k is = let more = reached places n k is in omega (arith, more)

-- the numbers are fewer than the list is long
few_placed : (numbers places : List ℕ) → ArePlaced numbers places → length numbers ≤ length places
few_placed numbers places placed = length-le_from_distinct_below numbers (length places) (differ_plainly numbers places placed) (λ q among.
    let at = Contains-from_any exact_unsigned_eq q numbers among in
    let number : slice_index numbers at.0 ≡ q = get_or_default numbers at.0 0 q at.1 ∙ at.2 in
    reached places q at.0 (subst (λ i. slice_index places i ≡ suc at.0) number (placed.listed at.0 at.1)))

-- a number that isn't found has no place
no_place : (slots : Changes) (places : List ℕ) → ArePlaced (keys_of slots) places → (n : ℕ) → lookup (is_at (nat_cmp n)) slots ≡ None → slice_index places n ≡ 0
no_place slots places placed n none = by_place (slice_index places n) refl
  where
    by_place : (p : ℕ) → slice_index places n ≡ p → p ≡ 0
    by_place zero is = refl
    by_place (suc k) is =
        let wrong : Some (get_or slots k (0, nothing_held)).1 ≡ None = sym (finds slots places placed n (suc k) is) ∙ none in
        cc

placed_added : (numbers places : List ℕ) (n : ℕ) → n < length places → slice_index places n ≡ 0 → ArePlaced numbers places
    → ArePlaced (numbers ++ n ∷ []) (set places n (suc (length numbers)))
placed_added numbers places n reaches none placed = record {
  listed = λ k inside. elim (cases_eq k (length numbers)) [
    | inl end ↦
        let at : slice_index (numbers ++ n ∷ []) k ≡ n = get_or_push numbers n 0 k (sym end) in
        ap (slice_index (set places n (suc (length numbers)))) at ∙ get_or-set_same places n (suc (length numbers)) 0 reaches ∙ ap suc (sym end)
    | inr ne ↦
        let before : k < length numbers = let all = length-append numbers (n ∷ []) in omega (arith, inside, ne, all) in
        let at : slice_index (numbers ++ n ∷ []) k ≡ slice_index numbers k = get_or_append_left numbers (n ∷ []) 0 k before in
        let other : slice_index numbers k ≢ n = λ same.
        let wrong : suc k ≡ zero = sym (placed.listed k before) ∙ ap (slice_index places) same ∙ none in
        omega (arith, wrong) in
        ap (slice_index (set places n (suc (length numbers)))) at ∙ get_or-set_other places n (slice_index numbers k) (suc (length numbers)) 0 other ∙ placed.listed k before
  ];
  only = λ m k is. elim (cases_eq m n) [
    | inl same ↦
        let both : suc (length numbers) ≡ suc k = sym (get_or-set_same places n (suc (length numbers)) 0 reaches) ∙ ap (slice_index (set places n (suc (length numbers)))) (sym same) ∙ is in
        let end : length numbers ≡ k = omega (arith, both) in
        ((let all = length-append numbers (n ∷ []) in omega (arith, end, all)), get_or_push numbers n 0 k end ∙ sym same)
    | inr ne ↦
        let only = placed.only m k (sym (get_or-set_other places n m (suc (length numbers)) 0 ne) ∙ is) in
        let before = only.0 in
        ((let all = length-append numbers (n ∷ []) in omega (arith, before, all)), get_or_append_left numbers (n ∷ []) 0 k before ∙ only.1)
  ];
}

numbers_added : (slots : Changes) (slot : HeldSlot) → keys_of (slots ++ slot ∷ []) ≡ keys_of slots ++ slot.0 ∷ []
numbers_added slots slot = map_push (λ (e : HeldSlot). e.0) slots slot

module _ (slots : Changes) (places : List ℕ) (placed : ArePlaced (keys_of slots) places)
    (slot : HeldSlot) (reaches : slot.0 < length places) (none : slice_index places slot.0 ≡ 0) where
  placed_slot_added : ArePlaced (keys_of (slots ++ slot ∷ [])) (set places slot.0 (suc (length slots)))
  placed_slot_added = subst (λ (numbers : List ℕ). ArePlaced numbers (set places slot.0 (suc (length slots)))) (sym (numbers_added slots slot))
      (subst (λ count. ArePlaced (keys_of slots ++ slot.0 ∷ []) (set places slot.0 (suc count))) (same_length slots)
      (placed_added (keys_of slots) places slot.0 reaches none placed))

  held_added : held_at (slots ++ slot ∷ []) slot.0 ≡ slot.1
  held_added = finds_held (slots ++ slot ∷ []) (set places slot.0 (suc (length slots))) placed_slot_added slot.0 (suc (length slots))
      (get_or-set_same places slot.0 (suc (length slots)) 0 reaches)
      ∙ ap (λ (e : HeldSlot). e.1) (get_or_push slots slot (0, nothing_held) (length slots) refl)

  -- so one more than all of them is a number
  few_added : suc (length slots) ≤ length places
  few_added =
      let few = few_placed (keys_of (slots ++ slot ∷ [])) (set places slot.0 (suc (length slots))) placed_slot_added in
      let all = same_length (slots ++ slot ∷ []) in
      let more = length-append slots (slot ∷ []) in
      let same = length-set places slot.0 (suc (length slots)) in
      omega (arith, few, all, more, same)

  by_other_added : (m p : ℕ) → slice_index places m ≡ p → slot_by p (slots ++ slot ∷ []) ≡ slot_by p slots
  by_other_added m zero at = refl
  by_other_added m (suc j) at = ap (λ (e : HeldSlot). Some e.1) (get_or_append_left slots (slot ∷ []) (0, nothing_held) j
      (subst (λ n. j < n) (same_length slots) (placed.only m j at).0))

  places_added : length places < 2 ^ 32 → HoldsEach slots → IsSome (held_change slot.1) → HasPlaces (slots ++ slot ∷ []) (set places slot.0 (suc (length slots)))
  places_added few holds some = record {
    placed = placed_slot_added;
    few = let same = length-set places slot.0 (suc (length slots)) in omega (arith, few, same);
    some = All-push (λ (e : HeldSlot). IsSome (held_change e.1)) slots slot holds some;
  }

  others_added : (m : ℕ) → m ≢ slot.0 → held_at (slots ++ slot ∷ []) m ≡ held_at slots m
  others_added m ne = finds_held (slots ++ slot ∷ []) (set places slot.0 (suc (length slots))) placed_slot_added m (slice_index places m)
      (get_or-set_other places slot.0 m (suc (length slots)) 0 ne)
      ∙ ap (λ (found : Option HeldPage). unwrap_or found nothing_held) (by_other_added m (slice_index places m) refl)
      ∙ sym (finds_held slots places placed m (slice_index places m) refl)

-- the slot of a number that isn't found is added at the end, and its place is written into a list that reaches it
module _ (slots : Changes) (places more : List ℕ) (was : HasPlaces slots places) (same : (n : ℕ) → slice_index more n ≡ slice_index places n)
    (few : length places < 2 ^ 32 → length more < 2 ^ 32) (value : Changes) (view_is : slots ≡ value)
    (slot : HeldSlot) (absent : lookup (is_at (nat_cmp slot.0)) value ≡ None) (number : ℕ) (number_is : number ≡ slot.0) (reach : number < length more) where
  has : HasPlaces slots more
  has = places_longer slots places more same few was

  reaches : slot.0 < length more
  reaches = subst (λ n. n < length more) number_is reach

  no_place_yet : slice_index more slot.0 ≡ 0
  no_place_yet = no_place slots more has.placed slot.0 (subst (λ (all : Changes). lookup (is_at (nat_cmp slot.0)) all ≡ None) (sym view_is) absent)

  pub count_few : (count : ℕ) → count ≡ suc (length slots) → count < 2 ^ 32
  count_few count is =
      let least = few_added slots more has.placed slot reaches no_place_yet in
      let most = has.few in
      omega (arith, least, most, is)

  pub adds_places : IsSome (held_change slot.1) → (now : Changes) → now ≡ slots ++ slot ∷ [] → (count : ℕ) → count ≡ suc (length slots) → HasPlaces now (set more number count)
  adds_places some now is count counted = subst (λ (all : Changes). HasPlaces all (set more number count)) (sym is)
      (subst (λ n. HasPlaces (slots ++ slot ∷ []) (set more n count)) (sym number_is)
      (subst (λ n. HasPlaces (slots ++ slot ∷ []) (set more slot.0 n)) (sym counted)
      (places_added slots more has.placed slot reaches no_place_yet has.few has.some some)))

  pub adds_there : (now : Changes) → now ≡ slots ++ slot ∷ [] → held_at now slot.0 ≡ slot.1
  adds_there now is = ap (λ (all : Changes). held_at all slot.0) is ∙ held_added slots more has.placed slot reaches no_place_yet

  pub adds_others : (now : Changes) → now ≡ slots ++ slot ∷ [] → (m : ℕ) → m ≢ slot.0 → held_at now m ≡ held_at value m
  adds_others now is m ne = ap (λ (all : Changes). held_at all m) is ∙ others_added slots more has.placed slot reaches no_place_yet m ne ∙ ap (λ (all : Changes). held_at all m) view_is

pub count_added : (slots now : Changes) (slot : HeldSlot) (count : ℕ) → count ≡ length now → now ≡ slots ++ slot ∷ [] → count ≡ suc (length slots)
count_added slots now slot count counted is =
    let all = counted ∙ ap length is in
    let more = length-append slots (slot ∷ []) in
    omega (arith, all, more)

-- ---- after a slot was taken out, and the last one took its place

-- the places then, where `last` was the last number
abbrev places_without : List ℕ → ℕ → ℕ → ℕ → List ℕ
places_without places last k n = set (set places last (suc k)) n 0

module _ (numbers places : List ℕ) (placed : ArePlaced numbers places) (k n last : ℕ) (at : slice_index places n ≡ suc k)
    (is_last : slice_index numbers (length numbers - 1) ≡ last) where
  some_number : k < length numbers
  some_number = (placed.only n k at).0

  number_there : slice_index numbers k ≡ n
  number_there = (placed.only n k at).1

  last_written : slice_index places last ≡ suc (length numbers - 1)
  last_written = let some = some_number in subst (λ i. slice_index places i ≡ suc (length numbers - 1)) is_last (placed.listed (length numbers - 1) (omega (arith, some)))

  gone_without : slice_index (places_without places last k n) n ≡ 0
  gone_without =
      let reaches : n < length (set places last (suc k)) = let inside = reached places n k at in let same = length-set places last (suc k) in omega (arith, inside, same) in
      get_or-set_same (set places last (suc k)) n 0 0 reaches

  last_without : last ≢ n → slice_index (places_without places last k n) last ≡ suc k
  last_without ne = get_or-set_other (set places last (suc k)) n last 0 0 ne
      ∙ get_or-set_same places last (suc k) 0 (reached places last (length numbers - 1) last_written)

  other_without : (m : ℕ) → m ≢ n → m ≢ last → slice_index (places_without places last k n) m ≡ slice_index places m
  other_without m ne ne_last = get_or-set_other (set places last (suc k)) n m 0 0 ne ∙ get_or-set_other places last m (suc k) 0 ne_last

  -- where another number is the last, its place is after this one
  later_last : last ≢ n → k + 1 < length numbers
  later_last ne = elim (cases_eq k (length numbers - 1)) [
    | inl end ↦ absurd (ne (sym (sym number_there ∙ ap (slice_index numbers) end ∙ is_last)))
    | inr before ↦ let some = some_number in omega (arith, before, some)
  ]

  other_place : (m j : ℕ) → m ≢ n → m ≢ last → slice_index places m ≡ suc j → (j ≢ k) × (j + 1 < length numbers)
  other_place m j ne ne_last is =
      let only = placed.only m j is in
      let there = only.0 in
      let not_end : j ≢ length numbers - 1 = λ end. ne_last (sym only.1 ∙ ap (slice_index numbers) end ∙ is_last) in
      ((λ same. ne (sym only.1 ∙ ap (slice_index numbers) same ∙ number_there)), omega (arith, there, not_end))

  module _ (rest : List ℕ) (len : length rest + 1 ≡ length numbers)
      (moved : k + 1 < length numbers → slice_index rest k ≡ last)
      (stay : (j : ℕ) → j ≢ k → j + 1 < length numbers → slice_index rest j ≡ slice_index numbers j) where
    listed_without : (j : ℕ) → j < length rest → slice_index (places_without places last k n) (slice_index rest j) ≡ suc j
    listed_without j inside = elim (cases_eq j k) [
      | inl same ↦
          let before : k + 1 < length numbers = omega (arith, inside, same, len) in
          let ne : last ≢ n = λ is.
          let both : suc (length numbers - 1) ≡ suc k = sym last_written ∙ ap (slice_index places) is ∙ at in
          omega (arith, both, before) in
          ap (λ i. slice_index (places_without places last k n) (slice_index rest i)) same
          ∙ ap (slice_index (places_without places last k n)) (moved before) ∙ last_without ne ∙ ap suc (sym same)
      | inr other ↦
          let before : j + 1 < length numbers = omega (arith, inside, len) in
          let was : slice_index places (slice_index numbers j) ≡ suc j = placed.listed j (omega (arith, before)) in
          let ne : slice_index numbers j ≢ n = λ is. let both : suc j ≡ suc k = sym was ∙ ap (slice_index places) is ∙ at in other (omega (arith, both)) in
          let ne_last : slice_index numbers j ≢ last = λ is.
          let both : suc j ≡ suc (length numbers - 1) = sym was ∙ ap (slice_index places) is ∙ last_written in
          omega (arith, both, before) in
          ap (slice_index (places_without places last k n)) (stay j other before) ∙ other_without (slice_index numbers j) ne ne_last ∙ was
    ]

    only_without : (m j : ℕ) → slice_index (places_without places last k n) m ≡ suc j → (j < length rest) × (slice_index rest j ≡ m)
    only_without m j is = elim (cases_eq m n) [
      | inl same ↦
          let wrong : zero ≡ suc j = sym gone_without ∙ ap (slice_index (places_without places last k n)) (sym same) ∙ is in
          absurd (omega (arith, wrong))
      | inr ne ↦ elim (cases_eq m last) [
        | inl is_m ↦
            let ne_n : last ≢ n = λ same. ne (is_m ∙ same) in
            let both : suc k ≡ suc j = sym (last_without ne_n) ∙ ap (slice_index (places_without places last k n)) (sym is_m) ∙ is in
            let same : j ≡ k = omega (arith, both) in
            let before = later_last ne_n in
            (omega (arith, same, before, len), ap (slice_index rest) same ∙ moved before ∙ sym is_m)
        | inr ne_last ↦
            let was : slice_index places m ≡ suc j = sym (other_without m ne ne_last) ∙ is in
            let place = other_place m j ne ne_last was in
            let before = place.1 in
            (omega (arith, before, len), stay j place.0 before ∙ (placed.only m j was).1)
      ]
    ]

    placed_without : ArePlaced rest (places_without places last k n)
    placed_without = record { listed = listed_without; only = only_without }

module _ (slots rest : Changes) (places : List ℕ) (placed : ArePlaced (keys_of slots) places) (k n last : ℕ) (at : slice_index places n ≡ suc k)
    (is_last : slice_index (keys_of slots) (length slots - 1) ≡ last) (len : length rest + 1 ≡ length slots)
    (moved : (d : HeldSlot) → k + 1 < length slots → get_or rest k d ≡ get_or slots (length slots - 1) d)
    (stay : (j : ℕ) (d : HeldSlot) → j ≢ k → j + 1 < length slots → get_or rest j d ≡ get_or slots j d) where
  abbrev none : HeldSlot
  none = (0, nothing_held)

  last_place : slice_index (keys_of slots) (length (keys_of slots) - 1) ≡ last
  last_place = ap (λ count. slice_index (keys_of slots) (count - 1)) (same_length slots) ∙ is_last

  number_moved : k + 1 < length (keys_of slots) → slice_index (keys_of rest) k ≡ last
  number_moved before =
      let all = same_length slots in
      let within : k + 1 < length slots = omega (arith, before, all) in
      sym (number_of rest k none (omega (arith, within, len))) ∙ ap (λ (e : HeldSlot). e.0) (moved none within)
      ∙ number_of slots (length slots - 1) none (omega (arith, within)) ∙ is_last

  number_stays : (j : ℕ) → j ≢ k → j + 1 < length (keys_of slots) → slice_index (keys_of rest) j ≡ slice_index (keys_of slots) j
  number_stays j ne before =
      let all = same_length slots in
      let within : j + 1 < length slots = omega (arith, before, all) in
      sym (number_of rest j none (omega (arith, within, len))) ∙ ap (λ (e : HeldSlot). e.0) (stay j none ne within)
      ∙ number_of slots j none (omega (arith, within))

  placed_removed : ArePlaced (keys_of rest) (places_without places last k n)
  placed_removed = placed_without (keys_of slots) places placed k n last at last_place (keys_of rest)
      (let all = same_length slots in let left = same_length rest in omega (arith, all, left, len)) number_moved number_stays

  held_removed : held_at rest n ≡ nothing_held
  held_removed = finds_held rest (places_without places last k n) placed_removed n 0 (gone_without (keys_of slots) places placed k n last at last_place)

  by_other_removed : (m p : ℕ) → m ≢ n → m ≢ last → slice_index places m ≡ p → slot_by p rest ≡ slot_by p slots
  by_other_removed m zero ne ne_last is = refl
  by_other_removed m (suc j) ne ne_last is =
      let place = other_place (keys_of slots) places placed k n last at last_place m j ne ne_last is in
      ap (λ (e : HeldSlot). Some e.1) (stay j none place.0 (subst (λ count. j + 1 < count) (same_length slots) place.1))

  others_removed : (m : ℕ) → m ≢ n → held_at rest m ≡ held_at slots m
  others_removed m ne = elim (cases_eq m last) [
    | inl same ↦
        let ne_n : last ≢ n = λ is. ne (same ∙ is) in
        let before : k + 1 < length slots = subst (λ count. k + 1 < count) (same_length slots) (later_last (keys_of slots) places placed k n last at last_place ne_n) in
        let was : slice_index places last ≡ suc (length slots - 1) =
        last_written (keys_of slots) places placed k n last at last_place ∙ ap (λ count. suc (count - 1)) (same_length slots) in
        ap (held_at rest) same
        ∙ finds_held rest (places_without places last k n) placed_removed last (suc k) (last_without (keys_of slots) places placed k n last at last_place ne_n)
        ∙ ap (λ (e : HeldSlot). e.1) (moved none before)
        ∙ sym (finds_held slots places placed last (suc (length slots - 1)) was)
        ∙ ap (held_at slots) (sym same)
    | inr ne_last ↦
        finds_held rest (places_without places last k n) placed_removed m (slice_index places m) (other_without (keys_of slots) places placed k n last at last_place m ne ne_last)
        ∙ ap (λ (found : Option HeldPage). unwrap_or found nothing_held) (by_other_removed m (slice_index places m) ne ne_last refl)
        ∙ sym (finds_held slots places placed m (slice_index places m) refl)
  ]

module _ (slots : Changes) (places : List ℕ) (was : HasPlaces slots places) (value : Changes) (view_is : slots ≡ value)
    (k n : ℕ) (is : slice_get value k ≡ Some (n, held_at value n))
    (size : ℕ) (sized : size ≡ length slots) (last_slot : HeldSlot) (read : last_slot ≡ get_or slots (size - 1) last_slot) (last : ℕ) (last_is : last ≡ last_slot.0) where
  there_now : slice_get slots k ≡ Some (n, held_at slots n)
  there_now = subst (λ (all : Changes). slice_get all k ≡ Some (n, held_at all n)) (sym view_is) is

  at_place : slice_index places n ≡ suc k
  at_place = written_there slots places was.placed k n (held_at slots n) there_now

  pub within : k < length slots
  within = slice_get_within slots k (n, held_at slots n) there_now

  pub reaches_n : n < length places
  reaches_n = reached places n k at_place

  last_number : slice_index (keys_of slots) (length slots - 1) ≡ last
  last_number =
      let some = within in
      sym (number_of slots (length slots - 1) last_slot (omega (arith, some)))
      ∙ ap (λ (e : HeldSlot). e.0) (ap (λ count. get_or slots (count - 1) last_slot) (sym sized) ∙ sym read)
      ∙ sym last_is

  pub reaches_last : last < length places
  reaches_last =
      let some = within in
      let all = same_length slots in
      let at : slice_index places last ≡ suc (length slots - 1) = ap (slice_index places) (sym last_number) ∙ was.placed.listed (length slots - 1) (omega (arith, some, all)) in
      reached places last (length slots - 1) at

  module _ (here : ℕ) (here_read : here ≡ get_or places n here) (rest : Changes) (out : HeldSlot) (out_read : out ≡ get_or slots k out) (items : rest ≡ swap_remove slots k out)
      (left : ℕ) (counted : left ≡ length rest) (len : left + 1 ≡ size)
      (moved : (d : HeldSlot) → k + 1 < size → get_or rest k d ≡ get_or slots (size - 1) d)
      (stay : (j : ℕ) (d : HeldSlot) → j ≢ k → j + 1 < size → get_or rest j d ≡ get_or slots j d) where
    here_is : here ≡ suc k
    here_is = here_read ∙ get_or_default places n here 0 reaches_n ∙ at_place

    len_is : length rest + 1 ≡ length slots
    len_is = omega (arith, counted, len, sized)

    moved_to : (d : HeldSlot) → k + 1 < length slots → get_or rest k d ≡ get_or slots (length slots - 1) d
    moved_to d before = moved d (omega (arith, before, sized)) ∙ ap (λ count. get_or slots (count - 1) d) sized

    stays : (j : ℕ) (d : HeldSlot) → j ≢ k → j + 1 < length slots → get_or rest j d ≡ get_or slots j d
    stays j d ne before = stay j d ne (omega (arith, before, sized))

    pub removes_places : HasPlaces rest (set (set places last here) n 0)
    removes_places = subst (λ i. HasPlaces rest (set (set places last i) n 0)) (sym here_is) (record {
      placed = placed_removed slots rest places was.placed k n last at_place last_number len_is moved_to stays;
      few = let few = was.few in let one = length-set places last (suc k) in let both = length-set (set places last (suc k)) n 0 in omega (arith, few, one, both);
      some = subst HoldsEach (sym items) (All-tail (λ (e : HeldSlot). IsSome (held_change e.1)) out (swap_remove slots k out)
          (All-permutation (λ (e : HeldSlot). IsSome (held_change e.1)) slots (out ∷ swap_remove slots k out) (IsPermutation-swap_remove slots k out within out_read) was.some));
    })

    pub removes_there : held_at rest n ≡ nothing_held
    removes_there = held_removed slots rest places was.placed k n last at_place last_number len_is moved_to stays

    pub removes_others : (m : ℕ) → m ≢ n → held_at rest m ≡ held_at value m
    removes_others m ne = others_removed slots rest places was.placed k n last at_place last_number len_is moved_to stays m ne
        ∙ ap (λ (all : Changes). held_at all m) view_is

All-popped : (slots rest : Changes) (slot : HeldSlot) → slots ≡ rest ++ slot ∷ [] → HoldsEach slots → HoldsEach rest
All-popped slots rest slot items some = λ k d inside.
    let more = length-append rest (slot ∷ []) in
    let at : get_or slots k d ≡ get_or rest k d = ap (λ (all : Changes). get_or all k d) items ∙ get_or_append_left rest (slot ∷ []) d k inside in
    let all = ap length items in
    subst (λ (e : HeldSlot). IsSome (held_change e.1)) at (some k d (omega (arith, all, more, inside)))

-- the last slot is taken out
module _ (slots rest : Changes) (slot : HeldSlot) (places : List ℕ) (was : HasPlaces slots places) (items : slots ≡ rest ++ slot ∷ []) where
  counted_out : length rest + 1 ≡ length slots
  counted_out = let all = ap length items in let more = length-append rest (slot ∷ []) in omega (arith, all, more)

  slot_read : (d : HeldSlot) → get_or slots (length rest) d ≡ slot
  slot_read d = ap (λ (all : Changes). get_or all (length rest) d) items ∙ get_or_push rest slot d (length rest) refl

  number_read : slice_index (keys_of slots) (length rest) ≡ slot.0
  number_read =
      let count = counted_out in
      sym (number_of slots (length rest) (0, nothing_held) (omega (arith, count))) ∙ ap (λ (e : HeldSlot). e.0) (slot_read (0, nothing_held))

  written_last : slice_index places slot.0 ≡ suc (length rest)
  written_last =
      let count = counted_out in
      let all = same_length slots in
      ap (slice_index places) (sym number_read) ∙ was.placed.listed (length rest) (omega (arith, count, all))

  pub pops_places : HasPlaces rest (set places slot.0 0)
  pops_places =
      let count = counted_out in
      record {
        placed = subst (λ (l : List ℕ). ArePlaced (keys_of rest) l) (set-set places slot.0 (suc (length rest)) 0)
            (placed_removed slots rest places was.placed (length rest) slot.0 slot.0 written_last
            (ap (λ i. slice_index (keys_of slots) (i - 1)) (sym count) ∙ ap (slice_index (keys_of slots)) (let one : length rest + 1 - 1 ≡ length rest = omega arith in one) ∙ number_read)
            count
            (λ d before. absurd (omega (arith, count, before)))
            (λ j d ne before. sym (ap (λ (all : Changes). get_or all j d) items ∙ get_or_append_left rest (slot ∷ []) d j (omega (arith, count, before)))));
        few = let few = was.few in let same = length-set places slot.0 0 in omega (arith, few, same);
        some = (All-popped slots rest slot items was.some);
      }

-- ---- what is held

-- a page that is held has an entry
entry_of : (changes : Changes) (n : ℕ) (found : Option HeldPage) → lookup (is_at (nat_cmp n)) changes ≡ found → IsSome (held_change (held_at changes n))
    → Contains changes (n, held_at changes n)
entry_of changes n None is some = absurd (none_some (held_change (held_at changes n)) (ap held_change (held-none changes n is)) some)
entry_of changes n (Some held) is some =
    subst (λ h. Contains changes (n, h)) (sym (held-found changes n held is)) (Contains-from_lookup {eq = eq_by_cmp nat_cmp} same_number n held changes is)

-- the entries are the pages that are held
pub lists_held : (changes : Changes) (places : List ℕ) → ArePlaced (keys_of changes) places → HoldsEach changes → ListsHeld changes
lists_held changes places placed holds =
    let at = λ (n : ℕ) (h : HeldPage) (there : Contains changes (n, h)). lookup-from_Contains (eq_by_cmp_equiv nat_cmp_total) n h changes (differ (keys_of changes) places placed) there in
    record {
      once = differ_plainly (keys_of changes) places placed;
      each = λ n h there. sym (held-found changes n h (at n h there));
      some = λ n h there. All-contains (λ (e : HeldSlot). IsSome (held_change e.1)) changes (n, h) holds there;
      all = λ n some. entry_of changes n (lookup (is_at (nat_cmp n)) changes) refl some;
    }
