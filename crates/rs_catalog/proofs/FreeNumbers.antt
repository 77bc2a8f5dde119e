-- The least free number, from which numbers are taken.
use Rattle.std.proofs.Common.{◌≡◌, ℕ, suc, ◌+◌, ◌<◌, ◌≤◌, Bool, true, false, cond, ◌||◌, List, [], ◌∷◌, length, map, nat_eq, Some, None, count_by, slice_set, slice_index_or, refl, sym, ap, subst, ◌∙◌, mul-zero, arith}
use Rattle.std.specs.List.{list_any, AllByRecursion, prefix_len}
use Rattle.std.specs.Ordering.{eq_by_cmp}
use Rattle.std.specs.FinMap as names
use Rattle.std.specs.FinMap.{find, get-entries}
use Rattle.std.proofs.lemmas.Bool.Decides.{Decides-eqb}
use Rattle.std.proofs.lemmas.Grind.{get_or-set_at}
use Rattle.std.proofs.lemmas.List.{get_or-set_other, get_or-replicate, length-set, length-replicate, length-map}
use Rattle.std.proofs.lemmas.List.Sums.{sum_by-cons, sum_by-set, prefix_len_passes, prefix_len_stops}
use Rattle.std.proofs.lemmas.List.Folds.{sum_by-replicate}
use Rattle.arrayvec.specs.ArrayString.{ArrayString}
use Rattle.rs_facts.specs.Fact.{Name, Names, name_cmp}
use Rattle.rs_catalog.specs.Names.{entries_by_bytes}
use Rattle.rs_catalog.specs.Definitions.{IsFree, IsLeastFree}
use Rattle.rs_catalog.specs.Taken.{none_taken}
use Rattle.rs_catalog.proofs.Names.{each_entry}

false_true : {P : Type 0} → false ≡ true → P
false_true e = cc

abbrev is_taken : Bool → Bool
is_taken taken = taken

-- the numbers of entries
abbrev pub numbers_in : {K V : Type 0} → (V → ℕ) → List (K × V) → List ℕ
numbers_in number_of entries = map (λ e. number_of e.1) entries

-- Of some numbers, those before the rest are taken and no others, and each is below the limit.
pub record AreTaken (limit : ℕ) (all rest : List ℕ) (taken : List Bool) : Type 0 where
  pub seen : (m : ℕ) → m < limit → (slice_index_or taken m true || list_any (nat_eq m) rest) ≡ list_any (nat_eq m) all
  pub few : count_by is_taken taken + length rest ≤ length all
  pub below : AllByRecursion (λ n. n < limit) rest
  pub long : length taken ≡ limit

count_none : (n : ℕ) → count_by is_taken (none_taken n) ≡ 0
unfolding none_taken
count_none n = sum_by-replicate (λ b. cond (is_taken b) 1 0) n false ∙ mul-zero n

pub length-none : (n : ℕ) → length (none_taken n) ≡ n
unfolding none_taken
length-none n = length-replicate n false

pub taken_start : (limit : ℕ) (all : List ℕ) → AllByRecursion (λ n. n < limit) all → AreTaken limit all all (none_taken limit)
unfolding none_taken
taken_start limit all below = record {
  seen = λ m less. ap (λ b. b || list_any (nat_eq m) all) (get_or-replicate limit m false true less);
  few = let none = count_none limit in omega arith;
  below = below;
  long = length-replicate limit false;
}

or_true : (a b : Bool) → (a || (true || b)) ≡ true
or_true true b = refl
or_true false b = refl

pub taken_turn : (limit n : ℕ) (all rest : List ℕ) (taken : List Bool) → AreTaken limit all (n ∷ rest) taken → AreTaken limit all rest (slice_set taken n true)
taken_turn limit n all rest taken are =
    let inside : n < length taken = subst (λ l. n < l) (sym are.long) (are.below.0) in
    record {
      seen = λ m less. elim (nat_eq m n) as (λ b. nat_eq m n ≡ b → (slice_index_or taken m true || (b || list_any (nat_eq m) rest)) ≡ list_any (nat_eq m) all
          → (slice_index_or (slice_set taken n true) m true || list_any (nat_eq m) rest) ≡ list_any (nat_eq m) all) [
            | true ↦ λ same is.
                ap (λ b. b || list_any (nat_eq m) rest) (get_or-set_at taken n m true true ((Decides-eqb m n).0 same) inside)
                ∙ sym (or_true (slice_index_or taken m true) (list_any (nat_eq m) rest)) ∙ is
            | false ↦ λ other is.
                ap (λ b. b || list_any (nat_eq m) rest) (get_or-set_other taken n m true true (λ same. false_true (sym other ∙ (Decides-eqb m n).1 same))) ∙ is
          ] refl (are.seen m less);
      few = let one = sum_by-set (λ b. cond (is_taken b) 1 0) taken n true false inside in let few = are.few in omega arith;
      below = are.below.1;
      long = length-set taken n true ∙ are.long;
    }

module _ {K V : Type 0} (number_of : V → ℕ) (limit : ℕ) (all : List ℕ) (entries rest : List (K × V)) (taken : List Bool) (name : K) (value : V) where
  -- the next number is below the limit
  pub next_below : AreTaken limit all (numbers_in number_of entries) taken → entries ≡ (name, value) ∷ rest → number_of value < limit
  next_below are is = (subst (λ es. AreTaken limit all (numbers_in number_of es) taken) is are).below.0

  pub next_taken : AreTaken limit all (numbers_in number_of entries) taken → entries ≡ (name, value) ∷ rest
      → AreTaken limit all (numbers_in number_of rest) (slice_set taken (number_of value) true)
  next_taken are is = taken_turn limit (number_of value) all (numbers_in number_of rest) taken (subst (λ es. AreTaken limit all (numbers_in number_of es) taken) is are)

-- where not all are taken, a first one is free
free_within : (taken : List Bool) → count_by is_taken taken < length taken → prefix_len is_taken taken < length taken
free_within [] less = less
free_within (true ∷ taken) less =
    let one : 1 + count_by is_taken taken < suc (length taken) = subst (λ n. n < suc (length taken)) (sum_by-cons (λ b. cond (is_taken b) 1 0) true taken) less in
    let more : prefix_len is_taken taken < length taken = free_within taken (omega arith) in
    let goal : 1 + prefix_len is_taken taken < suc (length taken) = omega arith in
    goal
free_within (false ∷ taken) less = let goal : 0 < suc (length taken) = omega arith in goal

-- the first that is free, of numbers of which all are taken
pub record IsFirstFree (limit : ℕ) (all : List ℕ) (n : ℕ) : Type 0 where
  pub within : n < limit
  pub free : list_any (nat_eq n) all ≡ false
  pub least : (m : ℕ) → m < n → list_any (nat_eq m) all ≡ true

no_rest : (a b : Bool) → (a || false) ≡ b → a ≡ b
no_rest true b e = e
no_rest false b e = e

pub taken_end : (limit : ℕ) (all : List ℕ) (taken : List Bool) → AreTaken limit all [] taken → length all < limit → IsFirstFree limit all (prefix_len is_taken taken)
taken_end limit all taken are room =
    let few = are.few in
    let long = are.long in
    let within : prefix_len is_taken taken < length taken = free_within taken (omega arith) in
    record {
      within = subst (λ l. prefix_len is_taken taken < l) long within;
      free = sym (no_rest _ _ (are.seen (prefix_len is_taken taken) (omega arith))) ∙ prefix_len_stops is_taken taken true within;
      least = λ m less. sym (no_rest _ _ (are.seen m (omega arith))) ∙ prefix_len_passes is_taken taken m true less;
    }

-- ---- numbers of what stands under names

module _ {V : Type 0} (number_of : V → ℕ) where
  same_numbers : (entries : List (ArrayString × V)) → numbers_in number_of (entries_by_bytes (λ v. v) entries) ≡ numbers_in number_of entries
  same_numbers [] = refl
  same_numbers (e ∷ es) = ap (λ rest. number_of e.1 ∷ rest) (same_numbers es)

  found_number : (entries : List (Name × V)) (q : Name) (value : V) (n : ℕ) → find name_cmp q entries ≡ Some value → number_of value ≡ n → list_any (nat_eq n) (numbers_in number_of entries) ≡ true
  found_number [] q value n found is = cc
  found_number (e ∷ es) q value n found is =
      elim (eq_by_cmp name_cmp q e.0) as (λ b. cond b (Some e.1) (find name_cmp q es) ≡ Some value → (nat_eq n (number_of e.1) || list_any (nat_eq n) (numbers_in number_of es)) ≡ true) [
        | true ↦ λ here. ap (λ b. b || list_any (nat_eq n) (numbers_in number_of es)) ((Decides-eqb n (number_of e.1)).1 (sym is ∙ ap number_of (sym (some_value e.1 value here))))
        | false ↦ λ there. right (nat_eq n (number_of e.1)) (found_number es q value n there is)
      ] found
    where
      some_value : (x y : V) → Some x ≡ Some y → x ≡ y
      some_value x y e = ap (λ o. elim o as (λ _. V) [ Some v ↦ v | None ↦ x ]) e

      right : (a : Bool) {b : Bool} → b ≡ true → (a || b) ≡ true
      right true e = refl
      right false e = e

  free_of : (items : Names V) (n : ℕ) → list_any (nat_eq n) (numbers_in number_of (names.entries items)) ≡ false → IsFree number_of items n
  free_of items n none name value there is = false_true (sym none ∙ found_number (names.entries items) name value n (sym (get-entries items name) ∙ there) is)

  taken_of : (items : Names V) (n : ℕ) (entries : List (Name × V)) → AllByRecursion (λ e. names.get items e.0 ≡ Some e.1) entries → list_any (nat_eq n) (numbers_in number_of entries) ≡ true → IsFree number_of items n → ⊥
  taken_of items n [] each some free = false_true some
  taken_of items n (e ∷ es) each some free =
      elim (nat_eq n (number_of e.1)) as (λ b. nat_eq n (number_of e.1) ≡ b → (b || list_any (nat_eq n) (numbers_in number_of es)) ≡ true → ⊥) [
        | true ↦ λ same some. free e.0 e.1 each.0 (sym ((Decides-eqb n (number_of e.1)).0 same))
        | false ↦ λ other some. taken_of items n es each.1 some free
      ] refl some

  -- the first free of the numbers of a map is its least free number
  pub least_free_of : (items : Names V) (entries : List (ArrayString × V)) (limit n : ℕ) → entries_by_bytes (λ v. v) entries ≡ names.entries items
      → IsFirstFree limit (numbers_in number_of entries) n → IsLeastFree number_of items n
  least_free_of items entries limit n are first =
      let numbers : numbers_in number_of (names.entries items) ≡ numbers_in number_of entries = ap (λ es. numbers_in number_of es) (sym are) ∙ same_numbers entries in
      record {
        free = free_of items n (ap (λ ns. list_any (nat_eq n) ns) numbers ∙ first.free);
        least = λ m less free. taken_of items m (names.entries items) (each_entry items) (ap (λ ns. list_any (nat_eq m) ns) numbers ∙ first.least m less) free;
      }

  numbers_below : (items : Names V) (limit : ℕ) (entries : List (Name × V)) → ((name : Name) (value : V) → names.get items name ≡ Some value → number_of value < limit)
      → AllByRecursion (λ e. names.get items e.0 ≡ Some e.1) entries → AllByRecursion (λ n. n < limit) (numbers_in number_of entries)
  numbers_below items limit [] all each = tt
  numbers_below items limit (e ∷ es) all each = (all e.0 e.1 each.0, numbers_below items limit es all each.1)

  -- each number of a map is below its limit
  pub below_limit : (items : Names V) (entries : List (ArrayString × V)) (limit : ℕ) → entries_by_bytes (λ v. v) entries ≡ names.entries items
      → ((name : Name) (value : V) → names.get items name ≡ Some value → number_of value < limit) → AllByRecursion (λ n. n < limit) (numbers_in number_of entries)
  below_limit items entries limit are all =
      subst (λ ns. AllByRecursion (λ n. n < limit) ns) (ap (λ es. numbers_in number_of es) (sym are) ∙ same_numbers entries)
      (numbers_below items limit (names.entries items) all (each_entry items))

  -- as many numbers as names
  pub length-numbers : (items : Names V) (entries : List (ArrayString × V)) → entries_by_bytes (λ v. v) entries ≡ names.entries items → length (numbers_in number_of entries) ≡ names.len items
  length-numbers items entries are =
      length-map entries (λ e. number_of e.1) ∙ sym (length-map entries (λ e. (e.0.bytes, e.1))) ∙ ap length are ∙ sym (names.len-entries items)
