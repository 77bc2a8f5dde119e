-- Cells in order, one after another.
use Rattle.std.proofs.Common.{◌≡◌, ◌<◌, ◌≤◌, ◌+◌, ◌-◌, ℕ, zero, suc, true, Option, Some, None, List, [], ◌∷◌, length, drop, slice_get, refl, sym, ap, ◌∙◌, subst, inl, inr, arith}
use Rattle.std.proofs.lemmas.Bool.{cases_lt}
use Rattle.std.proofs.lemmas.Option.{slice_get_past}
use Rattle.std.specs.List.{AllByRecursion}
use Rattle.std.specs.Option.{option_or}
use Rattle.rs_records.specs.Order.{is_below, Ascends}
use Rattle.rs_records.specs.Records.{records, keys}
use Rattle.rs_records.proofs.Orders.{is_below-trans}
use Rattle.rs_records.proofs.RecordLists.{length-keys, length-records}
use Rattle.rs_tree.proofs.Lists.{all_at, map_at}
use Rattle.rs_tree_whole.specs.Bounds.{IsLeast, BeginsWith, IsUnder, AreUnder, IsInOrder}

-- each of the first cells is below the next
pub record StepsUp (cells : List (List ℕ)) (k : ℕ) : Type 0 where
  pub each : (i : ℕ) (one other : List ℕ) → suc i < k → slice_get cells i ≡ Some one → slice_get cells (suc i) ≡ Some other → is_below one other ≡ true

pub steps_none : (cells : List (List ℕ)) (k : ℕ) → k ≤ 1 → StepsUp cells k
steps_none cells k few = record { each = λ i one other h first second. absurd (omega arith) }

pub steps_more : (cells : List (List ℕ)) (index : ℕ) (a b : List ℕ) → 1 ≤ index → StepsUp cells index → slice_get cells (index - 1) ≡ Some a → slice_get cells index ≡ Some b
    → is_below a b ≡ true → StepsUp cells (index + 1)
steps_more cells index a b some steps before here below = record {
  each = λ i one other h first second. elim (cases_lt (suc i) index) [
    | inl less ↦ steps.each i one other less first second
    | inr upto ↦
        let at : suc i ≡ index = omega arith in
        let at_before : i ≡ index - 1 = omega arith in
        let is : one ≡ a = some_one (sym first ∙ ap (slice_get cells) at_before ∙ before) in
        let also : other ≡ b = some_one (sym second ∙ ap (slice_get cells) at ∙ here) in
        subst (λ x. is_below x other ≡ true) (sym is) (subst (λ y. is_below a y ≡ true) (sym also) below)
  ];
} where
  some_one : {x y : List ℕ} → Some x ≡ Some y → x ≡ y
  some_one e = cc

all_above : (x y : List ℕ) (ys : List (List ℕ)) → is_below x y ≡ true → AllByRecursion (λ other. is_below y other ≡ true) ys → AllByRecursion (λ other. is_below x other ≡ true) ys
all_above x y [] below all = tt
all_above x y (z ∷ zs) below all = (is_below-trans x y z below all.0, all_above x y zs below all.1)

-- cells of which each is below the next ascend
pub steps_all : (cells : List (List ℕ)) (k : ℕ) → length cells ≤ k → StepsUp cells k → Ascends cells
steps_all [] k long steps = tt
steps_all (x ∷ []) k long steps = (tt, tt)
steps_all (x ∷ y ∷ ys) k long steps =
    let rest = steps_all (y ∷ ys) (k - 1) (omega arith) (record { each = λ i one other h first second. steps.each (suc i) one other (omega arith) first second }) in
    let below : is_below x y ≡ true = steps.each 0 x y (omega arith) refl refl in
    ((below, all_above x y ys below rest.0), rest)

-- and the other way
pub ascends_steps : (cells : List (List ℕ)) (i : ℕ) (one other : List ℕ) → Ascends cells → slice_get cells i ≡ Some one → slice_get cells (suc i) ≡ Some other → is_below one other ≡ true
ascends_steps [] i one other up first second = absurd (cc)
ascends_steps (x ∷ []) zero one other up first second = absurd (cc)
ascends_steps (x ∷ []) (suc i) one other up first second = absurd (cc)
ascends_steps (x ∷ y ∷ ys) zero one other up first second =
    let is : x ≡ one = cc in
    let also : y ≡ other = cc in
    subst (λ a. is_below a other ≡ true) is (subst (λ b. is_below x b ≡ true) also up.0.0)
ascends_steps (x ∷ y ∷ ys) (suc i) one other up first second = ascends_steps (y ∷ ys) i one other up.1 first second

-- cells that ascend are all below what the last is below
pub last_under : (bound : List ℕ) (cells : List (List ℕ)) (last : List ℕ) → Ascends cells → slice_get cells (length cells - 1) ≡ Some last → is_below last bound ≡ true
    → AllByRecursion (λ cell. is_below cell bound ≡ true) cells
last_under bound [] last up is below = tt
last_under bound (c ∷ []) last up is below = let same : last ≡ c = cc in (subst (λ x. is_below x bound ≡ true) same below, tt)
last_under bound (c ∷ d ∷ ds) last up is below =
    let at : suc (length ds) ≡ suc (suc (length ds)) - 1 = omega arith in
    let rest = last_under bound (d ∷ ds) last up.1 (let before : length ds ≡ suc (length ds) - 1 = omega arith in ap (slice_get (d ∷ ds)) (sym before) ∙ ap (slice_get (c ∷ d ∷ ds)) at ∙ is) below in
    (is_below-trans c d bound up.0.0 rest.0, rest)

-- what the tests of the first cell, of the last and of each say of all
pub in_order : (least bound : Option (List ℕ)) (cells : List (List ℕ)) (first last : List ℕ) → slice_get cells 0 ≡ Some first → slice_get cells (length cells - 1) ≡ Some last
    → Ascends cells → IsLeast least first → IsUnder bound last → IsInOrder least bound cells
in_order least bound cells first last begins ends up is under = record { ascends = up; begins = at_least least is; ends = at_bound bound under } where
  at_least : (l : Option (List ℕ)) → IsLeast l first → BeginsWith l cells
  at_least None h = tt
  at_least (Some l) h = begins ∙ ap (λ x. Some x) h

  at_bound : (b : Option (List ℕ)) → IsUnder b last → AreUnder b cells
  at_bound None h = tt
  at_bound (Some b) h = last_under b cells last up ends h

pub least_of : (least : Option (List ℕ)) (cells : List (List ℕ)) (first : List ℕ) → slice_get cells 0 ≡ Some first → BeginsWith least cells → IsLeast least first
least_of None cells first is h = tt
least_of (Some l) cells first is h = cc

pub under_of : (bound : Option (List ℕ)) (cells : List (List ℕ)) (i : ℕ) (last : List ℕ) → slice_get cells i ≡ Some last → AreUnder bound cells → IsUnder bound last
under_of None cells i last is h = tt
under_of (Some b) cells i last is h = all_at (λ cell. is_below cell b ≡ true) cells i last h is

-- the key of an entry, and past the last entry what is given
pub key_there : (from count width : ℕ) (bytes : List ℕ) (index : ℕ) (entry : List ℕ) (bound : Option (List ℕ)) → slice_get (records count width bytes) index ≡ Some entry
    → Some (drop from entry) ≡ option_or (slice_get (keys from (records count width bytes)) index) bound
key_there from count width bytes index entry bound there = ap (λ k. option_or k bound) (sym (map_at (drop from) (records count width bytes) index entry there))

pub key_past : (from count width : ℕ) (bytes : List ℕ) (index : ℕ) (bound : Option (List ℕ)) → count ≤ index
    → bound ≡ option_or (slice_get (keys from (records count width bytes)) index) bound
key_past from count width bytes index bound past =
    ap (λ k. option_or k bound) (sym (slice_get_past (keys from (records count width bytes)) index (omega (arith, length-keys from count width bytes))))

-- the same of other bytes that are the same
pub key_same : (from count width index : ℕ) (bytes content : List ℕ) (found bound : Option (List ℕ)) → found ≡ option_or (slice_get (keys from (records count width bytes)) index) bound → bytes ≡ content
    → found ≡ option_or (slice_get (keys from (records count width content)) index) bound
key_same from count width index bytes content found bound is same = subst (λ b. found ≡ option_or (slice_get (keys from (records count width b)) index) bound) same is

-- the same of the records of a page
pub order_told : (least bound : Option (List ℕ)) (count width : ℕ) (bytes content : List ℕ) (first last : List ℕ) → bytes ≡ content
    → slice_get (records count width bytes) 0 ≡ Some first → slice_get (records count width bytes) (count - 1) ≡ Some last
    → Ascends (records count width bytes) → IsLeast least first → IsUnder bound last → IsInOrder least bound (records count width content)
order_told least bound count width bytes content first last same begins ends up is under =
    let at : count - 1 ≡ length (records count width bytes) - 1 = ap (λ n. n - 1) (sym (length-records count width bytes)) in
    subst (λ b. IsInOrder least bound (records count width b)) same
    (in_order least bound (records count width bytes) first last begins (ap (slice_get (records count width bytes)) (sym at) ∙ ends) up is under)

pub order_parts : (least bound : Option (List ℕ)) (count width : ℕ) (bytes content : List ℕ) (first last : List ℕ) → bytes ≡ content
    → slice_get (records count width bytes) 0 ≡ Some first → slice_get (records count width bytes) (count - 1) ≡ Some last
    → IsInOrder least bound (records count width content) → Ascends (records count width bytes) × IsLeast least first × IsUnder bound last
order_parts least bound count width bytes content first last same begins ends order =
    let here : IsInOrder least bound (records count width bytes) = subst (λ b. IsInOrder least bound (records count width b)) (sym same) order in
    (here.ascends, least_of least (records count width bytes) first begins here.begins, under_of bound (records count width bytes) (count - 1) last ends here.ends)
