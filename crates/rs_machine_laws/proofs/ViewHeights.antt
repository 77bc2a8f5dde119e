-- Views stand in an order where none is left in a query that is opened as often as there are views: by how many openings they take.
use Rattle.std.proofs.Common.{◌≡◌, ◌∙◌, ℕ, zero, suc, ◌<◌, ◌≤◌, ◌⊎◌, inl, inr, Bool, true, false, ◌&&◌, ◌||◌, cond, List, [], ◌∷◌, length, Contains, Some, is_some, refl, sym, ap, arith}
use Rattle.std.specs.Prelude.{◌==◌, nat_lt, unwrap_or, if◌then◌else◌}
use Rattle.std.specs.List.{list_any}
use Rattle.std.specs.Ordering.{eq_by_cmp}
use Rattle.std.specs.FinMap as names
use Rattle.std.specs.FinMap.{find, get-entries, len-entries}
use Rattle.std.proofs.lemmas.Bool.Decides.{nat_tests}
use Rattle.std.proofs.lemmas.List.Folds.{list_any-append}
use Rattle.rs_facts.specs.Fact.{Name, Names, name_cmp}
use Rattle.rs_facts.specs.Insert.{same_name}
use Rattle.rs_syntax.specs.Tree.{QueryTree, covered, dissolved, filtered, gapped, merged, named, overlaid, renamed, subtracted, transformed, windowed}
use Rattle.rs_machine.specs.Lawful.{Each}
use Rattle.rs_machine.specs.Opening.{AreInOrder, names_in, opened, opened_once, opened_times}
use Rattle.rs_machine.specs.State.{has}
use Rattle.rs_machine_laws.proofs.Names.{false_true, none_some, same_name-true}
use Rattle.rs_machine_laws.proofs.Lists.{none_pass, of_each}

-- ---- how many elements pass a test

count : {X : Type 0} → (X → Bool) → List X → ℕ
count test [] = 0
count test (x ∷ xs) = if test x then suc (count test xs) else count test xs

-- one test lets through what the other does
abbrev Follows : (Name → Bool) → (Name → Bool) → Type 0
Follows one other = (name : Name) → one name ≡ true → other name ≡ true

next_fewer : (a b : Bool) (m n : ℕ) → (a ≡ true → b ≡ true) → m ≤ n → (if a then suc m else m) ≤ (if b then suc n else n)
next_fewer true true m n gives h = omega arith
next_fewer true false m n gives h = false_true (gives refl)
next_fewer false true m n gives h = omega arith
next_fewer false false m n gives h = h

next_strictly : (a b : Bool) (m n : ℕ) → (a ≡ true → b ≡ true) → m < n → (if a then suc m else m) < (if b then suc n else n)
next_strictly true true m n gives h = omega arith
next_strictly true false m n gives h = false_true (gives refl)
next_strictly false true m n gives h = omega arith
next_strictly false false m n gives h = h

module _ {X : Type 0} (one other : Name → Bool) (follows : Follows one other) where
  abbrev of_name : (Name → Bool) → Name × X → Bool
  of_name test entry = test entry.0

  fewer : (entries : List (Name × X)) → count (of_name one) entries ≤ count (of_name other) entries
  unfolding count
  fewer [] = omega arith
  fewer (entry ∷ entries) = next_fewer (one entry.0) (other entry.0) (count (of_name one) entries) (count (of_name other) entries) (follows entry.0) (fewer entries)

  -- and more, where it lets through a name that the other doesn't
  strictly : (entries : List (Name × X)) (name : Name) (thing : X) → find name_cmp name entries ≡ Some thing → one name ≡ false → other name ≡ true
      → count (of_name one) entries < count (of_name other) entries
  unfolding count
  strictly [] name thing there not is = none_some thing there
  strictly (entry ∷ entries) name thing there not is =
      elim (eq_by_cmp name_cmp name entry.0) as (λ b. eq_by_cmp name_cmp name entry.0 ≡ b → cond b (Some entry.1) (find name_cmp name entries) ≡ Some thing
      → (if one entry.0 then suc (count (of_name one) entries) else count (of_name one) entries) < (if other entry.0 then suc (count (of_name other) entries) else count (of_name other) entries)) [
        | true ↦ λ same found.
            let here = same_name-true name entry.0 same in
            let no : one entry.0 ≡ false = ap one (sym here) ∙ not in
            let yes : other entry.0 ≡ true = ap other (sym here) ∙ is in
            let few = fewer entries in
            rw (no, yes) (omega arith)
        | false ↦ λ apart found. next_strictly (one entry.0) (other entry.0) (count (of_name one) entries) (count (of_name other) entries) (follows entry.0) (strictly entries name thing found not is)
      ] refl there

all_counted : {X : Type 0} (entries : List X) → count (λ entry. true) entries ≡ length entries
unfolding count
all_counted [] = refl
all_counted (entry ∷ entries) = ap suc (all_counted entries)

-- ---- places among entries

place_in : {X : Type 0} → List (Name × X) → Name → ℕ
place_in [] name = 0
place_in (entry ∷ entries) name = if same_name name entry.0 then 0 else suc (place_in entries name)

same_place : {X : Type 0} (entries : List (Name × X)) (a b : Name) (x y : X) → find name_cmp a entries ≡ Some x → find name_cmp b entries ≡ Some y → place_in entries a ≡ place_in entries b → a ≡ b
unfolding place_in
same_place [] a b x y at on same = none_some x at
same_place (entry ∷ entries) a b x y at on same =
    elim (same_name a entry.0) as (λ p. same_name a entry.0 ≡ p → cond p (Some entry.1) (find name_cmp a entries) ≡ Some x → (if p then 0 else suc (place_in entries a)) ≡ (if same_name b entry.0 then 0 else suc (place_in entries b)) → a ≡ b) [
      | true ↦ λ is_a found_a.
          elim (same_name b entry.0) as (λ q. same_name b entry.0 ≡ q → 0 ≡ (if q then 0 else suc (place_in entries b)) → a ≡ b) [
            | true ↦ λ is_b e. same_name-true a entry.0 is_a ∙ sym (same_name-true b entry.0 is_b)
            | false ↦ λ is_b e. absurd (omega (arith, e))
          ] refl
      | false ↦ λ is_a found_a.
          elim (same_name b entry.0) as (λ q. same_name b entry.0 ≡ q → cond q (Some entry.1) (find name_cmp b entries) ≡ Some y → suc (place_in entries a) ≡ (if q then 0 else suc (place_in entries b)) → a ≡ b) [
            | true ↦ λ is_b found_b e. absurd (omega (arith, e))
            | false ↦ λ is_b found_b e. same_place entries a b x y found_a found_b (omega (arith, e))
          ] refl on
    ] refl at same

-- ---- by height, and then by place

comes_before : ℕ → ℕ → ℕ → ℕ → Bool
comes_before h i k j = nat_lt h k || (h == k && nat_lt i j)

not_itself : (h i : ℕ) → comes_before h i h i ≡ false
unfolding comes_before
not_itself h i = grind (arith, nat_tests)

lower_first : (h i k j : ℕ) → h < k → comes_before h i k j ≡ true
unfolding comes_before
lower_first h i k j less = grind (arith, nat_tests)

through : (h i k j m n : ℕ) → comes_before k j m n ≡ true → comes_before h i k j ≡ true → comes_before h i m n ≡ true
unfolding comes_before
through h i k j m n later first = grind (arith, nat_tests)

one_of_three : (h i k j : ℕ) → ((comes_before h i k j ≡ true) ⊎ (comes_before k j h i ≡ true)) ⊎ (i ≡ j)
unfolding comes_before
one_of_three h i k j = grind (arith, nat_tests)

module _ (views : Names QueryTree) where
  -- a name of a view is left
  abbrev is_left : QueryTree → Bool
  is_left query = list_any (λ name. has views name) (names_in query)

  abbrev opens : Name → QueryTree
  opens name = unwrap_or (names.get views name) (named name)

  or_false : (b : Bool) → b || false ≡ b
  or_false true = refl
  or_false false = refl

  -- ---- what an opened query names

  any_pair : (test : Name → Bool) (a b : QueryTree)
      → list_any test (names_in (opened_once views a)) ≡ list_any (λ name. list_any test (names_in (opens name))) (names_in a)
      → list_any test (names_in (opened_once views b)) ≡ list_any (λ name. list_any test (names_in (opens name))) (names_in b)
      → list_any test (names_in (opened_once views (overlaid a b))) ≡ list_any (λ name. list_any test (names_in (opens name))) (names_in (overlaid a b))
  any_pair test a b one other =
      list_any-append test (names_in (opened_once views a)) (names_in (opened_once views b))
      ∙ (λ i. one i || other i)
      ∙ sym (list_any-append (λ name. list_any test (names_in (opens name))) (names_in a) (names_in b))

  any_opened : (test : Name → Bool) (query : QueryTree) → list_any test (names_in (opened_once views query)) ≡ list_any (λ name. list_any test (names_in (opens name))) (names_in query)
  any_opened test (named name) = sym (or_false (list_any test (names_in (opens name))))
  any_opened test (filtered query condition) = any_opened test query
  any_opened test (dissolved query columns) = any_opened test query
  any_opened test (renamed query from to) = any_opened test query
  any_opened test (overlaid a b) = any_pair test a b (any_opened test a) (any_opened test b)
  any_opened test (covered a b) = any_pair test a b (any_opened test a) (any_opened test b)
  any_opened test (merged a b) = any_pair test a b (any_opened test a) (any_opened test b)
  any_opened test (subtracted a b) = any_pair test a b (any_opened test a) (any_opened test b)
  any_opened test (windowed query window) = any_opened test query
  any_opened test (transformed query alignment) = any_opened test query
  any_opened test (gapped query) = any_opened test query

  -- the one names nothing that the other doesn't
  abbrev IsWithin : QueryTree → QueryTree → Type 0
  IsWithin a b = (test : Name → Bool) → list_any test (names_in b) ≡ false → list_any test (names_in a) ≡ false

  within_opened : (a b : QueryTree) → IsWithin a b → IsWithin (opened_once views a) (opened_once views b)
  within_opened a b within test none = any_opened test a ∙ within (λ name. list_any test (names_in (opens name))) (sym (any_opened test b) ∙ none)

  within_name : (query : QueryTree) (name : Name) → Contains (names_in query) name → IsWithin (named name) query
  within_name query name among test none = or_false (test name) ∙ of_each (λ n. test n ≡ false) (names_in query) name (none_pass test (names_in query) none) among

  -- ---- how many openings a query takes, of so many

  height : ℕ → QueryTree → ℕ
  height zero query = 0
  height (suc openings) query = if is_left query then suc (height openings (opened_once views query)) else 0

  one_less : (a b : Bool) (m n : ℕ) → (b ≡ false → a ≡ false) → m ≤ n → (if a then suc m else 0) ≤ (if b then suc n else 0)
  one_less true true m n gives h = omega arith
  one_less true false m n gives h = false_true (sym (gives refl))
  one_less false true m n gives h = omega arith
  one_less false false m n gives h = omega arith

  not_higher : (openings : ℕ) (a b : QueryTree) → IsWithin a b → height openings a ≤ height openings b
  unfolding height
  not_higher zero a b within = omega arith
  not_higher (suc openings) a b within =
      one_less (is_left a) (is_left b) (height openings (opened_once views a)) (height openings (opened_once views b)) (within (λ name. has views name))
      (not_higher openings (opened_once views a) (opened_once views b) (within_opened a b within))

  -- one opening more takes no more where none is left
  enough : (openings : ℕ) (query : QueryTree) → is_left (opened_times openings views query) ≡ false → height (suc openings) query ≡ height openings query
  unfolding height
  enough zero query none = ap (λ b. if b then 1 else 0) none
  enough (suc openings) query none = ap (λ h. if is_left query then suc h else 0) (enough openings (opened_once views query) none)

  abbrev view_height : Name → ℕ
  view_height name = height (suc (names.len views)) (named name)

  abbrev entries : List (Name × QueryTree)
  entries = names.entries views

  abbrev precedes : Name → Name → Bool
  precedes name other = comes_before (view_height name) (place_in entries name) (view_height other) (place_in entries other)

  abbrev rank : Name → ℕ
  rank name = count (λ entry. precedes entry.0 name) entries

  in_entries : (name : Name) (query : QueryTree) → names.get views name ≡ Some query → find name_cmp name entries ≡ Some query
  in_entries name query there = sym (get-entries views name) ∙ there

  rank_rises : (name other : Name) (query : QueryTree) → names.get views other ≡ Some query → precedes other name ≡ true → rank other < rank name
  rank_rises name other query there first =
      strictly (λ n. precedes n other) (λ n. precedes n name)
      (λ n earlier. through (view_height n) (place_in entries n) (view_height other) (place_in entries other) (view_height name) (place_in entries name) first earlier)
      entries other query (in_entries other query there) (not_itself (view_height other) (place_in entries other)) first

  module _ (none_left : Each views (λ name query. is_left (opened views query) ≡ false)) where
    higher : (name other : Name) (query : QueryTree) → names.get views name ≡ Some query → Contains (names_in query) other → view_height other < view_height name
    unfolding opened height
    higher name other query there among =
        let left : is_left (named name) ≡ true = ap (λ o. is_some o || false) there in
        let least = not_higher (suc (names.len views)) (named other) query (within_name query other among) in
        let same = enough (names.len views) query (none_left name query there) in
        let own : view_height name ≡ suc (height (names.len views) query) =
        ap (λ b. if b then suc (height (names.len views) (opens name)) else 0) left ∙ ap (λ o. suc (height (names.len views) (unwrap_or o (named name)))) there in
        omega (arith, own, same, least)

    pub in_order : AreInOrder views
    in_order = record {
      place = rank;
      below = λ name query there.
          let less = strictly (λ n. precedes n name) (λ n. true) (λ n earlier. refl) entries name query (in_entries name query there) (not_itself (view_height name) (place_in entries name)) refl in
          omega (arith, less, all_counted entries, len-entries views);
      apart = λ a b x y at on same. elim (one_of_three (view_height a) (place_in entries a) (view_height b) (place_in entries b)) [
        | inl (inl first) ↦ absurd (omega (arith, rank_rises b a x at first, same))
        | inl (inr first) ↦ absurd (omega (arith, rank_rises a b y on first, same))
        | inr places ↦ same_place entries a b x y (in_entries a x at) (in_entries b y on) places
      ];
      before = λ name other query there among y on.
          rank_rises name other y on (lower_first (view_height other) (place_in entries other) (view_height name) (place_in entries name) (higher name other query there among));
    }
