-- The views that are kept of a state, before those that are left out.
use Rattle.std.proofs.Common.{◌≡◌, ◌≢◌, ◌∙◌, ◌≤◌, Bool, true, false, cond, not, inl, inr, List, [], ◌∷◌, ◌++◌, length, Some, None, is_some, refl, sym, ap, subst, arith}
use Rattle.std.specs.Prelude.{Contains, filter}
use Rattle.std.specs.List.{AllByRecursion}
use Rattle.std.specs.FinMap as names
use Rattle.std.specs.FinMap.{get-retain_keys, len-empty}
use Rattle.std.proofs.lemmas.Bool.{not_from_false}
use Rattle.std.proofs.lemmas.List.Elements.{Contains-append_left, Contains-append_right}
use Rattle.rs_facts.specs.Fact.{Name, Names, name_cmp}
use Rattle.rs_facts.specs.Insert.{same_name}
use Rattle.rs_syntax.specs.Tree.{QueryTree}
use Rattle.rs_machine.specs.State.{has}
use Rattle.rs_machine.specs.Opening.{names_in, names_query}
use Rattle.rs_machine.proofs.NameOrder.{name_cmp-antisymmetric}
use Rattle.rs_dump_laws.specs.Parts.{AreAll, AreOnce, IsUnder, NameViewsBefore}
use Rattle.rs_dump_laws.proofs.Flat.{once_append}
use Rattle.rs_dump_laws.proofs.ListedParts.{entries_all}
use Rattle.rs_dump_laws.proofs.Lists.{all_append, all_both, all_weaker, at_head, first_or_later, in_tail, of_each, some_of_any}
use Rattle.rs_dump_laws.proofs.MoreViews.{IsBegun, begun_further}
use Rattle.rs_dump_laws.proofs.NamedThings.{all_named, all_new, itself, len_all, put_all_named, same_name-true}

-- ---- what is kept of names

module _ {X : Type 0} where
  pub get_kept : (things : Names X) (keeps : Name → Bool) (name : Name) → names.get (names.retain_keys things keeps) name ≡ cond (keeps name) (names.get things name) None
  get_kept things keeps name = get-retain_keys things keeps name (λ other same. ap keeps (sym (name_cmp-antisymmetric name other same)))

  -- what stands under a name that is kept stands there
  pub still_kept : (things : Names X) (keeps : Name → Bool) (name : Name) → keeps name ≡ true → names.get (names.retain_keys things keeps) name ≡ names.get things name
  still_kept things keeps name kept = get_kept things keeps name ∙ ap (λ b. cond b (names.get things name) None) kept

  -- and nothing else does
  pub was_kept : (things : Names X) (keeps : Name → Bool) (name : Name) (thing : X) → names.get (names.retain_keys things keeps) name ≡ Some thing → (keeps name ≡ true) × (names.get things name ≡ Some thing)
  was_kept things keeps name thing there = by (keeps name) refl (sym (get_kept things keeps name) ∙ there)
    where
      by : (b : Bool) → keeps name ≡ b → cond b (names.get things name) None ≡ Some thing → (keeps name ≡ true) × (names.get things name ≡ Some thing)
      by true kept found = (kept, found)
      by false kept found = absurd (let wrong : None ≡ Some thing = found in cc)

-- ---- lists of those that pass a test

module _ {X : Type 0} (test : X → Bool) where
  all_passing : (P : X → Type 0) (xs : List X) → AllByRecursion P xs → AllByRecursion P (filter test xs)
  all_passing P [] all = tt
  all_passing P (x ∷ xs) all = elim (test x) as (λ b. AllByRecursion P (cond b (x ∷ filter test xs) (filter test xs))) [ true ↦ (all.0, all_passing P xs all.1) | false ↦ all_passing P xs all.1 ]

  pass_test : (xs : List X) → AllByRecursion (λ x. test x ≡ true) (filter test xs)
  pass_test [] = tt
  pass_test (x ∷ xs) = elim (test x) as (λ b. test x ≡ b → AllByRecursion (λ y. test y ≡ true) (cond b (x ∷ filter test xs) (filter test xs))) [ true ↦ λ is. (is, pass_test xs) | false ↦ λ is. pass_test xs ] refl

  once_passing : (xs : List X) → AreOnce xs → AreOnce (filter test xs)
  once_passing [] once = tt
  once_passing (x ∷ xs) once = elim (test x) as (λ b. AreOnce (cond b (x ∷ filter test xs) (filter test xs))) [ true ↦ (all_passing (λ y. x ≢ y) xs once.0, once_passing xs once.1) | false ↦ once_passing xs once.1 ]

  in_passing : (xs : List X) (x : X) → Contains xs x → test x ≡ true → Contains (filter test xs) x
  in_passing [] x among passes = among
  in_passing (y ∷ xs) x among passes = elim (test y) as (λ b. test y ≡ b → Contains (cond b (y ∷ filter test xs) (filter test xs)) x) [
    | true ↦ λ is. elim (first_or_later y x xs among) [
      | inl same ↦ subst (Contains (y ∷ filter test xs)) same (at_head y (filter test xs))
      | inr later ↦ in_tail y x (filter test xs) (in_passing xs x later passes)
    ]
    | false ↦ λ is. elim (first_or_later y x xs among) [
      | inl same ↦ absurd (let wrong : false ≡ true = sym is ∙ ap test same ∙ passes in cc)
      | inr later ↦ in_passing xs x later passes
    ]
  ] refl

  pub fewer_passing : (xs : List X) → length (filter test xs) ≤ length xs
  fewer_passing [] = omega arith
  fewer_passing (x ∷ xs) = let rest = fewer_passing xs in elim (test x) as (λ b. length (cond b (x ∷ filter test xs) (filter test xs)) ≤ length (x ∷ xs)) [ true ↦ omega arith | false ↦ omega arith ]

  -- of all that is so, all that passes
  pub passing_all : (IsSo : X → Type 0) (xs : List X) → AreAll IsSo xs → AreAll (λ x. IsSo x × (test x ≡ true)) (filter test xs)
  passing_all IsSo xs all = record {
    once = once_passing xs all.once;
    each = all_both IsSo (λ x. test x ≡ true) (λ x. IsSo x × (test x ≡ true)) (λ x is passes. (is, passes)) (filter test xs) (all_passing IsSo xs all.each) (pass_test xs);
    complete = λ x is. in_passing xs x (all.complete x is.0) is.1;
  }

  -- the first list and then the second, of those that pass and those that do not
  both_all : (IsSo : X → Type 0) (xs ys : List X) → AreAll (λ x. IsSo x × (test x ≡ true)) xs → AreAll (λ x. IsSo x × (not (test x) ≡ true)) ys → AreAll IsSo (xs ++ ys)
  both_all IsSo xs ys one other = record {
    once = once_append xs ys one.once other.once
        (λ x among. all_weaker (λ y. IsSo y × (not (test y) ≡ true)) (λ y. x ≢ y) (λ y is same. not_both (test x) (of_each (λ z. IsSo z × (test z ≡ true)) xs x one.each among).1 (ap (λ z. not (test z)) same ∙ is.1)) ys other.each);
    each = all_append IsSo xs ys (all_weaker (λ x. IsSo x × (test x ≡ true)) IsSo (λ x is. is.0) xs one.each) (all_weaker (λ x. IsSo x × (not (test x) ≡ true)) IsSo (λ x is. is.0) ys other.each);
    complete = λ x is. elim (test x) as (λ b. test x ≡ b → Contains (xs ++ ys) x) [
      | true ↦ λ passes. Contains-append_left xs ys x (one.complete x (is, passes))
      | false ↦ λ fails. Contains-append_right xs ys x (other.complete x (is, not_from_false (test x) fails))
    ] refl;
  }
    where
      not_both : (b : Bool) → b ≡ true → not b ≡ true → ⊥
      not_both true is isnt = absurd (let wrong : false ≡ true = isnt in cc)
      not_both false is isnt = absurd (let wrong : false ≡ true = is in cc)

-- all that is kept under names, as a list
pub kept_all : {X : Type 0} (things : Names X) (keeps : Name → Bool) (list : List (Name × X)) → AreAll (IsUnder things) list → AreAll (IsUnder (names.retain_keys things keeps)) (filter (λ entry. keeps entry.0) list)
kept_all {X} things keeps list all =
    let passing = passing_all (λ (entry : Name × X). keeps entry.0) (IsUnder things) list all in
    record {
      once = passing.once;
      each = all_weaker (λ (entry : Name × X). IsUnder things entry × (keeps entry.0 ≡ true)) (IsUnder (names.retain_keys things keeps)) (λ entry is. still_kept things keeps entry.0 is.1 ∙ is.0)
          (filter (λ entry. keeps entry.0) list) passing.each;
      complete = λ entry is. let was = was_kept things keeps entry.0 entry.1 is in passing.complete entry (was.1, was.0);
    }

-- no more is kept than there was
pub kept_fewer : {X : Type 0} (things : Names X) (keeps : Name → Bool) → names.len (names.retain_keys things keeps) ≤ names.len things
kept_fewer {X} things keeps =
    let all = entries_all things in
    let some = kept_all things keeps (names.entries things) all in
    let kept = filter (λ (entry : Name × X). keeps entry.0) (names.entries things) in
    let many = len_all itself names.empty (names.entries things) (all_new itself things (names.entries things) all) in
    let few = len_all itself names.empty kept (all_new itself (names.retain_keys things keeps) kept some) in
    let one = ap names.len (all_named things (names.entries things) all) in
    let other = ap names.len (all_named (names.retain_keys things keeps) kept some) in
    let none = len-empty name_cmp X in
    let fewer = fewer_passing (λ (entry : Name × X). keeps entry.0) (names.entries things) in
    omega arith

-- ---- views

-- those that are named by none of a list but themselves or earlier ones of it stay so in a part of the list
before_passing : (test : Name × QueryTree → Bool) (list : List (Name × QueryTree)) → NameViewsBefore list → NameViewsBefore (filter test list)
before_passing test [] before = tt
before_passing test (view ∷ list) before = elim (test view) as (λ b. NameViewsBefore (cond b (view ∷ filter test list) (filter test list))) [
  | true ↦ ((before.0.0, all_passing test (λ later. names_query later.0 view.1 ≡ false) list before.0.1), before_passing test list before.1)
  | false ↦ before_passing test list before.1
]

-- those of the first list name none of the second
before_append : (xs ys : List (Name × QueryTree)) → NameViewsBefore xs → NameViewsBefore ys → AllByRecursion (λ view. AllByRecursion (λ later. names_query later.0 view.1 ≡ false) ys) xs → NameViewsBefore (xs ++ ys)
before_append [] ys one other free = other
before_append (view ∷ xs) ys one other free = ((one.0.0, all_append (λ later. names_query later.0 view.1 ≡ false) xs ys one.0.1 free.0), before_append xs ys one.1 other free.1)

pub begun_all : (views : Names QueryTree) (xs ys : List (Name × QueryTree)) → IsBegun views (xs ++ ys) → IsBegun (put_all_named itself views xs) ys
begun_all views [] ys is = is
begun_all views (view ∷ xs) ys is = begun_all (names.insert views view.0 view.1) xs ys (begun_further views view (xs ++ ys) is)

pub put_both : {X : Type 0} (things : Names X) (xs ys : List (Name × X)) → put_all_named itself things (xs ++ ys) ≡ put_all_named itself (put_all_named itself things xs) ys
put_both things [] ys = refl
put_both things (x ∷ xs) ys = put_both (names.insert things x.0 x.1) xs ys

module _ (views : Names QueryTree) (keeps : Name → Bool) (closed : (name : Name) (query : QueryTree) → names.get views name ≡ Some query → keeps name ≡ true → AllByRecursion (λ other. has views other ≡ true → keeps other ≡ true) (names_in query)) where
  -- a view that is kept names none that is left out
  names_kept : (view later : Name × QueryTree) → IsUnder views view → keeps view.0 ≡ true → IsUnder views later → keeps later.0 ≡ false → names_query later.0 view.1 ≡ false
  names_kept view later there kept also left = elim (names_query later.0 view.1) as (λ b. names_query later.0 view.1 ≡ b → b ≡ false) [
    | true ↦ λ named.
        let one = some_of_any (same_name later.0) (names_in view.1) named in
        let name : later.0 ≡ one.0 = same_name-true later.0 one.0 one.2 in
        let must = of_each (λ other. has views other ≡ true → keeps other ≡ true) (names_in view.1) one.0 (closed view.0 view.1 there kept) one.1 (ap is_some (ap (names.get views) (sym name) ∙ also)) in
        absurd (let wrong : false ≡ true = sym left ∙ ap keeps name ∙ must in cc)
    | false ↦ λ free. refl
  ] refl

  -- those that are kept, in order, and then the others
  pub record KeptFirst : Type 0 where
    pub kept : List (Name × QueryTree)
    pub left : List (Name × QueryTree)
    pub all_kept : AreAll (IsUnder (names.retain_keys views keeps)) kept
    pub all : AreAll (IsUnder views) (kept ++ left)
    pub before : NameViewsBefore (kept ++ left)

  left_out : (b : Bool) → not b ≡ true → b ≡ false
  left_out true isnt = absurd (let wrong : false ≡ true = isnt in cc)
  left_out false isnt = refl

  pub kept_first : (list : List (Name × QueryTree)) → AreAll (IsUnder views) list → NameViewsBefore list → KeptFirst
  kept_first list all before =
      let test = λ (view : Name × QueryTree). keeps view.0 in
      let one = passing_all test (IsUnder views) list all in
      let other = passing_all (λ view. not (test view)) (IsUnder views) list all in
      record {
        kept = filter test list;
        left = filter (λ view. not (test view)) list;
        all_kept = kept_all views keeps list all;
        all = both_all test (IsUnder views) (filter test list) (filter (λ view. not (test view)) list) one other;
        before = before_append (filter test list) (filter (λ view. not (test view)) list) (before_passing test list before) (before_passing (λ view. not (test view)) list before)
            (all_weaker (λ (view : Name × QueryTree). IsUnder views view × (keeps view.0 ≡ true)) (λ view. AllByRecursion (λ later. names_query later.0 view.1 ≡ false) (filter (λ view. not (test view)) list))
            (λ view is. all_weaker (λ (later : Name × QueryTree). IsUnder views later × (not (keeps later.0) ≡ true)) (λ later. names_query later.0 view.1 ≡ false)
            (λ later also. names_kept view later is.0 is.1 also.0 (left_out (keeps later.0) also.1)) (filter (λ view. not (test view)) list) other.each)
            (filter test list) one.each);
      }
