-- What stands under names, once a name took a value or went.
use Rattle.std.proofs.Common.{◌≡◌, ◌≢◌, ◌∙◌, ℕ, ◌+◌, ◌-◌, ◌<◌, ◌≤◌, ◌⊎◌, inl, inr, Bool, true, false, ◌||◌, cond, Some, None, is_some, refl, sym, ap, subst, arith}
use Rattle.std.specs.Prelude.{nat_lt}
use Rattle.std.specs.Ordering.{eq_by_cmp}
use Rattle.std.specs.Cmp.{Equal-is, eq_by_cmp_equiv}
use Rattle.std.specs.FinMap as names
use Rattle.std.specs.FinMap.{get-insert, get-remove, get-empty, len-empty, len-insert, len-remove}
use Rattle.std.proofs.lemmas.Bool.{ltb-true}
use Rattle.std.specs.Prelude.{unwrap_or}
use Rattle.rs_facts.specs.Fact.{Name, Names, name_cmp}
use Rattle.rs_facts.specs.Insert.{same_name}
use Rattle.rs_facts.specs.Query.{RouteEnds}
use Rattle.rs_machine.specs.State.{has}
use Rattle.rs_machine.specs.Lawful.{Each, OnRoute}
use Rattle.rs_machine.proofs.NameOrder.{name_cmp-total, name_cmp-antisymmetric}

pub len_none : (X : Type 0) (most : ℕ) → names.len (names.empty {X = X} {R = name_cmp}) ≤ most
len_none X most = let none = len-empty name_cmp X in omega arith

pub some_same : {X : Type 0} (x y : X) → Some x ≡ Some y → x ≡ y
some_same x y e = ap (λ o. unwrap_or o x) e

pub none_some : {X : Type 0} {P : Type 0} (x : X) → None ≡ Some x → P
none_some x e = cc

pub false_true : {P : Type 0} → false ≡ true → P
false_true e = cc

pub either_false : (a b : Bool) → a || b ≡ false → (a ≡ false) × (b ≡ false)
either_false true b e = false_true (sym e)
either_false false b e = (refl, e)

pub same_name-true : (a b : Name) → same_name a b ≡ true → a ≡ b
same_name-true a b e = name_cmp-antisymmetric a b ((Equal-is (name_cmp a b)).0 e)

pub same_name-false : (a b : Name) → same_name a b ≡ false → a ≢ b
same_name-false a b e is = false_true (sym e ∙ subst (λ c. same_name a c ≡ true) is ((eq_by_cmp_equiv name_cmp-total).refl a))

pub same_name-back : (a b : Name) → same_name a b ≡ same_name b a
same_name-back a b = (eq_by_cmp_equiv name_cmp-total).symm a b

pub same_name-itself : (a : Name) → same_name a a ≡ true
same_name-itself a = (eq_by_cmp_equiv name_cmp-total).refl a

room_for_one : (b : Bool) (n most : ℕ) → n < most → cond b n (n + 1) ≤ most
room_for_one true n most h = omega arith
room_for_one false n most h = omega arith

no_more : (b : Bool) (n most : ℕ) → n ≤ most → cond b (n - 1) n ≤ most
no_more true n most h = omega arith
no_more false n most h = h

module _ {X : Type 0} where
  pub each_empty : (IsSo : Name → X → Type 0) → Each names.empty IsSo
  each_empty IsSo name thing there = none_some thing (sym (get-empty name_cmp name) ∙ there)

  pub each_weaker : (things : Names X) (P Q : Name → X → Type 0) → ((name : Name) (thing : X) → P name thing → Q name thing) → Each things P → Each things Q
  each_weaker things P Q weaker each name thing there = weaker name thing (each name thing there)

  pub each_inserted : (things : Names X) (IsSo : Name → X → Type 0) (name : Name) (thing : X) → IsSo name thing → Each things IsSo → Each (names.insert things name thing) IsSo
  each_inserted things IsSo name thing is each q other there =
      elim (eq_by_cmp name_cmp q name) as (λ same. eq_by_cmp name_cmp q name ≡ same → cond same (Some thing) (names.get things q) ≡ Some other → IsSo q other) [
        | true ↦ λ same found. subst (λ n. IsSo n other) (sym (same_name-true q name same)) (subst (IsSo name) (some_same thing other found) is)
        | false ↦ λ same found. each q other found
      ] refl (sym (get-insert name_cmp-total things name thing q) ∙ there)

  pub each_removed : (things : Names X) (IsSo : Name → X → Type 0) (name : Name) → Each things IsSo → Each (names.remove things name) IsSo
  each_removed things IsSo name each q other there =
      elim (eq_by_cmp name_cmp q name) as (λ same. cond same None (names.get things q) ≡ Some other → IsSo q other) [
        | true ↦ λ found. none_some other found
        | false ↦ λ found. each q other found
      ] (sym (get-remove name_cmp-total things name q) ∙ there)

  -- what stands at a name after another took a value: that value, or what stood there
  abbrev pub AtInserted : Names X → Name → X → Name → X → Type 0
  AtInserted things name thing q other = ((same_name q name ≡ true) × (thing ≡ other)) ⊎ ((same_name q name ≡ false) × (names.get things q ≡ Some other))

  pub at_inserted : (things : Names X) (name : Name) (thing : X) (q : Name) (other : X) → names.get (names.insert things name thing) q ≡ Some other → AtInserted things name thing q other
  at_inserted things name thing q other there =
      elim (same_name q name) as (λ same. same_name q name ≡ same → cond same (Some thing) (names.get things q) ≡ Some other → AtInserted things name thing q other) [
        | true ↦ λ same found. inl (same, some_same thing other found)
        | false ↦ λ same found. inr (same, found)
      ] refl (sym (get-insert name_cmp-total things name thing q) ∙ there)

  pub inserted_other : (things : Names X) (name : Name) (thing : X) (q : Name) → same_name q name ≡ false → names.get (names.insert things name thing) q ≡ names.get things q
  inserted_other things name thing q apart = get-insert name_cmp-total things name thing q ∙ ap (λ b. cond b (Some thing) (names.get things q)) apart

  -- what stands there after another went
  pub at_removed : (things : Names X) (name q : Name) (other : X) → names.get (names.remove things name) q ≡ Some other → (same_name q name ≡ false) × (names.get things q ≡ Some other)
  at_removed things name q other there =
      elim (same_name q name) as (λ same. same_name q name ≡ same → cond same None (names.get things q) ≡ Some other → (same_name q name ≡ false) × (names.get things q ≡ Some other)) [
        | true ↦ λ same found. none_some other found
        | false ↦ λ same found. (same, found)
      ] refl (sym (get-remove name_cmp-total things name q) ∙ there)

  pub removed_other : (things : Names X) (name q : Name) → same_name q name ≡ false → names.get (names.remove things name) q ≡ names.get things q
  removed_other things name q apart = get-remove name_cmp-total things name q ∙ ap (λ b. cond b None (names.get things q)) apart

  -- a name that stood there still does
  pub has_inserted : (things : Names X) (name : Name) (thing : X) (q : Name) → has things q ≡ true → has (names.insert things name thing) q ≡ true
  has_inserted things name thing q there =
      ap is_some (get-insert name_cmp-total things name thing q)
      ∙ elim (eq_by_cmp name_cmp q name) as (λ same. is_some (cond same (Some thing) (names.get things q)) ≡ true) [ true ↦ refl | false ↦ there ]

  -- what stood there still does, where another name took a value
  pub still_there : (things : Names X) (name : Name) (thing : X) (q : Name) (other : X) → has things name ≡ false → names.get things q ≡ Some other → names.get (names.insert things name thing) q ≡ Some other
  still_there things name thing q other new there =
      get-insert name_cmp-total things name thing q
      ∙ elim (eq_by_cmp name_cmp q name) as (λ same. eq_by_cmp name_cmp q name ≡ same → cond same (Some thing) (names.get things q) ≡ Some other) [
        | true ↦ λ same. false_true (sym new ∙ ap is_some (ap (names.get things) (sym (same_name-true q name same)) ∙ there))
        | false ↦ λ same. there
      ] refl

  -- one more where there was room
  pub len_more : (things : Names X) (name : Name) (thing : X) (most : ℕ) → nat_lt (names.len things) most ≡ true → names.len (names.insert things name thing) ≤ most
  len_more things name thing most room =
      subst (λ n. n ≤ most) (sym (len-insert name_cmp-total things name thing)) (room_for_one (has things name) (names.len things) most (ltb-true (names.len things) most room))

  -- as many, where the name stood there
  pub len_same : (things : Names X) (name : Name) (thing : X) (most : ℕ) → has things name ≡ true → names.len things ≤ most → names.len (names.insert things name thing) ≤ most
  len_same things name thing most there few =
      subst (λ n. n ≤ most) (sym (len-insert name_cmp-total things name thing ∙ ap (λ b. cond b (names.len things) (names.len things + 1)) there)) few

  pub len_less : (things : Names X) (name : Name) (most : ℕ) → names.len things ≤ most → names.len (names.remove things name) ≤ most
  len_less things name most few =
      subst (λ n. n ≤ most) (sym (len-remove name_cmp-total things name)) (no_more (has things name) (names.len things) most few)

-- what lies on a route lies on it when there is one more
pub on_route-more : (routes : Names RouteEnds) (name : Name) (ends : RouteEnds) (route : Name) (IsSo : RouteEnds → Type 0) → has routes name ≡ false → OnRoute routes route IsSo → OnRoute (names.insert routes name ends) route IsSo
on_route-more routes name ends route IsSo new on = record { ends = on.ends; there = still_there routes name ends route on.ends new on.there; is_so = on.is_so }
