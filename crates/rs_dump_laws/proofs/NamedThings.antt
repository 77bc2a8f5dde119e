-- What stands under names, put there one after another.
use Rattle.std.proofs.Common.{◌≡◌, ◌≢◌, ◌∙◌, ℕ, ◌+◌, ◌<◌, ◌≤◌, Bool, true, false, cond, List, [], ◌∷◌, length, Option, Some, None, is_some, refl, sym, ap, subst, arith}
use Rattle.std.specs.Prelude.{fold, unwrap_or}
use Rattle.std.specs.Cmp.{Equal-is, eq_by_cmp_equiv}
use Rattle.std.specs.Option.{option_map}
use Rattle.std.specs.FinMap as names
use Rattle.std.specs.FinMap.{get-empty, get-insert, len-insert, same_map}
use Rattle.rs_facts.specs.Fact.{Name, Names, name_cmp}
use Rattle.rs_facts.specs.Insert.{same_name}
use Rattle.rs_machine.specs.State.{has}
use Rattle.rs_machine.proofs.NameOrder.{name_cmp-total, name_cmp-antisymmetric}
use Rattle.rs_dump_laws.specs.Parts.{AreAll, IsUnder}
use Rattle.rs_dump_laws.proofs.Stores.{Store, AreNew, IsAnsweredBy, answered, listed_new}

pub some_same : {X : Type 0} (x y : X) → Some x ≡ Some y → x ≡ y
some_same x y e = ap (λ o. unwrap_or o x) e

pub same_name-true : (a b : Name) → same_name a b ≡ true → a ≡ b
same_name-true a b e = name_cmp-antisymmetric a b ((Equal-is (name_cmp a b)).0 e)

pub same_name-itself : (a : Name) → same_name a a ≡ true
same_name-itself a = (eq_by_cmp_equiv name_cmp-total).refl a

pub same_name-back : (a b : Name) → same_name a b ≡ same_name b a
same_name-back a b = (eq_by_cmp_equiv name_cmp-total).symm a b

pub same_name-apart : (a b : Name) → a ≢ b → same_name a b ≡ false
same_name-apart a b apart = elim (same_name a b) as (λ t. same_name a b ≡ t → t ≡ false) [
  | true ↦ λ same. absurd (apart (same_name-true a b same))
  | false ↦ λ other. refl
] refl

-- one more, where there was none of the name
pub len_one_more : {X : Type 0} (things : Names X) (name : Name) (thing : X) → has things name ≡ false → names.len (names.insert things name thing) ≡ names.len things + 1
len_one_more things name thing none = len-insert name_cmp-total things name thing ∙ ap (λ b. cond b (names.len things) (names.len things + 1)) none

none_fewer : (b : Bool) (n : ℕ) → n ≤ cond b n (n + 1)
none_fewer true n = omega arith
none_fewer false n = omega arith

pub none_less : {X : Type 0} (things : Names X) (name : Name) (thing : X) → names.len things ≤ names.len (names.insert things name thing)
none_less things name thing = subst (λ n. names.len things ≤ n) (sym (len-insert name_cmp-total things name thing)) (none_fewer (has things name) (names.len things))

-- things are put under their names as their values
module _ {X V : Type 0} (value : X → V) where
  abbrev pub put_named : Names V → (Name × X) → Names V
  put_named things entry = names.insert things entry.0 (value entry.1)

  -- asked by a name
  abbrev pub named_store : Store (Names V) (Name × X) Name V
  named_store = record {
    put = put_named;
    look = λ things q. names.get things q;
    answers = λ entry q. same_name q entry.0;
    value = λ entry. value entry.1;
    looked = λ things entry q. get-insert name_cmp-total things entry.0 (value entry.1) q;
  }

  abbrev pub put_all_named : Names V → List (Name × X) → Names V
  put_all_named things list = fold put_named things list

  abbrev values_of : Names X → Name → Option V
  values_of things q = option_map value (names.get things q)

  one_valued : (things : Names X) (q : Name) (v : V) (o : Option X) → names.get things q ≡ o → option_map value o ≡ Some v
      → (entry : Name × X) × (IsUnder things entry) × (same_name q entry.0 ≡ true) × (value entry.1 ≡ v)
  one_valued things q v None there e = absurd (let wrong : None ≡ Some v = e in cc)
  one_valued things q v (Some thing) there e = ((q, thing), there, same_name-itself q, some_same (value thing) v e)

  named_answers : (things : Names X) → IsAnsweredBy named_store (IsUnder things) (values_of things)
  named_answers things = record {
    each = λ entry is q same. ap (option_map value) (ap (names.get things) (same_name-true q entry.0 same) ∙ is);
    all = λ q v e. one_valued things q v (names.get things q) refl e;
    one = λ a b is other q same too.
        let name : a.0 ≡ b.0 = sym (same_name-true q a.0 same) ∙ same_name-true q b.0 too in
        let thing : a.1 ≡ b.1 = some_same a.1 b.1 (sym is ∙ ap (names.get things) name ∙ other) in
        λ i. (name i, thing i);
  }

  -- of all that stands under names, put under them one after another, the values stand there
  pub all_valued : (things : Names X) (list : List (Name × X)) → AreAll (IsUnder things) list → (q : Name) → names.get (put_all_named names.empty list) q ≡ option_map value (names.get things q)
  all_valued things list all = answered named_store (IsUnder things) (values_of things) (named_answers things) names.empty list all (λ q. get-empty name_cmp q)

  -- no name is there when its turn comes
  abbrev pub AreNewNames : Names V → List (Name × X) → Type 0
  AreNewNames things [] = Unit {0}
  AreNewNames things (entry ∷ more) = (has things entry.0 ≡ false) × AreNewNames (put_named things entry) more

  new_names : (things : Names V) (list : List (Name × X)) → AreNew named_store things list → AreNewNames things list
  new_names things [] new = tt
  new_names things (entry ∷ more) new = (ap is_some (new.0 entry.0 (same_name-itself entry.0)), new_names (put_named things entry) more new.1)

  pub all_new : (things : Names X) (list : List (Name × X)) → AreAll (IsUnder things) list → AreNewNames names.empty list
  all_new things list all = new_names names.empty list (listed_new named_store (IsUnder things) (values_of things) (named_answers things) names.empty list all (λ q. get-empty name_cmp q))

  none_less_after : (things : Names V) (list : List (Name × X)) → names.len things ≤ names.len (put_all_named things list)
  none_less_after things [] = omega arith
  none_less_after things (entry ∷ more) =
      let one = none_less things entry.0 (value entry.1) in let rest = none_less_after (put_named things entry) more in omega arith

  -- there is room for the first of those for all of which there is room
  pub room_for_first : (things : Names V) (entry : Name × X) (more : List (Name × X)) (most : ℕ) → has things entry.0 ≡ false
      → names.len (put_all_named things (entry ∷ more)) ≤ most → names.len things < most
  room_for_first things entry more most new few =
      let one = len_one_more things entry.0 (value entry.1) new in let rest = none_less_after (put_named things entry) more in omega arith

  pub len_all : (things : Names V) (list : List (Name × X)) → AreNewNames things list → names.len (put_all_named things list) ≡ names.len things + length list
  len_all things [] new = omega arith
  len_all things (entry ∷ more) new =
      let one = len_one_more things entry.0 (value entry.1) new.0 in let rest = len_all (put_named things entry) more new.1 in omega arith

abbrev pub itself : {X : Type 0} → X → X
itself x = x

same_option : {X : Type 0} (o : Option X) → option_map itself o ≡ o
same_option None = refl
same_option (Some x) = refl

-- all that stands under names, put under them one after another, is that again
pub all_named : {X : Type 0} (things : Names X) (list : List (Name × X)) → AreAll (IsUnder things) list → put_all_named itself names.empty list ≡ things
all_named things list all =
    same_map name_cmp-total name_cmp-antisymmetric (put_all_named itself names.empty list) things (λ q. all_valued itself things list all q ∙ same_option (names.get things q))
