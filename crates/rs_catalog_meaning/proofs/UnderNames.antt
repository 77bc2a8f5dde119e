-- What stands under the names of a list, where they rise.
use Rattle.std.proofs.Common.{◌≡◌, ◌≤◌, ℕ, true, false, cond, Some, None, is_some, List, [], ◌∷◌, length, map, refl, sym, ap, subst, ◌∙◌, arith}
use Rattle.std.specs.Prelude.{Contains, ◌≢◌}
use Rattle.std.specs.List.{AllByRecursion}
use Rattle.std.specs.Ordering.{eq_by_cmp, is_lt, is_eq}
use Rattle.std.specs.declared.cmp.Ordering.{Ordering}
use Rattle.std.specs.declared.cmp.Ordering.TheVariants.{Less, Equal, Greater}
use Rattle.std.specs.Cmp.{Equal-is, eq_by_cmp_equiv}
use Rattle.std.specs.FinMap as names
use Rattle.std.specs.FinMap.{entries-from_sorted, find, get-empty, get-from_sorted, is_sorted, len-entries}
use Rattle.std.specs.FinMap.Entries.{below_all}
use Rattle.std.proofs.lemmas.Bool.{and_parts, false≢true}
use Rattle.std.proofs.lemmas.List.{length-map}
use Rattle.std.proofs.lemmas.List.Elements.{All-contains, All-from_recursion}
use Rattle.std.proofs.lemmas.Option.{none-some, same_Some}
use Rattle.rs_facts.specs.Fact.{Name, name_cmp}
use Rattle.rs_machine.specs.Lawful as lawful
use Rattle.rs_machine.proofs.NameOrder.{name_cmp-antisymmetric, name_cmp-total}
use Rattle.rs_catalog_meaning.proofs.Each.{said_each}
use Rattle.rs_catalog_meaning.proofs.NameOrder.{to_T}

-- ---- what is so of each item is so of what stands under each name

same_name : (a b : Name) → eq_by_cmp name_cmp a b ≡ true → a ≡ b
same_name a b e = name_cmp-antisymmetric a b ((Equal-is (name_cmp a b)).0 e)

module _ {X : Type 0} (P : Name → X → Type 0) where
  found_so : (es : List (Name × X)) → AllByRecursion (λ e. P e.0 e.1) es → (name : Name) (x : X) → find name_cmp name es ≡ Some x → P name x
  found_so [] all name x found = absurd (none-some x found)
  found_so (e ∷ es) all name x found =
      elim (eq_by_cmp name_cmp name e.0) as (λ b. eq_by_cmp name_cmp name e.0 ≡ b → cond b (Some e.1) (find name_cmp name es) ≡ Some x → P name x) [
        | true ↦ λ same is. subst (λ n. P n x) (sym (same_name name e.0 same)) (subst (P e.0) (same_Some e.1 x is) all.0)
        | false ↦ λ other is. found_so es all.1 name x is
      ] refl found

  pub each_so : (es : List (Name × X)) → is_sorted name_cmp es ≡ true → AllByRecursion (λ e. P e.0 e.1) es → lawful.Each (names.from_sorted {R = name_cmp} es) P
  each_so es sorted all name x there = found_so es all name x (sym (get-from_sorted name_cmp es name (to_T (is_sorted name_cmp es) sorted)) ∙ there)

pub no_such : {X : Type 0} (es : List (Name × X)) (name : Name) → AllByRecursion (λ e. e.0 ≢ name) es → find name_cmp name es ≡ None
no_such [] name all = refl
no_such (e ∷ es) name all =
    elim (eq_by_cmp name_cmp name e.0) as (λ b. eq_by_cmp name_cmp name e.0 ≡ b → cond b (Some e.1) (find name_cmp name es) ≡ None) [
      | true ↦ λ same. absurd (all.0 (sym (same_name name e.0 same)))
      | false ↦ λ other. no_such es name all.1
    ] refl

len_sorted : {X : Type 0} (es : List (Name × X)) → is_sorted name_cmp es ≡ true → names.len (names.from_sorted {R = name_cmp} es) ≡ length es
len_sorted es sorted = len-entries (names.from_sorted es) ∙ ap length (entries-from_sorted name_cmp es (to_T (is_sorted name_cmp es) sorted))

pub few_sorted : {X Z : Type 0} (entry : Z → Name × X) (zs : List Z) (most : ℕ) → is_sorted name_cmp (map entry zs) ≡ true → length zs ≤ most
    → names.len (names.from_sorted {R = name_cmp} (map entry zs)) ≤ most
few_sorted entry zs most sorted few = omega (arith, len_sorted (map entry zs) sorted, length-map zs entry)

-- nothing stands in an empty map
pub none_so : {X : Type 0} (P : Name → X → Type 0) → lawful.Each (names.empty {X = X} {R = name_cmp}) P
none_so P name x there = absurd (none-some x (sym (get-empty name_cmp name) ∙ there))

-- ---- and the converse

after : (a b : Name) → is_lt (name_cmp a b) ≡ true → eq_by_cmp name_cmp b a ≡ false
after a b less = (eq_by_cmp_equiv name_cmp-total).symm b a ∙ not_equal (name_cmp a b) less
  where
    not_equal : (order : Ordering) → is_lt order ≡ true → is_eq order ≡ false
    not_equal Less e = refl
    not_equal Equal e = absurd (false≢true e)
    not_equal Greater e = refl

below_each : {X : Type 0} (a : Name) (es : List (Name × X)) → below_all name_cmp a es ≡ true → AllByRecursion (λ e. is_lt (name_cmp a e.0) ≡ true) es
below_each a [] below = tt
below_each a (e ∷ es) below = let parts = and_parts (is_lt (name_cmp a e.0)) (below_all name_cmp a es) below in (parts.0, below_each a es parts.1)

found_after : {X : Type 0} (a name : Name) (es : List (Name × X)) (x : X) → below_all name_cmp a es ≡ true → find name_cmp name es ≡ Some x → eq_by_cmp name_cmp name a ≡ false
found_after {X} a name es x below found = after a name (found_so (λ (n : Name) (y : X). is_lt (name_cmp a n) ≡ true) es (below_each a es below) name x found)

each_found : {X : Type 0} (P : Name → X → Type 0) (es : List (Name × X)) → is_sorted name_cmp es ≡ true → ((name : Name) (x : X) → find name_cmp name es ≡ Some x → P name x)
    → AllByRecursion (λ e. P e.0 e.1) es
each_found P [] sorted so = tt
each_found P (e ∷ es) sorted so =
    let parts = and_parts (below_all name_cmp e.0 es) (is_sorted name_cmp es) sorted in (
      so e.0 e.1 (ap (λ b. cond b (Some e.1) (find name_cmp e.0 es)) ((eq_by_cmp_equiv name_cmp-total).refl e.0)),
      each_found P es parts.1 (λ name x found. so name x (ap (λ b. cond b (Some e.1) (find name_cmp name es)) (found_after e.0 name es x parts.0 found) ∙ found)),
    )

-- what is so under each name is so of each item
pub each_back : {X : Type 0} (P : Name → X → Type 0) (es : List (Name × X)) → is_sorted name_cmp es ≡ true → lawful.Each (names.from_sorted {R = name_cmp} es) P
    → AllByRecursion (λ e. P e.0 e.1) es
each_back P es sorted each = each_found P es sorted (λ name x found. each name x (get-from_sorted name_cmp es name (to_T (is_sorted name_cmp es) sorted) ∙ found))

-- an item is found under its name
pub under_name : {X Z : Type 0} (entry : Z → Name × X) (zs : List Z) (z : Z) → is_sorted name_cmp (map entry zs) ≡ true → Contains zs z
    → names.get (names.from_sorted {R = name_cmp} (map entry zs)) (entry z).0 ≡ Some (entry z).1
under_name {X} {Z} entry zs z sorted there =
    All-contains (λ (z : Z). names.get (names.from_sorted {R = name_cmp} (map entry zs)) (entry z).0 ≡ Some (entry z).1) zs z
    (All-from_recursion (λ (z : Z). names.get (names.from_sorted {R = name_cmp} (map entry zs)) (entry z).0 ≡ Some (entry z).1) zs
    (said_each entry (λ (e : Name × X). names.get (names.from_sorted {R = name_cmp} (map entry zs)) e.0 ≡ Some e.1) zs
    (each_back (λ (name : Name) (x : X). names.get (names.from_sorted {R = name_cmp} (map entry zs)) name ≡ Some x) (map entry zs) sorted (λ name x is. is))))
    there

pub few_back : {X Z : Type 0} (entry : Z → Name × X) (zs : List Z) (most : ℕ) → is_sorted name_cmp (map entry zs) ≡ true
    → names.len (names.from_sorted {R = name_cmp} (map entry zs)) ≤ most → length zs ≤ most
few_back entry zs most sorted few = omega (arith, few, len_sorted (map entry zs) sorted, length-map zs entry)

-- no item has a name that is not found
pub none_named : {X : Type 0} (es : List (Name × X)) (name : Name) → is_some (find name_cmp name es) ≡ false → AllByRecursion (λ e. e.0 ≢ name) es
none_named [] name none = tt
none_named (e ∷ es) name none =
    elim (eq_by_cmp name_cmp name e.0) as (λ b. eq_by_cmp name_cmp name e.0 ≡ b → is_some (cond b (Some e.1) (find name_cmp name es)) ≡ false → AllByRecursion (λ e. e.0 ≢ name) (e ∷ es)) [
      | true ↦ λ same is. absurd (false≢true (sym is))
      | false ↦ λ other is. (
        λ same. false≢true (sym other ∙ ap (eq_by_cmp name_cmp name) same ∙ (eq_by_cmp_equiv name_cmp-total).refl name),
        none_named es name is,
      )
    ] refl none
