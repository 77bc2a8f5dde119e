-- Laws of finite maps by name: what is there after one name took a value.
use Rattle.std.proofs.Common.{◌≡◌, true, false, cond, Option, Some, None, refl, sym, ap, ◌∙◌, ◌⊎◌, inl, inr}
use Rattle.std.specs.Prelude.{unwrap_or, is_some}
use Rattle.std.specs.Ordering.{eq_by_cmp}
use Rattle.std.specs.Cmp.{Equal-is, eq_by_cmp_equiv}
use Rattle.std.specs.FinMap as names
use Rattle.std.specs.FinMap.{get-insert, get-remove, same_map}
use Rattle.rs_facts.specs.Fact.{Name, Names, name_cmp}
use Rattle.rs_catalog.proofs.NameOrder.{name_cmp-total, name_cmp-antisymmetric}

pub some_same : {X : Type 0} (x y : X) → Some x ≡ Some y → x ≡ y
some_same x y e = ap (λ o. unwrap_or o x) e

pub none_some : {X : Type 0} {P : Type 0} (x : X) → None ≡ Some x → P
none_some x e = cc

pub same_name-true : (q key : Name) → eq_by_cmp name_cmp q key ≡ true → q ≡ key
same_name-true q key e = name_cmp-antisymmetric q key ((Equal-is (name_cmp q key)).0 e)

-- to put under a name what stands there changes nothing
pub insert-same : {X : Type 0} (values : Names X) (key : Name) (value : X) → names.get values key ≡ Some value → names.insert values key value ≡ values
insert-same values key value there = same_map name_cmp-total name_cmp-antisymmetric _ _ (λ q.
    get-insert name_cmp-total values key value q ∙ elim (eq_by_cmp name_cmp q key) as (λ b. eq_by_cmp name_cmp q key ≡ b → cond b (Some value) (names.get values q) ≡ names.get values q) [
      | true ↦ λ e. sym there ∙ ap (names.get values) (sym (same_name-true q key e))
      | false ↦ λ e. refl
    ] refl)

pub get-insert_here : {X : Type 0} (values : Names X) (key : Name) (value : X) → names.get (names.insert values key value) key ≡ Some value
get-insert_here values key value = get-insert name_cmp-total values key value key ∙ ap (λ b. cond b (Some value) (names.get values key)) ((eq_by_cmp_equiv name_cmp-total).refl key)

-- what stands in a map after a name took a value: that value, or what stood there before
pub cases_insert : {X : Type 0} (values : Names X) (key : Name) (value : X) (q : Name) (found : X)
    → names.get (names.insert values key value) q ≡ Some found → ((q ≡ key) × (value ≡ found)) ⊎ (names.get values q ≡ Some found)
cases_insert values key value q found there =
    elim (eq_by_cmp name_cmp q key) as (λ b. eq_by_cmp name_cmp q key ≡ b → cond b (Some value) (names.get values q) ≡ Some found → ((q ≡ key) × (value ≡ found)) ⊎ (names.get values q ≡ Some found)) [
      | true ↦ λ e f. inl (same_name-true q key e, some_same value found f)
      | false ↦ λ e f. inr f
    ] refl (sym (get-insert name_cmp-total values key value q) ∙ there)

pub some_there : {X : Type 0} (o : Option X) (x : X) → o ≡ Some x → is_some o ≡ true
some_there o x e = ap is_some e

-- what stands in a map after a name was taken out stood there before
pub before_remove : {X : Type 0} (values : Names X) (key : Name) (q : Name) (found : X) → names.get (names.remove values key) q ≡ Some found → names.get values q ≡ Some found
before_remove values key q found there =
    elim (eq_by_cmp name_cmp q key) as (λ b. cond b None (names.get values q) ≡ Some found → names.get values q ≡ Some found) [
      | true ↦ λ e. none_some found e
      | false ↦ λ e. e
    ] (sym (get-remove name_cmp-total values key q) ∙ there)
