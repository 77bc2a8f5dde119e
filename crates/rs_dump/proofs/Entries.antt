-- Entries of a map.
use Rattle.std.proofs.Common.{◌≡◌, ◌∙◌, suc, true, false, cond, List, [], ◌∷◌, Some, None, refl, sym, arith}
use Rattle.std.specs.FinMap as names
use Rattle.std.specs.FinMap.{find, get-entries}
use Rattle.std.specs.Ordering.{eq_by_cmp}
use Rattle.std.specs.Cmp.{Equal-is}
use Rattle.std.specs.Prelude.{Contains, Option, is_some}
use Rattle.std.proofs.lemmas.Bool.{false≢true}
use Rattle.std.proofs.lemmas.Option.{none-some, same_Some}
use Rattle.rs_catalog.proofs.NameOrder.{name_cmp-antisymmetric}
use Rattle.rs_facts.specs.Fact.{Name, Names, name_cmp}
use Rattle.rs_machine.specs.State.{has}

pub same_name : (a b : Name) → eq_by_cmp name_cmp a b ≡ true → a ≡ b
same_name a b e = name_cmp-antisymmetric a b ((Equal-is (name_cmp a b)).0 e)

later_there : {X : Type 0} (x y : X) (xs : List X) → Contains xs y → Contains (x ∷ xs) y
later_there x y xs there = (suc there.0, omega (arith, there.1), there.2)

found_there : {X : Type 0} (entries : List (Name × X)) (name : Name) (x : X) → find name_cmp name entries ≡ Some x → Contains entries (name, x)
found_there [] name x found = absurd (none-some x found)
found_there (e ∷ es) name x found =
    elim (eq_by_cmp name_cmp name e.0) as (λ b. eq_by_cmp name_cmp name e.0 ≡ b → cond b (Some e.1) (find name_cmp name es) ≡ Some x → Contains (e ∷ es) (name, x)) [
      | true ↦ λ same is. (0, omega arith, λ i. (sym (same_name name e.0 same) i, same_Some e.1 x is i))
      | false ↦ λ other is. later_there e (name, x) es (found_there es name x is)
    ] refl found

pub entry_there : {X : Type 0} (values : Names X) (name : Name) (x : X) → names.get values name ≡ Some x → Contains (names.entries values) (name, x)
entry_there values name x there = found_there (names.entries values) name x (sym (get-entries values name) ∙ there)

pub has_one : {X : Type 0} (values : Names X) (name : Name) → has values name ≡ true → (x : X) × (names.get values name ≡ Some x)
has_one {X} values name there = of (names.get values name) there where
  of : (found : Option X) → is_some found ≡ true → (x : X) × (found ≡ Some x)
  of None none = absurd (false≢true none)
  of (Some x) some = (x, refl)
