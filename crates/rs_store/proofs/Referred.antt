-- Referents of a route in memory: one that came and went again, and those that a state has.
use Rattle.std.proofs.Common.{◌≡◌, ◌∙◌, ℕ, Bool, true, false, cond, nat_eq, None, Some, ap, refl, sym}
use Rattle.std.specs.FinMap as names
use Rattle.std.specs.FinMap.{get-insert, get-remove, same_map}
use Rattle.std.specs.Ordering.{eq_by_cmp}
use Rattle.std.specs.Prelude.{Option, is_some}
use Rattle.std.proofs.lemmas.Bool.{eq-eqb, eqb-true, false≢true}
use Rattle.rs_catalog.specs.Definitions.{Definitions, RouteItem, on_numbered, referents_from}
use Rattle.rs_catalog.specs.Referents.{at_number}
use Rattle.rs_catalog.proofs.NameOrder.{name_cmp-antisymmetric, name_cmp-total}
use Rattle.rs_facts.specs.Fact.{Name, Names, name_cmp}
use Rattle.rs_file_meaning.proofs.Named.{same_name}
use Rattle.rs_machine.specs.State.{has}

not_there : {X : Type 0} (found : Option X) → is_some found ≡ false → found ≡ None
not_there None none = refl
not_there (Some x) some = absurd (false≢true (sym some))

-- a name that was put where it was not, and taken out again
pub taken_again : {X : Type 0} (values : Names X) (name : Name) (x : X) → has values name ≡ false → names.remove (names.insert values name x) name ≡ values
taken_again values name x new = same_map name_cmp-total name_cmp-antisymmetric _ _ (λ q.
    get-remove name_cmp-total (names.insert values name x) name q ∙ ap (cond (eq_by_cmp name_cmp q name) None) (get-insert name_cmp-total values name x q) ∙ back q)
  where
    back : (q : Name) → cond (eq_by_cmp name_cmp q name) None (cond (eq_by_cmp name_cmp q name) (Some x) (names.get values q)) ≡ names.get values q
    back q = elim (eq_by_cmp name_cmp q name) as (λ b. eq_by_cmp name_cmp q name ≡ b → cond b None (cond b (Some x) (names.get values q)) ≡ names.get values q) [
      | true ↦ λ same. sym (ap (names.get values) (same_name q name same) ∙ not_there (names.get values name) new)
      | false ↦ λ other. refl
    ] refl

-- the referents of each route are as they were
pub back_as_before : (now mid before : ℕ → Names ℕ) (number : ℕ) (name : Name) (measure : ℕ) → now ≡ at_number number (names.remove (mid number) name) mid
    → mid ≡ at_number number (names.insert (before number) name measure) before → has (before number) name ≡ false → (route : ℕ) → now route ≡ before route
unfolding at_number
back_as_before now mid before number name measure last first new route =
    let here : mid number ≡ names.insert (before number) name measure =
    ap (λ (w : ℕ → Names ℕ). w number) first ∙ ap (λ (b : Bool). cond b (names.insert (before number) name measure) (before number)) (eq-eqb number number refl) in
    elim (nat_eq route number) as (λ b. nat_eq route number ≡ b → now route ≡ before route) [
      | true ↦ λ is. ap (λ (w : ℕ → Names ℕ). w route) last ∙ ap (λ (b : Bool). cond b (names.remove (mid number) name) (mid route)) is
          ∙ ap (λ (m : Names ℕ). names.remove m name) here ∙ taken_again (before number) name measure new ∙ ap before (sym (eqb-true route number is))
      | false ↦ λ isnt. ap (λ (w : ℕ → Names ℕ). w route) last ∙ ap (λ (b : Bool). cond b (names.remove (mid number) name) (mid route)) isnt
          ∙ ap (λ (w : ℕ → Names ℕ). w route) first ∙ ap (λ (b : Bool). cond b (names.insert (before number) name measure) (before route)) isnt
    ] refl

-- the referents of a route that is there are those of its number
pub of_number : (definitions : Definitions) (by_number : ℕ → Names ℕ) (route : Name) (on : RouteItem) → names.get definitions.routes route ≡ Some on
    → referents_from definitions by_number route ≡ by_number on.number
unfolding referents_from
of_number definitions by_number route on there = ap (on_numbered names.empty by_number) there
