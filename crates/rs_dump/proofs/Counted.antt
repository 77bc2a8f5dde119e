-- Views in turn are each once and each there: they are no more than the catalogue has.
use Rattle.std.proofs.Common.{◌≡◌, ◌≢◌, ◌∙◌, ℕ, ◌<◌, ◌≤◌, true, false, cond, inl, inr, List, [], ◌∷◌, ◌++◌, Option, Some, ap, append-nil, append_assoc, arith, is_some, length, map, refl, subst, sym}
use Rattle.std.specs.Cmp.{eq_by_cmp_equiv}
use Rattle.std.specs.FinMap as names
use Rattle.std.specs.FinMap.{find, get-entries, len-entries}
use Rattle.std.specs.List.{AllByRecursion, IsDistinct, list_any}
use Rattle.std.specs.Map.{lookup}
use Rattle.std.specs.Ordering.{eq_by_cmp}
use Rattle.std.specs.Prelude.{Contains}
use Rattle.std.proofs.lemmas.Bool.{false≢true, or_cases}
use Rattle.std.proofs.lemmas.List.{length-map, length_push}
use Rattle.std.proofs.lemmas.List.Elements.{All-append, All-from_recursion, recursion_from_All}
use Rattle.std.proofs.lemmas.Map.Keys.{IsDistinct-push}
use Rattle.std.proofs.lemmas.Map.Steps.{length-le_from_keys}
use Rattle.arrayvec.specs.ArrayString.{ArrayString}
use Rattle.rs_catalog.specs.Definitions.{ViewItem}
use Rattle.rs_catalog.proofs.NameOrder.{name_cmp-total}
use Rattle.rs_facts.specs.Fact.{Name, Names, name_cmp}
use Rattle.rs_machine.specs.State.{has}
use Rattle.rs_dump.specs.Views.{AreInTurn, HasAllThatPass, IsSorted, Known, names_of}
use Rattle.rs_dump.proofs.Entries.{same_name}
use Rattle.rs_dump.proofs.Viewed.{all_there, at_head, in_tail}

-- ---- a name among others

some_same : (name : Name) (those : List Name) → list_any (eq_by_cmp name_cmp name) those ≡ true → Contains those name
some_same name [] told = absurd (false≢true told)
some_same name (other ∷ others) told = elim (or_cases (eq_by_cmp name_cmp name other) (list_any (eq_by_cmp name_cmp name) others) told) [
  | inl here ↦ subst (Contains (other ∷ others)) (sym (same_name name other here)) (at_head other others)
  | inr later ↦ in_tail other name others (some_same name others later)
]

none_same : (name : Name) (those : List Name) → (Contains those name → ⊥) → list_any (eq_by_cmp name_cmp name) those ≡ false
none_same name those missing = elim (list_any (eq_by_cmp name_cmp name) those) as (λ b. list_any (eq_by_cmp name_cmp name) those ≡ b → b ≡ false) [
  | true ↦ λ some. absurd (missing (some_same name those some))
  | false ↦ λ none. refl
] refl

same_find : {X : Type 0} (name : Name) (entries : List (Name × X)) → lookup (eq_by_cmp name_cmp name) entries ≡ find name_cmp name entries
same_find name [] = refl
same_find name (e ∷ es) = ap (cond (eq_by_cmp name_cmp name e.0) (Some e.1)) (same_find name es)

-- ---- names that are each once, and each there

no_name_twice : IsDistinct (eq_by_cmp name_cmp) []
unfolding IsDistinct
no_name_twice = tt

once_in_turn : (known : Known) (before : List Name) (views : List (Name × ViewItem)) → IsDistinct (eq_by_cmp name_cmp) before → AreInTurn known before views
    → IsDistinct (eq_by_cmp name_cmp) (before ++ map (λ (view : Name × ViewItem). view.0) views)
once_in_turn known before [] once turn = subst (IsDistinct (eq_by_cmp name_cmp)) (sym (append-nil before)) once
once_in_turn known before (view ∷ views) once turn =
    subst (IsDistinct (eq_by_cmp name_cmp)) (append_assoc before (view.0 ∷ []) (map (λ (v : Name × ViewItem). v.0) views))
    (once_in_turn known (before ++ view.0 ∷ []) views
    (IsDistinct-push (eq_by_cmp_equiv name_cmp-total) before view.0 once
    (none_same view.0 before (λ there. all_there (λ other. other ≢ view.0) before view.0 turn.0.once there refl))) turn.1)

there_in_turn : (known : Known) (before : List Name) (views : List (Name × ViewItem)) → AreInTurn known before views
    → AllByRecursion (λ name. has known.definitions.views name ≡ true) (map (λ (view : Name × ViewItem). view.0) views)
there_in_turn known before [] turn = tt
there_in_turn known before (view ∷ views) turn = (ap is_some turn.0.there, there_in_turn known (before ++ view.0 ∷ []) views turn.1)

few_names : (views : Names ViewItem) (those : List Name) → IsDistinct (eq_by_cmp name_cmp) those → AllByRecursion (λ name. has views name ≡ true) those → length those ≤ names.len views
few_names views those once there =
    subst (λ (n : ℕ). length those ≤ n) (sym (len-entries views))
    (length-le_from_keys (eq_by_cmp_equiv name_cmp-total) those (names.entries views) once (λ name among.
    ap is_some (same_find name (names.entries views) ∙ sym (get-entries views name)) ∙ all_there (λ other. has views other ≡ true) those name there (some_same name those among)))

-- ---- written views

-- where a view is not written, there are more views than written ones
more_than_written : (known : Known) (written : List Name) (before after : Option (List ℕ)) (name : Name) (view : ViewItem) → IsSorted known written before after
    → names.get known.definitions.views name ≡ Some view → (Contains written name → ⊥) → length written < names.len known.definitions.views
more_than_written known written before after name view sorted there missing =
    let views = known.definitions.views in
    let once : IsDistinct (eq_by_cmp name_cmp) written = subst (IsDistinct (eq_by_cmp name_cmp)) sorted.named (once_in_turn known [] sorted.views no_name_twice sorted.in_turn) in
    let each : AllByRecursion (λ other. has views other ≡ true) written =
    subst (AllByRecursion (λ other. has views other ≡ true)) sorted.named (there_in_turn known [] sorted.views sorted.in_turn) in
    let more : AllByRecursion (λ other. has views other ≡ true) (written ++ name ∷ []) =
    recursion_from_All (λ other. has views other ≡ true) (written ++ name ∷ [])
    (All-append (λ other. has views other ≡ true) written (name ∷ []) (All-from_recursion (λ other. has views other ≡ true) written each)
    (All-from_recursion (λ other. has views other ≡ true) (name ∷ []) (ap is_some there, tt))) in
    let few = few_names views (written ++ name ∷ []) (IsDistinct-push (eq_by_cmp_equiv name_cmp-total) written name once (none_same name written missing)) more in
    omega (arith, length_push written name, few)

-- as many as there are views are all of them
pub all_of_them : (known : Known) (written : List ArrayString) (before after : Option (List ℕ)) → IsSorted known (names_of written) before after
    → names.len known.definitions.views ≤ length written → HasAllThatPass known (names_of written)
all_of_them known written before after sorted many = record {
  each = λ name view there missing.
      absurd (let fewer = more_than_written known (names_of written) before after name view sorted there missing in
      omega (arith, fewer, length-map written (λ (n : ArrayString). n.bytes)));
}
