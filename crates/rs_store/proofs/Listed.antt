-- Lists of definitions as a file keeps them, and without one of them.
use Rattle.std.proofs.Common.{◌≡◌, ◌∙◌, Bool, true, false, not, cond, List, [], ◌∷◌, None, All, map, filter, ap, refl, sym}
use Rattle.std.specs.Cmp.{eq_by_cmp_equiv}
use Rattle.std.specs.FinMap as names
use Rattle.std.specs.FinMap.{entries-from_sorted, entries_sorted, get-entries, get-from_sorted, get-remove, same_map}
use Rattle.std.specs.FinMap.Entries.{find-where_key, is_sorted-where_key, where_key}
use Rattle.std.specs.List.{AllByRecursion}
use Rattle.std.specs.Prelude.{Option}
use Rattle.std.proofs.lemmas.List.Elements.{All-from_recursion, recursion_from_All}
use Rattle.rs_catalog.proofs.NameOrder.{name_cmp-antisymmetric, name_cmp-total}
use Rattle.rs_facts.specs.Fact.{Name, Names, name_cmp}
use Rattle.rs_facts.specs.Insert.{same_name}

-- what is so of all items as they are seen is so of all items
pub all_seen : {X Y : Type 0} (P : Y → Type 0) (see : X → Y) (xs : List X) → All P (map see xs) → All (λ x. P (see x)) xs
all_seen {X = X} {Y = Y} P see xs all = All-from_recursion (λ x. P (see x)) xs (each xs (recursion_from_All P (map see xs) all)) where
  each : (xs : List X) → AllByRecursion P (map see xs) → AllByRecursion (λ x. P (see x)) xs
  each [] all = tt
  each (x ∷ xs) all = (all.0, each xs all.1)

-- where a test of each is a test of what is seen of it, those that pass are those that are seen to pass
pub seen_passing : {X Y : Type 0} (see : X → Y) (test : X → Bool) (passes : Y → Bool) (xs : List X) → ((x : X) → test x ≡ passes (see x)) → map see (filter test xs) ≡ filter passes (map see xs)
seen_passing see test passes [] same = refl
seen_passing see test passes (x ∷ xs) same =
    let rest = seen_passing see test passes xs same in
    elim (test x) as (λ b. test x ≡ b → map see (cond b (x ∷ filter test xs) (filter test xs)) ≡ cond (passes (see x)) (see x ∷ filter passes (map see xs)) (filter passes (map see xs))) [
      | true ↦ λ e. ap (λ l. see x ∷ l) rest ∙ ap (λ b. cond b (see x ∷ filter passes (map see xs)) (filter passes (map see xs))) (sym (sym (same x) ∙ e))
      | false ↦ λ e. rest ∙ ap (λ b. cond b (see x ∷ filter passes (map see xs)) (filter passes (map see xs))) (sym (sym (same x) ∙ e))
    ] refl

module _ {X : Type 0} (m : Names X) (name : Name) where
  abbrev is_other : Name → Bool
  is_other other = not (same_name name other)

  turned : (b : Bool) (found : Option X) → cond b None found ≡ cond (not b) found None
  turned true found = refl
  turned false found = refl

  -- the entries without one of them
  entries_without : names.entries (names.remove m name) ≡ filter (λ e. is_other e.0) (names.entries m)
  entries_without =
      let sorted = is_sorted-where_key name_cmp is_other (names.entries m) (entries_sorted m) in
      ap names.entries (same_map name_cmp-total name_cmp-antisymmetric (names.remove m name) (names.from_sorted (where_key name_cmp is_other (names.entries m))) (λ q.
      get-remove name_cmp-total m name q
      ∙ ap (λ b. cond b None (names.get m q)) ((eq_by_cmp_equiv name_cmp-total).symm q name)
      ∙ turned (same_name name q) (names.get m q)
      ∙ ap (λ found. cond (is_other q) found None) (get-entries m q)
      ∙ sym (find-where_key name_cmp is_other q (λ x tied. ap is_other (sym (name_cmp-antisymmetric q x tied))) (names.entries m))
      ∙ sym (get-from_sorted name_cmp (where_key name_cmp is_other (names.entries m)) q sorted)))
      ∙ entries-from_sorted name_cmp (where_key name_cmp is_other (names.entries m)) sorted

  -- and as they are listed
  pub listed_without : {Y : Type 0} (see : Name × X → Y) (name_of : Y → Name) → ((e : Name × X) → name_of (see e) ≡ e.0)
      → filter (λ y. not (same_name name (name_of y))) (map see (names.entries m)) ≡ map see (names.entries (names.remove m name))
  listed_without see name_of named =
      sym (ap (map see) entries_without ∙ seen_passing see (λ e. is_other e.0) (λ y. not (same_name name (name_of y))) (names.entries m) (λ e. ap is_other (sym (named e))))
