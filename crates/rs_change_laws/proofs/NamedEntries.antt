-- What stands under the names of a list in which no name stands twice.
use Rattle.std.proofs.Common.{◌≡◌, ◌<◌, ◌+◌, ℕ, zero, suc, Bool, true, false, cond, Option, Some, None, List, [], ◌∷◌, length, map, get_or, refl, sym, ap, subst, ◌∙◌, arith}
use Rattle.std.specs.Prelude.{◌≢◌, Contains, is_some}
use Rattle.std.specs.FinMap as names
use Rattle.std.specs.FinMap.{find, get-from_entries, get-insert, get-remove, len-empty, len-insert, same_map}
use Rattle.std.specs.List.{AllByRecursion}
use Rattle.std.specs.Ordering.{eq_by_cmp}
use Rattle.std.proofs.lemmas.Bool.{false≢true}
use Rattle.std.proofs.lemmas.List.Elements.{All-contains, All-from_recursion}
use Rattle.std.proofs.lemmas.Option.{none-some}
use Rattle.rs_catalog.proofs.NameOrder.{name_cmp-antisymmetric, name_cmp-total}
use Rattle.rs_facts.specs.Fact.{Name, Names, name_cmp}
use Rattle.rs_file_meaning.proofs.Named.{first_there, itself, later_there, same_name}
use Rattle.rs_file_meaning.proofs.Picked.{shown_there}
use Rattle.rs_machine.specs.Lawful.{AreDistinct}

pub each_contained : {X : Type 0} (P : X → Type 0) (xs : List X) → ((x : X) → Contains xs x → P x) → AllByRecursion P xs
each_contained P [] all = tt
each_contained P (x ∷ xs) all = (all x (first_there x xs), each_contained P xs (λ y there. all y (later_there x y xs there)))

pub another : (a b : Name) → b ≢ a → eq_by_cmp name_cmp a b ≡ false
another a b apart = elim (eq_by_cmp name_cmp a b) as (λ c. eq_by_cmp name_cmp a b ≡ c → c ≡ false) [
  | true ↦ λ same. absurd (apart (sym (same_name a b same)))
  | false ↦ λ _. refl
] refl

module _ {X : Type 0} where
  abbrev pub Distinct : List (Name × X) → Type 0
  Distinct es = AreDistinct (map (λ e. e.0) es)

  -- an entry is found under its name
  pub find_there : (es : List (Name × X)) (k : ℕ) (e : Name × X) → Distinct es → k < length es → get_or es k e ≡ e → find name_cmp e.0 es ≡ Some e.1
  find_there [] k e once inside is = absurd (omega (arith, inside))
  find_there (y ∷ es) zero e once inside is =
      subst (λ (z : Name × X). find name_cmp z.0 (y ∷ es) ≡ Some z.1) is (ap (λ b. cond b (Some y.1) (find name_cmp y.0 es)) (itself y.0))
  find_there (y ∷ es) (suc k) e once inside is =
      let later : Contains es e = (k, omega (arith, inside), is) in
      let apart : y.0 ≢ e.0 = All-contains (λ other. y.0 ≢ other) (map (λ e. e.0) es) e.0 (All-from_recursion (λ other. y.0 ≢ other) (map (λ e. e.0) es) once.0) (shown_there (λ e. e.0) es e later) in
      ap (λ b. cond b (Some y.1) (find name_cmp e.0 es)) (another e.0 y.0 apart) ∙ find_there es k e once.1 (omega (arith, inside)) is

  pub under_name : (es : List (Name × X)) (e : Name × X) → Distinct es → Contains es e → names.get (names.from_entries {R = name_cmp} es) e.0 ≡ Some e.1
  under_name es e once there = get-from_entries name_cmp-total es e.0 ∙ find_there es there.0 e once there.1 there.2

  -- where nothing is found no entry has the name
  pub none_named : (name : Name) (es : List (Name × X)) → find name_cmp name es ≡ None → AllByRecursion (λ other. name ≢ other) (map (λ e. e.0) es)
  none_named name [] none = tt
  none_named name (e ∷ es) none =
      elim (eq_by_cmp name_cmp name e.0) as (λ b. eq_by_cmp name_cmp name e.0 ≡ b → cond b (Some e.1) (find name_cmp name es) ≡ None
      → AllByRecursion (λ other. name ≢ other) (map (λ e. e.0) (e ∷ es))) [
        | true ↦ λ same none. absurd (none-some e.1 (sym none))
        | false ↦ λ apart none. (λ same. false≢true (sym apart ∙ subst (λ other. eq_by_cmp name_cmp name other ≡ true) same (itself name)), none_named name es none)
      ] refl none

  pub not_found : (name : Name) (es : List (Name × X)) → AllByRecursion (λ other. name ≢ other) (map (λ e. e.0) es) → find name_cmp name es ≡ None
  not_found name [] all = refl
  not_found name (e ∷ es) all = ap (λ b. cond b (Some e.1) (find name_cmp name es)) (another name e.0 (λ same. all.0 (sym same))) ∙ not_found name es all.1

  -- as many stand under names as were listed
  pub len_distinct : (es : List (Name × X)) → Distinct es → names.len (names.from_entries {R = name_cmp} es) ≡ length es
  len_distinct [] once = len-empty name_cmp X
  len_distinct (e ∷ es) once =
      let rest = names.from_entries {R = name_cmp} es in
      let none : names.get rest e.0 ≡ None = get-from_entries name_cmp-total es e.0 ∙ not_found e.0 es once.0 in
      let more : names.len (names.insert rest e.0 e.1) ≡ names.len rest + 1 = len-insert name_cmp-total rest e.0 e.1 ∙ ap (λ o. cond (is_some o) (names.len rest) (names.len rest + 1)) none in
      omega (arith, more, len_distinct es once.1)

  -- what was put under a name where nothing stood is taken away again
  pub remove-insert : (things : Names X) (name : Name) (thing : X) → names.get things name ≡ None → names.remove (names.insert things name thing) name ≡ things
  remove-insert things name thing none = same_map name_cmp-total name_cmp-antisymmetric _ _ (λ q.
      get-remove name_cmp-total (names.insert things name thing) name q
      ∙ elim (eq_by_cmp name_cmp q name) as (λ b. eq_by_cmp name_cmp q name ≡ b → cond b None (names.get (names.insert things name thing) q) ≡ names.get things q) [
        | true ↦ λ same. sym none ∙ ap (names.get things) (sym (same_name q name same))
        | false ↦ λ apart. get-insert name_cmp-total things name thing q ∙ ap (λ b. cond b (Some thing) (names.get things q)) apart
      ] refl)

  -- what is put under a name takes the place of what stood there
  pub insert-remove : (things : Names X) (name : Name) (thing : X) → names.insert (names.remove things name) name thing ≡ names.insert things name thing
  insert-remove things name thing = same_map name_cmp-total name_cmp-antisymmetric _ _ (λ q.
      get-insert name_cmp-total (names.remove things name) name thing q
      ∙ ap (λ o. cond (eq_by_cmp name_cmp q name) (Some thing) o) (get-remove name_cmp-total things name q)
      ∙ twice (eq_by_cmp name_cmp q name) (names.get things q)
      ∙ sym (get-insert name_cmp-total things name thing q))
    where
      twice : (b : Bool) (o : Option X) → cond b (Some thing) (cond b None o) ≡ cond b (Some thing) o
      twice true o = refl
      twice false o = refl

  pub removed : (things : Names X) (name : Name) → names.get (names.remove things name) name ≡ None
  removed things name = get-remove name_cmp-total things name name ∙ ap (λ b. cond b None (names.get things name)) (itself name)
