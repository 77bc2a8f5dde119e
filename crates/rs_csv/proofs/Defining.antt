-- The lines that define routes, one after another.
use Rattle.std.proofs.Common.{◌≡◌, ◌∙◌, ℕ, suc, Bool, true, false, cond, T, List, [], ◌∷◌, ◌++◌, Option, Some, None, refl, sym, ap, subst, append_assoc, append-nil, arith}
use Rattle.std.specs.Prelude.{◌≢◌, Contains}
use Rattle.std.specs.FinMap as names
use Rattle.std.specs.FinMap.{entries_sorted, find, get-entries, is_sorted}
use Rattle.std.specs.FinMap.Entries.{below_all}
use Rattle.std.specs.Cmp.{tied_itself}
use Rattle.std.specs.List.{AllByRecursion}
use Rattle.std.specs.Ordering.{eq_by_cmp, is_lt}
use Rattle.std.proofs.lemmas.Bool.{and_parts, false≢true}
use Rattle.std.proofs.lemmas.List.Elements.{All-contains, All-from_recursion, Contains-append_left, Contains-push}
use Rattle.rs_catalog.proofs.MapLaws.{same_name-true, some_same}
use Rattle.rs_catalog.proofs.NameOrder.{name_cmp-total}
use Rattle.rs_catalog.proofs.Names.{each_entry}
use Rattle.rs_facts.specs.Fact.{AreDistinct, Name, Names, name_cmp}
use Rattle.rs_syntax.specs.Sound.{IsName}
use Rattle.rs_csv.specs.declared.routes.Extent.{Extent}
use Rattle.rs_csv.specs.Routes.{AreExtremes, DefineEach, DefineRoutes, HaveMet, IsMet, Placed, PutsRoute, ends_of, ends_on, no_route, one_route, route_line}

-- ---- lines for entries

-- the lines that are put for entries, in their order
pub data ArePut (session : ℕ) : List (Name × Extent) → List ℕ → Type 0 where
  none_put : ArePut session [] []
  one_put : {entries : List (Name × Extent)} {bytes : List ℕ} (entry : Name × Extent) (now : List ℕ) → ArePut session entries bytes → PutsRoute session entry.0 entry.1.ends bytes now → ArePut session (entries ++ entry ∷ []) now

-- They were put for the first of the entries, and the others are still to come.
pub record PutTo (session : ℕ) (all rest : List (Name × Extent)) (bytes : List ℕ) : Type 0 where
  pub done : List (Name × Extent)
  pub whole : all ≡ done ++ rest
  pub put : ArePut session done bytes

module _ (session : ℕ) (all : List (Name × Extent)) where
  pub put_start : (bytes : List ℕ) → bytes ≡ [] → PutTo session all all bytes
  put_start bytes none = record { done = []; whole = refl; put = subst (ArePut session []) (sym none) none_put }

  pub put_next : (before rest : List (Name × Extent)) (entry : Name × Extent) (bytes now : List ℕ) → before ≡ entry ∷ rest → PutTo session all before bytes → PutsRoute session entry.0 entry.1.ends bytes now → PutTo session all rest now
  put_next before rest entry bytes now is so_far puts = record {
    done = so_far.done ++ entry ∷ [];
    whole = so_far.whole ∙ ap (λ es. so_far.done ++ es) is ∙ sym (append_assoc so_far.done (entry ∷ []) rest);
    put = one_put entry now so_far.put puts;
  }

  pub put_all : (rest : List (Name × Extent)) (bytes : List ℕ) → rest ≡ [] → PutTo session all rest bytes → ArePut session all bytes
  put_all rest bytes end so_far = subst (λ es. ArePut session es bytes) (sym (so_far.whole ∙ ap (λ es. so_far.done ++ es) end ∙ append-nil so_far.done)) so_far.put

-- ---- the routes that have one

abbrev with_name : Option (ℕ × ℕ) → Name → List Name → List Name
with_name (Some ends) name more = name ∷ more
with_name None name more = more

abbrev defined_of : List (Name × Extent) → List Name
defined_of [] = []
defined_of (entry ∷ entries) = with_name entry.1.ends entry.0 (defined_of entries)

with_more : (ends : Option (ℕ × ℕ)) (name : Name) (some more : List Name) → with_name ends name (some ++ more) ≡ with_name ends name some ++ more
with_more (Some ends) name some more = refl
with_more None name some more = refl

defined_more : (entries : List (Name × Extent)) (entry : Name × Extent) → defined_of (entries ++ entry ∷ []) ≡ defined_of entries ++ with_name entry.1.ends entry.0 []
defined_more [] entry = refl
defined_more (e ∷ es) entry = ap (with_name e.1.ends e.0) (defined_more es entry) ∙ with_more e.1.ends e.0 (defined_of es) (with_name entry.1.ends entry.0 [])

module _ (session : ℕ) (IsMetOn : Name → ℕ → Type 0) (named : (name : Name) (k : ℕ) → IsMetOn name k → IsName name) where
  define_last : (name : Name) (ends : Option (ℕ × ℕ)) (defined : List Name) (bytes now : List ℕ) → AreExtremes (IsMetOn name) ends → PutsRoute session name ends bytes now → DefineEach session IsMetOn defined bytes
      → DefineEach session IsMetOn (defined ++ with_name ends name []) now
  define_last name None defined bytes now none same lines = subst (DefineEach session IsMetOn (defined ++ [])) (sym same) (subst (λ ns. DefineEach session IsMetOn ns bytes) (sym (append-nil defined)) lines)
  define_last name (Some ends) defined bytes now are adds lines =
      subst (DefineEach session IsMetOn (defined ++ name ∷ [])) (sym adds.grown)
      (one_route name (route_line session name adds.start adds.finish) ends.0 ends.1 adds.start adds.finish lines are.0 are.1 (adds.between (are.0.below ends.1 are.1.is_so)) (adds.asks (named name ends.0 are.0.is_so)))

  define_each : (entries : List (Name × Extent)) (bytes : List ℕ) → ArePut session entries bytes → ((entry : Name × Extent) → Contains entries entry → AreExtremes (IsMetOn entry.0) entry.1.ends)
      → DefineEach session IsMetOn (defined_of entries) bytes
  define_each _ _ none_put each = no_route
  define_each _ _ (one_put {entries} {bytes} entry now more puts) each =
      subst (λ ns. DefineEach session IsMetOn ns now) (sym (defined_more entries entry))
      (define_last entry.0 entry.1.ends (defined_of entries) bytes now (each entry (Contains-push entries entry)) puts
      (define_each entries bytes more (λ e there. each e (Contains-append_left entries (entry ∷ []) e there))))

-- ---- each once

-- a name above another is not the same
rising : (a b : Name) → is_lt (name_cmp a b) ≡ true → a ≢ b
rising a b less same = false≢true (sym (ap is_lt (ap (name_cmp a) (sym same) ∙ tied_itself name_cmp-total a)) ∙ less)

below_defined : (name : Name) (entries : List (Name × Extent)) → below_all name_cmp name entries ≡ true → AllByRecursion (λ other. name ≢ other) (defined_of entries)
below_defined name [] below = tt
below_defined name (e ∷ es) below =
    let parts = and_parts (is_lt (name_cmp name e.0)) (below_all name_cmp name es) below in
    elim e.1.ends as (λ ends. AllByRecursion (λ other. name ≢ other) (with_name ends e.0 (defined_of es))) [
      | Some ends ↦ (rising name e.0 parts.0, below_defined name es parts.1)
      | None ↦ below_defined name es parts.1
    ]

once_defined : (entries : List (Name × Extent)) → is_sorted name_cmp entries ≡ true → AreDistinct (defined_of entries)
once_defined [] sorted = tt
once_defined (e ∷ es) sorted =
    let parts = and_parts (below_all name_cmp e.0 es) (is_sorted name_cmp es) sorted in
    elim e.1.ends as (λ ends. AreDistinct (with_name ends e.0 (defined_of es))) [
      | Some ends ↦ (below_defined e.0 es parts.0, once_defined es parts.1)
      | None ↦ once_defined es parts.1
    ]

from_T : (b : Bool) → T b → b ≡ true
from_T true h = refl
from_T false h = absurd h

-- ---- each on which a measure was met

later_there : (x y : Name) (names : List Name) → Contains names y → Contains (x ∷ names) y
later_there x y names there = (suc there.0, omega (arith, there.1), there.2)

passed_there : (ends : Option (ℕ × ℕ)) (name other : Name) (names : List Name) → Contains names other → Contains (with_name ends name names) other
passed_there (Some ends) name other names there = later_there name other names there
passed_there None name other names there = there

here_there : (ends : Option (ℕ × ℕ)) (IsSo : ℕ → Type 0) (k : ℕ) (name : Name) (names : List Name) → AreExtremes IsSo ends → IsSo k → Contains (with_name ends name names) name
here_there (Some ends) IsSo k name names are so = (0, omega arith, refl)
here_there None IsSo k name names none so = absurd (none k so)

defined_there : (entries : List (Name × Extent)) (IsSo : ℕ → Type 0) (k : ℕ) (name : Name) → AreExtremes IsSo (ends_of (find name_cmp name entries)) → IsSo k → Contains (defined_of entries) name
defined_there [] IsSo k name none so = absurd (none k so)
defined_there (e ∷ es) IsSo k name are so =
    elim (eq_by_cmp name_cmp name e.0) as (λ b. eq_by_cmp name_cmp name e.0 ≡ b → AreExtremes IsSo (ends_of (cond b (Some e.1) (find name_cmp name es))) → Contains (defined_of (e ∷ es)) name) [
      | true ↦ λ same are. subst (Contains (with_name e.1.ends e.0 (defined_of es))) (sym (same_name-true name e.0 same)) (here_there e.1.ends IsSo k e.0 (defined_of es) are so)
      | false ↦ λ other are. passed_there e.1.ends e.0 name (defined_of es) (defined_there es IsSo k name are so)
    ] refl are

-- ---- all of them

pub routes_defined : (session : ℕ) (extents : Names Extent) (bytes : List ℕ) → ArePut session (names.entries extents) bytes → (events : List Placed) → HaveMet (Some extents) events → DefineRoutes session (IsMet events) bytes
routes_defined session extents bytes put events have =
    let entries = names.entries extents in
    let same : have.met ≡ extents = sym (some_same extents have.met have.is) in
    let extremes : (name : Name) → AreExtremes (IsMet events name) (ends_on extents name) = λ name. subst (λ m. AreExtremes (IsMet events name) (ends_on m name)) same (have.extremes name) in
    record {
      defined = defined_of entries;
      once = once_defined entries (from_T _ (entries_sorted extents));
      each = λ name k met. defined_there entries (IsMet events name) k name (subst (λ found. AreExtremes (IsMet events name) (ends_of found)) (get-entries extents name) (extremes name)) met;
      lines = define_each session (IsMet events) have.named entries bytes put (λ entry there.
          subst (λ found. AreExtremes (IsMet events entry.0) (ends_of found))
          (All-contains (λ (e : Name × Extent). names.get extents e.0 ≡ Some e.1) entries entry (All-from_recursion (λ (e : Name × Extent). names.get extents e.0 ≡ Some e.1) entries (each_entry extents)) there) (extremes entry.0));
    }

-- there is none where there are no routes
pub no_routes : (session : ℕ) (extents : Option (Names Extent)) (bytes : List ℕ) → extents ≡ None → (events : List Placed) → HaveMet extents events → DefineRoutes session (IsMet events) bytes
no_routes session extents bytes none events have = absurd (no_extents (sym have.is ∙ none))
  where
    no_extents : {X : Type 0} {x : X} → Some x ≡ None → ⊥
    no_extents e = cc
