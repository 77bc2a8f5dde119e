-- The routes that are looked at for a plan: on each of the others there is nothing.
use Rattle.std.proofs.Common.{◌≡◌, ◌≢◌, ℕ, ◌+◌, ◌≤◌, Bool, true, false, cond, List, [], ◌∷◌, ◌++◌, map, flat_map, length, filter, Some, None, refl, sym, ap, subst, ◌∙◌, arith, zero-add}
use Rattle.std.proofs.lemmas.List.Sums.{sum_by-cons}
use Rattle.std.specs.Cmp.{eq_by_cmp_equiv}
use Rattle.std.specs.FinMap as names
use Rattle.std.specs.FinMap.Entries.{find, where_key, find-where_key, is_sorted-where_key, same_entries}
use Rattle.std.specs.List.{AllByRecursion, sum_by}
use Rattle.std.specs.Ordering.{eq_by_cmp}
use Rattle.rs_facts.specs.Fact.{Name, name_cmp, Names, none}
use Rattle.rs_facts.specs.Insert.{same_name}
use Rattle.rs_facts.specs.Query.{Query, rows_at}
use Rattle.rs_machine.specs.State.{State, world_of}
use Rattle.rs_catalog.specs.Definitions.{AreDefinitions, Definitions, Numbered, RouteItem}
use Rattle.rs_catalog.specs.Referents.{HeldReferents}
use Rattle.rs_catalog.proofs.MapLaws.{same_name-true, some_same}
use Rattle.rs_catalog.proofs.Names.{each_entry, name_cmp-total, name_cmp-antisymmetric}
use Rattle.rs_plan.specs.declared.plan.Plan.{Plan}
use Rattle.rs_plan.specs.declared.plan.PlannedRoute.{PlannedRoute}
use Rattle.rs_exec.specs.Elsewhere.{HasNothingOn, windows_over}
use Rattle.rs_exec.specs.Snapshot.{Snapshot}
use Rattle.rs_exec.specs.Windows.{first_route}
use Rattle.rs_catalog.specs.declared.entries.NamedRoute.{NamedRoute}
use Rattle.rs_answers.specs.Plans.{IsPlanFor}
use Rattle.rs_answers.specs.Present.{IsPresent}
use Rattle.rs_answers.specs.Routes.{entry_of, AreVisited, IsUnderWindows}

-- ---- all routes, and one of them

all-kept : {X : Type 0} (xs : List X) → filter (λ _. true) xs ≡ xs
all-kept [] = refl
all-kept (x ∷ xs) = ap (λ ys. x ∷ ys) (all-kept xs)

-- the entries under a name
under_name : (kept : Names RouteItem) (name : Name) (on : RouteItem) → names.get kept name ≡ Some on → filter (λ entry. same_name name entry.0) (names.entries kept) ≡ (name, on) ∷ []
under_name kept name on there =
    same_entries name_cmp name_cmp-total name_cmp-antisymmetric (where_key name_cmp (same_name name) entries) ((name, on) ∷ [])
    (is_sorted-where_key name_cmp (same_name name) entries (names.entries_sorted kept)) tt
    (λ q. find-where_key name_cmp (same_name name) q (λ other tied. ap (same_name name) (sym (name_cmp-antisymmetric q other tied))) entries ∙ found q)
  where
    entries : List (Name × RouteItem)
    entries = names.entries kept

    found : (q : Name) → cond (same_name name q) (find name_cmp q entries) None ≡ cond (eq_by_cmp name_cmp q name) (Some on) None
    found q =
        elim (same_name name q) as (λ b. same_name name q ≡ b → cond b (find name_cmp q entries) None ≡ cond b (Some on) None) [
          | true ↦ λ e. ap (λ n. find name_cmp n entries) (sym (same_name-true name q e)) ∙ sym (names.get-entries kept name) ∙ there
          | false ↦ λ e. refl
        ] refl
        ∙ ap (λ b. cond b (Some on) None) ((eq_by_cmp_equiv name_cmp-total).symm name q)

pub visited-all : (definitions : Definitions) (plan : Plan) (routes : List (Name × RouteItem)) → routes ≡ names.entries definitions.routes → AreVisited definitions plan routes
visited-all definitions plan routes all = record {
  is_visited = λ name. true;
  those = all ∙ sym (all-kept (names.entries definitions.routes));
  others = λ route on there left. absurd (let wrong : true ≡ false = left in cc);
}

pub visited-one : (definitions : Definitions) → AreDefinitions definitions → (plan : Plan) (named : NamedRoute) → names.get definitions.routes named.name.bytes ≡ Some named.route
    → ((number : ℕ) → number ≢ named.route.number → HasNothingOn number plan) → (routes : List NamedRoute) → routes ≡ named ∷ [] → AreVisited definitions plan (map entry_of routes)
visited-one definitions are plan named there nothing routes one = record {
  is_visited = same_name named.name.bytes;
  those = ap (map entry_of) one ∙ sym (under_name definitions.routes named.name.bytes named.route there);
  others = λ route on at apart. nothing on.number (λ same.
      let equal = are.route_numbers named.name.bytes route named.route on there at (sym same) in
      let wrong : true ≡ false = sym ((eq_by_cmp_equiv name_cmp-total).refl named.name.bytes) ∙ ap (same_name named.name.bytes) equal ∙ apart in
      cc);
}

-- ---- the route of the windows over a plan

module _ (definitions : Definitions) (plan : Plan) (named : NamedRoute) (under : IsUnderWindows definitions plan named) where
  pub no-window : None ≡ first_route (windows_over plan) → ⊥
  no-window is = let over : PlannedRoute = record { name = named.name; number = named.route.number } in let wrong : None ≡ Some over = is ∙ under.windowed in cc

  module _ (over : PlannedRoute) (is : Some over ≡ first_route (windows_over plan)) where
    window-is : over ≡ record { name = named.name; number = named.route.number }
    window-is = some_same over _ (is ∙ under.windowed)

    kept-is : names.get definitions.routes over.name.bytes ≡ Some named.route
    kept-is = ap (λ (route : PlannedRoute). names.get definitions.routes route.name.bytes) window-is ∙ under.there

    pub no-route : None ≡ names.get definitions.routes over.name.bytes → ⊥
    no-route gone = let wrong : None ≡ Some named.route = gone ∙ kept-is in cc

    module _ (route : RouteItem) (there : Some route ≡ names.get definitions.routes over.name.bytes) where
      route-is : route ≡ named.route
      route-is = some_same route named.route (there ∙ kept-is)

      pub number-is : route.number ≡ over.number
      number-is = ap (λ (on : RouteItem). on.number) route-is ∙ sym (ap (λ (route : PlannedRoute). route.number) window-is)

      pub found-is : Some (record { name = over.name; route = route }) ≡ Some named
      found-is = λ i. Some (record { name = (window-is i).name; route = route-is i })

-- ---- what is so of the routes that are looked at

every-kept : {X : Type 0} (P : X → Type 0) (keeps : X → Bool) (xs : List X) → AllByRecursion P xs → AllByRecursion P (filter keeps xs)
every-kept P keeps [] all = tt
every-kept P keeps (x ∷ xs) all =
    elim (keeps x) as (λ b. AllByRecursion P (cond b (x ∷ filter keeps xs) (filter keeps xs))) [
      | true ↦ (all.0, every-kept P keeps xs all.1)
      | false ↦ every-kept P keeps xs all.1
    ]

few-kept : {X : Type 0} (keeps : X → Bool) (xs : List X) → length (filter keeps xs) ≤ length xs
few-kept keeps [] = omega arith
few-kept keeps (x ∷ xs) =
    let rest = few-kept keeps xs in
    elim (keeps x) as (λ b. length (cond b (x ∷ filter keeps xs) (filter keeps xs)) ≤ length (x ∷ xs)) [
      | true ↦ omega (arith, rest)
      | false ↦ omega (arith, rest)
    ]

flat_map-kept : {X Y : Type 0} (P : X → Type 0) (keeps : X → Bool) (each : X → List Y) → ((x : X) → P x → keeps x ≡ false → each x ≡ []) → (xs : List X) → AllByRecursion P xs
    → flat_map each (filter keeps xs) ≡ flat_map each xs
flat_map-kept P keeps each nothing [] all = refl
flat_map-kept P keeps each nothing (x ∷ xs) all =
    let rest = flat_map-kept P keeps each nothing xs all.1 in
    elim (keeps x) as (λ b. keeps x ≡ b → flat_map each (cond b (x ∷ filter keeps xs) (filter keeps xs)) ≡ each x ++ flat_map each xs) [
      | true ↦ λ e. ap (λ ys. each x ++ ys) rest
      | false ↦ λ e. rest ∙ ap (λ ys. ys ++ flat_map each xs) (sym (nothing x all.0 e))
    ] refl

sum-kept : {X : Type 0} (P : X → Type 0) (keeps : X → Bool) (amount : X → ℕ) → ((x : X) → P x → keeps x ≡ false → amount x ≡ 0) → (xs : List X) → AllByRecursion P xs
    → sum_by amount (filter keeps xs) ≡ sum_by amount xs
sum-kept P keeps amount nothing [] all = refl
sum-kept P keeps amount nothing (x ∷ xs) all =
    let rest = sum-kept P keeps amount nothing xs all.1 in
    elim (keeps x) as (λ b. keeps x ≡ b → sum_by amount (cond b (x ∷ filter keeps xs) (filter keeps xs)) ≡ amount x + sum_by amount xs) [
      | true ↦ λ e. sum_by-cons amount x (filter keeps xs) ∙ ap (λ n. amount x + n) rest
      | false ↦ λ e. rest ∙ sym (zero-add (sum_by amount xs)) ∙ ap (λ n. n + sum_by amount xs) (sym (nothing x all.0 e))
    ] refl
    ∙ sym (sum_by-cons amount x xs)

module _ (definitions : Definitions) (plan : Plan) (routes : List (Name × RouteItem)) (visited : AreVisited definitions plan routes) where
  abbrev IsThere : Name × RouteItem → Type 0
  IsThere entry = names.get definitions.routes entry.0 ≡ Some entry.1

  abbrev keeps : Name × RouteItem → Bool
  keeps entry = visited.is_visited entry.0

  abbrev all : List (Name × RouteItem)
  all = names.entries definitions.routes

  pub visited-there : AllByRecursion IsThere routes
  visited-there = subst (AllByRecursion IsThere) (sym visited.those) (every-kept IsThere keeps all (each_entry definitions.routes))

  pub visited-few : length routes ≤ length all
  visited-few = let some = ap length visited.those in let few = few-kept keeps all in omega (arith, some, few)

  -- where a route on which there is nothing gives nothing, they give what all routes give
  pub flat_map-visited : {Y : Type 0} (each : Name × RouteItem → List Y)
      → ((entry : Name × RouteItem) → IsThere entry → HasNothingOn entry.1.number plan → each entry ≡ []) → flat_map each routes ≡ flat_map each all
  flat_map-visited each nothing =
      ap (flat_map each) visited.those
      ∙ flat_map-kept IsThere keeps each (λ entry there left. nothing entry there (visited.others entry.0 entry.1 there left)) all (each_entry definitions.routes)

  pub sum-visited : (amount : Name × RouteItem → ℕ)
      → ((entry : Name × RouteItem) → IsThere entry → HasNothingOn entry.1.number plan → amount entry ≡ 0) → sum_by amount routes ≡ sum_by amount all
  sum-visited amount nothing =
      ap (sum_by amount) visited.those
      ∙ sum-kept IsThere keeps amount (λ entry there left. nothing entry there (visited.others entry.0 entry.1 there left)) all (each_entry definitions.routes)

-- a query has no row where its plan has none
pub query-nothing : (definitions : Definitions) (referents : Numbered HeldReferents) (state : State) (snapshot : Snapshot) → IsPresent definitions referents state snapshot
    → (query : Query) (plan : Plan) → IsPlanFor definitions query plan → (route : Name) (on : RouteItem) → names.get definitions.routes route ≡ Some on → HasNothingOn on.number plan
    → (k : ℕ) → rows_at (world_of state) query route k ≡ none
query-nothing definitions referents state snapshot present query plan for route on there nothing k =
    sym ((for.means referents state snapshot present).rows route on there k) ∙ nothing snapshot k
