-- Routes in a list, in the order of their names.
use Rattle.std.proofs.Common.{◌≡◌, ℕ, zero, suc, ◌<◌, List, [], ◌∷◌, ◌++◌, map, length, get_or, Some, sym, ap, subst, ◌∙◌, append_assoc, arith}
use Rattle.std.proofs.lemmas.List.{map-append}
use Rattle.std.specs.List.{AllByRecursion}
use Rattle.std.specs.FinMap as names
use Rattle.arrayvec.specs.ArrayString.{ArrayString}
use Rattle.rs_catalog.specs.Definitions.{RouteItem}
use Rattle.rs_catalog.specs.Names.{entries_by_bytes}
use Rattle.rs_catalog.proofs.Names.{each_entry}
use Rattle.rs_facts.specs.Fact.{Name, Names}
use Rattle.rs_catalog.specs.declared.entries.NamedRoute.{NamedRoute}
use Rattle.rs_answers.specs.Routes.{entry_of}

-- ---- one after another

pub routes-more : (routes : List NamedRoute) (one : NamedRoute) (left rest : List (ArrayString × RouteItem)) → left ≡ (one.name, one.route) ∷ rest
    → map entry_of (routes ++ (one ∷ [])) ++ entries_by_bytes (λ route. route) rest ≡ map entry_of routes ++ entries_by_bytes (λ route. route) left
routes-more routes one left rest next =
    let more = entries_by_bytes (λ (route : RouteItem). route) rest in
    ap (λ l. l ++ more) (map-append entry_of routes (one ∷ []))
    ∙ append_assoc (map entry_of routes) (entry_of one ∷ []) more
    ∙ ap (λ l. map entry_of routes ++ entries_by_bytes (λ (route : RouteItem). route) l) (sym next)

-- ---- each of them is there

abbrev IsEntryOf : Names RouteItem → Name × RouteItem → Type 0
IsEntryOf kept e = names.get kept e.0 ≡ Some e.1

each-there : (kept : Names RouteItem) (routes : List NamedRoute) (k : ℕ) (other : NamedRoute) → k < length routes → AllByRecursion (IsEntryOf kept) (map entry_of routes)
    → IsEntryOf kept (entry_of (get_or routes k other))
each-there kept [] k other h all = absurd (omega arith)
each-there kept (one ∷ routes) zero other h all = all.0
each-there kept (one ∷ routes) (suc k) other h all = each-there kept routes k other (omega arith) all.1

-- one of them
pub one-there : (kept : Names RouteItem) (routes : List NamedRoute) (k : ℕ) (one : NamedRoute) → k < length routes → one ≡ get_or routes k one → AllByRecursion (IsEntryOf kept) (map entry_of routes)
    → names.get kept one.name.bytes ≡ Some one.route
one-there kept routes k one h is all = subst (λ (named : NamedRoute). IsEntryOf kept (entry_of named)) (sym is) (each-there kept routes k one h all)

-- what is listed under a name is kept under it
pub route-there : (kept : Names RouteItem) (routes : List NamedRoute) (k : ℕ) (one : NamedRoute) → k < length routes → one ≡ get_or routes k one → map entry_of routes ≡ names.entries kept
    → names.get kept one.name.bytes ≡ Some one.route
route-there kept routes k one h is all = one-there kept routes k one h is (subst (AllByRecursion (IsEntryOf kept)) (sym all) (each_entry kept))
