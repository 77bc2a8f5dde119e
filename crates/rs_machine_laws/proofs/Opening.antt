-- Queries whose views are opened: when nothing changes any more, what views they don't name, and their windows.
use Rattle.std.proofs.Common.{◌≡◌, ◌∙◌, ℕ, zero, suc, ◌<◌, false, [], ◌∷◌, ◌++◌, Contains, Option, Some, None, refl, sym, ap, arith}
use Rattle.std.specs.Prelude.{unwrap_or}
use Rattle.std.specs.List.{AllByRecursion}
use Rattle.std.specs.FinMap as names
use Rattle.rs_facts.specs.Fact.{Name, Names}
use Rattle.rs_facts.specs.Insert.{same_name}
use Rattle.rs_syntax.specs.Tree.{WindowTree, QueryTree, named, filtered, dissolved, renamed, overlaid, covered, merged, subtracted, windowed, transformed, gapped}
use Rattle.rs_machine.specs.Opening.{names_in, windows_in, opened_once, opened_times, AreInOrder}
use Rattle.rs_machine_laws.proofs.Names.{none_some}
use Rattle.rs_machine_laws.proofs.Lists.{all_append, all_front, all_back, from_each}

-- ---- after enough openings nothing changes any more

-- a view of this name has a place below the number
abbrev IsBelow : Names QueryTree → (Name → ℕ) → ℕ → Name → Type 0
IsBelow views place k name = (query : QueryTree) → names.get views name ≡ Some query → place name < k

module _ (views : Names QueryTree) (place : Name → ℕ) where
  abbrev AreBelow : ℕ → QueryTree → Type 0
  AreBelow k query = AllByRecursion (IsBelow views place k) (names_in query)

  left : (k : ℕ) (a b : QueryTree) → AllByRecursion (IsBelow views place k) (names_in a ++ names_in b) → AreBelow k a
  left k a b below = all_front (IsBelow views place k) (names_in a) (names_in b) below

  right : (k : ℕ) (a b : QueryTree) → AllByRecursion (IsBelow views place k) (names_in a ++ names_in b) → AreBelow k b
  right k a b below = all_back (IsBelow views place k) (names_in a) (names_in b) below

  -- a name that is no view's stays
  name_stays : (name : Name) (found : Option QueryTree) → names.get views name ≡ found → IsBelow views place 0 name → unwrap_or found (named name) ≡ named name
  name_stays name None there below = refl
  name_stays name (Some query) there below = absurd (let wrong = below query there in omega arith)

  stays : (query : QueryTree) → AreBelow 0 query → opened_once views query ≡ query
  stays (named name) below = name_stays name (names.get views name) refl below.0
  stays (filtered query condition) below = ap (λ q. filtered q condition) (stays query below)
  stays (dissolved query columns) below = ap (λ q. dissolved q columns) (stays query below)
  stays (renamed query from to) below = ap (λ q. renamed q from to) (stays query below)
  stays (overlaid a b) below = λ i. overlaid (stays a (left 0 a b below) i) (stays b (right 0 a b below) i)
  stays (covered a b) below = λ i. covered (stays a (left 0 a b below) i) (stays b (right 0 a b below) i)
  stays (merged a b) below = λ i. merged (stays a (left 0 a b below) i) (stays b (right 0 a b below) i)
  stays (subtracted a b) below = λ i. subtracted (stays a (left 0 a b below) i) (stays b (right 0 a b below) i)
  stays (windowed query window) below = ap (λ q. windowed q window) (stays query below)
  stays (transformed query alignment) below = ap (λ q. transformed q alignment) (stays query below)
  stays (gapped query) below = ap gapped (stays query below)

  -- each view names only views before it
  abbrev NamesBefore : Type 0
  NamesBefore = (name other : Name) (query : QueryTree) → names.get views name ≡ Some query → Contains (names_in query) other
      → (y : QueryTree) → names.get views other ≡ Some y → place other < place name

  module _ (before : NamesBefore) where
    both : (k : ℕ) (a b : QueryTree) → AreBelow k a → AreBelow k b → AllByRecursion (IsBelow views place k) (names_in a ++ names_in b)
    both k a b one other = all_append (IsBelow views place k) (names_in a) (names_in b) one other

    name_lower : (k : ℕ) (name : Name) (found : Option QueryTree) → names.get views name ≡ found → IsBelow views place (suc k) name → AreBelow k (unwrap_or found (named name))
    name_lower k name None there below = (λ query other. none_some query (sym there ∙ other), tt)
    name_lower k name (Some query) there below =
        from_each (IsBelow views place k) (names_in query) (λ other among y is. let a = before name other query there among y is in let b = below query there in omega arith)

    lower : (k : ℕ) (query : QueryTree) → AreBelow (suc k) query → AreBelow k (opened_once views query)
    lower k (named name) below = name_lower k name (names.get views name) refl below.0
    lower k (filtered query condition) below = lower k query below
    lower k (dissolved query columns) below = lower k query below
    lower k (renamed query from to) below = lower k query below
    lower k (overlaid a b) below = both k (opened_once views a) (opened_once views b) (lower k a (left (suc k) a b below)) (lower k b (right (suc k) a b below))
    lower k (covered a b) below = both k (opened_once views a) (opened_once views b) (lower k a (left (suc k) a b below)) (lower k b (right (suc k) a b below))
    lower k (merged a b) below = both k (opened_once views a) (opened_once views b) (lower k a (left (suc k) a b below)) (lower k b (right (suc k) a b below))
    lower k (subtracted a b) below = both k (opened_once views a) (opened_once views b) (lower k a (left (suc k) a b below)) (lower k b (right (suc k) a b below))
    lower k (windowed query window) below = lower k query below
    lower k (transformed query alignment) below = lower k query below
    lower k (gapped query) below = lower k query below

    settled_below : (k : ℕ) (query : QueryTree) → AreBelow k query → opened_times (suc k) views query ≡ opened_times k views query
    settled_below zero query below = stays query below
    settled_below (suc k) query below = settled_below k (opened_once views query) (lower k query below)

-- one opening more than there are views changes nothing
pub settled : (views : Names QueryTree) (query : QueryTree) → AreInOrder views → opened_times (suc (names.len views)) views query ≡ opened_times (names.len views) views query
settled views query order =
    settled_below views order.place order.before (names.len views) query
    (from_each (IsBelow views order.place (names.len views)) (names_in query) (λ name among y there. order.below name y there))

-- ---- a name that isn't used

-- the query does not have the name
abbrev pub Avoids : Name → QueryTree → Type 0
Avoids name query = AllByRecursion (λ other. same_name name other ≡ false) (names_in query)

-- where views differ only at a name that neither the query nor a view uses, it opens to the same
module _ (one other : Names QueryTree) (name : Name)
    (same : (n : Name) → same_name name n ≡ false → names.get one n ≡ names.get other n)
    (each : (n : Name) (query : QueryTree) → same_name name n ≡ false → names.get one n ≡ Some query → Avoids name query) where
  front : (a b : QueryTree) → AllByRecursion (λ n. same_name name n ≡ false) (names_in a ++ names_in b) → Avoids name a
  front a b apart = all_front (λ n. same_name name n ≡ false) (names_in a) (names_in b) apart

  back : (a b : QueryTree) → AllByRecursion (λ n. same_name name n ≡ false) (names_in a ++ names_in b) → Avoids name b
  back a b apart = all_back (λ n. same_name name n ≡ false) (names_in a) (names_in b) apart

  alike : (query : QueryTree) → Avoids name query → opened_once one query ≡ opened_once other query
  alike (named n) apart = ap (λ o. unwrap_or o (named n)) (same n apart.0)
  alike (filtered query condition) apart = ap (λ q. filtered q condition) (alike query apart)
  alike (dissolved query columns) apart = ap (λ q. dissolved q columns) (alike query apart)
  alike (renamed query from to) apart = ap (λ q. renamed q from to) (alike query apart)
  alike (overlaid a b) apart = λ i. overlaid (alike a (front a b apart) i) (alike b (back a b apart) i)
  alike (covered a b) apart = λ i. covered (alike a (front a b apart) i) (alike b (back a b apart) i)
  alike (merged a b) apart = λ i. merged (alike a (front a b apart) i) (alike b (back a b apart) i)
  alike (subtracted a b) apart = λ i. subtracted (alike a (front a b apart) i) (alike b (back a b apart) i)
  alike (windowed query window) apart = ap (λ q. windowed q window) (alike query apart)
  alike (transformed query alignment) apart = ap (λ q. transformed q alignment) (alike query apart)
  alike (gapped query) apart = ap gapped (alike query apart)

  name_apart : (n : Name) (found : Option QueryTree) → names.get one n ≡ found → same_name name n ≡ false → Avoids name (unwrap_or found (named n))
  name_apart n None there apart = (apart, tt)
  name_apart n (Some query) there apart = each n query apart there

  joined : (a b : QueryTree) → Avoids name a → Avoids name b → AllByRecursion (λ n. same_name name n ≡ false) (names_in a ++ names_in b)
  joined a b x y = all_append (λ n. same_name name n ≡ false) (names_in a) (names_in b) x y

  still_apart : (query : QueryTree) → Avoids name query → Avoids name (opened_once one query)
  still_apart (named n) apart = name_apart n (names.get one n) refl apart.0
  still_apart (filtered query condition) apart = still_apart query apart
  still_apart (dissolved query columns) apart = still_apart query apart
  still_apart (renamed query from to) apart = still_apart query apart
  still_apart (overlaid a b) apart = joined (opened_once one a) (opened_once one b) (still_apart a (front a b apart)) (still_apart b (back a b apart))
  still_apart (covered a b) apart = joined (opened_once one a) (opened_once one b) (still_apart a (front a b apart)) (still_apart b (back a b apart))
  still_apart (merged a b) apart = joined (opened_once one a) (opened_once one b) (still_apart a (front a b apart)) (still_apart b (back a b apart))
  still_apart (subtracted a b) apart = joined (opened_once one a) (opened_once one b) (still_apart a (front a b apart)) (still_apart b (back a b apart))
  still_apart (windowed query window) apart = still_apart query apart
  still_apart (transformed query alignment) apart = still_apart query apart
  still_apart (gapped query) apart = still_apart query apart

  pub opened_alike : (times : ℕ) (query : QueryTree) → Avoids name query → opened_times times one query ≡ opened_times times other query
  opened_alike zero query apart = refl
  opened_alike (suc times) query apart = opened_alike times (opened_once one query) (still_apart query apart) ∙ ap (opened_times times other) (alike query apart)

-- ---- windows

-- what is so of the windows of the opened query is so of its own
module _ (P : WindowTree → Type 0) (views : Names QueryTree) where
  pair_windows : (a b : QueryTree) → (AllByRecursion P (windows_in (opened_once views a)) → AllByRecursion P (windows_in a)) → (AllByRecursion P (windows_in (opened_once views b)) → AllByRecursion P (windows_in b))
      → AllByRecursion P (windows_in (opened_once views a) ++ windows_in (opened_once views b)) → AllByRecursion P (windows_in a ++ windows_in b)
  pair_windows a b one other all =
      all_append P (windows_in a) (windows_in b)
      (one (all_front P (windows_in (opened_once views a)) (windows_in (opened_once views b)) all))
      (other (all_back P (windows_in (opened_once views a)) (windows_in (opened_once views b)) all))

  once_windows : (query : QueryTree) → AllByRecursion P (windows_in (opened_once views query)) → AllByRecursion P (windows_in query)
  once_windows (named name) all = tt
  once_windows (filtered query condition) all = once_windows query all
  once_windows (dissolved query columns) all = once_windows query all
  once_windows (renamed query from to) all = once_windows query all
  once_windows (overlaid a b) all = pair_windows a b (once_windows a) (once_windows b) all
  once_windows (covered a b) all = pair_windows a b (once_windows a) (once_windows b) all
  once_windows (merged a b) all = pair_windows a b (once_windows a) (once_windows b) all
  once_windows (subtracted a b) all = pair_windows a b (once_windows a) (once_windows b) all
  once_windows (transformed query alignment) all = once_windows query all
  once_windows (gapped query) all = once_windows query all
  once_windows (windowed query window) all =
      all_append P (windows_in query) (window ∷ [])
      (once_windows query (all_front P (windows_in (opened_once views query)) (window ∷ []) all))
      (all_back P (windows_in (opened_once views query)) (window ∷ []) all)

  pub opened_windows : (times : ℕ) (query : QueryTree) → AllByRecursion P (windows_in (opened_times times views query)) → AllByRecursion P (windows_in query)
  opened_windows zero query all = all
  opened_windows (suc times) query all = once_windows query (opened_windows times (opened_once views query) all)
