-- What is seen on one route, and what versions see of records that change after them.
use Rattle.std.proofs.Common.{◌≡◌, ◌<◌, ◌≤◌, ◌&&◌, ◌==◌, inl, inr, ℕ, zero, suc, Bool, true, false, cond, List, [], ◌∷◌, length, map, filter, get_or, refl, sym, ap, subst, arith}
use Rattle.std.proofs.lemmas.Bool.Decides.{nat_tests}
use Rattle.std.proofs.lemmas.List.Sorted.{IsPermutation-map, IsPermutation-refl, IsPermutation-trans}
use Rattle.std.specs.List.{Contains}
use Rattle.std.specs.List.Sorted.{IsPermutation}
use Rattle.rs_versioned.specs.TheConstants.{LIVING}
use Rattle.rs_versioned.specs.Records.{HasCleared, HasEnded, HasOneMore, Kept, is_seen}
use Rattle.rs_versioned.proofs.SeenAfter.{EndsAs, before_birth, before_end_or_twice, unseen_cleared}
use Rattle.rs_versioned.proofs.Shuffles.{IsPermutation-filter}
use Rattle.rs_file_meaning.specs.Live.{KeepsShown}
use Rattle.rs_file_meaning.proofs.Named.{first_there, later_there}

same_number : (n : ℕ) → (n == n) ≡ true
same_number n = grind (arith, nat_tests)

module _ {Y : Type 0} (route : ℕ) where
  abbrev is_on : ℕ × Y → Bool
  is_on seen = seen.0 == route

  -- what of all that is seen is on the route
  abbrev pub on : List (ℕ × Y) → List Y
  on seen = map (λ one. one.1) (filter is_on seen)

  pub on_moved : (xs ys : List (ℕ × Y)) → IsPermutation xs ys → IsPermutation (on xs) (on ys)
  on_moved xs ys p = IsPermutation-map (λ one. one.1) (filter is_on xs) (filter is_on ys) (IsPermutation-filter is_on xs ys p)

  pub first_on : (y : Y) (xs : List (ℕ × Y)) → on ((route, y) ∷ xs) ≡ y ∷ on xs
  first_on y xs = ap (λ b. map (λ (one : ℕ × Y). one.1) (cond b ((route, y) ∷ filter is_on xs) (filter is_on xs))) (same_number route)

  pub on_there : (y : Y) (xs : List (ℕ × Y)) → Contains xs (route, y) → Contains (on xs) y
  on_there y xs there = at xs there.0 there.1 there.2 where
    at : (xs : List (ℕ × Y)) (k : ℕ) → k < length xs → get_or xs k (route, y) ≡ (route, y) → Contains (on xs) y
    at [] k inside is = absurd (omega (arith, inside))
    at (x ∷ xs) zero inside is =
        subst (λ (z : ℕ × Y). Contains (on (z ∷ xs)) y) (sym is) (subst (λ l. Contains l y) (sym (first_on y xs)) (first_there y (on xs)))
    at (x ∷ xs) (suc k) inside is = by_test (is_on x) (at xs k (omega (arith, inside)) is) where
      by_test : (b : Bool) → Contains (on xs) y → Contains (map (λ (one : ℕ × Y). one.1) (cond b (x ∷ filter is_on xs) (filter is_on xs))) y
      by_test true rest = later_there x.1 y (on xs) rest
      by_test false rest = rest

module _ {R Y : Type 0} (kept : Kept R) (route_of : R → ℕ) (show : R → Y) where
  abbrev look : R → ℕ × Y
  look one = (route_of one, show one)

  abbrev seen : ℕ → List R → List (ℕ × Y)
  seen version records = map look (filter (is_seen kept version) records)

  pub on_seen : (version route : ℕ) (records : List R) → on route (seen version records) ≡ map show (filter (λ one. route_of one == route && is_seen kept version one) records)
  on_seen version route [] = refl
  on_seen version route (x ∷ xs) = by_seen (is_seen kept version x) (on_seen version route xs) where
    Sees : List R
    Sees = filter (is_seen kept version) xs

    There : List R
    There = filter (λ one. route_of one == route && is_seen kept version one) xs

    Later : Type 0
    Later = on route (map look Sees) ≡ map show There

    by_route : (t : Bool) → Later → map (λ (one : ℕ × Y). one.1) (cond t (look x ∷ filter (is_on route) (map look Sees)) (filter (is_on route) (map look Sees))) ≡ map show (cond (t && true) (x ∷ There) There)
    by_route true later = ap (λ l. show x ∷ l) later
    by_route false later = later

    unseen : (t : Bool) → Later → on route (map look Sees) ≡ map show (cond (t && false) (x ∷ There) There)
    unseen true later = later
    unseen false later = later

    by_seen : (s : Bool) → Later → on route (map look (cond s (x ∷ Sees) Sees)) ≡ map show (cond (route_of x == route && s) (x ∷ There) There)
    by_seen true later = by_route (route_of x == route) later
    by_seen false later = unseen (route_of x == route) later

  module _ (ends : EndsAs kept (λ one. 0) look) (oldest accepted : ℕ) where
    abbrev Stays : List R → List R → Type 0
    Stays = KeepsShown seen oldest accepted

    pub keeps_come : (one : R) (old now : List R) → HasOneMore one old now → accepted < kept.born one → Stays old now
    keeps_come one old now more late = record { each = λ version low high. before_birth kept (λ one. 0) look version 0 one old now more (omega (arith, high, late)) }

    pub keeps_cleared : (cells : List (List ℕ)) (old now : List R) → HasCleared kept oldest cells old now → Stays old now
    keeps_cleared cells old now cleared = record { each = λ version low high. unseen_cleared kept (λ one. 0) look version 0 oldest cells old now cleared low }

    -- where no two of a route look the same
    pub keeps_ended : (at : ℕ) (one : R) (old now : List R) → HasEnded kept at one old now → kept.died one ≡ LIVING → accepted < at → at < LIVING
        → ((version : ℕ) → oldest ≤ version → version ≤ accepted → (y : Y) (rest : List Y) → IsPermutation (on (route_of one) (seen version old)) (y ∷ rest) → Contains rest y → ⊥) → Stays old now
    keeps_ended at one old now ended living late below once = record {
      each = λ version low high.
          elim (before_end_or_twice kept (λ one. 0) look ends at version 0 one old now ended (omega (arith, high, late)) (subst (λ (n : ℕ). version < n) (sym living) (omega (arith, high, late, below)))) [
            | inl same ↦ same
            | inr twice ↦
                let route = route_of one in
                let rest = on route (seen version now) in
                absurd (once version low high (show one) rest
                (subst (IsPermutation (on route (seen version old))) (first_on route (show one) (seen version now)) (on_moved route (seen version old) (look one ∷ seen version now) twice.more))
                (on_there route (show one) (seen version now) twice.there))
          ];
    }

-- ---- whatever is shown

module _ {R Y : Type 0} (shown : ℕ → List R → List Y) (oldest accepted : ℕ) where
  pub keeps_same : (records : List R) → KeepsShown shown oldest accepted records records
  keeps_same records = record { each = λ version low high. IsPermutation-refl (shown version records) }

  pub keeps_joined : (old next now : List R) → KeepsShown shown oldest accepted old next → KeepsShown shown oldest accepted next now → KeepsShown shown oldest accepted old now
  keeps_joined old next now first last = record {
    each = λ version low high. IsPermutation-trans (shown version now) (shown version next) (shown version old) (last.each version low high) (first.each version low high);
  }

  pub keeps_fewer : (from : ℕ) (old now : List R) → oldest ≤ from → KeepsShown shown oldest accepted old now → KeepsShown shown from accepted old now
  keeps_fewer from old now later keeps = record { each = λ version low high. keeps.each version (omega (arith, later, low)) high }
