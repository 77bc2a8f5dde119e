-- An event that a version sees on a route has its span among those that it sees there.
use Rattle.std.proofs.Common.{◌≡◌, ◌<◌, ◌≤◌, ◌==◌, ◌&&◌, ℕ, zero, suc, Bool, true, false, cond, nat_le, nat_lt, List, [], ◌∷◌, map, filter, sym, ap, ◌∙◌, subst, arith}
use Rattle.std.proofs.lemmas.Bool.{and_from, eq-eqb, le-leb, lt-ltb}
use Rattle.std.proofs.lemmas.List.Sorted.{IsPermutation-map}
use Rattle.std.specs.List.{Contains}
use Rattle.std.specs.List.Sorted.{IsPermutation}
use Rattle.rs_cell_versions.specs.declared.cell.TheConstants.{LIVING}
use Rattle.rs_value.specs.declared.column.ColumnType.{ColumnType}
use Rattle.rs_versioned.specs.Events.{Event, is_on, span_of, spans_at}
use Rattle.rs_versioned.proofs.Shuffles.{IsPermutation-filter}

-- what passes a test is among those that do
pub kept_has : (p : Event → Bool) (xs : List Event) (one : Event) → p one ≡ true → Contains xs one → Contains (map span_of (filter p xs)) (span_of one)
kept_has p [] one is has = absurd (omega (arith, has.1))
kept_has p (x ∷ xs) one is (zero, inside, same) =
    let here : p x ≡ true = ap p same ∙ is in
    subst (λ b. Contains (map span_of (cond b (x ∷ filter p xs) (filter p xs))) (span_of one)) (sym here) (0, omega arith, ap span_of same)
kept_has p (x ∷ xs) one is (suc k, inside, same) = by (p x) (kept_has p xs one is (k, omega arith, same)) where
  by : (b : Bool) → Contains (map span_of (filter p xs)) (span_of one) → Contains (map span_of (cond b (x ∷ filter p xs) (filter p xs))) (span_of one)
  by true more = (suc more.0, omega (arith, more.1), more.2)
  by false more = more

module _ (types : List ColumnType) (version route : ℕ) where
  pub shown_there : (below : version < LIVING) (one : Event) (events : List Event) → one.route ≡ route → one.died ≡ LIVING → one.born ≤ version → Contains events one
      → Contains (spans_at version route events) (span_of one)
  shown_there below one events on lives born has =
      kept_has (is_on version route) events one
      (and_from (one.route == route) (nat_le one.born version && nat_lt version one.died) (eq-eqb one.route route on)
      (and_from (nat_le one.born version) (nat_lt version one.died) (le-leb one.born version born) (lt-ltb version one.died (subst (λ (n : ℕ). version < n) (sym lives) below)))) has

  pub same_shown : (xs ys : List Event) → IsPermutation xs ys → IsPermutation (spans_at version route xs) (spans_at version route ys)
  same_shown xs ys p = IsPermutation-map span_of (filter (is_on version route) xs) (filter (is_on version route) ys) (IsPermutation-filter (is_on version route) xs ys p)
