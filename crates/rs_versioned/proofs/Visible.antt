-- Events that are visible between two bounds, and the facts between these.
use Rattle.std.proofs.Common.{◌≡◌, ◌<◌, ◌≤◌, ◌&&◌, ◌==◌, ◌⊎◌, ℕ, Bool, true, false, cond, nat_lt, List, [], ◌∷◌, map, filter, refl, sym, ap, ◌∙◌, inl, inr, arith}
use Rattle.std.proofs.lemmas.Bool.{and_cases, and_from, false≢true, lt-ltb, ltb-false}
use Rattle.std.specs.List.{AllByRecursion}
use Rattle.rs_facts.specs.Fact.{Places, RowSet, add}
use Rattle.rs_facts.specs.Insert.{with_row, within}
use Rattle.rs_facts.specs.Spans.{places_of}
use Rattle.rs_facts.proofs.Placing.{within-false}
use Rattle.rs_value.specs.Row.{Row}
use Rattle.rs_versioned.specs.Events.{Event, facts_at, is_on, is_visible, sees_event, span_of}

-- what is seen on the route and lies between two bounds is all that is seen there
pub visible_within : (version route a b : ℕ) (events : List Event) → AllByRecursion (λ event. (a < event.hi) × (event.lo < b)) (filter (is_on version route) events)
    → filter (is_visible version route a b) events ≡ filter (is_on version route) events
visible_within version route a b [] all = refl
visible_within version route a b (e ∷ es) all =
    by_tests (e.route == route) (nat_lt e.lo b && nat_lt a e.hi) (sees_event version e) refl (visible_within version route a b es) all where
      rest : List Event
      rest = filter (is_on version route) es

      seen : List Event
      seen = filter (is_visible version route a b) es

      Lie : List Event → Type 0
      Lie = AllByRecursion (λ event. (a < event.hi) × (event.lo < b))

      unseen : (t : Bool) → seen ≡ rest → cond (t && false) (e ∷ seen) seen ≡ rest
      unseen true more = more
      unseen false more = more

      by_tests : (on between sees : Bool) → (nat_lt e.lo b && nat_lt a e.hi) ≡ between → (Lie rest → seen ≡ rest) → Lie (cond (on && sees) (e ∷ rest) rest)
          → cond (on && between && sees) (e ∷ seen) seen ≡ cond (on && sees) (e ∷ rest) rest
      by_tests false between sees is more lie = more lie
      by_tests true between false is more lie = unseen between (more lie)
      by_tests true true true is more lie = ap (λ (l : List Event). e ∷ l) (more lie.1)
      by_tests true false true is more lie =
          let inside : (nat_lt e.lo b && nat_lt a e.hi) ≡ true = and_from (nat_lt e.lo b) (nat_lt a e.hi) (lt-ltb e.lo b lie.0.1) (lt-ltb a e.hi lie.0.0) in
          absurd (false≢true (sym is ∙ inside))

-- a row along a span changes nothing outside it, and as much here as there
row_outside : (lo hi k : ℕ) (row : Row) (places : Places) → (k < lo) ⊎ (hi ≤ k) → with_row lo hi row places k ≡ places k
unfolding with_row
row_outside lo hi k row places out = ap (λ t. cond t (add (places k) row) (places k)) (within-false lo hi k out)

row_alike : (lo hi k : ℕ) (row : Row) (one other : Places) → one k ≡ other k → with_row lo hi row one k ≡ with_row lo hi row other k
unfolding with_row
row_alike lo hi k row one other same = ap (λ (rows : RowSet). cond (within lo hi k) (add rows row) rows) same

module _ (version route a b k : ℕ) (from : a ≤ k) (below : k < b) where
  abbrev seen_of : List Event → Places
  seen_of events = places_of (map span_of (filter (is_visible version route a b) events))

  -- one that isn't between the bounds holds nothing there
  outside : (e : Event) → (nat_lt e.lo b && nat_lt a e.hi) ≡ false → (k < e.lo) ⊎ (e.hi ≤ k)
  outside e is = elim (and_cases (nat_lt e.lo b) (nat_lt a e.hi) is) [
    | inl past ↦ inl (omega (arith, ltb-false e.lo b past, below))
    | inr early ↦ inr (omega (arith, ltb-false a e.hi early, from))
  ]

  step : (on seen between : Bool) (e : Event) (es : List Event) → (nat_lt e.lo b && nat_lt a e.hi) ≡ between → seen_of es k ≡ facts_at version route es k
      → places_of (map span_of (cond (on && between && seen) (e ∷ filter (is_visible version route a b) es) (filter (is_visible version route a b) es))) k
      ≡ places_of (map span_of (cond (on && seen) (e ∷ filter (is_on version route) es) (filter (is_on version route) es))) k
  step false seen between e es is ih = ih
  step true seen false e es is ih = by_seen seen where
    by_seen : (t : Bool) → seen_of es k ≡ places_of (map span_of (cond t (e ∷ filter (is_on version route) es) (filter (is_on version route) es))) k
    by_seen true = ih ∙ sym (row_outside e.lo e.hi k e.row (facts_at version route es) (outside e is))
    by_seen false = ih
  step true true true e es is ih = row_alike e.lo e.hi k e.row (seen_of es) (facts_at version route es) ih
  step true false true e es is ih = ih

  pub visible_between : (events : List Event) → places_of (map span_of (filter (is_visible version route a b) events)) k ≡ facts_at version route events k
  visible_between [] = refl
  visible_between (e ∷ es) = step (e.route == route) (sees_event version e) (nat_lt e.lo b && nat_lt a e.hi) e es refl (visible_between es)
