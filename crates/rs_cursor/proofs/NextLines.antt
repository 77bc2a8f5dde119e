-- The lines of routes from a place on, part by part.
use Rattle.std.proofs.Common.{◌≡◌, ◌+◌, ◌-◌, ◌^◌, ◌<◌, ◌≤◌, ℕ, ◌⊎◌, inl, inr, List, [], ◌++◌, append-nil, append_assoc, ap, arith, drop, flat_map, get_or, length, map, min, refl, sym, take, ◌∙◌}
use Rattle.std.proofs.Math.Seq.{drop-append-add}
use Rattle.std.proofs.lemmas.Bool.{cases_lt}
use Rattle.std.proofs.lemmas.List.{drop-append-le, drop-drop, drop_all, drop_at, drop_more, get_or-map, length-drop, length-map, take-append-drop, take_all, take_at}
use Rattle.std.specs.FinMap as names
use Rattle.rs_answers.specs.Routes.{entry_of}
use Rattle.rs_catalog.specs.declared.entries.NamedRoute.{NamedRoute}
use Rattle.rs_catalog.specs.Definitions.{RouteItem}
use Rattle.rs_cursor.specs.declared.place.Place.{Place}
use Rattle.rs_facts.specs.Fact.{Name, Names}
use Rattle.rs_machine.specs.declared.limits.TheConstants.{ROUTES}
use Rattle.rs_machine.specs.State.{RowText}

module _ {R : Type 0} (each : R → List RowText) (routes : List R) where
  -- the lines of the routes from the place's on, less those that were given
  abbrev pub lines_from : Place → List RowText
  lines_from place = drop place.given (flat_map each (drop place.route routes))

  -- past the last route there are none
  pub lines-end : (place : Place) → length routes ≤ place.route → lines_from place ≡ []
  lines-end place past = ap (λ rs. drop place.given (flat_map each rs)) (drop_all place.route routes past) ∙ drop_all place.given [] (omega arith)

  module _ (place : Place) (one : R) (within : place.route < length routes) (is : one ≡ get_or routes place.route one) where
    abbrev lines : List RowText
    lines = each one

    abbrev rest : List RowText
    rest = flat_map each (drop (place.route + 1) routes)

    first : flat_map each (drop place.route routes) ≡ lines ++ rest
    first = ap (flat_map each) (drop_more routes place.route one within) ∙ ap (λ r. each r ++ rest) (sym is)

    -- where the route has lines left
    stays : (most : ℕ) → place.given + most < length lines → lines_from place ≡ take most (drop place.given lines) ++ lines_from (record place { given = place.given + most })
    stays most some =
        let left = drop place.given lines in
        ap (drop place.given) first
        ∙ drop-append-le place.given lines rest (omega arith)
        ∙ ap (λ l. l ++ rest) (sym (take-append-drop most left))
        ∙ append_assoc (take most left) (drop most left) rest
        ∙ ap (λ l. take most left ++ l)
        (ap (λ l. l ++ rest) (drop-drop most place.given lines) ∙ sym (drop-append-le (place.given + most) lines rest (omega arith)) ∙ ap (drop (place.given + most)) (sym first))

    -- where all of them are given
    after : lines_from place ≡ drop place.given lines ++ drop (place.given - length lines) rest
    after = elim (cases_lt (length lines) place.given) [
      | inl more ↦
          ap (drop place.given) first
          ∙ (let split : place.given ≡ length lines + (place.given - length lines) = omega arith in ap (λ n. drop n (lines ++ rest)) split)
          ∙ drop-append-add lines rest (place.given - length lines)
          ∙ ap (λ l. l ++ drop (place.given - length lines) rest) (sym (drop_all place.given lines (omega arith)))
      | inr less ↦
          ap (drop place.given) first
          ∙ drop-append-le place.given lines rest less
          ∙ (let none : 0 ≡ place.given - length lines = omega arith in ap (λ n. drop place.given lines ++ drop n rest) none)
    ]

    moves_on : (most : ℕ) → length lines ≤ place.given + most
        → lines_from place ≡ take most (drop place.given lines) ++ lines_from (record { route = place.route + 1; given = place.given - length lines })
    moves_on most none =
        after ∙ ap (λ l. l ++ drop (place.given - length lines) rest) (sym (take_all most (drop place.given lines) (omega (arith, length-drop place.given lines))))

    pub lines-step : (most all : ℕ) (next : Place) → all ≡ length lines
        → (place.given + most < all → next ≡ record place { given = place.given + most })
        → (all ≤ place.given + most → next ≡ record { route = place.route + 1; given = place.given - all })
        → lines_from place ≡ take most (drop place.given lines) ++ lines_from next
    lines-step most all next counts if_some if_none = elim (cases_lt (place.given + most) all) [
      | inl some ↦ stays most (omega arith) ∙ ap (λ (to : Place). take most (drop place.given lines) ++ lines_from to) (sym (if_some some))
      | inr none ↦
          moves_on most (omega arith)
          ∙ ap (λ n. take most (drop place.given lines) ++ lines_from (record { route = place.route + 1; given = place.given - n })) (sym counts)
          ∙ ap (λ (to : Place). take most (drop place.given lines) ++ lines_from to) (sym (if_none none))
    ]

-- more lines after those that were given
pub lines-more : (all old more new left rest : List RowText) → all ≡ old ++ left → left ≡ more ++ rest → new ≡ old ++ more → all ≡ new ++ rest
lines-more all old more new left rest parted step gives = parted ∙ ap (λ l. old ++ l) step ∙ sym (append_assoc old more rest) ∙ ap (λ l. l ++ rest) (sym gives)

-- ---- the routes

-- a place that is past the routes that are counted is past all that are kept
pub past-all : (routes : List NamedRoute) (kept : Names RouteItem) (count route : ℕ) → map entry_of routes ≡ names.entries kept → names.len kept ≤ ROUTES
    → count ≡ min (length routes) (2 ^ 32 - 1) → count ≤ route → length (names.entries kept) ≤ route
past-all routes kept count route all few counts past =
    let same = sym (length-map routes entry_of) ∙ ap length all in
    let limit : ROUTES ≡ 4096 = refl in
    let power : 2 ^ 32 - 1 ≡ 4294967295 = refl in
    omega (arith, same, names.len-entries kept, few, limit, power, counts, past)

-- the route at a place among those listed is the one kept at that place
pub listed-at : (routes : List NamedRoute) (entries : List (Name × RouteItem)) (k : ℕ) (one : NamedRoute) → map entry_of routes ≡ entries → k < length routes → one ≡ get_or routes k one
    → (k < length entries) × (entry_of one ≡ get_or entries k (entry_of one))
listed-at routes entries k one all within is = (
  omega (arith, sym (length-map routes entry_of) ∙ ap length all, within),
  ap entry_of is ∙ sym (get_or-map entry_of routes k one (entry_of one) within) ∙ ap (λ es. get_or es k (entry_of one)) all,
)

-- ---- enough lines, or all of them

module _ (all got rest : List RowText) (parted : all ≡ got ++ rest) (most : ℕ) (few : length got ≤ most) (end : (length got ≡ most) ⊎ (rest ≡ [])) where
  whole : rest ≡ [] → all ≡ got
  whole none = parted ∙ ap (λ l. got ++ l) none ∙ append-nil got

  given-is : got ≡ take most all
  given-is = elim end [
    | inl enough ↦ sym (take_at got rest most enough) ∙ ap (take most) (sym parted)
    | inr none ↦ sym (take_all most got few) ∙ ap (take most) (sym (whole none))
  ]

  left-is : rest ≡ drop most all
  left-is = elim end [
    | inl enough ↦ sym (drop_at got rest most enough) ∙ ap (drop most) (sym parted)
    | inr none ↦ none ∙ sym (drop_all most got few) ∙ ap (drop most) (sym (whole none))
  ]

-- lines from one place to another, of routes that are listed, where there are enough of them or the routes that are counted are through
module _ (each : Name × RouteItem → List RowText) (routes : List NamedRoute) (kept : Names RouteItem) (listed : map entry_of routes ≡ names.entries kept) (small : names.len kept ≤ ROUTES)
    (count : ℕ) (counts : count ≡ min (length routes) (2 ^ 32 - 1)) (from to : Place) (got : List RowText)
    (parted : lines_from each (names.entries kept) from ≡ got ++ lines_from each (names.entries kept) to)
    (most : ℕ) (few : length got ≤ most) (stop : (most ≤ length got) ⊎ (count ≤ to.route)) where
  end : (length got ≡ most) ⊎ (lines_from each (names.entries kept) to ≡ [])
  end = elim stop [
    | inl enough ↦ inl (omega arith)
    | inr through ↦ inr (lines-end each (names.entries kept) to (past-all routes kept count to.route listed small counts through))
  ]

  pub lines-given : got ≡ take most (lines_from each (names.entries kept) from)
  lines-given = given-is (lines_from each (names.entries kept) from) got (lines_from each (names.entries kept) to) parted most few end

  pub lines-left : lines_from each (names.entries kept) to ≡ drop most (lines_from each (names.entries kept) from)
  lines-left = left-is (lines_from each (names.entries kept) from) got (lines_from each (names.entries kept) to) parted most few end
