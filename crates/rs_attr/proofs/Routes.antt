-- Parts of a table's cells by the routes of their events.
use Rattle.std.proofs.Common.{◌≡◌, ◌<◌, ◌≤◌, ◌^◌, ℕ, zero, suc, Bool, true, false, not, ◌&&◌, cond, nat_lt, Option, Some, None, List, [], ◌∷◌, ◌++◌, length, filter, slice_get, get_or, unwrap_or, refl, sym, ap, ◌∙◌, subst, inl, inr, arith}
use Rattle.std.proofs.lemmas.Bool.{cases_lt, cases_order, false≢true, le-ltb, lt-ltb}
use Rattle.std.proofs.lemmas.List.{append-nil}
use Rattle.std.proofs.lemmas.Option.{slice_get_within, unwrap_or-slice_get}
use Rattle.std.specs.Int.{w32, w64, to_be_bytes}
use Rattle.std.specs.List.{AllByRecursion, AllZip, Contains}
use Rattle.rs_records.specs.Order.{is_below}
use Rattle.rs_tree.specs.Cells.{cells_below, is_within}
use Rattle.rs_tree.proofs.Lists.{all_at, inside_has}
use Rattle.rs_value.specs.declared.column.ColumnType.{ColumnType}
use Rattle.rs_versioned.specs.Events.{Event, SaysEvent}
use Rattle.rs_versioned.specs.Meant.{AreRising}
use Rattle.rs_versioned.specs.declared.route_span.RouteSpan.{RouteSpan}
use Rattle.rs_versioned.proofs.Lifting.{zip_all}
use Rattle.rs_versioned.proofs.OnRoutes.{below_word}

-- ---- places among the routes

rising_at : (routes : List RouteSpan) → AreRising routes → (i j : ℕ) (one other : RouteSpan) → i < j → slice_get routes i ≡ Some one → slice_get routes j ≡ Some other → one.number < other.number
rising_at [] rising i j one other below first second = cc
rising_at (r ∷ rs) rising i zero one other below first second = absurd (omega (arith, below))
rising_at (r ∷ rs) rising zero (suc j) one other below first second =
    let same : r ≡ one = cc first in
    subst (λ (x : RouteSpan). x.number < other.number) same (all_at (λ (later : RouteSpan). r.number < later.number) rs j other rising.0 second)
rising_at (r ∷ rs) rising (suc i) (suc j) one other below first second = rising_at rs rising.1 i j one other (omega (arith, below)) first second

place_of : (routes : List RouteSpan) (one : RouteSpan) → Contains routes one → (j : ℕ) × (slice_get routes j ≡ Some one)
place_of [] one has = absurd (omega (arith, has.1))
place_of (r ∷ rs) one (zero, inside, is) = (0, ap Some is)
place_of (r ∷ rs) one (suc j, inside, is) = let more = place_of rs one (j, omega arith, is) in (suc more.0, more.1)

there_at : (routes : List RouteSpan) (k : ℕ) (one : RouteSpan) → slice_get routes k ≡ Some one → Contains routes one
there_at [] k one at = cc
there_at (r ∷ rs) zero one at = (0, omega arith, cc at)
there_at (r ∷ rs) (suc k) one at = let more = there_at rs k one at in (suc more.0, omega (arith, more.1), more.2)

pub read_at : (routes : List RouteSpan) (k : ℕ) (other : RouteSpan) → k < length routes → slice_get routes k ≡ Some (get_or routes k other)
read_at routes k other within =
    let has = inside_has routes k within in
    let read : has.0 ≡ get_or routes k other = sym (ap (λ (o : Option RouteSpan). unwrap_or o other) has.1) ∙ unwrap_or-slice_get routes k other in
    has.1 ∙ ap Some read

-- ---- where a look at the cells has come to

-- it has come to the route before this place, whose bytes these are
pub record IsAfter (routes : List RouteSpan) (index : ℕ) (route : RouteSpan) (low : List ℕ) : Type 0 where
  pub before : ℕ
  pub next : suc before ≡ index
  pub there : slice_get routes before ≡ Some route
  pub fits : route.number < 2 ^ 32
  pub bytes : low ≡ to_be_bytes w32 route.number

-- or to none yet
abbrev pub IsAt : List RouteSpan → ℕ → Option RouteSpan → List ℕ → Type 0
IsAt routes index None low = (index ≡ 0) × (low ≡ [])
IsAt routes index (Some route) low = IsAfter routes index route low

-- it is one of the routes
pub is_there : (routes : List RouteSpan) (index : ℕ) (route : Option RouteSpan) (low : List ℕ) → IsAt routes index route low → (one : RouteSpan) → route ≡ Some one → Contains routes one
is_there routes index None low at one same = let clash : None ≡ Some one = same in absurd (cc)
is_there routes index (Some route) low at one same = let is : route ≡ one = cc same in subst (Contains routes) is (there_at routes at.before route at.there)

-- nothing is below no bytes
below_nothing : (cell : List ℕ) → is_below cell [] ≡ false
unfolding is_below
below_nothing [] = refl
below_nothing (x ∷ xs) = refl

-- ---- the test by which the cells of a part are found tells the routes of its events

event_below : (types : List ColumnType) (cell : List ℕ) (event : Event) (number : ℕ) → SaysEvent types cell event → number < 2 ^ 32 → is_below cell (to_be_bytes w32 number) ≡ nat_lt event.route number
event_below types cell event number says small =
    let rest : List ℕ = to_be_bytes w32 event.lo ++ (says.bytes ++ (to_be_bytes w64 event.born ++ (to_be_bytes w32 event.hi ++ to_be_bytes w64 event.died))) in
    ap (λ (c : List ℕ). is_below c (to_be_bytes w32 number)) says.fields.bytes ∙ below_word event.route number rest says.fields.route_fits small

-- only events of this route, or of none that is given, are said by cells that pass the test
pub record IsPart (types : List ColumnType) (routes : List RouteSpan) (route : Option RouteSpan) (test : List ℕ → Bool) : Type 0 where
  pub between : ℕ → Bool
  pub tests : (cell : List ℕ) (event : Event) → SaysEvent types cell event → test cell ≡ between event.route
  pub has : (one : RouteSpan) → route ≡ Some one → between one.number ≡ true
  pub only : (other : RouteSpan) → Contains routes other → between other.number ≡ true → route ≡ Some other

lt_of : (n m : ℕ) → nat_lt n m ≡ true → n < m
lt_of n m is = elim (cases_lt n m) [ inl below ↦ below | inr above ↦ absurd (false≢true (sym (le-ltb n m above) ∙ is)) ]

le_of : (n m : ℕ) → not (nat_lt n m) ≡ true → m ≤ n
le_of n m is = elim (cases_lt n m) [ inl below ↦ absurd (false≢true (sym (ap not (lt-ltb n m below)) ∙ is)) | inr above ↦ above ]

first_true : (a b : Bool) → (a && b) ≡ true → a ≡ true
first_true true b is = refl
first_true false b is = absurd (false≢true is)

second_true : (a b : Bool) → (a && b) ≡ true → b ≡ true
second_true true b is = is
second_true false b is = absurd (false≢true is)

module _ (types : List ColumnType) (routes : List RouteSpan) (rising : AreRising routes) where
  -- a route with a lower number than the next has its place before it
  earlier : (index : ℕ) (next other : RouteSpan) → slice_get routes index ≡ Some next → (j : ℕ) → slice_get routes j ≡ Some other → other.number < next.number → j < index
  earlier index next other there j at below = elim (cases_order j index) [
    | inl same ↦
        let is : Some other ≡ Some next = sym at ∙ ap (slice_get routes) same ∙ there in
        let one : other ≡ next = cc is in
        let number : other.number ≡ next.number = ap (λ (r : RouteSpan). r.number) one in
        absurd (omega (arith, number, below))
    | inr apart ↦ elim apart [
      | inl before ↦ before
      | inr after ↦ absurd (omega (arith, rising_at routes rising index j next other after there at, below))
    ]
  ]

  -- up to a place just after this route, those with no lower number are this one
  this_one : (k : ℕ) (route other : RouteSpan) → slice_get routes k ≡ Some route → (j : ℕ) → slice_get routes j ≡ Some other → j < suc k → route.number ≤ other.number → Some route ≡ Some other
  this_one k route other there j at upto above = elim (cases_lt j k) [
    | inl before ↦ absurd (omega (arith, rising_at routes rising j k other route before at there, above))
    | inr after ↦ let same : j ≡ k = omega (arith, after, upto) in sym there ∙ ap (slice_get routes) (sym same) ∙ at
  ]

  module _ (index : ℕ) (next : RouteSpan) (there : slice_get routes index ≡ Some next) (small : next.number < 2 ^ 32) (high : List ℕ) (is : high ≡ to_be_bytes w32 next.number) where
    pub order_at : (route : Option RouteSpan) (low : List ℕ) → IsAt routes index route low → is_below high low ≡ false
    order_at None low at = ap (is_below high) at.1 ∙ below_nothing high
    order_at (Some route) low at =
        let place : slice_get routes (suc at.before) ≡ Some next = ap (slice_get routes) at.next ∙ there in
        let more : route.number < next.number = rising_at routes rising at.before (suc at.before) route next (omega arith) at.there place in
        let word : is_below (to_be_bytes w32 next.number) (to_be_bytes w32 route.number) ≡ nat_lt next.number route.number =
        ap (λ (l : List ℕ). is_below l (to_be_bytes w32 route.number)) (sym (append-nil (to_be_bytes w32 next.number))) ∙ below_word next.number route.number [] small at.fits in
        ap (λ (h : List ℕ). is_below h low) is ∙ ap (is_below (to_be_bytes w32 next.number)) at.bytes ∙ word ∙ le-ltb next.number route.number (omega (arith, more))

    -- the cells up to the next route
    pub part_within : (route : Option RouteSpan) (low : List ℕ) → IsAt routes index route low → IsPart types routes route (is_within low high)
    part_within None low at = record {
      between = λ n. nat_lt n next.number;
      tests = λ cell event says.
          ap (λ (l : List ℕ). not (is_below cell l) && is_below cell high) at.1
          ∙ ap (λ (b : Bool). not b && is_below cell high) (below_nothing cell)
          ∙ ap (is_below cell) is ∙ event_below types cell event next.number says small;
      has = λ one same. let clash : None ≡ Some one = same in absurd (cc);
      only = λ other has below.
          let place = place_of routes other has in
          absurd (omega (arith, earlier index next other there place.0 place.1 (lt_of other.number next.number below), at.0));
    }
    part_within (Some route) low at = record {
      between = λ n. not (nat_lt n route.number) && nat_lt n next.number;
      tests = λ cell event says.
          ap (λ (l : List ℕ). not (is_below cell l) && is_below cell high) at.bytes
          ∙ ap (λ (b : Bool). not b && is_below cell high) (event_below types cell event route.number says at.fits)
          ∙ ap (λ (h : List ℕ). not (nat_lt event.route route.number) && is_below cell h) is
          ∙ ap (λ (b : Bool). not (nat_lt event.route route.number) && b) (event_below types cell event next.number says small);
      has = λ one same.
          let one_is : route ≡ one = cc same in
          let place : slice_get routes (suc at.before) ≡ Some next = ap (slice_get routes) at.next ∙ there in
          let more : route.number < next.number = rising_at routes rising at.before (suc at.before) route next (omega arith) at.there place in
          subst (λ (r : RouteSpan). (not (nat_lt r.number route.number) && nat_lt r.number next.number) ≡ true) one_is
          (ap (λ (b : Bool). not b && nat_lt route.number next.number) (le-ltb route.number route.number (omega arith)) ∙ lt-ltb route.number next.number more);
      only = λ other has between.
          let place = place_of routes other has in
          let above = le_of other.number route.number (first_true (not (nat_lt other.number route.number)) (nat_lt other.number next.number) between) in
          let below = lt_of other.number next.number (second_true (not (nat_lt other.number route.number)) (nat_lt other.number next.number) between) in
          this_one at.before route other at.there place.0 place.1 (omega (arith, earlier index next other there place.0 place.1 below, at.next)) above;
    }

  -- the cells that are left after the last route
  pub part_left : (index : ℕ) (route : Option RouteSpan) (low : List ℕ) → length routes ≤ index → IsAt routes index route low → IsPart types routes route (λ cell. not (is_below cell low))
  part_left index None low last at = record {
    between = λ n. true;
    tests = λ cell event says. ap (λ (l : List ℕ). not (is_below cell l)) at.1 ∙ ap not (below_nothing cell);
    has = λ one same. refl;
    only = λ other has any.
        let place = place_of routes other has in
        absurd (omega (arith, slice_get_within routes place.0 other place.1, last, at.0));
  }
  part_left index (Some route) low last at = record {
    between = λ n. not (nat_lt n route.number);
    tests = λ cell event says. ap (λ (l : List ℕ). not (is_below cell l)) at.bytes ∙ ap not (event_below types cell event route.number says at.fits);
    has = λ one same.
        let one_is : route ≡ one = cc same in
        subst (λ (r : RouteSpan). not (nat_lt r.number route.number) ≡ true) one_is (ap not (le-ltb route.number route.number (omega arith)));
    only = λ other has above.
        let place = place_of routes other has in
        this_one at.before route other at.there place.0 place.1 (omega (arith, slice_get_within routes place.0 other place.1, last, at.next)) (le_of other.number route.number above);
  }

-- ---- the events before a part are on routes before it

all_pass : (test : List ℕ → Bool) (cells : List (List ℕ)) → AllByRecursion (λ cell. test cell ≡ true) (filter test cells)
all_pass test [] = tt
all_pass test (c ∷ cs) = by_test (test c) refl (all_pass test cs) where
  by_test : (b : Bool) → test c ≡ b → AllByRecursion (λ cell. test cell ≡ true) (filter test cs) → AllByRecursion (λ cell. test cell ≡ true) (cond b (c ∷ filter test cs) (filter test cs))
  by_test true is rest = (is, rest)
  by_test false isnt rest = rest

pub routes_before : (types : List ColumnType) (routes : List RouteSpan) (index : ℕ) (route : Option RouteSpan) (low : List ℕ) → IsAt routes index route low → (cells : List (List ℕ)) (events : List Event)
    → AllZip (SaysEvent types) (cells_below low cells) events → (one : RouteSpan) → route ≡ Some one → AllByRecursion (λ event. event.route < one.number) events
routes_before types routes index None low at cells events say one same = let clash : None ≡ Some one = same in absurd (cc)
routes_before types routes index (Some route) low at cells events say one same =
    let is : route ≡ one = cc same in
    subst (λ (r : RouteSpan). AllByRecursion (λ (event : Event). event.route < r.number) events) is
    (zip_all (SaysEvent types) (λ cell. is_below cell low ≡ true) (λ event. event.route < route.number)
    (λ cell event says below. lt_of event.route route.number (sym (ap (is_below cell) at.bytes ∙ event_below types cell event route.number says at.fits) ∙ below))
    (cells_below low cells) events say (all_pass (λ cell. is_below cell low) cells))
