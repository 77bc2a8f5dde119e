-- Which route the numbers between two routes are of, where routes rise.
use Rattle.std.proofs.Common.{◌≡◌, ◌<◌, ◌≤◌, ℕ, zero, suc, Bool, true, false, not, ◌&&◌, nat_lt, Option, Some, None, List, [], ◌∷◌, drop, length, slice_get, slice_index_or, refl, sym, ap, ◌∙◌, subst, arith}
use Rattle.std.proofs.lemmas.Bool.Decides.{nat_tests}
use Rattle.std.specs.List.{AllByRecursion, Contains}
use Rattle.rs_tree.proofs.Lists.{all_at, inside_has}
use Rattle.rs_versioned.specs.Meant.{AreRising}
use Rattle.rs_versioned.specs.declared.route_span.RouteSpan.{RouteSpan}
use Rattle.rs_versioned.proofs.MeantLists.{all_weaker}
use Rattle.rs_versioned.proofs.MeantParts.{IsPart}

-- the route before the one at a place
abbrev pub before : List RouteSpan → ℕ → Option RouteSpan
before routes zero = None
before routes (suc k) = slice_get routes k

-- the number from which the numbers of a part are on
abbrev pub from_of : Option RouteSpan → ℕ
from_of None = 0
from_of (Some route) = route.number

abbrev pub is_between : ℕ → ℕ → ℕ → Bool
is_between from next n = not (nat_lt n from) && nat_lt n next

abbrev pub is_after : ℕ → ℕ → Bool
is_after from n = not (nat_lt n from)

-- no route
abbrev pub nowhere : RouteSpan
nowhere = record { number = 0; start = 0; finish = 0 }

pub at_place : (routes : List RouteSpan) (k : ℕ) → k < length routes → slice_get routes k ≡ Some (slice_index_or routes k nowhere)
at_place [] k within = absurd (omega (arith, within))
at_place (r ∷ rs) zero within = refl
at_place (r ∷ rs) (suc k) within = at_place rs k (omega (arith, within))

at_has : (routes : List RouteSpan) (k : ℕ) (route : RouteSpan) → slice_get routes k ≡ Some route → Contains routes route
at_has [] k route there = absurd (cc)
at_has (r ∷ rs) zero route there = let same : r ≡ route = cc in (0, omega arith, same)
at_has (r ∷ rs) (suc k) route there = let has = at_has rs k route there in (suc has.0, omega (arith, has.1), has.2)

all_past : (P : RouteSpan → Type 0) (routes : List RouteSpan) (k : ℕ) → length routes ≤ k → AllByRecursion P (drop k routes)
all_past P [] zero past = tt
all_past P [] (suc k) past = tt
all_past P (r ∷ rs) zero past = absurd (omega (arith, past))
all_past P (r ∷ rs) (suc k) past = all_past P rs k (omega (arith, past))

-- those from a place on have no smaller numbers
rising_from : (routes : List RouteSpan) (k : ℕ) (next : RouteSpan) → slice_get routes k ≡ Some next → AreRising routes → AllByRecursion (λ route. next.number ≤ route.number) (drop k routes)
rising_from [] k next there rising = absurd (cc)
rising_from (r ∷ rs) zero next there rising =
    let same : r ≡ next = cc in
    subst (λ (s : RouteSpan). AllByRecursion (λ route. s.number ≤ route.number) (r ∷ rs)) same
    (omega arith, all_weaker (λ route. r.number < route.number) (λ route. r.number ≤ route.number) (λ route less. omega (arith, less)) rs rising.0)
rising_from (r ∷ rs) (suc k) next there rising = rising_from rs k next there rising.1

pub before_below : (routes : List RouteSpan) (k : ℕ) (next route : RouteSpan) → AreRising routes → before routes k ≡ Some route → slice_get routes k ≡ Some next → route.number < next.number
before_below routes zero next route rising is there = let wrong : None ≡ Some route = is in absurd (cc)
before_below [] (suc k) next route rising is there = absurd (cc)
before_below (r ∷ rs) (suc zero) next route rising is there =
    let same : r ≡ route = cc in
    subst (λ (s : RouteSpan). s.number < next.number) same (all_at (λ later. r.number < later.number) rs zero next rising.0 there)
before_below (r ∷ rs) (suc (suc k)) next route rising is there = before_below rs (suc k) next route rising.1 is there

module _ (test : ℕ → Bool) where
  only_after : (routes : List RouteSpan) (k : ℕ) (route : RouteSpan) → slice_get routes k ≡ Some route → AreRising routes → AllByRecursion (λ later. test later.number ≡ true → ⊥) (drop (suc k) routes)
      → ((n : ℕ) → test n ≡ true → route.number ≤ n) → AllByRecursion (λ other. test other.number ≡ true → Some route ≡ Some other) routes
  only_after [] k route there rising none upto = absurd (cc)
  only_after (r ∷ rs) zero route there rising none upto =
      let same : r ≡ route = cc in
      (λ _. ap (λ s. Some s) (sym same), all_weaker (λ later. test later.number ≡ true → ⊥) (λ other. test other.number ≡ true → Some route ≡ Some other) (λ later no' in'. absurd (no' in')) rs none)
  only_after (r ∷ rs) (suc k) route there rising none upto =
      (λ in'. absurd (omega (arith, upto r.number in', all_at (λ later. r.number < later.number) rs k route rising.0 there)), only_after rs k route there rising.1 none upto)

  part_at : (routes : List RouteSpan) (k : ℕ) (on : Option RouteSpan) → AreRising routes → on ≡ before routes k → k ≤ length routes → AllByRecursion (λ later. test later.number ≡ true → ⊥) (drop k routes)
      → ((n : ℕ) → test n ≡ true → from_of on ≤ n) → ((route : RouteSpan) → on ≡ Some route → test route.number ≡ true) → IsPart routes test on
  part_at routes zero on rising is within none upto own = record {
    only = all_weaker (λ later. test later.number ≡ true → ⊥) (λ other. test other.number ≡ true → on ≡ Some other) (λ later no' in'. absurd (no' in')) routes none;
    here = λ route there. let wrong : None ≡ Some route = sym is ∙ there in absurd (cc);
  }
  part_at routes (suc k) on rising is within none upto own =
      let at = inside_has routes k (omega (arith, within)) in
      let one : on ≡ Some at.0 = is ∙ at.1 in
      record {
        only = subst (λ (o : Option RouteSpan). AllByRecursion (λ other. test other.number ≡ true → o ≡ Some other) routes) (sym one)
            (only_after routes k at.0 at.1 rising none (λ n in'. subst (λ (o : Option RouteSpan). from_of o ≤ n) one (upto n in')));
        here = λ route there.
            let same : at.0 ≡ route = (let e : Some at.0 ≡ Some route = sym one ∙ there in cc) in
            (subst (Contains routes) same (at_has routes k at.0 at.1), own route there);
      }

not_between : (from next n : ℕ) → next ≤ n → is_between from next n ≡ true → ⊥
not_between from next n upto is =
    let no' : nat_lt n next ≡ false = grind (arith, nat_tests) in by_test (not (nat_lt n from)) (nat_lt n next) no' is
  where
    by_test : (a b : Bool) → b ≡ false → (a && b) ≡ true → ⊥
    by_test true true e holds = let wrong : true ≡ false = e in absurd (cc)
    by_test true false e holds = let wrong : false ≡ true = holds in absurd (cc)
    by_test false b e holds = let wrong : false ≡ true = holds in absurd (cc)

from_between : (from next n : ℕ) → is_between from next n ≡ true → from ≤ n
from_between from next n is = by_test (nat_lt n from) refl is where
  by_test : (b : Bool) → nat_lt n from ≡ b → (not b && nat_lt n next) ≡ true → from ≤ n
  by_test true e holds = let wrong : false ≡ true = holds in absurd (cc)
  by_test false e holds = grind (arith, nat_tests)

pub between_all : (from next n : ℕ) → from ≤ n → n < next → is_between from next n ≡ true
between_all from next n upto below =
    let no' : nat_lt n from ≡ false = grind (arith, nat_tests) in
    let yes : nat_lt n next ≡ true = grind (arith, nat_tests) in
    rw (no', yes) refl

pub after_all : (from n : ℕ) → from ≤ n → is_after from n ≡ true
after_all from n upto = let no' : nat_lt n from ≡ false = grind (arith, nat_tests) in rw no' refl

from_after : (from n : ℕ) → is_after from n ≡ true → from ≤ n
from_after from n is = by_test (nat_lt n from) refl is where
  by_test : (b : Bool) → nat_lt n from ≡ b → not b ≡ true → from ≤ n
  by_test true e holds = let wrong : false ≡ true = holds in absurd (cc)
  by_test false e holds = grind (arith, nat_tests)

module _ (routes : List RouteSpan) (k : ℕ) (on : Option RouteSpan) (rising : AreRising routes) (is : on ≡ before routes k) where
  -- the part before the next route
  pub part_between : (next : RouteSpan) → k < length routes → slice_get routes k ≡ Some next → IsPart routes (is_between (from_of on) next.number) on
  part_between next within there =
      part_at (is_between (from_of on) next.number) routes k on rising is (omega (arith, within))
      (all_weaker (λ route. next.number ≤ route.number) (λ route. is_between (from_of on) next.number route.number ≡ true → ⊥) (λ route upto. not_between (from_of on) next.number route.number upto) (drop k routes)
      (rising_from routes k next there rising))
      (from_between (from_of on) next.number)
      (λ route one. let from : from_of on ≡ route.number = ap from_of one in
      between_all (from_of on) next.number route.number (omega (arith, from)) (before_below routes k next route rising (sym is ∙ one) there))

  -- the last part
  pub part_after : k ≤ length routes → length routes ≤ k → IsPart routes (is_after (from_of on)) on
  part_after within past =
      part_at (is_after (from_of on)) routes k on rising is within (all_past (λ later. is_after (from_of on) later.number ≡ true → ⊥) routes k past) (from_after (from_of on))
      (λ route one. let from : from_of on ≡ route.number = ap from_of one in after_all (from_of on) route.number (omega (arith, from)))
