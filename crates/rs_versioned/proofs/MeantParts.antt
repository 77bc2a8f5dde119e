-- Referents are meant where those of each part are that lies between the numbers of two routes.
use Rattle.std.proofs.Common.{◌≡◌, ◌≤◌, ◌==◌, ℕ, Bool, true, false, cond, ◌&&◌, Option, Some, None, List, [], ◌∷◌, filter, length, map, refl, sym, ap, ◌∙◌, subst, arith}
use Rattle.std.proofs.lemmas.Bool.Decides.{nat_tests}
use Rattle.std.proofs.lemmas.List.Elements.{All-contains, All-from_recursion, filter_agree}
use Rattle.std.specs.List.{AllByRecursion, Contains}
use Rattle.rs_facts.specs.Fact.{AreDistinct}
use Rattle.rs_methods.specs.declared.limits.TheConstants.{REFERENTS}
use Rattle.rs_versioned.specs.Meant.{AreReferentsMeant, IsReferentMeant}
use Rattle.rs_versioned.specs.MeantParts.{ArePartMeant, IsMeantOn, names_of, seen}
use Rattle.rs_versioned.specs.Records.{is_seen}
use Rattle.rs_versioned.specs.Referents.{AreInNameOrder, ReferentRecord, is_referent_of, kept_referents, referents_at}
use Rattle.rs_versioned.specs.declared.route_span.RouteSpan.{RouteSpan}
use Rattle.rs_versioned.proofs.MeantLists.{all_pass, all_passing, all_weaker, as_many_pairs, distinct_kept, first_ones, no_longer}
use Rattle.rs_versioned.proofs.OnRoutes.{filter_both}

-- of the routes those with these numbers are this one, or none
pub record IsPart (routes : List RouteSpan) (test : ℕ → Bool) (on : Option RouteSpan) : Type 0 where
  pub only : AllByRecursion (λ route. test route.number ≡ true → on ≡ Some route) routes
  pub here : (route : RouteSpan) → on ≡ Some route → Contains routes route × (test route.number ≡ true)

-- those on routes with these numbers
abbrev pub part_of : (ℕ → Bool) → List ReferentRecord → List ReferentRecord
part_of test = filter (λ referent. test referent.route)

-- what is asked of those of one number
pub record IsMeantAt (routes : List RouteSpan) (version number : ℕ) (referents : List ReferentRecord) : Type 0 where
  pub each : AllByRecursion (IsReferentMeant routes) (filter (is_referent_of version number) referents)
  pub once : AreDistinct (map (λ one. one.0) (referents_at version number referents))
  pub few : length (referents_at version number referents) ≤ REFERENTS

same_number : (n m : ℕ) → (n == m) ≡ true → n ≡ m
same_number n m is = grind (arith, nat_tests)

is_same_number : (n m : ℕ) → n ≡ m → (n == m) ≡ true
is_same_number n m is = grind (arith, nat_tests)

module _ (routes : List RouteSpan) (version : ℕ) where
  -- each is meant where those of each number are
  each_of_numbers : (P : ReferentRecord → Type 0) (referents : List ReferentRecord) → ((n : ℕ) → AllByRecursion P (filter (is_referent_of version n) referents)) → AllByRecursion P (seen version referents)
  each_of_numbers P [] all = tt
  each_of_numbers P (r ∷ rs) all = by_test (is_seen kept_referents version r) refl (each_of_numbers P rs (λ n. rest (is_referent_of version n r) (filter (is_referent_of version n) rs) (all n))) where
    rest : (b : Bool) (others : List ReferentRecord) → AllByRecursion P (cond b (r ∷ others) others) → AllByRecursion P others
    rest true others these = these.1
    rest false others these = these

    by_test : (b : Bool) → is_seen kept_referents version r ≡ b → AllByRecursion P (seen version rs) → AllByRecursion P (cond b (r ∷ seen version rs) (seen version rs))
    by_test true is others =
        let on : is_referent_of version r.route r ≡ true = rw (is_same_number r.route r.route refl, is) refl in
        let these = subst (λ (b : Bool). AllByRecursion P (cond b (r ∷ filter (is_referent_of version r.route) rs) (filter (is_referent_of version r.route) rs))) on (all r.route) in
        (these.0, others)
    by_test false is others = others

  pub meant_everywhere : (referents : List ReferentRecord) → ((n : ℕ) → IsMeantAt routes version n referents) → AreReferentsMeant routes version referents
  meant_everywhere referents all = record {
    each = each_of_numbers (IsReferentMeant routes) referents (λ n. (all n).each);
    once = λ route. (all route).once;
    few = λ route. (all route).few;
  }

  -- those of one number are in the part with it
  on_one : (test : ℕ → Bool) (n : ℕ) → test n ≡ true → (referents : List ReferentRecord)
      → filter (λ referent. referent.route == n) (seen version (part_of test referents)) ≡ filter (is_referent_of version n) referents
  on_one test n in' referents =
      ap (filter (λ referent. referent.route == n)) (filter_both (λ referent. test referent.route) (is_seen kept_referents version) referents)
      ∙ filter_both (λ referent. test referent.route && is_seen kept_referents version referent) (λ referent. referent.route == n) referents
      ∙ filter_agree (λ referent. (test referent.route && is_seen kept_referents version referent) && (referent.route == n)) (is_referent_of version n) (λ r. agree r (r.route == n) refl) referents
    where
      agree : (r : ReferentRecord) (b : Bool) → (r.route == n) ≡ b → ((test r.route && is_seen kept_referents version r) && (r.route == n)) ≡ is_referent_of version n r
      agree r true is =
          let within : test r.route ≡ true = ap test (same_number r.route n is) ∙ in' in
          rw (within, is) (with_yes (is_seen kept_referents version r))
        where
          with_yes : (b : Bool) → (b && true) ≡ b
          with_yes true = refl
          with_yes false = refl
      agree r false is = rw is (with_no (test r.route && is_seen kept_referents version r)) where
        with_no : (b : Bool) → (b && false) ≡ false
        with_no true = refl
        with_no false = refl

  module _ (test : ℕ → Bool) (on : Option RouteSpan) (part : IsPart routes test on) (referents : List ReferentRecord) where
    abbrev these : List ReferentRecord
    these = seen version (part_of test referents)

    is_meant : (r : ReferentRecord) → IsMeantOn on r → IsReferentMeant routes r
    is_meant r so = record {
      named = so.own.named;
      not_start = so.own.not_start;
      lies = record { route = so.route; there = (part.here so.route so.there).0; numbered = so.numbered; is_so = so.lies };
    }

    -- those of the part are meant: so are those of each number in it
    pub meant_at : ArePartMeant on version (part_of test referents) → (n : ℕ) → test n ≡ true → IsMeantAt routes version n referents
    meant_at so n in' =
        let same = on_one test n in' referents in
        record {
          each = subst (AllByRecursion (IsReferentMeant routes)) same (all_passing (IsMeantOn on) (IsReferentMeant routes) (λ referent. referent.route == n) (λ r _. is_meant r) these so.each);
          once = subst AreDistinct (sym (first_ones (λ r. r.name) (λ r. r.measure) (filter (is_referent_of version n) referents)))
              (subst (λ (rs : List ReferentRecord). AreDistinct (names_of rs)) same (distinct_kept (λ r. r.name) (λ referent. referent.route == n) these so.once));
          few = omega (arith, as_many_pairs (λ r. r.name) (λ r. r.measure) (filter (is_referent_of version n) referents), ap length same, no_longer (λ referent. referent.route == n) these, so.few);
        }

    meant_on : (r : ReferentRecord) → test r.route ≡ true → IsReferentMeant routes r → IsMeantOn on r
    meant_on r in' so =
        let lies = so.lies in
        record {
          own = record { named = so.named; not_start = so.not_start };
          route = lies.route;
          there = All-contains (λ route. test route.number ≡ true → on ≡ Some route) routes lies.route (All-from_recursion (λ route. test route.number ≡ true → on ≡ Some route) routes part.only) lies.there
              (ap test lies.numbered ∙ in');
          numbered = lies.numbered;
          lies = lies.is_so;
        }

    module _ (meant : AreReferentsMeant routes version referents) where
      each_on : AllByRecursion (IsMeantOn on) these
      each_on =
          let swapped : filter (λ referent. test referent.route) (seen version referents) ≡ these =
          filter_both (is_seen kept_referents version) (λ referent. test referent.route) referents
          ∙ filter_agree (λ r. is_seen kept_referents version r && test r.route) (λ r. test r.route && is_seen kept_referents version r) (λ r. turned (is_seen kept_referents version r) (test r.route)) referents
          ∙ sym (filter_both (λ referent. test referent.route) (is_seen kept_referents version) referents) in
          subst (AllByRecursion (IsMeantOn on)) swapped (all_passing (IsReferentMeant routes) (IsMeantOn on) (λ referent. test referent.route) meant_on (seen version referents) meant.each)
        where
          turned : (a b : Bool) → (a && b) ≡ (b && a)
          turned true true = refl
          turned true false = refl
          turned false true = refl
          turned false false = refl

      -- what is so of those of each number, and of none, is so of those of the part
      of_numbers : (Q : List ReferentRecord → Type 0) → Q [] → ((n : ℕ) → Q (filter (is_referent_of version n) referents)) → Q these
      of_numbers Q none some = by_route on refl where
        all_numbered : (route : RouteSpan) → on ≡ Some route → (r : ReferentRecord) → IsMeantOn on r → (r.route == route.number) ≡ true
        all_numbered route is r so =
            let same : so.route ≡ route = (let e : Some so.route ≡ Some route = sym so.there ∙ is in cc) in
            is_same_number r.route route.number (sym so.numbered ∙ ap (λ (s : RouteSpan). s.number) same)

        nothing : (rs : List ReferentRecord) → on ≡ None → AllByRecursion (IsMeantOn on) rs → rs ≡ []
        nothing [] is all = refl
        nothing (r ∷ rs) is all = let some = all.0 in let wrong : None ≡ Some some.route = sym is ∙ some.there in absurd (cc)

        by_route : (o : Option RouteSpan) → on ≡ o → Q these
        by_route None is = subst Q (sym (nothing these is each_on)) none
        by_route (Some route) is =
            let n = route.number in
            let stay : filter (λ referent. referent.route == n) these ≡ these =
            all_pass (λ referent. referent.route == n) these (all_weaker (IsMeantOn on) (λ r. (r.route == n) ≡ true) (all_numbered route is) these each_on) in
            subst Q (sym (on_one test n (part.here route is).1 referents) ∙ stay) (some n)

      pub part_meant : ArePartMeant on version (part_of test referents)
      part_meant = record {
        each = each_on;
        once = of_numbers (λ rs. AreDistinct (names_of rs)) tt (λ n. subst AreDistinct (first_ones (λ r. r.name) (λ r. r.measure) (filter (is_referent_of version n) referents)) (meant.once n));
        few = of_numbers (λ rs. length rs ≤ REFERENTS) (omega arith) (λ n. omega (arith, as_many_pairs (λ r. r.name) (λ r. r.measure) (filter (is_referent_of version n) referents), meant.few n));
      }

      pub part_ordered : ((n : ℕ) → AreInNameOrder (referents_at version n referents)) → AreInNameOrder (map (λ referent. (referent.name, referent.measure)) these)
      part_ordered ordered = of_numbers (λ rs. AreInNameOrder (map (λ referent. (referent.name, referent.measure)) rs)) tt ordered
