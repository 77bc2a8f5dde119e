-- Referents that lie in a file already are meant where those of each part of their cells are.
use Rattle.std.proofs.Common.{◌≡◌, ◌<◌, ◌-◌, ◌^◌, ℕ, Bool, true, false, not, ◌&&◌, nat_lt, Option, Some, None, List, [], ◌++◌, length, map, replicate, refl, sym, ap, ◌∙◌, subst, inl, inr, arith}
use Rattle.std.proofs.lemmas.Bool.{cases_lt, false≢true, le-ltb}
use Rattle.std.proofs.lemmas.Bool.Decides.{nat_tests}
use Rattle.std.proofs.lemmas.List.{append-nil}
use Rattle.std.specs.Int.{w32, w64, to_be_bytes}
use Rattle.std.specs.List.{AllZip}
use Rattle.rs_pages.specs.PageMap.{PageMap}
use Rattle.rs_records.specs.Order.{is_below}
use Rattle.rs_tree.specs.Cells.{is_within}
use Rattle.rs_tree.specs.Tree.{IsTree}
use Rattle.rs_versioned.specs.Meant.{AreReferentsMeant}
use Rattle.rs_versioned.specs.MeantParts.{ArePartMeant, seen}
use Rattle.rs_versioned.specs.Referents.{AreInNameOrder, ReferentRecord, SaysReferent, name_width, referent_form}
use Rattle.rs_versioned.specs.declared.route_span.RouteSpan.{RouteSpan}
use Rattle.rs_versioned.proofs.Lifting.{zip_filter}
use Rattle.rs_versioned.proofs.MeantParts.{IsMeantAt, IsPart, meant_at, meant_everywhere, part_meant, part_of, part_ordered}
use Rattle.rs_versioned.proofs.MeantRoutes.{after_all, between_all, from_of, is_after, is_between}
use Rattle.rs_versioned.proofs.NameOrder.{in_order}
use Rattle.rs_versioned.proofs.OnRoutes.{below_none, below_word}
use Rattle.rs_versioned.proofs.Opened.{FindsWhere}

-- the bytes from which the cells of a part are on
abbrev pub low_of : Option RouteSpan → List ℕ
low_of None = []
low_of (Some route) = to_be_bytes w32 route.number

module _ (cell : List ℕ) (referent : ReferentRecord) (says : SaysReferent cell referent) where
  below_number : (n : ℕ) → n < 2 ^ 32 → is_below cell (to_be_bytes w32 n) ≡ nat_lt referent.route n
  below_number n fits =
      let rest : List ℕ = (referent.name ++ replicate (name_width - length referent.name) 0) ++ (to_be_bytes w64 referent.born ++ (to_be_bytes w32 referent.measure ++ to_be_bytes w64 referent.died)) in
      ap (λ (c : List ℕ). is_below c (to_be_bytes w32 n)) says.bytes ∙ below_word referent.route n rest says.route_fits fits

  low_is : (on : Option RouteSpan) → from_of on < 2 ^ 32 → is_below cell (low_of on) ≡ nat_lt referent.route (from_of on)
  low_is None fits = below_none cell ∙ sym (le-ltb referent.route 0 (omega arith))
  low_is (Some route) fits = below_number route.number fits

  pub within_is : (on : Option RouteSpan) (high : List ℕ) (next : ℕ) → from_of on < 2 ^ 32 → next < 2 ^ 32 → high ≡ to_be_bytes w32 next → is_within (low_of on) high cell ≡ is_between (from_of on) next referent.route
  within_is on high next fits small is = λ i. not (low_is on fits i) && (ap (is_below cell) is ∙ below_number next small) i

  pub left_is : (on : Option RouteSpan) → from_of on < 2 ^ 32 → not (is_below cell (low_of on)) ≡ is_after (from_of on) referent.route
  left_is on fits = ap not (low_is on fits)

-- a part ends no lower than it begins
pub rising_bounds : (on : Option RouteSpan) (high : List ℕ) (next : ℕ) → from_of on < 2 ^ 32 → next < 2 ^ 32 → high ≡ to_be_bytes w32 next → ((route : RouteSpan) → on ≡ Some route → route.number < next)
    → is_below high (low_of on) ≡ false
rising_bounds None high next fits small is later = below_none high
rising_bounds (Some route) high next fits small is later =
    let less : route.number < next = later route refl in
    ap (λ (h : List ℕ). is_below h (to_be_bytes w32 route.number)) (is ∙ sym (append-nil (to_be_bytes w32 next)))
    ∙ below_word next route.number [] small fits ∙ le-ltb next route.number (omega (arith, less))

module _ (routes : List RouteSpan) (version : ℕ) (pages : PageMap) (root : ℕ) where
  -- whatever tree stands there, those of the numbers that pass are meant
  pub record MeantFor (test : ℕ → Bool) : Type 0 where
    pub each : (cells : List (List ℕ)) (used : ℕ → ℕ) (referents : List ReferentRecord) → IsTree referent_form pages root cells used → AllZip SaysReferent cells referents
        → (n : ℕ) → test n ≡ true → IsMeantAt routes version n referents

  pub meant_none : MeantFor (λ n. nat_lt n 0)
  meant_none = record { each = λ cells used referents tree all n is. absurd (false≢true (sym (le-ltb n 0 (omega arith)) ∙ is)) }

  -- one part more
  pub meant_more : (from next : ℕ) → MeantFor (λ n. nat_lt n from) → MeantFor (is_between from next) → MeantFor (λ n. nat_lt n next)
  meant_more from next below between = record {
    each = λ cells used referents tree all n is. elim (cases_lt n from) [
      | inl less ↦ let yes : nat_lt n from ≡ true = grind (arith, nat_tests) in below.each cells used referents tree all n yes
      | inr upto ↦ let less : n < next = grind (arith, nat_tests) in between.each cells used referents tree all n (between_all from next n upto less)
    ];
  }

  -- the last part
  pub meant_all : (from : ℕ) → MeantFor (λ n. nat_lt n from) → MeantFor (is_after from)
      → (cells : List (List ℕ)) (used : ℕ → ℕ) (referents : List ReferentRecord) → IsTree referent_form pages root cells used → AllZip SaysReferent cells referents → AreReferentsMeant routes version referents
  meant_all from below after cells used referents tree all = meant_everywhere routes version referents (λ n. elim (cases_lt n from) [
    | inl less ↦ let yes : nat_lt n from ≡ true = grind (arith, nat_tests) in below.each cells used referents tree all n yes
    | inr upto ↦ after.each cells used referents tree all n (after_all from n upto)
  ])

  module _ (cell_test : List ℕ → Bool) (test : ℕ → Bool) (agree : (cell : List ℕ) (referent : ReferentRecord) → SaysReferent cell referent → cell_test cell ≡ test referent.route) (on : Option RouteSpan)
      (part : IsPart routes test on) (found : List (List ℕ)) (finds : FindsWhere referent_form pages root cell_test found) where
    found_say : (cells : List (List ℕ)) (used : ℕ → ℕ) (referents : List ReferentRecord) → IsTree referent_form pages root cells used → AllZip SaysReferent cells referents → AllZip SaysReferent found (part_of test referents)
    found_say cells used referents tree all =
        subst (λ (xs : List (List ℕ)). AllZip SaysReferent xs (part_of test referents)) (sym (finds cells used tree))
        (zip_filter SaysReferent cell_test (λ referent. test referent.route) agree cells referents all)

    -- the cells of a part were found, and their referents are meant
    pub part_for : ((referents : List ReferentRecord) → AllZip SaysReferent found referents → ArePartMeant on version referents) → MeantFor test
    part_for so = record {
      each = λ cells used referents tree all n in'. meant_at routes version test on part referents (so (part_of test referents) (found_say cells used referents tree all)) n in';
    }

    -- they are not: so no referents that are meant lie there
    pub no_part : (answer : Bool) → answer ≡ false
        → ((referents : List ReferentRecord) → AllZip SaysReferent found referents → AreInNameOrder (map (λ referent. (referent.name, referent.measure)) (seen version referents)) → ArePartMeant on version referents → answer ≡ true)
        → (cells : List (List ℕ)) (used : ℕ → ℕ) (referents : List ReferentRecord) → IsTree referent_form pages root cells used → AllZip SaysReferent cells referents → AreReferentsMeant routes version referents → ⊥
    no_part answer refused passes cells used referents tree all meant =
        false≢true (sym refused ∙ passes (part_of test referents) (found_say cells used referents tree all)
        (part_ordered routes version test on part referents meant (λ n. in_order version n cells referents all tree.ascends))
        (part_meant routes version test on part referents meant))
