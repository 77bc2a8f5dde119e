-- What was met of events, by one more.
use Rattle.std.proofs.Common.{◌≡◌, ◌∙◌, ◌⊎◌, ℕ, ◌≤◌, true, false, cond, List, [], ◌∷◌, ◌++◌, Option, Some, None, refl, sym, ap, subst, inl, inr, min, max, arith}
use Rattle.std.specs.FinMap as names
use Rattle.std.specs.FinMap.{get-empty, get-insert}
use Rattle.std.specs.Cmp.{eq_by_cmp_equiv}
use Rattle.std.specs.Ordering.{eq_by_cmp}
use Rattle.std.proofs.lemmas.Bool.{cases_lt, false≢true}
use Rattle.rs_catalog.proofs.MapLaws.{same_name-true, some_same}
use Rattle.rs_catalog.proofs.NameOrder.{name_cmp-total}
use Rattle.rs_facts.specs.Fact.{Names, name_cmp}
use Rattle.rs_methods.specs.Position.{absolute, expression_of, interpolative, relative_of}
use Rattle.rs_methods.specs.declared.position.Position.{Position}
use Rattle.rs_methods.specs.declared.position.Position.TheVariants as positions
use Rattle.rs_methods.specs.declared.position.Sign.{Sign}
use Rattle.rs_methods.specs.declared.position.Sign.TheVariants as signs
use Rattle.rs_syntax.specs.Sound.{IsName}
use Rattle.rs_syntax.specs.Tree.{EventLocationTree}
use Rattle.rs_csv_lines.specs.declared.insert.Ends.{Ends}
use Rattle.rs_csv_lines.specs.Inserts.{IsAt}
use Rattle.rs_csv.specs.declared.routes.Extent.{Extent}
use Rattle.rs_csv.specs.Routes.{AreExtremes, HasMeasure, HaveMet, IsMet, MeetsMore, Placed, ends_of, ends_on, reaching}

-- ---- one event more

met_to : (events : List Placed) (event : Placed) (name : List ℕ) (k : ℕ) → IsMet (events ++ event ∷ []) name k → IsMet events name k ⊎ ((event.0 ≡ name) × HasMeasure event.1 k)
met_to [] event name k (inl here) = inr here
met_to [] event name k (inr later) = absurd later
met_to (e ∷ es) event name k (inl here) = inl (inl here)
met_to (e ∷ es) event name k (inr later) = elim (met_to es event name k later) [ inl is ↦ inl (inr is) | inr last ↦ inr last ]

met_from : (events : List Placed) (event : Placed) (name : List ℕ) (k : ℕ) → IsMet events name k ⊎ ((event.0 ≡ name) × HasMeasure event.1 k) → IsMet (events ++ event ∷ []) name k
met_from [] event name k (inl met) = absurd met
met_from [] event name k (inr last) = inl last
met_from (e ∷ es) event name k (inl (inl here)) = inl here
met_from (e ∷ es) event name k (inl (inr later)) = inr (met_from es event name k (inl later))
met_from (e ∷ es) event name k (inr last) = inr (met_from es event name k (inr last))

-- ---- one position more

abbrev IsAbsolute : Position → ℕ → Type 0
IsAbsolute position k = expression_of position ≡ absolute k

extremes_same : (IsSo Also : ℕ → Type 0) (ends : Option (ℕ × ℕ)) → ((k : ℕ) → IsSo k → Also k) → ((k : ℕ) → Also k → IsSo k) → AreExtremes IsSo ends → AreExtremes Also ends
extremes_same IsSo Also None to from none = λ k also. none k (from k also)
extremes_same IsSo Also (Some ends) to from are = (
  record { is_so = to ends.0 are.0.is_so; below = λ k also. are.0.below k (from k also) },
  record { is_so = to ends.1 are.1.is_so; above = λ k also. are.1.above k (from k also) },
)

same_measure : (a b : ℕ) → absolute a ≡ absolute b → a ≡ b
same_measure a b e = cc

no_relative : (name : List ℕ) (sign : Sign) (measure k : ℕ) → relative_of name sign measure ≡ absolute k → ⊥
no_relative name signs.Plus measure k e = cc
no_relative name signs.Minus measure k e = cc

no_part : (part k : ℕ) → interpolative part ≡ absolute k → ⊥
no_part part k e = cc

either_min : (IsSo : ℕ → Type 0) (a b : ℕ) → IsSo a → IsSo b → IsSo (min a b)
either_min IsSo a b p q = elim (cases_lt a b) [
  | inl less ↦ let is : a ≡ min a b = omega arith in subst IsSo is p
  | inr other ↦ let is : b ≡ min a b = omega arith in subst IsSo is q
]

either_max : (IsSo : ℕ → Type 0) (a b : ℕ) → IsSo a → IsSo b → IsSo (max a b)
either_max IsSo a b p q = elim (cases_lt a b) [
  | inl less ↦ let is : b ≡ max a b = omega arith in subst IsSo is q
  | inr other ↦ let is : a ≡ max a b = omega arith in subst IsSo is p
]

module _ (IsSo : ℕ → Type 0) where
  abbrev Or : Position → ℕ → Type 0
  Or position k = IsSo k ⊎ IsAbsolute position k

  not_absolute : (position : Position) (ends : Option (ℕ × ℕ)) → ((k : ℕ) → IsAbsolute position k → ⊥) → AreExtremes IsSo ends → AreExtremes (Or position) ends
  not_absolute position ends none are = extremes_same IsSo (Or position) ends (λ k so. inl so) (λ k either. elim either [ inl so ↦ so | inr is ↦ absurd (none k is) ]) are

  reach : (position : Position) (ends : Option (ℕ × ℕ)) → AreExtremes IsSo ends → AreExtremes (Or position) (reaching position ends)
  reach (positions.Absolute met) None none =
      let one : (k : ℕ) → Or (positions.Absolute met) k → met ≡ k = λ k either. elim either [ inl so ↦ absurd (none k so) | inr is ↦ same_measure met k is ] in (
        record { is_so = inr refl; below = λ k either. let same : met ≡ k = one k either in omega arith },
        record { is_so = inr refl; above = λ k either. let same : met ≡ k = one k either in omega arith },
      )
  reach (positions.Absolute met) (Some ends) are = (
    record {
      is_so = either_min (Or (positions.Absolute met)) ends.0 met (inl are.0.is_so) (inr refl);
      below = λ k either. elim either [
        | inl so ↦ let least : ends.0 ≤ k = are.0.below k so in omega arith
        | inr is ↦ let same : met ≡ k = same_measure met k is in omega arith
      ];
    },
    record {
      is_so = either_max (Or (positions.Absolute met)) ends.1 met (inl are.1.is_so) (inr refl);
      above = λ k either. elim either [
        | inl so ↦ let greatest : k ≤ ends.1 = are.1.above k so in omega arith
        | inr is ↦ let same : met ≡ k = same_measure met k is in omega arith
      ];
    },
  )
  reach (positions.Relative name sign measure) ends are = not_absolute (positions.Relative name sign measure) ends (no_relative name.bytes sign measure) are
  reach (positions.Interpolative part) ends are = not_absolute (positions.Interpolative part) ends (no_part part) are

-- the measures of a place are those of its ends
has_to : (place : EventLocationTree) (ends : Ends) (k : ℕ) → IsAt place ends → HasMeasure place k → IsAbsolute ends.first k ⊎ IsAbsolute ends.last k
has_to place ends k (inl along) has = subst (λ p. HasMeasure p k) along has
has_to place ends k (inr at) has = inl (subst (λ p. HasMeasure p k) at.0 has)

has_from : (place : EventLocationTree) (ends : Ends) (k : ℕ) → IsAt place ends → IsAbsolute ends.first k ⊎ IsAbsolute ends.last k → HasMeasure place k
has_from place ends k (inl along) either = subst (λ p. HasMeasure p k) (sym along) either
has_from place ends k (inr at) (inl first) = subst (λ p. HasMeasure p k) (sym at.0) first
has_from place ends k (inr at) (inr last) = subst (λ p. HasMeasure p k) (sym at.0) (subst (λ p. IsAbsolute p k) at.1 last)

-- ---- the extents after one more event

module _ (extents now : Names Extent) (route : List ℕ) (ends : Ends) (place : EventLocationTree) (at : IsAt place ends)
    (is : now ≡ names.insert extents route (record { ends = reaching ends.last (reaching ends.first (ends_on extents route)) })) (events : List Placed) where
  -- of its route
  reached : AreExtremes (IsMet events route) (ends_on extents route) → AreExtremes (IsMet (events ++ (route, place) ∷ []) route) (reaching ends.last (reaching ends.first (ends_on extents route)))
  reached are =
      extremes_same (λ k. (IsMet events route k ⊎ IsAbsolute ends.first k) ⊎ IsAbsolute ends.last k) (IsMet (events ++ (route, place) ∷ []) route) _
      (λ k so. met_from events (route, place) route k (elim so [
        | inl past ↦ elim past [ inl met ↦ inl met | inr first ↦ inr (refl, has_from place ends k at (inl first)) ]
        | inr last ↦ inr (refl, has_from place ends k at (inr last))
      ]))
      (λ k met. elim (met_to events (route, place) route k met) [
        | inl past ↦ inl (inl past)
        | inr here ↦ elim (has_to place ends k at here.1) [ inl first ↦ inl (inr first) | inr last ↦ inr last ]
      ])
      (reach (λ k. IsMet events route k ⊎ IsAbsolute ends.first k) ends.last (reaching ends.first (ends_on extents route)) (reach (IsMet events route) ends.first (ends_on extents route) are))

  -- and of each other
  passed : (name : List ℕ) → eq_by_cmp name_cmp name route ≡ false → AreExtremes (IsMet events name) (ends_on extents name) → AreExtremes (IsMet (events ++ (route, place) ∷ []) name) (ends_on extents name)
  passed name other are =
      extremes_same (IsMet events name) (IsMet (events ++ (route, place) ∷ []) name) (ends_on extents name) (λ k met. met_from events (route, place) name k (inl met))
      (λ k met. elim (met_to events (route, place) name k met) [
        | inl past ↦ past
        | inr here ↦ absurd (false≢true (sym other ∙ ap (λ n. eq_by_cmp name_cmp name n) here.0 ∙ (eq_by_cmp_equiv name_cmp-total).refl name))
      ]) are

  extremes_now : ((name : List ℕ) → AreExtremes (IsMet events name) (ends_on extents name)) → (name : List ℕ) → AreExtremes (IsMet (events ++ (route, place) ∷ []) name) (ends_on now name)
  extremes_now are name =
      let value : Extent = record { ends = reaching ends.last (reaching ends.first (ends_on extents route)) } in
      subst (AreExtremes (IsMet (events ++ (route, place) ∷ []) name)) (sym (ap (λ m. ends_on m name) is ∙ ap ends_of (get-insert name_cmp-total extents route value name)))
      (elim (eq_by_cmp name_cmp name route) as (λ b. eq_by_cmp name_cmp name route ≡ b → AreExtremes (IsMet (events ++ (route, place) ∷ []) name) (ends_of (cond b (Some value) (names.get extents name)))) [
        | true ↦ λ same. subst (λ n. AreExtremes (IsMet (events ++ (route, place) ∷ []) n) value.ends) (sym (same_name-true name route same)) (reached (are route))
        | false ↦ λ other. passed name other (are name)
      ] refl)

  meets_one : IsName route → HaveMet (Some extents) events → HaveMet (Some now) (events ++ (route, place) ∷ [])
  meets_one named have =
      let same : have.met ≡ extents = sym (some_same extents have.met have.is) in
      record {
        met = now;
        is = refl;
        named = λ name k met. elim (met_to events (route, place) name k met) [ inl past ↦ have.named name k past | inr here ↦ subst IsName here.0 named ];
        extremes = extremes_now (λ name. subst (λ m. AreExtremes (IsMet events name) (ends_on m name)) same (have.extremes name));
      }

pub meets_event : (extents now : Names Extent) (route told : List ℕ) (ends : Ends) (place : EventLocationTree) → told ≡ route → IsName told → IsAt place ends
    → now ≡ names.insert extents route (record { ends = reaching ends.last (reaching ends.first (ends_on extents route)) }) → MeetsMore (Some extents) (Some now) ((told, place) ∷ [])
meets_event extents now route told ends place same named at is = λ events have.
    subst (λ r. HaveMet (Some now) (events ++ (r, place) ∷ [])) (sym same) (meets_one extents now route ends place at is events (subst IsName same named) have)

-- no event is met at the beginning
pub met_nothing : (extents : Names Extent) → extents ≡ names.empty → HaveMet (Some extents) []
met_nothing extents none = record {
  met = extents;
  is = refl;
  named = λ route k met. absurd met;
  extremes = λ route.
      subst (λ found. AreExtremes (IsMet [] route) (ends_of found)) (sym (ap (λ m. names.get m route) none ∙ get-empty {X = Extent} name_cmp route)) (λ k met. met);
}

-- nothing was met so far, and so nothing that comes
pub meets_none : (extents now : Option (Names Extent)) (more : List Placed) → extents ≡ None → MeetsMore extents now more
meets_none extents now more none = λ events have. absurd (no_extents (sym have.is ∙ none))
  where
    no_extents : {X : Type 0} {x : X} → Some x ≡ None → ⊥
    no_extents e = cc
