-- The referents of one route have ended, and those of the others are seen as they were.
use Rattle.std.proofs.Common.{◌≡◌, ◌≢◌, ◌≤◌, ◌&&◌, ◌==◌, ◌⊎◌, ◌∙◌, inl, inr, ℕ, Bool, true, false, not, cond, nat_le, nat_lt, List, [], ◌∷◌, map, filter, length, refl, sym, ap, subst, arith}
use Rattle.std.proofs.Math.Path.{fun_ext}
use Rattle.std.specs.Prelude.{Contains}
use Rattle.std.specs.List.{AllByRecursion}
use Rattle.std.specs.List.Sorted.{IsPermutation}
use Rattle.std.proofs.lemmas.Bool.{eqb-false, eqb-true, le-ltb}
use Rattle.std.proofs.lemmas.List.Elements.{All-from_recursion, recursion_from_All}
use Rattle.std.proofs.lemmas.List.Sorted.{All-permutation, IsPermutation-map, IsPermutation-refl, IsPermutation-sym, IsPermutation-trans}
use Rattle.rs_cell_versions.specs.declared.cell.TheConstants.{LIVING}
use Rattle.rs_machine.specs.Lawful.{AreDistinct}
use Rattle.rs_machine.specs.declared.limits.TheConstants.{REFERENTS}
use Rattle.rs_versioned.specs.Meant.{AreReferentsMeant, IsReferentMeant}
use Rattle.rs_versioned.specs.Records.{HasEnded, is_seen}
use Rattle.rs_versioned.specs.Referents.{ReferentRecord, ended_referent, is_referent_of, kept_referents, referents_at}
use Rattle.rs_versioned.specs.declared.route_span.RouteSpan.{RouteSpan}
use Rattle.rs_versioned.proofs.Shuffles.{IsPermutation-filter}
use Rattle.rs_file_meaning.specs.Seen.{seen_referent, seen_referents}
use Rattle.rs_change_laws.specs.Parts.{EndAll, EndsAllOn}
use Rattle.rs_file_meaning.proofs.Named.{later_there}

-- ---- lists

each_moved : {X : Type 0} (P : X → Type 0) (xs ys : List X) → IsPermutation xs ys → AllByRecursion P xs → AllByRecursion P ys
each_moved P xs ys p all = recursion_from_All P ys (All-permutation P xs ys p (All-from_recursion P xs all))

each_among : {X : Type 0} (P Q : X → Type 0) (xs : List X) → AllByRecursion P xs → ((x : X) → Contains xs x → P x → Q x) → AllByRecursion Q xs
each_among P Q [] all gives = tt
each_among P Q (x ∷ xs) all gives = (gives x (0, omega arith, refl) all.0, each_among P Q xs all.1 (λ y there. gives y (later_there x y xs there)))

-- one test after another
filter_twice : {X : Type 0} (first second : X → Bool) (xs : List X) → filter second (filter first xs) ≡ filter (λ x. first x && second x) xs
filter_twice first second [] = refl
filter_twice first second (x ∷ xs) =
    elim (first x) as (λ b. filter second (cond b (x ∷ filter first xs) (filter first xs)) ≡ cond (b && second x) (x ∷ filter (λ y. first y && second y) xs) (filter (λ y. first y && second y) xs)) [
      | true ↦ ap (λ l. cond (second x) (x ∷ l) l) (filter_twice first second xs)
      | false ↦ filter_twice first second xs
    ]

filter_none : {X : Type 0} (xs : List X) → filter (λ x. false) xs ≡ []
filter_none [] = refl
filter_none (x ∷ xs) = filter_none xs

filter_alike : {X : Type 0} (one other : X → Bool) (xs : List X) → AllByRecursion (λ x. one x ≡ other x) xs → filter one xs ≡ filter other xs
filter_alike one other [] all = refl
filter_alike one other (x ∷ xs) all =
    ap (λ b. cond b (x ∷ filter one xs) (filter one xs)) all.0 ∙ ap (λ l. cond (other x) (x ∷ l) l) (filter_alike one other xs all.1)

-- what is so of those that pass is so of them in a part of the list
each_fewer : {X : Type 0} (P : X → Type 0) (test part : X → Bool) (xs : List X) → AllByRecursion P (filter test xs) → AllByRecursion P (filter test (filter part xs))
each_fewer P test part [] all = tt
each_fewer {X} P test part (x ∷ xs) all = by_part (part x) (each_fewer P test part xs) where
  Fewer : Type 0
  Fewer = AllByRecursion P (filter test xs) → AllByRecursion P (filter test (filter part xs))

  Passed : Bool → Type 0
  Passed t = AllByRecursion P (cond t (x ∷ filter test xs) (filter test xs))

  by_test : (t : Bool) → Fewer → Passed t → AllByRecursion P (cond t (x ∷ filter test (filter part xs)) (filter test (filter part xs)))
  by_test true fewer all = (all.0, fewer all.1)
  by_test false fewer all = fewer all

  less : (t : Bool) → Fewer → Passed t → AllByRecursion P (filter test (filter part xs))
  less true fewer all = fewer all.1
  less false fewer all = fewer all

  by_part : (b : Bool) → Fewer → AllByRecursion P (filter test (cond b (x ∷ filter part xs) (filter part xs)))
  by_part true fewer = by_test (test x) fewer all
  by_part false fewer = less (test x) fewer all

-- ---- one referent has ended

module _ (version : ℕ) (one : ReferentRecord) (old now : List ReferentRecord) (ended : HasEnded kept_referents version one old now) where
  -- what is so of each, and of the ended one, is so of each then
  pub each_ended : (P : ReferentRecord → Type 0) → P (ended_referent version one) → AllByRecursion P old → AllByRecursion P now
  each_ended P is all = elim ended [
    | inl missing ↦ each_moved P old now (IsPermutation-sym now old missing.same) all
    | inr gone ↦
        let rest : AllByRecursion P gone.rest = (each_moved P old (one ∷ gone.rest) gone.were all).1 in
        elim gone.are [
          | inl late ↦ elim late.1 [
            | inl was ↦ each_moved P gone.rest now (IsPermutation-sym now gone.rest was.same) rest
            | inr come ↦ each_moved P (ended_referent version one ∷ gone.rest) now (IsPermutation-sym now (ended_referent version one ∷ gone.rest) come.more) (is, rest)
          ]
          | inr early ↦ each_moved P gone.rest now (IsPermutation-sym now gone.rest early.1) rest
        ]
  ]

  -- what passes is the same, where it doesn't pass
  pub passes_ended : (test : ReferentRecord → Bool) → test one ≡ false → test (ended_referent version one) ≡ false → IsPermutation (filter test now) (filter test old)
  passes_ended test fails hidden = elim ended [
    | inl missing ↦ IsPermutation-filter test now old missing.same
    | inr gone ↦
        let first : IsPermutation (filter test gone.rest) (filter test old) =
        IsPermutation-sym (filter test old) (filter test gone.rest) (subst (λ l. IsPermutation (filter test old) l) (without one gone.rest fails) (IsPermutation-filter test old (one ∷ gone.rest) gone.were)) in
        let second : IsPermutation (filter test now) (filter test gone.rest) = elim gone.are [
          | inl late ↦ elim late.1 [
            | inl was ↦ IsPermutation-filter test now gone.rest was.same
            | inr come ↦ subst (λ l. IsPermutation (filter test now) l) (without (ended_referent version one) gone.rest hidden)
                (IsPermutation-filter test now (ended_referent version one ∷ gone.rest) come.more)
          ]
          | inr early ↦ IsPermutation-filter test now gone.rest early.1
        ] in
        IsPermutation-trans (filter test now) (filter test gone.rest) (filter test old) second first
  ] where
    without : (x : ReferentRecord) (xs : List ReferentRecord) → test x ≡ false → filter test (x ∷ xs) ≡ filter test xs
    without x xs fails = ap (λ b. cond b (x ∷ filter test xs) (filter test xs)) fails

-- ---- all of one route have ended

-- living, or dead by the version
abbrev pub IsOver : ℕ → ReferentRecord → Type 0
IsOver version one = (one.died ≡ LIVING) ⊎ (one.died ≤ version)

-- on another route
abbrev pub is_off : ℕ → ReferentRecord → Bool
is_off number one = not (one.route == number)

-- on another route, and seen by the version
abbrev sees_off : ℕ → ℕ → ReferentRecord → Bool
sees_off version number one = is_off number one && is_seen kept_referents version one

on_is_not_off : (version number : ℕ) (one : ReferentRecord) → one.route ≡ number → sees_off version number one ≡ false
on_is_not_off version number one on =
    elim (one.route == number) as (λ b. (one.route == number) ≡ b → (not b && is_seen kept_referents version one) ≡ false) [
      | true ↦ λ same. refl
      | false ↦ λ apart. absurd (eqb-false one.route number apart on)
    ] refl

each_over : (version : ℕ) (gone old now : List ReferentRecord) → EndAll version gone old now → AllByRecursion (IsOver version) old → AllByRecursion (IsOver version) now
each_over version [] old now end all = subst (AllByRecursion (IsOver version)) (sym end) all
each_over version (one ∷ gone) old now end all =
    each_over version gone end.0 now end.2 (each_ended version one old end.0 end.1 (IsOver version) (inr (omega arith)) all)

passes_over : (version number : ℕ) (gone old now : List ReferentRecord) → EndAll version gone old now → ((one : ReferentRecord) → Contains gone one → one.route ≡ number)
    → IsPermutation (filter (sees_off version number) now) (filter (sees_off version number) old)
passes_over version number [] old now end on = subst (λ l. IsPermutation (filter (sees_off version number) l) (filter (sees_off version number) old)) (sym end) (IsPermutation-refl (filter (sees_off version number) old))
passes_over version number (one ∷ gone) old now end on =
    let route = on one (0, omega arith, refl) in
    IsPermutation-trans (filter (sees_off version number) now) (filter (sees_off version number) end.0) (filter (sees_off version number) old)
    (passes_over version number gone end.0 now end.2 (λ other there. on other (later_there one other gone there)))
    (passes_ended version one old end.0 end.1 (sees_off version number) (on_is_not_off version number one route) (on_is_not_off version number (ended_referent version one) route))

module _ (version number : ℕ) (old now : List ReferentRecord) (ends : EndsAllOn version number old now) (over : AllByRecursion (IsOver version) old) where
  -- those of the other routes before
  abbrev pub others : List ReferentRecord
  others = filter (is_off number) old

  now_over : AllByRecursion (IsOver version) now
  now_over = each_over version ends.gone old now ends.ended over

  -- what is seen now is on another route
  sees_none : (one : ReferentRecord) → Contains now one → IsOver version one → is_seen kept_referents version one ≡ sees_off version number one
  sees_none one there is = elim (one.route == number) as (λ b. (one.route == number) ≡ b → is_seen kept_referents version one ≡ (not b && is_seen kept_referents version one)) [
    | true ↦ λ same. elim is [
      | inl lives ↦ absurd (ends.none_left one there (eqb-true one.route number same) lives)
      | inr past ↦ unseen (nat_le one.born version) (le-ltb version one.died past)
    ]
    | false ↦ λ apart. refl
  ] refl where
    unseen : (b : Bool) → nat_lt version one.died ≡ false → (b && nat_lt version one.died) ≡ false
    unseen true later = later
    unseen false later = refl

  alike : filter (is_seen kept_referents version) now ≡ filter (sees_off version number) now
  alike = filter_alike (is_seen kept_referents version) (sees_off version number) now
      (each_among (IsOver version) (λ one. is_seen kept_referents version one ≡ sees_off version number one) now now_over sees_none)

  -- so the version sees what it saw on the other routes
  pub sees_others : IsPermutation (seen_referents version now) (seen_referents version others)
  sees_others =
      subst (λ l. IsPermutation (seen_referents version now) (map seen_referent l)) (sym (filter_twice (is_off number) (is_seen kept_referents version) old))
      (subst (λ l. IsPermutation (map seen_referent l) (map seen_referent (filter (sees_off version number) old))) (sym alike)
      (IsPermutation-map seen_referent (filter (sees_off version number) now) (filter (sees_off version number) old) (passes_over version number ends.gone old now ends.ended (λ one there. (ends.are_on one there).0))))

  -- and none on the route
  pub none_on : AllByRecursion (λ one. one.route ≢ number) (filter (is_seen kept_referents version) now)
  none_on = subst (AllByRecursion (λ one. one.route ≢ number)) (sym alike) (passing now) where
    passing : (xs : List ReferentRecord) → AllByRecursion (λ one. one.route ≢ number) (filter (sees_off version number) xs)
    passing [] = tt
    passing (x ∷ xs) = elim (x.route == number) as (λ b. (x.route == number) ≡ b
        → AllByRecursion (λ (one : ReferentRecord). one.route ≢ number) (cond (not b && is_seen kept_referents version x) (x ∷ filter (sees_off version number) xs) (filter (sees_off version number) xs))) [
          | true ↦ λ same. passing xs
          | false ↦ λ apart. by_seen (is_seen kept_referents version x) (λ same. eqb-false x.route number apart same) (passing xs)
        ] refl where
          by_seen : (s : Bool) → (x.route ≡ number → ⊥) → AllByRecursion (λ (one : ReferentRecord). one.route ≢ number) (filter (sees_off version number) xs)
              → AllByRecursion (λ (one : ReferentRecord). one.route ≢ number) (cond s (x ∷ filter (sees_off version number) xs) (filter (sees_off version number) xs))
          by_seen true apart rest = (apart, rest)
          by_seen false apart rest = rest

-- ---- those of the other routes

module _ (version number : ℕ) (old : List ReferentRecord) where
  on_and_off : (a route : ℕ) (s : Bool) → (route ≡ number → ⊥) → (not (a == number) && ((a == route) && s)) ≡ ((a == route) && s)
  on_and_off a route s apart = elim (a == route) as (λ b. (a == route) ≡ b → (not (a == number) && (b && s)) ≡ (b && s)) [
    | true ↦ λ same. elim (a == number) as (λ b. (a == number) ≡ b → (not b && s) ≡ s) [
      | true ↦ λ also. absurd (apart (sym (eqb-true a route same) ∙ eqb-true a number also))
      | false ↦ λ other. refl
    ] refl
    | false ↦ λ other. none (not (a == number))
  ] refl where
    none : (b : Bool) → (b && false) ≡ false
    none true = refl
    none false = refl

  never : (b s : Bool) → (not b && (b && s)) ≡ false
  never true s = refl
  never false s = refl

  pub at_others : (route : ℕ) → (route ≡ number → ⊥) → referents_at version route (filter (is_off number) old) ≡ referents_at version route old
  at_others route apart = ap (map (λ (one : ReferentRecord). (one.name, one.measure)))
      (filter_twice (is_off number) (is_referent_of version route) old
      ∙ ap (λ test. filter test old) (fun_ext (λ (one : ReferentRecord). on_and_off one.route route (nat_le one.born version && nat_lt version one.died) apart)))

  pub at_route : referents_at version number (filter (is_off number) old) ≡ []
  at_route = ap (map (λ (one : ReferentRecord). (one.name, one.measure)))
      (filter_twice (is_off number) (is_referent_of version number) old
      ∙ ap (λ test. filter test old) (fun_ext (λ (one : ReferentRecord). never (one.route == number) (nat_le one.born version && nat_lt version one.died)))
      ∙ filter_none old)

  -- those of a route are those that were there, or none
  by_route : (P : List (List ℕ × ℕ) → Type 0) → P [] → (route : ℕ) → P (referents_at version route old) → P (referents_at version route (filter (is_off number) old))
  by_route P none route was = elim (route == number) as (λ b. (route == number) ≡ b → P (referents_at version route (filter (is_off number) old))) [
    | true ↦ λ same. subst (λ n. P (referents_at version n (filter (is_off number) old))) (sym (eqb-true route number same)) (subst P (sym at_route) none)
    | false ↦ λ apart. subst P (sym (at_others route (eqb-false route number apart))) was
  ] refl

  pub others_meant : (routes : List RouteSpan) → AreReferentsMeant routes version old → AreReferentsMeant routes version (filter (is_off number) old)
  others_meant routes meant = record {
    each = each_fewer (IsReferentMeant routes) (is_seen kept_referents version) (is_off number) old meant.each;
    once = λ route. by_route (λ list. AreDistinct (map (λ one. one.0) list)) tt route (meant.once route);
    few = λ route. by_route (λ list. length list ≤ REFERENTS) (omega arith) route (meant.few route);
  }
