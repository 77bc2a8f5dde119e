-- Referents that end and come at a version, and that all the rest stays.
use Rattle.std.proofs.Common.{◌≡◌, ◌≢◌, ◌<◌, ◌∙◌, inl, inr, ℕ, zero, suc, List, [], ◌∷◌, ◌++◌, map, append_assoc, append-nil, refl, sym, ap, subst, arith}
use Rattle.std.specs.Prelude.{Contains}
use Rattle.std.specs.List.{AllByRecursion}
use Rattle.std.specs.List.Sorted.{IsPermutation}
use Rattle.std.proofs.lemmas.List.Elements.{Contains-append_cases, Contains-append_right}
use Rattle.std.proofs.lemmas.List.Sorted.{Contains-permutation, IsPermutation-append_right, IsPermutation-cons, IsPermutation-refl, IsPermutation-swap, IsPermutation-sym, IsPermutation-to_front, IsPermutation-trans}
use Rattle.rs_cell_versions.specs.Versioned.{Standing}
use Rattle.rs_cell_versions.specs.declared.cell.TheConstants.{LIVING}
use Rattle.rs_table_changes.specs.Turns.{ReferentsTurn}
use Rattle.rs_change_laws.specs.Parts.{EndAll}
use Rattle.rs_file_meaning.proofs.Named.{first_there, later_there}
use Rattle.rs_file_meaning.proofs.Picked.{source_of}
use Rattle.rs_pages.specs.PageMap.{PageMap}
use Rattle.rs_table_changes.proofs.Cancelling.{cancel_first, middle}
use Rattle.rs_table_changes.proofs.Turning.{AreApart, records_apart}
use Rattle.rs_change_laws.proofs.OnRoutes.{each_at, each_moved}
use Rattle.rs_versioned.specs.Records.{HasEnded, HasOneMore, HoldsRecords, WasEnded}
use Rattle.rs_versioned.specs.Referents.{ReferentRecord, ended_referent, kept_referents}
use Rattle.rs_versioned.proofs.KeptReferents.{referents_are_kept}
use Rattle.rs_versioned.proofs.Present.{IsDatedRecord}
use Rattle.rs_versioned.proofs.Shuffles.{shuffled}

-- ---- lists

-- one of a list lies between others of it
record LiesBetween {X : Type 0} (x : X) (xs : List X) : Type 0 where
  before : List X
  after : List X
  is : xs ≡ before ++ x ∷ after

lies_between : {X : Type 0} (xs : List X) (x : X) → Contains xs x → LiesBetween x xs
lies_between [] x there = absurd (omega (arith, there.1))
lies_between (y ∷ xs) x (zero, inside, is) = record { before = []; after = xs; is = ap (λ z. z ∷ xs) is }
lies_between (y ∷ xs) x (suc k, inside, is) =
    let rest = lies_between xs x (k, omega arith, is) in
    record { before = y ∷ rest.before; after = rest.after; is = ap (λ l. y ∷ l) rest.is }

record StaysApart {X : Type 0} (xs ys : List X) : Type 0 where
  moved : IsPermutation xs ys
  apart : AreApart xs → AreApart ys

-- records that are apart are so in any order
stays_apart : {X : Type 0} (xs ys : List X) → IsPermutation xs ys → StaysApart xs ys
stays_apart = shuffled StaysApart
    (λ xs. record { moved = IsPermutation-refl xs; apart = λ h. h })
    (λ xs ys zs a b. record { moved = IsPermutation-trans xs ys zs a.moved b.moved; apart = λ h. b.apart (a.apart h) })
    (λ x xs ys a. record { moved = IsPermutation-cons x xs ys a.moved; apart = λ h. (each_moved (λ other. x ≢ other) xs ys a.moved h.0, a.apart h.1) })
    (λ x y xs. record {
      moved = IsPermutation-swap (x ∷ y ∷ xs) (y ∷ x ∷ xs) 0 1 (omega arith) (omega arith) refl;
      apart = λ h. ((λ same. h.0.0 (sym same), h.1.0), (h.0.1, h.1.1));
    })

-- none is in one part and in another
never_both : {X : Type 0} (xs ys : List X) (x : X) → AreApart (xs ++ ys) → Contains xs x → Contains ys x → ⊥
never_both [] ys x apart one other = omega (arith, one.1)
never_both (z ∷ xs) ys x apart (zero, inside, is) other = each_at (λ y. z ≢ y) (xs ++ ys) x apart.0 (Contains-append_right xs ys x other) is
never_both (z ∷ xs) ys x apart (suc k, inside, is) other = never_both xs ys x apart.1 (k, omega arith, is) other

-- ---- referents

-- each of a table is there once
pub held_apart : (pages : PageMap) (standing : Standing) (accepted : ℕ) (referents : List ReferentRecord) (used : ℕ → ℕ)
    → HoldsRecords kept_referents pages standing accepted referents used → AreApart referents
held_apart pages standing accepted referents used holds =
    records_apart kept_referents referents_are_kept holds.cells referents holds.holds.tree.ascends holds.say

-- one that lived is known by what it is once it has ended
lived_before : (one : ReferentRecord) → one.died ≡ LIVING → ended_referent LIVING one ≡ one
lived_before one lives = subst (λ n. ended_referent n one ≡ one) lives refl

same_before : (version : ℕ) (one other : ReferentRecord) → one.died ≡ LIVING → other.died ≡ LIVING → ended_referent version one ≡ ended_referent version other → one ≡ other
same_before version one other lives living same = sym (lived_before one lives) ∙ ap (ended_referent LIVING) same ∙ lived_before other living

module _ (version accepted : ℕ) (before : accepted < version) (below : version < LIVING) (old : List ReferentRecord)
    (dated : AllByRecursion (IsDatedRecord kept_referents accepted) old) (apart : AreApart old) where
  -- some have ended, and the rest are as they were
  pub record SomeEnded (now : List ReferentRecord) : Type 0 where
    pub ended : List ReferentRecord
    pub rest : List ReferentRecord
    pub lived : AllByRecursion (λ one. one.died ≡ LIVING) ended
    pub were : IsPermutation old (ended ++ rest)
    pub are : IsPermutation now (map (ended_referent version) ended ++ rest)

  pub none_ended : SomeEnded old
  none_ended = record { ended = []; rest = old; lived = tt; were = IsPermutation-refl old; are = IsPermutation-refl old }

  dated_one : (one : ReferentRecord) → Contains old one → IsDatedRecord kept_referents accepted one
  dated_one one there = each_at (IsDatedRecord kept_referents accepted) old one dated there

  -- none of them died at the version
  not_then : (one : ReferentRecord) → Contains old one → one.died ≡ version → ⊥
  not_then one there at = elim (dated_one one there).1 [
    | inl lives ↦ omega (arith, lives, at, below)
    | inr died ↦ omega (arith, died.1, at, before)
  ]

  -- ---- one ends

  module _ (one : ReferentRecord) (lives : one.died ≡ LIVING) (cur next : List ReferentRecord) (some : SomeEnded cur) where
    abbrev done : List ReferentRecord
    done = map (ended_referent version) some.ended

    not_done : Contains done one → ⊥
    not_done there =
        let from = source_of (ended_referent version) some.ended one there in
        omega (arith, ap (λ (r : ReferentRecord). r.died) from.is, lives, below)

    module _ (gone : WasEnded kept_referents version one cur next) (at : LiesBetween one some.rest) where
      abbrev left : List ReferentRecord
      left = at.before ++ at.after

      parted : IsPermutation some.rest (one ∷ left)
      parted = subst (λ l. IsPermutation l (one ∷ left)) (sym at.is) (middle at.before one at.after)

      -- it is as good as before the others
      first : (front : List ReferentRecord) → IsPermutation (front ++ some.rest) (one ∷ (front ++ left))
      first front = IsPermutation-trans (front ++ some.rest) (front ++ one ∷ left) (one ∷ (front ++ left))
          (IsPermutation-append_right front some.rest (one ∷ left) parted) (middle front one left)

      was_there : (other : ReferentRecord) → Contains (one ∷ left) other → Contains old other
      was_there other there =
          Contains-permutation (some.ended ++ some.rest) old other (IsPermutation-sym old (some.ended ++ some.rest) some.were)
          (Contains-append_right some.ended some.rest other (Contains-permutation (one ∷ left) some.rest other (IsPermutation-sym some.rest (one ∷ left) parted) there))

      others : IsPermutation gone.rest (done ++ left)
      others = cancel_first one gone.rest (done ++ left)
          (IsPermutation-trans (one ∷ gone.rest) cur (one ∷ (done ++ left)) (IsPermutation-sym cur (one ∷ gone.rest) gone.were)
          (IsPermutation-trans cur (done ++ some.rest) (one ∷ (done ++ left)) some.are (first done)))

      -- no other was what it has become
      never : Contains gone.rest (ended_referent version one) → ⊥
      never has = elim (Contains-append_cases done left (ended_referent version one) (Contains-permutation gone.rest (done ++ left) (ended_referent version one) others has)) [
        | inl early ↦
            let from = source_of (ended_referent version) some.ended (ended_referent version one) early in
            let same : from.source ≡ one =
            same_before version from.source one (each_at (λ (r : ReferentRecord). r.died ≡ LIVING) some.ended from.source some.lived from.there) lives from.is in
            never_both some.ended some.rest one ((stays_apart old (some.ended ++ some.rest) some.were).apart apart) (subst (Contains some.ended) same from.there)
            (Contains-permutation (one ∷ left) some.rest one (IsPermutation-sym some.rest (one ∷ left) parted) (first_there one left))
        | inr late ↦ not_then (ended_referent version one) (was_there (ended_referent version one) (later_there one (ended_referent version one) left late)) refl
      ]

      ended_too : IsPermutation next (ended_referent version one ∷ gone.rest) → SomeEnded next
      ended_too more = record {
        ended = one ∷ some.ended;
        rest = left;
        lived = (lives, some.lived);
        were = IsPermutation-trans old (some.ended ++ some.rest) (one ∷ (some.ended ++ left)) some.were (first some.ended);
        are = IsPermutation-trans next (ended_referent version one ∷ gone.rest) (ended_referent version one ∷ (done ++ left)) more
            (IsPermutation-cons (ended_referent version one) gone.rest (done ++ left) others);
      }

      ends_now : SomeEnded next
      ends_now = elim gone.are [
        | inl late ↦ elim late.1 [
          | inl was ↦ absurd (never was.there)
          | inr come ↦ ended_too come.more
        ]
        | inr early ↦ absurd (omega (arith, early.0, (dated_one one (was_there one (first_there one left))).0, before))
      ]

    one_gone : WasEnded kept_referents version one cur next → SomeEnded next
    one_gone gone =
        let there = Contains-permutation cur (done ++ some.rest) one some.are
        (Contains-permutation (one ∷ gone.rest) cur one (IsPermutation-sym cur (one ∷ gone.rest) gone.were) (first_there one gone.rest)) in
        elim (Contains-append_cases done some.rest one there) [
          | inl early ↦ absurd (not_done early)
          | inr late ↦ ends_now gone (lies_between some.rest one late)
        ]

  as_before : (cur next : List ReferentRecord) → IsPermutation next cur → SomeEnded cur → SomeEnded next
  as_before cur next same some = record {
    ended = some.ended;
    rest = some.rest;
    lived = some.lived;
    were = some.were;
    are = IsPermutation-trans next cur (map (ended_referent version) some.ended ++ some.rest) same some.are;
  }

  pub one_ends : (one : ReferentRecord) (cur next : List ReferentRecord) → one.died ≡ LIVING → HasEnded kept_referents version one cur next → SomeEnded cur → SomeEnded next
  one_ends one cur next lives (inl missing) some = as_before cur next missing.same some
  one_ends one cur next lives (inr gone) some = one_gone one lives cur next some gone

  pub all_end : (gone cur now : List ReferentRecord) → ((one : ReferentRecord) → Contains gone one → one.died ≡ LIVING) → EndAll version gone cur now → SomeEnded cur → SomeEnded now
  all_end [] cur now live end some = subst SomeEnded (sym end) some
  all_end (one ∷ gone) cur now live end some =
      all_end gone end.0 now (λ other there. live other (later_there one other gone there)) end.2 (one_ends one cur end.0 (live one (first_there one gone)) end.1 some)

  -- ---- the whole

  pub turned : (now : List ReferentRecord) → SomeEnded now → ReferentsTurn version old now
  turned now some = record {
    ended = some.ended;
    rest = some.rest;
    come = [];
    lived = some.lived;
    born_then = tt;
    were = some.were;
    are = subst (λ l. IsPermutation now (map (ended_referent version) some.ended ++ l)) (sym (append-nil some.rest)) some.are;
  }

  pub come_beside : (one : ReferentRecord) (cur now : List ReferentRecord) → one.born ≡ version → one.died ≡ LIVING → HasOneMore one cur now → SomeEnded cur → ReferentsTurn version old now
  come_beside one cur now born lives (inl was) some = turned now (as_before cur now was.same some)
  come_beside one cur now born lives (inr come) some =
      let done : List ReferentRecord = map (ended_referent version) some.ended in
      let behind : IsPermutation ((done ++ some.rest) ++ one ∷ []) (one ∷ (done ++ some.rest)) = IsPermutation-to_front (done ++ some.rest) one in
      let whole : IsPermutation now ((done ++ some.rest) ++ one ∷ []) =
      IsPermutation-trans now (one ∷ cur) ((done ++ some.rest) ++ one ∷ []) come.more
      (IsPermutation-trans (one ∷ cur) (one ∷ (done ++ some.rest)) ((done ++ some.rest) ++ one ∷ []) (IsPermutation-cons one cur (done ++ some.rest) some.are)
      (IsPermutation-sym ((done ++ some.rest) ++ one ∷ []) (one ∷ (done ++ some.rest)) behind)) in
      record {
        ended = some.ended;
        rest = some.rest;
        come = one ∷ [];
        lived = some.lived;
        born_then = ((born, lives), tt);
        were = some.were;
        are = subst (IsPermutation now) (append_assoc done some.rest (one ∷ [])) whole;
      }
