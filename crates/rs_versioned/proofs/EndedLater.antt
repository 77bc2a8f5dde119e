-- Records that have ended at a version after the one that was accepted last are those that a command has ended.
use Rattle.std.proofs.Common.{◌≡◌, ◌<◌, ℕ, zero, suc, List, ◌∷◌, inl, inr, ◌⊎◌, arith}
use Rattle.std.proofs.lemmas.List.Elements.{All-contains, All-from_recursion}
use Rattle.std.proofs.lemmas.List.Sorted.{Contains-permutation, IsPermutation-sym}
use Rattle.std.specs.List.{Contains}
use Rattle.rs_pages.specs.PageMap.{PageMap}
use Rattle.rs_cell_versions.specs.declared.cell.TheConstants.{LIVING}
use Rattle.rs_cell_versions.specs.Versioned.{Standing}
use Rattle.rs_versioned.specs.Records.{HasEnded, HasOneMore, HoldsRecords, IsKept, Kept}
use Rattle.rs_versioned.proofs.Present.{IsDatedRecord, held_dated}

module _ {R : Type 0} where
  later_has : (x y : R) (xs : List R) → Contains xs y → Contains (x ∷ xs) y
  later_has x y xs has = (suc has.0, omega (arith, has.1), has.2)

  first_or_later : (x y : R) (xs : List R) → Contains (x ∷ xs) y → (x ≡ y) ⊎ Contains xs y
  first_or_later x y xs (zero, inside, is) = inl is
  first_or_later x y xs (suc k, inside, is) = inr (k, omega arith, is)

  -- what was missing is missing still once another has come
  pub missing_come : (other last : R) (old now : List R) → HasOneMore other old now → (other ≡ last → ⊥) → (Contains old last → ⊥) → Contains now last → ⊥
  missing_come other last old now (inl was) apart none has = none (Contains-permutation now old last was.same has)
  missing_come other last old now (inr come) apart none has = elim (first_or_later other last old (Contains-permutation now (other ∷ old) last come.more has)) [
    | inl same ↦ apart same
    | inr there ↦ none there
  ]

  -- and once another has ended
  pub missing_ended : (kept : Kept R) (version : ℕ) (other last : R) (old now : List R) → HasEnded kept version other old now → (kept.ended version other ≡ last → ⊥) → (Contains old last → ⊥)
      → Contains now last → ⊥
  missing_ended kept version other last old now (inl was) apart none has = none (Contains-permutation now old last was.same has)
  missing_ended kept version other last old now (inr gone) apart none has =
      let missing : Contains gone.rest last → ⊥ = λ there. none (Contains-permutation (other ∷ gone.rest) old last (IsPermutation-sym old (other ∷ gone.rest) gone.were) (later_has other last gone.rest there)) in
      elim gone.are [
        | inl late ↦ missing_come (kept.ended version other) last gone.rest now late.1 apart missing has
        | inr early ↦ missing (Contains-permutation now gone.rest last early.1 has)
      ]

-- none has ended after the version that was accepted last
pub none_ended_later : {R : Type 0} (kept : Kept R) (laws : IsKept kept) (pages : PageMap) (standing : Standing) (accepted version : ℕ) (last : R) (records : List R) (used : ℕ → ℕ)
    → HoldsRecords kept pages standing accepted records used → accepted < version → version < LIVING → kept.died last ≡ version → Contains records last → ⊥
none_ended_later {R} kept laws pages standing accepted version last records used holds later below died has =
    let dated : IsDatedRecord kept accepted last =
    All-contains (IsDatedRecord kept accepted) records last (All-from_recursion (IsDatedRecord kept accepted) records (held_dated kept laws pages standing accepted records used holds)) has in
    elim dated.1 [
      | inl lives ↦ omega (arith, later, below, died, lives)
      | inr dead ↦ omega (arith, later, died, dead.1)
    ]
