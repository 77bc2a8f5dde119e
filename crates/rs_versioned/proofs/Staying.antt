-- Records stay where their pages do, and are one list.
use Rattle.std.proofs.Common.{◌≡◌, ◌≤◌, ◌+◌, ℕ, Bool, true, false, not, cond, List, [], ◌∷◌, length, filter, refl, sym, ap, ◌∙◌, subst, inl, inr, arith}
use Rattle.std.proofs.lemmas.List.Sorted.{length_permutation}
use Rattle.std.proofs.lemmas.List.Sums.{length-filter, sum_by-cons}
use Rattle.std.specs.List.{AllByRecursion, AllZip, count_by}
use Rattle.rs_page_owners.specs.Owners.{KeepsPages}
use Rattle.rs_pages.specs.PageMap.{PageMap}
use Rattle.rs_tree.specs.Tree.{IsTree}
use Rattle.rs_tree.proofs.Framed.{kept_tree_stays}
use Rattle.rs_tree.proofs.Ones.{tree_has_its_cells}
use Rattle.rs_cell_versions.specs.Version.{IsDated, is_dead, is_living}
use Rattle.rs_cell_versions.specs.Versioned.{Standing, nothing_stands}
use Rattle.rs_versioned.specs.Records.{HoldsRecords, IsKept, Kept}

dated_later : (from to : ℕ) (cells : List (List ℕ)) → from ≤ to → AllByRecursion (IsDated from) cells → AllByRecursion (IsDated to) cells
dated_later from to [] later all = tt
dated_later from to (c ∷ cs) later all = (
  (
    omega (arith, all.0.0, later),
    elim all.0.1 [
      | inl lives ↦ inl lives
      | inr dead ↦ inr (dead.0, omega (arith, dead.1, later))
    ],
  ),
  dated_later from to cs later all.1,
)

-- each lives or is dead
either_way : (cells : List (List ℕ)) → count_by is_living cells + count_by is_dead cells ≡ length cells
either_way [] = refl
either_way (c ∷ cs) =
    let weigh : List ℕ → ℕ = λ x. cond (is_living x) 1 0 in
    let other : List ℕ → ℕ = λ x. cond (is_dead x) 1 0 in
    omega (arith, sum_by-cons weigh c cs, sum_by-cons other c cs, either_way cs, one (is_living c)) where
      one : (b : Bool) → cond b 1 0 + cond (not b) 1 0 ≡ 1
      one true = refl
      one false = refl

module _ {R : Type 0} (kept : Kept R) where
  pub held_later : (pages : PageMap) (standing : Standing) (from to : ℕ) (records : List R) (used : ℕ → ℕ) → from ≤ to → HoldsRecords kept pages standing from records used
      → HoldsRecords kept pages standing to records used
  held_later pages standing from to records used later holds =
      record { cells = holds.cells; holds = holds.holds; say = holds.say; dated = dated_later from to holds.cells later holds.dated }

  pub held_kept : (old new : PageMap) (standing : Standing) (accepted : ℕ) (records : List R) (used : ℕ → ℕ) → KeepsPages used old new → HoldsRecords kept old standing accepted records used
      → HoldsRecords kept new standing accepted records used
  held_kept old new standing accepted records used keeps holds = record {
    cells = holds.cells;
    holds = record {
      tree = kept_tree_stays kept.form old new standing.root holds.cells used keeps holds.holds.tree;
      living = holds.holds.living;
      dead = holds.holds.dead;
    };
    say = holds.say;
    dated = holds.dated;
  }

  none_said : (cells : List (List ℕ)) (records : List R) → length cells ≡ 0 → AllZip kept.says cells records → records ≡ []
  none_said [] [] none all = refl
  none_said [] (r ∷ rs) none all = absurd all
  none_said (c ∷ cs) records none all = absurd (omega arith)

  pub held_none : (pages : PageMap) (accepted : ℕ) (records : List R) (used : ℕ → ℕ) → HoldsRecords kept pages nothing_stands accepted records used → records ≡ []
  held_none pages accepted records used holds =
      let dead : count_by is_dead holds.cells ≡ 0 = sym (length-filter is_dead holds.cells) ∙ sym (length_permutation (filter is_dead holds.cells) [] holds.holds.dead) in
      none_said holds.cells records (omega (arith, either_way holds.cells, dead, holds.holds.living)) holds.say

  module _ (laws : IsKept kept) where
    said_same : (cells : List (List ℕ)) (one other : List R) → AllZip kept.says cells one → AllZip kept.says cells other → one ≡ other
    said_same [] [] [] says tells = refl
    said_same [] [] (y ∷ ys) says tells = absurd tells
    said_same [] (x ∷ xs) other says tells = absurd says
    said_same (c ∷ cs) [] other says tells = absurd says
    said_same (c ∷ cs) (x ∷ xs) [] says tells = absurd tells
    said_same (c ∷ cs) (x ∷ xs) (y ∷ ys) says tells =
        ap (λ (z : R). z ∷ xs) (laws.one c x y says.0 tells.0) ∙ ap (λ (l : List R). y ∷ l) (said_same cs xs ys says.1 tells.1)

    pub held_one : (pages : PageMap) (stands lies : Standing) (from to : ℕ) (one other : List R) (used uses : ℕ → ℕ) → stands.root ≡ lies.root → HoldsRecords kept pages stands from one used
        → HoldsRecords kept pages lies to other uses → one ≡ other
    held_one pages stands lies from to one other used uses same holds has =
        let cells = tree_has_its_cells kept.form pages lies.root holds.cells has.cells used uses (subst (λ root. IsTree kept.form pages root holds.cells used) same holds.holds.tree) has.holds.tree in
        said_same has.cells one other (subst (λ cs. AllZip kept.says cs one) cells holds.say) has.say
