-- Cells that come one after the other to those that wait.
use Rattle.std.proofs.Common.{◌≡◌, ℕ, zero, suc, Some, List, [], ◌∷◌, ◌++◌, Result, Ok, Err, take, slice_get, sym, ap, ◌∙◌, subst}
use Rattle.std.specs.Prelude.{OnOk}
use Rattle.std.proofs.lemmas.List.{append_assoc}
use Rattle.std.specs.List.{AllByRecursion, Contains}
use Rattle.rs_attr.specs.Opening.{AreNotEntered, HaveAllEntries}
use Rattle.rs_attr.specs.Tables.{IndexState}
use Rattle.rs_attr.proofs.PartsChecked.{all_apart, all_entries_back, both_entered, first_entered, not_entered_back, second_entered}
use Rattle.rs_pages.specs.PageMap.{PageMap, SamePages}
use Rattle.rs_tree.proofs.Lists.{all_at, take_next}
use Rattle.rs_tree_whole.proofs.Entries.{same_back}
use Rattle.rs_cell_versions.proofs.Dated.{all_both}

-- what holds after it holds where something else does
pub on_ok : {T E : Type 0} (result : Result T E) (A B : Type 0) → (A → B) → OnOk result A → OnOk result B
on_ok (Ok x) A B f a = f a
on_ok (Err e) A B f a = tt

all_front : (P : List ℕ → Type 0) (cells : List (List ℕ)) (k : ℕ) → AllByRecursion P cells → AllByRecursion P (take k cells)
all_front P cells zero all = tt
all_front P [] (suc k) all = tt
all_front P (c ∷ cs) (suc k) all = (all.0, all_front P cs k all.1)

module _ (before waiting cells : List (List ℕ)) (k : ℕ) (cell : List ℕ) (there : slice_get cells k ≡ Some cell) where
  one_more : before ++ take (suc k) cells ≡ (before ++ take k cells) ++ cell ∷ []
  one_more = ap (λ (l : List (List ℕ)). before ++ l) (take_next cells k cell there) ∙ sym (append_assoc before (take k cells) (cell ∷ []))

  waits_next : (P : List ℕ → Type 0) → (AllByRecursion P (before ++ take k cells) → AllByRecursion P waiting) → AllByRecursion P (before ++ take (suc k) cells) → AllByRecursion P (waiting ++ cell ∷ [])
  waits_next P wait both =
      let parts = all_apart P (before ++ take k cells) (cell ∷ []) (subst (AllByRecursion P) one_more both) in
      all_both P waiting (cell ∷ []) (wait parts.0) parts.1

-- what all of them are among, those that wait are among with the next one
pub among_next : (all before waiting cells : List (List ℕ)) (k : ℕ) (cell : List ℕ) → slice_get cells k ≡ Some cell
    → (AllByRecursion (Contains all) (before ++ take k cells) → AllByRecursion (Contains all) waiting) → AllByRecursion (Contains all) (before ++ take (suc k) cells) → AllByRecursion (Contains all) (waiting ++ cell ∷ [])
among_next all before waiting cells k cell there wait both = waits_next before waiting cells k cell there (Contains all) wait both

module _ (old mid : PageMap) (same : SamePages mid old) (indexes : List IndexState) where
  pub entered_more : (before waiting after cells : List (List ℕ)) (k : ℕ) (cell : List ℕ) → slice_get cells k ≡ Some cell
      → (HaveAllEntries old indexes waiting → HaveAllEntries old indexes (before ++ take k cells)) → (HaveAllEntries mid indexes after → HaveAllEntries mid indexes (waiting ++ cell ∷ []))
      → HaveAllEntries old indexes after → HaveAllEntries old indexes (before ++ take (suc k) cells)
  entered_more before waiting after cells k cell there wait more have =
      let both : HaveAllEntries old indexes (waiting ++ cell ∷ []) =
      all_entries_back old mid same indexes (waiting ++ cell ∷ []) (more (all_entries_back mid old (same_back mid old same) indexes after have)) in
      subst (HaveAllEntries old indexes) (sym (one_more before waiting cells k cell there))
      (both_entered old indexes (before ++ take k cells) (cell ∷ []) (wait (first_entered old indexes waiting (cell ∷ []) both)) (second_entered old indexes waiting (cell ∷ []) both))

  -- where one of them has no entry, not all are entered
  pub not_entered_here : (before waiting cells : List (List ℕ)) (k : ℕ) (cell : List ℕ) → slice_get cells k ≡ Some cell
      → ((all : List (List ℕ)) → AllByRecursion (Contains all) (before ++ take k cells) → AllByRecursion (Contains all) waiting) → AreNotEntered mid indexes (waiting ++ cell ∷ [])
      → AreNotEntered old indexes (before ++ cells)
  not_entered_here before waiting cells k cell there wait missing = record {
    none = λ uses all hold have.
        let parts = all_apart (Contains all) before cells have in
        let front = all_both (Contains all) before (take k cells) parts.0 (all_front (Contains all) cells k parts.1) in
        let one : Contains all cell = all_at (Contains all) cells k cell parts.1 there in
        (not_entered_back old mid same indexes (waiting ++ cell ∷ []) missing).none uses all hold (all_both (Contains all) waiting (cell ∷ []) (wait all front) (one, tt));
  }

  -- nor are those of which some wait
  pub not_entered_waiting : (both waiting : List (List ℕ)) → ((all : List (List ℕ)) → AllByRecursion (Contains all) both → AllByRecursion (Contains all) waiting) → AreNotEntered mid indexes waiting
      → AreNotEntered old indexes both
  not_entered_waiting both waiting wait missing = record { none = λ uses all hold have. (not_entered_back old mid same indexes waiting missing).none uses all hold (wait all have) }
