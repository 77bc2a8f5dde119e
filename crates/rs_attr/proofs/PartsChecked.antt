-- Parts of a table's cells that were checked against its indexes.
use Rattle.std.proofs.Common.{◌≡◌, ◌<◌, ℕ, suc, Bool, not, Some, List, [], ◌∷◌, ◌++◌, length, take, slice_get, map, filter, sym, ap, subst, inl, inr, arith}
use Rattle.std.proofs.lemmas.List.Sorted.{Contains-permutation, IsPermutation-sym}
use Rattle.std.specs.List.{AllByRecursion, Contains}
use Rattle.std.specs.List.Sorted.{IsPermutation}
use Rattle.rs_attr.specs.Entries.{Field, HoldsIndex, entry_of, index_form}
use Rattle.rs_attr.specs.Opening.{AreNotEntered, HasEntries, HaveAllEntries, HaveEntries, LacksEntries}
use Rattle.rs_attr.specs.Tables.{HoldIndexes, IndexState}
use Rattle.rs_pages.specs.PageMap.{PageMap, SamePages}
use Rattle.rs_tree.proofs.Lists.{has_inside, inside_has, take_next, zip_at, zip_lengths}
use Rattle.rs_tree_whole.proofs.Joins.{all_push}
use Rattle.rs_versioned.proofs.Opened.{all_of_parts}
use Rattle.rs_cell_versions.proofs.Among.{first_or_rest}
use Rattle.rs_cell_versions.proofs.Dated.{all_both}
use Rattle.rs_cell_versions.proofs.Staying.{tree_same}

-- what an index of all has of some of them
contains_map : (image : List ℕ → List ℕ) (xs : List (List ℕ)) (x : List ℕ) → Contains xs x → Contains (map image xs) (image x)
contains_map image [] x has = absurd (omega (arith, has.1))
contains_map image (y ∷ ys) x has = elim (first_or_rest x y ys has) [
  | inl same ↦ (0, omega arith, ap image same)
  | inr rest ↦ let more = contains_map image ys x rest in (suc more.0, omega (arith, more.1), more.2)
]

each_among : (field : Field) (entries all cells : List (List ℕ)) → IsPermutation entries (map (entry_of field) all) → AllByRecursion (Contains all) cells → HaveEntries field entries cells
each_among field entries all [] are have = tt
each_among field entries all (c ∷ cs) are have = (
  Contains-permutation (map (entry_of field) all) entries (entry_of field c) (IsPermutation-sym entries (map (entry_of field) all) are) (contains_map (entry_of field) all c have.0),
  each_among field entries all cs are have.1,
)

module _ (old mid : PageMap) (same : SamePages mid old) where
  -- on the same pages the same is there
  entries_back : (field : Field) (root : ℕ) (cells : List (List ℕ)) → HasEntries field mid root cells → HasEntries field old root cells
  entries_back field root cells have = record { each = λ entries used tree. have.each entries used (tree_same (index_form field) old mid same root entries used tree) }

  pub all_entries_back : (indexes : List IndexState) (cells : List (List ℕ)) → HaveAllEntries mid indexes cells → HaveAllEntries old indexes cells
  all_entries_back [] cells have = tt
  all_entries_back (x ∷ xs) cells have = (entries_back x.field x.working cells have.0, all_entries_back xs cells have.1)

  hold_same : (indexes : List IndexState) (cells : List (List ℕ)) (uses : List (ℕ → ℕ)) → HoldIndexes old indexes cells uses → HoldIndexes mid indexes cells uses
  hold_same [] cells [] hold = tt
  hold_same [] cells (u ∷ us) hold = absurd hold
  hold_same (x ∷ xs) cells [] hold = absurd hold
  hold_same (x ∷ xs) cells (u ∷ us) hold = (
    record { entries = hold.0.entries; tree = tree_same (index_form x.field) old mid same x.working hold.0.entries u hold.0.tree; are = hold.0.are },
    hold_same xs cells us hold.1,
  )

  pub not_entered_back : (indexes : List IndexState) (cells : List (List ℕ)) → AreNotEntered mid indexes cells → AreNotEntered old indexes cells
  not_entered_back indexes cells missing = record { none = λ uses all hold have. missing.none uses all (hold_same indexes all uses hold) have }

  module _ (indexes : List IndexState) (k : ℕ) (index : IndexState) (there : slice_get indexes k ≡ Some index) (cells : List (List ℕ)) where
    -- the cells have their entries in one index more
    pub entered_next : HaveAllEntries old (take k indexes) cells → HasEntries index.field mid index.working cells → HaveAllEntries old (take (suc k) indexes) cells
    entered_next so have =
        subst (λ (xs : List IndexState). HaveAllEntries old xs cells) (sym (take_next indexes k index there))
        (all_push (λ (x : IndexState). HasEntries x.field old x.working cells) (take k indexes) index so (entries_back index.field index.working cells have))

    -- where one has none in the next index, they are not entered
    pub not_entered_at : LacksEntries index.field mid index.working cells → AreNotEntered old indexes cells
    not_entered_at lacks = record {
      none = λ uses all hold have.
          let within : k < length uses =
          omega (arith, has_inside indexes k index there, zip_lengths (λ (x : IndexState) (u : ℕ → ℕ). HoldsIndex x.field old x.working all u) indexes uses hold) in
          let one = inside_has uses k within in
          let holds : HoldsIndex index.field old index.working all one.0 =
          zip_at (λ (x : IndexState) (u : ℕ → ℕ). HoldsIndex x.field old x.working all u) indexes uses k index one.0 hold there one.1 in
          lacks.none holds.entries one.0 (tree_same (index_form index.field) old mid same index.working holds.entries one.0 holds.tree) (each_among index.field holds.entries all cells holds.are have);
    }

-- no cells have their entries in any index
pub none_entered : (pages : PageMap) (indexes : List IndexState) → HaveAllEntries pages indexes []
none_entered pages [] = tt
none_entered pages (x ∷ xs) = (record { each = λ entries used tree. tt }, none_entered pages xs)

-- two parts are one
pub both_entered : (pages : PageMap) (indexes : List IndexState) (xs ys : List (List ℕ)) → HaveAllEntries pages indexes xs → HaveAllEntries pages indexes ys → HaveAllEntries pages indexes (xs ++ ys)
both_entered pages [] xs ys one other = tt
both_entered pages (i ∷ is) xs ys one other = (
  record { each = λ entries used tree. all_both (λ (cell : List ℕ). Contains entries (entry_of i.field cell)) xs ys (one.0.each entries used tree) (other.0.each entries used tree) },
  both_entered pages is xs ys one.1 other.1,
)

-- what all of both have, all of each have
pub all_apart : (P : List ℕ → Type 0) (xs ys : List (List ℕ)) → AllByRecursion P (xs ++ ys) → AllByRecursion P xs × AllByRecursion P ys
all_apart P [] ys all = (tt, all)
all_apart P (x ∷ xs) ys all = let rest = all_apart P xs ys all.1 in ((all.0, rest.0), rest.1)

-- and each of them is one
pub first_entered : (pages : PageMap) (indexes : List IndexState) (xs ys : List (List ℕ)) → HaveAllEntries pages indexes (xs ++ ys) → HaveAllEntries pages indexes xs
first_entered pages [] xs ys have = tt
first_entered pages (i ∷ is) xs ys have = (
  record { each = λ entries used tree. (all_apart (λ (cell : List ℕ). Contains entries (entry_of i.field cell)) xs ys (have.0.each entries used tree)).0 },
  first_entered pages is xs ys have.1,
)

pub second_entered : (pages : PageMap) (indexes : List IndexState) (xs ys : List (List ℕ)) → HaveAllEntries pages indexes (xs ++ ys) → HaveAllEntries pages indexes ys
second_entered pages [] xs ys have = tt
second_entered pages (i ∷ is) xs ys have = (
  record { each = λ entries used tree. (all_apart (λ (cell : List ℕ). Contains entries (entry_of i.field cell)) xs ys (have.0.each entries used tree)).1 },
  second_entered pages is xs ys have.1,
)

-- what passes a test, and what doesn't
pub either_entered : (pages : PageMap) (test : List ℕ → Bool) (indexes : List IndexState) (xs : List (List ℕ)) → HaveAllEntries pages indexes (filter test xs)
    → HaveAllEntries pages indexes (filter (λ x. not (test x)) xs) → HaveAllEntries pages indexes xs
either_entered pages test [] xs one other = tt
either_entered pages test (i ∷ is) xs one other = (
  record { each = λ entries used tree. all_of_parts (λ (cell : List ℕ). Contains entries (entry_of i.field cell)) test xs (one.0.each entries used tree) (other.0.each entries used tree) },
  either_entered pages test is xs one.1 other.1,
)
