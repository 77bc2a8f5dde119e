-- Records beside the cells that say them: what is done to the cells is done to the records.
use Rattle.std.proofs.Common.{◌≡◌, ℕ, zero, suc, Bool, true, false, cond, List, [], ◌∷◌, ◌++◌, filter, refl, sym, ap, subst, arith}
use Rattle.std.proofs.lemmas.List.Sorted.{IsPermutation-cons, IsPermutation-middle, IsPermutation-refl, IsPermutation-sym, IsPermutation-trans, Contains-permutation}
use Rattle.std.proofs.lemmas.List.Sums.{sum_by-cons}
use Rattle.std.specs.List.{AllByRecursion, AllZip, Contains, count_by}
use Rattle.std.specs.List.Sorted.{IsPermutation}
use Rattle.rs_records.specs.Order.{Ascends}
use Rattle.rs_tree.specs.Cells.{cells_above, cells_below, with_cell, without_cell}
use Rattle.rs_cell_versions.specs.Changes.{without_cells}
use Rattle.rs_cell_versions.specs.Version.{is_dead}
use Rattle.rs_cell_versions.proofs.Among.{filter-with_yes, filtered, with_present, without_absent}
use Rattle.rs_cell_versions.proofs.Permutations.{IsPermutation-rest}
use Rattle.rs_cell_versions.proofs.Seen.{without-ascends}
use Rattle.rs_versioned.specs.Records.{IsKept, Kept}

-- where the first cells end, so do the first records
record Parted {R : Type 0} (says : List ℕ → R → Type 0) (xs ys : List (List ℕ)) (records : List R) : Type 0 where
  first : List R
  rest : List R
  joined : records ≡ first ++ rest
  say_first : AllZip says xs first
  say_rest : AllZip says ys rest

-- the record that a cell says, which is one of these
pub record SaidBy {R : Type 0} (says : List ℕ → R → Type 0) (cell : List ℕ) (records : List R) : Type 0 where
  pub one : R
  pub said : says cell one
  pub there : Contains records one

-- the cell that says a record, which is one of these
pub record Saying {R : Type 0} (says : List ℕ → R → Type 0) (one : R) (cells : List (List ℕ)) : Type 0 where
  pub cell : List ℕ
  pub said : says cell one
  pub there : Contains cells cell

module _ {R : Type 0} (says : List ℕ → R → Type 0) where
  zip_parts : (xs ys : List (List ℕ)) (records : List R) → AllZip says (xs ++ ys) records → Parted says xs ys records
  zip_parts [] ys rs all = record { first = []; rest = rs; joined = refl; say_first = tt; say_rest = all }
  zip_parts (x ∷ xs) ys [] all = absurd all
  zip_parts (x ∷ xs) ys (r ∷ rs) all =
      let p = zip_parts xs ys rs all.1 in
      record { first = r ∷ p.first; rest = p.rest; joined = ap (λ (l : List R). r ∷ l) p.joined; say_first = (all.0, p.say_first); say_rest = p.say_rest }

  pub zip_join : (xs ys : List (List ℕ)) (rs ss : List R) → AllZip says xs rs → AllZip says ys ss → AllZip says (xs ++ ys) (rs ++ ss)
  zip_join [] ys [] ss first last = last
  zip_join [] ys (r ∷ rs) ss first last = absurd first
  zip_join (x ∷ xs) ys [] ss first last = absurd first
  zip_join (x ∷ xs) ys (r ∷ rs) ss first last = (first.0, zip_join xs ys rs ss first.1 last)

  pub said_by : (cells : List (List ℕ)) (records : List R) (cell : List ℕ) → AllZip says cells records → Contains cells cell → SaidBy says cell records
  said_by [] [] cell all has = absurd (omega (arith, has.1))
  said_by [] (r ∷ rs) cell all has = absurd all
  said_by (c ∷ cs) [] cell all has = absurd all
  said_by (c ∷ cs) (r ∷ rs) cell all (zero, inside, is) = record { one = r; said = subst (λ (x : List ℕ). says x r) is all.0; there = (0, omega arith, refl) }
  said_by (c ∷ cs) (r ∷ rs) cell all (suc k, inside, is) =
      let more = said_by cs rs cell all.1 (k, omega arith, is) in
      record { one = more.one; said = more.said; there = (suc more.there.0, omega (arith, more.there.1), more.there.2) }

  pub saying : (cells : List (List ℕ)) (records : List R) (one : R) → AllZip says cells records → Contains records one → Saying says one cells
  saying [] [] one all has = absurd (omega (arith, has.1))
  saying [] (r ∷ rs) one all has = absurd all
  saying (c ∷ cs) [] one all has = absurd all
  saying (c ∷ cs) (r ∷ rs) one all (zero, inside, is) = record { cell = c; said = subst (says c) is all.0; there = (0, omega arith, refl) }
  saying (c ∷ cs) (r ∷ rs) one all (suc k, inside, is) =
      let more = saying cs rs one all.1 (k, omega arith, is) in
      record { cell = more.cell; said = more.said; there = (suc more.there.0, omega (arith, more.there.1), more.there.2) }

  -- tests that agree keep the cells of what they keep
  pub zip_filter : (p : List ℕ → Bool) (q : R → Bool) → ((c : List ℕ) (r : R) → says c r → p c ≡ q r) → (cells : List (List ℕ)) (records : List R) → AllZip says cells records
      → AllZip says (filter p cells) (filter q records)
  zip_filter p q agree [] [] all = tt
  zip_filter p q agree [] (r ∷ rs) all = absurd all
  zip_filter p q agree (c ∷ cs) [] all = absurd all
  zip_filter p q agree (c ∷ cs) (r ∷ rs) all =
      subst (λ (b : Bool). AllZip says (cond b (c ∷ filter p cs) (filter p cs)) (filter q (r ∷ rs))) (sym (agree c r all.0)) (by_test (q r) (zip_filter p q agree cs rs all.1)) where
        by_test : (b : Bool) → AllZip says (filter p cs) (filter q rs) → AllZip says (cond b (c ∷ filter p cs) (filter p cs)) (cond b (r ∷ filter q rs) (filter q rs))
        by_test true rest = (all.0, rest)
        by_test false rest = rest

  -- and count as many
  pub zip_count : (p : List ℕ → Bool) (q : R → Bool) → ((c : List ℕ) (r : R) → says c r → p c ≡ q r) → (cells : List (List ℕ)) (records : List R) → AllZip says cells records
      → count_by p cells ≡ count_by q records
  zip_count p q agree [] [] all = refl
  zip_count p q agree [] (r ∷ rs) all = absurd all
  zip_count p q agree (c ∷ cs) [] all = absurd all
  zip_count p q agree (c ∷ cs) (r ∷ rs) all =
      let weigh : List ℕ → ℕ = λ x. cond (p x) 1 0 in
      let other : R → ℕ = λ x. cond (q x) 1 0 in
      let first : weigh c ≡ other r = ap (λ (b : Bool). cond {A = ℕ} b 1 0) (agree c r all.0) in
      omega (arith, sum_by-cons weigh c cs, sum_by-cons other r rs, zip_count p q agree cs rs all.1, first)

  -- what holds of each cell tells something of each record
  pub zip_all : (P : List ℕ → Type 0) (Q : R → Type 0) → ((c : List ℕ) (r : R) → says c r → P c → Q r) → (cells : List (List ℕ)) (records : List R) → AllZip says cells records
      → AllByRecursion P cells → AllByRecursion Q records
  zip_all P Q tells [] [] all each = tt
  zip_all P Q tells [] (r ∷ rs) all each = absurd all
  zip_all P Q tells (c ∷ cs) [] all each = absurd all
  zip_all P Q tells (c ∷ cs) (r ∷ rs) all each = (tells c r all.0 each.0, zip_all P Q tells cs rs all.1 each.1)

-- a cell's record has come to those of the others
pub record Joins {R : Type 0} (says : List ℕ → R → Type 0) (cell : List ℕ) (one : R) (cells : List (List ℕ)) (records : List R) : Type 0 where
  pub now : List R
  pub say : AllZip says (with_cell cell cells) now
  pub more : IsPermutation now (one ∷ records)

-- a cell's record has gone from those of the others
pub record Leaves {R : Type 0} (says : List ℕ → R → Type 0) (cell : List ℕ) (cells : List (List ℕ)) (records : List R) : Type 0 where
  pub one : R
  pub said : says cell one
  pub rest : List R
  pub say : AllZip says (without_cell cell cells) rest
  pub were : IsPermutation records (one ∷ rest)

-- the records of some cells have gone from those of the others
pub record LeaveAll {R : Type 0} (says : List ℕ → R → Type 0) (gone cells : List (List ℕ)) (records : List R) : Type 0 where
  pub ones : List R
  pub said : AllZip says gone ones
  pub rest : List R
  pub say : AllZip says (without_cells gone cells) rest
  pub were : IsPermutation records (ones ++ rest)

module _ {R : Type 0} (says : List ℕ → R → Type 0) where
  pub joins : (cell : List ℕ) (one : R) (cells : List (List ℕ)) (records : List R) → says cell one → Ascends cells → (Contains cells cell → ⊥) → AllZip says cells records
      → Joins says cell one cells records
  joins cell one cells records said up none all =
      let p = zip_parts says (cells_below cell cells) (cells_above cell cells) records (subst (λ (cs : List (List ℕ)). AllZip says cs records) (sym (without_absent cell cells up none)) all) in
      record {
        now = p.first ++ one ∷ p.rest;
        say = zip_join says (cells_below cell cells) (cell ∷ cells_above cell cells) p.first (one ∷ p.rest) p.say_first (said, p.say_rest);
        more = subst (λ (l : List R). IsPermutation (p.first ++ one ∷ p.rest) (one ∷ l)) (sym p.joined) (IsPermutation-middle p.first one p.rest);
      }

  pub leaves : (cell : List ℕ) (cells : List (List ℕ)) (records : List R) → Ascends cells → Contains cells cell → AllZip says cells records → Leaves says cell cells records
  leaves cell cells records up has all =
      let p = zip_parts says (cells_below cell cells) (cell ∷ cells_above cell cells) records (subst (λ (cs : List (List ℕ)). AllZip says cs records) (sym (with_present cell cells up has)) all) in
      by_rest p.first p.rest p.joined p.say_first p.say_rest where
        by_rest : (first rest : List R) → records ≡ first ++ rest → AllZip says (cells_below cell cells) first → AllZip says (cell ∷ cells_above cell cells) rest → Leaves says cell cells records
        by_rest first [] joined one other = absurd other
        by_rest first (r ∷ rs) joined one other = record {
          one = r;
          said = other.0;
          rest = first ++ rs;
          say = zip_join says (cells_below cell cells) (cells_above cell cells) first rs one other.1;
          were = subst (λ (l : List R). IsPermutation l (r ∷ (first ++ rs))) (sym joined) (IsPermutation-middle first r rs);
        }

  -- dead cells that are all among these
  pub leave_all : (gone cells more : List (List ℕ)) (records : List R) → Ascends cells → IsPermutation (filter is_dead cells) (gone ++ more) → AllZip says cells records
      → LeaveAll says gone cells records
  leave_all [] cells more records up dead all = record { ones = []; said = tt; rest = records; say = all; were = IsPermutation-refl records }
  leave_all (g ∷ gs) cells more records up dead all =
      let first = filtered is_dead cells g (Contains-permutation (g ∷ (gs ++ more)) (filter is_dead cells) g (IsPermutation-sym (filter is_dead cells) (g ∷ (gs ++ more)) dead) (0, omega arith, refl)) in
      let without : List (List ℕ) = filter is_dead (without_cell g cells) in
      let apart : IsPermutation (filter is_dead cells) (g ∷ without) =
      subst (λ (cs : List (List ℕ)). IsPermutation (filter is_dead cs) (g ∷ without)) (with_present g cells up first.1) (filter-with_yes is_dead g cells first.0) in
      let left : IsPermutation without (gs ++ more) =
      IsPermutation-rest g without (gs ++ more) (IsPermutation-trans (g ∷ without) (filter is_dead cells) (g ∷ (gs ++ more)) (IsPermutation-sym (filter is_dead cells) (g ∷ without) apart) dead) in
      let one = leaves g cells records up first.1 all in
      let others = leave_all gs (without_cell g cells) more one.rest (without-ascends g cells up) left one.say in
      record {
        ones = one.one ∷ others.ones;
        said = (one.said, others.said);
        rest = others.rest;
        say = others.say;
        were = IsPermutation-trans records (one.one ∷ one.rest) (one.one ∷ (others.ones ++ others.rest)) one.were
            (IsPermutation-cons one.one one.rest (others.ones ++ others.rest) others.were);
      }

-- where records are kept, a cell is among others where its record is among theirs
module _ {R : Type 0} (kept : Kept R) (laws : IsKept kept) where
  pub record_there : (cells : List (List ℕ)) (records : List R) (cell : List ℕ) (one : R) → kept.says cell one → AllZip kept.says cells records → Contains cells cell → Contains records one
  record_there cells records cell one says all has =
      let by = said_by kept.says cells records cell all has in
      subst (λ (r : R). Contains records r) (laws.one cell by.one one by.said says) by.there

  pub cell_there : (cells : List (List ℕ)) (records : List R) (cell : List ℕ) (one : R) → kept.says cell one → AllZip kept.says cells records → Contains records one → Contains cells cell
  cell_there cells records cell one says all has =
      let by = saying kept.says cells records one all has in
      subst (λ (c : List ℕ). Contains cells c) (laws.has_one by.cell cell one by.said says) by.there
