-- What was looked at below a bound, and what follows of all cells.
use Rattle.std.proofs.Common.{◌≡◌, ◌⊎◌, ◌≤◌, ℕ, Bool, true, false, cond, not, ◌&&◌, List, [], ◌∷◌, ◌++◌, filter, Result, Ok, Err, OnOk, refl, sym, ap, ◌∙◌, subst, inl, inr, arith}
use Rattle.std.proofs.lemmas.List.Elements.{filter-append}
use Rattle.std.proofs.lemmas.List.Sorted.{length_permutation}
use Rattle.std.proofs.lemmas.List.Sums.{length-filter, sum_by-append, sum_by-cons}
use Rattle.std.specs.List.{AllByRecursion, count_by}
use Rattle.std.specs.List.Sorted.{IsPermutation}
use Rattle.rs_refusal.specs.declared.refusal.Refusal.{Refusal}
use Rattle.rs_refusal.specs.declared.refusal.Refusal.TheVariants as refusal
use Rattle.rs_pages.specs.PageMap.{PageMap, SamePages}
use Rattle.rs_pages.specs.Store.{Store}
use Rattle.rs_records.specs.Order.{is_below, Ascends}
use Rattle.rs_records.proofs.Orders.{is_below-self}
use Rattle.rs_tree.specs.Calls.{RefusesToRead}
use Rattle.rs_tree.specs.Cells.{cells_below, cells_within}
use Rattle.rs_tree.specs.Form.{Form}
use Rattle.rs_tree.specs.Tree.{IsNoTree, IsTree}
use Rattle.rs_tree.proofs.Below.{AllBelow, NoneBelow, below_upto, none_below_after}
use Rattle.rs_btree.proofs.Entries.{same_back}
use Rattle.rs_tree_edit.proofs.Between.{below_all}
use Rattle.rs_cell_versions.specs.Looking.{AreOthers, Counts, HasPassedAll, IsAbove, Tallied}
use Rattle.rs_cell_versions.specs.Opening.{HasCounted, HasPassed, Looked, StandsOtherwise, StandsTold, Told}
use Rattle.rs_cell_versions.specs.Version.{IsDated, is_dead, is_living}
use Rattle.rs_cell_versions.proofs.Dated.{all_both, all_kept}
use Rattle.rs_cell_versions.proofs.Staying.{tree_same}

-- what is to come after a look
abbrev pub left_of : Looked → Tallied
left_of looked = record { accepted = looked.told.accepted; living_left = looked.living_left; garbage_left = looked.garbage_left; dead = looked.dead }

-- cells none of which is below the first bound
none_low : (low : List ℕ) (cells : List (List ℕ)) → NoneBelow low cells → cells_below low cells ≡ []
none_low low [] none = refl
none_low low (c ∷ cs) none = rw none.0 (none_low low cs none.1)

within_none_low : (low high : List ℕ) (cells : List (List ℕ)) → NoneBelow low cells → cells_within low high cells ≡ cells_below high cells
within_none_low low high [] none = refl
within_none_low low high (c ∷ cs) none =
    ap (λ b. cond (not b && is_below c high) (c ∷ cells_within low high cs) (cells_within low high cs)) none.0
    ∙ ap (λ xs. cond (is_below c high) (c ∷ xs) xs) (within_none_low low high cs none.1)

-- what is below a bound is what is below a lower one, and what is between them
pub below_parted : (low high : List ℕ) (cells : List (List ℕ)) → Ascends cells → is_below high low ≡ false → cells_below high cells ≡ cells_below low cells ++ cells_within low high cells
below_parted low high [] up order = refl
below_parted low high (c ∷ cs) up order = by_low (is_below c low) refl (below_parted low high cs up.1 order) where
  by_low : (b : Bool) → is_below c low ≡ b → cells_below high cs ≡ cells_below low cs ++ cells_within low high cs → cells_below high (c ∷ cs) ≡ cells_below low (c ∷ cs) ++ cells_within low high (c ∷ cs)
  by_low true is rest =
      let upto : is_below c high ≡ true = below_upto c low high is order in
      rw (is, upto) (ap (λ xs. c ∷ xs) rest)
  by_low false isnt rest =
      let none : NoneBelow low (c ∷ cs) = (isnt, none_below_after low c cs isnt up.0) in
      sym (within_none_low low high (c ∷ cs) none) ∙ ap (λ xs. xs ++ cells_within low high (c ∷ cs)) (sym (none_low low (c ∷ cs) none))

-- a filter counts no more
count-filter : (test keep : List ℕ → Bool) (cells : List (List ℕ)) → count_by test (filter keep cells) ≤ count_by test cells
count-filter test keep [] = omega arith
count-filter test keep (c ∷ cs) = by_keep (keep c) refl (count-filter test keep cs) where
  by_keep : (b : Bool) → keep c ≡ b → count_by test (filter keep cs) ≤ count_by test cs → count_by test (filter keep (c ∷ cs)) ≤ count_by test (c ∷ cs)
  by_keep true is rest =
      let kept : count_by test (filter keep (c ∷ cs)) ≡ count_by test (c ∷ filter keep cs) = ap (λ b. count_by test (cond b (c ∷ filter keep cs) (filter keep cs))) is in
      omega (arith, kept, rest, sum_by-cons (λ x. cond (test x) 1 0) c (filter keep cs), sum_by-cons (λ x. cond (test x) 1 0) c cs)
  by_keep false isnt rest =
      let kept : count_by test (filter keep (c ∷ cs)) ≡ count_by test (filter keep cs) = ap (λ b. count_by test (cond b (c ∷ filter keep cs) (filter keep cs))) isnt in
      omega (arith, kept, rest, sum_by-cons (λ x. cond (test x) 1 0) c cs)

-- nothing is below no bytes
pub none_below_nothing : (cells : List (List ℕ)) → cells_below [] cells ≡ []
unfolding is_below
none_below_nothing [] = refl
none_below_nothing ([] ∷ cs) = none_below_nothing cs
none_below_nothing ((x ∷ xs) ∷ cs) = none_below_nothing cs

-- before the first part
pub passed_none : (form : Form) (pages : PageMap) (looked : Looked) → looked.low ≡ [] → looked.living_left ≡ looked.told.living → looked.garbage_left ≡ looked.told.garbage → looked.dead ≡ []
    → HasPassed form pages looked
passed_none form pages looked low living garbage dead = record {
  each = λ cells used tree.
      let none : cells_below looked.low cells ≡ [] = ap (λ b. cells_below b cells) low ∙ none_below_nothing cells in
      subst (HasCounted looked) (sym none) (record { dated = tt; living = omega (arith, living); garbage = omega (arith, garbage); dead = sym dead });
}

-- one part more
counted_more : (old new : Looked) (xs ys : List (List ℕ)) → new.told ≡ old.told → HasCounted old xs → Counts (left_of old) (left_of new) ys → HasCounted new (xs ++ ys)
counted_more old new xs ys told so counts =
    let now : HasCounted (record new { told = old.told }) (xs ++ ys) = record {
      dated = all_both (IsDated old.told.accepted) xs ys so.dated counts.dated;
      living = omega (arith, so.living, counts.living, sum_by-append (λ x. cond (is_living x) 1 0) xs ys);
      garbage = omega (arith, so.garbage, counts.garbage, sum_by-append (λ x. cond (is_dead x) 1 0) xs ys);
      dead = filter-append is_dead xs ys ∙ ap (λ cells. cells ++ filter is_dead ys) so.dead ∙ sym counts.dead;
    } in
    subst (λ (t : Told). HasCounted (record new { told = t }) (xs ++ ys)) (sym told) now

-- where a tree stands, the cells between two bounds were found
abbrev pub FindsWithin : Form → PageMap → ℕ → List ℕ → List ℕ → List (List ℕ) → Type 0
FindsWithin form pages root low high found = (cells : List (List ℕ)) (used : ℕ → ℕ) → IsTree form pages root cells used → found ≡ cells_within low high cells

pub passed_more : (form : Form) (pages : PageMap) (old new : Looked) (found : List (List ℕ)) → new.told ≡ old.told → is_below new.low old.low ≡ false → Counts (left_of old) (left_of new) found
    → FindsWithin form pages old.told.root old.low new.low found → HasPassed form pages old → HasPassed form pages new
passed_more form pages old new found told order counts finds passed = record {
  each = λ cells used tree.
      let before = subst (λ (t : Told). IsTree form pages t.root cells used) told tree in
      let parted : cells_below old.low cells ++ found ≡ cells_below new.low cells =
      ap (λ xs. cells_below old.low cells ++ xs) (finds cells used before) ∙ sym (below_parted old.low new.low cells tree.ascends order) in
      subst (HasCounted new) parted (counted_more old new (cells_below old.low cells) found told (passed.each cells used before) counts);
}

-- as many are dead as were told
dead_told : (form : Form) (pages : PageMap) (told : Told) (dead cells : List (List ℕ)) (used : ℕ → ℕ) → StandsTold form pages told dead cells used → count_by is_dead cells ≡ told.garbage
dead_told form pages told dead cells used stands = sym (length-filter is_dead cells) ∙ sym (length_permutation (filter is_dead cells) dead stands.holds.dead) ∙ stands.garbage

-- where the cells of a part are not those that are to come, no such cells stand there
pub others_otherwise : (form : Form) (pages : PageMap) (old : Looked) (high : List ℕ) (found : List (List ℕ)) → is_below high old.low ≡ false → AreOthers (left_of old) found
    → FindsWithin form pages old.told.root old.low high found → HasPassed form pages old → StandsOtherwise form pages old.told
others_otherwise form pages old high found order others finds passed = record {
  none = λ dead cells used stands.
      let tree = stands.holds.tree in
      let so = passed.each cells used tree in
      let is = finds cells used tree in
      let parted = below_parted old.low high cells tree.ascends order in
      let below : List (List ℕ) = cells_below old.low cells in
      let weigh : (List ℕ → Bool) → List ℕ → ℕ = λ test x. cond (test x) 1 0 in
      let lives : count_by is_living (cells_below high cells) ≡ count_by is_living (below ++ cells_within old.low high cells) = ap (count_by is_living) parted in
      let dies : count_by is_dead (cells_below high cells) ≡ count_by is_dead (below ++ cells_within old.low high cells) = ap (count_by is_dead) parted in
      let found_lives : count_by is_living found ≡ count_by is_living (cells_within old.low high cells) = ap (count_by is_living) is in
      let found_dies : count_by is_dead found ≡ count_by is_dead (cells_within old.low high cells) = ap (count_by is_dead) is in
      others.none (subst (AllByRecursion (IsDated old.told.accepted)) (sym is) (all_kept (IsDated old.told.accepted) (λ cell. not (is_below cell old.low) && is_below cell high) cells stands.dated))
      (omega (arith, found_lives, lives, so.living, stands.holds.living, sum_by-append (weigh is_living) below (cells_within old.low high cells), count-filter is_living (λ cell. is_below cell high) cells))
      (omega (arith, found_dies, dies, so.garbage, dead_told form pages old.told dead cells used stands, sum_by-append (weigh is_dead) below (cells_within old.low high cells), count-filter is_dead (λ cell. is_below cell high) cells));
}

pub no_tree_otherwise : (form : Form) (pages : PageMap) (told : Told) → IsNoTree form pages told.root → StandsOtherwise form pages told
no_tree_otherwise form pages told none = record { none = λ dead cells used stands. none.none cells used stands.holds.tree }

pub refused_no_tree : (tied : Type 0) (form : Form) (root : ℕ) (why : Refusal) (old new : Store) → RefusesToRead tied form root why old new → why ≡ refusal.DamagedFile → tied → IsNoTree form old.map root
refused_no_tree tied form root why old new refuses is = by_cause refuses.cause where
  by_cause : (why ≡ refusal.OutOfMemory) ⊎ (why ≡ refusal.Disk) ⊎ ((why ≡ refusal.DamagedFile) × (tied → IsNoTree form old.map root)) → tied → IsNoTree form old.map root
  by_cause (inl memory) = absurd (cc)
  by_cause (inr (inl disk)) = absurd (cc)
  by_cause (inr (inr none)) = none.1

-- all that is not below a bound that is above all cells is above them too
all_below_upto : (low high : List ℕ) (cells : List (List ℕ)) → is_below low high ≡ false → AllBelow high cells → AllBelow low cells
all_below_upto low high [] order all = tt
all_below_upto low high (c ∷ cs) order all = (below_upto c high low all.0 order, all_below_upto low high cs order all.1)

-- up to a bound above all cells all were looked at
pub passed_all : (form : Form) (pages : PageMap) (looked : Looked) (high : List ℕ) → IsAbove form pages looked.told.root high → is_below looked.low high ≡ false → HasPassed form pages looked
    → HasPassedAll form pages looked
passed_all form pages looked high above order passed = record {
  each = λ cells used tree.
      subst (HasCounted looked) (below_all looked.low cells (all_below_upto looked.low high cells order (above.each cells used tree))) (passed.each cells used tree);
}

-- where some are still to come after all, no such cells stand there
pub left_otherwise : (form : Form) (pages : PageMap) (looked : Looked) → HasPassedAll form pages looked → ((looked.living_left ≡ 0) × (looked.garbage_left ≡ 0) → ⊥) → StandsOtherwise form pages looked.told
left_otherwise form pages looked passed some = record {
  none = λ dead cells used stands.
      let so = passed.each cells used stands.holds.tree in
      some (omega (arith, so.living, stands.holds.living), omega (arith, so.garbage, dead_told form pages looked.told dead cells used stands));
}

-- where none are, they stand there with the dead that were found, in any order
pub stands_told : (form : Form) (pages : PageMap) (looked : Looked) (dead : List (List ℕ)) → HasPassedAll form pages looked → looked.living_left ≡ 0 → looked.garbage_left ≡ 0 → IsPermutation looked.dead dead
    → (cells : List (List ℕ)) (used : ℕ → ℕ) → IsTree form pages looked.told.root cells used → StandsTold form pages looked.told dead cells used
stands_told form pages looked dead passed living garbage moved cells used tree =
    let so = passed.each cells used tree in
    let same : IsPermutation (filter is_dead cells) dead = subst (λ (xs : List (List ℕ)). IsPermutation xs dead) (sym so.dead) moved in
    record {
      holds = record { tree = tree; living = omega (arith, so.living, living); dead = same };
      garbage = length_permutation (filter is_dead cells) dead same ∙ length-filter is_dead cells ∙ (let e : count_by is_dead cells ≡ looked.told.garbage = omega (arith, so.garbage, garbage) in e);
      dated = so.dated;
    }

-- on the same pages the same was looked at, and the same stands there
module _ (form : Form) (old new : PageMap) (same : SamePages new old) where
  pub passed_same : (looked : Looked) → HasPassed form old looked → HasPassed form new looked
  passed_same looked passed = record { each = λ cells used tree. passed.each cells used (tree_same form new old (same_back new old same) looked.told.root cells used tree) }

  pub passed_all_back : (looked : Looked) → HasPassedAll form new looked → HasPassedAll form old looked
  passed_all_back looked passed = record { each = λ cells used tree. passed.each cells used (tree_same form old new same looked.told.root cells used tree) }

  pub otherwise_back : (told : Told) → StandsOtherwise form new told → StandsOtherwise form old told
  otherwise_back told other = record {
    none = λ dead cells used stands. other.none dead cells used (record {
      holds = record { tree = tree_same form old new same told.root cells used stands.holds.tree; living = stands.holds.living; dead = stands.holds.dead };
      garbage = stands.garbage;
      dated = stands.dated;
    });
  }

  pub above_same : (root : ℕ) (bound : List ℕ) → IsAbove form old root bound → IsAbove form new root bound
  above_same root bound above = record { each = λ cells used tree. above.each cells used (tree_same form new old (same_back new old same) root cells used tree) }

  -- the last part went up to a bound above all cells
  pub rest_passed : (was now : Looked) (high : List ℕ) → now.told ≡ was.told → now.low ≡ high → IsAbove form old was.told.root high → HasPassed form new now → HasPassedAll form old now
  rest_passed was now high told low above passed =
      let beyond : is_below now.low high ≡ false = ap (λ (b : List ℕ). is_below b high) low ∙ is_below-self high in
      let here = subst (λ (t : Told). IsAbove form new t.root high) (sym told) (above_same was.told.root high above) in
      passed_all_back now (passed_all form new now high here beyond passed)

-- what a comparison of bytes that were lent tells of those that they are
pub told_below : (low high one other : List ℕ) (answer is : Bool) → one ≡ low → other ≡ high → answer ≡ is_below one other → answer ≡ is → is_below low high ≡ is
told_below low high one other answer is first second told known = ap (λ (b : List ℕ). is_below b high) (sym first) ∙ ap (is_below one) (sym second) ∙ sym told ∙ known

-- what two clauses on an answer give
pub on_both : {T E A B C : Type 0} (r : Result T E) → OnOk r A → OnOk r B → (A → B → C) → OnOk r C
on_both (Ok x) one other f = f one other
on_both (Err e) one other f = tt

-- the cells that are left, from a bound on
abbrev pub cells_from : List ℕ → List (List ℕ) → List (List ℕ)
cells_from low = filter (λ cell. not (is_below cell low))

none_from : (low : List ℕ) (cells : List (List ℕ)) → AllBelow low cells → cells_from low cells ≡ []
none_from low [] all = refl
none_from low (c ∷ cs) all = rw all.0 (none_from low cs all.1)

pub none_left : (low high : List ℕ) (cells : List (List ℕ)) → is_below low high ≡ false → AllBelow high cells → cells_from low cells ≡ []
none_left low high cells order all = none_from low cells (all_below_upto low high cells order all)

pub all_left : (low high : List ℕ) (cells : List (List ℕ)) → AllBelow high cells → cells_within low high cells ≡ cells_from low cells
all_left low high [] all = refl
all_left low high (c ∷ cs) all = by_low (is_below c low) refl (all_left low high cs all.1) where
  by_low : (b : Bool) → is_below c low ≡ b → cells_within low high cs ≡ cells_from low cs → cells_within low high (c ∷ cs) ≡ cells_from low (c ∷ cs)
  by_low true is rest = rw is rest
  by_low false isnt rest = rw (isnt, all.0) (ap (λ xs. c ∷ xs) rest)

-- the same of a form and a root that are told otherwise
module _ (form_at : ℕ → ℕ → Form) (pages : PageMap) (summary one width other root top : ℕ) (first : summary ≡ one) (second : width ≡ other) (third : root ≡ top) where
  pub above_at : (bound : List ℕ) → IsAbove (form_at summary width) pages root bound → IsAbove (form_at one other) pages top bound
  above_at bound above =
      subst (λ (r : ℕ). IsAbove (form_at one other) pages r bound) third
      (subst (λ (w : ℕ). IsAbove (form_at one w) pages root bound) second (subst (λ (n : ℕ). IsAbove (form_at n width) pages root bound) first above))

  pub no_tree_at : IsNoTree (form_at summary width) pages root → IsNoTree (form_at one other) pages top
  no_tree_at none =
      subst (λ (r : ℕ). IsNoTree (form_at one other) pages r) third
      (subst (λ (w : ℕ). IsNoTree (form_at one w) pages root) second (subst (λ (n : ℕ). IsNoTree (form_at n width) pages root) first none))
