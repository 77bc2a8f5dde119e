-- Trees of indexes whose entries are counted, one after the other.
use Rattle.std.proofs.Common.{◌≡◌, ◌<◌, ◌≤◌, ◌+◌, ℕ, suc, true, false, Option, None, Some, List, [], ◌∷◌, ◌++◌, length, take, slice_get, refl, sym, ◌∙◌, subst, arith}
use Rattle.std.proofs.Math.Dec.{eqb}
use Rattle.std.proofs.lemmas.Bool.{eq-eqb, eqb-true, false≢true}
use Rattle.std.specs.List.{AllZip}
use Rattle.std.specs.Option.{SomeIff, option_eq}
use Rattle.rs_attr.specs.Entries.{index_form}
use Rattle.rs_attr.specs.Opening.{HasSoMany, IsCountedTree, ReachesIndexes, ReachesNoIndexes}
use Rattle.rs_attr.specs.Tables.{IndexState, all_of}
use Rattle.rs_attr.proofs.Placing.{all_of-append, all_of-cons}
use Rattle.rs_pages.specs.PageMap.{PageMap, SamePages}
use Rattle.rs_tree.proofs.Lists.{has_inside, inside_has, sum_upto, take_next, zip_at, zip_lengths}
use Rattle.rs_tree.proofs.Ones.{tree_has_its_pages}
use Rattle.rs_tree_whole.proofs.Entries.{same_back}
use Rattle.rs_tree_whole.proofs.Joins.{zip_push, zip_take}
use Rattle.rs_tree_whole.specs.Validating.{HasNoFreshTree, Validates}
use Rattle.rs_cell_versions.proofs.Staying.{tree_same}

-- a sum that may not fit is compared with a number
pub sum_is : (told : Option ℕ) (fits : Type 0) (sum found : ℕ) → SomeIff told fits sum → option_eq eqb told (Some found) ≡ true → found ≡ sum
sum_is None fits sum found so is = absurd (false≢true is)
sum_is (Some x) fits sum found so is = sym (eqb-true x found is) ∙ so.1

pub sum_isnt : (told : Option ℕ) (sum found : ℕ) → SomeIff told (sum < 18446744073709551616) sum → found < 18446744073709551616 → option_eq eqb told (Some found) ≡ false → found ≡ sum → ⊥
sum_isnt None sum found so small isnt same = so (omega (arith, small, same))
sum_isnt (Some x) sum found so small isnt same = false≢true (sym isnt ∙ eq-eqb x found (so.1 ∙ sym same))

-- on the same pages the same trees stand
pub counted_same : (old new : PageMap) (same : SamePages new old) (count : ℕ) (indexes : List IndexState) (uses : List (ℕ → ℕ)) → AllZip (IsCountedTree old count) indexes uses
    → AllZip (IsCountedTree new count) indexes uses
counted_same old new same count [] [] trees = tt
counted_same old new same count [] (u ∷ us) trees = absurd trees
counted_same old new same count (x ∷ xs) [] trees = absurd trees
counted_same old new same count (x ∷ xs) (u ∷ us) trees = (
  record { entries = trees.0.entries; tree = tree_same (index_form x.field) old new same x.working trees.0.entries u trees.0.tree; counted = trees.0.counted },
  counted_same old new same count xs us trees.1,
)

module _ (pages : PageMap) (count : ℕ) where
  -- trees have their pages
  pub counted_pages : (indexes : List IndexState) (some others : List (ℕ → ℕ)) → AllZip (IsCountedTree pages count) indexes some → AllZip (IsCountedTree pages count) indexes others
      → (n : ℕ) → all_of some n ≡ all_of others n
  counted_pages [] [] [] one other n = refl
  counted_pages [] [] (o ∷ os) one other n = absurd other
  counted_pages [] (u ∷ us) others one other n = absurd one
  counted_pages (x ∷ xs) [] others one other n = absurd one
  counted_pages (x ∷ xs) (u ∷ us) [] one other n = absurd other
  counted_pages (x ∷ xs) (u ∷ us) (o ∷ os) one other n =
      let first : u n ≡ o n = tree_has_its_pages (index_form x.field) pages x.working one.0.entries other.0.entries u o one.0.tree other.0.tree n in
      let rest : all_of us n ≡ all_of os n = counted_pages xs us os one.1 other.1 n in
      omega (arith, first, rest, all_of-cons u us n, all_of-cons o os n)

  -- no index yet
  pub reaches_none : (indexes : List IndexState) (before : ℕ → ℕ) → ReachesIndexes pages (take 0 indexes) count before before
  reaches_none indexes before = record { uses = []; trees = tt; reached = λ n. omega arith }

module _ (old mid : PageMap) (same : SamePages mid old) (indexes : List IndexState) (count k : ℕ) (index : IndexState) (there : slice_get indexes k ≡ Some index) where
  -- one index more
  pub reaches_next : (before between after : ℕ → ℕ) (found : ℕ) → ReachesIndexes old (take k indexes) count before between → Validates (index_form index.field) mid index.working between after
      → HasSoMany index.field mid index.working found → found ≡ count → ReachesIndexes old (take (suc k) indexes) count before after
  reaches_next before between after found reaches validates many is = record {
    uses = reaches.uses ++ validates.used ∷ [];
    trees = subst (λ (xs : List IndexState). AllZip (IsCountedTree old count) xs (reaches.uses ++ validates.used ∷ [])) (sym (take_next indexes k index there))
        (zip_push (IsCountedTree old count) (take k indexes) reaches.uses index validates.used reaches.trees (record {
          entries = validates.cells;
          tree = tree_same (index_form index.field) mid old (same_back mid old same) index.working validates.cells validates.used validates.tree;
          counted = sym (many.each validates.cells validates.used validates.tree) ∙ is;
        }));
    reached = λ n. omega (arith, validates.reached n, reaches.reached n, all_of-append reaches.uses (validates.used ∷ []) n, all_of-cons validates.used [] n);
  }

  -- the tree of the next index, where trees stand for all
  record Next (uses : List (ℕ → ℕ)) : Type 0 where
    used : ℕ → ℕ
    tree : IsCountedTree old count index used
    upto : (n : ℕ) → all_of (take k uses) n + used n ≤ all_of uses n

  next_of : (uses : List (ℕ → ℕ)) → AllZip (IsCountedTree old count) indexes uses → Next uses
  next_of uses trees =
      let within : k < length uses = omega (arith, has_inside indexes k index there, zip_lengths (IsCountedTree old count) indexes uses trees) in
      let one = inside_has uses k within in
      record {
        used = one.0;
        tree = zip_at (IsCountedTree old count) indexes uses k index one.0 trees there one.1;
        upto = λ n. sum_upto (λ (used : ℕ → ℕ). used n) uses k one.0 one.1;
      }

  -- where the next one has no tree of fresh pages, they have none
  pub reaches_missing : (before between : ℕ → ℕ) → ReachesIndexes old (take k indexes) count before between → HasNoFreshTree (index_form index.field) mid index.working between
      → ReachesNoIndexes old indexes count before
  reaches_missing before between reaches missing = record {
    none = λ uses trees fresh.
        let next = next_of uses trees in
        missing.none next.tree.entries next.used (tree_same (index_form index.field) old mid same index.working next.tree.entries next.used next.tree.tree)
        (λ n. omega (arith, fresh n, next.upto n, reaches.reached n, counted_pages old count (take k indexes) reaches.uses (take k uses) reaches.trees (zip_take (IsCountedTree old count) indexes uses k trees) n));
  }

  -- nor where it has more or fewer entries
  pub reaches_other : (before : ℕ → ℕ) (found : ℕ) → HasSoMany index.field mid index.working found → (found ≡ count → ⊥) → ReachesNoIndexes old indexes count before
  reaches_other before found many isnt = record {
    none = λ uses trees fresh.
        let next = next_of uses trees in
        isnt (many.each next.tree.entries next.used (tree_same (index_form index.field) old mid same index.working next.tree.entries next.used next.tree.tree) ∙ next.tree.counted);
  }
