-- Records that lie in a file already: what the parts of their cells tell of all of them.
use Rattle.std.proofs.Common.{◌≡◌, ◌+◌, ℕ, suc, Bool, true, false, cond, not, Some, List, [], ◌∷◌, ◌++◌, take, slice_get, filter, sym, ap, ◌∙◌, subst, arith}
use Rattle.std.specs.List.{AllByRecursion, AllZip}
use Rattle.rs_pages.specs.PageMap.{PageMap, SamePages}
use Rattle.rs_records.specs.Order.{is_below}
use Rattle.rs_tree.specs.Cells.{cells_below}
use Rattle.rs_tree.specs.Form.{Form}
use Rattle.rs_tree.specs.Tree.{IsTree}
use Rattle.rs_tree.proofs.Lists.{take_next}
use Rattle.rs_cell_versions.specs.Validating.{HasNoFreshTree, Validates}
use Rattle.rs_cell_versions.proofs.Joins.{all_push}
use Rattle.rs_cell_versions.specs.declared.told.ToldRecords.{ToldRecords}
use Rattle.rs_versioned.specs.Opening.{OpensNone, OpensRecords, StandsAs}
use Rattle.rs_versioned.specs.Records.{Kept}
use Rattle.rs_cell_versions.specs.Opening.{StandsOtherwise, StandsTold, Told, told_of}
use Rattle.rs_cell_versions.specs.Versioned.{Standing}
use Rattle.rs_cell_versions.proofs.Dated.{all_both}
use Rattle.rs_cell_versions.proofs.Looks.{FindsWithin, below_parted, cells_from, none_below_nothing}
use Rattle.rs_cell_versions.proofs.Staying.{tree_same}

-- what holds of those that pass a test, and of those that don't, holds of all
pub all_of_parts : (P : List ℕ → Type 0) (test : List ℕ → Bool) (cells : List (List ℕ)) → AllByRecursion P (filter test cells) → AllByRecursion P (filter (λ cell. not (test cell)) cells)
    → AllByRecursion P cells
all_of_parts P test [] some others = tt
all_of_parts P test (c ∷ cs) some others = by_test (test c) some others (all_of_parts P test cs) where
  by_test : (b : Bool) → AllByRecursion P (cond b (c ∷ filter test cs) (filter test cs)) → AllByRecursion P (cond (not b) (c ∷ filter (λ cell. not (test cell)) cs) (filter (λ cell. not (test cell)) cs))
      → (AllByRecursion P (filter test cs) → AllByRecursion P (filter (λ cell. not (test cell)) cs) → AllByRecursion P cs) → AllByRecursion P (c ∷ cs)
  by_test true some others rest = (some.0, rest some.1 others)
  by_test false some others rest = (others.0, rest some others.1)

-- cells that say records, whatever they are
module _ {R : Type 0} (says : List ℕ → R → Type 0) where
  abbrev pub SayEach : List (List ℕ) → Type 0
  SayEach cells = AllByRecursion (λ cell. (one : R) × says cell one) cells

  -- one cell more
  pub say_next : (cells : List (List ℕ)) (k : ℕ) (cell : List ℕ) → slice_get cells k ≡ Some cell → SayEach (take k cells) → (one : R) × says cell one → SayEach (take (k + 1) cells)
  say_next cells k cell there say one =
      let next : suc k ≡ k + 1 = omega arith in
      subst SayEach (sym (take_next cells k cell there) ∙ ap (λ n. take n cells) next) (all_push (λ c. (one : R) × says c one) (take k cells) cell say one)

  -- they say a list of records, and those of a list say each of them
  pub listed_records : (cells : List (List ℕ)) → SayEach cells → (records : List R) × AllZip says cells records
  listed_records [] say = ([], tt)
  listed_records (c ∷ cs) say =
      let rest = listed_records cs say.1 in
      (say.0.0 ∷ rest.0, (say.0.1, rest.1))

  pub each_of_listed : (cells : List (List ℕ)) (records : List R) → AllZip says cells records → SayEach cells
  each_of_listed [] [] all = tt
  each_of_listed [] (r ∷ rs) all = absurd all
  each_of_listed (c ∷ cs) [] all = absurd all
  each_of_listed (c ∷ cs) (r ∷ rs) all = ((r, all.0), each_of_listed cs rs all.1)

-- whatever tree stands there, each of its cells below the bound says a record
pub record SaysBelow {R : Type 0} (says : List ℕ → R → Type 0) (form : Form) (pages : PageMap) (root : ℕ) (low : List ℕ) : Type 0 where
  pub each : (cells : List (List ℕ)) (used : ℕ → ℕ) → IsTree form pages root cells used → SayEach says (cells_below low cells)

module _ {R : Type 0} (says : List ℕ → R → Type 0) (form : Form) (pages : PageMap) (root : ℕ) where
  -- before the first part
  pub says_none : (low : List ℕ) → low ≡ [] → SaysBelow says form pages root low
  says_none low is = record {
    each = λ cells used tree. subst (SayEach says) (sym (ap (λ b. cells_below b cells) is ∙ none_below_nothing cells)) tt;
  }

  -- one part more
  pub says_more : (low high : List ℕ) (found : List (List ℕ)) → is_below high low ≡ false → FindsWithin form pages root low high found → SayEach says found
      → SaysBelow says form pages root low → SaysBelow says form pages root high
  says_more low high found order finds say so = record {
    each = λ cells used tree.
        let parted : cells_below low cells ++ found ≡ cells_below high cells =
        ap (λ xs. cells_below low cells ++ xs) (finds cells used tree) ∙ sym (below_parted low high cells tree.ascends order) in
        subst (SayEach says) parted (all_both (λ cell. (one : R) × says cell one) (cells_below low cells) found (so.each cells used tree) say);
  }

-- where a tree stands, these are those of its cells that pass the test
abbrev pub FindsWhere : Form → PageMap → ℕ → (List ℕ → Bool) → List (List ℕ) → Type 0
FindsWhere form pages root test found = (cells : List (List ℕ)) (used : ℕ → ℕ) → IsTree form pages root cells used → found ≡ filter test cells

-- on the same pages they are the same, and the same stands there
pub finds_back : (form : Form) (old new : PageMap) → SamePages new old → (root : ℕ) (test : List ℕ → Bool) (found : List (List ℕ)) → FindsWhere form new root test found → FindsWhere form old root test found
finds_back form old new same root test found finds cells used tree = finds cells used (tree_same form old new same root cells used tree)

pub stands_back : (form : Form) (old new : PageMap) → SamePages new old → (told : Told) (dead : List (List ℕ)) → ((cells : List (List ℕ)) (used : ℕ → ℕ) → IsTree form new told.root cells used → StandsTold form new told dead cells used)
    → (cells : List (List ℕ)) (used : ℕ → ℕ) → IsTree form old told.root cells used → StandsTold form old told dead cells used
stands_back form old new same told dead stands cells used tree =
    let here = stands cells used (tree_same form old new same told.root cells used tree) in
    record { holds = record { tree = tree; living = here.holds.living; dead = here.holds.dead }; garbage = here.garbage; dated = here.dated }

module _ {R : Type 0} (kept : Kept R) (pages : PageMap) (told : ToldRecords) (IsSo : List R → Type 0) where
  -- where no tree stands in pages of its own, no records do
  pub none_fresh : (before : ℕ → ℕ) → HasNoFreshTree kept.form pages told.root before → OpensNone kept pages told IsSo before
  none_fresh before none = record {
    none = λ standing records used as_told holds so fresh.
        none.none holds.cells used (subst (λ (root : ℕ). IsTree kept.form pages root holds.cells used) as_told.root holds.holds.tree) fresh;
  }

  -- nor where its cells are not as they were told
  pub none_otherwise : (before : ℕ → ℕ) (width : ℕ) → StandsOtherwise kept.form pages (told_of width told) → OpensNone kept pages told IsSo before
  none_otherwise before width other = record {
    none = λ standing records used as_told holds so fresh.
        other.none standing.dead holds.cells used (record {
          holds = record {
            tree = subst (λ (root : ℕ). IsTree kept.form pages root holds.cells used) as_told.root holds.holds.tree;
            living = holds.holds.living ∙ as_told.living;
            dead = holds.holds.dead;
          };
          garbage = as_told.garbage;
          dated = holds.dated;
        });
  }

  -- nor where, whatever tree stands there, its cells say no such records
  pub none_so : (before : ℕ → ℕ) → ((cells : List (List ℕ)) (used : ℕ → ℕ) (records : List R) → IsTree kept.form pages told.root cells used → AllZip kept.says cells records → IsSo records → ⊥)
      → OpensNone kept pages told IsSo before
  none_so before none = record {
    none = λ standing records used as_told holds so fresh.
        none holds.cells used records (subst (λ (root : ℕ). IsTree kept.form pages root holds.cells used) as_told.root holds.holds.tree) holds.say so;
  }

  -- where the cells below a bound say records, and those that are left too, and such records are so, they lie there
  pub opens_records : (standing : Standing) (before after : ℕ → ℕ) (width : ℕ) (low : List ℕ) (left : List (List ℕ)) → Validates kept.form pages told.root before after → StandsAs told standing
      → ((cells : List (List ℕ)) (used : ℕ → ℕ) → IsTree kept.form pages told.root cells used → StandsTold kept.form pages (told_of width told) standing.dead cells used)
      → SaysBelow kept.says kept.form pages told.root low → FindsWhere kept.form pages told.root (λ cell. not (is_below cell low)) left → SayEach kept.says left
      → ((cells : List (List ℕ)) (used : ℕ → ℕ) (records : List R) → IsTree kept.form pages told.root cells used → AllZip kept.says cells records → IsSo records)
      → OpensRecords kept pages told IsSo standing before after
  opens_records standing before after width low left valid as_told stands says finds say so =
      let cells : List (List ℕ) = valid.cells in
      let here = stands cells valid.used valid.tree in
      let rest : SayEach kept.says (cells_from low cells) = subst (SayEach kept.says) (finds cells valid.used valid.tree) say in
      let all = all_of_parts (λ cell. (one : R) × kept.says cell one) (λ cell. is_below cell low) cells (says.each cells valid.used valid.tree) rest in
      let said = listed_records kept.says cells all in
      record {
        as_told = as_told;
        records = said.0;
        used = valid.used;
        holds = record {
          cells = cells;
          holds = record {
            tree = subst (λ (root : ℕ). IsTree kept.form pages root cells valid.used) (sym as_told.root) here.holds.tree;
            living = here.holds.living ∙ sym as_told.living;
            dead = here.holds.dead;
          };
          say = said.1;
          dated = here.dated;
        };
        so = so cells valid.used said.0 valid.tree said.1;
        reached = valid.reached;
      }
