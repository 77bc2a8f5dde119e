-- A cell taken out of a whole tree.
use Rattle.std.proofs.Common.{◌≡◌, ◌<◌, ◌≤◌, ◌^◌, ℕ, zero, suc, true, false, Some, List, [], ◌∷◌, ◌++◌, IsTrue, take, drop, map, slice_get, refl, sym, ap, ◌∙◌, subst, inl, inr, arith}
use Rattle.std.proofs.Math.Nat.{pow-le-pow_right}
use Rattle.std.proofs.lemmas.Bool.{cases_lt}
use Rattle.std.proofs.lemmas.List.{append-nil}
use Rattle.std.proofs.lemmas.List.Sums.{sum_by-cons}
use Rattle.std.specs.List.{AllByRecursion, Contains, flat_map}
use Rattle.rs_pages.specs.PageMap.{PageMap}
use Rattle.rs_pages.specs.Store.{Store}
use Rattle.rs_pages.specs.Uses.{ReleasesPage}
use Rattle.rs_pages.proofs.Stores.{SamePages-refl, used_there}
use Rattle.rs_records.specs.Order.{is_below, Ascends}
use Rattle.rs_records.proofs.Orders.{is_below-trans, is_below-cases}
use Rattle.rs_page_owners.specs.Counts.{one_at, ◌&◌, no_pages}
use Rattle.rs_page_owners.specs.Owners.{Shares, Moves}
use Rattle.rs_page_owners.proofs.Moving.{shares_same, moves_same, moves_trans, moves_part, same_pages-moves, releases-moves}
use Rattle.rs_page_owners.proofs.Working.{NotReleased}
use Rattle.rs_tree.specs.Calls.{Becomes, Changes, IsNotShared}
use Rattle.rs_tree.specs.Cells.{without_cell, cells_above}
use Rattle.rs_tree.specs.Form.{Form}
use Rattle.rs_tree.specs.Shape.{Shape, Lies, page_of, cells_of, uses}
use Rattle.rs_tree.specs.Tree.{IsTree, Stands}
use Rattle.rs_tree.proofs.Below.{below_one_way}
use Rattle.rs_tree.proofs.Bounds.{size-le, size-ge}
use Rattle.rs_tree.proofs.Framed.{lies_kept}
use Rattle.rs_tree.proofs.Shapes.{lies_same}
use Rattle.rs_tree_edit.specs.Parts.{uses_all}
use Rattle.rs_tree_edit.proofs.Between.{AllAbove, below_none, above_all}
use Rattle.rs_tree_remove.specs.Leaving.{IsRemoved, RemovesPart, HasNoOwnPart}
use Rattle.rs_tree_remove.specs.declared.answer.Removed.{Removed}
use Rattle.rs_tree_remove.specs.declared.answer.Removed.TheVariants.{Missing, Kept, Gone, Single}
use Rattle.rs_tree_remove.proofs.Leaves.{without_at}
use Rattle.rs_tree_remove.proofs.Refusing.{part_lent, lent-released}
use Rattle.rs_tree_remove.proofs.Written.{one_of, none_of}

all_above_from : (cell first : List ℕ) (cs : List (List ℕ)) → is_below cell first ≡ true → AllByRecursion (λ other. IsTrue (is_below first other)) cs → AllAbove cell cs
all_above_from cell first [] h all = tt
all_above_from cell first (c ∷ cs) h all = (is_below-trans cell first c h all.0, all_above_from cell first cs h all.1)

-- without a cell that isn't there
pub without_absent : (cell : List ℕ) (cs : List (List ℕ)) → Ascends cs → (Contains cs cell → ⊥) → without_cell cell cs ≡ cs
without_absent cell [] up none = refl
without_absent cell (c ∷ cs) up none = elim (is_below-cases c cell) [
  | inl less ↦
      let isnt : is_below cell c ≡ false = below_one_way c cell less in
      rw (less, isnt) (ap (λ xs. c ∷ xs) (without_absent cell cs up.1 (λ has. none (suc has.0, omega (arith, has.1), has.2))))
  | inr (inl same) ↦ absurd (none (0, omega arith, same))
  | inr (inr more) ↦
      let all : AllAbove cell (c ∷ cs) = (more, all_above_from cell c cs more up.0) in
      ap (λ xs. xs ++ cells_above cell (c ∷ cs)) (below_none cell (c ∷ cs) all) ∙ above_all cell (c ∷ cs) all
]

all_without : (x : List ℕ) (xs : List (List ℕ)) (k : ℕ) → AllByRecursion (λ other. IsTrue (is_below x other)) xs → AllByRecursion (λ other. IsTrue (is_below x other)) (take k xs ++ drop (suc k) xs)
all_without x [] zero all = tt
all_without x [] (suc k) all = tt
all_without x (y ∷ ys) zero all = all.1
all_without x (y ∷ ys) (suc k) all = (all.0, all_without x ys k all.1)

ascends_without : (xs : List (List ℕ)) (k : ℕ) → Ascends xs → Ascends (take k xs ++ drop (suc k) xs)
ascends_without [] zero up = tt
ascends_without [] (suc k) up = tt
ascends_without (x ∷ xs) zero up = up.1
ascends_without (x ∷ xs) (suc k) up = (all_without x xs k up.0, ascends_without xs k up.1)

place_of : (xs : List (List ℕ)) (cell : List ℕ) → Contains xs cell → (k : ℕ) × (slice_get xs k ≡ Some cell)
place_of [] cell has = absurd (omega (arith, has.1))
place_of (x ∷ xs) cell (zero, inside, is) = (0, ap (λ (y : List ℕ). Some y) is)
place_of (x ∷ xs) cell (suc k, inside, is) = let rest = place_of xs cell (k, omega arith, is) in (suc rest.0, rest.1)

without_ascends : (cell : List ℕ) (cs : List (List ℕ)) → Ascends cs → Contains cs cell → Ascends (without_cell cell cs)
without_ascends cell cs up has =
    let at = place_of cs cell has in
    subst Ascends (sym (without_at cs cell at.0 up at.1)) (ascends_without cs at.0 up)

shared_once : (map : PageMap) (used others : ℕ → ℕ) → Shares map (used & others) → (n : ℕ) → used n ≤ 1
shared_once map used others shares n = elim (cases_lt n map.fields.pages) [
  | inl less ↦ omega (arith, shares.within n less)
  | inr more ↦ omega (arith, shares.beyond n more)
]

page_after : (tree : Form) (pages : PageMap) (height : ℕ) (shape : Shape height) → Lies tree pages height shape → 1 < page_of height shape
page_after tree pages zero shape lies = lies.after
page_after tree pages (suc height) shape lies = lies.0.after

-- the tree that a part is
tree_of : (form : Form) (old new : PageMap) (used others : ℕ → ℕ) (height root : ℕ) (part : Shape height) (cells : List (List ℕ)) → Lies form new height part → page_of height part ≡ root → cells_of height part ≡ cells → Ascends cells
    → Shares old (used & others) → Moves old new used (uses height part) → Becomes form old new root used cells
tree_of form old new used others height root part cells lies top lists up shares moves = record {
  after = uses height part;
  tree = record {
    height = suc height;
    stands = record { shape = part; lies = lies; top = top; lists = lists; owns = λ n. refl };
    ascends = up;
    once = shared_once new (uses height part) others (moves.beside others shares).shares;
  };
  moves = moves;
}

module _ (form : Form) (old : PageMap) (root : ℕ) (cell : List ℕ) where
  -- nothing is taken out of the empty tree
  pub empty_changes : root ≡ 0 → Changes form old old root root (without_cell cell)
  empty_changes is = record { each = λ cells used others tree shares. at cells used tree.height tree.stands } where
    at : (cells : List (List ℕ)) (used : ℕ → ℕ) (height : ℕ) → Stands form old height root cells used → Becomes form old old root used (without_cell cell cells)
    at cells used zero stands = record {
      after = used;
      tree = record {
        height = 0;
        stands = record { none = stands.none; no_cells = ap (without_cell cell) stands.no_cells; no_pages = stands.no_pages };
        ascends = subst (λ cs. Ascends (without_cell cell cs)) (sym stands.no_cells) tt;
        once = λ n. omega (arith, stands.no_pages n);
      };
      moves = same_pages-moves old old used (SamePages-refl old);
    }
    at cells used (suc height) stands = absurd (omega (arith, page_after form old height stands.shape stands.lies, stands.top, is))

  pub empty_found : root ≡ 0 → (cells : List (List ℕ)) (used : ℕ → ℕ) → IsTree form old root cells used → Contains cells cell → ⊥
  empty_found is cells used tree has = at tree.height tree.stands where
    at : (height : ℕ) → Stands form old height root cells used → ⊥
    at zero stands = let none = subst (λ cs. Contains cs cell) stands.no_cells has in omega (arith, none.1)
    at (suc height) stands = omega (arith, page_after form old height stands.shape stands.lies, stands.top, is)

  module _ (some : root ≡ 0 → ⊥) (new : PageMap) where
    pub missing_changes : RemovesPart form old new root cell Missing → Changes form old new root root (without_cell cell)
    missing_changes removes = record { each = λ cells used others tree shares. at cells used others tree.height tree.stands tree.ascends tree.once shares } where
      at : (cells : List (List ℕ)) (used others : ℕ → ℕ) (height : ℕ) → Stands form old height root cells used → Ascends cells → ((n : ℕ) → used n ≤ 1) → Shares old (used & others) → Becomes form old new root used (without_cell cell cells)
      at cells used others zero stands up once shares = absurd (some stands.none)
      at cells used others (suc height) stands up once shares =
          let is = removes.each height stands.shape others (record { lies = stands.lies; top = stands.top }) (subst Ascends (sym stands.lists) up) (shares_same old (used & others) (uses height stands.shape & others) (λ n. omega (arith, stands.owns n)) shares) in
          let all : cells_of height stands.shape ≡ without_cell cell cells = stands.lists ∙ sym (without_absent cell cells up (λ has. is.none (subst (λ cs. Contains cs cell) (sym stands.lists) has))) in
          tree_of form old new used others height root stands.shape (without_cell cell cells) (lies_same form old new is.same height stands.shape stands.lies) stands.top all
          (subst Ascends all (subst Ascends (sym stands.lists) up)) shares
          (moves_same old new used used used (uses height stands.shape) (λ n. refl) (λ n. sym (stands.owns n)) (same_pages-moves old new used is.same))

    pub kept_changes : RemovesPart form old new root cell Kept → Changes form old new root root (without_cell cell)
    kept_changes removes = record { each = λ cells used others tree shares. at cells used others tree.height tree.stands tree.ascends shares } where
      at : (cells : List (List ℕ)) (used others : ℕ → ℕ) (height : ℕ) → Stands form old height root cells used → Ascends cells → Shares old (used & others) → Becomes form old new root used (without_cell cell cells)
      at cells used others zero stands up shares = absurd (some stands.none)
      at cells used others (suc height) stands up shares =
          let here = subst Ascends (sym stands.lists) up in
          let is = removes.each height stands.shape others (record { lies = stands.lies; top = stands.top }) here (shares_same old (used & others) (uses height stands.shape & others) (λ n. omega (arith, stands.owns n)) shares) in
          let one = one_of (page_of height) is.left.parts root is.left.top in
          let without : without_cell cell (cells_of height stands.shape) ≡ without_cell cell cells = ap (without_cell cell) stands.lists in
          tree_of form old new used others height root one.0 (without_cell cell cells) (subst (AllByRecursion (Lies form new height)) one.1 is.left.lie).0 one.2
          (sym (append-nil (cells_of height one.0)) ∙ ap (flat_map (cells_of height)) (sym one.1) ∙ is.left.lists ∙ without)
          (subst Ascends without (without_ascends cell (cells_of height stands.shape) here is.some)) shares
          (moves_same old new (uses height stands.shape) (uses_all height is.left.parts) used (uses height one.0) (λ n. sym (stands.owns n))
          (λ n. omega (arith, ap (λ ps. uses_all height ps n) one.1, sum_by-cons (λ part. uses height part n) one.0 [])) is.left.moves)

    pub gone_changes : RemovesPart form old new root cell Gone → Changes form old new root 0 (without_cell cell)
    gone_changes removes = record { each = λ cells used others tree shares. at cells used others tree.height tree.stands tree.ascends shares } where
      at : (cells : List (List ℕ)) (used others : ℕ → ℕ) (height : ℕ) → Stands form old height root cells used → Ascends cells → Shares old (used & others) → Becomes form old new 0 used (without_cell cell cells)
      at cells used others zero stands up shares = absurd (some stands.none)
      at cells used others (suc height) stands up shares =
          let here = subst Ascends (sym stands.lists) up in
          let is = removes.each height stands.shape others (record { lies = stands.lies; top = stands.top }) here (shares_same old (used & others) (uses height stands.shape & others) (λ n. omega (arith, stands.owns n)) shares) in
          let none = none_of (page_of height) is.left.parts is.left.top in
          let without : without_cell cell (cells_of height stands.shape) ≡ without_cell cell cells = ap (without_cell cell) stands.lists in
          record {
            after = no_pages;
            tree = record {
              height = 0;
              stands = record { none = refl; no_cells = sym without ∙ sym is.left.lists ∙ ap (flat_map (cells_of height)) none; no_pages = λ n. refl };
              ascends = subst Ascends without (without_ascends cell (cells_of height stands.shape) here is.some);
              once = λ n. omega arith;
            };
            moves = moves_same old new (uses height stands.shape) (uses_all height is.left.parts) used no_pages (λ n. sym (stands.owns n)) (λ n. ap (λ ps. uses_all height ps n) none) is.left.moves;
          }

    pub found_of : (answer : Removed) → RemovesPart form old new root cell answer → (answer ≡ Missing → ⊥) → (cells : List (List ℕ)) (used others : ℕ → ℕ) → IsTree form old root cells used → Shares old (used & others) → Contains cells cell
    found_of answer removes isnt cells used others tree shares = at tree.height tree.stands where
      some_of : (height : ℕ) (shape : Shape height) → IsRemoved form old new root height (uses height shape) cell (cells_of height shape) answer → Contains (cells_of height shape) cell
      some_of height shape is = by_answer answer refl is where
        by_answer : (other : Removed) → answer ≡ other → IsRemoved form old new root height (uses height shape) cell (cells_of height shape) other → Contains (cells_of height shape) cell
        by_answer Missing e out = absurd (isnt e)
        by_answer Kept e out = out.some
        by_answer Gone e out = out.some
        by_answer (Single top) e out = out.some

      at : (height : ℕ) → Stands form old height root cells used → Contains cells cell
      at zero stands = absurd (some stands.none)
      at (suc height) stands =
          subst (λ cs. Contains cs cell) stands.lists (some_of height stands.shape
          (removes.each height stands.shape others (record { lies = stands.lies; top = stands.top }) (subst Ascends (sym stands.lists) tree.ascends) (shares_same old (used & others) (uses height stands.shape & others) (λ n. omega (arith, stands.owns n)) shares)))

    pub missing_of : RemovesPart form old new root cell Missing → (cells : List (List ℕ)) (used others : ℕ → ℕ) → IsTree form old root cells used → Shares old (used & others) → Contains cells cell → ⊥
    missing_of removes cells used others tree shares has = at tree.height tree.stands where
      at : (height : ℕ) → Stands form old height root cells used → ⊥
      at zero stands = some stands.none
      at (suc height) stands =
          (removes.each height stands.shape others (record { lies = stands.lies; top = stands.top }) (subst Ascends (sym stands.lists) tree.ascends) (shares_same old (used & others) (uses height stands.shape & others) (λ n. omega (arith, stands.owns n)) shares)).none
          (subst (λ cs. Contains cs cell) (sym stands.lists) has)

  -- the only part takes the root's place
  module _ (some : root ≡ 0 → ⊥) (tied : Type 0) (was : Store) (top : ℕ) (held : tied) (removes : RemovesPart form old was.map root cell (Single top)) where
    pub single_changes : (new : Store) → ReleasesPage tied root was new → Changes form old new.map root top (without_cell cell)
    single_changes new releases = record { each = λ cells used others tree shares. at cells used others tree.height tree.stands tree.ascends shares } where
      at : (cells : List (List ℕ)) (used others : ℕ → ℕ) (height : ℕ) → Stands form old height root cells used → Ascends cells → Shares old (used & others) → Becomes form old new.map top used (without_cell cell cells)
      at cells used others zero stands up shares = absurd (some stands.none)
      at cells used others (suc zero) stands up shares =
          absurd (removes.each 0 stands.shape others (record { lies = stands.lies; top = stands.top }) (subst Ascends (sym stands.lists) up) (shares_same old (used & others) (uses 0 stands.shape & others) (λ n. omega (arith, stands.owns n)) shares)).left
      at cells used others (suc (suc height)) stands up shares =
          let here = subst Ascends (sym stands.lists) up in
          let own = shares_same old (used & others) (uses (suc height) stands.shape & others) (λ n. omega (arith, stands.owns n)) shares in
          let is = removes.each (suc height) stands.shape others (record { lies = stands.lies; top = stands.top }) here own in
          let freed = releases-moves was.map new.map root releases.was releases.past releases.lends.below (used_there was.map root releases.was (releases.lends.bytes held) releases.lends.in_use) (releases.releases held) in
          let between = (is.left.moves.beside others own).shares in
          let moved = freed.beside (uses height is.left.part & others) (shares_same was.map ((one_at root & uses height is.left.part) & others) (one_at root & (uses height is.left.part & others)) (λ n. omega arith) between) in
          let without : without_cell cell (cells_of (suc height) stands.shape) ≡ without_cell cell cells = ap (without_cell cell) stands.lists in
          tree_of form old new.map used others height top is.left.part (without_cell cell cells)
          (lies_kept form was.map new.map moved.keeps.no_fewer (uses height is.left.part & others) moved.keeps.pages height is.left.part (λ n. omega arith) is.left.lies) is.left.is
          (is.left.lists ∙ without) (subst Ascends without (without_ascends cell (cells_of (suc height) stands.shape) here is.some)) shares
          (moves_same old new.map (uses (suc height) stands.shape) (no_pages & uses height is.left.part) used (uses height is.left.part) (λ n. sym (stands.owns n)) (λ n. omega arith)
          (moves_trans old was.map new.map (uses (suc height) stands.shape) (one_at root & uses height is.left.part) (no_pages & uses height is.left.part) is.left.moves (moves_part was.map new.map (one_at root) no_pages (uses height is.left.part) freed)))

    pub single_none : NotReleased tied root was → IsNotShared form old root
    single_none refused = record { none = λ cells used others tree shares. at cells used others tree.height tree.stands tree.ascends shares } where
      at : (cells : List (List ℕ)) (used others : ℕ → ℕ) (height : ℕ) → Stands form old height root cells used → Ascends cells → Shares old (used & others) → ⊥
      at cells used others zero stands up shares = some stands.none
      at cells used others (suc zero) stands up shares =
          (removes.each 0 stands.shape others (record { lies = stands.lies; top = stands.top }) (subst Ascends (sym stands.lists) up) (shares_same old (used & others) (uses 0 stands.shape & others) (λ n. omega (arith, stands.owns n)) shares)).left
      at cells used others (suc (suc height)) stands up shares =
          let own = shares_same old (used & others) (uses (suc height) stands.shape & others) (λ n. omega (arith, stands.owns n)) shares in
          let is = removes.each (suc height) stands.shape others (record { lies = stands.lies; top = stands.top }) (subst Ascends (sym stands.lists) up) own in
          let moved = is.left.moves.beside others own in
          let lent = part_lent form old root (suc height) stands.shape (record { lies = stands.lies; top = stands.top }) in
          lent-released tied was root _ held (record {
            page = lent.page;
            there = is.left.there ∙ sym is.left.was ∙ lent.there;
            used = lent.used;
            fits = lent.fits;
            past = lent.past;
            below = omega (arith, lent.below, moved.keeps.no_fewer);
          }) moved.shares refused

  -- where the root is the top of no part with pages of its own, no such tree stands there
  pub none_shared : (count : ℕ) → (root ≡ 0 → ⊥) → count ≡ old.fields.pages → count < 4294967296 → HasNoOwnPart form old root 31 → IsNotShared form old root
  none_shared count some counted small none = record { none = λ cells used others tree shares. at cells used others tree.height tree.stands tree.ascends tree.once shares } where
    at : (cells : List (List ℕ)) (used others : ℕ → ℕ) (height : ℕ) → Stands form old height root cells used → Ascends cells → ((n : ℕ) → used n ≤ 1) → Shares old (used & others) → ⊥
    at cells used others zero stands up once shares = some stands.none
    at cells used others (suc height) stands up once shares =
        let own : (n : ℕ) → uses height stands.shape n ≤ 1 = λ n. omega (arith, stands.owns n, once n) in
        let size = size-le form old height stands.shape stands.lies own in
        let least = size-ge form old height stands.shape stands.lies in
        elim (cases_lt height 32) [
          | inl less ↦ none.none height stands.shape others (record { lies = stands.lies; top = stands.top }) (omega arith) (subst Ascends (sym stands.lists) up)
              (shares_same old (used & others) (uses height stands.shape & others) (λ n. omega (arith, stands.owns n)) shares)
          | inr more ↦
              let power : 4294967296 ≤ 2 ^ height = pow-le-pow_right (omega arith) more in
              absurd (omega (arith, power, least, size, counted, small))
        ]
