-- A cell put into a whole tree.
use Rattle.std.proofs.Common.{◌≡◌, ◌⊎◌, ◌↔◌, ◌<◌, ◌≤◌, ◌^◌, ℕ, zero, suc, true, false, List, [], ◌∷◌, IsTrue, map, refl, sym, ap, ◌∙◌, subst, inl, inr, arith}
use Rattle.std.proofs.Math.Nat.{pow-le-pow_right}
use Rattle.std.proofs.lemmas.Bool.{false≢true, cases_lt}
use Rattle.std.proofs.lemmas.List.{append-nil}
use Rattle.std.specs.List.{AllByRecursion, Contains, flat_map}
use Rattle.rs_page.specs.declared.header.PageKind.TheVariants as kind
use Rattle.rs_pages.specs.PageMap.{PageMap}
use Rattle.rs_records.specs.Order.{Ascends}
use Rattle.rs_page_owners.specs.Counts.{one_at, no_pages, ◌&◌}
use Rattle.rs_page_owners.specs.Owners.{Shares, Moves}
use Rattle.rs_page_owners.proofs.Moving.{shares_same, moves_trans, moves_same, moves_part, same_pages-moves}
use Rattle.rs_tree.specs.Calls.{Changes, Becomes, IsNotShared}
use Rattle.rs_tree.specs.Cells.{with_cell}
use Rattle.rs_tree.specs.Form.{Form}
use Rattle.rs_tree.specs.Shape.{Shape, Lies, page_of, cells_of, uses, child_of}
use Rattle.rs_tree.specs.Tree.{IsTree, Stands}
use Rattle.rs_tree.proofs.Bounds.{size-le, size-ge}
use Rattle.rs_tree.proofs.Lists.{zip_lengths}
use Rattle.rs_tree.specs.Walking.{IsPart}
use Rattle.rs_tree_edit.specs.Editing.{AddsPage, HasNoFreeList, Lists}
use Rattle.rs_tree_edit.specs.Parts.{TakesPlace, SaysPart, uses_all}
use Rattle.rs_tree_edit.proofs.Replacing.{parts_kept, parts_same}
use Rattle.rs_tree_insert.specs.Inserting.{tops, PutsBelow, TellsBelow, HasNoShared, HasNoTops, AddsAbove}
use Rattle.rs_tree_insert.specs.Writing.{is_found}
use Rattle.rs_tree_insert.specs.declared.answer.Put.{Put}
use Rattle.rs_tree_insert.specs.declared.answer.Put.TheVariants.{Split}
use Rattle.rs_tree_insert.proofs.Ascending.{ascends_with}
use Rattle.rs_tree_insert.proofs.Halving.{inner_lies}
use Rattle.rs_tree_insert.proofs.Under.{says_parts}

page_after : (form : Form) (pages : PageMap) (height : ℕ) (shape : Shape height) → Lies form pages height shape → 1 < page_of height shape
page_after form pages zero shape lies = lies.after
page_after form pages (suc height) shape lies = lies.0.after

-- no page is an owner's twice
shared_once : (pages : PageMap) (used others : ℕ → ℕ) → Shares pages (used & others) → (n : ℕ) → used n ≤ 1
shared_once pages used others shares n = elim (cases_lt n pages.fields.pages) [
  | inl less ↦ omega (arith, shares.within n less)
  | inr more ↦ omega (arith, shares.beyond n more)
]

-- a shape that lies there is a tree that has taken the place of another
pub becomes : (form : Form) (old new : PageMap) (root height : ℕ) (shape : Shape height) (cells : List (List ℕ)) (before others : ℕ → ℕ) → Lies form new height shape → page_of height shape ≡ root → cells_of height shape ≡ cells
    → Ascends cells → Moves old new before (uses height shape) → Shares old (before & others) → Becomes form old new root before cells
becomes form old new root height shape cells before others lies top lists up moves shares = record {
  after = uses height shape;
  tree = record {
    height = suc height;
    stands = record { shape = shape; lies = lies; top = top; lists = lists; owns = λ n. refl };
    ascends = up;
    once = shared_once new (uses height shape) others ((moves.beside others shares).shares);
  };
  moves = moves;
}

-- where no tree stands, a leaf with the cell
pub planted : (form : Form) (old new : PageMap) (root number : ℕ) (cell : List ℕ) (rs : List (List ℕ)) → root ≡ 0 → rs ≡ cell ∷ [] → AddsPage old new number kind.Leaf form.width rs
    → Changes form old new root number (with_cell cell)
planted form old new root number cell rs none one adds = record { each = λ cells used others tree shares. at cells used others tree.height tree.stands shares } where
  at : (cells : List (List ℕ)) (used others : ℕ → ℕ) (height : ℕ) → Stands form old height root cells used → Shares old (used & others) → Becomes form old new number used (with_cell cell cells)
  at cells used others zero stands shares =
      let lists : Lists adds.page kind.Leaf number form.width (cell ∷ []) = subst (Lists adds.page kind.Leaf number form.width) one adds.lists in
      let moves = moves_same old new no_pages (one_at number) used (one_at number) (λ n. stands.no_pages n) (λ n. refl) adds.moves in
      becomes form old new number 0 (record { page = number; cells = cell ∷ [] }) (with_cell cell cells) used others
      (record { after = adds.after; below = adds.below; page = adds.page; there = adds.there; leaf = record { has = lists.has; some = omega arith; holds = lists.holds } })
      refl (ap (with_cell cell) (sym stands.no_cells)) (subst (λ cs. Ascends (with_cell cell cs)) (sym stands.no_cells) (tt, tt)) moves shares
  at cells used others (suc height) stands shares = absurd (omega (arith, page_after form old height stands.shape stands.lies, stands.top, none))

pub none_planted : (form : Form) (pages : PageMap) (root : ℕ) → HasNoFreeList pages → IsNotShared form pages root
none_planted form pages root none = record { none = λ cells used others tree shares. none.none shares.free shares.list }

-- in the empty tree no cell is
pub empty_new : (form : Form) (pages : PageMap) (root : ℕ) (cell : List ℕ) → root ≡ 0 → (cells : List (List ℕ)) (used : ℕ → ℕ) → IsTree form pages root cells used → (IsTrue true ↔ (Contains cells cell → ⊥))
empty_new form pages root cell none cells used tree = (λ yes has. at tree.height tree.stands has, λ no. refl) where
  at : (height : ℕ) → Stands form pages height root cells used → Contains cells cell → ⊥
  at zero stands has = let gone : Contains {X = List ℕ} [] cell = subst (λ (cs : List (List ℕ)). Contains cs cell) stands.no_cells has in omega (arith, gone.1)
  at (suc height) stands has = omega (arith, page_after form pages height stands.shape stands.lies, stands.top, none)

-- the shape of a tree as a part
record Top (form : Form) (pages : PageMap) (root : ℕ) (cells : List (List ℕ)) (used : ℕ → ℕ) : Type 0 where
  height : ℕ
  shape : Shape height
  part : IsPart form pages root height shape
  lists : cells_of height shape ≡ cells
  owns : (n : ℕ) → uses height shape n ≡ used n
  up : Ascends (cells_of height shape)

top_of : (form : Form) (pages : PageMap) (root : ℕ) (cells : List (List ℕ)) (used : ℕ → ℕ) → (root ≡ 0 → ⊥) → IsTree form pages root cells used → Top form pages root cells used
top_of form pages root cells used some tree = at tree.height tree.stands where
  at : (height : ℕ) → Stands form pages height root cells used → Top form pages root cells used
  at zero stands = absurd (some stands.none)
  at (suc height) stands = record {
    height = height;
    shape = stands.shape;
    part = record { lies = stands.lies; top = stands.top };
    lists = stands.lists;
    owns = stands.owns;
    up = subst Ascends (sym stands.lists) tree.ascends;
  }

module _ (form : Form) (old mid : PageMap) (root : ℕ) (cell : List ℕ) (some : root ≡ 0 → ⊥) where
  top_shares : (cells : List (List ℕ)) (used others : ℕ → ℕ) (t : Top form old root cells used) → Shares old (used & others) → Shares old (uses t.height t.shape & others)
  top_shares cells used others t shares = shares_same old (used & others) (uses t.height t.shape & others) (λ n. omega (arith, t.owns n)) shares

  pub tells_found : (answer : Put) → is_found answer ≡ true → TellsBelow form old root cell answer → (cells : List (List ℕ)) (used : ℕ → ℕ) → IsTree form old root cells used → (IsTrue false ↔ (Contains cells cell → ⊥))
  tells_found answer is tells cells used tree =
      let t = top_of form old root cells used some tree in
      (λ told. absurd (false≢true told), λ none. absurd (none (subst (λ (cs : List (List ℕ)). Contains cs cell) t.lists (tells.found is t.height t.shape t.part t.up))))

  pub tells_new : (answer : Put) → is_found answer ≡ false → TellsBelow form old root cell answer → (cells : List (List ℕ)) (used : ℕ → ℕ) → IsTree form old root cells used → (IsTrue true ↔ (Contains cells cell → ⊥))
  tells_new answer isnt tells cells used tree =
      let t = top_of form old root cells used some tree in
      (λ told has. tells.new isnt t.height t.shape t.part t.up (subst (λ (cs : List (List ℕ)). Contains cs cell) (sym t.lists) has), λ none. refl)

  -- where the top stays one page
  pub changed : (answer : Put) → tops root answer ≡ root ∷ [] → PutsBelow form old mid root cell answer → Changes form old mid root root (with_cell cell)
  changed answer one puts = record { each = each_tree } where
    each_tree : (cells : List (List ℕ)) (used others : ℕ → ℕ) → IsTree form old root cells used → Shares old (used & others) → Becomes form old mid root used (with_cell cell cells)
    each_tree cells used others tree shares = by_parts place.parts place.lie (place.top ∙ one) place.lists place.moves where
      t : Top form old root cells used
      t = top_of form old root cells used some tree

      place : TakesPlace form old mid t.height (uses t.height t.shape) (tops root answer) (with_cell cell (cells_of t.height t.shape))
      place = puts.each t.height t.shape others t.part t.up (top_shares cells used others t shares)

      by_parts : (parts : List (Shape t.height)) → AllByRecursion (Lies form mid t.height) parts → map (page_of t.height) parts ≡ root ∷ [] → flat_map (cells_of t.height) parts ≡ with_cell cell (cells_of t.height t.shape)
          → Moves old mid (uses t.height t.shape) (uses_all t.height parts) → Becomes form old mid root used (with_cell cell cells)
      by_parts [] lie top lists moves = absurd (cc)
      by_parts (x ∷ []) lie top lists moves =
          let first : page_of t.height x ≡ root = cc in
          becomes form old mid root t.height x (with_cell cell cells) used others lie.0 first (sym (append-nil (cells_of t.height x)) ∙ lists ∙ ap (with_cell cell) t.lists)
          (ascends_with cell cells tree.ascends)
          (moves_same old mid (uses t.height t.shape) (uses_all t.height (x ∷ [])) used (uses t.height x) (λ n. sym (t.owns n)) (λ n. omega arith) moves) shares
      by_parts (x ∷ y ∷ ys) lie top lists moves = absurd (cc)

  -- where a page is put above the two
  pub grown : (new : PageMap) (other above : ℕ) → PutsBelow form old mid root cell (Split other) → AddsAbove form mid new above (tops root (Split other)) → Changes form old new root above (with_cell cell)
  grown new other above puts adds = record { each = each_tree } where
    each_tree : (cells : List (List ℕ)) (used others : ℕ → ℕ) → IsTree form old root cells used → Shares old (used & others) → Becomes form old new above used (with_cell cell cells)
    each_tree cells used others tree shares =
        let t = top_of form old root cells used some tree in
        let place = puts.each t.height t.shape others t.part t.up (top_shares cells used others t shares) in
        let parts : List (Shape t.height) = place.parts in
        let shared = (place.moves.beside others (top_shares cells used others t shares)).shares in
        let before = ((same_pages-moves mid adds.mid (uses_all t.height parts) adds.same).beside others shared).shares in
        let moved = adds.adds.moves.beside (uses_all t.height parts & others) (shares_same adds.mid (uses_all t.height parts & others) (no_pages & (uses_all t.height parts & others)) (λ n. omega arith) before) in
        let lie = parts_kept form adds.mid new (uses_all t.height parts & others) moved.keeps t.height parts (λ n. omega arith) (parts_same form mid adds.mid adds.same t.height parts place.lie) in
        let zip = says_parts form mid t.height (tops root (Split other)) adds.entries parts adds.says.each place.top place.lie in
        let two = zip_lengths (λ number entry. SaysPart form mid number entry) (tops root (Split other)) adds.entries adds.says.each in
        let top = inner_lies form new above adds.adds.page adds.entries (map (child_of t.height) parts) adds.adds.after adds.adds.below adds.adds.there adds.adds.lists zip (omega (arith, two)) in
        becomes form old new above (suc t.height) (record { page = above; parts = parts }) (with_cell cell cells) used others (top, lie) refl (place.lists ∙ ap (with_cell cell) t.lists) (ascends_with cell cells tree.ascends)
        (moves_trans old mid new used (uses_all t.height parts) (one_at above & uses_all t.height parts)
        (moves_same old mid (uses t.height t.shape) (uses_all t.height parts) used (uses_all t.height parts) (λ n. sym (t.owns n)) (λ n. refl) place.moves)
        (moves_trans mid adds.mid new (uses_all t.height parts) (uses_all t.height parts) (one_at above & uses_all t.height parts) (same_pages-moves mid adds.mid (uses_all t.height parts) adds.same)
        (moves_same adds.mid new (no_pages & uses_all t.height parts) (one_at above & uses_all t.height parts) (uses_all t.height parts) (one_at above & uses_all t.height parts) (λ n. omega arith) (λ n. refl)
        (moves_part adds.mid new no_pages (one_at above) (uses_all t.height parts) adds.adds.moves)))) shares

  -- where no page can be put above, no such tree stands there
  pub none_grown : (other : ℕ) → PutsBelow form old mid root cell (Split other) → HasNoTops form mid (tops root (Split other)) ⊎ HasNoFreeList mid → IsNotShared form old root
  none_grown other puts broken = record { none = each_tree broken } where
    each_tree : HasNoTops form mid (tops root (Split other)) ⊎ HasNoFreeList mid → (cells : List (List ℕ)) (used others : ℕ → ℕ) → IsTree form old root cells used → Shares old (used & others) → ⊥
    each_tree (inl none) cells used others tree shares =
        let t = top_of form old root cells used some tree in
        let place = puts.each t.height t.shape others t.part t.up (top_shares cells used others t shares) in
        none.none t.height place.parts place.top place.lie
    each_tree (inr none) cells used others tree shares =
        let t = top_of form old root cells used some tree in
        let place = puts.each t.height t.shape others t.part t.up (top_shares cells used others t shares) in
        let shared = (place.moves.beside others (top_shares cells used others t shares)).shares in
        none.none shared.free shared.list

  -- where no part of so few levels is, no tree
  pub none_shared : (count : ℕ) → count ≡ old.fields.pages → count < 4294967296 → HasNoShared form old root 31 → IsNotShared form old root
  none_shared count counted small none = record { none = each_tree } where
    each_tree : (cells : List (List ℕ)) (used others : ℕ → ℕ) → IsTree form old root cells used → Shares old (used & others) → ⊥
    each_tree cells used others tree shares =
        let t = top_of form old root cells used some tree in
        let shared = top_shares cells used others t shares in
        let size = size-le form old t.height t.shape t.part.lies (shared_once old (uses t.height t.shape) others shared) in
        let least = size-ge form old t.height t.shape t.part.lies in
        elim (cases_lt t.height 32) [
          | inl less ↦ none.none t.height t.shape others t.part t.up (omega arith) shared
          | inr more ↦
              let power : 4294967296 ≤ 2 ^ t.height = pow-le-pow_right (omega arith) more in
              absurd (omega (arith, power, least, size, counted, small))
        ]
