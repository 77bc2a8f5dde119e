-- A cell put into a leaf, and what was read first.
use Rattle.std.proofs.Common.{◌≡◌, ◌<◌, ◌≤◌, ◌+◌, ℕ, zero, suc, false, Some, List, [], ◌∷◌, ◌++◌, length, take, drop, slice_get, map, refl, sym, ap, ◌∙◌, subst, inl, inr, arith}
use Rattle.std.proofs.lemmas.Bool.{false≢true}
use Rattle.std.proofs.lemmas.List.{length-append}
use Rattle.rs_page.specs.Header.{IsHeader}
use Rattle.rs_page.specs.declared.header.PageHeader.{PageHeader}
use Rattle.rs_page.specs.declared.header.PageKind.TheVariants as kind
use Rattle.rs_page.proofs.Headers.{header_is_one}
use Rattle.rs_pages.specs.PageMap.{PageMap, SamePages}
use Rattle.rs_pages.proofs.FreeLists.{page_one}
use Rattle.rs_records.specs.Order.{Ascends}
use Rattle.rs_records.specs.Records.{records, keys, IsPlace}
use Rattle.rs_page_owners.specs.Counts.{one_at, ◌&◌}
use Rattle.rs_page_owners.specs.Owners.{Shares}
use Rattle.rs_page_owners.proofs.Moving.{same_pages-moves, moves_trans}
use Rattle.rs_tree.specs.Cells.{with_cell}
use Rattle.rs_tree.specs.Form.{Form}
use Rattle.rs_tree.specs.Content.{content, tree_header}
use Rattle.rs_tree.specs.Shape.{Shape, cells_of, uses, child_of}
use Rattle.rs_tree.proofs.Shapes.{lies_same}
use Rattle.rs_tree.specs.Layouts.{form_with}
use Rattle.rs_tree.specs.Node.{IsNode}
use Rattle.rs_tree.specs.declared.layout.Layout.{Layout}
use Rattle.rs_tree.specs.declared.node.Node.TheVariants.{Leaf}
use Rattle.rs_tree.specs.Walking.{IsPart}
use Rattle.rs_tree.proofs.Entering.{leaf_cells}
use Rattle.rs_tree.proofs.Loading.{no_fit-no_node}
use Rattle.rs_tree_edit.specs.Editing.{Splices}
use Rattle.rs_tree_edit.specs.Parts.{TakesPlace}
use Rattle.rs_tree_edit.proofs.Between.{LiesBetween}
use Rattle.rs_tree_edit.proofs.Replacing.{leaf_written}
use Rattle.rs_tree_insert.specs.Inserting.{tops, PutsBelow, TellsBelow, HasNoShared}
use Rattle.rs_tree_insert.specs.Writing.{IsBroken, PutsRecords, SplitsPage, is_found, spliced}
use Rattle.rs_tree_insert.specs.declared.answer.Put.{Put}
use Rattle.rs_tree_insert.specs.declared.answer.Put.TheVariants.{Found, Placed, Kept, Split}
use Rattle.rs_tree_insert.proofs.Cells.{whole_keys, splits_between, with_new, new_absent, at_contains}
use Rattle.rs_tree_insert.proofs.Halving.{leaf_split}

leaf_not_inner : kind.Leaf ≡ kind.Inner → ⊥
leaf_not_inner e = cc

module _ (says : List ℕ → List (List ℕ) → Type 0) (layout : Layout) (pages : PageMap) (number count at : ℕ) (page cell : List ℕ)
    (node : IsNode page number layout (Leaf count)) (there : pages.page number ≡ Some page) where
  abbrev form : Form
  form = form_with says layout

  abbrev rs : List (List ℕ)
  rs = records count layout.width (content page)

  same_cells : (height : ℕ) (shape : Shape height) → IsPart form pages number height shape → cells_of height shape ≡ rs
  same_cells height shape part = leaf_cells says layout pages number page count height shape part there node

  not_inner : (height : ℕ) (shape : Shape (suc height)) → IsPart form pages number (suc height) shape → ⊥
  not_inner height shape part =
      let same : part.lies.0.page ≡ page = page_one pages number part.lies.0.page page (subst (λ n. pages.page n ≡ Some part.lies.0.page) part.top part.lies.0.there) there in
      let inner : PageHeader = tree_header kind.Inner (length (map (child_of height) shape.parts)) shape.page in
      let header = header_is_one page (tree_header kind.Leaf count number) inner node.0.header (subst (λ p. IsHeader p inner) same part.lies.0.inner.has.header) in
      leaf_not_inner (ap (λ (h : PageHeader). h.kind) header)

  -- it was there
  pub here_found : slice_get (keys 0 rs) at ≡ Some cell → TellsBelow form pages number cell Found
  here_found has = record {
    found = λ told height shape part up.
        at_contains (cells_of height shape) cell at (ap (λ (cs : List (List ℕ)). slice_get cs at) (same_cells height shape part ∙ sym (whole_keys rs)) ∙ has);
    new = λ told. absurd (false≢true (sym told));
  }

  module _ (place : IsPlace (keys 0 rs) cell at) (none : slice_get (keys 0 rs) at ≡ Some cell → ⊥) where
    between : (height : ℕ) (shape : Shape height) → IsPart form pages number height shape → Ascends (cells_of height shape)
        → LiesBetween cell (take at (cells_of height shape)) (drop at (cells_of height shape))
    between height shape part up =
        let keyed : keys 0 rs ≡ cells_of height shape = whole_keys rs ∙ sym (same_cells height shape part) in
        splits_between (cells_of height shape) cell at up (subst (λ (cs : List (List ℕ)). IsPlace cs cell at) keyed place)
        (λ has. none (ap (λ (cs : List (List ℕ)). slice_get cs at) keyed ∙ has))

    -- it was not
    pub here_new : (answer : Put) → is_found answer ≡ false → TellsBelow form pages number cell answer
    here_new answer isnt = record {
      found = λ told. absurd (false≢true (sym isnt ∙ told));
      new = λ told height shape part up has. new_absent (cells_of height shape) cell at (between height shape part up) has;
    }

    -- and is now
    pub here_puts : (new : PageMap) (answer : Put) (added : List (List ℕ)) → added ≡ cell ∷ [] → PutsRecords pages new number page kind.Leaf layout.width count at 0 added answer
        → PutsBelow form pages new number cell answer
    here_puts new answer added one puts = record { each = at_shape; kept = λ is. absurd (puts.written is) } where
      leaf_count : (shape : Shape 0) → IsPart form pages number 0 shape → count ≡ length shape.cells
      leaf_count shape part =
          let same : part.lies.page ≡ page = page_one pages number part.lies.page page (subst (λ n. pages.page n ≡ Some part.lies.page) part.top part.lies.there) there in
          let leaf : PageHeader = tree_header kind.Leaf (length shape.cells) shape.page in
          ap (λ (h : PageHeader). h.count) (header_is_one page (tree_header kind.Leaf count number) leaf node.0.header (subst (λ p. IsHeader p leaf) same part.lies.leaf.has.header))

      by_answer : (shape : Shape 0) → IsPart form pages number 0 shape → LiesBetween cell (take at shape.cells) (drop at shape.cells) → (a : Put) → a ≡ answer
          → TakesPlace form pages new 0 (uses 0 shape) (tops number a) (with_cell cell shape.cells)
      by_answer shape part lies Found e = absurd (false≢true (sym puts.placed ∙ ap is_found (sym e)))
      by_answer shape part lies Placed e =
          let splices : Splices pages new number kind.Leaf layout.width count at 0 added = puts.one (sym e) in
          let counted : count ≡ length shape.cells = leaf_count shape part in
          let moved = subst (λ (cs : List (List ℕ)). Splices pages new shape.page kind.Leaf layout.width (length shape.cells) at 0 cs) one
          (subst (λ n. Splices pages new shape.page kind.Leaf layout.width n at 0 added) counted
          (subst (λ n. Splices pages new n kind.Leaf layout.width count at 0 added) (sym part.top) splices)) in
          let some : 1 ≤ length (take at shape.cells ++ ((cell ∷ []) ++ drop (at + 0) shape.cells)) =
          omega (arith, length-append (take at shape.cells) ((cell ∷ []) ++ drop (at + 0) shape.cells)) in
          subst (λ n. TakesPlace form pages new 0 (uses 0 shape) (n ∷ []) (with_cell cell shape.cells)) part.top
          (subst (TakesPlace form pages new 0 (uses 0 shape) (shape.page ∷ [])) (with_new shape.cells cell at lies) (leaf_written form pages new shape at 0 (cell ∷ []) part.lies moved some))
      by_answer shape part lies Kept e = absurd (puts.written (sym e))
      by_answer shape part lies (Split other) e =
          let splits = puts.two other (sym e) in
          let whole : spliced rs at 0 added ≡ with_cell cell shape.cells =
          ap (spliced rs at 0) one ∙ ap (λ (cs : List (List ℕ)). spliced cs at 0 (cell ∷ [])) (sym (same_cells 0 shape part)) ∙ with_new shape.cells cell at lies in
          let after : 1 < number = subst (λ n. 1 < n) part.top part.lies.after in
          subst (λ n. TakesPlace form pages new 0 (one_at n) (number ∷ other ∷ []) (with_cell cell shape.cells)) (sym part.top)
          (leaf_split form pages new number other (with_cell cell shape.cells) after (subst (SplitsPage pages new number other kind.Leaf layout.width) whole splits))

      at_shape : (height : ℕ) (shape : Shape height) (others : ℕ → ℕ) → IsPart form pages number height shape → Ascends (cells_of height shape) → Shares pages (uses height shape & others)
          → TakesPlace form pages new height (uses height shape) (tops number answer) (with_cell cell (cells_of height shape))
      at_shape zero shape others part up shares = by_answer shape part (between 0 shape part up) answer refl
      at_shape (suc height) shape others part up shares = absurd (not_inner height shape part)

  -- where the leaf can't be written, no such part has it at its top
  pub none_here : (levels : ℕ) → IsBroken pages number → HasNoShared form pages number levels
  none_here levels broken = record { none = at_shape broken } where
    at_shape : IsBroken pages number → (height : ℕ) (shape : Shape height) (others : ℕ → ℕ) → IsPart form pages number height shape → Ascends (cells_of height shape) → height ≤ levels → Shares pages (uses height shape & others) → ⊥
    at_shape (inl none) zero shape others part up low shares =
        (no_fit-no_node pages number layout none).none page (Leaf count) there (subst (λ n. 1 < n) part.top part.lies.after) node
    at_shape (inr none) zero shape others part up low shares = none.none shares.free shares.list
    at_shape broken (suc height) shape others part up low shares = not_inner height shape part

-- what is so once a page was read, was so before
module _ (form : Form) (old mid : PageMap) (same : SamePages mid old) (number : ℕ) where
  pub part_later : (height : ℕ) (shape : Shape height) → IsPart form old number height shape → IsPart form mid number height shape
  part_later height shape part = record { lies = lies_same form old mid same height shape part.lies; top = part.top }

  pub shares_later : (used others : ℕ → ℕ) → Shares old (used & others) → Shares mid (used & others)
  shares_later used others shares = ((same_pages-moves old mid used same).beside others shares).shares

  pub puts_before : (new : PageMap) (cell : List ℕ) (answer : Put) → PutsBelow form mid new number cell answer → PutsBelow form old new number cell answer
  puts_before new cell answer puts = record {
    each = λ height shape others part up shares.
        let place = puts.each height shape others (part_later height shape part) up (shares_later (uses height shape) others shares) in
        record {
          parts = place.parts;
          lie = place.lie;
          top = place.top;
          lists = place.lists;
          moves = moves_trans old mid new (uses height shape) (uses height shape) _ (same_pages-moves old mid (uses height shape) same) place.moves;
        };
    kept = λ is height shape others part up shares. puts.kept is height shape others (part_later height shape part) up (shares_later (uses height shape) others shares);
  }

  pub tells_before : (cell : List ℕ) (answer : Put) → TellsBelow form mid number cell answer → TellsBelow form old number cell answer
  tells_before cell answer tells = record {
    found = λ told height shape part up. tells.found told height shape (part_later height shape part) up;
    new = λ told height shape part up. tells.new told height shape (part_later height shape part) up;
  }

  pub none_before : (levels : ℕ) → HasNoShared form mid number levels → HasNoShared form old number levels
  none_before levels none = record {
    none = λ height shape others part up low shares. none.none height shape others (part_later height shape part) up low (shares_later (uses height shape) others shares);
  }
