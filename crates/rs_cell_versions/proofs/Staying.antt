-- Cells stay where the pages do.
use Rattle.std.proofs.Common.{◌≡◌, ℕ, zero, suc, Bool, false, List, sym, ◌∙◌, subst, inl, inr}
use Rattle.std.proofs.lemmas.Bool.{false≢true}
use Rattle.rs_page_owners.proofs.Moving.{same_pages-moves}
use Rattle.rs_pages.specs.PageMap.{PageMap, SamePages}
use Rattle.rs_tree.specs.Cells.{with_cell}
use Rattle.rs_tree.specs.Form.{Form}
use Rattle.rs_tree.specs.Tree.{IsTree, Stands}
use Rattle.rs_tree.proofs.Shapes.{lies_same}
use Rattle.rs_cell_versions.specs.Versioned.{BecomesCells, ChangesCells, Standing}
use Rattle.rs_cell_versions.proofs.Among.{among, with_present}
use Rattle.rs_cell_versions.proofs.Steps.{TellsNew}

module _ (form : Form) (old new : PageMap) (same : SamePages new old) where
  stands_same : (height root : ℕ) (cells : List (List ℕ)) (used : ℕ → ℕ) → Stands form old height root cells used → Stands form new height root cells used
  stands_same zero root cells used stands = stands
  stands_same (suc height) root cells used stands = record {
    shape = stands.shape;
    lies = lies_same form old new same height stands.shape stands.lies;
    top = stands.top;
    lists = stands.lists;
    owns = stands.owns;
  }

  pub tree_same : (root : ℕ) (cells : List (List ℕ)) (used : ℕ → ℕ) → IsTree form old root cells used → IsTree form new root cells used
  tree_same root cells used tree = record {
    height = tree.height;
    stands = stands_same tree.height root cells used tree.stands;
    ascends = tree.ascends;
    once = tree.once;
  }

-- a cell that was there has come among the others, and nothing has changed
pub stays_held : (form : Form) (old new : PageMap) (was : Standing) (cell : List ℕ) (is_new : Bool) → is_new ≡ false → SamePages new old → TellsNew form old was.root cell is_new
    → ChangesCells form old new was was (with_cell cell)
stays_held form old new was cell is_new isnt same tells = record {
  each = λ cells used others holds shares.
      let there : with_cell cell cells ≡ cells = with_present cell cells holds.tree.ascends (elim (among cell cells) [
        | inl has ↦ has
        | inr none ↦ absurd (false≢true (sym isnt ∙ (tells cells used holds.tree).1 none))
      ]) in
      subst (BecomesCells form old new used was) (sym there) (record {
        after = used;
        holds = record { tree = tree_same form old new same was.root cells used holds.tree; living = holds.living; dead = holds.dead };
        moves = same_pages-moves old new used same;
      });
}
