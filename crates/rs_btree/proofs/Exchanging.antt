-- One cell taken out of a tree, and another put in.
use Rattle.std.proofs.Common.{◌≡◌, ℕ, Bool, false, List, IsTrue, sym, ◌∙◌, subst}
use Rattle.std.proofs.lemmas.Bool.{false≢true}
use Rattle.rs_page_owners.proofs.Moving.{moves_trans}
use Rattle.rs_pages.specs.PageMap.{PageMap}
use Rattle.rs_tree.specs.Calls.{Becomes, Changes, IsNotShared}
use Rattle.rs_tree.specs.Cells.{with_cell, without_cell}
use Rattle.rs_tree.specs.Form.{Form}
use Rattle.rs_tree_remove.specs.Calls.{TellsOf}
use Rattle.rs_tree_remove.proofs.Whole.{without_absent}
use Rattle.rs_btree.specs.Replacing.{Replaces}

module _ (form : Form) (old mid : PageMap) (root below : ℕ) (one : List ℕ) (removed : Changes form old mid root below (without_cell one)) where
  -- where it is, the other is put in
  pub replaced : (new : PageMap) (to : ℕ) (other : List ℕ) (found : Bool) → IsTrue found → TellsOf form old root one found → Changes form mid new below to (with_cell other) → Replaces form old new root to one other
  replaced new to other found is tells put = record {
    there = λ cells used others tree shares has.
        let first = removed.each cells used others tree shares in
        let second = put.each (without_cell one cells) first.after others first.tree (first.moves.beside others shares).shares in
        record { after = second.after; tree = second.tree; moves = moves_trans old mid new used first.after second.after first.moves second.moves };
    missing = λ cells used others tree shares none. absurd (none ((tells.each cells used others tree shares).0 is));
  }

  -- where it isn't, the cells are the same
  pub rested : (other : List ℕ) (found : Bool) → found ≡ false → TellsOf form old root one found → Replaces form old mid root below one other
  rested other found isnt tells = record {
    there = λ cells used others tree shares has. absurd (false≢true (sym isnt ∙ (tells.each cells used others tree shares).1 has));
    missing = λ cells used others tree shares none.
        subst (Becomes form old mid below used) (without_absent one cells tree.ascends none) (removed.each cells used others tree shares);
  }

  -- a tree with pages of its own stands there after the removal, if one did before
  pub none_before : IsNotShared form mid below → IsNotShared form old root
  none_before none = record {
    none = λ cells used others tree shares.
        let first = removed.each cells used others tree shares in
        none.none (without_cell one cells) first.after others first.tree (first.moves.beside others shares).shares;
  }
