-- An index beside the tree of its entries.
use Rattle.std.proofs.Common.{◌≡◌, ℕ, List, [], ◌++◌, drop, length, refl, sym, ap, ◌∙◌, subst, arith}
use Rattle.std.proofs.Math.Seq.{drop-append_seam}
use Rattle.std.proofs.lemmas.List.{length-append}
use Rattle.std.proofs.lemmas.List.Sorted.{IsPermutation-refl}
use Rattle.rs_attr.specs.Entries.{ChangesIndex, Field, HoldsIndex, HoldsNoIndex, entry_of, index_form, value_in}
use Rattle.rs_attr.specs.Tables.{IndexState}
use Rattle.rs_attr.proofs.Entering.{TellsApart, entered, left}
use Rattle.rs_page_owners.specs.Counts.{no_pages}
use Rattle.rs_page_owners.specs.Owners.{KeepsPages}
use Rattle.rs_page_owners.proofs.Moving.{moves_same}
use Rattle.rs_pages.specs.PageMap.{PageMap}
use Rattle.rs_tree.specs.Calls.{Changes, IsNotShared}
use Rattle.rs_tree.specs.Cells.{with_cell, without_cell}
use Rattle.rs_tree.proofs.Framed.{kept_tree_stays}
use Rattle.rs_tree.proofs.Ones.{tree_has_its_pages}
use Rattle.rs_value.specs.declared.column.ColumnType.{ColumnType}
use Rattle.rs_cell_versions.proofs.Sizes.{no_cells_no_pages}

-- what follows texts of one length is the same where the whole is
same_rest : (one other as' bs : List ℕ) → length one ≡ length other → one ++ as' ≡ other ++ bs → as' ≡ bs
same_rest one other as' bs long same =
    sym (drop-append_seam one as') ∙ ap (drop (length one)) same ∙ ap (λ (n : ℕ). drop n (other ++ bs)) long ∙ drop-append_seam other bs

-- entries tell their cells apart
pub entries_apart : (field : Field) → TellsApart (entry_of field) field.cell_width
entries_apart field = record {
  each = λ one other wide long same.
      same_rest (value_in field one) (value_in field other) one other
      (omega (arith, ap length same, length-append (value_in field one) one, length-append (value_in field other) other, wide, long)) same;
}

module _ (field : Field) (old new : PageMap) (root to : ℕ) where
  -- an entry has come as its cell has
  pub put_index : (cell : List ℕ) → length cell ≡ field.cell_width → Changes (index_form field) old new root to (with_cell (entry_of field cell))
      → ChangesIndex field old new root to (with_cell cell)
  put_index cell long changes = record {
    each = λ cells used others cells_are holds shares.
        let becomes = changes.each holds.entries used others holds.tree shares in
        record {
          after = becomes.after;
          holds = record {
            entries = with_cell (entry_of field cell) holds.entries;
            tree = becomes.tree;
            are = entered (entry_of field) field.cell_width (entries_apart field) cell long cells holds.entries cells_are.wide cells_are.ascend holds.tree.ascends holds.are;
          };
          moves = becomes.moves;
        };
  }

  -- or gone
  pub take_index : (cell : List ℕ) → length cell ≡ field.cell_width → Changes (index_form field) old new root to (without_cell (entry_of field cell))
      → ChangesIndex field old new root to (without_cell cell)
  take_index cell long changes = record {
    each = λ cells used others cells_are holds shares.
        let becomes = changes.each holds.entries used others holds.tree shares in
        record {
          after = becomes.after;
          holds = record {
            entries = without_cell (entry_of field cell) holds.entries;
            tree = becomes.tree;
            are = left (entry_of field) field.cell_width (entries_apart field) cell long cells holds.entries cells_are.wide cells_are.ascend holds.tree.ascends holds.are;
          };
          moves = becomes.moves;
        };
  }

  -- all are gone, and their pages
  pub clear_index : Changes (index_form field) old new root to (λ _. []) → ChangesIndex field old new root 0 (λ _. [])
  clear_index changes = record {
    each = λ cells used others cells_are holds shares.
        let becomes = changes.each holds.entries used others holds.tree shares in
        record {
          after = no_pages;
          holds = record {
            entries = [];
            tree = record {
              height = 0;
              stands = record { none = refl; no_cells = refl; no_pages = λ n. refl };
              ascends = tt;
              once = λ n. omega arith;
            };
            are = IsPermutation-refl [];
          };
          moves = moves_same old new used becomes.after used no_pages (λ n. refl) (no_cells_no_pages (index_form field) new to becomes.after becomes.tree) becomes.moves;
        };
  }

-- where no tree is an owner's, no index is
pub none_indexed : (field : Field) (pages : PageMap) (root : ℕ) → IsNotShared (index_form field) pages root → HoldsNoIndex field pages root
none_indexed field pages root none = record { none = λ cells used others holds shares. none.none holds.entries used others holds.tree shares }

-- an index stays where its pages do
pub kept_index : (field : Field) (old new : PageMap) (root : ℕ) (cells : List (List ℕ)) (used : ℕ → ℕ) → KeepsPages used old new → HoldsIndex field old root cells used
    → HoldsIndex field new root cells used
kept_index field old new root cells used keeps holds = record {
  entries = holds.entries;
  tree = kept_tree_stays (index_form field) old new root holds.entries used keeps holds.tree;
  are = holds.are;
}

-- its pages are the same however it is seen
pub index_pages : (field : Field) (pages : PageMap) (root : ℕ) (cells others : List (List ℕ)) (used uses : ℕ → ℕ) → HoldsIndex field pages root cells used
    → HoldsIndex field pages root others uses → (number : ℕ) → used number ≡ uses number
index_pages field pages root cells others used uses one other =
    tree_has_its_pages (index_form field) pages root one.entries other.entries used uses one.tree other.tree

-- what holds of a tree's width and root holds of the index that has the tree
pub in_index : (P : Field → ℕ → Type 0) (column : ColumnType) (start cell_width working committed : ℕ) (index : IndexState)
    → (let seen : IndexState = record { field = record { column = column; start = start; cell_width = cell_width }; working = working; committed = committed } in seen) ≡ index
    → P (record { column = column; start = start; cell_width = cell_width }) working → P index.field index.working
in_index P column start cell_width working committed index is here = subst (λ (i : IndexState). P i.field i.working) is here
