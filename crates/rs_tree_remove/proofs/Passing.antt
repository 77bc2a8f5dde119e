-- What is taken out after pages were read.
use Rattle.std.proofs.Common.{◌≡◌, ◌≤◌, ℕ, zero, suc, Some, List, [], ◌∷◌, sym, ◌∙◌, arith}
use Rattle.rs_pages.specs.PageMap.{PageMap, SamePages}
use Rattle.rs_pages.proofs.Stores.{SamePages-trans}
use Rattle.rs_page_owners.specs.Counts.{◌&◌, no_pages}
use Rattle.rs_page_owners.specs.Owners.{Shares}
use Rattle.rs_page_owners.proofs.Moving.{shares_same, moves_trans, same_pages-moves}
use Rattle.rs_records.specs.Order.{Ascends}
use Rattle.rs_tree.specs.Form.{Form}
use Rattle.rs_tree.specs.Shape.{Shape, cells_of, uses, size_of}
use Rattle.rs_tree.proofs.Shapes.{lies_same}
use Rattle.rs_tree.specs.Layouts.{form_with}
use Rattle.rs_tree.specs.Node.{IsNode}
use Rattle.rs_tree.specs.declared.layout.Layout.{Layout}
use Rattle.rs_tree.specs.declared.node.Node.TheVariants.{Inner}
use Rattle.rs_tree.specs.Reading.{HasNoNode}
use Rattle.rs_tree.specs.Walking.{IsPart}
use Rattle.rs_tree.proofs.Entering.{no_node-no_part, inner_no_leaf}
use Rattle.rs_tree_edit.specs.Parts.{TakesPlace, uses_all}
use Rattle.rs_tree_remove.specs.Leaving.{IsLeft, IsOut, IsRemoved, RemovesPart, HasNoOwnPart}
use Rattle.rs_tree_remove.specs.declared.answer.Removed.{Removed}
use Rattle.rs_tree_remove.specs.declared.answer.Removed.TheVariants.{Missing, Kept, Gone, Single}

pub shares_later : (old mid : PageMap) (used : ℕ → ℕ) → SamePages mid old → Shares old used → Shares mid used
shares_later old mid used same shares =
    shares_same mid (used & no_pages) used (λ n. omega arith) ((same_pages-moves old mid used same).beside no_pages (shares_same old used (used & no_pages) (λ n. omega arith) shares)).shares

module _ (form : Form) (old mid new : PageMap) (number : ℕ) (same : SamePages mid old) where
  part_later : (height : ℕ) (shape : Shape height) → IsPart form old number height shape → IsPart form mid number height shape
  part_later height shape part = record { lies = lies_same form old mid same height shape part.lies; top = part.top }

  place_before : (height : ℕ) (before : ℕ → ℕ) (tops : List ℕ) (cells : List (List ℕ)) → TakesPlace form mid new height before tops cells → TakesPlace form old new height before tops cells
  place_before height before tops cells place = record {
    parts = place.parts;
    lie = place.lie;
    top = place.top;
    lists = place.lists;
    moves = moves_trans old mid new before before (uses_all height place.parts) (same_pages-moves old mid before same) place.moves;
  }

  left_before : (height : ℕ) (before : ℕ → ℕ) (cells : List (List ℕ)) (answer : Removed) → IsLeft form mid new number height before cells answer → IsLeft form old new number height before cells answer
  left_before height before cells Missing left = left
  left_before height before cells Kept left = place_before height before (number ∷ []) cells left
  left_before height before cells Gone left = place_before height before [] cells left
  left_before zero before cells (Single top) left = left
  left_before (suc height) before cells (Single top) left = record {
    part = left.part;
    lies = left.lies;
    is = left.is;
    lists = left.lists;
    page = left.page;
    has = left.has;
    was = sym (same.pages number) ∙ left.was;
    there = left.there;
    moves = moves_trans old mid new before before _ (same_pages-moves old mid before same) left.moves;
  }

  pub removed_before : (height : ℕ) (before : ℕ → ℕ) (cell : List ℕ) (cells : List (List ℕ)) (answer : Removed) → IsRemoved form mid new number height before cell cells answer → IsRemoved form old new number height before cell cells answer
  removed_before height before cell cells Missing is = record { none = is.none; same = SamePages-trans new mid old is.same same }
  removed_before height before cell cells Kept is = record { some = is.some; left = left_before height before _ Kept is.left }
  removed_before height before cell cells Gone is = record { some = is.some; left = left_before height before _ Gone is.left }
  removed_before height before cell cells (Single top) is = record { some = is.some; left = left_before height before _ (Single top) is.left }

  -- from the pages before
  pub removes_before : (cell : List ℕ) (answer : Removed) → RemovesPart form mid new number cell answer → RemovesPart form old new number cell answer
  removes_before cell answer removes = record {
    each = λ height shape others part up shares.
        removed_before height (uses height shape) cell (cells_of height shape) answer
        (removes.each height shape others (part_later height shape part) up (shares_later old mid (uses height shape & others) same shares));
  }

  pub none_before : (levels : ℕ) → HasNoOwnPart form mid number levels → HasNoOwnPart form old number levels
  none_before levels none = record {
    none = λ height shape others part high up shares.
        none.none height shape others (part_later height shape part) high up (shares_later old mid (uses height shape & others) same shares);
  }

-- what is left is what is taken out of
pub out_removed : (form : Form) (old new : PageMap) (number height : ℕ) (before : ℕ → ℕ) (cell : List ℕ) (cells : List (List ℕ)) (answer : Removed) → IsOut form old new number height before cell cells answer → IsRemoved form old new number height before cell cells answer
out_removed form old new number height before cell cells Missing out = absurd out.left
out_removed form old new number height before cell cells Kept out = out
out_removed form old new number height before cell cells Gone out = out
out_removed form old new number height before cell cells (Single top) out = out

module _ (says : List ℕ → List (List ℕ) → Type 0) (layout : Layout) (pages : PageMap) (number levels : ℕ) where
  pub no_node-none : HasNoNode pages number layout → HasNoOwnPart (form_with says layout) pages number levels
  no_node-none none = record {
    none = λ height shape others part high up shares.
        (no_node-no_part says layout pages number height (size_of height shape) (λ some. none)).none height shape part (omega arith) (omega arith);
  }

  pub no_level-none : (page : List ℕ) (count : ℕ) → levels ≡ 0 → pages.page number ≡ Some page → IsNode page number layout (Inner count) → HasNoOwnPart (form_with says layout) pages number levels
  no_level-none page count ground lent node = record { none = at } where
    at : (height : ℕ) (shape : Shape height) (others : ℕ → ℕ) → IsPart (form_with says layout) pages number height shape → height ≤ levels → Ascends (cells_of height shape) → Shares pages (uses height shape & others) → ⊥
    at zero shape others part high up shares = inner_no_leaf says layout pages number page count shape part lent node
    at (suc height) shape others part high up shares = absurd (omega arith)
