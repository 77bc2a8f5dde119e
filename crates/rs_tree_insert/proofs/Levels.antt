-- What is told of a part on its way down.
use Rattle.std.proofs.Common.{◌≡◌, ◌≤◌, ℕ, zero, suc, false, Some, List, Result, Ok, Err, IfOk, slice_get, refl, subst, inr, arith}
use Rattle.rs_refusal.specs.declared.refusal.Refusal.TheVariants as refusal
use Rattle.rs_pages.specs.PageMap.{PageMap}
use Rattle.rs_pages.specs.Store.{Store}
use Rattle.rs_pages.proofs.Stores.{KeepsCounts-refl, damaged_file-counts}
use Rattle.rs_records.specs.Order.{Ascends}
use Rattle.rs_records.specs.Records.{records, keys}
use Rattle.rs_page_owners.specs.Changes.{WorksAfter}
use Rattle.rs_page_owners.specs.Counts.{◌&◌}
use Rattle.rs_page_owners.specs.Owners.{Shares}
use Rattle.rs_tree.specs.Form.{least_from}
use Rattle.rs_tree.specs.Content.{content}
use Rattle.rs_tree.specs.Shape.{Shape, cells_of, uses, size_of}
use Rattle.rs_tree.specs.Layouts.{form_with, entry_bytes}
use Rattle.rs_tree.specs.Node.{IsNode}
use Rattle.rs_tree.specs.declared.layout.Layout.{Layout}
use Rattle.rs_tree.specs.declared.node.Node.TheVariants.{Inner}
use Rattle.rs_tree.specs.Reading.{HasNoNode}
use Rattle.rs_tree.specs.Walking.{IsPart}
use Rattle.rs_tree.proofs.Entering.{no_node-no_part, inner_no_leaf, entry_there}
use Rattle.rs_tree_edit.specs.Choosing.{IsEntryFor}
use Rattle.rs_tree_insert.specs.Inserting.{HasNoShared}
use Rattle.rs_tree_insert.specs.Writing.{is_found}
use Rattle.rs_tree_insert.specs.declared.answer.Put.{Put}
use Rattle.rs_tree_insert.specs.declared.answer.Put.TheVariants.{Found, Placed, Kept, Split}

-- a refusal for damage alone
pub works_damaged : {T : Type 0} (damaged : Type 0) (s : Store) → damaged → WorksAfter {T = T} damaged (Err refusal.DamagedFile) s s
works_damaged damaged s wrong = record {
  works = record { counts = KeepsCounts-refl s; no_fewer = omega arith; catalogue = refl; catalogue_length = refl };
  ends = record { cause = inr (inr (inr (refl, wrong))); count = damaged_file-counts refusal.DamagedFile s refl };
}

pub no_node-no_shared : (says : List ℕ → List (List ℕ) → Type 0) (layout : Layout) (pages : PageMap) (number levels : ℕ) → HasNoNode pages number layout → HasNoShared (form_with says layout) pages number levels
no_node-no_shared says layout pages number levels none = record {
  none = λ height shape others part up low shares.
      (no_node-no_part says layout pages number height (size_of height shape) (λ some. none)).none height shape part (omega arith) (omega arith);
}

pub no_level-no_shared : (says : List ℕ → List (List ℕ) → Type 0) (layout : Layout) (pages : PageMap) (number levels count : ℕ) (page : List ℕ) → IsNode page number layout (Inner count) → pages.page number ≡ Some page → levels ≡ 0
    → HasNoShared (form_with says layout) pages number levels
no_level-no_shared says layout pages number levels count page node there is = record { none = at } where
  at : (height : ℕ) (shape : Shape height) (others : ℕ → ℕ) → IsPart (form_with says layout) pages number height shape → Ascends (cells_of height shape) → height ≤ levels → Shares pages (uses height shape & others) → ⊥
  at zero shape others part up low shares = inner_no_leaf says layout pages number page count shape part there node
  at (suc height) shape others part up low shares = absurd (omega arith)

-- the entry that was chosen, by the bytes of the page
pub record Chosen (layout : Layout) (count at : ℕ) (page entry cell : List ℕ) : Type 0 where
  pub chosen : Ascends (keys (least_from layout.summary) (records count (entry_bytes layout) (content page))) → IsEntryFor (keys (least_from layout.summary) (records count (entry_bytes layout) (content page))) cell at
  pub found : slice_get (records count (entry_bytes layout) (content page)) at ≡ Some entry

pub entry_chosen : (layout : Layout) (count at w : ℕ) (bytes page entry cell : List ℕ) → bytes ≡ content page → w ≡ entry_bytes layout
    → (Ascends (keys (least_from layout.summary) (records count (entry_bytes layout) bytes)) → IsEntryFor (keys (least_from layout.summary) (records count (entry_bytes layout) bytes)) cell at)
    → slice_get (records count w bytes) at ≡ Some entry → Chosen layout count at page entry cell
entry_chosen layout count at w bytes page entry cell same wide chosen found = record {
  chosen = subst (λ (b : List ℕ). Ascends (keys (least_from layout.summary) (records count (entry_bytes layout) b)) → IsEntryFor (keys (least_from layout.summary) (records count (entry_bytes layout) b)) cell at) same chosen;
  found = entry_there count w (entry_bytes layout) bytes (content page) at entry wide same found;
}

pub not_found : (answer : Put) → (answer ≡ Found → ⊥) → is_found answer ≡ false
not_found Found none = absurd (none refl)
not_found Placed none = refl
not_found Kept none = refl
not_found (Split other) none = refl

-- what is told of an answer under a premise
pub if_ok_after : {A T E : Type 0} {P Q : T → Type 0} (r : Result T E) → (A → IfOk r P) → ((x : T) → (A → P x) → Q x) → IfOk r Q
if_ok_after (Ok x) p f = f x p
if_ok_after (Err e) p f = tt
