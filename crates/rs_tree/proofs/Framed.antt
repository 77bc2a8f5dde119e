-- A tree stays where its pages do.
use Rattle.std.proofs.Common.{◌≡◌, ◌<◌, ◌≤◌, ℕ, zero, suc, List, [], ◌∷◌, ◌∙◌, arith}
use Rattle.std.proofs.lemmas.List.Sums.{sum_by-cons}
use Rattle.std.specs.List.{AllByRecursion, sum_by}
use Rattle.rs_pages.specs.PageMap.{PageMap}
use Rattle.rs_page_owners.specs.Owners.{KeepsPages}
use Rattle.rs_page_owners.proofs.Moving.{one_at-same}
use Rattle.rs_tree.specs.Form.{Form}
use Rattle.rs_tree.specs.Shape.{Shape, Lies, uses}
use Rattle.rs_tree.specs.Tree.{IsTree, Stands}

module _ (form : Form) (old new : PageMap) (count : old.fields.pages ≤ new.fields.pages) where
  parts_kept : (height : ℕ) (used : ℕ → ℕ) (parts : List (Shape height)) → ((n : ℕ) → sum_by (λ part. uses height part n) parts ≤ used n)
      → ((part : Shape height) → ((n : ℕ) → uses height part n ≤ used n) → Lies form old height part → Lies form new height part)
      → AllByRecursion (Lies form old height) parts → AllByRecursion (Lies form new height) parts
  parts_kept height used [] within ih all = tt
  parts_kept height used (x ∷ xs) within ih all = (
    ih x (λ n. omega (arith, within n, sum_by-cons (λ part. uses height part n) x xs)) all.0,
    parts_kept height used xs (λ n. omega (arith, within n, sum_by-cons (λ part. uses height part n) x xs)) ih all.1,
  )

  -- where the pages that a shape uses are kept, it lies there still
  pub lies_kept : (used : ℕ → ℕ) → ((n : ℕ) → 0 < used n → new.page n ≡ old.page n) → (height : ℕ) (shape : Shape height) → ((n : ℕ) → uses height shape n ≤ used n) → Lies form old height shape → Lies form new height shape
  lies_kept used kept zero shape within lies =
      let own : 0 < used shape.page = omega (arith, within shape.page, one_at-same shape.page) in
      record { after = lies.after; below = omega (arith, lies.below); page = lies.page; there = kept shape.page own ∙ lies.there; leaf = lies.leaf }
  lies_kept used kept (suc height) shape within lies =
      let own : 0 < used shape.page = omega (arith, within shape.page, one_at-same shape.page) in (
        record { after = lies.0.after; below = omega (arith, lies.0.below); page = lies.0.page; there = kept shape.page own ∙ lies.0.there; inner = lies.0.inner },
        parts_kept height used shape.parts (λ n. omega (arith, within n)) (λ part inside. lies_kept used kept height part inside) lies.1,
      )

pub kept_tree_stays : (form : Form) (old new : PageMap) (root : ℕ) (cells : List (List ℕ)) (used : ℕ → ℕ) → KeepsPages used old new → IsTree form old root cells used → IsTree form new root cells used
kept_tree_stays form old new root cells used keeps tree =
    record { height = tree.height; stands = at tree.height tree.stands; ascends = tree.ascends; once = tree.once } where
      at : (height : ℕ) → Stands form old height root cells used → Stands form new height root cells used
      at zero stands = stands
      at (suc height) stands = record {
        shape = stands.shape;
        lies = lies_kept form old new keeps.no_fewer used keeps.pages height stands.shape (λ n. omega (arith, stands.owns n)) stands.lies;
        top = stands.top;
        lists = stands.lists;
        owns = stands.owns;
      }
