-- The pages of a tree that lead to cells that are wanted.
use Rattle.std.specs.Prelude.{ℕ, zero, suc, Bool, ◌+◌, List, [], ◌∷◌}
use Rattle.std.specs.List.{sum_by}
use Rattle.rs_pages.specs.PageMap.{PageMap}
use Rattle.rs_tree.specs.Form.{Form}
use Rattle.rs_tree.specs.Searches.{wanted}
use Rattle.rs_tree.specs.Shape.{Shape, cells_of}
use Rattle.rs_tree.specs.Tree.{Stands}

-- what is counted where there are cells
abbrev pub where_some : List (List ℕ) → ℕ → ℕ
where_some [] count = 0
where_some (cell ∷ cells) count = count

-- how many pages of a part lead to a wanted cell, and the page at its top whatever it leads to
abbrev pub leading : List ℕ → List ℕ → (List ℕ → Bool) → (height : ℕ) → Shape height → ℕ
leading low high passes zero shape = 1
leading low high passes (suc height) shape =
    1 + sum_by (λ part. where_some (wanted low high passes (cells_of height part)) (leading low high passes height part)) shape.parts

-- those of a part below an entry: none where the part has no wanted cell
abbrev pub leading_in : List ℕ → List ℕ → (List ℕ → Bool) → (height : ℕ) → Shape height → ℕ
leading_in low high passes height part = where_some (wanted low high passes (cells_of height part)) (leading low high passes height part)

-- those of a tree, its root among them
abbrev pub pages_leading : List ℕ → List ℕ → (List ℕ → Bool) → (form : Form) (pages : PageMap) (height root : ℕ) (cells : List (List ℕ)) (used : ℕ → ℕ)
    → Stands form pages height root cells used → ℕ
pages_leading low high passes form pages zero root cells used stands = 0
pages_leading low high passes form pages (suc height) root cells used stands = leading low high passes height stands.shape
