-- What the pages of a tree are made of, and how summaries of cells are joined.
use Rattle.std.specs.Prelude.{ℕ, ◌+◌, List, [], ◌∷◌}

-- the bytes of a cell, those of a summary, and which bytes are the summary of which cells
pub record Form : Type 1 where
  pub width : ℕ
  pub summary : ℕ
  pub says : List ℕ → List (List ℕ) → Type 0

-- where the summary begins in an entry of an inner page: after the number of the child
abbrev pub child_bytes : ℕ
child_bytes = 4

-- where the least cell begins in an entry
unfoldable pub least_from : ℕ → ℕ
least_from summary = child_bytes + summary

-- the bytes of an entry
abbrev pub entry_width : Form → ℕ
entry_width form = least_from form.summary + form.width

-- the summary of cells: those of each joined from the left to the right
abbrev pub joined : {S : Type 0} → S → (S → S → S) → (List ℕ → S) → List (List ℕ) → S
joined unit join of [] = unit
joined unit join of (cell ∷ cells) = join (of cell) (joined unit join of cells)

-- the form of a tree of cells of this width with these summaries
abbrev pub form_of : {S : Type 0} → (List ℕ → S → Type 0) → S → (S → S → S) → (List ℕ → S) → ℕ → ℕ → Form
form_of says unit join of summary width =
    record { width = width; summary = summary; says = λ bytes cells. says bytes (joined unit join of cells) }
