-- The layout of a tree's pages, and the form that it is part of.
use Rattle.std.specs.Prelude.{ℕ, ◌+◌, List}
use Rattle.rs_tree.specs.Form.{Form, least_from}
use Rattle.rs_tree.specs.declared.layout.Layout.{Layout}

-- the bytes of an entry of an inner page
abbrev pub entry_bytes : Layout → ℕ
entry_bytes layout = least_from layout.summary + layout.width

-- the form of a tree with this layout, where these bytes are the summary of those cells
abbrev pub form_with : (List ℕ → List (List ℕ) → Type 0) → Layout → Form
form_with says layout = record { width = layout.width; summary = layout.summary; says = says }
