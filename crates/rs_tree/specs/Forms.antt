-- The form of a tree, by the summaries that it keeps.
use Rattle.std.specs.Prelude.{ℕ}
use Rattle.rs_tree.specs.Form.{Form, form_of}
use Rattle.rs_tree.specs.declared.layout.Layout.{Layout}
use Rattle.rs_tree.specs.declared.summary.Summary.{Ghosts}

-- that of a tree of cells of this width
abbrev pub form : {S : Type 0} → Ghosts S → ℕ → Form
form summaries width = form_of summaries.says summaries.unit summaries.join summaries.of summaries.WIDTH width

-- that of a tree whose pages have this layout
abbrev pub form_in : {S : Type 0} → Ghosts S → Layout → Form
form_in summaries layout = form_of summaries.says summaries.unit summaries.join summaries.of layout.summary layout.width
