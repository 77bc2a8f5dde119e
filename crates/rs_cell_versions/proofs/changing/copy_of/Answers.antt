-- The same width and the same root.
use Rattle.std.proofs.Common.{◌≡◌, ◌∙◌, ℕ, ap}
use Rattle.rs_btree.specs.Rooted.{Rooted}
use Rattle.rs_cell_versions.proofs.changing.copy_of.Goals as goal

same_tree : (one other : Rooted) → one.width ≡ other.width → one.root ≡ other.root → one ≡ other
same_tree one other width root = ap (λ (w : ℕ). record one { width = w }) width ∙ ap (λ (r : ℕ). record other { root = r }) root

pub returns : goal.returns
returns g c = same_tree c.at.result c.args.tree.now (c.at.ensures.width ∙ c.requires.width) (c.at.ensures.root ∙ c.root.ensures)
