-- The cells from the first on.
use Rattle.std.proofs.Common.{length, sym, ap, ◌∙◌}
use Rattle.rs_cell_versions.specs.DeadCells.{DeadCells}
use Rattle.rs_cell_versions.proofs.Fronts.{length-part}
use Rattle.rs_cell_versions.proofs.dead.Dead.len.Goals as goal

pub returns : goal.returns
returns c =
    let d = c.self.inside in
    sym (length-part d.first d.end d.width d.bytes.items) ∙ ap (λ (v : DeadCells). length v.working) c.self.view_is
