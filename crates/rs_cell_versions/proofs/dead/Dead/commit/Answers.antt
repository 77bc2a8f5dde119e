-- The cells have moved to the front.
use Rattle.std.proofs.Common.{◌-◌, ap, sym, ◌∙◌, subst}
use Rattle.rs_cell_versions.specs.DeadCells.{DeadCells, HoldsDead, part}
use Rattle.rs_cell_versions.proofs.Fronts.{holds-moved, part-moved}
use Rattle.rs_cell_versions.proofs.dead.Dead.commit.Goals as goal

pub invariant_of-self-2 : goal.invariant_of-self-2
invariant_of-self-2 c =
    let d = c.self.inside in
    subst (HoldsDead d.width 0 (d.end - d.first) 0 (d.end - d.first)) (sym c.move_to_front.ensures)
    (holds-moved d.width d.first d.end d.kept_first d.kept_end d.bytes.items c.self.invariant)

pub returns-clause-working : goal.returns-clause-working
returns-clause-working c =
    let d = c.self.inside in
    ap (part 0 (d.end - d.first) d.width) c.move_to_front.ensures ∙ part-moved d.first d.end d.width d.bytes.items c.self.invariant.begins c.self.invariant.fits
    ∙ ap (λ (v : DeadCells). v.working) c.self.view_is

pub returns-clause-committed : goal.returns-clause-committed
returns-clause-committed c =
    let d = c.self.inside in
    ap (part 0 (d.end - d.first) d.width) c.move_to_front.ensures ∙ part-moved d.first d.end d.width d.bytes.items c.self.invariant.begins c.self.invariant.fits
    ∙ ap (λ (v : DeadCells). v.working) c.self.view_is
