-- Fewer cells from the front.
use Rattle.std.proofs.Common.{◌≡◌, ◌-◌, length, drop, sym, ap, ◌∙◌, arith}
use Rattle.rs_cell_versions.specs.DeadCells.{DeadCells}
use Rattle.rs_cell_versions.proofs.Fronts.{holds-later, length-part, part-later}
use Rattle.rs_cell_versions.proofs.dead.Dead.take_front.Goals as goal

pub overflow_add-self : goal.overflow_add-self
overflow_add-self c =
    let d = c.self.inside in
    let size : length c.args.self.now.working ≡ d.end - d.first = sym (ap (λ (v : DeadCells). length v.working) c.self.view_is) ∙ length-part d.first d.end d.width d.bytes.items in
    omega (arith, size, c.requires, c.self.invariant.begins)

pub invariant_of-self : goal.invariant_of-self
invariant_of-self c =
    let d = c.self.inside in
    let size : length c.args.self.now.working ≡ d.end - d.first = sym (ap (λ (v : DeadCells). length v.working) c.self.view_is) ∙ length-part d.first d.end d.width d.bytes.items in
    holds-later d.width d.first c.args.count d.end d.kept_first d.kept_end d.bytes.items c.self.invariant (omega (arith, size, c.requires, c.self.invariant.begins))

pub returns-clause-working : goal.returns-clause-working
returns-clause-working c =
    let d = c.self.inside in
    part-later d.first c.args.count d.end d.width d.bytes.items ∙ ap (λ (v : DeadCells). drop c.args.count v.working) c.self.view_is
