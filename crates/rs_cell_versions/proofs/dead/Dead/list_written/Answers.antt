-- The cell that is written comes last.
use Rattle.std.proofs.Common.{◌≡◌, ◌≤◌, ◌*◌, ◌++◌, ◌∷◌, [], length, drop, sym, ap, ◌∙◌, subst}
use Rattle.std.specs.List.{AllByRecursion}
use Rattle.rs_cell_versions.specs.DeadCells.{DeadCells}
use Rattle.rs_cell_versions.specs.Version.{died_of}
use Rattle.rs_cell_versions.proofs.Fronts.{holds-more, part-more}
use Rattle.rs_cell_versions.proofs.dead.Dead.list_written.Goals as goal

pub invariant_of-self : goal.invariant_of-self
invariant_of-self c =
    let d = c.self.inside in
    let size : length (drop (d.end * d.width) d.bytes.items) ≡ d.width =
    ap (λ (v : DeadCells). length v.written) c.self.view_is ∙ c.requires.whole ∙ sym (ap (λ (v : DeadCells). v.width) c.self.view_is) in
    holds-more d.width d.first d.end d.kept_first d.kept_end d.bytes.items c.self.invariant size
    (subst (λ (v : DeadCells). AllByRecursion (λ dead. died_of dead ≤ died_of v.written) v.working) (sym c.self.view_is) c.requires.order)

pub returns-clause-working : goal.returns-clause-working
returns-clause-working c =
    let d = c.self.inside in
    let size : length (drop (d.end * d.width) d.bytes.items) ≡ d.width =
    ap (λ (v : DeadCells). length v.written) c.self.view_is ∙ c.requires.whole ∙ sym (ap (λ (v : DeadCells). v.width) c.self.view_is) in
    part-more d.first d.end d.width d.bytes.items c.self.invariant.begins size ∙ ap (λ (v : DeadCells). v.working ++ v.written ∷ []) c.self.view_is
