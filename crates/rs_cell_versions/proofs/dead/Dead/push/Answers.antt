-- The cell comes after the last.
use Rattle.std.proofs.Common.{◌≡◌, ◌≤◌, ◌*◌, ◌+◌, ◌++◌, ◌∷◌, [], length, take, sym, ap, ◌∙◌, subst, rules}
use Rattle.std.proofs.lemmas.List.{append-nil}
use Rattle.std.specs.List.{AllByRecursion}
use Rattle.rs_cell_versions.specs.DeadCells.{DeadCells, HoldsDead, part}
use Rattle.rs_cell_versions.specs.Version.{died_of}
use Rattle.rs_cell_versions.proofs.Fronts.{holds-pushed, holds-written, part-pushed}
use Rattle.rs_cell_versions.proofs.dead.Dead.push.Goals as goal

pub invariant_of-self : goal.invariant_of-self
invariant_of-self c =
    let d = c.self.inside in
    let stays : c.extend_from_slice.new.self.items ≡ c.truncate.new.self.items = search rules in
    subst (HoldsDead d.width d.first d.end d.kept_first d.kept_end) (append-nil (take (d.end * d.width) d.bytes.items) ∙ sym (stays ∙ c.truncate.ensures.items))
    (holds-written d.width d.first d.end d.kept_first d.kept_end d.bytes.items [] c.self.invariant)

pub invariant_of-self-2 : goal.invariant_of-self-2
invariant_of-self-2 c =
    let d = c.self.inside in
    let wide : length c.args.cell.now ≡ d.width = c.requires.width ∙ sym (ap (λ (v : DeadCells). v.width) c.self.view_is) in
    subst (HoldsDead d.width d.first (d.end + 1) d.kept_first d.kept_end) (sym (c.in_ok-extend_from_slice.ensures.items ∙ ap (λ xs. xs ++ c.args.cell.now) c.truncate.ensures.items))
    (holds-pushed d.width d.first d.end d.kept_first d.kept_end d.bytes.items c.args.cell.now c.self.invariant wide
    (subst (λ (v : DeadCells). AllByRecursion (λ dead. died_of dead ≤ died_of c.args.cell.now) v.working) (sym c.self.view_is) c.requires.order))

pub returns-clause-working : goal.returns-clause-working
returns-clause-working c =
    let d = c.self.inside in
    let wide : length c.args.cell.now ≡ d.width = c.requires.width ∙ sym (ap (λ (v : DeadCells). v.width) c.self.view_is) in
    ap (part d.first (d.end + 1) d.width) (c.in_ok-extend_from_slice.ensures.items ∙ ap (λ xs. xs ++ c.args.cell.now) c.truncate.ensures.items)
    ∙ part-pushed d.width d.first d.end d.kept_first d.kept_end d.bytes.items c.args.cell.now c.self.invariant wide ∙ ap (λ (v : DeadCells). v.working ++ c.args.cell.now ∷ []) c.self.view_is
