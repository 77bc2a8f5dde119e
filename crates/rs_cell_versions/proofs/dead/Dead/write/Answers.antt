-- What is written comes after the last cell.
use Rattle.std.proofs.Common.{◌*◌, ◌++◌, ap, sym, ◌∙◌, subst, arith}
use Rattle.rs_records.proofs.RecordLists.{times_upto}
use Rattle.rs_cell_versions.specs.DeadCells.{DeadCells, HoldsDead, part}
use Rattle.rs_cell_versions.specs.Version.{ended}
use Rattle.rs_cell_versions.proofs.Fronts.{holds-written, part-front, written_more}
use Rattle.rs_cell_versions.proofs.dead.Dead.write.Goals as goal

pub invariant_of-self : goal.invariant_of-self
invariant_of-self c =
    let d = c.self.inside in
    let more = written_more c.append_ended.result c.truncate.new.self.items c.append_ended.new.bytes.items (ended c.args.version c.args.cell.now) c.append_ended.ensures.appended c.append_ended.ensures.stays in
    subst (HoldsDead d.width d.first d.end d.kept_first d.kept_end) (sym (more.1 ∙ ap (λ xs. xs ++ more.0) c.truncate.ensures.items))
    (holds-written d.width d.first d.end d.kept_first d.kept_end d.bytes.items more.0 c.self.invariant)

pub returns-clause-working : goal.returns-clause-working
returns-clause-working c =
    let d = c.self.inside in
    let more = written_more c.append_ended.result c.truncate.new.self.items c.append_ended.new.bytes.items (ended c.args.version c.args.cell.now) c.append_ended.ensures.appended c.append_ended.ensures.stays in
    ap (part d.first d.end d.width) (more.1 ∙ ap (λ xs. xs ++ more.0) c.truncate.ensures.items)
    ∙ part-front d.first d.end d.width (d.end * d.width) d.bytes.items more.0 (omega arith) c.self.invariant.fits ∙ ap (λ (v : DeadCells). v.working) c.self.view_is

pub returns-clause-committed : goal.returns-clause-committed
returns-clause-committed c =
    let d = c.self.inside in
    let more = written_more c.append_ended.result c.truncate.new.self.items c.append_ended.new.bytes.items (ended c.args.version c.args.cell.now) c.append_ended.ensures.appended c.append_ended.ensures.stays in
    ap (part d.kept_first d.kept_end d.width) (more.1 ∙ ap (λ xs. xs ++ more.0) c.truncate.ensures.items)
    ∙ part-front d.kept_first d.kept_end d.width (d.end * d.width) d.bytes.items more.0 (times_upto d.kept_end d.end d.width c.self.invariant.within) c.self.invariant.fits
    ∙ ap (λ (v : DeadCells). v.committed) c.self.view_is
