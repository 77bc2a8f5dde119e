-- An empty file.
use Rattle.std.proofs.Common.{◌≡◌, IsTrue, refl, subst, sym, ◌∙◌}
use Rattle.rs_journal.specs.Stages.{EveryImage}
use Rattle.rs_pager.specs.Opened.{HasEmptyFile}
use Rattle.rs_pager.proofs.Opened.{created}
use Rattle.rs_pager.proofs.pager.Pager.create.Goals as goal

pub returns-in-Ok-write_empty_file-clause-created : goal.returns-in-Ok-write_empty_file-clause-created
returns-in-Ok-write_empty_file-clause-created g c = λ honest.
    let d = g.D.Disk in
    let disk = c.write_empty_file.new.disk in
    let p = c.new_pager.result in
    created d c.args.limit p c.new_pager.ensures.fresh (c.new_pager.ensures.committed_fields ∙ c.empty.ensures)
    (subst (λ (disk : _). HasEmptyFile (d.seen disk)) (sym c.new_pager.ensures.disk) (c.in-Ok-write_empty_file.ensures.written honest))
    (subst (λ (disk : _). EveryImage d (λ content. content ≡ d.seen disk) disk) (sym c.new_pager.ensures.disk) (record {
      honest = subst IsTrue (sym c.write_empty_file.ensures.honesty) honest;
      reads = refl;
      images = λ keeps image left. c.in-Ok-write_empty_file.ensures.durable (subst IsTrue c.write_empty_file.ensures.keeping keeps) image left;
    }))
