-- What the look found, and what follows of what is shown.
use Rattle.std.proofs.Common.{sym, subst}
use Rattle.rs_disk.specs.Content.{Content}
use Rattle.rs_journal.specs.FilePages.{HasPages}
use Rattle.rs_journal.specs.Look.{shown, as_shown}
use Rattle.rs_journal.proofs.Looking.{shows_pages, shown_recovers, shown-shut}
use Rattle.rs_journal.proofs.looked.Looked.new.Goals as goal

pub returns-in-Ok : goal.returns-in-Ok
returns-in-Ok g c = (
  record {
    reads = c.look_at.ensures.reaches;
    failures = c.in-Ok.ensures.count;
    told = c.in-Ok.ensures.told;
    pages = λ pages honest gives.
        subst (λ (content : Content). HasPages (as_shown (g.D.Disk.seen c.args.disk) pages) (shown content))
        (sym (c.look_at.ensures.reaches.reads honest)) (shows_pages (g.D.Disk.seen c.args.disk) pages gives);
    others = λ pages honest has.
        shown_recovers (g.D.Disk.seen c.args.disk) pages (c.in-Ok.ensures.told honest)
        (subst (λ (content : Content). HasPages pages (shown content)) (c.look_at.ensures.reaches.reads honest) has);
    shut = shown-shut (g.D.Disk.seen c.look_at.new.disk);
  },
  c.new.ensures,
)
