-- The events of the table with the number, as they lie in the pages that the store keeps.
use Rattle.std.proofs.Common.{ap, subst, sym}
use Rattle.rs_file_meaning.specs.Seen.{events_of}
use Rattle.rs_pager.specs.Maps.{working}
use Rattle.rs_store.specs.Kept.{Keeps, StoreState}
use Rattle.rs_store.specs.Reading.{ReadsStore}
use Rattle.rs_table_reads.specs.Events.{SaysSpans}
use Rattle.rs_table_reads.specs.Read.{spans_in}
use Rattle.rs_store.proofs.Keeping.{store_over}
use Rattle.rs_store.proofs.TableReads.{events_open, found_open, no_events, not_no_events, reads_by_reading}
use Rattle.rs_store.proofs.store.Store.found_events.Goals as goal

pub returns-in-Some-clause-reads : goal.returns-in-Some-clause-reads
returns-in-Some-clause-reads g c =
    let d = g.D.Disk in
    let was = c.self.inside in
    subst (λ (s : StoreState g.row.D.Denot). ReadsStore d s (store_over d c.found_events.new.pages was.file was.catalog was.referents)) c.self.view_is
    (reads_by_reading d c.found_events.result was.pager c.found_events.new.pages was.file was.catalog was.referents c.found_events.ensures.refused c.found_events.ensures.rests)

pub returns-in-Some-clause-says : goal.returns-in-Some-clause-says
returns-in-Some-clause-says g c = λ contents keeps.
    let d = g.D.Disk in
    let was = c.self.inside in
    let over = store_over d was.pager was.file was.catalog was.referents in
    let kept = subst (λ (s : StoreState g.row.D.Denot). Keeps d s contents) (sym c.self.view_is) keeps in
    found_open c.args.window (working d was.pager) c.in-Some.opened.now (events_of contents c.args.table)
    (events_open d over contents kept c.args.table c.in-Some.opened.now c.in-Some.ensures.found) c.found_events.result (c.found_events.ensures.finds kept.tied)

pub returns-in-Some-clause-sound : goal.returns-in-Some-clause-sound
returns-in-Some-clause-sound g c = λ contents keeps damaged.
    let d = g.D.Disk in
    let was = c.self.inside in
    let over = store_over d was.pager was.file was.catalog was.referents in
    let kept = subst (λ (s : StoreState g.row.D.Denot). Keeps d s contents) (sym c.self.view_is) keeps in
    not_no_events (working d was.pager) c.in-Some.opened.now (events_of contents c.args.table)
    (events_open d over contents kept c.args.table c.in-Some.opened.now c.in-Some.ensures.found) (c.found_events.ensures.damaged kept.tied damaged)

pub returns-in-None-clause-says : goal.returns-in-None-clause-says
returns-in-None-clause-says g c = λ contents keeps.
    let d = g.D.Disk in
    let was = c.self.inside in
    let over = store_over d was.pager was.file was.catalog was.referents in
    let kept = subst (λ (s : StoreState g.row.D.Denot). Keeps d s contents) (sym c.self.view_is) keeps in
    subst (SaysSpans c.none.result) (ap (spans_in c.args.window) (sym (no_events d over contents kept c.args.table c.in-None.ensures.none))) c.none.ensures.spans
