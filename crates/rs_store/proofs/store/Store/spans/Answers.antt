-- The spans of the table with the number, as they lie in the pages that the store keeps.
use Rattle.std.proofs.Common.{◌∙◌, List, IfOk, ap, inl, map, refl, sym, subst}
use Rattle.std.specs.FinMap as names
use Rattle.rs_facts.specs.Spans.{seen}
use Rattle.rs_facts.specs.declared.fact.Span.{Span}
use Rattle.rs_file_meaning.specs.Seen.{events_of}
use Rattle.rs_pager.specs.Maps.{IsTied, working}
use Rattle.rs_store.specs.Kept.{Keeps, StoreState}
use Rattle.rs_store.specs.Reading.{HasRead, ReadsStore}
use Rattle.rs_table_reads.specs.Read.{spans_in}
use Rattle.rs_store.proofs.Keeping.{store_over}
use Rattle.rs_store.proofs.TableReads.{events_open, has_read, no_events, not_no_events, pages_open, reads_by_reading, rows_typed, spans_open}
use Rattle.rs_store.proofs.store.Store.spans.Goals as goal

pub returns-in-Some-clause-reads : goal.returns-in-Some-clause-reads
returns-in-Some-clause-reads g c =
    let d = g.D.Disk in
    let was = c.self.inside in
    subst (λ (s : StoreState g.row.D.Denot). ReadsStore d s (store_over d c.spans.new.pages was.file was.catalog was.referents)) c.self.view_is
    (reads_by_reading d c.spans.result was.pager c.spans.new.pages was.file was.catalog was.referents c.spans.ensures.refused c.spans.ensures.rests)

pub returns-in-Some-clause-rows : goal.returns-in-Some-clause-rows
returns-in-Some-clause-rows g c = λ name item there same.
    let was = c.self.inside in
    rows_typed was.file was.catalog c.self.invariant.rests c.stand.ensures c.args.table c.in-Some.opened.now c.in-Some.ensures.found
    name item (ap (λ (s : StoreState g.row.D.Denot). names.get s.catalog.tables name) c.self.view_is ∙ there) same c.spans.result c.spans.ensures.rows

pub returns-in-Some-clause-gives : goal.returns-in-Some-clause-gives
returns-in-Some-clause-gives g c = λ contents keeps.
    let d = g.D.Disk in
    let was = c.self.inside in
    let over = store_over d was.pager was.file was.catalog was.referents in
    let kept = subst (λ (s : StoreState g.row.D.Denot). Keeps d s contents) (sym c.self.view_is) keeps in
    spans_open c.args.window (working d was.pager) c.in-Some.opened.now (events_of contents c.args.table)
    (events_open d over contents kept c.args.table c.in-Some.opened.now c.in-Some.ensures.found) c.spans.result (c.spans.ensures.gives kept.tied)

pub returns-in-Some-clause-pages : goal.returns-in-Some-clause-pages
returns-in-Some-clause-pages g c = λ tied.
    let d = g.D.Disk in
    let was = c.self.inside in
    let over = store_over d was.pager was.file was.catalog was.referents in
    let here = subst (λ (s : StoreState g.row.D.Denot). IsTied d s.pager) (sym c.self.view_is) tied in
    subst (λ (s : StoreState g.row.D.Denot). IfOk c.spans.result (λ found. HasRead (working d s.pager) s.file c.args.table c.args.window found.1)) c.self.view_is
    (has_read (working d was.pager) was.file c.args.table c.args.window c.spans.result
    (pages_open c.args.window (working d was.pager) c.in-Some.opened.now was.file c.args.table c.in-Some.ensures.found c.spans.result (c.spans.ensures.gives here)))

pub returns-in-None-clause-pages : goal.returns-in-None-clause-pages
returns-in-None-clause-pages g c = λ tied.
    let d = g.D.Disk in
    let was = c.self.inside in
    subst (λ (s : StoreState g.row.D.Denot). HasRead (working d s.pager) s.file c.args.table c.args.window 0) c.self.view_is
    (inl (record { none = c.in-None.ensures.none; no_pages = refl }))

pub returns-in-Some-clause-sound : goal.returns-in-Some-clause-sound
returns-in-Some-clause-sound g c = λ contents keeps damaged.
    let d = g.D.Disk in
    let was = c.self.inside in
    let over = store_over d was.pager was.file was.catalog was.referents in
    let kept = subst (λ (s : StoreState g.row.D.Denot). Keeps d s contents) (sym c.self.view_is) keeps in
    not_no_events (working d was.pager) c.in-Some.opened.now (events_of contents c.args.table)
    (events_open d over contents kept c.args.table c.in-Some.opened.now c.in-Some.ensures.found) (c.spans.ensures.damaged kept.tied damaged)

pub returns-in-None-clause-gives : goal.returns-in-None-clause-gives
returns-in-None-clause-gives g c = λ contents keeps.
    let d = g.D.Disk in
    let was = c.self.inside in
    let over = store_over d was.pager was.file was.catalog was.referents in
    let kept = subst (λ (s : StoreState g.row.D.Denot). Keeps d s contents) (sym c.self.view_is) keeps in
    ap (λ (spans : List Span). map seen spans) c.new.ensures.items
    ∙ ap (spans_in c.args.window) (sym (no_events d over contents kept c.args.table c.in-None.ensures.none))
