-- The spans of the table with the number that have the value, as they lie in the pages that the store keeps.
use Rattle.std.proofs.Common.{◌≡◌, ◌∙◌, List, IfOk, ap, inl, map, sym, subst}
use Rattle.std.specs.FinMap as names
use Rattle.std.specs.Prelude.{MatchResult}
use Rattle.rs_facts.specs.Spans.{seen}
use Rattle.rs_facts.specs.declared.fact.Span.{Span}
use Rattle.rs_file_meaning.specs.Seen.{events_of}
use Rattle.rs_pager.specs.Maps.{IsTied, working}
use Rattle.rs_pager.specs.Opened.{CountsFault}
use Rattle.rs_table_reads.specs.Found.{spans_with}
use Rattle.rs_value.specs.View.{literal_datum}
use Rattle.rs_store.specs.Kept.{Keeps, StoreState}
use Rattle.rs_store.specs.Reading.{GivesValue, HasReadIndex, ReadsStore}
use Rattle.rs_store.proofs.Keeping.{store_over}
use Rattle.rs_store.proofs.TableReads.{count_by_reading, events_open, index_pages, no_events, not_no_entries, not_no_events, pages_open, reads_by_reading, rows_typed, spans_open, table_gives, table_pages, value_gives, value_open}
use Rattle.rs_store.proofs.store.Store.spans_with.Goals as goal

-- ---- no table has the number

pub returns-in_default-clause-gives : goal.returns-in_default-clause-gives
returns-in_default-clause-gives g c = λ contents keeps.
    let d = g.D.Disk in
    let was = c.self.inside in
    let over = store_over d was.pager was.file was.catalog was.referents in
    let kept = subst (λ (s : StoreState g.row.D.Denot). Keeps d s contents) (sym c.self.view_is) keeps in
    inl (ap (λ (spans : List Span). map seen spans) c.new.ensures.items
    ∙ ap (spans_with c.args.key.column (literal_datum c.args.value.now) c.args.window) (sym (no_events d over contents kept c.args.key.table c.in_default.ensures.none)))

-- ---- no index is the key's

pub returns-in_default-indexed_at-clause-reads : goal.returns-in_default-indexed_at-clause-reads
returns-in_default-indexed_at-clause-reads g c =
    let d = g.D.Disk in
    let was = c.self.inside in
    subst (λ (s : StoreState g.row.D.Denot). ReadsStore d s (store_over d c.spans.new.pages was.file was.catalog was.referents)) c.self.view_is
    (reads_by_reading d c.spans.result was.pager c.spans.new.pages was.file was.catalog was.referents c.spans.ensures.refused c.spans.ensures.rests)

pub returns-in_default-indexed_at-clause-count : goal.returns-in_default-indexed_at-clause-count
returns-in_default-indexed_at-clause-count g c =
    let d = g.D.Disk in
    subst (λ (s : StoreState g.row.D.Denot). MatchResult c.spans.result (λ _. d.failures c.spans.new.pages.disk ≡ d.failures s.pager.disk)
    (λ why. CountsFault why (d.failures s.pager.disk) (d.failures c.spans.new.pages.disk))) c.self.view_is
    (count_by_reading d c.spans.result c.self.inside.pager c.spans.new.pages c.spans.ensures.rests)

pub returns-in_default-indexed_at-clause-gives : goal.returns-in_default-indexed_at-clause-gives
returns-in_default-indexed_at-clause-gives g c = λ contents keeps.
    let d = g.D.Disk in
    let was = c.self.inside in
    let over = store_over d was.pager was.file was.catalog was.referents in
    let kept = subst (λ (s : StoreState g.row.D.Denot). Keeps d s contents) (sym c.self.view_is) keeps in
    let events = events_of contents c.args.key.table in
    let datum = literal_datum c.args.value.now in
    subst (λ (s : StoreState g.row.D.Denot). IfOk c.spans.result (λ found. GivesValue s.file c.args.key datum c.args.window events (map seen found.0.items))) c.self.view_is
    (table_gives was.file c.args.key c.in_default-indexed_at.ensures.none datum c.args.window events c.spans.result
    (spans_open c.args.window (working d was.pager) c.in-Some.opened.now events (events_open d over contents kept c.args.key.table c.in-Some.opened.now c.in-Some.ensures.found) c.spans.result
    (c.spans.ensures.gives kept.tied)))

pub returns-in_default-indexed_at-clause-pages : goal.returns-in_default-indexed_at-clause-pages
returns-in_default-indexed_at-clause-pages g c = λ tied.
    let d = g.D.Disk in
    let was = c.self.inside in
    let here = subst (λ (s : StoreState g.row.D.Denot). IsTied d s.pager) (sym c.self.view_is) tied in
    let datum = literal_datum c.args.value.now in
    subst (λ (s : StoreState g.row.D.Denot). IfOk c.spans.result (λ found. HasReadIndex (working d s.pager) s.file c.args.key datum c.args.window found.1)) c.self.view_is
    (table_pages (working d was.pager) was.file c.args.key c.in_default-indexed_at.ensures.none datum c.args.window c.spans.result
    (pages_open c.args.window (working d was.pager) c.in-Some.opened.now was.file c.args.key.table c.in-Some.ensures.found c.spans.result (c.spans.ensures.gives here)))

pub returns-in_default-indexed_at-clause-rows : goal.returns-in_default-indexed_at-clause-rows
returns-in_default-indexed_at-clause-rows g c = λ name item there same.
    let was = c.self.inside in
    rows_typed was.file was.catalog c.self.invariant.rests c.stand.ensures c.args.key.table c.in-Some.opened.now c.in-Some.ensures.found
    name item (ap (λ (s : StoreState g.row.D.Denot). names.get s.catalog.tables name) c.self.view_is ∙ there) same c.spans.result c.spans.ensures.rows

pub returns-in_default-indexed_at-clause-sound : goal.returns-in_default-indexed_at-clause-sound
returns-in_default-indexed_at-clause-sound g c = λ contents keeps damaged.
    let d = g.D.Disk in
    let was = c.self.inside in
    let over = store_over d was.pager was.file was.catalog was.referents in
    let kept = subst (λ (s : StoreState g.row.D.Denot). Keeps d s contents) (sym c.self.view_is) keeps in
    not_no_events (working d was.pager) c.in-Some.opened.now (events_of contents c.args.key.table)
    (events_open d over contents kept c.args.key.table c.in-Some.opened.now c.in-Some.ensures.found) (c.spans.ensures.damaged kept.tied damaged)

-- ---- the index is read

pub returns-clause-reads : goal.returns-clause-reads
returns-clause-reads g c =
    let d = g.D.Disk in
    let was = c.self.inside in
    subst (λ (s : StoreState g.row.D.Denot). ReadsStore d s (store_over d c.spans_with.new.pages was.file was.catalog was.referents)) c.self.view_is
    (reads_by_reading d c.spans_with.result was.pager c.spans_with.new.pages was.file was.catalog was.referents c.spans_with.ensures.refused c.spans_with.ensures.rests)

pub returns-clause-count : goal.returns-clause-count
returns-clause-count g c =
    let d = g.D.Disk in
    subst (λ (s : StoreState g.row.D.Denot). MatchResult c.spans_with.result (λ _. d.failures c.spans_with.new.pages.disk ≡ d.failures s.pager.disk)
    (λ why. CountsFault why (d.failures s.pager.disk) (d.failures c.spans_with.new.pages.disk))) c.self.view_is
    (count_by_reading d c.spans_with.result c.self.inside.pager c.spans_with.new.pages c.spans_with.ensures.rests)

pub returns-clause-gives : goal.returns-clause-gives
returns-clause-gives g c = λ contents keeps.
    let d = g.D.Disk in
    let was = c.self.inside in
    let over = store_over d was.pager was.file was.catalog was.referents in
    let kept = subst (λ (s : StoreState g.row.D.Denot). Keeps d s contents) (sym c.self.view_is) keeps in
    let events = events_of contents c.args.key.table in
    let datum = literal_datum c.args.value.now in
    let opened = c.in-Some.opened.now in
    let at = c.in-Some-indexed_at.at in
    let indexed = c.in-Some-indexed_at.ensures.indexed.1 opened c.in-Some.ensures.found in
    subst (λ (s : StoreState g.row.D.Denot). IfOk c.spans_with.result (λ found. GivesValue s.file c.args.key datum c.args.window events (map seen found.0.items))) c.self.view_is
    (value_gives was.file c.args.key at.column c.in-Some-indexed_at.ensures.indexed.0 datum c.args.window events c.spans_with.result
    (value_open (working d was.pager) opened events (events_open d over contents kept c.args.key.table opened c.in-Some.ensures.found) at.position indexed.index indexed.there at.column datum c.args.window
    c.spans_with.result (c.spans_with.ensures.gives kept.tied indexed.index indexed.there)))

pub returns-clause-pages : goal.returns-clause-pages
returns-clause-pages g c = λ tied.
    let d = g.D.Disk in
    let was = c.self.inside in
    let here = subst (λ (s : StoreState g.row.D.Denot). IsTied d s.pager) (sym c.self.view_is) tied in
    let datum = literal_datum c.args.value.now in
    let opened = c.in-Some.opened.now in
    let at = c.in-Some-indexed_at.at in
    let indexed = c.in-Some-indexed_at.ensures.indexed.1 opened c.in-Some.ensures.found in
    subst (λ (s : StoreState g.row.D.Denot). IfOk c.spans_with.result (λ found. HasReadIndex (working d s.pager) s.file c.args.key datum c.args.window found.1)) c.self.view_is
    (index_pages (working d was.pager) was.file c.args.key opened c.in-Some.ensures.found at.position c.in-Some-indexed_at.ensures.at indexed.index indexed.there at.column c.in-Some-indexed_at.ensures.indexed.0
    datum c.args.window c.spans_with.result (c.spans_with.ensures.gives here indexed.index indexed.there))

pub returns-clause-rows : goal.returns-clause-rows
returns-clause-rows g c = λ name item there same.
    let was = c.self.inside in
    rows_typed was.file was.catalog c.self.invariant.rests c.stand.ensures c.args.key.table c.in-Some.opened.now c.in-Some.ensures.found
    name item (ap (λ (s : StoreState g.row.D.Denot). names.get s.catalog.tables name) c.self.view_is ∙ there) same c.spans_with.result c.spans_with.ensures.rows

pub returns-clause-sound : goal.returns-clause-sound
returns-clause-sound g c = λ contents keeps damaged.
    let d = g.D.Disk in
    let was = c.self.inside in
    let over = store_over d was.pager was.file was.catalog was.referents in
    let kept = subst (λ (s : StoreState g.row.D.Denot). Keeps d s contents) (sym c.self.view_is) keeps in
    let opened = c.in-Some.opened.now in
    let at = c.in-Some-indexed_at.at in
    let indexed = c.in-Some-indexed_at.ensures.indexed.1 opened c.in-Some.ensures.found in
    not_no_entries (working d was.pager) opened (events_of contents c.args.key.table) (events_open d over contents kept c.args.key.table opened c.in-Some.ensures.found) at.position indexed.index indexed.there
    (c.spans_with.ensures.damaged kept.tied damaged indexed.index indexed.there)
