-- The living records of the table with the number, as what is open counts them.
use Rattle.std.proofs.Common.{◌∙◌, List, ap, subst, sym}
use Rattle.std.specs.Prelude.{count_by}
use Rattle.rs_file_meaning.specs.Seen.{events_of}
use Rattle.rs_pager.specs.Maps.{working}
use Rattle.rs_versioned.specs.Events.{Event}
use Rattle.rs_store.specs.Kept.{Keeps, StoreState}
use Rattle.rs_store.specs.Reading.{lives, living_of}
use Rattle.rs_store.proofs.Keeping.{store_over}
use Rattle.rs_store.proofs.Numbered.{living_at, none_live}
use Rattle.rs_store.proofs.TableReads.{events_open, living_open, no_events}
use Rattle.rs_store.proofs.store.Store.records.Goals as goal

pub returns-in-Some-clause-counted : goal.returns-in-Some-clause-counted
returns-in-Some-clause-counted g c =
    let file = c.self.inside.file in
    let at = c.in-Some.ensures.found in
    c.living.ensures
    ∙ living_at c.args.table file.definitions.tables.items file.tables.items at.place at.numbered.table c.in-Some.opened.now at.numbered.there at.numbered.numbered at.there
    (c.self.invariant.rests.may.ready.given.tables_once c.args.table)
    ∙ ap (λ (s : StoreState g.row.D.Denot). living_of s.file c.args.table) c.self.view_is

pub returns-in-Some-clause-living : goal.returns-in-Some-clause-living
returns-in-Some-clause-living g c = λ contents keeps.
    let d = g.D.Disk in
    let was = c.self.inside in
    let over = store_over d was.pager was.file was.catalog was.referents in
    let kept = subst (λ (s : StoreState g.row.D.Denot). Keeps d s contents) (sym c.self.view_is) keeps in
    c.living.ensures
    ∙ living_open (working d was.pager) c.in-Some.opened.now (events_of contents c.args.table)
    (events_open d over contents kept c.args.table c.in-Some.opened.now c.in-Some.ensures.found)

pub returns-in-None-clause-counted : goal.returns-in-None-clause-counted
returns-in-None-clause-counted g c =
    let file = c.self.inside.file in
    sym (none_live file.definitions.tables.items file.tables.items c.args.table c.in-None.ensures.none)
    ∙ ap (λ (s : StoreState g.row.D.Denot). living_of s.file c.args.table) c.self.view_is

pub returns-in-None-clause-living : goal.returns-in-None-clause-living
returns-in-None-clause-living g c = λ contents keeps.
    let d = g.D.Disk in
    let was = c.self.inside in
    let over = store_over d was.pager was.file was.catalog was.referents in
    let kept = subst (λ (s : StoreState g.row.D.Denot). Keeps d s contents) (sym c.self.view_is) keeps in
    sym (ap (λ (events : List Event). count_by lives events) (no_events d over contents kept c.args.table c.in-None.ensures.none))
