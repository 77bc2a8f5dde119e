-- What was written is read, and says that nothing is defined.
use Rattle.rs_store.proofs.Files.{fresh_is_found, fresh_loaded}
use Rattle.rs_store.proofs.Keeping.{leaves_by_reading}
use Rattle.rs_store.proofs.creating.create_pages.Goals as goal

pub returns-clause-sound : goal.returns-clause-sound
returns-clause-sound g c = λ honest created is.
    let made = c.in_ok-write_nothing.ensures.writes honest created in
    fresh_is_found g.D.Disk c.file_holds_one_thing.ensures c.meant_contents_stay_meant.ensures.says c.meant_contents_stay_meant.ensures.same c.contents_have_one_state.ensures.same
    c.write_nothing.new.pager made (c.load_state.ensures.damaged made.tied is)

pub returns-clause-made : goal.returns-clause-made
returns-clause-made g c = λ honest created.
    let d = g.D.Disk in
    let was = c.write_nothing.new.pager in
    let now = c.load_state.new.pages in
    let made = c.in_ok-write_nothing.ensures.writes honest created in
    let read = leaves_by_reading d c.load_state.result was now c.load_state.ensures.rests in
    fresh_loaded d c.file_holds_one_thing.ensures c.meant_contents_stay_meant.ensures.says c.meant_contents_stay_meant.ensures.same c.contents_have_one_state.ensures.same
    was made now c.load_state.result read (c.load_state.ensures.loads made.tied)
