use Rattle.std.proofs.Common.{subst, sym}
use Rattle.rs_catalog.specs.Events.{behind}
use Rattle.rs_change_laws.specs.Changing.{GivesState}
use Rattle.rs_file_parts.specs.Contents.{Contents}
use Rattle.rs_machine.specs.Step.{with_table, with_facts_along}
use Rattle.rs_change_laws.proofs.TableRows.{AreSaid, ChangesOn, row_put}
use Rattle.rs_change_laws.proofs.rows.row_put_gives_its_state.Goals as goal

pub returns : goal.returns
returns c = λ from oldest map file definitions held state stands upto below name route table on place span count between table_there route_there placed low high is there there_is.
    let said : AreSaid = record {
      fewer = c.meant_contents_stay_meant.ensures.fewer;
      table = c.changed_table_leaves_the_others_meant.ensures.table;
      runs = c.changed_table_leaves_the_others_meant.ensures.runs;
      meant = c.changed_table_leaves_the_others_meant.ensures.meant;
      was = c.changed_table_leaves_the_others_meant.ensures.was;
      is = c.changed_table_leaves_the_others_meant.ensures.is;
      others = c.changed_table_leaves_the_others_meant.ensures.others;
      live_fewer = c.live_versions_see_the_same.ensures.fewer;
      live_records = c.live_versions_see_the_same.ensures.records;
      live_table = c.live_versions_see_the_same.ensures.table;
      next_spans = c.next_version_begins_as_the_present_one.ensures.spans;
      next_referents = c.next_version_begins_as_the_present_one.ensures.referents;
      next_meant = c.next_version_is_meant_as_the_present_one.ensures;
      definitions = c.definitions_of_a_file_are_a_catalogues.ensures;
    } in
    let changes : ChangesOn table.kind stands.contents.directory.accepted on.number on.ends is.table.events is.next.events = record {
      changes = is.changed.changes;
      runs = is.changed.runs;
      within = λ within. is.changed.within on.ends.start (behind table.kind on.ends) within low high;
    } in
    let both = row_put said map stands.contents stands.holds from stands.meant stands.live below definitions held stands.memory name route table on place table_there route_there placed
    is.before is.after is.table is.next is.long is.were changes oldest upto state (c.file_stands_for_the_state_in_memory.ensures from map file definitions held state stands) there there_is
    c.state_has_a_row_more.ensures span count is.changed in
    (subst (λ (now : Contents). GivesState oldest stands.contents now definitions held (with_table state name (with_facts_along there route span.lo span.hi span.row))) (sym is.are) both.0, both.1)
