use Rattle.rs_change_laws.proofs.OtherTables.{table_goes}
use Rattle.rs_change_laws.proofs.tables.table_dropped_gives_its_state.Goals as goal

pub returns : goal.returns
returns c = λ from oldest pages file definitions held state stands past upto name item place between are there at takes lawful.
    table_goes
    (record {
      one_state = c.contents_have_one_state.ensures.one;
      next_spans = c.next_version_begins_as_the_present_one.ensures.spans;
      next_referents = c.next_version_begins_as_the_present_one.ensures.referents;
      next_meant = c.next_version_is_meant_as_the_present_one.ensures;
      routes_meant = c.changed_definitions_leave_records_meant.ensures.routes;
      routes_live = c.live_versions_see_the_same_beside_new_definitions.ensures.routes;
      listed_meant = c.listed_definitions_of_a_lawful_catalogue_are_meant.ensures.meant;
      listed_seen = c.listed_definitions_of_a_lawful_catalogue_are_meant.ensures.seen;
      listed_back = c.definitions_of_a_file_list_its_items.ensures;
      kept = c.definitions_of_a_file_are_a_catalogues.ensures;
    })
    c.one_table_is_listed_more_or_less.ensures.less c.changed_definitions_leave_records_meant.ensures.table_goes from oldest pages file definitions held state stands past upto name item place between there at takes lawful
