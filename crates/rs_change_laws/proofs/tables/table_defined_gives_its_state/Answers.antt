use Rattle.rs_change_laws.proofs.OtherTables.{table_gives}
use Rattle.rs_change_laws.proofs.tables.table_defined_gives_its_state.Goals as goal

pub returns : goal.returns
returns c = λ from oldest pages file definitions held state stands upto below name item place types between are new free at puts lawful.
    table_gives
    (record {
      one_state = c.contents_have_one_state.ensures.one;
      next_spans = c.next_version_begins_as_the_present_one.ensures.spans;
      next_referents = c.next_version_begins_as_the_present_one.ensures.referents;
      next_meant = c.next_version_is_meant_as_the_present_one.ensures;
      routes_meant = c.changed_definitions_leave_records_meant.ensures.routes;
      routes_live = c.live_versions_see_the_same_beside_new_definitions.ensures.routes;
      listed_meant = c.listed_definitions_of_a_lawful_catalogue_are_meant.ensures.meant;
      listed_seen = c.listed_definitions_of_a_lawful_catalogue_are_meant.ensures.seen;
      listed_back = c.definitions_of_a_file_list_its_items.ensures;
      kept = c.definitions_of_a_file_are_a_catalogues.ensures;
    })
    c.listed_definitions_of_a_lawful_catalogue_are_meant.ensures.once c.one_table_is_listed_more_or_less.ensures.more c.changed_definitions_leave_records_meant.ensures.table_comes
    c.live_versions_see_the_same_beside_new_definitions.ensures.table from oldest pages file definitions held state stands below name item place types between are new free at puts lawful
