use Rattle.rs_change_laws.proofs.OtherIndexes.{index_gives, index_goes}
use Rattle.rs_change_laws.proofs.tables.index_listed_gives_its_state.Goals as goal

pub returns-clause-defined : goal.returns-clause-defined
returns-clause-defined c = λ from oldest pages file definitions held state stands upto below name item place between are new changes lawful.
    index_gives
    (record {
      one_state = c.contents_have_one_state.ensures.one;
      next_spans = c.next_version_begins_as_the_present_one.ensures.spans;
      next_referents = c.next_version_begins_as_the_present_one.ensures.referents;
      next_meant = c.next_version_is_meant_as_the_present_one.ensures;
      routes_meant = c.changed_definitions_leave_records_meant.ensures.routes;
      routes_live = c.live_versions_see_the_same_beside_new_definitions.ensures.routes;
      listed_meant = c.listed_definitions_of_a_lawful_catalogue_are_meant.ensures.meant;
      listed_seen = c.listed_definitions_of_a_lawful_catalogue_are_meant.ensures.seen;
      listed_back = c.definitions_of_a_file_list_its_items.ensures;
      kept = c.definitions_of_a_file_are_a_catalogues.ensures;
    })
    (record { meant = c.meant_contents_stay_meant.ensures.same; state = c.contents_have_one_state.ensures.same })
    from oldest pages file definitions held state stands below name place between item are changes lawful

pub returns-clause-dropped : goal.returns-clause-dropped
returns-clause-dropped c = λ from oldest pages file definitions held state stands upto below name item place between there changes lawful.
    index_goes
    (record {
      one_state = c.contents_have_one_state.ensures.one;
      next_spans = c.next_version_begins_as_the_present_one.ensures.spans;
      next_referents = c.next_version_begins_as_the_present_one.ensures.referents;
      next_meant = c.next_version_is_meant_as_the_present_one.ensures;
      routes_meant = c.changed_definitions_leave_records_meant.ensures.routes;
      routes_live = c.live_versions_see_the_same_beside_new_definitions.ensures.routes;
      listed_meant = c.listed_definitions_of_a_lawful_catalogue_are_meant.ensures.meant;
      listed_seen = c.listed_definitions_of_a_lawful_catalogue_are_meant.ensures.seen;
      listed_back = c.definitions_of_a_file_list_its_items.ensures;
      kept = c.definitions_of_a_file_are_a_catalogues.ensures;
    })
    (record { meant = c.meant_contents_stay_meant.ensures.same; state = c.contents_have_one_state.ensures.same })
    from oldest pages file definitions held state stands below name place between changes lawful
