use Rattle.rs_change_laws.proofs.MoreRoutes.{route_gives}
use Rattle.rs_change_laws.proofs.definitions.route_defined_gives_its_state.Goals as goal

pub returns : goal.returns
returns c = λ from oldest pages file definitions held state stands upto below name item between are new free born changes lawful.
    route_gives
    (record {
      one_state = c.contents_have_one_state.ensures.one;
      next_spans = c.next_version_begins_as_the_present_one.ensures.spans;
      next_referents = c.next_version_begins_as_the_present_one.ensures.referents;
      next_meant = c.next_version_is_meant_as_the_present_one.ensures;
      routes_meant = c.changed_definitions_leave_records_meant.ensures.routes;
      routes_live = c.live_versions_see_the_same_beside_new_definitions.ensures.routes;
      listed_meant = c.listed_definitions_of_a_lawful_catalogue_are_meant.ensures.meant;
      listed_seen = c.listed_definitions_of_a_lawful_catalogue_are_meant.ensures.seen;
      listed_back = c.definitions_of_a_file_list_its_items.ensures;
      kept = c.definitions_of_a_file_are_a_catalogues.ensures;
    })
    c.state_has_one_route_more_or_less.ensures.more c.one_route_is_listed_more_or_less.ensures.more from oldest pages file definitions held state stands below name item between are new free born changes lawful
