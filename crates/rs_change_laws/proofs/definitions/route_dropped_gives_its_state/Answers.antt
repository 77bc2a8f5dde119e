use Rattle.rs_change_laws.proofs.MoreRoutes.{route_goes}
use Rattle.rs_change_laws.proofs.definitions.route_dropped_gives_its_state.Goals as goal

pub returns : goal.returns
returns c = λ from oldest pages file definitions held kept state stands past below name item between are there no_piece no_spans kept_are drops lawful.
    route_goes
    (record {
      one_state = c.contents_have_one_state.ensures.one;
      next_spans = c.next_version_begins_as_the_present_one.ensures.spans;
      next_referents = c.next_version_begins_as_the_present_one.ensures.referents;
      next_meant = c.next_version_is_meant_as_the_present_one.ensures;
      routes_meant = c.changed_definitions_leave_records_meant.ensures.routes;
      routes_live = c.live_versions_see_the_same_beside_new_definitions.ensures.routes;
      listed_meant = c.listed_definitions_of_a_lawful_catalogue_are_meant.ensures.meant;
      listed_seen = c.listed_definitions_of_a_lawful_catalogue_are_meant.ensures.seen;
      listed_back = c.definitions_of_a_file_list_its_items.ensures;
      kept = c.definitions_of_a_file_are_a_catalogues.ensures;
    })
    (record {
      referents = c.version_that_sees_the_same_has_the_same_world.ensures.referents;
      names = c.version_that_sees_the_same_has_the_same_world.ensures.names;
    })
    c.state_has_one_route_more_or_less.ensures.less c.one_route_is_listed_more_or_less.ensures.less from oldest pages file definitions held kept state stands past below name item between are there no_piece no_spans kept_are drops lawful
