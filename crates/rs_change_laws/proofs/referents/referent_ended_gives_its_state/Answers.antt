use Rattle.rs_change_laws.proofs.ReferentSteps.{end}
use Rattle.rs_change_laws.proofs.referents.referent_ended_gives_its_state.Goals as goal

pub returns : goal.returns
returns c = λ from oldest pages file definitions held kept state stands later below route name on between there. end (record {
  states = record {
    fewer = c.meant_contents_stay_meant.ensures.fewer;
    meant_next = c.next_version_is_meant_as_the_present_one.ensures;
    meant_others = c.changed_referents_leave_all_else_meant.ensures;
    spans_next = c.next_version_begins_as_the_present_one.ensures.spans;
    referents_next = c.next_version_begins_as_the_present_one.ensures.referents;
    live_records = c.live_versions_see_the_same.ensures.records;
    live_referents = c.live_versions_see_the_same.ensures.referents;
    catalogue = c.definitions_of_a_file_are_a_catalogues.ensures;
    others = c.state_has_other_referents_on_a_route.ensures.others;
    there = c.state_has_other_referents_on_a_route.ensures.there;
  };
  stay = c.live_versions_see_their_referents.ensures.names;
  same = c.version_that_sees_the_same_has_the_same_world.ensures.names;
  come = c.live_versions_see_their_referents.ensures.come;
  ended = c.live_versions_see_their_referents.ensures.ended;
  joined = c.live_versions_see_their_referents.ensures.joined;
}) from oldest pages file definitions held kept state stands later below route on there name between
