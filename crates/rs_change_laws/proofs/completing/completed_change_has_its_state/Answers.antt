use Rattle.rs_change_laws.proofs.Completed.{completed}
use Rattle.rs_change_laws.proofs.completing.completed_change_has_its_state.Goals as goal

pub returns : goal.returns
returns c =
    completed c.live_versions_see_their_events.ensures.cleared c.live_versions_see_their_referents.ensures.cleared c.live_versions_see_the_same.ensures.records
    c.live_versions_see_the_same.ensures.joined c.same_rows_make_the_same_state.ensures c.version_that_sees_the_same_has_the_same_world.ensures.names
    c.version_that_sees_the_same_has_the_same_world.ensures.facts c.change_keeps_the_meaning_of_earlier_versions.ensures.next
    c.change_keeps_the_meaning_of_earlier_versions.ensures.records
