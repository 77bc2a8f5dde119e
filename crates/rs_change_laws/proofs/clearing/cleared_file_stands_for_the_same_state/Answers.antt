use Rattle.rs_change_laws.proofs.Fewer.{stands_fewer}
use Rattle.rs_change_laws.proofs.clearing.cleared_file_stands_for_the_same_state.Goals as goal

pub returns : goal.returns
returns c =
    stands_fewer c.live_versions_see_their_events.ensures.cleared c.live_versions_see_their_referents.ensures.cleared c.live_versions_see_the_same.ensures.records
    c.same_rows_make_the_same_state.ensures c.version_that_sees_the_same_has_the_same_world.ensures.names
    c.version_that_sees_the_same_has_the_same_world.ensures.facts c.change_keeps_the_meaning_of_earlier_versions.ensures.records
