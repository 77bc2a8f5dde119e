-- One event after the other.
use Rattle.rs_table_changes.proofs.StillSeen.{given_way}
use Rattle.rs_table_changes.proofs.laws.what_gave_way_is_still_seen.Goals as goal

pub returns : goal.returns
returns c = let law = c.live_versions_see_their_events.ensures in given_way law.unchanged law.joined law.come law.ended law.runs
