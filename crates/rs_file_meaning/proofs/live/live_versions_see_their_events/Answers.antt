use Rattle.rs_file_meaning.specs.Seen.{seen_events}
use Rattle.rs_file_meaning.proofs.OnRoute.{keeps_fewer, keeps_joined, keeps_same}
use Rattle.rs_file_meaning.proofs.SeenRecords.{event_comes, event_ends, events_cleared, runs_kept}
use Rattle.rs_file_meaning.proofs.live.live_versions_see_their_events.Goals as goal

pub returns-clause-unchanged : goal.returns-clause-unchanged
returns-clause-unchanged c = keeps_same seen_events

pub returns-clause-joined : goal.returns-clause-joined
returns-clause-joined c = keeps_joined seen_events

pub returns-clause-fewer : goal.returns-clause-fewer
returns-clause-fewer c = keeps_fewer seen_events

pub returns-clause-come : goal.returns-clause-come
returns-clause-come c = event_comes

pub returns-clause-ended : goal.returns-clause-ended
returns-clause-ended c = event_ends

pub returns-clause-cleared : goal.returns-clause-cleared
returns-clause-cleared c = events_cleared

pub returns-clause-runs : goal.returns-clause-runs
returns-clause-runs c = runs_kept
