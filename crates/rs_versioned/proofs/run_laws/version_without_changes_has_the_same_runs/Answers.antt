-- It sees the same events.
use Rattle.rs_versioned.proofs.RunsByVersion.{runs_level, spans_level}
use Rattle.rs_versioned.proofs.run_laws.version_without_changes_has_the_same_runs.Goals as goal

pub returns-clause-spans : goal.returns-clause-spans
returns-clause-spans c = λ types pages standing from to route events used holds later below. spans_level types pages standing from events used holds to route later below

pub returns-clause-runs : goal.returns-clause-runs
returns-clause-runs c = λ types pages standing kind oldest accepted version events used holds runs some below. runs_level types pages standing accepted events used holds kind oldest version runs some below
