-- They are those that the version shows.
use Rattle.std.proofs.Common.{◌+◌, ap, arith, length, map, subst}
use Rattle.std.proofs.lemmas.List.{length-map}
use Rattle.rs_answers.proofs.Marking.{none_below, start-whole}
use Rattle.rs_answers.proofs.QueryRuns.{hold-within, holds-within}
use Rattle.rs_answers.proofs.ShownLines.{runs-shown}
use Rattle.rs_answers.proofs.resuming.whole_runs.Goals as goal
use Rattle.rs_answers.specs.Versions.{runs_seen}
use Rattle.rs_exec.specs.Meaning.{kind_in, rows_in}
use Rattle.rs_exec.specs.Snapshot.{Snapshot}
use Rattle.rs_facts.proofs.RunsOf.{runs_of-runs}
use Rattle.rs_facts.specs.Runs.{AreRunsOf}
use Rattle.rs_facts.specs.Spans.{seen}

pub returns-clause-runs : goal.returns-clause-runs
returns-clause-runs g c = λ shown shows lies there.
    let source = c.args.source.now in
    let asked = c.args.asked.now in
    let named = c.args.named.now in
    let plan = asked.plan.now in
    let kind = kind_in plan in
    let ends = named.route.ends in
    let spans = c.in_ok-runs.runs.items in
    let has = g.met.V.Versions.shows_rows source asked.version shown shows in
    let are = subst (λ (snapshot : Snapshot). AreRunsOf kind (rows_in plan snapshot named.route.number) (map seen spans)) has.there
    (subst (λ number. AreRunsOf kind (rows_in plan (has.snapshots asked.version) number) (map seen spans)) c.number.ensures (c.in_ok-runs.ensures.runs has.snapshots has.is)) in
    let inside = hold-within kind ends (rows_in plan shown.snapshot named.route.number) (holds-within kind ends (rows_in plan shown.snapshot named.route.number) (lies.each named.name.bytes named.route there)) in
    let same = runs-shown shown plan lies named.name.bytes named.route there (map seen spans) are in
    let long = ap length same in
    record {
      marked = record {
        counts = omega (arith, c.len.ensures, c.in_ok-runs.runs.ok.0, length-map spans seen, long);
        below = none_below (runs_seen shown plan named.route);
      };
      ordered = (runs_of-runs kind ends.start (ends.finish + 1) (rows_in plan shown.snapshot named.route.number) inside).ordered;
      starts = start-whole (map seen spans) (runs_seen shown plan named.route) same;
    }
