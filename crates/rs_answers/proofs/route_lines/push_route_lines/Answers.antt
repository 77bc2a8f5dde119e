-- A portion of the runs that were found is that portion of all of them.
use Rattle.std.proofs.Common.{List, ap, arith, drop, inl, inr, length, map, subst, sym, take, ◌≡◌, ◌⊎◌, ◌≤◌, ◌+◌, ◌++◌, ◌∙◌}
use Rattle.std.proofs.lemmas.List.{drop-map, length-map}
use Rattle.rs_answers.proofs.QueryRuns.{hold-within, holds-within}
use Rattle.rs_answers.proofs.ShownLines.{map-portion, portion-given}
use Rattle.rs_answers.proofs.Starts.{portion-found, rest-found, start-map, start-on}
use Rattle.rs_answers.proofs.route_lines.push_route_lines.Goals as goal
use Rattle.rs_answers.specs.Portions.{IsStart, portion_of}
use Rattle.rs_answers.specs.Printed.{place_on}
use Rattle.rs_answers.specs.Versions.{position_seen, runs_seen}
use Rattle.rs_answers.specs.declared.route_lines.Portion.{Portion}
use Rattle.rs_exec.specs.Meaning.{kind_in, rows_in}
use Rattle.rs_facts.proofs.RunsOf.{runs_of-runs}
use Rattle.rs_facts.specs.LineText.{line_of}
use Rattle.rs_facts.specs.Runs.{Stretch}
use Rattle.rs_facts.specs.Spans.{seen}
use Rattle.rs_serve.specs.ReplyView.{rows_of}

pub returns-clause-gives : goal.returns-clause-gives
returns-clause-gives g c = λ shown shows lies there marked.
    let source = c.args.source.now in
    let asked = c.args.asked.now in
    let named = c.args.named.now in
    let plan = asked.plan.now in
    let kind = kind_in plan in
    let ends = named.route.ends in
    let places = rows_in plan shown.snapshot named.route.number in
    let portion = c.args.portion in
    let found = c.in_ok-found.found in
    let spans = found.runs.items in
    let all = runs_seen shown plan named.route in
    let right = c.in_ok-found.ensures.runs shown shows lies there marked in
    let runs : List Stretch = map seen spans in
    let before = found.mark.before in
    let skip = c.saturating_sub.result in
    let part : Portion = record { skip = skip; most = portion.most; ahead = portion.ahead } in
    let past = c.in_ok-found.ensures.past in
    let long = length-map spans seen in
    let far : (portion.skip + portion.most ≤ before + length runs) ⊎ (before + length runs ≡ length all) =
    elim c.in_ok-found.ensures.enough.far [ inl some ↦ inl (omega (arith, some, long)) | inr whole ↦ inr (omega (arith, whole, long, right.marked.counts)) ] in
    let wanted = ap (map seen) (c.portion_of.ensures ∙ ap (portion_of part) c.as_slice.ensures.value) ∙ map-portion seen part spans
    ∙ ap (λ n. take portion.most (drop n runs)) c.saturating_sub.ensures ∙ portion-found all runs before right.starts portion.skip portion.most past far in
    let after = ap (map seen) (c.rest_of.ensures ∙ ap (drop (skip + portion.most)) c.as_slice-2.ensures.value) ∙ sym (drop-map seen (skip + portion.most) spans) in
    let rest = subst (λ n. IsStart (drop (n + portion.most) runs) (drop (portion.skip + portion.most) all)) (sym c.saturating_sub.ensures)
    (rest-found all runs before right.starts portion.skip portion.most past) in
    let line = line_of (λ place. position_seen shown named.route asked.method (place_on ends place)) kind named.name.bytes in
    let later = g.met.V.Versions.shows_stay source c.runs_after.new.source c.in_ok-found.ensures.ends.leaves.passes asked.version shown shows in
    let inside = hold-within kind ends places (holds-within kind ends places (lies.each named.name.bytes named.route there)) in
    let ahead = rows_of c.in_ok-ahead.ahead.items in
    portion-given shown plan lies named.name.bytes named.route there all (runs_of-runs kind ends.start (ends.finish + 1) places inside) asked.method portion (rows_of c.args.rows.now.items) (rows_of c.push_shown.new.rows.items)
    (record { all = found.mark.all; ahead = c.in_ok-ahead.ahead; mark = c.mark_before.result; next = c.mark_before-2.result })
    right.marked.counts
    (c.in_ok-ahead.ensures.printed shown later ∙ ap (λ (given : List Stretch). rows_of c.args.rows.now.items ++ map line given) wanted)
    (start-on ahead (map line (drop (skip + portion.most) runs)) (map line (drop (portion.skip + portion.most) all))
    (c.in_ok-ahead.ensures.ahead shown later ∙ ap (λ (given : List Stretch). take (length ahead) (map line given)) after) (start-map line (drop (skip + portion.most) runs) (drop (portion.skip + portion.most) all) rest))

pub returns-clause-marks : goal.returns-clause-marks
returns-clause-marks g c = λ shown shows lies there marked.
    let plan = c.args.asked.now.plan.now in
    let on = c.args.named.now.route in
    let right = c.in_ok-found.ensures.runs shown shows lies there marked in
    (c.mark_before.ensures shown plan on right, c.mark_before-2.ensures shown plan on right)
