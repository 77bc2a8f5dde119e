use Rattle.std.proofs.Common.{◌≤◌, ◌⊎◌, ℕ, inl, inr, arith, length}
use Rattle.std.proofs.lemmas.List.{length-map}
use Rattle.std.specs.FinMap as names
use Rattle.std.specs.Prelude.{string_bytes}
use Rattle.rs_answers.specs.Versions.{lines_seen_on}
use Rattle.rs_cursor.proofs.NextLines.{lines-given, lines-left, lines-more, lines_from}
use Rattle.rs_cursor.proofs.Steps.{route-at}
use Rattle.rs_cursor.proofs.next_lines.lines_of_routes.Goals as goal
use Rattle.rs_cursor.proofs.next_lines.lines_of_routes.Goals.{then-loop-place-test+else-len-wanted, else-loop-place-test}
use Rattle.rs_serve.specs.ReplyView.{rows_of}

pub loop-place-preserved : goal.loop-place-preserved
loop-place-preserved g c =
    let before = c.loop-place.invariant in
    let after = c.in_ok-place.ensures in
    let store = c.args.store.now in
    let cursor = c.args.cursor.now in
    let place = c.loop-place.place in
    let routes = c.args.routes.now in
    let named = c.index-routes-place.result in
    record {
      leaves = record {
        stands = λ snapshots there. after.ends.leaves.stands snapshots (before.leaves.stands snapshots there);
        passes = g.met.V.Source.passes_trans store c.loop-place.store c.push_lines.new.store before.leaves.passes after.ends.leaves.passes;
      };
      few = omega (arith, after.goes_on.no_more);
      parted = λ shown shows lies kept.
          let entries = names.entries shown.routes in
          let each = lines_seen_on shown cursor.plan cursor.method in
          let now = g.met.V.Versions.shows_stay store c.loop-place.store before.leaves.passes cursor.version shown shows in
          let at = route-at shown routes place.route named kept.listed (omega arith) c.index-routes-place.is in
          let gives = after.gives.at (λ (version : ℕ). shown) (record { shows = now; lies = lies; at = at }, before.keeps shown shows lies kept) in
          lines-more (lines_from each entries cursor.place) (rows_of c.loop-place.lines.items) gives.given (rows_of c.push_lines.new.lines.items) (lines_from each entries place)
          (lines_from each entries c.in_ok-place.place) (before.parted shown shows lies kept) gives.parts gives.gives;
      keeps = λ shown shows lies kept.
          let now = g.met.V.Versions.shows_stay store c.loop-place.store before.leaves.passes cursor.version shown shows in
          let at = route-at shown routes place.route named kept.listed (omega arith) c.index-routes-place.is in
          after.keeps shown (record { shows = now; lies = lies; at = at }) (before.keeps shown shows lies kept);
    }

pub returns-in_err-place-clause-keeps : goal.returns-in_err-place-clause-keeps
returns-in_err-place-clause-keeps g c = λ shown shows lies kept.
    let before = c.loop-place.invariant in
    let place = c.loop-place.place in
    let now = g.met.V.Versions.shows_stay c.args.store.now c.loop-place.store before.leaves.passes c.args.cursor.now.version shown shows in
    let at = route-at shown c.args.routes.now place.route c.index-routes-place.result kept.listed (omega arith) c.index-routes-place.is in
    c.in_err-place.ensures.keeps shown (record { shows = now; lies = lies; at = at }) (before.keeps shown shows lies kept)

pub returns-clause-given : goal.returns-clause-given
returns-clause-given g c = λ versions shows lies kept.
    let cursor = c.args.cursor.now in
    let shown = versions cursor.version in
    let lines = c.loop-place.lines in
    let before = c.loop-place.invariant in
    let counted = length-map lines.items string_bytes in
    let each = lines_seen_on shown cursor.plan cursor.method in
    let few = g.met.V.Versions.shows_few c.args.store.now cursor.version shown shows in
    let enough : (c.args.wanted ≤ length (rows_of lines.items)) ⊎ (c.count_of-count.result ≤ c.loop-place.place.route) = elim c.loop-place-test.branch [
      | then-loop-place-test+else-len-wanted w ↦ inl (omega (arith, counted, lines.ok.0))
      | else-loop-place-test w ↦ inr (omega arith)
    ] in
    let parted = before.parted shown shows lies kept in
    record {
      gives = lines-given each c.args.routes.now shown.routes kept.listed few c.count_of-count.result (omega (arith, c.count_of-count.ensures)) cursor.place c.loop-place.place (rows_of lines.items) parted
          c.args.wanted (omega (arith, counted, lines.ok.0, before.few)) enough;
      others = lines-left each c.args.routes.now shown.routes kept.listed few c.count_of-count.result (omega (arith, c.count_of-count.ensures)) cursor.place c.loop-place.place (rows_of lines.items) parted
          c.args.wanted (omega (arith, counted, lines.ok.0, before.few)) enough;
    }
