use Rattle.std.proofs.Common.{◌≡◌, ◌++◌, ◌∙◌, ap, arith, length, sym, take}
use Rattle.std.proofs.lemmas.List.{length-map, length-take, take-map}
use Rattle.std.specs.Prelude.{string_bytes}
use Rattle.rs_cursor.proofs.Steps.{kept-gives}
use Rattle.rs_cursor.proofs.next_lines.push_kept.Goals as goal
use Rattle.rs_serve.specs.ReplyView.{rows_of}

pub returns-clause-gives : goal.returns-clause-gives
returns-clause-gives c = λ versions cursor are.
    let lines = c.args.from.now.lines.now in
    let part = take c.min.result lines in
    let count : length part ≡ c.min.result = omega (arith, length-take c.min.result lines, c.min.ensures) in
    let old = rows_of c.args.lines.now.items in
    kept-gives (versions cursor.version) cursor.plan cursor.method c.args.place c.place_after.result (length part) c.args.from.now.all (rows_of lines) old (rows_of c.push_copies.new.rows.items)
    (omega (arith, length-map lines string_bytes, c.min.ensures))
    c.place_after.ensures.stays c.place_after.ensures.moves_on
    (c.in_ok-push_copies.ensures.copies ∙ ap (λ l. old ++ l) (sym (take-map string_bytes c.min.result lines) ∙ ap (λ n. take n (rows_of lines)) (sym count)))
    are
