-- Those of each cursor take 4 megabytes at the most, and there are those of four.
use Rattle.std.proofs.Common.{◌≤◌, ◌*◌, ◌^◌, ℕ, List, None, Option, Some, arith, length}
use Rattle.std.proofs.lemmas.List.Sums.{sum_by-le}
use Rattle.std.specs.Prelude.{slice_index_or, sum_by}
use Rattle.rs_answers.specs.Portions.{room_of}
use Rattle.rs_cursor.specs.Ahead.{lines_in, lines_of}
use Rattle.rs_cursor.specs.declared.kept.KeptLines.{KeptLines}
use Rattle.rs_engine.specs.declared.engine.ahead.Ahead.{Ahead}
use Rattle.rs_engine.proofs.engine.ahead.lines_ahead_take_at_most_16_megabytes.Goals as goal

abbrev room : Ahead → ℕ
room one = room_of (lines_of one.kept)

room_below : (lines : Option KeptLines) → room_of (lines_in lines) ≤ 4194304
room_below None = omega arith
room_below (Some lines) = lines.fits

all_below : (slots : List Ahead) → sum_by room slots ≤ length slots * 4194304
all_below slots = sum_by-le room 4194304 slots (λ k one within. room_below (slice_index_or slots k one).kept.lines)

of_four : (total count : ℕ) → total ≤ count * 4194304 → count ≤ 4 → total ≤ 2 ^ 24
of_four total count most few = omega (arith, most, few)

pub returns-clause-lines : goal.returns-clause-lines
returns-clause-lines c =
    let slots = c.args.ahead.now.slots in
    let few : length slots.items ≤ 4 = omega (arith, slots.ok.0, c.args.ahead.now.few) in
    of_four _ (length slots.items) (all_below slots.items) few
