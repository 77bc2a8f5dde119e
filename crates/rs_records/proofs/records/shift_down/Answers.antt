-- The next piece comes after those that were copied.
use Rattle.std.proofs.Common.{◌≡◌, ◌+◌, ◌≤◌, length, drop, ◌∙◌, arith, rules}
use lib.Seq.{paste}
use Rattle.rs_records.proofs.Shifts.{down_more}
use Rattle.rs_records.proofs.records.shift_down.Goals as goal

pub loop-done-preserved : goal.loop-done-preserved
loop-done-preserved c =
    let size = c.min-size.result in
    let within : c.loop-done.done + size ≤ c.args.count = search rules in
    let same : length c.copy_piece.new.bytes ≡ length c.args.bytes.now = search rules in
    let moved : c.copy_piece.new.bytes ≡ paste c.loop-done.bytes (c.args.to + c.loop-done.done) (drop (c.args.start + c.loop-done.done) c.loop-done.bytes) size = search rules in
    record {
      within = within;
      size = same;
      copied = moved ∙ down_more c.args.bytes.now c.loop-done.bytes c.args.start c.args.to c.loop-done.done size
          c.requires.downward (omega (arith, c.requires.inside)) c.loop-done.invariant.copied;
    }
