-- The next piece comes before those that were copied.
use Rattle.std.proofs.Common.{◌≡◌, ◌+◌, ◌-◌, ◌≤◌, length, drop, ap, ◌∙◌, arith, rules}
use lib.Seq.{paste}
use Rattle.rs_records.proofs.Shifts.{up_more}
use Rattle.rs_records.proofs.records.shift_up.Goals as goal

pub loop-left-preserved : goal.loop-left-preserved
loop-left-preserved c =
    let size = c.min-size.result in
    let left = c.loop-left.left in
    let within : size ≤ left = search rules in
    let same : length c.copy_piece.new.bytes ≡ length c.args.bytes.now = search rules in
    let moved : c.copy_piece.new.bytes ≡ paste c.loop-left.bytes (c.args.to + (left - size)) (drop (c.args.start + (left - size)) c.loop-left.bytes) size = search rules in
    let more : size + (c.args.count - left) ≡ c.args.count - (left - size) = omega (arith, c.loop-left.invariant.within) in
    record {
      within = omega (arith, c.loop-left.invariant.within);
      size = same;
      copied = moved ∙ up_more c.args.bytes.now c.loop-left.bytes c.args.start c.args.to left size (left - size) (c.args.count - left)
          c.requires.upward (omega (arith, c.requires.inside, c.loop-left.invariant.within)) (omega arith) c.loop-left.invariant.copied
          ∙ ap (paste c.args.bytes.now (c.args.to + (left - size)) (drop (c.args.start + (left - size)) c.args.bytes.now)) more;
    }
