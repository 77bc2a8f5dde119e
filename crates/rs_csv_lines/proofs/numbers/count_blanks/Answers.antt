use Rattle.rs_csv_lines.proofs.Units.{blanks_more}
use Rattle.rs_csv_lines.proofs.numbers.count_blanks.Goals as goal

pub loop-place-preserved : goal.loop-place-preserved
loop-place-preserved c = blanks_more c.args.bytes.now c.loop-place.place c.loop-place-test.true c.loop-place.invariant c.if-bytes-place-ne32.false
