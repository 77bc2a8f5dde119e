use Rattle.std.proofs.Common.{arith}
use Rattle.rs_measure.specs.FixedPoint.{AreDigits}
use Rattle.std.proofs.Common.{subst, sym}
use Rattle.rs_csv_lines.specs.Numbers.{AreBlanks}
use Rattle.rs_csv_lines.proofs.Units.{writes_number}
use Rattle.rs_csv_lines.proofs.numbers.written_number.Goals as goal

pub returns : goal.returns
returns c =
    let first = c.split_at.ensures in
    let second = c.split_at-2.ensures in
    let sign = c.after_sign-is_negative.ensures in
    writes_number c.args.text.now c.split_at.result.0.now c.split_at.result.1.now sign.0 c.after_sign-is_negative.result.1.now c.split_at-2.result.0.now c.split_at-2.result.1.now c.after_point.result.0.now c.after_point.result.1.now
    c.after_sign-is_negative.result.0 c.count_blanks-else-whole-decimals-eq0.result first.by_index.0 (subst AreBlanks (sym first.front) c.count_blanks.ensures.blanks) sign.2 sign.1 second.by_index.0
    (subst AreDigits (sym second.front) c.count_digits.ensures.digits) c.after_point.ensures.cut c.after_point.ensures.digits (omega (arith, c.if-whole-decimals-eq0.false)) c.count_blanks-else-whole-decimals-eq0.ensures.blanks c.if-count_blanks-behind.false
