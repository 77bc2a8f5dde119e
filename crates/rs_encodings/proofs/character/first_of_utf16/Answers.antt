use Rattle.std.proofs.Common.{◌<◌, ◌∙◌, ap, arith, length, rules, sym}
use Rattle.std.specs.Char.Utf16.{is_high_surrogate, is_low_surrogate, lone_unit_char}
use Rattle.rs_encodings.proofs.Characters.{begins_apart, begins_last, begins_low, begins_odd, begins_paired, paired_as}
use Rattle.rs_encodings.proofs.character.first_of_utf16.Goals as goal

pub returns-then-not-is_empty-clause-some : goal.returns-then-not-is_empty-clause-some
returns-then-not-is_empty-clause-some c =
    let some : 0 < length c.args.bytes.now = search rules in
    begins_odd c.args.order c.args.is_last c.args.bytes.now some c.if-bytes-lt2.true c.if-is_last.true

pub returns-then-not-is_high-clause-some : goal.returns-then-not-is_high-clause-some
returns-then-not-is_high-clause-some c =
    begins_low c.args.order c.args.is_last c.args.bytes.now c.alone.result (omega arith) c.alone.ensures.count (c.alone.ensures.character ∙ ap lone_unit_char c.unit-first.ensures)
    (ap is_high_surrogate (sym c.unit-first.ensures) ∙ sym c.is_high.ensures ∙ c.if-not-is_high.true)

pub returns-then-is_last-2-clause-some : goal.returns-then-is_last-2-clause-some
returns-then-is_last-2-clause-some c =
    begins_last c.args.order c.args.is_last c.args.bytes.now c.alone-then-is_last-2.result (omega arith) (omega arith) c.alone-then-is_last-2.ensures.count
    (c.alone-then-is_last-2.ensures.character ∙ ap lone_unit_char c.unit-first.ensures) c.if-is_last-2.true

pub returns-then-is_low-clause-some : goal.returns-then-is_low-clause-some
returns-then-is_low-clause-some c =
    begins_paired c.args.order c.args.is_last c.args.bytes.now c.paired.result (omega arith) c.paired.ensures.count
    (paired_as c.paired.result.character c.unit-first.result c.unit-second.result _ _ c.paired.ensures.character c.unit-first.ensures c.unit-second.ensures)
    (ap is_high_surrogate (sym c.unit-first.ensures) ∙ sym c.is_high.ensures ∙ c.if-not-is_high.false)
    (ap is_low_surrogate (sym c.unit-second.ensures) ∙ sym c.is_low.ensures ∙ c.if-is_low.true)

pub returns-else-is_low-clause-some : goal.returns-else-is_low-clause-some
returns-else-is_low-clause-some c =
    begins_apart c.args.order c.args.is_last c.args.bytes.now c.alone-else-is_low.result (omega arith) c.alone-else-is_low.ensures.count
    (c.alone-else-is_low.ensures.character ∙ ap lone_unit_char c.unit-first.ensures)
    (ap is_low_surrogate (sym c.unit-second.ensures) ∙ sym c.is_low.ensures ∙ c.if-is_low.false)
