use Rattle.std.proofs.Common.{rules, refl, ap, ◌∙◌, w64}
use Rattle.std.proofs.lemmas.Int.{to_z-of_z}
use Rattle.rs_value.specs.Row.{number}
use Rattle.rs_value.proofs.KeptReading.{eight_left, number_read, text_read}
use Rattle.rs_value.proofs.kept_bytes.first_value.Goals as goal

pub number_in-requires : goal.number_in-requires
number_in-requires c = eight_left c.args.bytes.now _ _ c.requires.0 c.in-Some.ensures.cases.0 c.if-mark-eq-NUMBER.true c.requires.1

pub returns-then-mark-eq-NUMBER : goal.returns-then-mark-eq-NUMBER
returns-then-mark-eq-NUMBER c row h = ap number (to_z-of_z w64 c.number_in.result (search rules))
    ∙ number_read c.args.bytes.now _ _ c.number_in.result row c.in-Some.ensures.cases.0 c.if-mark-eq-NUMBER.true c.number_in.ensures h

pub returns-else-mark-eq-NUMBER : goal.returns-else-mark-eq-NUMBER
returns-else-mark-eq-NUMBER c row h = text_read c.args.bytes.now _ _ _ c.length_before_zero.result row c.in-Some.ensures.cases.0 c.if-mark-eq-NULL.false c.if-mark-eq-NUMBER.false c.length_before_zero.ensures refl h
