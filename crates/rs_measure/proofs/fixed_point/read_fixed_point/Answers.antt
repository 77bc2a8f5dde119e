use Rattle.std.proofs.Common.{◌≡◌, ◌+◌, ◌^◌, ◌<◌, length, rules, ◌∙◌}
use Rattle.std.specs.List.{position_or_len, before_first, after_first}
use Rattle.rs_measure.proofs.FixedPoint.{is_point, some_in_range, refused_without_point, unsaid_whole, unsaid_decimals, if_none}
use Rattle.rs_measure.proofs.fixed_point.read_fixed_point.Goals as goal

pub returns-in_err-whole-in-Some-clause-none : goal.returns-in_err-whole-in-Some-clause-none
returns-in_err-whole-in-Some-clause-none c =
    let before : c.in-Some.whole.now ≡ before_first is_point c.args.text.now = search rules in
    let point : position_or_len is_point c.args.text.now < length c.args.text.now = search rules in
    if_none c.from_residual.result _ (unsaid_whole c.args.whole_digits c.args.places c.args.text.now _ (c.as_bytes-in-Some.ensures.value ∙ before) point c.in_err-whole-in-Some.ensures.none)

pub returns-in_err-part-in-Some-clause-none : goal.returns-in_err-part-in-Some-clause-none
returns-in_err-part-in-Some-clause-none c =
    let after : c.in-Some.decimals.now ≡ after_first is_point c.args.text.now = search rules in
    let point : position_or_len is_point c.args.text.now < length c.args.text.now = search rules in
    if_none c.from_residual-in_err-part-in-Some.result _ (unsaid_decimals c.args.whole_digits c.args.places c.args.text.now _ (c.as_bytes-in-Some-2.ensures.value ∙ after) point c.in_err-part-in-Some.ensures.none)

pub returns-in-None-clause-none : goal.returns-in-None-clause-none
returns-in-None-clause-none c =
    let no_point : position_or_len is_point c.args.text.now ≡ length c.args.text.now = search rules in
    refused_without_point c.args.whole_digits c.args.places c.args.text.now _ c.whole_units.result c.as_bytes.ensures.value no_point c.whole_units.ensures.none

pub returns-in-None-clause-in_range : goal.returns-in-None-clause-in_range
returns-in-None-clause-in_range c = some_in_range c.args.places (10 ^ (c.args.whole_digits + c.args.places)) c.whole_units.result c.whole_units.ensures.in_range
