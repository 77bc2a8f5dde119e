use Rattle.std.proofs.Common.{sym, subst}
use Rattle.rs_measure.specs.FixedPoint.{AreDigits}
use Rattle.rs_csv_lines.specs.Numbers.{IsRest}
use Rattle.rs_csv_lines.specs.declared.numbers.Rest.TheVariants as rests
use Rattle.rs_csv_lines.proofs.Units.{not_zeros, rest_below, rest_above}
use Rattle.rs_csv_lines.proofs.numbers.rest_of.Goals as goal

pub returns-then-digit-lt53 : goal.returns-then-digit-lt53
returns-then-digit-lt53 c =
    let cut = c.in-Some.ensures.cases.0 in
    let are = subst AreDigits cut c.requires in
    subst (IsRest rests.BelowHalf) (sym cut) (rest_below c.in-Some.first.now c.in-Some.others.now are c.if-digit-lt53.true)

pub returns-else-digit-lt53 : goal.returns-else-digit-lt53
returns-else-digit-lt53 c =
    let cut = c.in-Some.ensures.cases.0 in
    let are = subst AreDigits cut c.requires in
    subst (IsRest rests.AboveHalf) (sym cut) (rest_above c.in-Some.first.now c.in-Some.others.now are c.if-digit-lt53.false (λ _. not_zeros c.in-Some.others.now c.are_zeros.result c.are_zeros.ensures c.if-are_zeros.false))
