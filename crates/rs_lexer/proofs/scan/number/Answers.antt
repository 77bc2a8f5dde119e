use Rattle.std.proofs.Common.{rules, ◌≡◌, ◌+◌, false, get_or, ap, ◌∙◌, arith}
use Rattle.std.proofs.lemmas.Bool.Decides.{nat_tests}
use Rattle.std.proofs.lemmas.List.{take_rest}
use Rattle.std.specs.Prelude.{◌==◌}
use Rattle.std.specs.Char.{is_ascii_digit}
use Rattle.std.specs.List.{prefix_len}
use Rattle.rs_lexer.proofs.LongestLaws.{whole_number, with_decimals, without_decimals}
use Rattle.rs_lexer.proofs.scan.number.Goals as goal
use Rattle.rs_lexer.proofs.scan.number.Goals.{else-whole-rest-via-then-whole-rest+else-rest-whole-eq46, else-whole-rest-via-else-whole-rest}

pub overflow_add-result-then-decimals-gt0 : goal.overflow_add-result-then-decimals-gt0
overflow_add-result-then-decimals-gt0 c =
    let point : get_or c.args.rest.now c.digits_length-whole.result 0 ≡ 46 = grind (arith, nat_tests) in
    let few = (with_decimals c.args.rest.now c.digits_length-whole.result c.digits_length-whole.ensures c.if-whole-rest.true point c.digits_length-decimals.result
    (c.digits_length-decimals.ensures ∙ ap (prefix_len is_ascii_digit) (take_rest c.args.rest.now (c.digits_length-whole.result + 1))) c.if-decimals-gt0.true).inside in
    search rules

pub returns-then-decimals-gt0 : goal.returns-then-decimals-gt0
returns-then-decimals-gt0 c =
    let point : get_or c.args.rest.now c.digits_length-whole.result 0 ≡ 46 = grind (arith, nat_tests) in
    with_decimals c.args.rest.now c.digits_length-whole.result c.digits_length-whole.ensures c.if-whole-rest.true point c.digits_length-decimals.result
    (c.digits_length-decimals.ensures ∙ ap (prefix_len is_ascii_digit) (take_rest c.args.rest.now (c.digits_length-whole.result + 1))) c.if-decimals-gt0.true

pub returns-else-decimals-gt0 : goal.returns-else-decimals-gt0
returns-else-decimals-gt0 c =
    let point : get_or c.args.rest.now c.digits_length-whole.result 0 ≡ 46 = grind (arith, nat_tests) in
    let are = c.digits_length-decimals.ensures ∙ ap (prefix_len is_ascii_digit) (take_rest c.args.rest.now (c.digits_length-whole.result + 1)) in
    without_decimals c.args.rest.now c.digits_length-whole.result c.digits_length-whole.ensures c.if-whole-rest.true point (omega (arith, are, c.if-decimals-gt0.false))

pub returns-else-whole-rest : goal.returns-else-whole-rest
returns-else-whole-rest c = elim c.else-whole-rest.branch [
  | else-whole-rest-via-then-whole-rest+else-rest-whole-eq46 w ↦
      let no_point : (get_or c.args.rest.now c.digits_length-whole.result 0 == 46) ≡ false = grind (arith, nat_tests) in
      whole_number c.args.rest.now c.digits_length-whole.result c.digits_length-whole.ensures (λ lt. no_point)
  | else-whole-rest-via-else-whole-rest w ↦
      whole_number c.args.rest.now c.digits_length-whole.result c.digits_length-whole.ensures (λ lt. absurd (omega (arith, w.if-whole-rest.false)))
]
