use Rattle.std.proofs.Common.{arith}
use Rattle.std.proofs.lemmas.Fmt.{length-decimal-le}
use Rattle.rs_backward_text.proofs.measures.put_whole_before.Goals as goal

pub write_digits-requires : goal.write_digits-requires
write_digits-requires c =
    let short = length-decimal-le 7 c.from.result (omega arith) (omega (arith, c.from.ensures, c.requires.whole)) (omega (arith, c.from.ensures, c.requires.whole)) in
    (omega (arith, short, c.requires.room), c.requires.inside)

pub returns-clause-few : goal.returns-clause-few
returns-clause-few c =
    let short = length-decimal-le 7 c.from.result (omega arith) (omega (arith, c.from.ensures, c.requires.whole)) (omega (arith, c.from.ensures, c.requires.whole)) in
    omega (arith, short, c.write_digits.ensures.start)
