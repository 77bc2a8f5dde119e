use Rattle.std.proofs.Common.{rules, ◌≡◌, ◌≤◌, [], ◌∷◌, ◌++◌, length, ap, subst, sym, lit<, arith, length-append}
use Rattle.rs_measure.proofs.PartText.{whole_digits_short}
use Rattle.rs_measure.proofs.part.write_part.Goals as goal

pub push_seven_digits-requires-clause-room : goal.push_seven_digits-requires-clause-room
push_seven_digits-requires-clause-room c =
    let whole : length c.format.result.now ≤ 3 = subst (λ t. length t ≤ 3) (sym c.format.ensures.text) (whole_digits_short c.billionths-billionths.result (omega arith)) in
    let empty : length c.new-text.result.bytes ≡ 0 = ap length c.new-text.ensures in
    let pushed : length c.push.new.self.bytes ≡ length (c.push_str.new.self.bytes ++ 46 ∷ []) = ap length (c.push.ensures.ascii (lit< tt)) in
    omega (arith, length-append c.push_str.new.self.bytes (46 ∷ []))

pub returns : goal.returns
returns c = search rules
