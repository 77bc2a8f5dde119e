use Rattle.std.proofs.Common.{rules, ◌≡◌, ◌≤◌, [], ◌∷◌, ◌++◌, length, encode_utf8, ap, subst, sym, lit<, arith, length-append}
use Rattle.std.proofs.lemmas.Str.{encode_ascii}
use Rattle.rs_measure.proofs.MeasureText.{whole_digits_short}
use Rattle.rs_measure.proofs.measure.write_measure.Goals as goal

pub push-requires : goal.push-requires
push-requires c =
    let whole : length c.format.result.now ≤ 6 = subst (λ t. length t ≤ 6) (sym c.format.ensures.text) (whole_digits_short c.thousandths-thousandths.result (omega arith)) in
    let empty : length c.new-text.result.bytes ≡ 0 = ap length c.new-text.ensures in
    let point : length (encode_utf8 46) ≡ 1 = ap length (encode_ascii 46 (lit< tt)) in
    (lit< tt, omega arith)

pub push_three_digits-requires : goal.push_three_digits-requires
push_three_digits-requires c =
    let whole : length c.format.result.now ≤ 6 = subst (λ t. length t ≤ 6) (sym c.format.ensures.text) (whole_digits_short c.thousandths-thousandths.result (omega arith)) in
    let empty : length c.new-text.result.bytes ≡ 0 = ap length c.new-text.ensures in
    let pushed : length c.push.new.self.bytes ≡ length (c.push_str.new.self.bytes ++ 46 ∷ []) = ap length (c.push.ensures.ascii (lit< tt)) in
    (omega arith, omega (arith, length-append c.push_str.new.self.bytes (46 ∷ [])))

pub returns : goal.returns
returns c = search rules
