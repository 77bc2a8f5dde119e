use Rattle.std.proofs.Common.{◌≡◌}
use Rattle.std.specs.Prelude.{decimal}
use Rattle.rs_refusal.specs.Refusal.{number_of, words_of}
use Rattle.rs_server.proofs.Saying.{line_from_parts}
use Rattle.rs_server.proofs.report.say_refusal.Goals as goal

pub returns : goal.returns
returns g c =
    let bytes = c.as_bytes-number.ensures.value in
    let digits = c.format.ensures.text in
    let number = c.number.ensures in
    let text = c.as_bytes-words_text.ensures.value in
    let string = c.as_str.ensures.value in
    let words = c.words-words.ensures in
    let is_number : c.as_bytes-number.result.now ≡ decimal (number_of c.args.refusal.now) = cc in
    let are_words : c.as_bytes-words_text.result.now ≡ words_of c.args.refusal.now = cc in
    line_from_parts _ c.put_parts.result c.args.refusal.now c.as_bytes-number.result.now c.as_bytes-words_text.result.now _ _ is_number are_words c.put_parts.ensures
