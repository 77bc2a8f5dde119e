use Rattle.std.proofs.Common.{◌≡◌, ◌+◌, ◌++◌, ap, ◌∙◌, arith, drop, length, subst}
use Rattle.std.proofs.lemmas.List.{length-append}
use Rattle.rs_encodings.specs.Forms.{Begins, text_in}
use Rattle.rs_encodings.specs.Texts.{utf8_of}
use Rattle.rs_encodings.specs.Waiting.{items}
use Rattle.rs_encodings.proofs.Texts.{one_more, some_bytes}
use Rattle.rs_encodings.proofs.decoded.decode.Goals as goal

pub characters-preserved : goal.characters-preserved
characters-preserved c =
    let ready = items c.characters.ready in
    let raw = items c.characters.raw in
    let first = c.in-Some.first in
    let begins : Begins c.args.code c.args.is_last raw first = subst (λ t. Begins c.args.code c.args.is_last t first) c.as_slice.ensures.value c.in-Some.ensures.some in
    let size : length (items c.push_character.new.self) ≡ length ready + length (utf8_of first.character) = ap length c.push_character.ensures.items ∙ length-append ready (utf8_of first.character) in
    let some = some_bytes first.character in (
      λ rest last. rw (c.push_character.ensures.items, c.consume.ensures)
          (one_more _ ready (utf8_of first.character) _ (text_in c.args.code (drop first.count raw ++ rest)) (c.characters.invariant.0 rest last) (begins.text rest last)),
      omega (arith, size, c.push_character.ensures.room, c.characters.invariant.1),
      λ none. let empty : length (items c.push_character.new.self) ≡ 0 = ap length none in absurd (omega (arith, size, some, empty)),
    )
