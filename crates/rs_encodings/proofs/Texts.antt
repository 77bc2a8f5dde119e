-- Texts that grow by a character, the end of one, and what is made of an input.
use Rattle.std.proofs.Common.{◌≡◌, ℕ, ◌<◌, List, [], ◌++◌, length, Option, Some, None, refl, ap, ◌∙◌, sym, arith, append_assoc}
use Rattle.std.proofs.lemmas.Str.{length-encode, len_utf8_bounds}
use Rattle.std.specs.Char.Utf16.{utf16_chars}
use Rattle.std.specs.Io.KnownBytes.{IsAtEnd, prepend_known}
use Rattle.rs_encodings.specs.declared.encoding.Code.{Code}
use Rattle.rs_encodings.specs.declared.encoding.Code.TheVariants.{Latin1, Utf16}
use Rattle.rs_encodings.specs.declared.encoding.Encoding.{Encoding}
use Rattle.rs_encodings.specs.declared.encoding.Form.{Form}
use Rattle.rs_encodings.specs.declared.encoding.Form.TheVariants.{Coded}
use Rattle.rs_encodings.specs.Reading.{left_of}
use Rattle.rs_encodings.specs.Forms.{text_in}
use Rattle.rs_encodings.specs.Texts.{utf8_of}

-- each is a byte at least
pub some_bytes : (o : Option ℕ) → 0 < length (utf8_of o)
some_bytes None = omega arith
some_bytes (Some c) = omega (arith, length-encode c, len_utf8_bounds c)

-- the text so far, and one character more
pub one_more : (whole ready front left after : List ℕ) → whole ≡ ready ++ left → left ≡ front ++ after → whole ≡ (ready ++ front) ++ after
one_more whole ready front left after so_far next = so_far ∙ ap (λ t. ready ++ t) next ∙ sym (append_assoc ready front after)

-- no byte is no text
no_text : (code : Code) → text_in code [] ≡ []
unfolding utf16_chars
no_text Latin1 = refl
no_text (Utf16 order) = refl

-- where nothing waits, the text ends where the bytes do
pub ends_left : (encoding : Encoding) (form : Option Form) (code : Code) (ready held : List ℕ) (a : Option (List ℕ)) → form ≡ Some (Coded code) → ready ≡ [] → held ≡ [] → IsAtEnd a
    → IsAtEnd (left_of encoding form ready (prepend_known held a))
ends_left encoding form code ready held None is none no_more end = rw is tt
ends_left encoding form code ready held (Some xs) is none no_more end = rw (is, none, no_more, end) (no_text code)
