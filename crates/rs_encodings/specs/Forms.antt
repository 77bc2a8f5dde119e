-- What is made of bytes, and of the first of them.
use Rattle.std.specs.Prelude.{◌≡◌, ℕ, ◌<◌, ◌≤◌, Bool, true, List, [], ◌++◌, length, drop, Option, Some, None}
use Rattle.std.specs.Str.{encode_utf8_all}
use Rattle.rs_encodings.specs.declared.character.First.{First}
use Rattle.rs_encodings.specs.declared.encoding.ByteOrder.{ByteOrder}
use Rattle.rs_encodings.specs.declared.encoding.Code.{Code}
use Rattle.rs_encodings.specs.declared.encoding.Code.TheVariants.{Latin1, Utf16}
use Rattle.rs_encodings.specs.declared.encoding.Encoding.{Encoding}
use Rattle.rs_encodings.specs.declared.encoding.Encoding.TheVariants as encodings
use Rattle.rs_encodings.specs.declared.encoding.Form.{Form}
use Rattle.rs_encodings.specs.declared.encoding.Form.TheVariants.{Coded, Plain}
use Rattle.rs_encodings.specs.Texts.{marked_order, utf16_text, utf8_of}

-- the text of bytes in a code
abbrev pub text_in : Code → List ℕ → List ℕ
text_in Latin1 bytes = encode_utf8_all bytes
text_in (Utf16 order) bytes = utf16_text order bytes

-- what is made of bytes
abbrev pub text_as : Form → List ℕ → List ℕ
text_as Plain bytes = bytes
text_as (Coded code) bytes = text_in code bytes

-- what is to be made of an input by the order that its mark says
abbrev pub form_in : Option ByteOrder → Form
form_in None = Plain
form_in (Some order) = Coded (Utf16 order)

-- what is to be made of an input
abbrev pub form_of : Encoding → List ℕ → Form
form_of encodings.ByMark bytes = form_in (marked_order bytes)
form_of encodings.Latin1 bytes = Coded Latin1

-- what is made of it
abbrev pub made_of : Encoding → List ℕ → List ℕ
made_of encoding bytes = text_as (form_of encoding bytes) bytes

-- What comes first in these bytes, whatever comes after them, which is nothing where they are the last ones.
pub record Begins (code : Code) (is_last : Bool) (bytes : List ℕ) (first : First) : Type 0 where
  pub some : 0 < first.count
  pub within : first.count ≤ length bytes
  pub text : (rest : List ℕ) → (is_last ≡ true → rest ≡ []) → text_in code (bytes ++ rest) ≡ utf8_of first.character ++ text_in code (drop first.count bytes ++ rest)
