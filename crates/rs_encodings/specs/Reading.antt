-- What a reader of texts has left.
use Rattle.std.specs.Prelude.{ℕ, List, Option, Some, None}
use Rattle.std.specs.Option.{option_map}
use Rattle.std.specs.Io.KnownBytes.{prepend_known}
use Rattle.rs_encodings.specs.declared.decoded.Decoded.{Decoded}
use Rattle.rs_encodings.specs.declared.encoding.Encoding.{Encoding}
use Rattle.rs_encodings.specs.declared.encoding.Form.{Form}
use Rattle.rs_encodings.specs.declared.encoding.Form.TheVariants.{Coded, Plain}
use Rattle.rs_encodings.specs.Forms.{made_of, text_in}
use Rattle.rs_encodings.specs.Waiting.{items}

-- the text of what is not decoded yet, where this is known, after what is: that is nothing but where characters are decoded
abbrev pub left_of : Encoding → Option Form → List ℕ → Option (List ℕ) → Option (List ℕ)
left_of encoding None ready unread = option_map (made_of encoding) unread
left_of encoding (Some Plain) ready unread = unread
left_of encoding (Some (Coded code)) ready unread = prepend_known ready (option_map (text_in code) unread)

module _ {R : Type 0} (remaining : R → Option (List ℕ)) where
  -- the text that is left, where the bytes of the reader underneath are known
  abbrev pub text_left : Decoded R → Option (List ℕ)
  text_left reader = left_of reader.encoding reader.form (items reader.ready) (prepend_known (items reader.raw) (remaining reader.inner))
