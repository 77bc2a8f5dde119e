-- The text of values that are kept, one after another.
use Rattle.std.proofs.Common.{◌≡◌, ℕ, List, [], ◌∷◌, ◌++◌, length, drop, get_or, ◌==◌, false, sym, ap, ◌∙◌, arith, append_assoc, append-nil, length-append}
use Rattle.rs_value.specs.Row.{null, Row}
use Rattle.rs_value.specs.Text.{datum_text, values_text}
use Rattle.rs_value.specs.Kept.{kept_datum, kept_bytes, Keeps}
use Rattle.rs_value.proofs.KeptRows.{datum_some}

pub each_more : (rest text pushed told : List ℕ) (row : Row) → Keeps rest row → (length rest == 0) ≡ false → pushed ≡ text ++ 32 ∷ [] → told ≡ pushed ++ datum_text (get_or row 0 null)
    → told ++ values_text (drop 1 row) ≡ text ++ values_text row
each_more rest text pushed told [] h some space is = let none : length rest ≡ 0 = ap length h.bytes_are in let no : (length rest == 0) ≡ (0 == 0) = ap (λ (n : ℕ). n == 0) none in cc
each_more rest text pushed told (d ∷ row) h some space is =
    ap (λ l. l ++ values_text row) (is ∙ ap (λ l. l ++ datum_text d) space)
    ∙ append_assoc (text ++ 32 ∷ []) (datum_text d) (values_text row) ∙ append_assoc text (32 ∷ []) (datum_text d ++ values_text row)

pub no_more : (rest text whole : List ℕ) (row : Row) → Keeps rest row → length rest ≡ 0 → text ++ values_text row ≡ whole → text ≡ whole
no_more rest text whole [] h none is = sym (append-nil text) ∙ is
no_more rest text whole (d ∷ row) h none is =
    let one = datum_some d in
    absurd (omega (arith, ap length h.bytes_are, length-append (kept_datum d) (kept_bytes row)))
