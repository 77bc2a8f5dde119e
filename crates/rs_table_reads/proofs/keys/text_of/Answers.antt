-- UTF-8 without a control byte is a text.
use Rattle.std.proofs.Common.{◌≡◌, ◌≤◌, ◌∙◌, false, length, ℕ, List, sym, ap, refl, rules}
use Rattle.std.proofs.lemmas.Str.{is_utf8-from_IsUtf8}
use Rattle.std.specs.List.{list_any}
use Rattle.std.specs.Prelude.{IsTrue}
use Rattle.std.specs.Str.{IsUtf8}
use Rattle.rs_value.specs.Values.{is_control, is_text}
use Rattle.rs_table_reads.proofs.keys.text_of.Goals as goal

text_true : (bytes : List ℕ) → IsUtf8 bytes → list_any is_control bytes ≡ false → IsTrue (is_text bytes)
text_true bytes utf8 plain = rw (is_utf8-from_IsUtf8 bytes utf8, plain) refl

pub returns-in-Ok-clause-is_one : goal.returns-in-Ok-clause-is_one
returns-in-Ok-clause-is_one c =
    let plain : list_any is_control c.args.text.now ≡ false = ap (list_any is_control) (sym c.as_bytes.ensures.value) ∙ sym c.has_control.ensures ∙ c.if-has_control.false in
    let short : length c.args.text.now ≤ c.args.most = search rules in
    (text_true c.args.text.now c.utf8.text plain, short)
