use Rattle.std.proofs.Common.{◌∙◌, sym, ap, Result, Ok, Err, OnOk}
use Rattle.std.specs.List.{list_any}
use Rattle.rs_value.specs.Values.{is_control}
use Rattle.rs_csv_lines.proofs.Clean.{is_clean_text}
use Rattle.rs_csv_lines.proofs.words.read_line.Goals as goal

on_ok : {T E P : Type 0} (r : Result T E) → P → OnOk r P
on_ok (Ok x) p = p
on_ok (Err e) p = tt

pub returns-clause-text : goal.returns-clause-text
returns-clause-text c =
    on_ok c.command_of.result (is_clean_text c.args.line.now c.utf8.line (ap (list_any is_control) (sym c.as_bytes.ensures.value) ∙ sym c.has_control.ensures ∙ c.if-has_control.false))

pub returns-clause-sound : goal.returns-clause-sound
returns-clause-sound c =
    c.command_of.ensures.sound (is_clean_text c.args.line.now c.utf8.line (ap (list_any is_control) (sym c.as_bytes.ensures.value) ∙ sym c.has_control.ensures ∙ c.if-has_control.false))
