use Rattle.std.proofs.Common.{◌∙◌, ◌&&◌, not, sym, ap}
use Rattle.std.specs.List.{list_any}
use Rattle.std.proofs.lemmas.Str.{is_utf8-from_IsUtf8}
use Rattle.rs_value.specs.Values.{is_control}
use Rattle.rs_stored_catalog.proofs.ViewTexts.{is_text-no_utf8}
use Rattle.rs_stored_catalog.proofs.view_texts.is_text.Goals as goal

pub returns-in-Ok : goal.returns-in-Ok
returns-in-Ok c = ap not c.has_control.ensures ∙ sym (ap (λ b. b && not (list_any is_control c.args.bytes.now)) (is_utf8-from_IsUtf8 c.args.bytes.now c.in-Ok.ensures.cases.1))

pub returns-in-Err : goal.returns-in-Err
returns-in-Err c = sym (is_text-no_utf8 c.args.bytes.now c.in-Err.ensures.cases.0)
