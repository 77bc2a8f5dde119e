use Rattle.std.proofs.Common.{sym}
use Rattle.rs_value.proofs.EncodingSteps.{no_utf8_text, text_true}
use Rattle.rs_value.proofs.text.as_text.Goals as goal

pub returns-else-has_control : goal.returns-else-has_control
returns-else-has_control c = (c.in-Ok.ensures.cases.0, text_true _ c.in-Ok.ensures.cases.1 (sym c.if-has_control.ensures))

pub returns-in-Err : goal.returns-in-Err
returns-in-Err c = no_utf8_text _ c.in-Err.ensures.cases.0
