use Rattle.std.proofs.Common.{refl}
use Rattle.std.proofs.lemmas.Str.Ascii.{trim_ascii_is}
use Rattle.rs_csv_lines.specs.Names.{without_front}
use Rattle.rs_csv_lines.proofs.names.trimmed.Goals as goal

pub returns : goal.returns
returns c = trim_ascii_is c.args.text.now c.trim_ascii.result.now (without_front c.args.text.now) refl c.trim_ascii.ensures.value
