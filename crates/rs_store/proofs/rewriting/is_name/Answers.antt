use Rattle.std.proofs.Common.{sym, ap, ◌∙◌}
use Rattle.std.specs.Str.{bytes_eq}
use Rattle.rs_catalog.proofs.ReferentLaws.{same_bytes}
use Rattle.rs_store.proofs.rewriting.is_name.Goals as goal

pub returns : goal.returns
returns c = c.eq.ensures ∙ ap (bytes_eq c.args.text.now) c.as_str.ensures.value ∙ sym (same_bytes c.args.name.now.bytes c.args.text.now)
