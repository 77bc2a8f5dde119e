use Rattle.std.proofs.Common.{ap, ◌∙◌}
use Rattle.std.specs.Str.{bytes_eq}
use Rattle.rs_methods.specs.Position.{start_name}
use Rattle.rs_catalog.proofs.ReferentLaws.{start_by_bytes}
use Rattle.rs_stored_catalog.proofs.view_windows.is_start.Goals as goal

pub returns : goal.returns
returns c = c.eq.ensures ∙ ap (λ name. bytes_eq name start_name) c.as_str.ensures.value ∙ start_by_bytes c.args.name.now.bytes
