use Rattle.std.proofs.Common.{◌≡◌, true, false, None, sym, ap, ◌∙◌}
use Rattle.std.specs.Prelude.{is_some}
use Rattle.std.specs.Option.{option_map}
use Rattle.std.specs.FinMap as names
use Rattle.rs_catalog.proofs.StateLaws.{get-routes_of}
use Rattle.rs_checker.proofs.alignments.number_of.Goals as goal

pub unreachable-requires : goal.unreachable-requires
unreachable-requires c =
    let none : names.get c.args.catalog.now.routes c.args.name.now.bytes ≡ None = sym c.route.ensures ∙ c.in-None.is in
    let wrong : false ≡ true = sym (ap is_some (get-routes_of c.args.catalog.now c.args.name.now.bytes ∙ ap (option_map (λ item. item.ends)) none)) ∙ c.requires in
    cc
