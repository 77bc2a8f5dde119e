use Rattle.std.proofs.Common.{◌++◌, map, sym, ap, ◌∙◌}
use Rattle.rs_syntax.specs.View.{column_tree}
use Rattle.rs_checker.proofs.StepLaws.{overlay_made}
use Rattle.rs_checker.proofs.operators.overlay.Goals as goal

pub returns-clause-ok : goal.returns-clause-ok
returns-clause-ok c =
    overlay_made c.args.left c.args.right c.joined.result (c.joined.ensures ∙ ap (λ zs. map column_tree c.args.left.columns.items ++ map column_tree zs) c.as_slice.ensures.value)
    c.overlaid_kind.result c.overlaid_kind.ensures (sym c.may_stand_together.ensures ∙ c.in_ok-may_stand_together.was)
