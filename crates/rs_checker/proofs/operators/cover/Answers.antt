use Rattle.std.proofs.Common.{◌++◌, map, sym, ap, ◌∙◌}
use Rattle.std.proofs.lemmas.List.{length-map}
use Rattle.rs_syntax.specs.View.{column_tree}
use Rattle.rs_checker.proofs.StepLaws.{cover_made}
use Rattle.rs_checker.proofs.operators.cover.Goals as goal

pub returns-clause-ok : goal.returns-clause-ok
returns-clause-ok c =
    cover_made c.args.left c.args.right c.joined.result (c.joined.ensures ∙ ap (λ zs. map column_tree c.args.left.columns.items ++ map column_tree zs) c.as_slice.ensures.value)
    c.len.result c.len-2.result (c.len.ensures.value ∙ sym (length-map c.args.left.columns.items column_tree)) (c.len-2.ensures.value ∙ sym (length-map c.args.right.columns.items column_tree))
    (sym c.may_cover.ensures ∙ c.in_ok-may_cover.was)
