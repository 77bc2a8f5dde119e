use Rattle.std.proofs.Common.{◌∷◌, [], ◌++◌, take, map, sym, ap, ◌∙◌, lit<, append_assoc, take_all, arith}
use Rattle.std.proofs.lemmas.List.{take_more, map-append, append-nil}
use Rattle.rs_syntax.specs.View.{column_tree}
use Rattle.rs_checker.proofs.columns.joined.Goals as goal

pub loop-column-init : goal.loop-column-init
loop-column-init c = (omega arith, sym (append-nil c.args.left.items))

pub push-requires : goal.push-requires
push-requires c = (lit< tt, omega (arith, c.loop-column.invariant.0, c.loop-column-test.true, c.requires))

pub loop-column-preserved : goal.loop-column-preserved
loop-column-preserved c = (
  omega (arith, c.push.ensures.len, c.loop-column.invariant.0),
  c.push.ensures.items ∙ ap (λ zs. zs ++ c.column-item.result ∷ []) c.loop-column.invariant.1 ∙ append_assoc c.args.left.items (take c.loop-column.column-index c.args.right.now) (c.column-item.result ∷ [])
      ∙ ap (λ zs. c.args.left.items ++ zs) (sym (take_more c.args.right.now c.loop-column.column-index c.column-item.result c.loop-column-test.true ∙ ap (λ x. take c.loop-column.column-index c.args.right.now ++ x ∷ []) (sym c.column-item.is))),
)

pub returns : goal.returns
returns c = ap (map column_tree) (c.loop-column.invariant.1 ∙ ap (λ zs. c.args.left.items ++ zs) (take_all _ _ c.loop-column-test.false)) ∙ map-append column_tree c.args.left.items c.args.right.now
