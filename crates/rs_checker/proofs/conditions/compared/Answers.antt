use Rattle.std.proofs.Common.{map, sym, ap, ◌∙◌}
use Rattle.rs_syntax.specs.View.{column_tree}
use Rattle.rs_syntax.specs.QueryView.{operand_tree}
use Rattle.rs_machine.specs.Checking.{operand_checked}
use Rattle.rs_checker.proofs.ConditionLaws.{compare_checked, type_at}
use Rattle.rs_checker.proofs.conditions.compared.Goals as goal

pub returns-clause-ok : goal.returns-clause-ok
returns-clause-ok c =
    let columns = (map column_tree c.args.columns.now.items) in
    compare_checked columns c.args.name.now.bytes c.args.comparison (operand_tree c.args.operand.now) c.in_ok-place.place _ (sym c.in_ok-place.ensures.place)
    (ap (λ type. operand_checked columns type (operand_tree c.args.operand.now)) (type_at c.args.columns.now.items c.deref.result.now c.in_ok-place.place c.from.result c.index-deref-from.result c.deref.ensures.0 c.from.ensures c.in_ok-place.ensures.there) ∙ c.in_ok-term.ensures.ok)
