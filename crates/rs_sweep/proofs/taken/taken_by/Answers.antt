use Rattle.std.proofs.Common.{IsPermutation, ap, ◌∙◌, subst}
use Rattle.std.proofs.lemmas.Result.{IfOk-weaker}
use Rattle.rs_value.specs.declared.column.Kind.TheVariants.{Line}
use Rattle.rs_coalesce.specs.Joined.{joined}
use Rattle.rs_sweep.proofs.TakenLaws.{keys, gathered-all, gathered-each}
use Rattle.rs_sweep.proofs.taken.taken_by.Goals as goal

moved : (c : goal.After-drop-order) → IsPermutation c.args.spans.now c.sort_by_row.new.order.items
moved c = subst (λ zs. IsPermutation zs c.sort_by_row.new.order.items) c.in_ok-order-in-Each.ensures.items c.sort_by_row.ensures.moved

pub returns-in-All-clause-kept : goal.returns-in-All-clause-kept
returns-in-All-clause-kept c = IfOk-weaker c.join.result _ _ (λ taken made. (gathered-all c.args.rows c.args.spans.now taken.items c.in-All.is c.requires.sorted c.requires.placed made).kept) c.join.ensures

pub returns-in-All-clause-same : goal.returns-in-All-clause-same
returns-in-All-clause-same c = IfOk-weaker c.join.result _ _ (λ taken made. (gathered-all c.args.rows c.args.spans.now taken.items c.in-All.is c.requires.sorted c.requires.placed made).same) c.join.ensures

pub returns-in_ok-order-in-Each-clause-kept : goal.returns-in_ok-order-in-Each-clause-kept
returns-in_ok-order-in-Each-clause-kept c = IfOk-weaker c.join-in-Each.result _ _ (λ taken made. (gathered-each c.args.rows c.args.spans.now c.sort_by_row.new.order.items taken.items c.in-Each.is c.requires.placed (moved c) c.sort_by_row.ensures.sorted (made ∙ ap (λ zs. joined Line (keys c.args.rows zs)) c.as_slice.ensures.value)).kept) c.join-in-Each.ensures

pub returns-in_ok-order-in-Each-clause-same : goal.returns-in_ok-order-in-Each-clause-same
returns-in_ok-order-in-Each-clause-same c = IfOk-weaker c.join-in-Each.result _ _ (λ taken made. (gathered-each c.args.rows c.args.spans.now c.sort_by_row.new.order.items taken.items c.in-Each.is c.requires.placed (moved c) c.sort_by_row.ensures.sorted (made ∙ ap (λ zs. joined Line (keys c.args.rows zs)) c.as_slice.ensures.value)).same) c.join-in-Each.ensures
