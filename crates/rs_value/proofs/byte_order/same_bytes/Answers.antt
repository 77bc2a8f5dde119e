use Rattle.std.proofs.Common.{sym, ap, ◌∙◌}
use Rattle.std.specs.Int.{w64, to_be_bytes}
use Rattle.std.specs.Ordering.{is_eq}
use Rattle.rs_value.proofs.SameBytes.{same_where_tied, same_in_front}
use Rattle.rs_value.proofs.byte_order.same_bytes.Goals as goal

pub returns-then-number_in : goal.returns-then-number_in
returns-then-number_in c = same_in_front c.is_eq.result _ _ _ _ _ _ c.if-one-other.false
    c.in-Some-Some.ensures.cases.0 c.in-Some-Some.ensures'.cases.0 c.in-Some-Some.ensures.cases.1 c.in-Some-Some.ensures'.cases.1
    (sym c.number_in.ensures ∙ ap (to_be_bytes w64) c.if-number_in.true ∙ c.number_in-in-Some-Some.ensures)
    (c.is_eq.ensures ∙ ap is_eq c.compare_bytes.ensures)

pub returns-in_default : goal.returns-in_default
returns-in_default c = same_where_tied c.is_eq-in_default.result c.args.one.now c.args.other.now (c.is_eq-in_default.ensures ∙ ap is_eq c.compare_each.ensures)
