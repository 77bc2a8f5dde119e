-- All three tests, or none of the order.
use Rattle.std.proofs.Common.{sym, ◌∙◌, arith}
use Rattle.std.proofs.lemmas.Bool.{false≢true}
use Rattle.std.specs.Option.{option_copied}
use Rattle.rs_tree.specs.Content.{content}
use Rattle.rs_tree_whole.proofs.Orders.{order_told, order_parts}
use Rattle.rs_tree_whole.proofs.order.is_in_order.Goals as goal
use Rattle.rs_tree_whole.proofs.order.is_in_order.Goals.{then-ascends, else-ascends}

pub returns-then-is_least : goal.returns-then-is_least
returns-then-is_least c =
    let least = option_copied c.args.least in
    let bound = option_copied c.args.bound in
    let begins = c.record_at-first.ensures.one c.args.count c.requires.some in
    let ends = c.record_at-last.ensures.one c.args.count (omega (arith, c.requires.some)) in
    elim c.if-ascends.branch [
      | then-ascends w ↦ (
        λ yes. order_told least bound c.args.count c.args.layout.width c.content-bytes.result.now (content c.args.page.now.bytes) c.record_at-first.result.now c.record_at-last.result.now
            c.content-bytes.ensures.bytes begins ends (c.ascends.ensures.0 w.if-ascends.true) (w.is_least.ensures.0 (sym w.value-is ∙ c.if-is_least.true)) (c.is_under.ensures.0 yes),
        λ order.
            c.is_under.ensures.1 (order_parts least bound c.args.count c.args.layout.width c.content-bytes.result.now (content c.args.page.now.bytes) c.record_at-first.result.now c.record_at-last.result.now
            c.content-bytes.ensures.bytes begins ends order).2,
      )
      | else-ascends w ↦ absurd (false≢true (sym w.if-ascends.false ∙ sym w.value-is ∙ c.if-is_least.true))
    ]
