use Rattle.std.proofs.Common.{cond, Some, is_some, unwrap_or, sym, ap, ◌∙◌}
use Rattle.std.specs.BTreeMap.{is_at}
use Rattle.std.specs.Map.{lookup}
use Rattle.rs_value.specs.Row.{row_cmp}
use Rattle.rs_facts.specs.Spans.{seen}
use Rattle.rs_total.specs.Counting.{no_numbers}
use Rattle.rs_total.proofs.GroupMaps.{kept-changed}
use Rattle.rs_total.proofs.groups.add_to.Goals as goal

pub returns-in-Some : goal.returns-in-Some
returns-in-Some c = kept-changed c.args.summed c.args.start (seen c.args.span.now) c.args.groups.now.entries (c.get_mut.follows.lender c.with_span.result).entries c.args.group.now c.in-Some.numbers.now c.with_span.result
    (sym (ap (λ o. unwrap_or o no_numbers) c.in-Some.ensures.value)) c.with_span.ensures (((c.get_mut.follows.holds c.with_span.result).3 (ap is_some (sym c.in-Some.ensures.value))).0)

pub returns-in_ok-insert-in-None : goal.returns-in_ok-insert-in-None
returns-in_ok-insert-in-None c = kept-changed c.args.summed c.args.start (seen c.args.span.now) c.args.groups.now.entries c.insert.new.self.entries c.args.group.now c.none.result c.with_span-in-None.result
    (sym (ap (λ o. unwrap_or o no_numbers) c.in-None.ensures.value) ∙ sym c.none.ensures) c.with_span-in-None.ensures
    (λ q. c.in_ok-insert-in-None.ensures.updates.0 q
    ∙ (λ i. cond (is_at (row_cmp (c.in_ok-key-in-None.ensures i)) q) (Some c.with_span-in-None.result) (lookup (is_at (row_cmp q)) (c.get_mut.follows.holds-at-none i).entries)))
