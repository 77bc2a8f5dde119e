use Rattle.std.proofs.Common.{◌≡◌, sym, ◌∙◌}
use Rattle.rs_value.specs.LentView.{lent_datum}
use Rattle.rs_facts.specs.Operators.{datum_at}
use Rattle.rs_facts.specs.Spans.{seen}
use Rattle.rs_total.specs.Counting.{with_places, with_value, with_summed, with_span}
use Rattle.rs_total.proofs.numbers.Numbers.with_span.Goals as goal

pub returns-in-None : goal.returns-in-None
unfolding with_span
returns-in-None c = c.with_places-numbers.ensures ∙ (λ i. with_summed (sym c.in-None.is i) (seen c.args.span.now) (with_places (c.on_line.ensures i) (c.on_line-2.ensures i) c.args.self))

pub returns-in-Some : goal.returns-in-Some
unfolding with_span
returns-in-Some c =
    let datum : lent_datum c.value_at.result ≡ datum_at c.args.span.now.tuple c.in-Some.column = cc in
    c.with_value.ensures
    ∙ (λ i. with_value (c.saturating_sub.ensures i) (datum i) (c.with_places-numbers.ensures i))
    ∙ (λ i. with_summed (sym c.in-Some.is i) (seen c.args.span.now) (with_places (c.on_line.ensures i) (c.on_line-2.ensures i) c.args.self))
