-- What is shown of the table, and why it is not.
use Rattle.std.proofs.Common.{Err, List, ap, map, subst, sym, ◌∙◌}
use Rattle.std.proofs.lemmas.Result.{err_from_is_err_and}
use Rattle.rs_exec.specs.Given.{AreGiven}
use Rattle.rs_facts.specs.Runs.{Stretch}
use Rattle.rs_facts.specs.Spans.{seen}
use Rattle.rs_facts.specs.declared.fact.Span.{Span}
use Rattle.rs_store_source.proofs.Given.{given_none, given_shown}
use Rattle.rs_store_source.proofs.Passing.{shows_on, wants_counted}
use Rattle.rs_store_source.specs.Shown.{Shows}
use Rattle.rs_store_source.proofs.asked.spans_asked.Goals as goal

pub returns-then-not-is_shown-clause-gives : goal.returns-then-not-is_shown-clause-gives
returns-then-not-is_shown-clause-gives g c =
    subst (λ (spans : List Stretch). AreGiven (Shows g.D.Disk c.args.oldest c.args.store.now) c.args.asked.now c.args.part spans) (sym (ap (λ (spans : List Span). map seen spans) c.new.ensures.items))
    (given_none g.D.Disk c.args.oldest c.args.store.now c.args.asked.now c.args.part (sym c.is_shown.ensures ∙ c.if-not-is_shown.true))

pub returns-in_err-spans-clause-stays : goal.returns-in_err-spans-clause-stays
returns-in_err-spans-clause-stays g c = λ snapshots shows. shows_on g.D.Disk c.args.oldest c.args.store.now c.spans.new.self c.in_err-spans.ensures.reads snapshots shows

pub returns-in_err-spans-clause-wants : goal.returns-in_err-spans-clause-wants
returns-in_err-spans-clause-wants g c =
    let p = err_from_is_err_and c.from_residual.result c.from_residual.ensures.1 in
    rw (p.1, p.2) (wants_counted g.D.Disk (Err c.in_err-spans.field-0.0) c.args.store.now c.spans.new.self c.in_err-spans.ensures.refused c.in_err-spans.ensures.count
    (λ damaged. record { none = λ oldest state stands. c.in_err-spans.ensures.sound stands.contents stands.keeps damaged }))

pub returns-clause-gives : goal.returns-clause-gives
returns-clause-gives g c =
    given_shown g.D.Disk c.args.oldest c.args.store.now c.args.asked.now c.args.part c.spans_within_hold_what_the_table_holds.ensures.placed c.spans_within_hold_what_the_table_holds.ensures.rows
    (sym c.is_shown.ensures ∙ c.if-not-is_shown.false) c.window_of.result c.window_of.ensures (map seen c.in_ok-spans.spans.items) c.in_ok-spans.ensures.gives c.in_ok-spans.ensures.placed c.in_ok-spans.ensures.rows

pub returns-clause-stays : goal.returns-clause-stays
returns-clause-stays g c = λ snapshots shows. shows_on g.D.Disk c.args.oldest c.args.store.now c.spans.new.self c.in_ok-spans.ensures.reads snapshots shows
