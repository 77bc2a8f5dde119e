use Rattle.std.proofs.Common.{◌++◌, ◌∙◌, ap, codes}
use Rattle.rs_facts.specs.LineText.{positions_text}
use Rattle.rs_facts.specs.Spans.{seen}
use Rattle.rs_measure.specs.Measure.{measure_text}
use Rattle.rs_answers.specs.Printed.{place_on}
use Rattle.rs_answers.proofs.LineTexts.{absolute_line}
use Rattle.rs_answers.proofs.run_text.put_line_before.Goals as goal

pub returns-clause-put : goal.returns-clause-put
returns-clause-put c =
    let printer = c.args.printer.now in
    let run = seen c.args.run.now in
    let name = printer.name.now.bytes in
    let place = codes " " ++ positions_text (λ place. measure_text (place_on printer.route.ends place)) c.args.kind run in
    c.put_word_before.ensures.put
    ∙ (λ i. (c.as_bytes-name.ensures.value ∙ c.deref.ensures.0) i ++ (c.put_place_before-place.ensures.put ∙ ap (λ t. place ++ t) c.in_ok-values.ensures.put) i)
    ∙ absolute_line printer.referents.now printer.route printer.method c.args.kind name run _ c.in-Absolute.is
