use Rattle.std.proofs.Common.{◌≡◌, ◌++◌, ◌∙◌, ℕ, List, ap, map, refl, subst, sym}
use Rattle.std.specs.Prelude.{Err, IfOk, Ok, Result}
use Rattle.std.specs.Result.{result_unwrap_or}
use Rattle.rs_answers.proofs.ShownLines.{lines-printed}
use Rattle.rs_answers.proofs.route_lines.push_shown.Goals as goal
use Rattle.rs_answers.specs.Portions.{IsStart, lines_printed}
use Rattle.rs_catalog.specs.Referents.{referents_on}
use Rattle.rs_exec.specs.Meaning.{kind_in}
use Rattle.rs_facts.specs.Spans.{seen}
use Rattle.rs_machine.specs.State.{RowText}
use Rattle.rs_serve.specs.ReplyView.{rows_of}

pub returns-clause-printed : goal.returns-clause-printed
returns-clause-printed g c = λ shown shows.
    let named = c.args.named.now in
    let kept = c.in_ok-referents.referents in
    let same = subst (λ (number : ℕ). referents_on kept number ≡ shown.referents number) c.number.ensures (c.in_ok-referents.ensures.shown shown shows) in
    c.in_ok-push_lines.ensures
    ∙ ap (λ lines. rows_of c.args.rows.now.items ++ lines)
    (lines-printed kept shown named.route same c.args.asked.now.method named.name.bytes c.kind_of-kind.result (kind_in c.args.asked.now.plan.now) c.kind_of-kind.ensures (map seen c.args.parts.now.wanted.now))

made-or-none : {A E : Type 0} (P : A → Type 0) (made : Result A E) (none : A) → IfOk made P → P none → P (result_unwrap_or made none)
made-or-none P (Ok one) none if_made of_none = if_made
made-or-none P (Err why) none if_made of_none = of_none

pub returns-clause-ahead : goal.returns-clause-ahead
returns-clause-ahead g c = λ shown shows.
    let named = c.args.named.now in
    let asked = c.args.asked.now in
    let kept = c.in_ok-referents.referents in
    let after = map seen c.args.parts.now.after.now in
    let lines = lines_printed shown asked.plan.now asked.method named after in
    let same = subst (λ (number : ℕ). referents_on kept number ≡ shown.referents number) c.number.ensures (c.in_ok-referents.ensures.shown shown shows) in
    let printed = lines-printed kept shown named.route same asked.method named.name.bytes c.kind_of-kind.result (kind_in asked.plan.now) c.kind_of-kind.ensures after in
    subst (λ ahead. IsStart (rows_of ahead.items) lines) (sym c.unwrap_or.ensures)
    (made-or-none (λ ahead. IsStart (rows_of ahead.items) lines) c.lines_within-ahead.result c.new-2.result
    (subst (λ (lines : List RowText). IfOk c.lines_within-ahead.result (λ ahead. IsStart (rows_of ahead.items) lines)) printed c.lines_within-ahead.ensures.lines)
    (subst (λ items. IsStart (rows_of items) lines) (sym c.new-2.ensures.items) refl))
