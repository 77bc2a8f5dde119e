use Rattle.std.proofs.Common.{◌≡◌, inl, inr, ⊎_elim, Err, List, map, sym, ap, subst, ◌∙◌}
use Rattle.std.proofs.lemmas.Result.{err_from_is_err_and}
use Rattle.rs_refusal.specs.declared.refusal.Refusal.{Refusal}
use Rattle.rs_refusal.specs.declared.refusal.Refusal.TheVariants.{OutOfMemory}
use Rattle.rs_facts.specs.Query.{Column}
use Rattle.rs_facts.specs.TotalText.{total_text}
use Rattle.rs_machine.specs.Checking.{group_checked, summed_checked}
use Rattle.rs_serve.specs.ReplyView.{rows_of}
use Rattle.rs_total.specs.Answer.{answered}
use Rattle.rs_answers.proofs.TotalRows.{total-too-large, total-answered}
use Rattle.rs_answers.proofs.totals.total_of.Goals as goal

pub returns-in_err-totals-2-clause-refused : goal.returns-in_err-totals-2-clause-refused
returns-in_err-totals-2-clause-refused g c =
    let p = err_from_is_err_and c.from_residual-in_err-totals-2.result c.from_residual-in_err-totals-2.ensures.1 in
    let old = c.args.e.now in
    let new = c.totals_of_routes.new.e in
    rw (p.1, p.2) (⊎_elim
    (λ (wanting : c.in_err-totals-2.field-0.0 ≡ OutOfMemory). inl (subst (λ (why : Refusal). g.E.Source.wants why old new) (sym wanting) (g.met.E.Source.wants_memory old new c.in_ok-totals.ensures.ends.leaves.passes)))
    (λ off. inr (λ query for state stands seen by summed columns same.
    total-too-large state query by summed c.args.columns.group.items
    (ap (λ (columns : List Column). group_checked columns by) (sym same) ∙ columns.group) c.args.columns.summed
    (ap (λ (columns : List Column). summed_checked columns summed) (sym same) ∙ columns.sums) _
    (let has = c.in_ok-totals.ensures.totals query for state stands in sym has.same ∙ off.1 c.args.columns.group.items c.args.columns.summed has.routes has.tallied ∙ ap Err (sym off.0))))
    c.in_err-totals-2.ensures.refused)

pub returns-clause-done : goal.returns-clause-done
returns-clause-done g c = λ query for state stands seen by summed columns same.
    let means = for.means (g.E.InMemory.held_referents c.args.e.now) state (stands.snapshots c.args.asked.now.version) stands.present in
    let kind = c.requires.kind ∙ means.kind in
    let has = c.in_ok-totals.ensures.totals query for state stands in
    total-answered state query by summed c.args.columns.group.items
    (ap (λ (columns : List Column). group_checked columns by) (sym same) ∙ columns.group) c.args.columns.summed
    (ap (λ (columns : List Column). summed_checked columns summed) (sym same) ∙ columns.sums)
    (map answered c.in_ok-totals-2.totals.items) (rows_of c.in_ok-total_lines.field-0.items)
    (sym has.same ∙ c.in_ok-totals-2.ensures.ok c.args.columns.group.items c.args.columns.summed has.routes has.tallied)
    (c.in_ok-total_lines.ensures ∙ (λ i. map (total_text (kind i)) (map answered (c.as_slice.ensures.value i))))
