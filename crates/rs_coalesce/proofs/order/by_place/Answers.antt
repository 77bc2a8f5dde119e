use Rattle.std.proofs.Common.{rules, sym, ◌∙◌, ap, ◌≡◌, Ordering, Less, Equal, Greater, refl, nat_cmp}
use Rattle.std.specs.Ordering.{ordering_then}
use Rattle.rs_facts.specs.Runs.{stretch_cmp}
use Rattle.rs_facts.specs.Spans.{seen}
use Rattle.rs_value.specs.Row.{row_cmp}
use Rattle.rs_coalesce.proofs.order.by_place.Goals as goal

untied : (a b : Ordering) → (a ≡ Equal → ⊥) → a ≡ ordering_then a b
untied Less b apart = refl
untied Equal b apart = absurd (apart refl)
untied Greater b apart = refl

pub returns-in-Equal : goal.returns-in-Equal
unfolding stretch_cmp
returns-in-Equal c =
    let tie : nat_cmp c.args.left.now.lo c.args.right.now.lo ≡ Equal = sym c.cmp.ensures ∙ c.in-Equal.is in
    let rows : c.compare_rows.result ≡ row_cmp (seen c.args.left.now).row (seen c.args.right.now).row = search rules in
    rows ∙ sym (ap (λ o. ordering_then o (row_cmp (seen c.args.left.now).row (seen c.args.right.now).row)) tie)

pub returns-in_default : goal.returns-in_default
unfolding stretch_cmp
returns-in_default c = untied c.cmp.result (row_cmp (seen c.args.left.now).row (seen c.args.right.now).row) c.in_default.not-Equal ∙ ap (λ o. ordering_then o (row_cmp (seen c.args.left.now).row (seen c.args.right.now).row)) c.cmp.ensures
