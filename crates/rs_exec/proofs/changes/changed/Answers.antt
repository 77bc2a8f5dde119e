use Rattle.std.proofs.Common.{sym, subst}
use Rattle.rs_exec.specs.Changes.{IsChanged}
use Rattle.rs_exec.proofs.changes.changed.Goals as goal
use Rattle.rs_exec.proofs.changes.changed.Goals.{in-Where, in-Dissolve+in_ok-dissolve-in-Dissolve}

pub returns : goal.returns
returns c = elim c.match-change.branch [
  | in-Where w ↦
      subst (λ made. IsChanged c.args.change c.args.rows made) (sym w.rows-is)
      (subst (λ change. IsChanged change c.args.rows w.select_each.new.spans) (sym w.in-Where.is)
      (record { means = w.select_each.ensures.means; sorted = w.select_each.ensures.sorted; placed = w.select_each.ensures.placed; wide = w.select_each.ensures.width; joined = λ kind keeps. w.select_each.ensures.joined kind }))
  | in-Dissolve+in_ok-dissolve-in-Dissolve w ↦
      subst (λ made. IsChanged c.args.change c.args.rows made) (sym w.rows-is)
      (subst (λ change. IsChanged change c.args.rows w.dissolve.new.spans) (sym w.in-Dissolve.is)
      (record { means = w.in_ok-dissolve-in-Dissolve.ensures.means; sorted = w.in_ok-dissolve-in-Dissolve.ensures.sorted; placed = w.in_ok-dissolve-in-Dissolve.ensures.placed; wide = λ _ _. w.in_ok-dissolve-in-Dissolve.ensures.width; joined = λ kind keeps. absurd keeps }))
]
