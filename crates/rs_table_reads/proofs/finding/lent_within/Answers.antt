-- The span is lent where the version sees it, it ends late enough, and it is placed.
use Rattle.std.proofs.Common.{◌≡◌, ◌∙◌, false, rules, sym, true}
use Rattle.rs_cell_versions.specs.Version.{sees}
use Rattle.rs_table_reads.proofs.Lends.{early_left, lends_one, unplaced_left, unseen_left}
use Rattle.rs_table_reads.proofs.finding.lent_within.Goals.{else-window-span-via-then-window-span+else-is_placed, else-window-span-via-else-window-span}
use Rattle.rs_table_reads.proofs.finding.lent_within.Goals as goal

pub returns-then-not-sees-clause-lends : goal.returns-then-not-sees-clause-lends
returns-then-not-sees-clause-lends c types =
    let isnt : sees c.args.window.version c.args.cell.now ≡ false = search rules in
    unseen_left types c.args.window c.args.cell.now isnt

pub returns-then-is_placed-clause-lends : goal.returns-then-is_placed-clause-lends
returns-then-is_placed-clause-lends c types =
    let is : sees c.args.window.version c.args.cell.now ≡ true = search rules in
    lends_one types c.args.window c.args.cell.now is c.lent_span-span.result (c.lent_span-span.ensures.says types) c.if-window-span.true
    (λ row. sym (c.is_placed.ensures row) ∙ c.if-is_placed.true)

pub returns-clause-lends : goal.returns-clause-lends
returns-clause-lends c types =
    let is : sees c.args.window.version c.args.cell.now ≡ true = search rules in
    elim c.else-window-span.branch [
      | else-window-span-via-then-window-span+else-is_placed w ↦
          unplaced_left types c.args.window c.args.cell.now is c.lent_span-span.result (c.lent_span-span.ensures.says types) (λ row. sym (w.is_placed.ensures row) ∙ w.if-is_placed.false)
      | else-window-span-via-else-window-span w ↦
          early_left types c.args.window c.args.cell.now is c.lent_span-span.result (c.lent_span-span.ensures.says types) w.if-window-span.false
    ]
