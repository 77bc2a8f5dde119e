-- The span is picked where the version sees it, it ends late enough, and it is placed.
use Rattle.std.proofs.Common.{◌≡◌, true, false, ◌∙◌, sym, rules}
use Rattle.rs_cell_versions.specs.Version.{sees}
use Rattle.rs_facts.specs.Spans.{seen}
use Rattle.rs_table_reads.proofs.Picks.{early_passed, picked_one, placed_is, row_said, unplaced_passed, unseen_passed}
use Rattle.rs_table_reads.proofs.picking.picked_span.Goals.{else-window-span-via-then-window-span+else-is_placed, else-window-span-via-else-window-span}
use Rattle.rs_table_reads.proofs.picking.picked_span.Goals as goal

pub returns-then-not-sees-clause-picks : goal.returns-then-not-sees-clause-picks
returns-then-not-sees-clause-picks c =
    let isnt : sees c.args.window.version c.args.cell.now ≡ false = search rules in
    unseen_passed c.args.schema.now.items c.args.window c.args.cell.now isnt

pub returns-then-is_placed-clause-picks : goal.returns-then-is_placed-clause-picks
returns-then-is_placed-clause-picks c =
    let is : sees c.args.window.version c.args.cell.now ≡ true = search rules in
    picked_one c.args.schema.now.items c.args.window c.args.cell.now is c.in_ok-span.span c.in_ok-span.ensures.span c.if-window-span.true (sym (c.is_placed.ensures c.in_ok-span.span.tuple) ∙ c.if-is_placed.true)

pub returns-then-is_placed-clause-row : goal.returns-then-is_placed-clause-row
returns-then-is_placed-clause-row c = row_said c.args.schema.now.items c.args.cell.now (seen c.in_ok-span.span) c.in_ok-span.ensures.said c.in_ok-span.ensures.span

pub returns-then-is_placed-clause-placed : goal.returns-then-is_placed-clause-placed
returns-then-is_placed-clause-placed c =
    placed_is c.args.window.kind (seen c.in_ok-span.span) (sym (c.is_placed.ensures c.in_ok-span.span.tuple) ∙ c.if-is_placed.true)

pub returns-clause-picks : goal.returns-clause-picks
returns-clause-picks c =
    let is : sees c.args.window.version c.args.cell.now ≡ true = search rules in
    elim c.else-window-span.branch [
      | else-window-span-via-then-window-span+else-is_placed w ↦
          unplaced_passed c.args.schema.now.items c.args.window c.args.cell.now is c.in_ok-span.span c.in_ok-span.ensures.span (sym (w.is_placed.ensures c.in_ok-span.span.tuple) ∙ w.if-is_placed.false)
      | else-window-span-via-else-window-span w ↦
          early_passed c.args.schema.now.items c.args.window c.args.cell.now is c.in_ok-span.span c.in_ok-span.ensures.span w.if-window-span.false
    ]
