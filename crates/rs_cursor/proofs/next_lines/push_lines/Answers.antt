-- Lines that are kept are those of the cursor.
use Rattle.rs_cursor.proofs.next_lines.push_lines.Goals as goal

pub returns-in-Some-clause-gives : goal.returns-in-Some-clause-gives
returns-in-Some-clause-gives g c = record {
  at = λ versions is.
      let cursor = c.args.cursor.now in
      c.in_ok-push_kept.ensures.gives versions cursor (c.in-Some.ensures.lines (versions cursor.version) cursor.plan cursor.method is.1);
}
