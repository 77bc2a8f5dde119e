-- No lines are the first of any.
use Rattle.std.proofs.Common.{◌≡◌, [], List, Option, Some, drop, refl, subst, sym}
use Rattle.std.specs.Prelude.{IfSome, String}
use Rattle.std.specs.declared.alloc.Global.{Global}
use Rattle.rs_answers.specs.Portions.{IsStart}
use Rattle.rs_answers.specs.Versions.{lines_seen_on}
use Rattle.rs_cursor.proofs.kept_from.bare_lines.Goals as goal
use Rattle.rs_cursor.specs.Kept.{AreFormed}
use Rattle.rs_cursor.specs.declared.kept.KeptLines.{KeptLines}
use Rattle.rs_serve.specs.ReplyView.{rows_of}

pub returns-clause-formed : goal.returns-clause-formed
returns-clause-formed c = λ shown plan method formed.
    let kept = c.in_ok-route.field-0 in
    let are = subst (λ (o : Option KeptLines). IfSome o (AreFormed shown plan method)) c.in_ok-route.was formed in
    record {
      at = record {
        route = are.at.route;
        there = are.at.there;
        counts = are.at.counts;
        starts = subst (λ (lines : List (String Global)). IsStart (rows_of lines) (drop kept.first (lines_seen_on shown plan method are.at.route))) (sym c.new.ensures.items) refl;
      };
      marked = are.marked;
      next = are.next;
    }
