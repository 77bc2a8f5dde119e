-- No page of a tree is page 0 or 1 or lies past the last, and one that was reached isn't fresh.
use Rattle.std.proofs.Common.{sym, ◌∙◌, arith}
use Rattle.std.proofs.lemmas.Bool.{false≢true}
use Rattle.rs_page_marks.specs.Marks.{taken}
use Rattle.rs_tree_whole.proofs.Fresh.{low_number, past_number, reached_number}
use Rattle.rs_tree_whole.proofs.enter.enter.Goals as goal
use Rattle.rs_tree_whole.proofs.enter.enter.Goals.{then-number-lt2-via-then-number-lt2, then-number-lt2-via-else-number-lt2+then-number-count, then-number-lt2-via-else-number-lt2+else-number-count+then-not-reach}

pub returns-then-number-lt2-clause-damaged : goal.returns-then-number-lt2-clause-damaged
returns-then-number-lt2-clause-damaged g c = λ is tied. elim c.then-number-lt2.branch [
  | then-number-lt2-via-then-number-lt2 w ↦ low_number (g.P.Pages.store c.args.pages.now).map c.args.number c.args.layout (taken c.args.reached.now) (omega (arith, c.number.ensures))
  | then-number-lt2-via-else-number-lt2+then-number-count w ↦ past_number (g.P.Pages.store c.args.pages.now).map c.args.number c.args.layout (taken c.args.reached.now) (omega (arith, w.number-else-number-lt2.ensures, c.count-count.ensures.count))
  | then-number-lt2-via-else-number-lt2+else-number-count+then-not-reach w ↦ reached_number (g.P.Pages.store c.args.pages.now).map c.args.number c.args.layout (taken c.args.reached.now)
      (λ none. absurd (false≢true (sym w.if-not-reach.true ∙ w.reach.ensures.free.1 none)))
]
