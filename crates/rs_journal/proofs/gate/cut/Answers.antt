-- A cut is done or not.
use Rattle.std.proofs.Common.{◌≡◌, Result, Ok, Err, is_ok, ℕ}
use Rattle.rs_disk.specs.Content.{Content, CutsTo}
use Rattle.rs_disk.specs.Crash.{CutOrNot}
use Rattle.rs_journal.proofs.Advancing.{remains-by}
use Rattle.rs_journal.proofs.Staging.{cut-on, cut-or-not}
use Rattle.rs_journal.proofs.gate.cut.Goals as goal

pub returns-clause-remains : goal.returns-clause-remains
returns-clause-remains g c = λ kept some long every.
    remains-by g.D.Disk (CutOrNot _) _ _ _ (λ a b quiet step. cut-on c.args.pages kept a b some long quiet step)
    (record {
      honesty = c.cut.ensures.honesty;
      keeping = c.cut.ensures.keeping;
      reads = λ honest. cut-or-not _ _ _ _ (c.cut.ensures.cut honest);
      images = λ keeps. c.cut.ensures.crash keeps;
    }) every

same-cut : {T T' E E' : Type 0} (result : Result T E) (answer : Result T' E') (bound : ℕ) (a b : Content)
    → is_ok answer ≡ is_ok result → CutsTo result bound a b → CutsTo answer bound a b
same-cut (Ok _) (Ok _) bound a b same cut = cut
same-cut (Ok _) (Err _) bound a b same cut = cc
same-cut (Err _) (Ok _) bound a b same cut = cc
same-cut (Err _) (Err _) bound a b same cut = cut

pub returns-clause-cut : goal.returns-clause-cut
returns-clause-cut g c = λ honest. same-cut c.cut.result c.map_err.result _ _ _ c.map_err.ensures.variant (c.cut.ensures.cut honest)
