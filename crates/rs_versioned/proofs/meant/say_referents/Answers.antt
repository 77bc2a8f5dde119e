-- One cell after the other.
use Rattle.std.proofs.Common.{◌∙◌, sym}
use Rattle.std.proofs.lemmas.Bool.{false≢true}
use Rattle.rs_records.specs.Listed.{listed}
use Rattle.rs_tree.proofs.Lists.{all_at}
use Rattle.rs_versioned.specs.Referents.{ReferentRecord, SaysReferent}
use Rattle.rs_versioned.proofs.CellsWide.{cell_wide}
use Rattle.rs_versioned.proofs.Opened.{say_next}
use Rattle.rs_versioned.proofs.meant.say_referents.Goals as goal

pub says_referent-requires : goal.says_referent-requires
says_referent-requires c = record { width = cell_wide c.args.cells.now c.loop-place.place c.get.result.now c.get.ensures ∙ c.requires.width }

pub returns-then-not-says_referent : goal.returns-then-not-says_referent
returns-then-not-says_referent c = (
  λ e. absurd (false≢true e),
  λ say. absurd (false≢true (sym c.if-not-says_referent.true ∙ c.says_referent.ensures.1
      (all_at (λ cell. (referent : ReferentRecord) × SaysReferent cell referent) (listed c.args.cells.now) c.loop-place.place c.get.result.now say c.get.ensures))),
)

pub loop-place-preserved : goal.loop-place-preserved
loop-place-preserved c =
    say_next SaysReferent (listed c.args.cells.now) c.loop-place.place c.get.result.now c.get.ensures c.loop-place.invariant (c.says_referent.ensures.0 c.if-not-says_referent.false)
