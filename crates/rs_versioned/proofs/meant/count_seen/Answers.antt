-- One cell after the other.
use Rattle.std.proofs.Common.{◌∙◌, true, false, ℕ, List, [], ◌∷◌, filter, length, take, sym, ap, arith}
use Rattle.std.proofs.lemmas.List.{length-append}
use Rattle.rs_records.specs.Listed.{listed}
use Rattle.rs_cell_versions.specs.Version.{sees}
use Rattle.rs_versioned.proofs.CellsWide.{cell_wide, filter_next}
use Rattle.rs_versioned.proofs.meant.count_seen.Goals.{then-sees, else-sees}
use Rattle.rs_versioned.proofs.meant.count_seen.Goals as goal

pub sees-requires : goal.sees-requires
sees-requires c = record { width = omega (arith, cell_wide c.args.cells.now c.loop-place.place c.get.result.now c.get.ensures, c.requires.width) }

pub loop-place-preserved : goal.loop-place-preserved
loop-place-preserved c =
    let cells = listed c.args.cells.now in
    let place = c.loop-place.place in
    let cell : List ℕ = c.get.result.now in
    let earlier : List (List ℕ) = filter (sees c.args.version) (take place cells) in
    let was = c.loop-place.invariant in
    elim c.if-sees.branch [
      | then-sees w ↦
          let next = ap length (filter_next (sees c.args.version) cells place cell true c.get.ensures (sym c.sees.ensures ∙ w.if-sees.true)) in
          record { counted = omega (arith, w.count-is, next, length-append earlier (cell ∷ []), was.counted); few = omega (arith, w.count-is, was.few) }
      | else-sees w ↦
          let next = ap length (filter_next (sees c.args.version) cells place cell false c.get.ensures (sym c.sees.ensures ∙ w.if-sees.false)) in
          record { counted = omega (arith, w.count-is, next, length-append earlier [], was.counted); few = omega (arith, w.count-is, was.few) }
    ]
