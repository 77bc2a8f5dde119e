-- The width of a cell, and the cells so far.
use Rattle.std.proofs.Common.{◌≡◌, length, ◌∙◌, arith}
use Rattle.rs_records.specs.Listed.{listed}
use Rattle.rs_tree.proofs.Lists.{has_inside}
use Rattle.rs_versioned.proofs.CellsWide.{cell_wide}
use Rattle.rs_versioned.specs.Referents.{referent_width}
use Rattle.rs_file_parts.proofs.referents.place_of.Goals as goal

pub is_living-requires : goal.is_living-requires
is_living-requires c =
    let wide : length c.get-cell.result.now ≡ referent_width = cell_wide c.args.cells.now c.loop-place.place c.get-cell.result.now c.get-cell.ensures ∙ c.requires.width in
    omega arith

pub name_of-requires : goal.name_of-requires
name_of-requires c = record { width = cell_wide c.args.cells.now c.loop-place.place c.get-cell.result.now c.get-cell.ensures ∙ c.requires.width }

pub returns-clause-none : goal.returns-clause-none
returns-clause-none c = record {
  none = λ place cell referent there living says named.
      c.loop-place.invariant place (omega (arith, has_inside (listed c.args.cells.now) place cell there, c.loop-place-test.false, c.len-place-end.ensures)) cell referent there living says named;
}
