-- The last eight bytes are written.
use Rattle.std.proofs.Common.{◌-◌, length, take, drop, arith}
use Rattle.std.proofs.lemmas.List.{length-drop, length-take}
use Rattle.rs_cell_versions.proofs.Ending.{ended_written}
use Rattle.rs_cell_versions.proofs.cell.end_at.Goals as goal

pub returns : goal.returns
returns c = record {
  ended =
      let cell = c.args.cell.now in
      let k = length cell - (length cell - 8) in
      ended_written c.args.version k cell (take k (drop (length cell - 8) cell)) c.write_u64.new.buf (omega arith) (omega arith)
      (omega (arith, length-take k (drop (length cell - 8) cell), length-drop (length cell - 8) cell)) c.write_u64.ensures;
}
