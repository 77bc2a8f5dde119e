use Rattle.std.proofs.Common.{map, take}
use Rattle.std.specs.Io.KnownBytes.{Keeps}
use Rattle.csv.specs.Records.{fields_of}
use Rattle.rs_syntax.specs.View.{column_tree}
use Rattle.rs_csv.specs.Header.{AreColumnsOf}
use Rattle.rs_csv.proofs.header.make_plan.Given as goal

abbrev pub invariant-loop-column : goal.invariant-loop-column
invariant-loop-column g l = record {
  quiet : Keeps (g.E.Write.contents l.fn.errors) (g.E.Write.contents l.errors);
  columns : AreColumnsOf l.wanted (fields_of l.header) (map column_tree (take l.column-index l.definition.columns.items)) l.columns.items;
}
