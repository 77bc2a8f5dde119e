-- One line after another.
use Rattle.std.proofs.Common.{◌∙◌, List, ap, map}
use Rattle.arrayvec.specs.ArrayString.{ArrayString}
use Rattle.rs_catalog.specs.Definitions.{TableItem}
use Rattle.rs_catalog.specs.Names.{entries_by_bytes}
use Rattle.rs_dump.specs.Sections.{table_commands, table_of}
use Rattle.rs_syntax.specs.Tree.{CommandTree}
use Rattle.rs_dump.proofs.Stops.{passed_on, stops_line}
use Rattle.rs_dump.proofs.Written.{wrote_all, wrote_first, wrote_more}
use Rattle.rs_dump.proofs.definitions.write_tables.Goals as goal

abbrev commands_left : List (ArrayString × TableItem) → List CommandTree
commands_left left = map table_of (entries_by_bytes (λ table. table) left)

pub loop-name-init : goal.loop-name-init
loop-name-init g c =
    wrote_first (table_commands c.args.catalog.now) (commands_left c.into_iter-name-iterator.result) (g.W.Write.contents c.args.output.now)
    (ap (map table_of) (ap (entries_by_bytes (λ table. table)) c.into_iter-name-iterator.ensures.into_iter_gives ∙ c.tables-name-items.ensures))

pub loop-name-preserved : goal.loop-name-preserved
loop-name-preserved g c =
    wrote_more (table_commands c.args.catalog.now) (commands_left c.loop-name.name-iterator) (commands_left c.next.new.self) (table_of (c.in-Some.name.now.bytes, c.in-Some.table.now))
    (g.W.Write.contents c.args.output.now) (g.W.Write.contents c.loop-name.output) (g.W.Write.contents c.put_table.new.output)
    (ap commands_left c.in-Some.ensures.steps) c.loop-name.invariant c.in_ok-put_table.ensures

pub returns : goal.returns
returns g c =
    wrote_all (table_commands c.args.catalog.now) (commands_left c.loop-name.name-iterator) (g.W.Write.contents c.args.output.now) (g.W.Write.contents c.loop-name.output)
    c.loop-name.invariant (ap commands_left c.in-None.ensures.steps.0)

pub returns-in_err-put_table : goal.returns-in_err-put_table
returns-in_err-put_table g c =
    passed_on c.from_residual.result c.in_err-put_table.field-0.0 _ _ c.from_residual.ensures.1 (
      c.in_err-put_table.ensures.0,
      stops_line c.in_err-put_table.field-0.0 (table_commands c.args.catalog.now) (commands_left c.loop-name.name-iterator) (commands_left c.next.new.self) (table_of (c.in-Some.name.now.bytes, c.in-Some.table.now))
          (g.W.Write.contents c.args.output.now) (g.W.Write.contents c.loop-name.output) (g.W.Write.contents c.put_table.new.output)
          (ap (commands_left) c.in-Some.ensures.steps) c.loop-name.invariant c.in_err-put_table.ensures.1,
    )
