-- One line after another.
use Rattle.std.proofs.Common.{◌∙◌, List, ap, map}
use Rattle.arrayvec.specs.ArrayString.{ArrayString}
use Rattle.rs_catalog.specs.Definitions.{Definitions, IndexItem}
use Rattle.rs_catalog.specs.Names.{entries_by_bytes}
use Rattle.rs_dump.specs.Sections.{index_commands, index_of}
use Rattle.rs_facts.specs.Fact.{Name}
use Rattle.rs_syntax.specs.Tree.{CommandTree, define_index}
use Rattle.rs_dump.specs.Written.{line_bytes}
use Rattle.rs_dump.proofs.Stops.{front_as, passed_on, stops_line}
use Rattle.rs_dump.proofs.Written.{written_as, wrote_all, wrote_first, wrote_more}
use Rattle.rs_dump.proofs.definitions.write_indexes.Goals as goal

abbrev commands_left : Definitions → List (ArrayString × IndexItem) → List CommandTree
commands_left definitions left = map (index_of definitions) (entries_by_bytes (λ index. index) left)

pub loop-name-init : goal.loop-name-init
loop-name-init g c =
    wrote_first (index_commands c.args.catalog.now) (commands_left c.args.catalog.now c.into_iter-name-iterator.result) (g.W.Write.contents c.args.output.now)
    (ap (map (index_of c.args.catalog.now)) (ap (entries_by_bytes (λ index. index)) c.into_iter-name-iterator.ensures.into_iter_gives ∙ c.indexes-name-items.ensures))

pub loop-name-preserved : goal.loop-name-preserved
loop-name-preserved g c =
    let catalog = c.args.catalog.now in
    wrote_more (index_commands catalog) (commands_left catalog c.loop-name.name-iterator) (commands_left catalog c.next.new.self) (index_of catalog (c.in-Some.name.now.bytes, c.in-Some.index.now))
    (g.W.Write.contents c.args.output.now) (g.W.Write.contents c.loop-name.output) (g.W.Write.contents c.put_index.new.output)
    (ap (commands_left catalog) c.in-Some.ensures.steps) c.loop-name.invariant
    (written_as _ _ _ _ (ap (λ (table : Name). define_index c.in-Some.name.now.bytes table c.indexed_column-column.result.bytes) c.table.ensures
    ∙ ap (λ (column : Name). define_index c.in-Some.name.now.bytes c.in-Some.index.now.table column) c.indexed_column-column.ensures) c.in_ok-put_index.ensures)

pub returns : goal.returns
returns g c =
    wrote_all (index_commands c.args.catalog.now) (commands_left c.args.catalog.now c.loop-name.name-iterator) (g.W.Write.contents c.args.output.now) (g.W.Write.contents c.loop-name.output)
    c.loop-name.invariant (ap (commands_left c.args.catalog.now) c.in-None.ensures.steps.0)

pub returns-in_err-put_index : goal.returns-in_err-put_index
returns-in_err-put_index g c =
    passed_on c.from_residual.result c.in_err-put_index.field-0.0 _ _ c.from_residual.ensures.1 (
      c.in_err-put_index.ensures.0,
      stops_line c.in_err-put_index.field-0.0 (index_commands c.args.catalog.now) (commands_left c.args.catalog.now c.loop-name.name-iterator) (commands_left c.args.catalog.now c.next.new.self) (index_of c.args.catalog.now (c.in-Some.name.now.bytes, c.in-Some.index.now))
          (g.W.Write.contents c.args.output.now) (g.W.Write.contents c.loop-name.output) (g.W.Write.contents c.put_index.new.output)
          (ap (commands_left c.args.catalog.now) c.in-Some.ensures.steps) c.loop-name.invariant (front_as c.in_err-put_index.field-0.0 _ _ _ _ (ap line_bytes (ap (λ (table : Name). define_index c.in-Some.name.now.bytes table c.indexed_column-column.result.bytes) c.table.ensures
          ∙ ap (λ (column : Name). define_index c.in-Some.name.now.bytes c.in-Some.index.now.table column) c.indexed_column-column.ensures)) c.in_err-put_index.ensures.1),
    )
