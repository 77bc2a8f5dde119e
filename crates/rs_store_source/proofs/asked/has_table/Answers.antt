-- One of the tables has the number, the kind and the width, or none has.
use Rattle.std.proofs.Common.{sym, ap, ◌∙◌}
use Rattle.rs_catalog.specs.Names.{entries_by_bytes}
use Rattle.rs_exec.specs.Given.{table_asked}
use Rattle.rs_store_source.proofs.Listed.{some_entries, some_left, table_found, table_passed}
use Rattle.rs_store_source.proofs.asked.has_table.Goals as goal

pub returns-then-is_table : goal.returns-then-is_table
returns-then-is_table c =
    let asked = table_asked c.args.asked.now in
    table_found asked c.into_iter-table-iterator.result c.loop-table.table-iterator c.next.new.self c.in-Some.field-0-0.now c.in-Some.table.now c.loop-table.invariant c.in-Some.ensures.steps
    c.if-is_table.ensures
    ∙ sym (some_entries asked c.args.catalog.now c.into_iter-table-iterator.result
    (ap (entries_by_bytes (λ table. table)) c.into_iter-table-iterator.ensures.into_iter_gives ∙ c.tables-table-items.ensures))

pub loop-table-preserved : goal.loop-table-preserved
loop-table-preserved c =
    table_passed (table_asked c.args.asked.now) c.into_iter-table-iterator.result c.loop-table.table-iterator c.next.new.self c.in-Some.field-0-0.now c.in-Some.table.now c.loop-table.invariant
    c.in-Some.ensures.steps c.if-is_table.ensures

pub returns : goal.returns
returns c =
    let asked = table_asked c.args.asked.now in
    ap (some_left asked) (sym c.in-None.ensures.steps.0) ∙ c.loop-table.invariant
    ∙ sym (some_entries asked c.args.catalog.now c.into_iter-table-iterator.result
    (ap (entries_by_bytes (λ table. table)) c.into_iter-table-iterator.ensures.into_iter_gives ∙ c.tables-table-items.ensures))
