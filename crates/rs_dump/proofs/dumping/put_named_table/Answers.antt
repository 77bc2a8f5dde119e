-- It stops in the line of the table.
use Rattle.std.proofs.Common.{[], ◌∙◌, ap, inr, subst, sym}
use Rattle.std.specs.FinMap as names
use Rattle.rs_dump.specs.Written.{WroteFront, line_bytes}
use Rattle.rs_facts.specs.Fact.{Name}
use Rattle.rs_syntax.specs.Tree.{define_table}
use Rattle.rs_dump.proofs.Stops.{front_of_more, passed_on}
use Rattle.rs_dump.proofs.dumping.put_named_table.Goals as goal

pub returns-in_err-put_table-clause-stops : goal.returns-in_err-put_table-clause-stops
returns-in_err-put_table-clause-stops g c =
    let tables = c.args.catalog.now.tables in
    let table = c.in-Some.table.now in
    let same = c.in-Ok.ensures.ok in
    let stop = c.in_err-put_table.field-0.0 in
    let front = subst (λ (n : Name). WroteFront stop (line_bytes (define_table table.kind n table.columns)) (g.W.Write.contents c.args.output.now) (g.W.Write.contents c.put_table.new.output)) same c.in_err-put_table.ensures.1 in
    passed_on c.from_residual.result stop _ _ c.from_residual.ensures.1 (inr (
      c.in_err-put_table.ensures.0,
      record {
        item = table;
        there = sym (c.in-Some.ensures ∙ ap (names.get tables) same);
        front = front_of_more stop _ [] _ _ front;
      },
    ))
