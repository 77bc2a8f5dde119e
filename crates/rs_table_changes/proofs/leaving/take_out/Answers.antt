-- Parts of spans have their rows.
use Rattle.std.proofs.Common.{◌∙◌, map, sym, ap, subst}
use Rattle.std.specs.List.{AllByRecursion}
use Rattle.rs_facts.specs.Runs.{Stretch}
use Rattle.rs_facts.specs.Spans.{seen}
use Rattle.rs_value.specs.Values.{IsRowOf}
use Rattle.rs_table_changes.specs.Picked.{outside_all}
use Rattle.rs_table_changes.proofs.Outside.{rows_outside}
use Rattle.rs_table_changes.proofs.leaving.take_out.Goals as goal

pub returns-clause-rows : goal.returns-clause-rows
returns-clause-rows c =
    let types = c.args.schema.now.items in
    subst (AllByRecursion (λ (s : Stretch). IsRowOf types s.row)) (sym (c.in_ok-come.ensures ∙ ap (λ l. outside_all c.args.lo c.args.hi (map seen l)) c.deref.ensures.value))
    (rows_outside (IsRowOf types) c.args.lo c.args.hi (map seen c.in_ok-picked.picked.spans.items) c.in_ok-picked.ensures.rows)
