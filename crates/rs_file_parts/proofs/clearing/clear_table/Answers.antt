-- What was cleared of the table and its indexes.
use Rattle.std.proofs.Common.{◌≡◌, List, length, drop, subst, sym, ◌∙◌, arith}
use Rattle.rs_attr.specs.Tables.{ChangesTable, IndexState}
use Rattle.rs_file_parts.proofs.Cleared.{cleared_as_it_is}
use Rattle.rs_file_parts.proofs.Lists.{refilled}
use Rattle.rs_records.specs.Listed.{listed}
use Rattle.rs_versioned.specs.Events.{kept_events}
use Rattle.rs_versioned.specs.Records.{HasCleared}
use Rattle.rs_file_parts.proofs.clearing.clear_table.Goals as goal

pub returns-then-garbage-eq0-clause-clears : goal.returns-then-garbage-eq0-clause-clears
returns-then-garbage-eq0-clause-clears g c = λ tied.
    cleared_as_it_is (g.P.Pages.store c.args.pages.now).map c.args.table.now c.args.oldest c.args.most (sym c.garbage.ensures ∙ c.if-garbage-eq0.true)

pub returns-clause-clears : goal.returns-clause-clears
returns-clause-clears g c = λ tied.
    let was = c.args.table.now in
    let types = was.records.types in
    let old = (g.P.Pages.store c.args.pages.now).map in
    let new = (g.P.Pages.store c.vacuum.new.pages).map in
    let cells = listed c.in_ok-taken.taken in
    let as_many : length c.vacuum.new.indexes ≡ was.indexes.len = omega (arith, c.vacuum.auto.indexes, c.deref_mut.ensures.len) in
    let whole = refilled was.indexes.len c.vacuum.new.indexes (drop (length c.vacuum.new.indexes) was.indexes.items) as_many in
    let vacuumed = c.in_ok-taken.ensures.vacuums tied in
    record {
      cells = cells;
      many = sym c.len.ensures;
      changes = λ accepted.
          subst (λ (xs : List IndexState). ChangesTable types old new was.records.working c.vacuum.new.table.working was.indexes.items xs accepted accepted (HasCleared (kept_events types) c.args.oldest cells))
          (sym whole)
          (subst (λ (xs : List IndexState). ChangesTable types old new was.records.working c.vacuum.new.table.working xs c.vacuum.new.indexes accepted accepted (HasCleared (kept_events types) c.args.oldest cells))
          c.deref_mut.ensures.value (vacuumed.changes accepted));
      as_many = λ events used accepted holds below. c.len.ensures ∙ vacuumed.as_many events used accepted holds below;
    }
