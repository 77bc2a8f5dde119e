-- One table after another, until one has a span there.
use Rattle.std.proofs.lemmas.Result.{err_from_is_err_and}
use Rattle.rs_value.specs.declared.column.Kind.TheVariants.{Point}
use Rattle.rs_store_source.proofs.Facts.{found_says, none_more, none_says}
use Rattle.rs_store_source.proofs.Passing.{passes_trans, shows_on, wants_later}
use Rattle.rs_store_source.proofs.routes.has_facts_on.Goals as goal

pub returns-in_err-has_spans_of-clause-stays : goal.returns-in_err-has_spans_of-clause-stays
returns-in_err-has_spans_of-clause-stays g c = λ oldest snapshots shows.
    let d = g.D.Disk in
    shows_on d oldest c.args.store.now c.has_spans_of.new.store
    (passes_trans d c.args.store.now c.loop-table.store c.has_spans_of.new.store c.loop-table.invariant.passes c.has_spans_of.ensures.passes) snapshots shows

pub returns-in_err-has_spans_of-clause-wants : goal.returns-in_err-has_spans_of-clause-wants
returns-in_err-has_spans_of-clause-wants g c =
    let p = err_from_is_err_and c.from_residual-in_err-has_spans_of.result c.from_residual-in_err-has_spans_of.ensures.1 in
    rw (p.1, p.2) (wants_later g.D.Disk c.in_err-has_spans_of.field-0.0 c.args.store.now c.loop-table.store c.has_spans_of.new.store c.loop-table.invariant.passes
    c.in_err-has_spans_of.ensures.wants)

pub returns-then-branch-clause-says : goal.returns-then-branch-clause-says
returns-then-branch-clause-says g c =
    found_says g.D.Disk c.args.store.now c.loop-table.store c.loop-table.invariant.passes c.args.route c.deref-table-items.result.now c.loop-table.table-index (record { number = 0; kind = Point })
    c.loop-table.invariant.keys c.loop-table-test.true c.store_stands_in_one_state.ensures.state c.in_ok-has_spans_of.field-0 c.in_ok-has_spans_of.ensures.says c.if-branch.true

pub returns-then-branch-clause-stays : goal.returns-then-branch-clause-stays
returns-then-branch-clause-stays g c = λ oldest snapshots shows.
    let d = g.D.Disk in
    shows_on d oldest c.args.store.now c.has_spans_of.new.store
    (passes_trans d c.args.store.now c.loop-table.store c.has_spans_of.new.store c.loop-table.invariant.passes c.has_spans_of.ensures.passes) snapshots shows

pub loop-table-preserved : goal.loop-table-preserved
loop-table-preserved g c = record {
  passes = passes_trans g.D.Disk c.args.store.now c.loop-table.store c.has_spans_of.new.store c.loop-table.invariant.passes c.has_spans_of.ensures.passes;
  keys = c.loop-table.invariant.keys;
  none = λ oldest state stands.
      none_more g.D.Disk c.args.store.now c.loop-table.store c.loop-table.invariant.passes c.args.route c.deref-table-items.result.now c.loop-table.table-index (record { number = 0; kind = Point })
      c.loop-table.invariant.keys c.loop-table-test.true c.in_ok-has_spans_of.field-0 c.in_ok-has_spans_of.ensures.says c.if-branch.false oldest state stands
      (c.loop-table.invariant.none oldest state stands);
}

pub returns-clause-says : goal.returns-clause-says
returns-clause-says g c =
    none_says g.D.Disk c.store_stands_in_one_state.ensures.state c.args.store.now c.args.route c.deref-table-items.result.now c.loop-table.table-index c.loop-table.invariant.keys c.loop-table-test.false
    c.loop-table.invariant.none

pub returns-clause-stays : goal.returns-clause-stays
returns-clause-stays g c = λ oldest snapshots shows. shows_on g.D.Disk oldest c.args.store.now c.loop-table.store c.loop-table.invariant.passes snapshots shows

pub returns-in_err-has_spans_of-clause-passes : goal.returns-in_err-has_spans_of-clause-passes
returns-in_err-has_spans_of-clause-passes g c =
    passes_trans g.D.Disk c.args.store.now c.loop-table.store c.has_spans_of.new.store c.loop-table.invariant.passes c.has_spans_of.ensures.passes

pub returns-then-branch-clause-passes : goal.returns-then-branch-clause-passes
returns-then-branch-clause-passes g c =
    passes_trans g.D.Disk c.args.store.now c.loop-table.store c.has_spans_of.new.store c.loop-table.invariant.passes c.has_spans_of.ensures.passes
