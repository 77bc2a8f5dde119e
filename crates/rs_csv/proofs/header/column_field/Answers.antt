use Rattle.std.proofs.Common.{◌≡◌, ◌≢◌, ◌∙◌, sym, rules, arith}
use Rattle.std.proofs.lemmas.Result.{IfOk-weaker}
use Rattle.rs_csv.proofs.Headers.{told_after, told_at, told_none, not_cut, not_named}
use Rattle.rs_csv.proofs.header.column_field.Goals as goal
use Rattle.rs_csv.proofs.header.column_field.Goals.{in-Some+else-eq, in_default}

pub returns-then-eq-clause-named : goal.returns-then-eq-clause-named
returns-then-eq-clause-named g c =
    let cut = c.in-Some.ensures.byte (omega arith) (λ w o h. h) in
    let same : c.in-Some.name.now ≡ c.args.column.now = first_of (search rules, grind arith) in
    IfOk-weaker c.field_named.result _ _
    (λ place named. (
      c.in-Some.other.now,
      c.loop-renaming.invariant.others c.in-Some.other.now
          (told_at c.args.wanted.now.columns.now c.loop-renaming.renaming-index _ c.args.column.now c.args.column.now c.in-Some.other.now c.loop-renaming-test.true (cut.2, sym cut.0 ∙ same, sym cut.1)),
      named,
    ))
    c.field_named.ensures.named

pub returns-clause-named : goal.returns-clause-named
returns-clause-named g c =
    IfOk-weaker c.field_named-2.result _ _
    (λ place named. (c.args.column.now, c.loop-renaming.invariant.others c.args.column.now (told_none c.args.wanted.now.columns.now c.loop-renaming.renaming-index c.args.column.now c.args.column.now c.loop-renaming-test.false), named))
    c.field_named-2.ensures.named

pub loop-renaming-preserved : goal.loop-renaming-preserved
loop-renaming-preserved g c = record {
  errors = c.loop-renaming.invariant.errors;
  others = λ name called.
      c.loop-renaming.invariant.others name
      (told_after c.args.wanted.now.columns.now c.loop-renaming.renaming-index _ c.args.column.now c.args.column.now name c.loop-renaming-test.true
      (elim c.match-split_once.branch [
        | in-Some+else-eq w ↦
            let cut = w.in-Some.ensures.byte (omega arith) (λ w o h. h) in
            let differs : w.in-Some.name.now ≢ c.args.column.now = first_of (search rules, grind arith) in
            not_named _ c.args.column.now w.in-Some.name.now cut.0 differs
        | in_default w ↦ not_cut _ c.args.column.now (w.in_default.ensures.byte (omega arith) (λ w o h. h))
      ]) called);
}
