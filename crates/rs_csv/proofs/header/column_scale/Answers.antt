use Rattle.std.proofs.Common.{◌≡◌, ◌≢◌, ◌∙◌, codes, sym, rules, arith}
use Rattle.rs_csv_lines.specs.Numbers.{scale_text}
use Rattle.rs_csv.proofs.Headers.{not_cut, not_named, told_after, told_at, told_none}
use Rattle.rs_csv.proofs.header.column_scale.Goals as goal
use Rattle.rs_csv.proofs.header.column_scale.Goals.{in-Some+else-eq, in_default}

pub returns-in-Some-from_text-clause-scaled : goal.returns-in-Some-from_text-clause-scaled
returns-in-Some-from_text-clause-scaled c =
    let cut = c.in-Some.ensures.byte (omega arith) (λ w o h. h) in
    let same : c.in-Some.name.now ≡ c.args.column.now = first_of (search rules, grind arith) in
    let scale = c.in-Some-from_text.scale in
    c.loop-telling.invariant.others (scale_text scale)
    (told_at c.args.wanted.now.scales.now c.loop-telling.telling-index _ c.args.column.now (codes "1") (scale_text scale) c.loop-telling-test.true
    (cut.2, sym cut.0 ∙ same, sym cut.1 ∙ c.in-Some-from_text.ensures))

pub returns-clause-scaled : goal.returns-clause-scaled
returns-clause-scaled c = c.loop-telling.invariant.others (codes "1") (told_none c.args.wanted.now.scales.now c.loop-telling.telling-index c.args.column.now (codes "1") c.loop-telling-test.false)

pub loop-telling-preserved : goal.loop-telling-preserved
loop-telling-preserved c = record {
  others = λ text told.
      c.loop-telling.invariant.others text
      (told_after c.args.wanted.now.scales.now c.loop-telling.telling-index _ c.args.column.now (codes "1") text c.loop-telling-test.true
      (elim c.match-split_once.branch [
        | in-Some+else-eq w ↦
            let cut = w.in-Some.ensures.byte (omega arith) (λ w o h. h) in
            let differs : w.in-Some.name.now ≢ c.args.column.now = first_of (search rules, grind arith) in
            not_named _ c.args.column.now w.in-Some.name.now cut.0 differs
        | in_default w ↦ not_cut _ c.args.column.now (w.in_default.ensures.byte (omega arith) (λ w o h. h))
      ]) told);
}
