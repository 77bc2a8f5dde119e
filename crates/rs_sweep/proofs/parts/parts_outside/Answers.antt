use Rattle.std.proofs.Common.{map, drop, sym, ap, ◌∙◌, subst, arith}
use Rattle.std.proofs.lemmas.Result.{on_ok_weaker}
use Rattle.std.specs.List.{list_any, AllByRecursion}
use Rattle.rs_facts.specs.Spans.{seen}
use Rattle.rs_sweep.specs.Parts.{in_part, LiesIn}
use Rattle.rs_sweep.specs.Taken.{keyed, taken_of}
use Rattle.rs_sweep.proofs.PartLaws.{found-is, outside-any, walked-inside, every-part}
use Rattle.rs_sweep.proofs.parts.parts_outside.Goals as goal

pub returns-clause-free : goal.returns-clause-free
returns-clause-free c = on_ok_weaker c.walk.result (λ made k.
    ap (list_any (in_part k)) (found-is (taken_of c.args.rows) (keyed c.args.rows (seen c.args.span.now)) c.args.taken.now c.first_not_before-first.result _ _ c.clear.ensures.items made)
    ∙ outside-any (keyed c.args.rows (seen c.args.span.now)) (map (taken_of c.args.rows) c.args.taken.now) c.first_not_before-first.result k c.requires c.first_not_before-first.ensures.front c.first_not_before-first.ensures.back) c.walk.ensures

pub returns-clause-inside : goal.returns-clause-inside
returns-clause-inside c = on_ok_weaker c.walk.result (λ made.
    every-part c.args.rows (seen c.args.span.now) _
    (subst (AllByRecursion (LiesIn (keyed c.args.rows (seen c.args.span.now)))) (sym (found-is (taken_of c.args.rows) (keyed c.args.rows (seen c.args.span.now)) c.args.taken.now c.first_not_before-first.result _ _ c.clear.ensures.items made))
    (walked-inside c.args.span.now.lo (keyed c.args.rows (seen c.args.span.now)) (drop c.first_not_before-first.result (map (taken_of c.args.rows) c.args.taken.now)) (omega arith)))) c.walk.ensures
