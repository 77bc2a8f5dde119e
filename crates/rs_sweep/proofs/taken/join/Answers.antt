use Rattle.std.proofs.Common.{map, ap, ◌∙◌}
use Rattle.std.proofs.lemmas.List.{drop_all}
use Rattle.rs_facts.specs.Spans.{seen}
use Rattle.rs_sweep.specs.Taken.{keyed, taken_of}
use Rattle.rs_sweep.proofs.TakenLaws.{keys, keys-none, joined-none, joined-first, onto-end}
use Rattle.rs_sweep.proofs.taken.join.Goals as goal

pub returns-in_default : goal.returns-in_default
returns-in_default c = ap (map (taken_of c.args.rows)) c.new-taken.ensures.items ∙ joined-none (keys c.args.rows c.args.order.now) (keys-none c.args.rows c.args.order.now c.in_default.ensures.cases)

pub returns : goal.returns
returns c = ap (map (taken_of c.args.rows)) c.in_ok-push-2.ensures.items
    ∙ onto-end c.args.rows c.loop-span.taken.items c.loop-span.last _ _ (ap (keys c.args.rows) (drop_all c.loop-span.span-index c.in-Some.rest.now c.loop-span-test.false)) c.loop-span.invariant
    ∙ joined-first (keyed c.args.rows (seen c.in-Some.first.now.now)) (keys c.args.rows c.in-Some.rest.now) (keys c.args.rows c.args.order.now) (ap (keys c.args.rows) c.in-Some.ensures.cases.0)
