use Rattle.std.proofs.Common.{◌≡◌, ◌++◌, map, ap, sym, subst, ◌∙◌, arith}
use Rattle.std.proofs.lemmas.Result.{on_ok_weaker}
use Rattle.std.specs.List.{list_any, AllByRecursion}
use Rattle.rs_coalesce.specs.Lent.{seen_lent}
use Rattle.rs_facts.specs.Spans.{seen}
use Rattle.rs_sweep.specs.Parts.{in_part, LiesIn, left_along}
use Rattle.rs_sweep.proofs.PartLaws.{along-any, along-inside}
use Rattle.rs_sweep.proofs.in_line.parts_along.Goals as goal

found : (c : goal.After-go_along) → c.go_along.new.parts.items ≡ c.clear.new.self.items ++ left_along c.args.span.now.lo (seen c.args.span.now) (map seen_lent c.args.others.now) → c.go_along.new.parts.items ≡ left_along c.args.span.now.lo (seen c.args.span.now) (map seen_lent c.args.others.now)
found c made = made ∙ ap (λ l. l ++ left_along c.args.span.now.lo (seen c.args.span.now) (map seen_lent c.args.others.now)) c.clear.ensures.items

pub returns-clause-free : goal.returns-clause-free
returns-clause-free c = on_ok_weaker c.go_along.result (λ made k.
    ap (list_any (in_part k)) (found c made)
    ∙ along-any c.args.span.now.lo (seen c.args.span.now) (map seen_lent c.args.others.now) k c.requires.in_line c.requires.placed) c.go_along.ensures

pub returns-clause-inside : goal.returns-clause-inside
returns-clause-inside c = on_ok_weaker c.go_along.result (λ made.
    subst (AllByRecursion (LiesIn (seen c.args.span.now))) (sym (found c made))
    (along-inside c.args.span.now.lo (seen c.args.span.now) (map seen_lent c.args.others.now) (omega arith))) c.go_along.ensures
