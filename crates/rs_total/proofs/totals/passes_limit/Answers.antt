use Rattle.std.proofs.Common.{rules, map, ◌∙◌}
use Rattle.std.proofs.lemmas.Iterator.Consumers.{YieldsList-from_rest}
use Rattle.std.proofs.lemmas.Iterator.Search.{any_from_yields_List}
use Rattle.rs_total.specs.Answer.{has_passed}
use Rattle.rs_total.proofs.Answered.{is_true, any-number}
use Rattle.rs_total.proofs.GroupMaps.{groups-sorted}
use Rattle.rs_total.proofs.totals.passes_limit.Goals as goal

pub returns-clause-passes : goal.returns-clause-passes
returns-clause-passes c =
    any_from_yields_List (has_passed c.args.summed) _ _ c.any.result c.any.ensures.ran (YieldsList-from_rest (map (λ p. p.1) c.args.groups.now.entries) c.values.ensures.rest) (λ x b q k. search rules)
    ∙ any-number (has_passed c.args.summed) c.args.groups.now.entries

pub returns-clause-sorted : goal.returns-clause-sorted
returns-clause-sorted c = is_true _ (groups-sorted c.args.groups.now.entries c.values.ensures.ordered)
