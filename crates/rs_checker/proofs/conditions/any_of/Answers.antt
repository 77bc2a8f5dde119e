use Rattle.std.proofs.Common.{sym, ap, ◌∙◌}
use Rattle.std.proofs.lemmas.List.{append-nil}
use Rattle.rs_checker.specs.Inner.{any_joined, conditions_of}
use Rattle.rs_checker.proofs.ConditionLaws.{either_is}
use Rattle.rs_checker.proofs.conditions.any_of.Goals as goal

pub returns-then-len-gt1 : goal.returns-then-len-gt1
returns-then-len-gt1 c = either_is c.args.parts

pub returns-in-None : goal.returns-in-None
returns-in-None c = either_is c.pop.new.self ∙ ap (λ zs. any_joined (conditions_of zs)) (sym (c.in-None.ensures.items ∙ append-nil c.pop.new.self.items))
