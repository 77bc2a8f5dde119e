use Rattle.std.proofs.Common.{◌∙◌}
use Rattle.std.specs.Cmp.Lexicographic.{texts_ties}
use Rattle.rs_facts.specs.Fact.{name_cmp}
use Rattle.rs_checker.proofs.columns.same_name.Goals as goal

-- names are compared as texts are
pub returns : goal.returns
unfolding name_cmp
returns c = c.eq.ensures ∙ texts_ties c.args.left.now.bytes c.args.right.now.bytes
