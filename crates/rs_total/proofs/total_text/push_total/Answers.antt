use Rattle.std.proofs.Common.{rules, arith}
use Rattle.std.proofs.lemmas.Grind.{common_steps}
use Rattle.rs_facts.specs.TotalText.{total_text}
use Rattle.rs_total.proofs.total_text.push_total.Goals as goal

pub returns : goal.returns
unfolding total_text
returns c = first_of (search rules, grind (arith, common_steps))
