use Rattle.std.proofs.Common.{◌+◌, ◌*◌, map}
use Rattle.rs_syntax.specs.View.{column_tree}
use Rattle.rs_syntax.specs.QueryView.{atom_tree}
use Rattle.rs_checker.specs.Inner.{atoms_tree}
use Rattle.rs_checker.proofs.ConditionLaws.{InChain}
use Rattle.rs_checker.proofs.conditions.+conditions.Given as goal

-- An atom goes down into a condition, that to its conjunctions, and these to their atoms.
abbrev pub decreases-atom : goal.decreases-atom
decreases-atom l = 3 * goal.size-atom l

abbrev pub decreases-conjunction : goal.decreases-conjunction
decreases-conjunction l = 3 * goal.size-conjunction l + 1

abbrev pub decreases-disjunction : goal.decreases-disjunction
decreases-disjunction l = 3 * goal.size-disjunction l + 2

abbrev pub invariant-conjunction-loop-part : goal.invariant-conjunction-loop-part
invariant-conjunction-loop-part l = InChain (map column_tree l.columns.items) atom_tree l.atoms l.part-index l.parts.items

abbrev pub invariant-disjunction-loop-atoms : goal.invariant-disjunction-loop-atoms
invariant-disjunction-loop-atoms l = InChain (map column_tree l.columns.items) (λ atoms. atoms_tree atoms.items) l.condition l.atoms-index l.parts.items
