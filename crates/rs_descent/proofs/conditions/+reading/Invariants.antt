use Rattle.std.proofs.Common.{◌+◌, ◌*◌, length}
use Rattle.rs_grammar.specs.declared.kind.TokenKind.TheVariants as kinds
use Rattle.rs_grammar.specs.Grammar.{rules, conjunction, condition}
use Rattle.rs_descent.proofs.Steps.{IsListSoFar}
use Rattle.rs_descent.proofs.ConditionSteps.{part_lexemes, parts_lexemes}
use Rattle.rs_descent.proofs.conditions.+reading.Given as goal

-- The tokens that are left, and on the same tokens a rank of each function.
abbrev pub decreases-atom : goal.decreases-atom
decreases-atom l = 4 * length l.tokens.now

abbrev pub decreases-conjunction : goal.decreases-conjunction
decreases-conjunction l = 4 * length l.tokens.now + 1

abbrev pub decreases-condition : goal.decreases-condition
decreases-condition l = 4 * length l.tokens.now + 2

abbrev pub decreases-inside : goal.decreases-inside
decreases-inside l = 4 * length l.tokens.now + 3

abbrev pub invariant-conjunction-loop-atoms : goal.invariant-conjunction-loop-atoms
invariant-conjunction-loop-atoms l = IsListSoFar kinds.And (rules conjunction) part_lexemes l.tokens l.atoms.items l.rest

abbrev pub decreases-conjunction-loop-atoms : goal.decreases-conjunction-loop-atoms
decreases-conjunction-loop-atoms l = length l.rest

abbrev pub invariant-condition-loop-conjunctions : goal.invariant-condition-loop-conjunctions
invariant-condition-loop-conjunctions l = IsListSoFar kinds.Or (rules condition) parts_lexemes l.tokens l.conjunctions.items l.rest

abbrev pub decreases-condition-loop-conjunctions : goal.decreases-condition-loop-conjunctions
decreases-condition-loop-conjunctions l = length l.rest
