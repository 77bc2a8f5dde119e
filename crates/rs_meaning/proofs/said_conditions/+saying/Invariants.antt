use Rattle.std.proofs.Common.{◌+◌, ◌*◌, length, take}
use Rattle.rs_syntax.specs.Written.{atom_lexemes, conjunction_lexemes, condition_lexemes}
use Rattle.rs_syntax.specs.WrittenView.{atom_syntax, conjunction_syntax, condition_syntax}
use Rattle.rs_meaning.proofs.SayingLaws.{Each, SaysPart, SaysParts}
use Rattle.rs_meaning.proofs.said_conditions.+saying.Given as goal

-- The tokens that are written, and on the same tokens a rank of each function.
abbrev pub decreases-atom_said : goal.decreases-atom_said
decreases-atom_said l = 3 * length (atom_lexemes (atom_syntax l.written.now))

abbrev pub decreases-conjunction_said : goal.decreases-conjunction_said
decreases-conjunction_said l = 3 * length (conjunction_lexemes (conjunction_syntax l.written.now)) + 1

abbrev pub decreases-condition_said : goal.decreases-condition_said
decreases-condition_said l = 3 * length (condition_lexemes (condition_syntax l.written.now)) + 2

abbrev pub invariant-conjunction_said-loop-part : goal.invariant-conjunction_said-loop-part
invariant-conjunction_said-loop-part l = Each (SaysPart l.line) (take l.part-index l.written) l.atoms.items

abbrev pub invariant-condition_said-loop-part : goal.invariant-condition_said-loop-part
invariant-condition_said-loop-part l = Each (SaysParts l.line) (take l.part-index l.written) l.conjunctions.items
