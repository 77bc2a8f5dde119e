use Rattle.std.proofs.Common.{length}
use Rattle.rs_catalog.proofs.FreeNumbers.{AreTaken, numbers_in}
use Rattle.rs_catalog.proofs.by_name.ByName.free_number.Given as goal

abbrev pub invariant-loop-value : goal.invariant-loop-value
invariant-loop-value g l = AreTaken (length l.fn.taken) (numbers_in g.T.Numbered.number_of l.initial.value-iterator) (numbers_in g.T.Numbered.number_of l.value-iterator) l.taken
