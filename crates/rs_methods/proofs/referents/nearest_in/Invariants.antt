use Rattle.std.proofs.Common.{◌≡◌, drop, map}
use Rattle.rs_methods.specs.Position.{nearest_from}
use Rattle.rs_methods.specs.Referents.{mark_of}
use Rattle.rs_methods.proofs.referents.nearest_in.Given as goal

abbrev pub invariant-loop-referent : goal.invariant-loop-referent
invariant-loop-referent l = nearest_from l.k (mark_of l.fn.first) (map mark_of l.items) ≡ nearest_from l.k (mark_of l.best) (map mark_of (drop l.referent-index l.items))
