use Rattle.std.proofs.Common.{take}
use Rattle.rs_exec.specs.Routes.{numbers_of}
use Rattle.rs_exec.specs.Carried.{AreSourcesOf, AreApart}
use Rattle.rs_exec.proofs.carrying.sources_of.Given as goal

-- the pieces so far are of the sources, each of which is there once
abbrev pub invariant-loop-piece : goal.invariant-loop-piece
invariant-loop-piece l = record {
  led : AreSourcesOf (numbers_of l.routes) l.sources.items (take l.piece-index l.pieces);
  once : AreApart l.sources.items;
}
