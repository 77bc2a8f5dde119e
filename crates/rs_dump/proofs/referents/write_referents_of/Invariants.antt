-- The lines so far, and those that are left.
use Rattle.std.proofs.Common.{drop, map}
use Rattle.rs_dump.specs.Sections.{referents_of_route}
use Rattle.rs_dump.specs.Written.{WroteSome}
use Rattle.rs_methods.specs.Referents.{mark_of}
use Rattle.rs_dump.proofs.referents.write_referents_of.Given as goal

abbrev pub invariant-loop-referent : goal.invariant-loop-referent
invariant-loop-referent g l =
    WroteSome (referents_of_route l.route.bytes (map mark_of l.referents)) (referents_of_route l.route.bytes (map mark_of (drop l.referent-index l.referents)))
    (g.W.Write.contents l.fn.output) (g.W.Write.contents l.output)
