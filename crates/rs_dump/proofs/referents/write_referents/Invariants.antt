-- The lines so far, and those that are left.
use Rattle.std.specs.Prelude.{flat_map}
use Rattle.rs_catalog.specs.Names.{entries_by_bytes}
use Rattle.rs_dump.specs.Sections.{referent_commands, referents_beside}
use Rattle.rs_dump.specs.Written.{WroteSome}
use Rattle.rs_dump.proofs.referents.write_referents.Given as goal

abbrev pub invariant-loop-name : goal.invariant-loop-name
invariant-loop-name g l =
    WroteSome (referent_commands l.catalog l.referents) (flat_map (referents_beside l.referents) (entries_by_bytes (λ route. route) l.name-iterator))
    (g.W.Write.contents l.fn.output) (g.W.Write.contents l.output)
