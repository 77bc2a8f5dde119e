-- Each so far is one that a line says.
use Rattle.std.proofs.Common.{map}
use Rattle.std.specs.List.{AllWithin}
use Rattle.rs_catalog_pages.specs.Said.{said_alignment, said_route}
use Rattle.rs_catalog_meaning.specs.Meaning.{IsAlignment}
use Rattle.rs_catalog_meaning.proofs.alignments.is_each_alignment.Given as goal

abbrev pub invariant-loop-alignment : goal.invariant-loop-alignment
invariant-loop-alignment l = AllWithin (λ item. IsAlignment (map said_route l.routes) (said_alignment item)) l.alignments 0 l.alignment-index
