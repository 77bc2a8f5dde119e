use Rattle.std.proofs.Common.{◌≡◌, map}
use Rattle.rs_catalog_meaning.specs.Stating.{named_alignment}
use Rattle.rs_catalog_pages.specs.Items.{AlignmentItem}
use Rattle.rs_catalog_pages.specs.Said.{said_alignment, said_route}
use Rattle.rs_stored_catalog.proofs.Entering.{so_far}
use Rattle.rs_stored_catalog.proofs.making.enter_alignments.Given as goal

-- the alignments so far
abbrev pub invariant-loop-alignment : goal.invariant-loop-alignment
invariant-loop-alignment l = l.catalog ≡ record l.fn.catalog { alignments = so_far (λ (x : AlignmentItem). x.name) (λ x. (named_alignment (map said_route l.routes) x).1) (map said_alignment l.alignments) l.alignment-index }
