-- The tests together: the places are found, since the routes have numbers of their own.
use Rattle.std.proofs.Common.{◌≡◌, ◌≤◌, true, length, sym, ◌∙◌, arith}
use Rattle.std.specs.Prelude.{string_bytes}
use Rattle.std.proofs.lemmas.Bool.{false≢true, leb-true}
use Rattle.rs_machine.specs.declared.limits.TheConstants.{ALIGNMENTS}
use Rattle.rs_catalog_pages.specs.Items.{AlignmentItem}
use Rattle.rs_catalog_pages.specs.Said.{said_alignment}
use Rattle.rs_catalog_pages.specs.declared.items.StoredAlignment.{StoredAlignment}
use Rattle.rs_catalog_meaning.proofs.Each.{few_said, said_few}
use Rattle.rs_catalog_meaning.proofs.NameOrder.{in_order, rises_said, said_rises}
use Rattle.rs_catalog_meaning.proofs.RouteLaws.{given_once}
use Rattle.rs_catalog_meaning.proofs.alignments.are_alignments.Goals as goal
use Rattle.rs_catalog_meaning.proofs.alignments.are_alignments.Goals.{then-alignments-le-ALIGNMENTS, else-alignments-le-ALIGNMENTS}

pub returns-in_default : goal.returns-in_default
returns-in_default c = absurd (c.in_default.ensures.none (given_once c.args.routes.now c.requires))

pub returns-then-are_in_order : goal.returns-then-are_in_order
returns-then-are_in_order c =
    let alignments = c.args.alignments.now in
    let front : (length alignments ≤ ALIGNMENTS) × (in_order (λ (alignment : StoredAlignment). string_bytes alignment.name) alignments ≡ true) =
    elim c.if-alignments-le-ALIGNMENTS.branch [
      | then-alignments-le-ALIGNMENTS w ↦ (w.if-alignments-le-ALIGNMENTS.true, w.are_in_order.ensures.0 (sym w.value-is ∙ c.if-are_in_order.true))
      | else-alignments-le-ALIGNMENTS w ↦
          absurd (omega (arith, w.if-alignments-le-ALIGNMENTS.false, leb-true (length alignments) ALIGNMENTS (sym w.value-is ∙ c.if-are_in_order.true)))
    ] in (
      λ e. record {
        in_order = rises_said said_alignment (λ (alignment : AlignmentItem). alignment.name) alignments front.1;
        each = c.is_each_alignment.ensures.0 e;
        few = few_said said_alignment alignments ALIGNMENTS front.0;
      },
      λ are. c.is_each_alignment.ensures.1 are.each,
    )

pub returns-else-are_in_order : goal.returns-else-are_in_order
returns-else-are_in_order c =
    let alignments = c.args.alignments.now in (
      λ e. absurd (false≢true (sym c.if-are_in_order.false ∙ e)),
      λ are. elim c.if-alignments-le-ALIGNMENTS.branch [
        | then-alignments-le-ALIGNMENTS w ↦
            w.value-is ∙ w.are_in_order.ensures.1 (said_rises said_alignment (λ (alignment : AlignmentItem). alignment.name) alignments are.in_order)
        | else-alignments-le-ALIGNMENTS w ↦ absurd (omega (arith, w.if-alignments-le-ALIGNMENTS.false, said_few said_alignment alignments ALIGNMENTS are.few))
      ],
    )
