-- The tests together.
use Rattle.std.proofs.Common.{◌≡◌, ◌≤◌, true, length, sym, ◌∙◌, arith}
use Rattle.std.specs.Prelude.{string_bytes}
use Rattle.std.proofs.lemmas.Bool.{false≢true, leb-true}
use Rattle.rs_machine.specs.declared.limits.TheConstants.{VIEWS}
use Rattle.rs_catalog_pages.specs.Items.{ViewItem}
use Rattle.rs_catalog_pages.specs.Said.{said_view}
use Rattle.rs_catalog_pages.specs.declared.items.StoredView.{StoredView}
use Rattle.rs_catalog_meaning.proofs.Each.{few_said, said_few}
use Rattle.rs_catalog_meaning.proofs.NameOrder.{in_order, rises_said, said_rises}
use Rattle.rs_catalog_meaning.proofs.tables.are_views.Goals as goal
use Rattle.rs_catalog_meaning.proofs.tables.are_views.Goals.{then-views-le-VIEWS, else-views-le-VIEWS}

pub returns-then-are_in_order : goal.returns-then-are_in_order
returns-then-are_in_order c =
    let views = c.args.views.now in
    let front : (length views ≤ VIEWS) × (in_order (λ (view : StoredView). string_bytes view.name) views ≡ true) =
    elim c.if-views-le-VIEWS.branch [
      | then-views-le-VIEWS w ↦ (w.if-views-le-VIEWS.true, w.are_in_order.ensures.0 (sym w.value-is ∙ c.if-are_in_order.true))
      | else-views-le-VIEWS w ↦ absurd (omega (arith, w.if-views-le-VIEWS.false, leb-true (length views) VIEWS (sym w.value-is ∙ c.if-are_in_order.true)))
    ] in (
      λ e. record {
        in_order = rises_said said_view (λ (view : ViewItem). view.name) views front.1;
        each = c.is_each_view.ensures.0 e;
        few = few_said said_view views VIEWS front.0;
      },
      λ are. c.is_each_view.ensures.1 are.each,
    )

pub returns-else-are_in_order : goal.returns-else-are_in_order
returns-else-are_in_order c =
    let views = c.args.views.now in (
      λ e. absurd (false≢true (sym c.if-are_in_order.false ∙ e)),
      λ are. elim c.if-views-le-VIEWS.branch [
        | then-views-le-VIEWS w ↦ w.value-is ∙ w.are_in_order.ensures.1 (said_rises said_view (λ (view : ViewItem). view.name) views are.in_order)
        | else-views-le-VIEWS w ↦ absurd (omega (arith, w.if-views-le-VIEWS.false, said_few said_view views VIEWS are.few))
      ],
    )
