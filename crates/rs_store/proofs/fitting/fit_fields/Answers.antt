-- What is so of each item as it is said is so of each item, and the other way round.
use Rattle.std.proofs.Common.{◌≡◌, ◌∙◌, All, Bool, List, false, map, refl, subst, sym, true}
use Rattle.std.specs.Prelude.{◌↔◌, IsTrue}
use Rattle.std.specs.Bool.{OnFalse, OnTrue}
use Rattle.std.proofs.lemmas.Bool.{false≢true}
use Rattle.std.proofs.lemmas.List.Elements.{All-map}
use Rattle.rs_catalog_pages.specs.Fitting.{FitsAlignment, FitsIndex, FitsRoute, FitsTable, FitsView}
use Rattle.rs_catalog_pages.specs.Said.{said_alignment, said_index, said_route, said_table, said_view}
use Rattle.rs_store.proofs.Listed.{all_seen}
use Rattle.rs_store.proofs.fitting.fit_fields.Goals as goal

on_true : {P : Type 0} (b : Bool) → (b ≡ true → P) → OnTrue b P
on_true true is = is refl
on_true false is = tt

on_false : {P : Type 0} (b : Bool) → (b ≡ false → P) → OnFalse b P
on_false true is = tt
on_false false is = is refl

module _ {X Y : Type 0} (Fits : Y → Type 0) (said : X → Y) (result : Bool) (slice items : List X) (value : slice ≡ items) (tells : IsTrue result ↔ All (λ x. Fits (said x)) slice) where
  all_fit : result ≡ true → All Fits (map said items)
  all_fit e = All-map Fits said items (subst (All (λ x. Fits (said x))) value (tells.0 e))

  some_unfit : result ≡ false → All Fits (map said items) → ⊥
  some_unfit e fits = false≢true (sym e ∙ tells.1 (subst (All (λ x. Fits (said x))) (sym value) (all_seen Fits said items fits)))

pub returns-then-not-do_routes_fit-clause-unfit : goal.returns-then-not-do_routes_fit-clause-unfit
returns-then-not-do_routes_fit-clause-unfit c = λ fits.
    some_unfit FitsRoute said_route c.do_routes_fit.result c.as_slice.result.now c.args.definitions.now.routes.items c.as_slice.ensures.value c.do_routes_fit.ensures c.if-not-do_routes_fit.true fits.routes

pub returns-then-not-do_tables_fit-clause-unfit : goal.returns-then-not-do_tables_fit-clause-unfit
returns-then-not-do_tables_fit-clause-unfit c = λ fits.
    some_unfit FitsTable said_table c.do_tables_fit.result c.as_slice-2.result.now c.args.definitions.now.tables.items c.as_slice-2.ensures.value c.do_tables_fit.ensures c.if-not-do_tables_fit.true fits.tables

pub returns-then-not-do_indexes_fit-clause-unfit : goal.returns-then-not-do_indexes_fit-clause-unfit
returns-then-not-do_indexes_fit-clause-unfit c = λ fits.
    some_unfit FitsIndex said_index c.do_indexes_fit.result c.as_slice-3.result.now c.args.definitions.now.indexes.items c.as_slice-3.ensures.value c.do_indexes_fit.ensures c.if-not-do_indexes_fit.true fits.indexes

pub returns-then-not-do_views_fit-clause-unfit : goal.returns-then-not-do_views_fit-clause-unfit
returns-then-not-do_views_fit-clause-unfit c = λ fits.
    some_unfit FitsView said_view c.do_views_fit.result c.as_slice-4.result.now c.args.definitions.now.views.items c.as_slice-4.ensures.value c.do_views_fit.ensures c.if-not-do_views_fit.true fits.views

pub returns-clause-fit : goal.returns-clause-fit
returns-clause-fit c = on_true c.do_alignments_fit.result (λ e. record {
  routes = all_fit FitsRoute said_route c.do_routes_fit.result c.as_slice.result.now c.args.definitions.now.routes.items c.as_slice.ensures.value c.do_routes_fit.ensures c.if-not-do_routes_fit.false;
  tables = all_fit FitsTable said_table c.do_tables_fit.result c.as_slice-2.result.now c.args.definitions.now.tables.items c.as_slice-2.ensures.value c.do_tables_fit.ensures c.if-not-do_tables_fit.false;
  indexes = all_fit FitsIndex said_index c.do_indexes_fit.result c.as_slice-3.result.now c.args.definitions.now.indexes.items c.as_slice-3.ensures.value c.do_indexes_fit.ensures c.if-not-do_indexes_fit.false;
  views = all_fit FitsView said_view c.do_views_fit.result c.as_slice-4.result.now c.args.definitions.now.views.items c.as_slice-4.ensures.value c.do_views_fit.ensures c.if-not-do_views_fit.false;
  alignments = all_fit FitsAlignment said_alignment c.do_alignments_fit.result c.as_slice-5.result.now c.args.definitions.now.alignments.items c.as_slice-5.ensures.value c.do_alignments_fit.ensures e;
})

pub returns-clause-unfit : goal.returns-clause-unfit
returns-clause-unfit c = on_false c.do_alignments_fit.result (λ e fits.
    some_unfit FitsAlignment said_alignment c.do_alignments_fit.result c.as_slice-5.result.now c.args.definitions.now.alignments.items c.as_slice-5.ensures.value c.do_alignments_fit.ensures e fits.alignments)
