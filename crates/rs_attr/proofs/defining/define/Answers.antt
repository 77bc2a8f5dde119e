-- Part by part, and at last what is below all that no cell reaches.
use Rattle.std.proofs.Common.{◌≡◌, ℕ, List, [], ◌∷◌, replicate, slice_index_or, sym, ◌∙◌, subst, arith}
use Rattle.std.proofs.lemmas.Result.{err_from_is_err_and}
use Rattle.rs_attr.specs.Inner.{EntersNone}
use Rattle.rs_attr.specs.Entries.{Field, IsColumn}
use Rattle.rs_attr.proofs.Parts.{Defines, defines_all, defines_missing, defines_next, defines_none, none_wide, route_below}
use Rattle.rs_interval.specs.Finding.{event_form}
use Rattle.rs_tree.proofs.Below.{below_one_way}
use Rattle.rs_page_owners.proofs.Working.{CountsNothing-refl, CountsNothing-trans, Works-refl, Works-trans}
use Rattle.rs_page_owners.proofs.Following.{works_err}
use Rattle.rs_versioned.specs.Events.{event_width}
use Rattle.rs_cell_versions.specs.Versioned.{HoldsNone}
use Rattle.rs_attr.proofs.defining.define.Goals.{then-is_below+in_ok-enter, else-is_below}
use Rattle.rs_attr.proofs.defining.define.Goals as goal

pub loop-route-init : goal.loop-route-init
loop-route-init g c =
    let old = (g.P.Pages.store c.args.pages.now).map in
    let field = c.with-index.result.field in
    let is : IsColumn c.args.table.now.types c.args.column field = subst (λ types. IsColumn types c.args.column field) c.schema.ensures c.with-index.ensures.column in
    let none : Defines field old old c.at-cells.result.root 0 (0 ∷ 0 ∷ 0 ∷ 0 ∷ []) = defines_none field old c.at-cells.result.root (omega (arith, is.cell_width)) in
    record {
      keeps = g.met.P.Pages.keeps_refl c.args.pages.now;
      works = Works-refl (g.P.Pages.store c.args.pages.now);
      nothing = CountsNothing-refl (g.P.Pages.store c.args.pages.now);
      column = is;
      committed = c.with-index.ensures.committed ∙ c.new.ensures;
      low = record { number = 0; is = c.to_be_bytes-low.ensures };
      defined = λ tied.
          subst (λ (l : List ℕ). Defines field old old c.at-cells.result.root c.with-index.result.working l) (sym c.to_be_bytes-low.ensures)
          (subst (λ (to : ℕ). Defines field old old c.at-cells.result.root to (0 ∷ 0 ∷ 0 ∷ 0 ∷ [])) (sym (c.with-index.ensures.working ∙ c.new.ensures)) none);
    }

pub enter-requires-clause-begun : goal.enter-requires-clause-begun
enter-requires-clause-begun g c = c.loop-route.invariant.works.counts.begun ∙ c.requires.begun

pub enter-requires-clause-width : goal.enter-requires-clause-width
enter-requires-clause-width g c = c.at-cells.ensures.width ∙ c.width.ensures.width ∙ sym c.loop-route.invariant.column.cell_width

pub enter-requires-clause-order : goal.enter-requires-clause-order
enter-requires-clause-order g c = below_one_way c.loop-route.low c.to_be_bytes-high.result (sym c.is_below.ensures ∙ c.if-is_below.true)

pub returns-in_err-enter-clause-leaves : goal.returns-in_err-enter-clause-leaves
returns-in_err-enter-clause-leaves g c =
    let old = (g.P.Pages.store c.args.pages.now).map in
    let mid = (g.P.Pages.store c.loop-route.pages).map in
    let field = c.loop-route.index.field in
    let table = c.at-cells.result.root in
    let working = c.args.table.now.working in
    let p = err_from_is_err_and c.from_residual.result c.from_residual.ensures.1 in
    record {
      keeps = g.met.P.Pages.keeps_trans c.args.pages.now c.loop-route.pages c.enter.new.pages c.loop-route.invariant.keeps c.in_err-enter.ensures.leaves.keeps;
      works = rw (p.1, p.2) (works_err (g.P.Pages.is_tied c.args.pages.now → HoldsNone (event_form (event_width c.args.table.now.types)) old working)
          (g.P.Pages.is_tied c.loop-route.pages → EntersNone field mid table c.loop-route.index.working c.loop-route.low) c.in_err-enter.field-0.0
          (g.P.Pages.store c.args.pages.now) (g.P.Pages.store c.loop-route.pages) (g.P.Pages.store c.enter.new.pages) c.loop-route.invariant.works c.loop-route.invariant.nothing
          (λ none tied. none_wide field.cell_width (event_width c.args.table.now.types) old working c.loop-route.invariant.column.cell_width
          (defines_missing field old table mid c.loop-route.index.working c.loop-route.low (c.loop-route.invariant.defined tied) working (c.at-cells.ensures.root ∙ c.root.ensures)
          (none (g.met.P.Pages.keeps_tied c.args.pages.now c.loop-route.pages c.loop-route.invariant.keeps tied))))
          c.in_err-enter.ensures.leaves.works);
    }

pub loop-route-preserved : goal.loop-route-preserved
loop-route-preserved g c =
    let old = (g.P.Pages.store c.args.pages.now).map in
    let mid = (g.P.Pages.store c.loop-route.pages).map in
    let field = c.loop-route.index.field in
    let table = c.at-cells.result.root in
    elim c.if-is_below.branch [
      | then-is_below+in_ok-enter w ↦
          let new = (g.P.Pages.store w.enter.new.pages).map in
          rw (w.pages-is, w.index-is, w.low-is) (record {
            keeps = g.met.P.Pages.keeps_trans c.args.pages.now c.loop-route.pages w.enter.new.pages c.loop-route.invariant.keeps w.in_ok-enter.ensures.leaves.keeps;
            works = Works-trans (g.P.Pages.store c.args.pages.now) (g.P.Pages.store c.loop-route.pages) (g.P.Pages.store w.enter.new.pages) c.loop-route.invariant.works w.in_ok-enter.ensures.leaves.works.works;
            nothing = CountsNothing-trans (g.P.Pages.store c.args.pages.now) (g.P.Pages.store c.loop-route.pages) (g.P.Pages.store w.enter.new.pages) c.loop-route.invariant.nothing w.in_ok-enter.ensures.leaves.works.ends;
            column = subst (IsColumn c.args.table.now.types c.args.column) (sym w.in_ok-enter.ensures.field) c.loop-route.invariant.column;
            committed = w.in_ok-enter.ensures.committed ∙ c.loop-route.invariant.committed;
            low = record { number = slice_index_or c.args.routes.now c.loop-route.route-index 0; is = c.to_be_bytes-high.ensures };
            defined = λ tied.
                let later = g.met.P.Pages.keeps_tied c.args.pages.now c.loop-route.pages c.loop-route.invariant.keeps tied in
                subst (λ (f : Field). Defines f old new table w.enter.new.index.working c.to_be_bytes-high.result) (sym w.in_ok-enter.ensures.field)
                (defines_next field old table mid c.loop-route.index.working c.loop-route.low (c.loop-route.invariant.defined tied) new w.enter.new.index.working c.to_be_bytes-high.result (w.in_ok-enter.ensures.entered later));
          })
      | else-is_below w ↦ rw (w.pages-is, w.index-is, w.low-is) c.loop-route.invariant
    ]

pub enter-requires-2-clause-begun : goal.enter-requires-2-clause-begun
enter-requires-2-clause-begun g c = c.loop-route.invariant.works.counts.begun ∙ c.requires.begun

pub enter-requires-2-clause-width : goal.enter-requires-2-clause-width
enter-requires-2-clause-width g c = c.at-cells.ensures.width ∙ c.width.ensures.width ∙ sym c.loop-route.invariant.column.cell_width

pub enter-requires-2-clause-order : goal.enter-requires-2-clause-order
enter-requires-2-clause-order g c = route_below c.loop-route.low c.loop-route.invariant.low

pub returns-in_err-enter-2-clause-leaves : goal.returns-in_err-enter-2-clause-leaves
returns-in_err-enter-2-clause-leaves g c =
    let old = (g.P.Pages.store c.args.pages.now).map in
    let mid = (g.P.Pages.store c.loop-route.pages).map in
    let field = c.loop-route.index.field in
    let table = c.at-cells.result.root in
    let working = c.args.table.now.working in
    let p = err_from_is_err_and c.from_residual-in_err-enter-2.result c.from_residual-in_err-enter-2.ensures.1 in
    record {
      keeps = g.met.P.Pages.keeps_trans c.args.pages.now c.loop-route.pages c.enter-2.new.pages c.loop-route.invariant.keeps c.in_err-enter-2.ensures.leaves.keeps;
      works = rw (p.1, p.2) (works_err (g.P.Pages.is_tied c.args.pages.now → HoldsNone (event_form (event_width c.args.table.now.types)) old working)
          (g.P.Pages.is_tied c.loop-route.pages → EntersNone field mid table c.loop-route.index.working c.loop-route.low) c.in_err-enter-2.field-0.0
          (g.P.Pages.store c.args.pages.now) (g.P.Pages.store c.loop-route.pages) (g.P.Pages.store c.enter-2.new.pages) c.loop-route.invariant.works c.loop-route.invariant.nothing
          (λ none tied. none_wide field.cell_width (event_width c.args.table.now.types) old working c.loop-route.invariant.column.cell_width
          (defines_missing field old table mid c.loop-route.index.working c.loop-route.low (c.loop-route.invariant.defined tied) working (c.at-cells.ensures.root ∙ c.root.ensures)
          (none (g.met.P.Pages.keeps_tied c.args.pages.now c.loop-route.pages c.loop-route.invariant.keeps tied))))
          c.in_err-enter-2.ensures.leaves.works);
    }

pub returns-clause-leaves : goal.returns-clause-leaves
returns-clause-leaves g c = record {
  keeps = g.met.P.Pages.keeps_trans c.args.pages.now c.loop-route.pages c.enter-2.new.pages c.loop-route.invariant.keeps c.in_ok-enter-2.ensures.leaves.keeps;
  works = record {
    works = Works-trans (g.P.Pages.store c.args.pages.now) (g.P.Pages.store c.loop-route.pages) (g.P.Pages.store c.enter-2.new.pages) c.loop-route.invariant.works c.in_ok-enter-2.ensures.leaves.works.works;
    ends = CountsNothing-trans (g.P.Pages.store c.args.pages.now) (g.P.Pages.store c.loop-route.pages) (g.P.Pages.store c.enter-2.new.pages) c.loop-route.invariant.nothing c.in_ok-enter-2.ensures.leaves.works.ends;
  };
}

pub returns-clause-index : goal.returns-clause-index
returns-clause-index g c = record {
  column = subst (IsColumn c.args.table.now.types c.args.column) (sym c.in_ok-enter-2.ensures.field) c.loop-route.invariant.column;
  committed = c.in_ok-enter-2.ensures.committed ∙ c.loop-route.invariant.committed;
}

pub returns-clause-defines : goal.returns-clause-defines
returns-clause-defines g c = λ tied.
    let old = (g.P.Pages.store c.args.pages.now).map in
    let mid = (g.P.Pages.store c.loop-route.pages).map in
    let new = (g.P.Pages.store c.enter-2.new.pages).map in
    let field = c.loop-route.index.field in
    let table = c.at-cells.result.root in
    let later = g.met.P.Pages.keeps_tied c.args.pages.now c.loop-route.pages c.loop-route.invariant.keeps tied in
    let all = defines_next field old table mid c.loop-route.index.working c.loop-route.low (c.loop-route.invariant.defined tied) new c.enter-2.new.index.working (replicate 9 255) (c.in_ok-enter-2.ensures.entered later) in
    let other = c.enter-2.new.index.field in
    let same : other ≡ field = c.in_ok-enter-2.ensures.field in
    defines_all c.args.table.now.types c.args.column other old new c.args.table.now.working table c.enter-2.new.index.working c.requires.column (subst (IsColumn c.args.table.now.types c.args.column) (sym same) c.loop-route.invariant.column) (c.at-cells.ensures.root ∙ c.root.ensures)
    (subst (λ (f : Field). Defines f old new table c.enter-2.new.index.working (replicate 9 255)) (sym same) all)
