-- The events end, and then the spans come.
use Rattle.std.proofs.Common.{◌∙◌, List, map, sym, subst}
use Rattle.std.specs.List.{AllByRecursion}
use Rattle.std.proofs.lemmas.Result.{err_from_is_err_and}
use Rattle.rs_attr.proofs.Roots.{still_on}
use Rattle.rs_attr.specs.Tables.{AreOn, ChangesTable}
use Rattle.rs_facts.specs.declared.fact.Span.{Span}
use Rattle.rs_facts.specs.Runs.{Stretch}
use Rattle.rs_facts.specs.Spans.{seen}
use Rattle.rs_page_owners.proofs.Following.{works_err}
use Rattle.rs_page_owners.proofs.Working.{CountsNothing-refl, CountsNothing-trans, Works-refl, Works-trans}
use Rattle.rs_records.specs.Listed.{listed}
use Rattle.rs_value.specs.Values.{IsRowOf}
use Rattle.rs_table_changes.specs.Calls.{HoldsNoTableBy}
use Rattle.rs_table_changes.specs.Chains.{ComeAll, EndAll, GivesWayAt}
use Rattle.rs_table_changes.specs.Inner.{HoldsNoTableWith}
use Rattle.rs_table_changes.proofs.Moments.{ends_of}
use Rattle.rs_table_changes.proofs.Tables.{changes_then, none_made}
use Rattle.rs_table_changes.proofs.changing.make.Goals as goal

pub returns-in_err-end_each-clause-leaves : goal.returns-in_err-end_each-clause-leaves
returns-in_err-end_each-clause-leaves g c =
    let table = c.args.table.now in
    let first = g.P.Pages.store c.args.pages.now in
    let cells = listed c.args.edit.now.gone in
    let p = err_from_is_err_and c.from_residual.result c.from_residual.ensures.1 in
    record {
      keeps = c.in_err-end_each.ensures.leaves.keeps;
      works = rw (p.1, p.2) (works_err (g.P.Pages.is_tied c.args.pages.now → HoldsNoTableWith c.args.moment.version cells table.records.types first.map table.records.working table.indexes.items)
          (g.P.Pages.is_tied c.args.pages.now → HoldsNoTableWith c.args.moment.version cells table.records.types first.map table.records.working table.indexes.items) c.in_err-end_each.field-0.0
          first first (g.P.Pages.store c.end_each.new.pages) (Works-refl first) (CountsNothing-refl first) (λ none. none) c.in_err-end_each.ensures.leaves.works);
    }

pub end_each-requires-clause-ends : goal.end_each-requires-clause-ends
end_each-requires-clause-ends g c = ends_of c.end-at.result c.args.moment.version c.args.moment.oldest c.end-at.ensures

pub add_each-requires-clause-begun : goal.add_each-requires-clause-begun
add_each-requires-clause-begun g c = c.in_ok-end_each.ensures.leaves.works.works.counts.begun ∙ c.requires.may.begun

pub add_each-requires-clause-rows : goal.add_each-requires-clause-rows
add_each-requires-clause-rows g c =
    subst (λ (l : List Span). AllByRecursion (λ (s : Stretch). IsRowOf c.end_each.new.table.records.types s.row) (map seen l)) (sym c.deref.ensures.value)
    (subst (λ types. AllByRecursion (λ (s : Stretch). IsRowOf types s.row) (map seen c.args.edit.now.come.items)) (sym c.in_ok-end_each.ensures.keeps.table.types) c.requires.rows)

pub add_each-requires-clause-indexes : goal.add_each-requires-clause-indexes
add_each-requires-clause-indexes g c =
    subst (λ types. AreOn types c.end_each.new.table.indexes.items) (sym c.in_ok-end_each.ensures.keeps.table.types)
    (still_on c.args.table.now.records.types c.args.table.now.indexes.items c.end_each.new.table.indexes.items c.in_ok-end_each.ensures.keeps.table.kept c.requires.may.indexes)

pub returns-in_err-add_each-clause-leaves : goal.returns-in_err-add_each-clause-leaves
returns-in_err-add_each-clause-leaves g c =
    let was = c.args.table.now in
    let next = c.end_each.new.table in
    let first = g.P.Pages.store c.args.pages.now in
    let mid = g.P.Pages.store c.end_each.new.pages in
    let cells = listed c.args.edit.now.gone in
    let p = err_from_is_err_and c.from_residual-in_err-add_each.result c.from_residual-in_err-add_each.ensures.1 in
    record {
      keeps = g.met.P.Pages.keeps_trans c.args.pages.now c.end_each.new.pages c.add_each.new.pages c.in_ok-end_each.ensures.leaves.keeps c.in_err-add_each.ensures.leaves.keeps;
      works = rw (p.1, p.2) (works_err (g.P.Pages.is_tied c.args.pages.now → HoldsNoTableWith c.args.moment.version cells was.records.types first.map was.records.working was.indexes.items)
          (g.P.Pages.is_tied c.end_each.new.pages → HoldsNoTableBy c.args.moment.version next.records.types mid.map next.records.working next.indexes.items) c.in_err-add_each.field-0.0
          first mid (g.P.Pages.store c.add_each.new.pages) c.in_ok-end_each.ensures.leaves.works.works c.in_ok-end_each.ensures.leaves.works.ends
          (λ none tied.
          none_made was.records.types c.args.moment.version c.end-at.result cells first.map mid.map was.records.working next.records.working was.indexes.items next.indexes.items (c.in_ok-end_each.ensures.ended tied)
          (subst (λ types. HoldsNoTableBy c.args.moment.version types mid.map next.records.working next.indexes.items) c.in_ok-end_each.ensures.keeps.table.types
          (none (g.met.P.Pages.keeps_tied c.args.pages.now c.end_each.new.pages c.in_ok-end_each.ensures.leaves.keeps tied))))
          c.in_err-add_each.ensures.leaves.works);
    }

pub returns-clause-leaves : goal.returns-clause-leaves
returns-clause-leaves g c =
    let first = g.P.Pages.store c.args.pages.now in
    let mid = g.P.Pages.store c.end_each.new.pages in
    let last = g.P.Pages.store c.add_each.new.pages in
    record {
      keeps = g.met.P.Pages.keeps_trans c.args.pages.now c.end_each.new.pages c.add_each.new.pages c.in_ok-end_each.ensures.leaves.keeps c.in_ok-add_each.ensures.leaves.keeps;
      works = record {
        works = Works-trans first mid last c.in_ok-end_each.ensures.leaves.works.works c.in_ok-add_each.ensures.leaves.works.works;
        ends = CountsNothing-trans first mid last c.in_ok-end_each.ensures.leaves.works.ends c.in_ok-add_each.ensures.leaves.works.ends;
      };
    }

pub returns-clause-made : goal.returns-clause-made
returns-clause-made g c = λ tied. (
  c.end-at.result,
  c.end-at.ensures,
  λ gone say.
      let was = c.args.table.now in
      let next = c.end_each.new.table in
      let is = c.add_each.new.table in
      let first = g.P.Pages.store c.args.pages.now in
      let mid = g.P.Pages.store c.end_each.new.pages in
      let last = g.P.Pages.store c.add_each.new.pages in
      let version = c.args.moment.version in
      let at = c.end-at.result in
      let route = c.args.route in
      let come = map seen c.args.edit.now.come.items in
      let step = c.in_ok-add_each.ensures.came (g.met.P.Pages.keeps_tied c.args.pages.now c.end_each.new.pages c.in_ok-end_each.ensures.leaves.keeps tied) in
      let listed_so = subst (λ (l : List Span). ChangesTable next.records.types mid.map last.map next.records.working is.records.working next.indexes.items is.indexes.items version version (ComeAll route version (map seen l))) c.deref.ensures.value step in
      let typed = subst (λ types. ChangesTable types mid.map last.map next.records.working is.records.working next.indexes.items is.indexes.items version version (ComeAll route version come)) c.in_ok-end_each.ensures.keeps.table.types listed_so in
      changes_then was.records.types first.map mid.map last.map was.records.working next.records.working is.records.working was.indexes.items next.indexes.items is.indexes.items version version version
      (EndAll was.records.types at gone) (ComeAll route version come) (GivesWayAt was.records.types at version route gone come) (λ a b d x y. record { between = b; ended = x; came = y })
      (c.in_ok-end_each.ensures.ended tied gone say) typed,
)
