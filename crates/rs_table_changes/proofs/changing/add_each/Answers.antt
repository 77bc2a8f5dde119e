-- One span after the other.
use Rattle.std.proofs.Common.{◌≡◌, ◌+◌, ◌∙◌, List, [], ◌∷◌, ◌++◌, length, map, take, drop, refl, sym, ap, subst, arith}
use Rattle.std.proofs.lemmas.List.{map_more, take_all}
use Rattle.std.proofs.lemmas.Result.{err_from_is_err_and}
use Rattle.rs_attr.proofs.Roots.{still_on}
use Rattle.rs_attr.specs.Tables.{AreOn, ChangesTable, HoldsNoTable, IndexState, kept_parts}
use Rattle.rs_facts.specs.Runs.{Stretch}
use Rattle.rs_facts.specs.Spans.{seen}
use Rattle.rs_facts.specs.declared.fact.Span.{Span}
use Rattle.rs_page_owners.proofs.Following.{works_err}
use Rattle.rs_page_owners.proofs.Working.{CountsNothing-refl, CountsNothing-trans, Works-refl, Works-trans}
use Rattle.rs_pages.proofs.Stores.{SamePages-refl}
use Rattle.rs_value.specs.Values.{IsRowOf}
use Rattle.rs_versioned.specs.Records.{HasOneMore}
use Rattle.rs_table_changes.specs.Calls.{HoldsNoTableBy}
use Rattle.rs_table_changes.specs.Chains.{ComeAll, living_event}
use Rattle.rs_table_changes.specs.Inner.{ChangesNow}
use Rattle.rs_table_changes.proofs.Ending.{kept_length, row_at, written}
use Rattle.rs_table_changes.proofs.GiveWay.{come_next}
use Rattle.rs_table_changes.proofs.Tables.{changes_none, changes_then, none_by}
use Rattle.rs_table_changes.proofs.changing.add_each.Goals as goal

pub loop-span-init : goal.loop-span-init
loop-span-init g c =
    let table = c.args.table.now in
    let first = g.P.Pages.store c.args.pages.now in
    record {
      keeps = g.met.P.Pages.keeps_refl c.args.pages.now;
      works = Works-refl first;
      nothing = CountsNothing-refl first;
      table = record { types = refl; committed = refl; kept = refl };
      dead = refl;
      came = λ tied. changes_none table.records.types first.map first.map (SamePages-refl first.map) table.records.working table.indexes.items c.args.version;
    }

pub add-requires-clause-begun : goal.add-requires-clause-begun
add-requires-clause-begun g c = c.loop-span.invariant.works.counts.begun ∙ c.requires.begun

pub add-requires-clause-row : goal.add-requires-clause-row
add-requires-clause-row g c =
    subst (λ types. IsRowOf types c.span-item.result.tuple) (sym c.loop-span.invariant.table.types)
    (row_at (IsRowOf c.args.table.now.records.types) c.args.spans.now c.loop-span.span-index c.span-item.result c.requires.rows c.loop-span-test.true c.span-item.is)

pub add-requires-clause-indexes : goal.add-requires-clause-indexes
add-requires-clause-indexes g c =
    subst (AreOn c.loop-span.table.records.types) (sym c.deref_mut.ensures.value)
    (subst (λ types. AreOn types c.loop-span.table.indexes.items) (sym c.loop-span.invariant.table.types)
    (still_on c.args.table.now.records.types c.args.table.now.indexes.items c.loop-span.table.indexes.items c.loop-span.invariant.table.kept c.requires.indexes))

pub returns-in_err-add-clause-leaves : goal.returns-in_err-add-clause-leaves
returns-in_err-add-clause-leaves g c =
    let was = c.args.table.now in
    let next = c.loop-span.table in
    let first = g.P.Pages.store c.args.pages.now in
    let last = g.P.Pages.store c.loop-span.pages in
    let p = err_from_is_err_and c.from_residual.result c.from_residual.ensures.1 in
    record {
      keeps = g.met.P.Pages.keeps_trans c.args.pages.now c.loop-span.pages c.add.new.pages c.loop-span.invariant.keeps c.in_err-add.ensures.leaves.keeps;
      works = rw (p.1, p.2) (works_err (g.P.Pages.is_tied c.args.pages.now → HoldsNoTableBy c.args.version was.records.types first.map was.records.working was.indexes.items)
          (g.P.Pages.is_tied c.loop-span.pages → HoldsNoTable next.records.types last.map next.records.working c.deref_mut.result.now) c.in_err-add.field-0.0
          first last (g.P.Pages.store c.add.new.pages) c.loop-span.invariant.works c.loop-span.invariant.nothing
          (λ none tied.
          none_by was.records.types c.args.version first.map last.map was.records.working next.records.working was.indexes.items next.indexes.items
          (ComeAll c.args.route c.args.version (map seen (take c.loop-span.span-index c.args.spans.now))) (c.loop-span.invariant.came tied)
          (subst (λ types. HoldsNoTable types last.map next.records.working next.indexes.items) c.loop-span.invariant.table.types
          (subst (HoldsNoTable next.records.types last.map next.records.working) c.deref_mut.ensures.value
          (none (g.met.P.Pages.keeps_tied c.args.pages.now c.loop-span.pages c.loop-span.invariant.keeps tied)))))
          c.in_err-add.ensures.leaves.works);
    }

pub returns-in_err-add-clause-table : goal.returns-in_err-add-clause-table
returns-in_err-add-clause-table g c =
    let before = c.loop-span.invariant.table in
    let after = c.in_err-add.ensures.table in
    let old = c.loop-span.table.indexes in
    let items : take old.len (c.add.new.indexes ++ drop (length c.add.new.indexes) old.items) ≡ c.add.new.indexes =
    written old.len c.add.new.indexes old.items (sym c.deref_mut.ensures.len ∙ sym (kept_length c.deref_mut.result.now c.add.new.indexes after.kept)) in
    record {
      types = after.types ∙ before.types;
      committed = after.committed ∙ before.committed;
      kept = ap kept_parts items ∙ after.kept ∙ ap kept_parts c.deref_mut.ensures.value ∙ before.kept;
    }

pub loop-span-preserved : goal.loop-span-preserved
loop-span-preserved g c =
    let was = c.args.table.now in
    let next = c.loop-span.table in
    let is = c.add.new.table in
    let first = g.P.Pages.store c.args.pages.now in
    let last = g.P.Pages.store c.loop-span.pages in
    let now = g.P.Pages.store c.add.new.pages in
    let before = c.loop-span.invariant.table in
    let after = c.in_ok-add.ensures.table in
    let old = c.loop-span.table.indexes in
    let items : take old.len (c.add.new.indexes ++ drop (length c.add.new.indexes) old.items) ≡ c.add.new.indexes =
    written old.len c.add.new.indexes old.items (sym c.deref_mut.ensures.len ∙ sym (kept_length c.deref_mut.result.now c.add.new.indexes after.kept)) in
    let version = c.args.version in
    let route = c.args.route in
    let spans = c.args.spans.now in
    let place = c.loop-span.span-index in
    let span = c.span-item.result in
    let so_far = map seen (take place spans) in
    let more : so_far ++ seen span ∷ [] ≡ map seen (take (place + 1) spans) =
    ap (λ (s : Span). so_far ++ seen s ∷ []) c.span-item.is ∙ sym (map_more seen spans place span c.loop-span-test.true) in
    record {
      keeps = g.met.P.Pages.keeps_trans c.args.pages.now c.loop-span.pages c.add.new.pages c.loop-span.invariant.keeps c.in_ok-add.ensures.leaves.keeps;
      works = Works-trans first last now c.loop-span.invariant.works c.in_ok-add.ensures.leaves.works.works;
      nothing = CountsNothing-trans first last now c.loop-span.invariant.nothing c.in_ok-add.ensures.leaves.works.ends;
      table = record {
        types = after.types ∙ before.types;
        committed = after.committed ∙ before.committed;
        kept = ap kept_parts items ∙ after.kept ∙ ap kept_parts c.deref_mut.ensures.value ∙ before.kept;
      };
      dead = c.in_ok-add.ensures.dead ∙ c.loop-span.invariant.dead;
      came = λ tied.
          let step = (c.in_ok-add.ensures.adds (g.met.P.Pages.keeps_tied c.args.pages.now c.loop-span.pages c.loop-span.invariant.keeps tied)).changes version (omega arith) in
          let typed = subst (λ types. ChangesTable types last.map now.map next.records.working is.working c.deref_mut.result.now c.add.new.indexes version version (HasOneMore (living_event route version (seen span)))) before.types step in
          let from_old = subst (λ (l : List IndexState). ChangesTable was.records.types last.map now.map next.records.working is.working l c.add.new.indexes version version (HasOneMore (living_event route version (seen span)))) c.deref_mut.ensures.value typed in
          let to_new = subst (λ (l : List IndexState). ChangesTable was.records.types last.map now.map next.records.working is.working next.indexes.items l version version (HasOneMore (living_event route version (seen span)))) (sym items) from_old in
          subst (λ (l : List Stretch). ChangesTable was.records.types first.map now.map was.records.working is.working was.indexes.items (take old.len (c.add.new.indexes ++ drop (length c.add.new.indexes) old.items)) version version (ComeAll route version l)) more
          (changes_then was.records.types first.map last.map now.map was.records.working next.records.working is.working was.indexes.items next.indexes.items (take old.len (c.add.new.indexes ++ drop (length c.add.new.indexes) old.items))
          version version version (ComeAll route version so_far) (HasOneMore (living_event route version (seen span))) (ComeAll route version (so_far ++ seen span ∷ []))
          (λ a b d x y. come_next route version so_far (seen span) a b d x y) (c.loop-span.invariant.came tied) to_new);
    }

pub returns-clause-leaves : goal.returns-clause-leaves
returns-clause-leaves g c = record {
  keeps = c.loop-span.invariant.keeps;
  works = record { works = c.loop-span.invariant.works; ends = c.loop-span.invariant.nothing };
}

pub returns-clause-came : goal.returns-clause-came
returns-clause-came g c = λ tied.
    let spans = c.args.spans.now in
    let whole : take c.loop-span.span-index spans ≡ spans = take_all c.loop-span.span-index spans (omega (arith, c.loop-span-test.false)) in
    subst (λ l. ChangesNow (g.P.Pages.store c.args.pages.now).map (g.P.Pages.store c.loop-span.pages).map c.args.table.now c.loop-span.table c.args.version (ComeAll c.args.route c.args.version (map seen l))) whole
    (c.loop-span.invariant.came tied)

pub returns-clause-table : goal.returns-clause-table
returns-clause-table g c = c.loop-span.invariant.table
