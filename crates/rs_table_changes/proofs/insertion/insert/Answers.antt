-- What was found is joined, and the edit is made.
use Rattle.std.proofs.Common.{◌∙◌, ℕ, Ok, Err, map, sym, subst, inl, inr}
use Rattle.std.specs.List.{AllByRecursion}
use Rattle.std.proofs.lemmas.Result.{err_from_is_err_and}
use Rattle.rs_facts.specs.Runs.{Stretch}
use Rattle.rs_facts.specs.Spans.{seen}
use Rattle.rs_page_owners.proofs.Following.{damaged_err, works_err}
use Rattle.rs_page_owners.proofs.Working.{CountsNothing-refl, Works-refl, rests-work, works_memory}
use Rattle.rs_page_owners.specs.Changes.{WorksAfter}
use Rattle.rs_pages.proofs.Stores.{SamePages-refl}
use Rattle.rs_records.specs.Listed.{listed}
use Rattle.rs_refusal.specs.declared.refusal.Refusal.{Refusal}
use Rattle.rs_value.specs.Values.{IsRowOf}
use Rattle.rs_versioned.specs.Events.{is_visible}
use Rattle.rs_table_changes.specs.Calls.{HoldsNoTableBy}
use Rattle.rs_table_changes.specs.Inner.{HoldsNoTableWith}
use Rattle.rs_table_changes.specs.Picked.{Joins, SayNone}
use Rattle.rs_table_changes.proofs.Finding.{none_said, none_with_these, none_without_tree}
use Rattle.rs_table_changes.proofs.Inserted.{are_there, inserted}
use Rattle.rs_table_changes.proofs.insertion.insert.Goals as goal

pub returns-in_err-found-clause-leaves : goal.returns-in_err-found-clause-leaves
returns-in_err-found-clause-leaves g c =
    let was = c.args.table.now in
    let first = g.P.Pages.store c.args.pages.now in
    let none = g.P.Pages.is_tied c.args.pages.now → HoldsNoTableBy c.args.moment.version was.records.types first.map was.records.working was.indexes.items in
    let p = err_from_is_err_and c.from_residual.result c.from_residual.ensures.1 in
    record {
      keeps = c.in_err-found.ensures.rests.below;
      works = rw (p.1, p.2) (works_err none none c.in_err-found.field-0.0 first first (g.P.Pages.store c.visible.new.pages) (Works-refl first) (CountsNothing-refl first) (λ is. is)
          (rests-work g.P.Pages.is_tied g.P.Pages.store g.P.Pages.keeps none (Err c.in_err-found.field-0.0) c.args.pages.now c.visible.new.pages c.in_err-found.ensures.rests
          (elim c.in_err-found.ensures.refused.cause [
            | inl memory ↦ inl memory
            | inr other ↦ elim other [
              | inl disk ↦ inr (inl disk)
              | inr damaged ↦ inr (inr (
                damaged.0,
                λ tied.
                    none_without_tree was.records.types c.args.moment.version first.map first.map (SamePages-refl first.map) was.records.working was.indexes.items (damaged.1 tied),
              ))
            ]
          ])));
    }

pub returns-in_err-joined-clause-leaves : goal.returns-in_err-joined-clause-leaves
returns-in_err-joined-clause-leaves g c =
    let was = c.args.table.now in
    let first = g.P.Pages.store c.args.pages.now in
    let mid = g.P.Pages.store c.visible.new.pages in
    let none = g.P.Pages.is_tied c.args.pages.now → HoldsNoTableBy c.args.moment.version was.records.types first.map was.records.working was.indexes.items in
    let found = c.in_ok-found.found in
    let rests = c.in_ok-found.ensures.rests in
    let read = rests-work g.P.Pages.is_tied g.P.Pages.store g.P.Pages.keeps (Unit {0}) (Ok found) c.args.pages.now c.visible.new.pages rests tt in
    let why = c.in_err-joined.field-0.0 in
    let p = err_from_is_err_and c.from_residual-in_err-joined.result c.from_residual-in_err-joined.ensures.1 in
    record {
      keeps = rests.below;
      works = rw (p.1, p.2) (elim c.in_err-joined.ensures.refused [
        | inl memory ↦ works_memory (Unit {0}) none found why first mid memory read
        | inr damaged ↦
            subst (λ (w : Refusal). WorksAfter {T = ℕ} none (Err w) first mid) (sym damaged.0)
            (damaged_err none first mid read.works read.ends (λ tied.
            none_said was.records.types c.args.moment.version first.map mid.map (rests.rests.keeps.pages tied) was.records.working was.indexes.items
            (is_visible c.args.moment.version c.args.route c.reach-from.result.0 c.reach-from.result.1) (listed found) (c.in_ok-found.ensures.found tied)
            (subst (λ types. SayNone types (listed found)) c.schema.ensures damaged.1)))
      ]);
    }

pub make-requires-clause-may : goal.make-requires-clause-may
make-requires-clause-may g c = record {
  begun = c.in_ok-found.ensures.rests.rests.counts.begun ∙ c.requires.may.begun;
  indexes = c.requires.may.indexes;
  mortal = c.requires.may.mortal;
  order = c.requires.may.order;
}

pub make-requires-clause-rows : goal.make-requires-clause-rows
make-requires-clause-rows g c =
    subst (λ types. AllByRecursion (λ (s : Stretch). IsRowOf types s.row) (map seen c.in_ok-joined.joined.edit.come.items)) c.schema.ensures c.in_ok-joined.ensures.rows

pub returns-in_err-make-clause-leaves : goal.returns-in_err-make-clause-leaves
returns-in_err-make-clause-leaves g c =
    let was = c.args.table.now in
    let first = g.P.Pages.store c.args.pages.now in
    let mid = g.P.Pages.store c.visible.new.pages in
    let none = g.P.Pages.is_tied c.args.pages.now → HoldsNoTableBy c.args.moment.version was.records.types first.map was.records.working was.indexes.items in
    let found = c.in_ok-found.found in
    let edit = c.in_ok-joined.joined.edit in
    let rests = c.in_ok-found.ensures.rests in
    let read = rests-work g.P.Pages.is_tied g.P.Pages.store g.P.Pages.keeps (Unit {0}) (Ok found) c.args.pages.now c.visible.new.pages rests tt in
    let joins = subst (λ types. Joins types (seen c.args.span.now) (listed found) (listed edit.gone) (map seen edit.come.items) c.in_ok-joined.joined.count) c.schema.ensures c.in_ok-joined.ensures.joins in
    let p = err_from_is_err_and c.from_residual-in_err-make.result c.from_residual-in_err-make.ensures.1 in
    record {
      keeps = g.met.P.Pages.keeps_trans c.args.pages.now c.visible.new.pages c.make.new.pages rests.below c.in_err-make.ensures.leaves.keeps;
      works = rw (p.1, p.2) (works_err none
          (g.P.Pages.is_tied c.visible.new.pages → HoldsNoTableWith c.args.moment.version (listed edit.gone) was.records.types mid.map was.records.working was.indexes.items) c.in_err-make.field-0.0
          first mid (g.P.Pages.store c.make.new.pages) read.works read.ends
          (λ there tied.
          none_with_these was.records.types c.args.moment.version first.map mid.map (rests.rests.keeps.pages tied) was.records.working was.indexes.items
          (is_visible c.args.moment.version c.args.route c.reach-from.result.0 c.reach-from.result.1) (listed found) (c.in_ok-found.ensures.found tied) (listed edit.gone)
          (are_there was.records.types c.args.kind c.args.moment.version c.args.route c.requires.may.mortal (seen c.args.span.now) c.requires.placed c.reach-from.result.0 c.reach-from.result.1 c.reach-from.ensures.from c.reach-from.ensures.upto
          first.map was.records.working (listed found) (listed edit.gone) (map seen edit.come.items) c.in_ok-joined.joined.count (c.in_ok-found.ensures.found tied) joins)
          (there (g.met.P.Pages.keeps_tied c.args.pages.now c.visible.new.pages rests.below tied)))
          c.in_err-make.ensures.leaves.works);
    }

pub returns-clause-inserts : goal.returns-clause-inserts
returns-clause-inserts g c = λ tied accepted before.
    let was = c.args.table.now in
    let is = c.make.new.table in
    let first = g.P.Pages.store c.args.pages.now in
    let mid = g.P.Pages.store c.visible.new.pages in
    let last = g.P.Pages.store c.make.new.pages in
    let found = c.in_ok-found.found in
    let edit = c.in_ok-joined.joined.edit in
    let rests = c.in_ok-found.ensures.rests in
    let joins = subst (λ types. Joins types (seen c.args.span.now) (listed found) (listed edit.gone) (map seen edit.come.items) c.in_ok-joined.joined.count) c.schema.ensures c.in_ok-joined.ensures.joins in
    let made = c.in_ok-make.ensures.made (g.met.P.Pages.keeps_tied c.args.pages.now c.visible.new.pages rests.below tied) in
    inserted was.records.types c.args.kind c.args.moment.version c.args.route c.requires.may.mortal (seen c.args.span.now) c.requires.placed c.reach-from.result.0 c.reach-from.result.1 c.reach-from.ensures.from c.reach-from.ensures.upto
    first.map was.records.working (listed found) (listed edit.gone) (map seen edit.come.items) c.in_ok-joined.joined.count (c.in_ok-found.ensures.found tied) joins
    mid.map last.map (rests.rests.keeps.pages tied) is.records.working was.indexes.items is.indexes.items c.what_gave_way_is_still_seen.ensures
    c.args.moment.oldest made.0 made.1
    made.2 accepted before
