-- The index has no entries left, and goes from the others.
use Rattle.std.proofs.Common.{◌≡◌, ◌<◌, Some, List, ◌++◌, get_or, get_or-set_same, length, set, refl, sym, ap, ◌∙◌, subst, arith}
use Rattle.std.proofs.lemmas.Option.{slice_get-get_or}
use Rattle.std.proofs.lemmas.Result.{err_from_is_err_and}
use Rattle.std.specs.List.{insert, remove}
use Rattle.rs_attr.specs.Entries.{HoldsNoIndex}
use Rattle.rs_attr.specs.Tables.{AreOn, HoldsNoTable, IndexState, kept_parts}
use Rattle.rs_attr.proofs.Together.{kept_next}
use Rattle.rs_changes.proofs.Among.{insert_between, remove_between}
use Rattle.rs_changes.proofs.Indexed.{index_goes, no_index}
use Rattle.rs_file_parts.proofs.Lists.{all_one, stands_at}
use Rattle.rs_page_owners.proofs.Following.{works_err}
use Rattle.rs_page_owners.proofs.Working.{CountsNothing-refl, Works-refl}
use Rattle.rs_versioned.specs.Events.{event_width}
use Rattle.rs_changes.proofs.tables.take_index.Goals as goal

pub returns-in_err-clear-clause-leaves : goal.returns-in_err-clear-clause-leaves
returns-in_err-clear-clause-leaves g c =
    let table = c.args.table.now in
    let one = c.index_mut.result.now in
    let old = g.P.Pages.store c.args.pages.now in
    let s = stands_at table.indexes.items c.args.position one (slice_get-get_or table.indexes.items c.args.position one c.requires.position ∙ ap Some (sym c.index_mut.ensures.value)) in
    let wide = all_one (λ (index : IndexState). index.field.cell_width ≡ event_width table.records.types) s.before one s.after (subst (AreOn table.records.types) s.are c.requires.indexes) in
    let p = err_from_is_err_and c.from_residual.result c.from_residual.ensures.1 in
    record {
      keeps = c.in_err-clear.ensures.leaves.keeps;
      works = rw (p.1, p.2) (works_err (g.P.Pages.is_tied c.args.pages.now → HoldsNoTable table.records.types old.map table.records.working table.indexes.items)
          (g.P.Pages.is_tied c.args.pages.now → HoldsNoIndex one.field old.map one.working) c.in_err-clear.field-0.0 old old (g.P.Pages.store c.clear.new.pages) (Works-refl old) (CountsNothing-refl old)
          (λ none tied. no_index table.records.types old.map old.map table.records.working table.indexes.items c.args.position one one s.before s.after s.are s.long wide (none tied)) c.in_err-clear.ensures.leaves.works);
    }

pub returns-clause-changes : goal.returns-clause-changes
returns-clause-changes g c = λ tied.
    let table = c.args.table.now in
    let one = c.index_mut.result.now in
    let now = c.clear.new.self in
    let s = stands_at table.indexes.items c.args.position one (slice_get-get_or table.indexes.items c.args.position one c.requires.position ∙ ap Some (sym c.index_mut.ensures.value)) in
    let wide = all_one (λ (index : IndexState). index.field.cell_width ≡ event_width table.records.types) s.before one s.after (subst (AreOn table.records.types) s.are c.requires.indexes) in
    let left : c.remove.new.self.items ≡ s.before ++ s.after =
    c.remove.ensures.items ∙ ap (λ (xs : List IndexState). remove xs c.args.position) (s.changed now) ∙ remove_between s.before s.after c.args.position now s.long in
    index_goes table.records.types (g.P.Pages.store c.args.pages.now).map (g.P.Pages.store c.clear.new.pages).map table.records.working table.indexes.items c.args.position one now s.before s.after s.are s.long wide
    (c.in_ok-clear.ensures.cleared tied) c.remove.new.self.items left

pub returns-clause-taken : goal.returns-clause-taken
returns-clause-taken g c =
    let table = c.args.table.now in
    let one = c.index_mut.result.now in
    let now : IndexState = c.clear.new.self in
    let place = c.args.position in
    let items = table.indexes.items in
    let s = stands_at items place one (slice_get-get_or items place one c.requires.position ∙ ap Some (sym c.index_mut.ensures.value)) in
    let left : c.remove.new.self.items ≡ s.before ++ s.after =
    c.remove.ensures.items ∙ ap (λ (xs : List IndexState). remove xs place) (s.changed now) ∙ remove_between s.before s.after place now s.long in
    let value : get_or (set items place now) place c.remove.result ≡ now = let inside : place < length items = c.requires.position in rw get_or-set_same refl in
    let item : c.remove.result ≡ now = c.remove.ensures.value ∙ value in
    let back : insert c.remove.new.self.items place c.remove.result ≡ set items place now =
    ap (λ (xs : List IndexState). insert xs place c.remove.result) left ∙ ap (insert (s.before ++ s.after) place) item ∙ insert_between s.before s.after place now s.long ∙ sym (s.changed now) in
    record {
      records = refl;
      indexes = left ∙ sym (ap (λ (xs : List IndexState). remove xs place) s.are ∙ remove_between s.before s.after place one s.long);
      kept = ap kept_parts back ∙ kept_next items items place now one c.requires.position (c.in_ok-clear.ensures.index.field ∙ ap (λ (i : IndexState). i.field) c.index_mut.ensures.value)
          (c.in_ok-clear.ensures.index.committed ∙ ap (λ (i : IndexState). i.committed) c.index_mut.ensures.value) refl;
      room = omega (arith, c.remove.ensures.len, c.remove.ensures.capacity, table.indexes.ok.1);
    }
