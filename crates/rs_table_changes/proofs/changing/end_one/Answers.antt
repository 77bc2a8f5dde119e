-- An event that is there ends; where the cell is no living event that is there, no such table was there.
use Rattle.std.proofs.Common.{◌≡◌, ◌∙◌, [], ◌∷◌, ◌++◌, length, take, drop, ap, sym, subst}
use Rattle.std.proofs.lemmas.Result.{err_from_is_err_and}
use Rattle.rs_attr.specs.Tables.{HoldsNoTable, kept_parts}
use Rattle.rs_cell_versions.specs.Version.{born_of}
use Rattle.rs_page_owners.proofs.Following.{damaged_err, works_err}
use Rattle.rs_page_owners.proofs.Working.{CountsNothing-refl, Works-refl}
use Rattle.rs_table_changes.specs.Inner.{HoldsNoTableWith}
use Rattle.rs_table_changes.proofs.Ending.{kept_length, not_found, not_living, written}
use Rattle.rs_table_changes.proofs.Moments.{died_by_end, end_within}
use Rattle.rs_table_changes.proofs.Tables.{no_table_with}
use Rattle.rs_table_changes.proofs.changing.end_one.Goals as goal

pub returns-then-not-is_living-clause-leaves : goal.returns-then-not-is_living-clause-leaves
returns-then-not-is_living-clause-leaves g c =
    let table = c.args.table.now in
    let first = g.P.Pages.store c.args.pages.now in
    record {
      keeps = g.met.P.Pages.keeps_refl c.args.pages.now;
      works = damaged_err (g.P.Pages.is_tied c.args.pages.now → HoldsNoTableWith c.args.version (c.args.cell.now ∷ []) table.records.types first.map table.records.working table.indexes.items)
          first first (Works-refl first) (CountsNothing-refl first)
          (λ tied. not_living c.args.version c.args.cell.now table.records.types first.map table.records.working table.indexes.items (sym c.is_living.ensures ∙ c.if-not-is_living.true));
    }

pub kill-requires-clause-order : goal.kill-requires-clause-order
kill-requires-clause-order g c = died_by_end c.args.at c.args.version c.args.table.now.records.working.dead c.requires.ends c.requires.may.order (born_of c.args.cell.now)

pub returns-in_err-found-clause-leaves : goal.returns-in_err-found-clause-leaves
returns-in_err-found-clause-leaves g c =
    let table = c.args.table.now in
    let first = g.P.Pages.store c.args.pages.now in
    let p = err_from_is_err_and c.from_residual.result c.from_residual.ensures.1 in
    record {
      keeps = c.in_err-found.ensures.leaves.keeps;
      works = rw (p.1, p.2) (works_err (g.P.Pages.is_tied c.args.pages.now → HoldsNoTableWith c.args.version (c.args.cell.now ∷ []) table.records.types first.map table.records.working table.indexes.items)
          (g.P.Pages.is_tied c.args.pages.now → HoldsNoTable table.records.types first.map table.records.working c.deref_mut.result.now) c.in_err-found.field-0.0
          first first (g.P.Pages.store c.kill.new.pages) (Works-refl first) (CountsNothing-refl first)
          (λ none tied. no_table_with c.args.version (c.args.cell.now ∷ []) table.records.types first.map table.records.working table.indexes.items
          (subst (HoldsNoTable table.records.types first.map table.records.working) c.deref_mut.ensures.value (none tied)))
          c.in_err-found.ensures.leaves.works);
    }

pub returns-then-not-found-clause-leaves : goal.returns-then-not-found-clause-leaves
returns-then-not-found-clause-leaves g c =
    let table = c.args.table.now in
    let first = g.P.Pages.store c.args.pages.now in
    record {
      keeps = c.in_ok-found.ensures.leaves.keeps;
      works = damaged_err (g.P.Pages.is_tied c.args.pages.now → HoldsNoTableWith c.args.version (c.args.cell.now ∷ []) table.records.types first.map table.records.working table.indexes.items)
          first (g.P.Pages.store c.kill.new.pages) c.in_ok-found.ensures.leaves.works.works c.in_ok-found.ensures.leaves.works.ends
          (λ tied. not_found c.args.version c.args.cell.now table.records.types first.map table.records.working table.indexes.items c.in_ok-found.found (c.in_ok-found.ensures.kills tied).tells c.if-not-found.true);
    }

pub returns-in_err-found-clause-keeps : goal.returns-in_err-found-clause-keeps
returns-in_err-found-clause-keeps g c =
    let after = c.in_err-found.ensures.table in
    let old = c.args.table.now.indexes in
    let items : take old.len (c.kill.new.indexes ++ drop (length c.kill.new.indexes) old.items) ≡ c.kill.new.indexes =
    written old.len c.kill.new.indexes old.items (sym c.deref_mut.ensures.len ∙ sym (kept_length c.deref_mut.result.now c.kill.new.indexes after.kept)) in
    record {
      table = record { types = after.types; committed = after.committed; kept = ap kept_parts items ∙ after.kept ∙ ap kept_parts c.deref_mut.ensures.value };
      order = c.in_err-found.ensures.order c.args.version (end_within c.args.at c.args.version c.requires.ends) c.requires.may.order;
      more = c.in_err-found.ensures.more;
    }

pub returns-then-not-found-clause-keeps : goal.returns-then-not-found-clause-keeps
returns-then-not-found-clause-keeps g c =
    let after = c.in_ok-found.ensures.table in
    let old = c.args.table.now.indexes in
    let items : take old.len (c.kill.new.indexes ++ drop (length c.kill.new.indexes) old.items) ≡ c.kill.new.indexes =
    written old.len c.kill.new.indexes old.items (sym c.deref_mut.ensures.len ∙ sym (kept_length c.deref_mut.result.now c.kill.new.indexes after.kept)) in
    record {
      table = record { types = after.types; committed = after.committed; kept = ap kept_parts items ∙ after.kept ∙ ap kept_parts c.deref_mut.ensures.value };
      order = c.in_ok-found.ensures.order c.args.version (end_within c.args.at c.args.version c.requires.ends) c.requires.may.order;
      more = c.in_ok-found.ensures.more;
    }

pub returns-clause-keeps : goal.returns-clause-keeps
returns-clause-keeps g c =
    let after = c.in_ok-found.ensures.table in
    let old = c.args.table.now.indexes in
    let items : take old.len (c.kill.new.indexes ++ drop (length c.kill.new.indexes) old.items) ≡ c.kill.new.indexes =
    written old.len c.kill.new.indexes old.items (sym c.deref_mut.ensures.len ∙ sym (kept_length c.deref_mut.result.now c.kill.new.indexes after.kept)) in
    record {
      table = record { types = after.types; committed = after.committed; kept = ap kept_parts items ∙ after.kept ∙ ap kept_parts c.deref_mut.ensures.value };
      order = c.in_ok-found.ensures.order c.args.version (end_within c.args.at c.args.version c.requires.ends) c.requires.may.order;
      more = c.in_ok-found.ensures.more;
    }
