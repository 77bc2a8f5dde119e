-- The cell of the event ends in the table and its indexes.
use Rattle.std.proofs.Common.{◌≡◌, ◌<◌, ℕ, List, length, subst, sym, ap, ◌∙◌, rules, arith}
use Rattle.std.proofs.lemmas.Result.{err_from_is_err_and}
use Rattle.rs_attr.specs.Inner.{ChangeIndexes, HoldNoIndexes}
use Rattle.rs_attr.specs.Tables.{HoldsNoTable}
use Rattle.rs_attr.proofs.Tabled.{alone_among, become_as, changes_then, ends_become, ends_move, ends_stay, indexes_stay, no_table, no_table_before, none_before, together, without_are}
use Rattle.rs_attr.proofs.Together.{AreOf, still_of}
use Rattle.rs_interval.specs.Finding.{event_form}
use Rattle.rs_tree.specs.Cells.{with_cell, without_cell}
use Rattle.rs_page_owners.proofs.Working.{CountsNothing-refl, CountsNothing-trans, Works-refl, Works-trans}
use Rattle.rs_page_owners.proofs.Following.{works_err}
use Rattle.rs_versioned.specs.Events.{event_width, kept_events}
use Rattle.rs_versioned.specs.Records.{HasEnded}
use Rattle.rs_cell_versions.specs.Changes.{with_end}
use Rattle.rs_cell_versions.specs.Version.{born_of, ended}
use Rattle.rs_cell_versions.specs.Versioned.{HoldsNone}
use Rattle.rs_cell_versions.proofs.Ending.{length-ended}
use Rattle.rs_cell_versions.proofs.Seen.{ended_early, ended_late}
use Rattle.rs_attr.proofs.table.kill.Goals as goal
use Rattle.rs_attr.proofs.table.kill.Goals.{else-found-via-then-found+else-not-is_empty, else-found-via-else-found}

pub returns-in_err-found-clause-leaves : goal.returns-in_err-found-clause-leaves
returns-in_err-found-clause-leaves g c =
    let types = c.args.table.now.types in
    let old = (g.P.Pages.store c.args.pages.now).map in
    let p = err_from_is_err_and c.from_residual.result c.from_residual.ensures.1 in
    record {
      keeps = c.in_err-found.ensures.leaves.keeps;
      works = rw (p.1, p.2) (works_err (g.P.Pages.is_tied c.args.pages.now → HoldsNoTable types old c.args.table.now.working c.args.indexes.now)
          (g.P.Pages.is_tied c.args.pages.now → HoldsNone (event_form (event_width types)) old c.args.table.now.working) c.in_err-found.field-0.0
          (g.P.Pages.store c.args.pages.now) (g.P.Pages.store c.args.pages.now) (g.P.Pages.store c.kill.new.pages) (Works-refl (g.P.Pages.store c.args.pages.now)) (CountsNothing-refl (g.P.Pages.store c.args.pages.now))
          (λ none tied. no_table types old c.args.table.now.working c.args.indexes.now (none tied)) c.in_err-found.ensures.leaves.works);
    }

pub change_each-requires-clause-width : goal.change_each-requires-clause-width
change_each-requires-clause-width g c = subst (λ (n : ℕ). AreOf n c.args.indexes.now) (sym c.requires.width) c.requires.indexes

pub returns-in_err-change_each-clause-leaves : goal.returns-in_err-change_each-clause-leaves
returns-in_err-change_each-clause-leaves g c =
    let types = c.args.table.now.types in
    let was = c.args.table.now.working in
    let old = (g.P.Pages.store c.args.pages.now).map in
    let mid = (g.P.Pages.store c.kill.new.pages).map in
    let cell = c.args.cell.now in
    let p = err_from_is_err_and c.from_residual-in_err-change_each.result c.from_residual-in_err-change_each.ensures.1 in
    record {
      keeps = g.met.P.Pages.keeps_trans c.args.pages.now c.kill.new.pages c.change_each.new.pages c.in_ok-found.ensures.leaves.keeps c.in_err-change_each.ensures.leaves.keeps;
      works = rw (p.1, p.2) (works_err (g.P.Pages.is_tied c.args.pages.now → HoldsNoTable types old was c.args.indexes.now)
          (g.P.Pages.is_tied c.kill.new.pages → HoldNoIndexes mid c.args.indexes.now (length cell)) c.in_err-change_each.field-0.0
          (g.P.Pages.store c.args.pages.now) (g.P.Pages.store c.kill.new.pages) (g.P.Pages.store c.change_each.new.pages) c.in_ok-found.ensures.leaves.works.works c.in_ok-found.ensures.leaves.works.ends
          (λ none tied. no_table_before types old was c.args.indexes.now mid (ends_move types old mid was c.kill.new.self.working c.args.version cell (c.in_ok-found.ensures.kills tied).ends)
          (subst (HoldNoIndexes mid c.args.indexes.now) c.requires.width (none (g.met.P.Pages.keeps_tied c.args.pages.now c.kill.new.pages c.in_ok-found.ensures.leaves.keeps tied))))
          c.in_err-change_each.ensures.leaves.works);
    }

pub change_each-requires-then-born_of-version-clause-width : goal.change_each-requires-then-born_of-version-clause-width
change_each-requires-then-born_of-version-clause-width g c =
    let cell = c.args.cell.now in
    let wide : length c.deref.result.now ≡ event_width c.args.table.now.types =
    ap length (c.deref.ensures.value ∙ c.in_ok-ended.ensures.ended) ∙ length-ended c.args.version cell (omega (arith, c.requires.width)) ∙ c.requires.width in
    subst (λ (n : ℕ). AreOf n c.change_each.new.indexes) (sym wide) (still_of (event_width c.args.table.now.types) c.args.indexes.now c.change_each.new.indexes c.in_ok-change_each.ensures.kept c.requires.indexes)

pub returns-in_err-change_each-2-clause-leaves : goal.returns-in_err-change_each-2-clause-leaves
returns-in_err-change_each-2-clause-leaves g c =
    let types = c.args.table.now.types in
    let was = c.args.table.now.working in
    let old = (g.P.Pages.store c.args.pages.now).map in
    let mid = (g.P.Pages.store c.kill.new.pages).map in
    let next = (g.P.Pages.store c.change_each.new.pages).map in
    let cell = c.args.cell.now in
    let last = c.deref.result.now in
    let wide : length last ≡ event_width types =
    ap length (c.deref.ensures.value ∙ c.in_ok-ended.ensures.ended) ∙ length-ended c.args.version cell (omega (arith, c.requires.width)) ∙ c.requires.width in
    let p = err_from_is_err_and c.from_residual-in_err-change_each-2.result c.from_residual-in_err-change_each-2.ensures.1 in
    record {
      keeps = g.met.P.Pages.keeps_trans c.args.pages.now c.kill.new.pages c.change_each-then-born_of-version.new.pages c.in_ok-found.ensures.leaves.keeps
          (g.met.P.Pages.keeps_trans c.kill.new.pages c.change_each.new.pages c.change_each-then-born_of-version.new.pages c.in_ok-change_each.ensures.leaves.keeps c.in_err-change_each-2.ensures.leaves.keeps);
      works = rw (p.1, p.2) (works_err (g.P.Pages.is_tied c.args.pages.now → HoldsNoTable types old was c.args.indexes.now)
          (g.P.Pages.is_tied c.change_each.new.pages → HoldNoIndexes next c.change_each.new.indexes (length last)) c.in_err-change_each-2.field-0.0
          (g.P.Pages.store c.args.pages.now) (g.P.Pages.store c.change_each.new.pages) (g.P.Pages.store c.change_each-then-born_of-version.new.pages)
          (Works-trans (g.P.Pages.store c.args.pages.now) (g.P.Pages.store c.kill.new.pages) (g.P.Pages.store c.change_each.new.pages) c.in_ok-found.ensures.leaves.works.works c.in_ok-change_each.ensures.leaves.works.works)
          (CountsNothing-trans (g.P.Pages.store c.args.pages.now) (g.P.Pages.store c.kill.new.pages) (g.P.Pages.store c.change_each.new.pages) c.in_ok-found.ensures.leaves.works.ends c.in_ok-change_each.ensures.leaves.works.ends)
          (λ none tied.
          let tied_mid = g.met.P.Pages.keeps_tied c.args.pages.now c.kill.new.pages c.in_ok-found.ensures.leaves.keeps tied in
          let tied_next = g.met.P.Pages.keeps_tied c.kill.new.pages c.change_each.new.pages c.in_ok-change_each.ensures.leaves.keeps tied_mid in
          no_table_before types old was c.args.indexes.now mid (ends_move types old mid was c.kill.new.self.working c.args.version cell (c.in_ok-found.ensures.kills tied).ends)
          (none_before (event_width types) mid next c.args.indexes.now c.change_each.new.indexes (without_cell cell) (without_are (event_width types) cell)
          (subst (λ (n : ℕ). ChangeIndexes mid next c.args.indexes.now c.change_each.new.indexes n (without_cell cell)) c.requires.width (c.in_ok-change_each.ensures.changed tied_mid))
          (subst (HoldNoIndexes next c.change_each.new.indexes) wide (none tied_next))))
          c.in_err-change_each-2.ensures.leaves.works);
    }

pub returns-in_ok-change_each-2-clause-kills : goal.returns-in_ok-change_each-2-clause-kills
returns-in_ok-change_each-2-clause-kills g c = λ tied.
    let types = c.args.table.now.types in
    let was = c.args.table.now.working in
    let is = c.kill.new.self.working in
    let old = (g.P.Pages.store c.args.pages.now).map in
    let mid = (g.P.Pages.store c.kill.new.pages).map in
    let next = (g.P.Pages.store c.change_each.new.pages).map in
    let new = (g.P.Pages.store c.change_each-then-born_of-version.new.pages).map in
    let version = c.args.version in
    let cell = c.args.cell.now in
    let last = c.deref.result.now in
    let made : last ≡ ended version cell = c.deref.ensures.value ∙ c.in_ok-ended.ensures.ended in
    let wide : length last ≡ event_width types = ap length made ∙ length-ended version cell (omega (arith, c.requires.width)) ∙ c.requires.width in
    let born : born_of cell < version = omega (arith, c.if-born_of-version.true, c.born_of.ensures) in
    let tied_mid = g.met.P.Pages.keeps_tied c.args.pages.now c.kill.new.pages c.in_ok-found.ensures.leaves.keeps tied in
    let tied_next = g.met.P.Pages.keeps_tied c.kill.new.pages c.change_each.new.pages c.in_ok-change_each.ensures.leaves.keeps tied_mid in
    record {
      changes = λ accepted last_one event later upto says.
          together types old was c.args.indexes.now mid new is c.change_each-then-born_of-version.new.indexes accepted last_one (HasEnded (kept_events types) version event) (λ cells. with_cell last (without_cell cell cells))
          ((c.in_ok-found.ensures.kills tied).changes accepted last_one event later upto says)
          (become_as types old mid was is accepted (with_end version cell) (λ cells. with_cell last (without_cell cell cells))
          (λ cells. ended_late version cell cells born ∙ ap (λ (x : List ℕ). with_cell x (without_cell cell cells)) (sym made))
          (ends_become types old mid was is version cell (c.in_ok-found.ensures.kills tied).ends accepted event c.in_ok-found.found says (c.in_ok-found.ensures.kills tied).tells c.if-found.true))
          (changes_then (event_width types) mid next c.args.indexes.now c.change_each.new.indexes (without_cell cell) (without_are (event_width types) cell)
          (subst (λ (n : ℕ). ChangeIndexes mid next c.args.indexes.now c.change_each.new.indexes n (without_cell cell)) c.requires.width (c.in_ok-change_each.ensures.changed tied_mid))
          new c.change_each-then-born_of-version.new.indexes (with_cell last)
          (subst (λ (n : ℕ). ChangeIndexes next new c.change_each.new.indexes c.change_each-then-born_of-version.new.indexes n (with_cell last)) wide (c.in_ok-change_each-2.ensures.changed tied_next)));
      tells = (c.in_ok-found.ensures.kills tied).tells;
    }

pub returns-else-born_of-version-clause-kills : goal.returns-else-born_of-version-clause-kills
returns-else-born_of-version-clause-kills g c = λ tied.
    let types = c.args.table.now.types in
    let was = c.args.table.now.working in
    let is = c.kill.new.self.working in
    let old = (g.P.Pages.store c.args.pages.now).map in
    let mid = (g.P.Pages.store c.kill.new.pages).map in
    let new = (g.P.Pages.store c.change_each.new.pages).map in
    let version = c.args.version in
    let cell = c.args.cell.now in
    let tied_mid = g.met.P.Pages.keeps_tied c.args.pages.now c.kill.new.pages c.in_ok-found.ensures.leaves.keeps tied in
    record {
      changes = λ accepted last_one event later upto says.
          together types old was c.args.indexes.now mid new is c.change_each.new.indexes accepted last_one (HasEnded (kept_events types) version event) (without_cell cell)
          ((c.in_ok-found.ensures.kills tied).changes accepted last_one event later upto says)
          (become_as types old mid was is accepted (with_end version cell) (without_cell cell)
          (λ cells. ended_early version cell cells (omega (arith, c.if-born_of-version.false, c.born_of.ensures)))
          (ends_become types old mid was is version cell (c.in_ok-found.ensures.kills tied).ends accepted event c.in_ok-found.found says (c.in_ok-found.ensures.kills tied).tells c.if-found.true))
          (subst (λ (n : ℕ). ChangeIndexes mid new c.args.indexes.now c.change_each.new.indexes n (without_cell cell)) c.requires.width (c.in_ok-change_each.ensures.changed tied_mid));
      tells = (c.in_ok-found.ensures.kills tied).tells;
    }

pub returns-else-found-clause-kills : goal.returns-else-found-clause-kills
returns-else-found-clause-kills g c = λ tied.
    let types = c.args.table.now.types in
    let was = c.args.table.now.working in
    let is = c.kill.new.self.working in
    let old = (g.P.Pages.store c.args.pages.now).map in
    let new = (g.P.Pages.store c.kill.new.pages).map in
    let version = c.args.version in
    let cell = c.args.cell.now in
    record {
      changes = λ accepted last_one event later upto says.
          let ended = HasEnded (kept_events types) version event in
          elim c.else-found.branch [
            | else-found-via-then-found+else-not-is_empty w ↦ alone_among types old new was is c.args.indexes.now accepted last_one ended (search rules) ((c.in_ok-found.ensures.kills tied).changes accepted last_one event later upto says)
            | else-found-via-else-found w ↦
                together types old was c.args.indexes.now new new is c.args.indexes.now accepted last_one ended (λ cells. cells) ((c.in_ok-found.ensures.kills tied).changes accepted last_one event later upto says)
                (ends_stay types old new was is version cell (c.in_ok-found.ensures.kills tied).ends accepted event c.in_ok-found.found says (c.in_ok-found.ensures.kills tied).tells w.if-found.false)
                (indexes_stay (event_width types) new c.args.indexes.now)
          ];
      tells = (c.in_ok-found.ensures.kills tied).tells;
    }
