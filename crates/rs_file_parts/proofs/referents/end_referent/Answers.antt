-- The referent is found, and ends.
use Rattle.std.proofs.Common.{◌∙◌, false, true, refl, subst}
use Rattle.std.proofs.lemmas.Result.{err_from_is_err_and}
use Rattle.rs_cell_versions.specs.Versioned.{HoldsNone}
use Rattle.rs_file.proofs.Loaded.{same_map}
use Rattle.rs_file.specs.declared.opened.OpenedFile.{OpenedFile}
use Rattle.rs_file_parts.specs.Calls.{EndsNamed}
use Rattle.rs_file_parts.specs.Parts.{HoldsNoParts, KeepsOpened}
use Rattle.rs_file_parts.proofs.Lists.{each_same}
use Rattle.rs_file_parts.proofs.Made.{no_referents, referents_made}
use Rattle.rs_file_parts.proofs.Named.{named_ends, named_missing, none_ends, read_refused}
use Rattle.rs_file_parts.proofs.Ready.{keeps_none, same_kept}
use Rattle.rs_page_owners.proofs.Following.{damaged_err, works_err}
use Rattle.rs_page_owners.proofs.Working.{CountsNothing-refl, CountsNothing-trans, Rests-works, Works-refl, Works-trans, rests-work}
use Rattle.rs_pages.specs.PageMap.{PageMap}
use Rattle.rs_records.specs.Listed.{listed}
use Rattle.rs_versioned.specs.Calls.{IsEnded}
use Rattle.rs_versioned.specs.Referents.{kept_referents, referent_form}
use Rattle.rs_versioned.proofs.CellsWide.{cell_wide}
use Rattle.rs_file_parts.proofs.referents.end_referent.Goals as goal

pub returns-in_err-cells-clause-leaves : goal.returns-in_err-cells-clause-leaves
returns-in_err-cells-clause-leaves g c =
    let was = c.args.file.now in
    let old = g.P.Pages.store c.args.pages.now in
    let new = g.P.Pages.store c.visible.new.pages in
    let tied = g.P.Pages.is_tied c.args.pages.now in
    let p = err_from_is_err_and c.from_residual.result c.from_residual.ensures.1 in
    let worked = rests-work g.P.Pages.is_tied g.P.Pages.store g.P.Pages.keeps (tied → HoldsNoParts old.map was) c.visible.result c.args.pages.now c.visible.new.pages c.visible.ensures.rests
    (rw c.in_err-cells.was (read_refused tied c.in_err-cells.field-0.0 old new was c.in_err-cells.ensures.refused)) in
    record {
      keeps = c.in_err-cells.ensures.rests.below;
      works = rw (p.1, p.2) (works_err (tied → HoldsNoParts old.map was) (tied → HoldsNoParts old.map was) c.in_err-cells.field-0.0 old old new (Works-refl old) (CountsNothing-refl old) (λ none. none)
          (rw c.in_err-cells.was at worked));
    }

pub returns-in_err-cells-clause-keeps : goal.returns-in_err-cells-clause-keeps
returns-in_err-cells-clause-keeps g c = keeps_none c.args.file.now

pub returns-in_default-clause-ends : goal.returns-in_default-clause-ends
returns-in_default-clause-ends g c = λ tied accepted later.
    let was : OpenedFile = c.args.file.now in
    let old = (g.P.Pages.store c.args.pages.now).map in
    let mid = (g.P.Pages.store c.visible.new.pages).map in
    let name = c.args.name.now.bytes in
    referents_made old mid was was accepted c.args.version (EndsNamed c.args.version c.args.route name false) refl refl refl later
    (none_ends old was.referents.working c.args.version c.args.route name (listed c.in_ok-cells.cells) c.requires.version (c.in_ok-cells.ensures.found tied) mid
    (c.in_ok-cells.ensures.rests.rests.keeps.pages tied) c.in_default.ensures.none accepted later)

pub returns-in_default-clause-keeps : goal.returns-in_default-clause-keeps
returns-in_default-clause-keeps g c = keeps_none c.args.file.now

pub kill-requires-clause-width : goal.kill-requires-clause-width
kill-requires-clause-width g c = cell_wide c.in_ok-cells.cells c.in-Some.place c.get.result.now c.get.ensures ∙ c.in_ok-cells.ensures.width

pub returns-in_err-ended-clause-leaves : goal.returns-in_err-ended-clause-leaves
returns-in_err-ended-clause-leaves g c =
    let was = c.args.file.now in
    let s0 = g.P.Pages.store c.args.pages.now in
    let s1 = g.P.Pages.store c.visible.new.pages in
    let s2 = g.P.Pages.store c.kill.new.pages in
    let rests = c.in_ok-cells.ensures.rests in
    let p = err_from_is_err_and c.from_residual-in_err-ended.result c.from_residual-in_err-ended.ensures.1 in
    record {
      keeps = g.met.P.Pages.keeps_trans c.args.pages.now c.visible.new.pages c.kill.new.pages rests.below c.in_err-ended.ensures.leaves.keeps;
      works = rw (p.1, p.2) (works_err (g.P.Pages.is_tied c.args.pages.now → HoldsNoParts s0.map was)
          (g.P.Pages.is_tied c.visible.new.pages → HoldsNone referent_form s1.map was.referents.working) c.in_err-ended.field-0.0 s0 s1 s2
          (Rests-works (g.P.Pages.is_tied c.args.pages.now) s0 s1 rests.rests) (record { failures = rests.count; full = rests.rests.full })
          (λ none tied. no_referents s0.map was (subst (λ (m : PageMap). HoldsNone referent_form m was.referents.working) (same_map s1.map s0.map (rests.rests.keeps.pages tied))
          (none (g.met.P.Pages.keeps_tied c.args.pages.now c.visible.new.pages rests.below tied))))
          c.in_err-ended.ensures.leaves.works);
    }

pub returns-in_err-ended-clause-keeps : goal.returns-in_err-ended-clause-keeps
returns-in_err-ended-clause-keeps g c = record {
  definitions = refl;
  pages = refl;
  accepted = refl;
  tables = each_same KeepsOpened same_kept c.args.file.now.tables.items;
  referents = c.in_err-ended.ensures.table.committed;
}

pub returns-then-not-ended-clause-leaves : goal.returns-then-not-ended-clause-leaves
returns-then-not-ended-clause-leaves g c =
    let was = c.args.file.now in
    let s0 = g.P.Pages.store c.args.pages.now in
    let s1 = g.P.Pages.store c.visible.new.pages in
    let s2 = g.P.Pages.store c.kill.new.pages in
    let rests = c.in_ok-cells.ensures.rests in
    record {
      keeps = g.met.P.Pages.keeps_trans c.args.pages.now c.visible.new.pages c.kill.new.pages rests.below c.in_ok-ended.ensures.leaves.keeps;
      works = damaged_err (g.P.Pages.is_tied c.args.pages.now → HoldsNoParts s0.map was) s0 s2
          (Works-trans s0 s1 s2 (Rests-works (g.P.Pages.is_tied c.args.pages.now) s0 s1 rests.rests) c.in_ok-ended.ensures.leaves.works.works)
          (CountsNothing-trans s0 s1 s2 (record { failures = rests.count; full = rests.rests.full }) c.in_ok-ended.ensures.leaves.works.ends)
          (λ tied.
          let ended = subst (λ (m : PageMap). IsEnded kept_referents m s2.map was.referents.working c.kill.new.self.working c.args.version c.get.result.now c.in_ok-ended.ended)
          (same_map s1.map s0.map (rests.rests.keeps.pages tied)) (c.in_ok-ended.ensures.kills (g.met.P.Pages.keeps_tied c.args.pages.now c.visible.new.pages rests.below tied)) in
          named_missing s0.map was.referents.working c.args.version c.args.route c.args.name.now.bytes (listed c.in_ok-cells.cells) c.requires.version (c.in_ok-cells.ensures.found tied)
          c.in-Some.place c.get.result.now c.get.ensures c.in-Some.ensures.found s2.map c.kill.new.self.working c.in_ok-ended.ended ended was refl c.if-not-ended.true);
    }

pub returns-then-not-ended-clause-keeps : goal.returns-then-not-ended-clause-keeps
returns-then-not-ended-clause-keeps g c = record {
  definitions = refl;
  pages = refl;
  accepted = refl;
  tables = each_same KeepsOpened same_kept c.args.file.now.tables.items;
  referents = c.in_ok-ended.ensures.table.committed;
}

pub returns-clause-ends : goal.returns-clause-ends
returns-clause-ends g c = λ tied accepted later.
    let was : OpenedFile = c.args.file.now in
    let is : OpenedFile = record was { referents = c.kill.new.self } in
    let old = (g.P.Pages.store c.args.pages.now).map in
    let mid = (g.P.Pages.store c.visible.new.pages).map in
    let new = (g.P.Pages.store c.kill.new.pages).map in
    let rests = c.in_ok-cells.ensures.rests in
    let name = c.args.name.now.bytes in
    let ended = subst (λ (m : PageMap). IsEnded kept_referents m new was.referents.working is.referents.working c.args.version c.get.result.now c.in_ok-ended.ended)
    (same_map mid old (rests.rests.keeps.pages tied)) (c.in_ok-ended.ensures.kills (g.met.P.Pages.keeps_tied c.args.pages.now c.visible.new.pages rests.below tied)) in
    referents_made old new was is accepted c.args.version (EndsNamed c.args.version c.args.route name true) refl refl refl later
    (named_ends old was.referents.working c.args.version c.args.route name (listed c.in_ok-cells.cells) c.requires.version (c.in_ok-cells.ensures.found tied)
    c.in-Some.place c.get.result.now c.get.ensures c.in-Some.ensures.found new is.referents.working c.in_ok-ended.ended ended accepted later)

pub returns-clause-keeps : goal.returns-clause-keeps
returns-clause-keeps g c = record {
  definitions = refl;
  pages = refl;
  accepted = refl;
  tables = each_same KeepsOpened same_kept c.args.file.now.tables.items;
  referents = c.in_ok-ended.ensures.table.committed;
}
