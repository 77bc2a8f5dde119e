-- The tables, the referents, the free pages, and whether a page is left.
use Rattle.std.proofs.Common.{◌≡◌, ◌∙◌, Ok, Err, ap, subst, sym}
use Rattle.std.proofs.lemmas.Bool.{false≢true}
use Rattle.std.proofs.lemmas.Result.{err_from_is_err_and}
use Rattle.rs_catalog_pages.specs.Said.{said_catalogue, said_directory}
use Rattle.rs_file.specs.FreePages.{HasNoFreshFreeList, ReachesFree}
use Rattle.rs_file.proofs.Loaded.{no_free, no_referents, no_tables, same_map, some_left}
use Rattle.rs_refusal.specs.declared.refusal.Refusal.TheVariants as refusal
use Rattle.rs_page_marks.specs.Marks.{taken}
use Rattle.rs_pages.proofs.Resting.{rests_then}
use Rattle.rs_attr.specs.ToldRecords.{ToldRecords}
use Rattle.rs_versioned.specs.Meant.{AreReferentsMeant}
use Rattle.rs_versioned.specs.Opening.{OpensNone, OpensRecords}
use Rattle.rs_versioned.specs.ReferentCalls.{IsOpened}
use Rattle.rs_versioned.specs.Referents.{kept_referents}
use Rattle.rs_attr.proofs.Refusing.{rests_err, rests_ok, rests_refused}
use Rattle.rs_file.proofs.opening.open_parts.Goals as goal

pub returns-in_err-tables-clause-opens : goal.returns-in_err-tables-clause-opens
returns-in_err-tables-clause-opens g c = λ tied.
    let p = err_from_is_err_and c.from_residual.result c.from_residual.ensures.1 in
    record {
      opens = rw (p.1) tt;
      damaged = λ is.
          let why : c.in_err-tables.field-0.0 ≡ refusal.DamagedFile = cc (p.1, p.2, is) in
          no_tables (g.P.Pages.store c.args.pages.now).map c.args.routes.now (said_catalogue c.args.definitions.now) (said_directory c.args.directory.now) (taken c.args.reached.now) ((c.in_err-tables.ensures.opens tied).damaged (ap Err why));
    }

pub returns-in_err-referents-clause-opens : goal.returns-in_err-referents-clause-opens
returns-in_err-referents-clause-opens g c = λ tied.
    let p = err_from_is_err_and c.from_residual-in_err-referents.result c.from_residual-in_err-referents.ensures.1 in
    record {
      opens = rw (p.1) tt;
      damaged = λ is.
          let old = (g.P.Pages.store c.args.pages.now).map in
          let mid = (g.P.Pages.store c.open_tables.new.pages).map in
          let later = g.met.P.Pages.keeps_tied c.args.pages.now c.open_tables.new.pages c.in_ok-tables.ensures.rests.below tied in
          let same = same_map mid old (c.in_ok-tables.ensures.rests.rests.keeps.pages tied) in
          let why : c.in_err-referents.field-0.0 ≡ refusal.DamagedFile = cc (p.1, p.2, is) in
          no_referents old c.args.routes.now (said_catalogue c.args.definitions.now) (said_directory c.args.directory.now) (taken c.args.reached.now) c.in_ok-tables.tables.items (taken c.open_tables.new.reached)
          (c.in_ok-tables.ensures.opens tied).opens
          (subst (λ (t : ToldRecords). OpensNone kept_referents old t (AreReferentsMeant c.args.routes.now t.accepted) (taken c.open_tables.new.reached)) c.told_of-told.ensures
          (subst (λ m. OpensNone kept_referents m c.told_of-told.result (AreReferentsMeant c.args.routes.now c.told_of-told.result.accepted) (taken c.open_tables.new.reached)) same (c.in_err-referents.ensures.refused.damaged later (ap Err why))));
    }

pub returns-in_err-reach_free-clause-rests : goal.returns-in_err-reach_free-clause-rests
returns-in_err-reach_free-clause-rests g c =
    let p = err_from_is_err_and c.from_residual-in_err-reach_free.result c.from_residual-in_err-reach_free.ensures.1 in
    rw (p.1, p.2) (rests_err g.P.Pages.is_tied g.P.Pages.store g.P.Pages.keeps c.in_err-reach_free.field-0.0 c.args.pages.now c.reach_free.new.pages
    (rests_then g.P.Pages.is_tied g.P.Pages.store g.P.Pages.keeps c.in_ok-tables.tables (Err c.in_err-reach_free.field-0.0) c.args.pages.now c.open_tables.new.pages c.reach_free.new.pages
    g.met.P.Pages.keeps_trans g.met.P.Pages.keeps_tied c.in_ok-tables.ensures.rests
    (rests_then g.P.Pages.is_tied g.P.Pages.store g.P.Pages.keeps c.in_ok-referents.referents (Err c.in_err-reach_free.field-0.0) c.open_tables.new.pages c.open.new.pages c.reach_free.new.pages
    g.met.P.Pages.keeps_trans g.met.P.Pages.keeps_tied c.in_ok-referents.ensures.rests c.in_err-reach_free.ensures.rests)))

pub returns-in_err-reach_free-clause-opens : goal.returns-in_err-reach_free-clause-opens
returns-in_err-reach_free-clause-opens g c = λ tied.
    let p = err_from_is_err_and c.from_residual-in_err-reach_free.result c.from_residual-in_err-reach_free.ensures.1 in
    record {
      opens = rw (p.1) tt;
      damaged = λ is.
          let old = (g.P.Pages.store c.args.pages.now).map in
          let mid = (g.P.Pages.store c.open_tables.new.pages).map in
          let last = (g.P.Pages.store c.open.new.pages).map in
          let later = g.met.P.Pages.keeps_tied c.args.pages.now c.open_tables.new.pages c.in_ok-tables.ensures.rests.below tied in
          let same = same_map mid old (c.in_ok-tables.ensures.rests.rests.keeps.pages tied) in
          let same_last = same_map last mid (c.in_ok-referents.ensures.rests.rests.keeps.pages later) in
          let last_tied = g.met.P.Pages.keeps_tied c.open_tables.new.pages c.open.new.pages c.in_ok-referents.ensures.rests.below later in
          let why : c.in_err-reach_free.field-0.0 ≡ refusal.DamagedFile = cc (p.1, p.2, is) in
          no_free old c.args.routes.now (said_catalogue c.args.definitions.now) (said_directory c.args.directory.now) (taken c.args.reached.now) c.in_ok-tables.tables.items c.in_ok-referents.referents.working (taken c.open_tables.new.reached)
          (taken c.open.new.reached) (c.in_ok-tables.ensures.opens tied).opens
          (subst (λ (t : ToldRecords). OpensRecords kept_referents old t (AreReferentsMeant c.args.routes.now t.accepted) c.in_ok-referents.referents.working (taken c.open_tables.new.reached) (taken c.open.new.reached)) c.told_of-told.ensures
          (subst (λ m. OpensRecords kept_referents m c.told_of-told.result (AreReferentsMeant c.args.routes.now c.told_of-told.result.accepted) c.in_ok-referents.referents.working (taken c.open_tables.new.reached) (taken c.open.new.reached)) same (c.in_ok-referents.ensures.opens later)))
          (subst (λ m. HasNoFreshFreeList m (taken c.open.new.reached)) (same_last ∙ same) ((c.in_err-reach_free.ensures.reaches last_tied).damaged (ap Err why)));
    }

pub returns-then-not-is_whole-clause-rests : goal.returns-then-not-is_whole-clause-rests
returns-then-not-is_whole-clause-rests g c =
    rests_refused g.P.Pages.is_tied g.P.Pages.store g.P.Pages.keeps c.in_ok-tables.tables refusal.DamagedFile c.args.pages.now c.reach_free.new.pages (λ is. cc)
    (rests_ok g.P.Pages.is_tied g.P.Pages.store g.P.Pages.keeps tt c.in_ok-tables.tables c.args.pages.now c.reach_free.new.pages
    (rests_then g.P.Pages.is_tied g.P.Pages.store g.P.Pages.keeps c.in_ok-tables.tables (Ok tt) c.args.pages.now c.open_tables.new.pages c.reach_free.new.pages
    g.met.P.Pages.keeps_trans g.met.P.Pages.keeps_tied c.in_ok-tables.ensures.rests
    (rests_then g.P.Pages.is_tied g.P.Pages.store g.P.Pages.keeps c.in_ok-referents.referents (Ok tt) c.open_tables.new.pages c.open.new.pages c.reach_free.new.pages
    g.met.P.Pages.keeps_trans g.met.P.Pages.keeps_tied c.in_ok-referents.ensures.rests c.in_ok-reach_free.ensures.rests)))

pub returns-then-not-is_whole-clause-opens : goal.returns-then-not-is_whole-clause-opens
returns-then-not-is_whole-clause-opens g c = λ tied.
    record {
      opens = tt;
      damaged = λ is.
          let old = (g.P.Pages.store c.args.pages.now).map in
          let mid = (g.P.Pages.store c.open_tables.new.pages).map in
          let last = (g.P.Pages.store c.open.new.pages).map in
          let later = g.met.P.Pages.keeps_tied c.args.pages.now c.open_tables.new.pages c.in_ok-tables.ensures.rests.below tied in
          let same = same_map mid old (c.in_ok-tables.ensures.rests.rests.keeps.pages tied) in
          let same_last = same_map last mid (c.in_ok-referents.ensures.rests.rests.keeps.pages later) in
          let last_tied = g.met.P.Pages.keeps_tied c.open_tables.new.pages c.open.new.pages c.in_ok-referents.ensures.rests.below later in
          some_left old c.args.routes.now (said_catalogue c.args.definitions.now) (said_directory c.args.directory.now) (taken c.args.reached.now) c.in_ok-tables.tables.items c.in_ok-referents.referents c.reach_free.new.reached
          (record {
            with_tables = taken c.open_tables.new.reached;
            with_referents = taken c.open.new.reached;
            tables = (c.in_ok-tables.ensures.opens tied).opens;
            referents = subst (λ (t : ToldRecords). OpensRecords kept_referents old t (AreReferentsMeant c.args.routes.now t.accepted) c.in_ok-referents.referents.working (taken c.open_tables.new.reached) (taken c.open.new.reached)) c.told_of-told.ensures
                (subst (λ m. OpensRecords kept_referents m c.told_of-told.result (AreReferentsMeant c.args.routes.now c.told_of-told.result.accepted) c.in_ok-referents.referents.working (taken c.open_tables.new.reached) (taken c.open.new.reached)) same (c.in_ok-referents.ensures.opens later));
            free = subst (λ m. ReachesFree m (taken c.open.new.reached) (taken c.reach_free.new.reached)) (same_last ∙ same) (c.in_ok-reach_free.ensures.reaches last_tied).reaches;
          })
          (λ none. false≢true (sym c.if-not-is_whole.true ∙ c.is_whole.ensures.1 none));
    }

pub returns-clause-opens : goal.returns-clause-opens
returns-clause-opens g c = λ tied.
    let old = (g.P.Pages.store c.args.pages.now).map in
    let mid = (g.P.Pages.store c.open_tables.new.pages).map in
    let last = (g.P.Pages.store c.open.new.pages).map in
    let later = g.met.P.Pages.keeps_tied c.args.pages.now c.open_tables.new.pages c.in_ok-tables.ensures.rests.below tied in
    let same = same_map mid old (c.in_ok-tables.ensures.rests.rests.keeps.pages tied) in
    let same_last = same_map last mid (c.in_ok-referents.ensures.rests.rests.keeps.pages later) in
    let last_tied = g.met.P.Pages.keeps_tied c.open_tables.new.pages c.open.new.pages c.in_ok-referents.ensures.rests.below later in
    record {
      opens = record {
        with_tables = taken c.open_tables.new.reached;
        with_referents = taken c.open.new.reached;
        tables = (c.in_ok-tables.ensures.opens tied).opens;
        referents = subst (λ (t : ToldRecords). OpensRecords kept_referents old t (AreReferentsMeant c.args.routes.now t.accepted) c.in_ok-referents.referents.working (taken c.open_tables.new.reached) (taken c.open.new.reached)) c.told_of-told.ensures
            (subst (λ m. OpensRecords kept_referents m c.told_of-told.result (AreReferentsMeant c.args.routes.now c.told_of-told.result.accepted) c.in_ok-referents.referents.working (taken c.open_tables.new.reached) (taken c.open.new.reached)) same (c.in_ok-referents.ensures.opens later));
        free = subst (λ m. ReachesFree m (taken c.open.new.reached) (taken c.reach_free.new.reached)) (same_last ∙ same) (c.in_ok-reach_free.ensures.reaches last_tied).reaches;
      };
      damaged = λ is. absurd (cc);
    }

pub returns-clause-referents : goal.returns-clause-referents
returns-clause-referents g c = subst (λ (told : ToldRecords). IsOpened told c.in_ok-referents.referents) c.told_of-told.ensures c.in_ok-referents.ensures.table
