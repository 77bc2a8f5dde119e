-- A page that holds its part was written by reading it; reading changes nothing of what is written after it.
use Rattle.std.proofs.Common.{Ok}
use Rattle.std.proofs.lemmas.Result.{IfOk-weaker}
use Rattle.rs_pages.specs.PageMap.{HasNoFit}
use Rattle.rs_pages.proofs.Stores.{HasNoFit-before}
use Rattle.rs_page_owners.proofs.Working.{rests-work, works_then}
use Rattle.rs_catalog_pages.specs.Parts.{WritesPart}
use Rattle.rs_catalog_pages.proofs.Parts.{holds-writes, writes_before}
use Rattle.rs_catalog_pages.proofs.storing.write_part.Goals as goal

pub returns-then-branch-clause-written : goal.returns-then-branch-clause-written
returns-then-branch-clause-written g c = λ tied.
    let read = c.in_ok-holds_part.ensures in
    holds-writes (g.P.Pages.store c.args.pages.now).map (g.P.Pages.store c.holds_part.new.pages).map c.args.number c.args.next c.args.part.now
    (read.rests.rests.keeps.pages tied) ((read.reads tied).0 c.if-branch.true)

pub returns-clause-works : goal.returns-clause-works
returns-clause-works g c =
    let old = g.P.Pages.store c.args.pages.now in
    let read = g.P.Pages.store c.holds_part.new.pages in
    let rests = c.in_ok-holds_part.ensures.rests in
    works_then ⊥ (g.P.Pages.is_tied c.args.pages.now → HasNoFit old.map c.args.number) (g.P.Pages.is_tied c.holds_part.new.pages → HasNoFit read.map c.args.number)
    c.in_ok-holds_part.field-0 c.replace_part.result old read (g.P.Pages.store c.replace_part.new.pages)
    (λ none tied.
    HasNoFit-before old.map read.map c.args.number (rests.rests.keeps.pages tied) (none (g.met.P.Pages.keeps_tied c.args.pages.now c.holds_part.new.pages rests.below tied)))
    (rests-work g.P.Pages.is_tied g.P.Pages.store g.P.Pages.keeps ⊥ (Ok c.in_ok-holds_part.field-0) c.args.pages.now c.holds_part.new.pages rests tt)
    c.replace_part.ensures.works

pub returns-clause-written : goal.returns-clause-written
returns-clause-written g c = λ tied.
    let old = (g.P.Pages.store c.args.pages.now).map in
    let read = (g.P.Pages.store c.holds_part.new.pages).map in
    let new = (g.P.Pages.store c.replace_part.new.pages).map in
    let rests = c.in_ok-holds_part.ensures.rests in
    IfOk-weaker c.replace_part.result (λ _. WritesPart read new c.args.number c.args.next c.args.part.now) (λ _. WritesPart old new c.args.number c.args.next c.args.part.now)
    (λ _. writes_before old read new c.args.number c.args.next c.args.part.now (rests.rests.keeps.pages tied))
    (c.replace_part.ensures.written (g.met.P.Pages.keeps_tied c.args.pages.now c.holds_part.new.pages rests.below tied))
