-- The first cell is taken out, and the other put in where the first was there.
use Rattle.std.proofs.Common.{Bool}
use Rattle.std.proofs.lemmas.Result.{err_from_is_err_and}
use Rattle.rs_page.specs.declared.number.PageNumber.{PageNumber}
use Rattle.rs_tree.specs.Calls.{IsNotShared}
use Rattle.rs_tree.specs.Form.{Form}
use Rattle.rs_tree.specs.Forms.{form_in}
use Rattle.rs_page_owners.proofs.Working.{works_then, works_err}
use Rattle.rs_btree.proofs.Exchanging.{replaced, rested, none_before}
use Rattle.rs_btree.proofs.replacing.replace.Goals as goal

pub returns-in_err-inserted-clause-leaves : goal.returns-in_err-inserted-clause-leaves
returns-in_err-inserted-clause-leaves g c =
    let form : Form = form_in g.S.Summary c.args.layout in
    let old = (g.P.Pages.store c.args.pages.now).map in
    let mid = (g.P.Pages.store c.remove.new.pages).map in
    let p = err_from_is_err_and c.from_residual-in_err-inserted.result c.from_residual-in_err-inserted.ensures.1 in
    record {
      keeps = g.met.P.Pages.keeps_trans c.args.pages.now c.remove.new.pages c.insert.new.pages c.in_ok-below.ensures.leaves.keeps c.in_err-inserted.ensures.leaves.keeps;
      works = works_then {T = PageNumber × Bool} (g.P.Pages.is_tied c.args.pages.now → IsNotShared form old c.args.root) (g.P.Pages.is_tied c.args.pages.now → IsNotShared form old c.args.root) (g.P.Pages.is_tied c.remove.new.pages → IsNotShared form mid c.in_ok-below.below) (c.in_ok-below.below, c.in_ok-below.found) c.from_residual-in_err-inserted.result (g.P.Pages.store c.args.pages.now) (g.P.Pages.store c.remove.new.pages) (g.P.Pages.store c.insert.new.pages)
          (λ none tied. none_before form old mid c.args.root c.in_ok-below.below c.args.cell.now (c.in_ok-below.ensures.removes tied).changes (none (g.met.P.Pages.keeps_tied c.args.pages.now c.remove.new.pages c.in_ok-below.ensures.leaves.keeps tied)))
          c.in_ok-below.ensures.leaves.works
          (works_err (g.P.Pages.is_tied c.remove.new.pages → IsNotShared form mid c.in_ok-below.below) (g.P.Pages.is_tied c.remove.new.pages → IsNotShared form mid c.in_ok-below.below) c.from_residual-in_err-inserted.result c.in_err-inserted.field-0.0 (g.P.Pages.store c.remove.new.pages) (g.P.Pages.store c.insert.new.pages) (λ broken. broken) (cc (p.1, p.2)) c.in_err-inserted.ensures.leaves.works);
    }

pub returns-in_ok-inserted-clause-replaces : goal.returns-in_ok-inserted-clause-replaces
returns-in_ok-inserted-clause-replaces g c = λ tied.
    let form : Form = form_in g.S.Summary c.args.layout in
    let old = (g.P.Pages.store c.args.pages.now).map in
    let mid = (g.P.Pages.store c.remove.new.pages).map in
    let later = g.met.P.Pages.keeps_tied c.args.pages.now c.remove.new.pages c.in_ok-below.ensures.leaves.keeps tied in
    record {
      replaces = replaced form old mid c.args.root c.in_ok-below.below c.args.cell.now (c.in_ok-below.ensures.removes tied).changes
          (g.P.Pages.store c.insert.new.pages).map c.in_ok-inserted.inserted.root c.args.other.now c.in_ok-below.found c.if-found.true (c.in_ok-below.ensures.removes tied).tells (c.in_ok-inserted.ensures.inserts later).changes;
      tells = (c.in_ok-below.ensures.removes tied).tells;
    }

pub returns-else-found-clause-replaces : goal.returns-else-found-clause-replaces
returns-else-found-clause-replaces g c = λ tied.
    let form : Form = form_in g.S.Summary c.args.layout in
    record {
      replaces = rested form (g.P.Pages.store c.args.pages.now).map (g.P.Pages.store c.remove.new.pages).map c.args.root c.in_ok-below.below c.args.cell.now (c.in_ok-below.ensures.removes tied).changes
          c.args.other.now c.in_ok-below.found c.if-found.false (c.in_ok-below.ensures.removes tied).tells;
      tells = (c.in_ok-below.ensures.removes tied).tells;
    }
