-- The count goes with the cell.
use Rattle.std.proofs.Common.{sym, ◌∙◌, arith}
use Rattle.std.proofs.lemmas.Bool.{false≢true}
use Rattle.rs_tree.specs.Form.{Form, form_of}
use Rattle.rs_cell_versions.proofs.Steps.{adds_known, adds_new}
use Rattle.rs_cell_versions.proofs.changing.put.Goals as goal

pub returns-then-new-clause-puts : goal.returns-then-new-clause-puts
returns-then-new-clause-puts g c = λ tied.
    let form : Form = form_of g.S.Summary.says g.S.Summary.unit g.S.Summary.join g.S.Summary.of g.S.Summary.WIDTH c.args.tree.now.width in
    let old = (g.P.Pages.store c.args.pages.now).map in
    let inserts = c.in_ok-new.ensures.inserts tied in
    record {
      adds = adds_new form old (g.P.Pages.store c.insert.new.pages).map c.args.tree.now.root c.insert.new.self.root c.args.cell.now c.requires.living c.args.living c.saturating_add.result c.in_ok-new.new
          (omega (arith, c.requires.fits.some)) (omega (arith, c.count-count.ensures.count, c.count-count.type_inv)) c.saturating_add.ensures c.if-new.true
          inserts.changes inserts.found;
      tells = inserts.found;
      rests = λ isnt. absurd (false≢true (sym isnt ∙ c.if-new.true));
    }

pub returns-else-new-clause-puts : goal.returns-else-new-clause-puts
returns-else-new-clause-puts g c = λ tied.
    let form : Form = form_of g.S.Summary.says g.S.Summary.unit g.S.Summary.join g.S.Summary.of g.S.Summary.WIDTH c.args.tree.now.width in
    let old = (g.P.Pages.store c.args.pages.now).map in
    let inserts = c.in_ok-new.ensures.inserts tied in
    record {
      adds = adds_known form old (g.P.Pages.store c.insert.new.pages).map c.args.tree.now.root c.insert.new.self.root c.args.cell.now c.requires.living c.args.living c.in_ok-new.new c.if-new.false
          inserts.changes inserts.found;
      tells = inserts.found;
      rests = inserts.rests;
    }
