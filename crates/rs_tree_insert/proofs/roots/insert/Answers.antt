-- The empty tree gets a leaf.
use Rattle.std.proofs.Common.{◌≡◌, sym, arith}
use Rattle.std.proofs.lemmas.Bool.{false≢true}
use Rattle.rs_records.specs.Records.{records}
use Rattle.rs_tree.specs.Form.{Form}
use Rattle.rs_tree.specs.Forms.{form_in}
use Rattle.rs_tree_insert.proofs.Cells.{one_record}
use Rattle.rs_tree_insert.proofs.Rooting.{planted, empty_new}
use Rattle.rs_tree_insert.proofs.roots.insert.Goals as goal

pub returns-then-number-eq0-clause-inserts : goal.returns-then-number-eq0-clause-inserts
returns-then-number-eq0-clause-inserts g c = λ tied.
    let form : Form = form_in g.S.Summary c.args.layout in
    let old = (g.P.Pages.store c.args.pages.now).map in
    let zero : c.args.root ≡ 0 = omega (arith, c.number.ensures, c.if-number-eq0.true) in
    record {
      changes = planted form old (g.P.Pages.store c.add_page.new.pages).map c.args.root c.in_ok-root.root c.args.cell.now (records 1 c.args.layout.width c.args.cell.now) zero
          (one_record c.args.layout.width c.args.cell.now c.requires.width) (c.in_ok-root.ensures.added tied);
      found = empty_new form old c.args.root c.args.cell.now zero;
      rests = λ old_one. absurd (false≢true (sym old_one));
    }
