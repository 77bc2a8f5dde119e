-- A tree gets its cell below the root, and a new root above two pages.
use Rattle.std.proofs.Common.{◌⊎◌, refl, sym, ap, subst}
use Rattle.std.proofs.lemmas.Bool.{false≢true}
use Rattle.std.proofs.lemmas.Result.{err_from_is_err_and}
use Rattle.rs_tree.specs.Calls.{IsNotShared}
use Rattle.rs_tree.specs.Form.{Form}
use Rattle.rs_tree.specs.Forms.{form_in}
use Rattle.rs_tree_edit.specs.Editing.{HasNoFreeList}
use Rattle.rs_page_owners.proofs.Working.{works_then, works_err}
use Rattle.rs_tree_insert.specs.Inserting.{tops, PutsBelow, TellsBelow, HasNoShared, HasNoTops}
use Rattle.rs_tree_insert.specs.Writing.{is_found}
use Rattle.rs_tree_insert.specs.declared.answer.Put.TheVariants.{Found, Placed, Kept, Split}
use Rattle.rs_tree_insert.proofs.Rooting.{tells_found, tells_new, changed, grown, none_grown, none_shared}
use Rattle.rs_tree_insert.proofs.roots.insert_in_room.Goals as goal

pub returns-in_err-insert_below-clause-leaves : goal.returns-in_err-insert_below-clause-leaves
returns-in_err-insert_below-clause-leaves g c =
    let form : Form = form_in g.S.Summary c.args.layout in
    let old = (g.P.Pages.store c.args.pages.now).map in
    let p = err_from_is_err_and c.from_residual.result c.from_residual.ensures.1 in
    record {
      keeps = c.in_err-insert_below.ensures.keeps;
      works = works_err (g.P.Pages.is_tied c.args.pages.now → HasNoShared form old c.args.root 31) (g.P.Pages.is_tied c.args.pages.now → IsNotShared form old c.args.root) c.from_residual.result c.in_err-insert_below.field-0.0 (g.P.Pages.store c.args.pages.now) (g.P.Pages.store c.insert_below.new.pages)
          (λ none tied. none_shared form old old c.args.root c.args.cell.now c.requires.some c.count-count.result c.count-count.ensures.count c.count-count.type_inv (none tied)) (cc (p.1, p.2)) c.in_err-insert_below.ensures.works;
    }

pub returns-in_err-root-in-Split-clause-leaves : goal.returns-in_err-root-in-Split-clause-leaves
returns-in_err-root-in-Split-clause-leaves g c =
    let form : Form = form_in g.S.Summary c.args.layout in
    let old = (g.P.Pages.store c.args.pages.now).map in
    let mid = (g.P.Pages.store c.insert_below.new.pages).map in
    let p = err_from_is_err_and c.from_residual-in_err-root-in-Split.result c.from_residual-in_err-root-in-Split.ensures.1 in
    record {
      keeps = g.met.P.Pages.keeps_trans c.args.pages.now c.insert_below.new.pages c.add_root.new.pages c.in_ok-insert_below.ensures.keeps c.in_err-root-in-Split.ensures.keeps;
      works = works_then (g.P.Pages.is_tied c.args.pages.now → HasNoShared form old c.args.root 31) (g.P.Pages.is_tied c.args.pages.now → IsNotShared form old c.args.root) (g.P.Pages.is_tied c.insert_below.new.pages → HasNoTops form mid (tops c.args.root (Split c.in-Split.other)) ⊎ HasNoFreeList mid) c.in_ok-insert_below.field-0 c.from_residual-in_err-root-in-Split.result (g.P.Pages.store c.args.pages.now) (g.P.Pages.store c.insert_below.new.pages) (g.P.Pages.store c.add_root.new.pages)
          (λ broken tied.
          let later = g.met.P.Pages.keeps_tied c.args.pages.now c.insert_below.new.pages c.in_ok-insert_below.ensures.keeps tied in
          let puts = subst (PutsBelow form old mid c.args.root c.args.cell.now) c.in-Split.is (c.in_ok-insert_below.ensures.puts tied) in
          none_grown form old mid c.args.root c.args.cell.now c.requires.some c.in-Split.other puts (broken later))
          c.in_ok-insert_below.ensures.works
          (works_err (g.P.Pages.is_tied c.insert_below.new.pages → HasNoTops form mid (tops c.args.root (Split c.in-Split.other)) ⊎ HasNoFreeList mid) (g.P.Pages.is_tied c.insert_below.new.pages → HasNoTops form mid (tops c.args.root (Split c.in-Split.other)) ⊎ HasNoFreeList mid) c.from_residual-in_err-root-in-Split.result c.in_err-root-in-Split.field-0.0 (g.P.Pages.store c.insert_below.new.pages) (g.P.Pages.store c.add_root.new.pages) (λ broken. broken) (cc (p.1, p.2)) c.in_err-root-in-Split.ensures.works);
    }

pub returns-in-Found-clause-inserts : goal.returns-in-Found-clause-inserts
returns-in-Found-clause-inserts g c = λ tied.
    let form : Form = form_in g.S.Summary c.args.layout in
    let old = (g.P.Pages.store c.args.pages.now).map in
    let mid = (g.P.Pages.store c.insert_below.new.pages).map in
    let puts = subst (PutsBelow form old mid c.args.root c.args.cell.now) c.in-Found.is (c.in_ok-insert_below.ensures.puts tied) in
    let tells = subst (TellsBelow form old c.args.root c.args.cell.now) c.in-Found.is (c.in_ok-insert_below.ensures.found tied) in
    record {
      changes = changed form old mid c.args.root c.args.cell.now c.requires.some Found refl puts;
      found = tells_found form old old c.args.root c.args.cell.now c.requires.some Found refl tells;
      rests = λ _. c.in_ok-insert_below.ensures.same tied (ap is_found c.in-Found.is);
    }

pub returns-in-Placed-clause-inserts : goal.returns-in-Placed-clause-inserts
returns-in-Placed-clause-inserts g c = λ tied.
    let form : Form = form_in g.S.Summary c.args.layout in
    let old = (g.P.Pages.store c.args.pages.now).map in
    let mid = (g.P.Pages.store c.insert_below.new.pages).map in
    let puts = subst (PutsBelow form old mid c.args.root c.args.cell.now) c.in-Placed.is (c.in_ok-insert_below.ensures.puts tied) in
    let tells = subst (TellsBelow form old c.args.root c.args.cell.now) c.in-Placed.is (c.in_ok-insert_below.ensures.found tied) in
    record {
      changes = changed form old mid c.args.root c.args.cell.now c.requires.some Placed refl puts;
      found = tells_new form old old c.args.root c.args.cell.now c.requires.some Placed refl tells;
      rests = λ old_one. absurd (false≢true (sym old_one));
    }

pub returns-in-Kept-clause-inserts : goal.returns-in-Kept-clause-inserts
returns-in-Kept-clause-inserts g c = λ tied.
    let form : Form = form_in g.S.Summary c.args.layout in
    let old = (g.P.Pages.store c.args.pages.now).map in
    let mid = (g.P.Pages.store c.insert_below.new.pages).map in
    let puts = subst (PutsBelow form old mid c.args.root c.args.cell.now) c.in-Kept.is (c.in_ok-insert_below.ensures.puts tied) in
    let tells = subst (TellsBelow form old c.args.root c.args.cell.now) c.in-Kept.is (c.in_ok-insert_below.ensures.found tied) in
    record {
      changes = changed form old mid c.args.root c.args.cell.now c.requires.some Kept refl puts;
      found = tells_new form old old c.args.root c.args.cell.now c.requires.some Kept refl tells;
      rests = λ old_one. absurd (false≢true (sym old_one));
    }

pub returns-in_ok-root-in-Split-clause-inserts : goal.returns-in_ok-root-in-Split-clause-inserts
returns-in_ok-root-in-Split-clause-inserts g c = λ tied.
    let form : Form = form_in g.S.Summary c.args.layout in
    let old = (g.P.Pages.store c.args.pages.now).map in
    let mid = (g.P.Pages.store c.insert_below.new.pages).map in
    let later = g.met.P.Pages.keeps_tied c.args.pages.now c.insert_below.new.pages c.in_ok-insert_below.ensures.keeps tied in
    let puts = subst (PutsBelow form old mid c.args.root c.args.cell.now) c.in-Split.is (c.in_ok-insert_below.ensures.puts tied) in
    let tells = subst (TellsBelow form old c.args.root c.args.cell.now) c.in-Split.is (c.in_ok-insert_below.ensures.found tied) in
    record {
      changes = grown form old mid c.args.root c.args.cell.now c.requires.some (g.P.Pages.store c.add_root.new.pages).map c.in-Split.other c.in_ok-root-in-Split.root puts (c.in_ok-root-in-Split.ensures.above later);
      found = tells_new form old old c.args.root c.args.cell.now c.requires.some (Split c.in-Split.other) refl tells;
      rests = λ old_one. absurd (false≢true (sym old_one));
    }
