-- The empty tree has no pages; from another root what is cleared is the part with that page at its top.
use Rattle.std.proofs.Common.{arith}
use Rattle.rs_tree.specs.Calls.{IsNotShared}
use Rattle.rs_tree.specs.Form.{Form}
use Rattle.rs_tree.proofs.Loading.{on_ok}
use Rattle.rs_tree.specs.Forms.{form_in}
use Rattle.rs_tree_whole.specs.Clearing.{HasNoOwnPart}
use Rattle.rs_tree_whole.proofs.Freeing.{clears_empty, clears_tree, no_part-not_shared}
use Rattle.rs_page_owners.proofs.Working.{Works-refl, CountsNothing-refl}
use Rattle.rs_page_owners.proofs.Following.{works_then}
use Rattle.rs_tree_whole.proofs.clearing.clear.Goals as goal

pub returns-then-number-eq0-clause-clears : goal.returns-then-number-eq0-clause-clears
returns-then-number-eq0-clause-clears g c = λ tied.
    let form : Form = form_in g.S.Summary c.args.layout in
    clears_empty form (g.P.Pages.store c.args.pages.now).map c.args.root (omega (arith, c.number.ensures))

pub returns-clause-leaves : goal.returns-clause-leaves
returns-clause-leaves g c =
    let form : Form = form_in g.S.Summary c.args.layout in
    record {
      keeps = c.clear_part.ensures.keeps;
      works = works_then (g.P.Pages.is_tied c.args.pages.now → IsNotShared form (g.P.Pages.store c.args.pages.now).map c.args.root)
          (g.P.Pages.is_tied c.args.pages.now → HasNoOwnPart form (g.P.Pages.store c.args.pages.now).map c.args.root 31 c.count-left.result) c.clear_part.result
          (g.P.Pages.store c.args.pages.now) (g.P.Pages.store c.args.pages.now) (g.P.Pages.store c.clear_part.new.pages) (Works-refl (g.P.Pages.store c.args.pages.now)) (CountsNothing-refl (g.P.Pages.store c.args.pages.now))
          (λ none tied. no_part-not_shared form (g.P.Pages.store c.args.pages.now).map c.args.root c.count-left.result (λ zero. omega (arith, c.number.ensures, zero)) c.count-left.ensures.count c.count-left.type_inv (none tied))
          c.clear_part.ensures.works;
    }

pub returns-clause-clears : goal.returns-clause-clears
returns-clause-clears g c = λ tied.
    let form : Form = form_in g.S.Summary c.args.layout in
    on_ok c.clear_part.result (c.clear_part.ensures.clears tied) (λ clears.
    clears_tree form (g.P.Pages.store c.args.pages.now).map c.args.root (g.P.Pages.store c.clear_part.new.pages).map c.count-left.result c.clear_part.new.left (λ zero. omega (arith, c.number.ensures, zero)) clears)
