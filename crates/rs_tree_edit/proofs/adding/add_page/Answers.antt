-- The page that came into use is filled.
use Rattle.rs_page.specs.Header.{page_kind}
use Rattle.rs_tree_edit.proofs.Listing.{filled_page}
use Rattle.rs_tree_edit.proofs.adding.add_page.Goals as goal

pub returns-clause-added : goal.returns-clause-added
returns-clause-added g c = λ tied.
    let later = g.met.P.Pages.keeps_tied c.args.pages.now c.allocate.new.self c.in_ok-number.ensures.keeps tied in
    let allocates = c.in_ok-number.ensures.allocates in
    filled_page (g.P.Pages.store c.args.pages.now).map (g.P.Pages.store c.allocate.new.self).map (g.P.Pages.store c.edit_page.new.pages).map c.in_ok-number.number (page_kind c.args.kind)
    c.args.width c.args.count c.args.bytes.now (allocates.allocates tied) (allocates.fresh tied) allocates.after allocates.below allocates.no_fewer
    (c.in_ok-edit_page.ensures.edited later)
