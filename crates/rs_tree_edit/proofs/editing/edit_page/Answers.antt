-- What was lent is what was spliced.
use Rattle.std.proofs.Common.{◌≡◌, true, is_ok, refl}
use Rattle.rs_page.specs.Header.{page_kind}
use Rattle.rs_tree_edit.proofs.Listing.{spliced_page}
use Rattle.rs_tree_edit.proofs.editing.edit_page.Goals as goal

pub returns-clause-edited : goal.returns-clause-edited
returns-clause-edited g c = λ tied.
    let ok : is_ok c.page_mut.result ≡ true = rw c.in_ok-page.was refl in
    let edits = c.page_mut.follows.holds c.splice_page.new.page ok in
    spliced_page (g.P.Pages.store c.args.pages.now).map (g.P.Pages.store (c.page_mut.follows.lender c.splice_page.new.page)).map c.args.edited.number (page_kind c.args.edited.kind)
    c.args.edited.width c.args.edited.count c.args.edit.at c.args.edit.removed c.args.edit.more c.args.added.now c.in_ok-page.page.now.bytes c.splice_page.new.page.bytes c.header_of-header.result
    (c.in_ok-page.ensures.lends.bytes tied) c.in_ok-page.ensures.lends.in_use c.in_ok-page.ensures.lends.below (edits.edits.replaces tied)
    c.header_of-header.ensures c.splice_page.ensures.header c.splice_page.ensures.size c.requires.room (c.splice_page.ensures.records c.args.edit.more c.requires.whole)
