-- What was lent is what was spliced, there and in the other bytes.
use Rattle.std.proofs.Common.{◌≡◌, ◌≤◌, ◌+◌, ◌-◌, ◌*◌, true, is_ok, refl, ap, ◌∙◌, subst, arith}
use Rattle.std.proofs.lemmas.List.{length-take-le}
use Rattle.rs_page.specs.Header.{page_kind}
use Rattle.rs_tree.specs.Content.{tree_header}
use Rattle.rs_tree_edit.proofs.Listing.{spliced_page}
use Rattle.rs_tree_insert.proofs.splitting.keep_first.Goals as goal

pub returns-clause-edited : goal.returns-clause-edited
returns-clause-edited g c = λ tied.
    let ok : is_ok c.page_mut.result ≡ true = rw c.in_ok-page.was refl in
    let edits = c.page_mut.follows.holds c.splice_page.new.page ok in
    let all : c.args.first ≡ c.args.edited.count - c.args.edited.count + c.args.first = omega arith in
    spliced_page (g.P.Pages.store c.args.pages.now).map (g.P.Pages.store (c.page_mut.follows.lender c.splice_page.new.page)).map c.args.edited.number (page_kind c.args.edited.kind)
    c.args.edited.width c.args.edited.count 0 c.args.edited.count c.args.first _ c.in_ok-page.page.now.bytes c.splice_page.new.page.bytes c.header_of-header.result
    (c.in_ok-page.ensures.lends.bytes tied) c.in_ok-page.ensures.lends.in_use c.in_ok-page.ensures.lends.below (edits.edits.replaces tied)
    (c.header_of-header.ensures ∙ ap (λ n. tree_header (page_kind c.args.edited.kind) n c.args.edited.number) all) c.splice_page.ensures.header c.splice_page.ensures.size
    (subst (λ n. n * c.args.edited.width ≤ 4080) all c.requires.first) (c.splice_page.ensures.records c.args.first
    (length-take-le (c.args.first * c.args.edited.width) c.splice_beside.new.both (omega (arith, c.splice_beside.auto.both, c.requires.size, c.requires.first))))
