-- The first records stay, the rest comes into a new page.
use Rattle.std.proofs.Common.{◌≡◌, ◌+◌, ◌-◌, ℕ, length, inr, arith}
use Rattle.std.proofs.lemmas.List.{length-replicate}
use Rattle.rs_page.specs.Header.{page_kind}
use Rattle.rs_pages.specs.PageMap.{HasNoFit}
use Rattle.rs_records.specs.Records.{records}
use Rattle.rs_tree.specs.Content.{content}
use Rattle.rs_tree_edit.specs.Editing.{HasNoFreeList}
use Rattle.rs_page_owners.proofs.Working.{works_then}
use Rattle.rs_tree_insert.specs.Writing.{IsBroken, spliced}
use Rattle.rs_tree_insert.proofs.Halves.{split_done, no_list_before, four, parts_fit, last_length, if_ok}
use Rattle.rs_tree_insert.proofs.splitting.split_page.Goals as goal

pub add_page-requires-clause-whole : goal.add_page-requires-clause-whole
add_page-requires-clause-whole g c =
    let total : ℕ = c.args.edited.count - c.args.edit.removed + c.args.edit.more in
    let room = parts_fit c.args.edited.width c.args.edited.count c.args.edit.removed c.args.edit.more (omega (arith, c.requires.part)) c.requires.one_more c.requires.narrow c.requires.fit in
    let size : length c.keep_first.new.both ≡ 8160 = omega (arith, c.keep_first.auto.both, length-replicate {A = ℕ} 8160 0) in
    last_length c.keep_first.new.both c.args.edited.width total c.staying-first.result (omega (arith, c.staying-first.ensures.some_more)) (omega (arith, room, size))

pub returns-clause-works : goal.returns-clause-works
returns-clause-works g c =
    works_then (g.P.Pages.is_tied c.args.pages.now → HasNoFit (g.P.Pages.store c.args.pages.now).map c.args.edited.number)
    (g.P.Pages.is_tied c.args.pages.now → IsBroken (g.P.Pages.store c.args.pages.now).map c.args.edited.number)
    (g.P.Pages.is_tied c.keep_first.new.pages → HasNoFreeList (g.P.Pages.store c.keep_first.new.pages).map)
    tt c.add_page.result (g.P.Pages.store c.args.pages.now) (g.P.Pages.store c.keep_first.new.pages) (g.P.Pages.store c.add_page.new.pages)
    (λ none tied. inr (no_list_before (g.P.Pages.store c.args.pages.now).map (g.P.Pages.store c.keep_first.new.pages).map c.args.edited.number (page_kind c.args.edited.kind) c.args.edited.width c.args.edited.count 0 c.args.edited.count _
    (c.in_ok-keep_first.ensures.edited tied) (none (g.met.P.Pages.keeps_tied c.args.pages.now c.keep_first.new.pages c.in_ok-keep_first.ensures.keeps tied))))
    c.in_ok-keep_first.ensures.works c.add_page.ensures.works

pub returns-clause-splits : goal.returns-clause-splits
returns-clause-splits g c = λ tied page there.
    let total : ℕ = c.args.edited.count - c.args.edit.removed + c.args.edit.more in
    let many = four c.args.edited.width total c.requires.narrow c.requires.full in
    let later = g.met.P.Pages.keeps_tied c.args.pages.now c.keep_first.new.pages c.in_ok-keep_first.ensures.keeps tied in
    if_ok c.add_page.result (c.add_page.ensures.added later) (λ other adds.
    split_done (g.P.Pages.store c.args.pages.now).map (g.P.Pages.store c.keep_first.new.pages).map (g.P.Pages.store c.add_page.new.pages).map c.args.edited.kind c.args.edited.number other
    c.args.edited.width c.args.edited.count total c.staying-first.result c.keep_first.new.both (spliced (records c.args.edited.count c.args.edited.width (content page)) c.args.edit.at c.args.edit.removed (records c.args.edit.more c.args.edited.width c.args.added.now))
    c.staying-first.ensures.some c.staying-first.ensures.some_more (c.in_ok-keep_first.ensures.both tied page there) (c.in_ok-keep_first.ensures.edited tied) adds)
