-- The page has two parts, the neighbour one less, and the page above says both.
use Rattle.std.proofs.Common.{◌≡◌, ◌<◌, ◌-◌, ℕ, Bool, true, false, cond, Ok, Err, [], ◌∷◌, ap, ◌∙◌, subst, arith}
use Rattle.std.proofs.lemmas.Result.{err_from_is_err_and}
use Rattle.rs_tree.specs.Content.{content}
use Rattle.rs_tree.specs.Form.{Form, joined}
use Rattle.rs_tree.specs.Layouts.{entry_bytes}
use Rattle.rs_tree.specs.Reading.{HasNoNode}
use Rattle.rs_tree.proofs.Entering.{entry_there}
use Rattle.rs_tree.specs.Forms.{form_in}
use Rattle.rs_page_owners.proofs.Working.{works_err, works_then}
use Rattle.rs_tree_remove.specs.Finishing.{Finishes, NoneGaveWay}
use Rattle.rs_tree_remove.specs.Mending.{NonePairs}
use Rattle.rs_tree_remove.proofs.Sharing.{no_held, no_two, no_less, no_above, shares_all}
use Rattle.rs_tree_remove.proofs.pairing.share.Goals as goal

place_inside : (is_first : Bool) (size place : ℕ) → 2 < size → place ≡ cond is_first 0 (size - 1) → place < size
place_inside true size place more is = omega arith
place_inside false size place more is = omega arith

pub returns-in_err-_node-clause-works : goal.returns-in_err-_node-clause-works
returns-in_err-_node-clause-works g c =
    let form : Form = form_in g.S.Summary c.args.layout in
    let p = err_from_is_err_and c.from_residual.result c.from_residual.ensures.1 in
    works_err (g.P.Pages.is_tied c.args.pages.now → HasNoNode (g.P.Pages.store c.args.pages.now).map c.args.pair.lonely c.args.layout) (g.P.Pages.is_tied c.args.pages.now → NonePairs form (g.P.Pages.store c.args.pages.now).map c.args.inner.number c.args.page.now.bytes c.args.inner.count c.args.pair.at c.args.pair.is_first c.args.pair.lonely c.args.pair.only c.args.pair.other c.args.near.now.bytes c.args.pair.size) c.from_residual.result c.in_err-_node.field-0.0 (g.P.Pages.store c.args.pages.now) (g.P.Pages.store c.read_part.new.pages)
    (λ none tied. no_held (λ bytes cells. g.S.Summary.says bytes (joined g.S.Summary.unit g.S.Summary.join g.S.Summary.of cells)) c.args.layout (g.P.Pages.store c.args.pages.now).map c.args.inner.number c.args.page.now.bytes c.args.inner.count c.args.pair.at c.args.pair.is_first c.args.pair.lonely c.args.pair.only c.args.pair.other c.args.near.now.bytes c.args.pair.size (none tied))
    (p.1 ∙ ap Err p.2) c.in_err-_node.ensures.works

pub returns-in_err-renew_two-clause-works : goal.returns-in_err-renew_two-clause-works
returns-in_err-renew_two-clause-works g c =
    let form : Form = form_in g.S.Summary c.args.layout in
    let there = entry_there c.args.pair.size c.entry_width.result (entry_bytes c.args.layout) c.content.result.now (content c.args.near.now.bytes) c.end-place.result c.record_at.result.now
    c.entry_width.ensures.width c.content.ensures.bytes (c.record_at.ensures.one c.args.pair.size (place_inside c.args.pair.is_first c.args.pair.size c.end-place.result c.requires.more c.end-place.ensures)) in
    let p = err_from_is_err_and c.from_residual-in_err-renew_two.result c.from_residual-in_err-renew_two.ensures.1 in
    works_err {T = Unit {0}} (g.P.Pages.is_tied c.args.pages.now → NonePairs form (g.P.Pages.store c.args.pages.now).map c.args.inner.number c.args.page.now.bytes c.args.inner.count c.args.pair.at c.args.pair.is_first c.args.pair.lonely c.args.pair.only c.args.pair.other c.args.near.now.bytes c.args.pair.size) (g.P.Pages.is_tied c.args.pages.now → NonePairs form (g.P.Pages.store c.args.pages.now).map c.args.inner.number c.args.page.now.bytes c.args.inner.count c.args.pair.at c.args.pair.is_first c.args.pair.lonely c.args.pair.only c.args.pair.other c.args.near.now.bytes c.args.pair.size) c.from_residual-in_err-renew_two.result c.in_err-renew_two.field-0.0 (g.P.Pages.store c.args.pages.now) (g.P.Pages.store c.renew_two.new.pages) (λ none. none) (p.1 ∙ ap Err p.2)
    (works_then (g.P.Pages.is_tied c.args.pages.now → HasNoNode (g.P.Pages.store c.args.pages.now).map c.args.pair.lonely c.args.layout) (g.P.Pages.is_tied c.args.pages.now → NonePairs form (g.P.Pages.store c.args.pages.now).map c.args.inner.number c.args.page.now.bytes c.args.inner.count c.args.pair.at c.args.pair.is_first c.args.pair.lonely c.args.pair.only c.args.pair.other c.args.near.now.bytes c.args.pair.size) (g.P.Pages.is_tied c.read_part.new.pages → NoneGaveWay form (g.P.Pages.store c.read_part.new.pages).map c.args.pair.lonely c.read_part.new.copy.bytes 2 0 2 (c.ordered-parts.result.first ∷ c.ordered-parts.result.second ∷ [])) c.in_ok-_node._node (Err c.in_err-renew_two.field-0.0) (g.P.Pages.store c.args.pages.now) (g.P.Pages.store c.read_part.new.pages) (g.P.Pages.store c.renew_two.new.pages)
    (λ none tied. let one = g.met.P.Pages.keeps_tied c.args.pages.now c.read_part.new.pages c.in_ok-_node.ensures.rests.below tied in no_two form (g.P.Pages.store c.args.pages.now).map c.args.inner.number c.args.page.now.bytes c.args.inner.count c.args.pair.at c.args.pair.is_first c.args.pair.lonely c.args.pair.only c.args.pair.other c.args.near.now.bytes c.args.pair.size c.end-place.result c.child-given.result c.ordered-parts.result.first c.ordered-parts.result.second c.record_at.result.now c.requires.more c.end-place.ensures there c.child-given.ensures c.ordered-parts.ensures (g.P.Pages.store c.read_part.new.pages).map c.read_part.new.copy.bytes (c.in_ok-_node.ensures.rests.rests.keeps.pages tied) ((c.in_ok-_node.ensures.rests.rests.keeps.pages tied).pages c.args.pair.lonely ∙ c.in_ok-_node.ensures.loaded.bytes tied) (none one))
    c.in_ok-_node.ensures.works c.in_err-renew_two.ensures.works)

pub returns-in_err-_kept-clause-works : goal.returns-in_err-_kept-clause-works
returns-in_err-_kept-clause-works g c =
    let form : Form = form_in g.S.Summary c.args.layout in
    let there = entry_there c.args.pair.size c.entry_width.result (entry_bytes c.args.layout) c.content.result.now (content c.args.near.now.bytes) c.end-place.result c.record_at.result.now
    c.entry_width.ensures.width c.content.ensures.bytes (c.record_at.ensures.one c.args.pair.size (place_inside c.args.pair.is_first c.args.pair.size c.end-place.result c.requires.more c.end-place.ensures)) in
    let p = err_from_is_err_and c.from_residual-in_err-_kept.result c.from_residual-in_err-_kept.ensures.1 in
    works_err (g.P.Pages.is_tied c.args.pages.now → NonePairs form (g.P.Pages.store c.args.pages.now).map c.args.inner.number c.args.page.now.bytes c.args.inner.count c.args.pair.at c.args.pair.is_first c.args.pair.lonely c.args.pair.only c.args.pair.other c.args.near.now.bytes c.args.pair.size) (g.P.Pages.is_tied c.args.pages.now → NonePairs form (g.P.Pages.store c.args.pages.now).map c.args.inner.number c.args.page.now.bytes c.args.inner.count c.args.pair.at c.args.pair.is_first c.args.pair.lonely c.args.pair.only c.args.pair.other c.args.near.now.bytes c.args.pair.size) c.from_residual-in_err-_kept.result c.in_err-_kept.field-0.0 (g.P.Pages.store c.args.pages.now) (g.P.Pages.store c.drop_entry.new.pages) (λ none. none) (p.1 ∙ ap Err p.2)
    (works_then (g.P.Pages.is_tied c.args.pages.now → NonePairs form (g.P.Pages.store c.args.pages.now).map c.args.inner.number c.args.page.now.bytes c.args.inner.count c.args.pair.at c.args.pair.is_first c.args.pair.lonely c.args.pair.only c.args.pair.other c.args.near.now.bytes c.args.pair.size) (g.P.Pages.is_tied c.args.pages.now → NonePairs form (g.P.Pages.store c.args.pages.now).map c.args.inner.number c.args.page.now.bytes c.args.inner.count c.args.pair.at c.args.pair.is_first c.args.pair.lonely c.args.pair.only c.args.pair.other c.args.near.now.bytes c.args.pair.size) (g.P.Pages.is_tied c.renew_two.new.pages → NoneGaveWay form (g.P.Pages.store c.renew_two.new.pages).map c.args.pair.other c.args.near.now.bytes c.args.pair.size c.end-place.result 1 []) tt (Err c.in_err-_kept.field-0.0) (g.P.Pages.store c.args.pages.now) (g.P.Pages.store c.renew_two.new.pages) (g.P.Pages.store c.drop_entry.new.pages)
    (λ none tied. let one = g.met.P.Pages.keeps_tied c.args.pages.now c.read_part.new.pages c.in_ok-_node.ensures.rests.below tied in let two = g.met.P.Pages.keeps_tied c.read_part.new.pages c.renew_two.new.pages c.in_ok-renew_two.ensures.keeps one in no_less form (g.P.Pages.store c.args.pages.now).map c.args.inner.number c.args.page.now.bytes c.args.inner.count c.args.pair.at c.args.pair.is_first c.args.pair.lonely c.args.pair.only c.args.pair.other c.args.near.now.bytes c.args.pair.size c.end-place.result c.child-given.result c.ordered-parts.result.first c.ordered-parts.result.second c.record_at.result.now c.requires.more c.end-place.ensures there c.child-given.ensures c.ordered-parts.ensures (g.P.Pages.store c.read_part.new.pages).map c.read_part.new.copy.bytes (c.in_ok-_node.ensures.rests.rests.keeps.pages tied) ((c.in_ok-_node.ensures.rests.rests.keeps.pages tied).pages c.args.pair.lonely ∙ c.in_ok-_node.ensures.loaded.bytes tied) (g.P.Pages.store c.renew_two.new.pages).map (c.in_ok-renew_two.ensures.finishes one) (none two))
    (works_then (g.P.Pages.is_tied c.args.pages.now → HasNoNode (g.P.Pages.store c.args.pages.now).map c.args.pair.lonely c.args.layout) (g.P.Pages.is_tied c.args.pages.now → NonePairs form (g.P.Pages.store c.args.pages.now).map c.args.inner.number c.args.page.now.bytes c.args.inner.count c.args.pair.at c.args.pair.is_first c.args.pair.lonely c.args.pair.only c.args.pair.other c.args.near.now.bytes c.args.pair.size) (g.P.Pages.is_tied c.read_part.new.pages → NoneGaveWay form (g.P.Pages.store c.read_part.new.pages).map c.args.pair.lonely c.read_part.new.copy.bytes 2 0 2 (c.ordered-parts.result.first ∷ c.ordered-parts.result.second ∷ [])) c.in_ok-_node._node (Ok tt) (g.P.Pages.store c.args.pages.now) (g.P.Pages.store c.read_part.new.pages) (g.P.Pages.store c.renew_two.new.pages)
    (λ none tied. let one = g.met.P.Pages.keeps_tied c.args.pages.now c.read_part.new.pages c.in_ok-_node.ensures.rests.below tied in no_two form (g.P.Pages.store c.args.pages.now).map c.args.inner.number c.args.page.now.bytes c.args.inner.count c.args.pair.at c.args.pair.is_first c.args.pair.lonely c.args.pair.only c.args.pair.other c.args.near.now.bytes c.args.pair.size c.end-place.result c.child-given.result c.ordered-parts.result.first c.ordered-parts.result.second c.record_at.result.now c.requires.more c.end-place.ensures there c.child-given.ensures c.ordered-parts.ensures (g.P.Pages.store c.read_part.new.pages).map c.read_part.new.copy.bytes (c.in_ok-_node.ensures.rests.rests.keeps.pages tied) ((c.in_ok-_node.ensures.rests.rests.keeps.pages tied).pages c.args.pair.lonely ∙ c.in_ok-_node.ensures.loaded.bytes tied) (none one))
    c.in_ok-_node.ensures.works c.in_ok-renew_two.ensures.works) c.in_err-_kept.ensures.works)

pub returns-in_err-renew_two-2-clause-works : goal.returns-in_err-renew_two-2-clause-works
returns-in_err-renew_two-2-clause-works g c =
    let form : Form = form_in g.S.Summary c.args.layout in
    let there = entry_there c.args.pair.size c.entry_width.result (entry_bytes c.args.layout) c.content.result.now (content c.args.near.now.bytes) c.end-place.result c.record_at.result.now
    c.entry_width.ensures.width c.content.ensures.bytes (c.record_at.ensures.one c.args.pair.size (place_inside c.args.pair.is_first c.args.pair.size c.end-place.result c.requires.more c.end-place.ensures)) in
    let p = err_from_is_err_and c.from_residual-in_err-renew_two-2.result c.from_residual-in_err-renew_two-2.ensures.1 in
    works_err {T = Unit {0}} (g.P.Pages.is_tied c.args.pages.now → NonePairs form (g.P.Pages.store c.args.pages.now).map c.args.inner.number c.args.page.now.bytes c.args.inner.count c.args.pair.at c.args.pair.is_first c.args.pair.lonely c.args.pair.only c.args.pair.other c.args.near.now.bytes c.args.pair.size) (g.P.Pages.is_tied c.args.pages.now → NonePairs form (g.P.Pages.store c.args.pages.now).map c.args.inner.number c.args.page.now.bytes c.args.inner.count c.args.pair.at c.args.pair.is_first c.args.pair.lonely c.args.pair.only c.args.pair.other c.args.near.now.bytes c.args.pair.size) c.from_residual-in_err-renew_two-2.result c.in_err-renew_two-2.field-0.0 (g.P.Pages.store c.args.pages.now) (g.P.Pages.store c.renew_two-2.new.pages) (λ none. none) (p.1 ∙ ap Err p.2)
    (works_then (g.P.Pages.is_tied c.args.pages.now → NonePairs form (g.P.Pages.store c.args.pages.now).map c.args.inner.number c.args.page.now.bytes c.args.inner.count c.args.pair.at c.args.pair.is_first c.args.pair.lonely c.args.pair.only c.args.pair.other c.args.near.now.bytes c.args.pair.size) (g.P.Pages.is_tied c.args.pages.now → NonePairs form (g.P.Pages.store c.args.pages.now).map c.args.inner.number c.args.page.now.bytes c.args.inner.count c.args.pair.at c.args.pair.is_first c.args.pair.lonely c.args.pair.only c.args.pair.other c.args.near.now.bytes c.args.pair.size) (g.P.Pages.is_tied c.drop_entry.new.pages → NoneGaveWay form (g.P.Pages.store c.drop_entry.new.pages).map c.args.inner.number c.args.page.now.bytes c.args.inner.count c.args.pair.at 2 (c.ordered-both.result.first ∷ c.ordered-both.result.second ∷ [])) c.in_ok-_kept._kept (Err c.in_err-renew_two-2.field-0.0) (g.P.Pages.store c.args.pages.now) (g.P.Pages.store c.drop_entry.new.pages) (g.P.Pages.store c.renew_two-2.new.pages)
    (λ none tied. let one = g.met.P.Pages.keeps_tied c.args.pages.now c.read_part.new.pages c.in_ok-_node.ensures.rests.below tied in let two = g.met.P.Pages.keeps_tied c.read_part.new.pages c.renew_two.new.pages c.in_ok-renew_two.ensures.keeps one in let three = g.met.P.Pages.keeps_tied c.renew_two.new.pages c.drop_entry.new.pages c.in_ok-_kept.ensures.keeps two in no_above form (g.P.Pages.store c.args.pages.now).map c.args.inner.number c.args.page.now.bytes c.args.inner.count c.args.pair.at c.args.pair.is_first c.args.pair.lonely c.args.pair.only c.args.pair.other c.args.near.now.bytes c.args.pair.size c.end-place.result c.child-given.result c.ordered-parts.result.first c.ordered-parts.result.second c.record_at.result.now c.requires.more c.end-place.ensures there c.child-given.ensures c.ordered-parts.ensures (g.P.Pages.store c.read_part.new.pages).map c.read_part.new.copy.bytes (c.in_ok-_node.ensures.rests.rests.keeps.pages tied) ((c.in_ok-_node.ensures.rests.rests.keeps.pages tied).pages c.args.pair.lonely ∙ c.in_ok-_node.ensures.loaded.bytes tied) (g.P.Pages.store c.renew_two.new.pages).map (c.in_ok-renew_two.ensures.finishes one) (g.P.Pages.store c.drop_entry.new.pages).map (subst (Finishes form (g.P.Pages.store c.renew_two.new.pages).map (g.P.Pages.store c.drop_entry.new.pages).map c.args.pair.other c.args.near.now.bytes c.args.pair.size c.end-place.result 1 []) (c.in_ok-_kept.ensures.kept (omega arith)) (c.in_ok-_kept.ensures.finishes two)) c.ordered-both.result.first c.ordered-both.result.second c.ordered-both.ensures (none three))
    (works_then (g.P.Pages.is_tied c.args.pages.now → NonePairs form (g.P.Pages.store c.args.pages.now).map c.args.inner.number c.args.page.now.bytes c.args.inner.count c.args.pair.at c.args.pair.is_first c.args.pair.lonely c.args.pair.only c.args.pair.other c.args.near.now.bytes c.args.pair.size) (g.P.Pages.is_tied c.args.pages.now → NonePairs form (g.P.Pages.store c.args.pages.now).map c.args.inner.number c.args.page.now.bytes c.args.inner.count c.args.pair.at c.args.pair.is_first c.args.pair.lonely c.args.pair.only c.args.pair.other c.args.near.now.bytes c.args.pair.size) (g.P.Pages.is_tied c.renew_two.new.pages → NoneGaveWay form (g.P.Pages.store c.renew_two.new.pages).map c.args.pair.other c.args.near.now.bytes c.args.pair.size c.end-place.result 1 []) tt (Ok c.in_ok-_kept._kept) (g.P.Pages.store c.args.pages.now) (g.P.Pages.store c.renew_two.new.pages) (g.P.Pages.store c.drop_entry.new.pages)
    (λ none tied. let one = g.met.P.Pages.keeps_tied c.args.pages.now c.read_part.new.pages c.in_ok-_node.ensures.rests.below tied in let two = g.met.P.Pages.keeps_tied c.read_part.new.pages c.renew_two.new.pages c.in_ok-renew_two.ensures.keeps one in no_less form (g.P.Pages.store c.args.pages.now).map c.args.inner.number c.args.page.now.bytes c.args.inner.count c.args.pair.at c.args.pair.is_first c.args.pair.lonely c.args.pair.only c.args.pair.other c.args.near.now.bytes c.args.pair.size c.end-place.result c.child-given.result c.ordered-parts.result.first c.ordered-parts.result.second c.record_at.result.now c.requires.more c.end-place.ensures there c.child-given.ensures c.ordered-parts.ensures (g.P.Pages.store c.read_part.new.pages).map c.read_part.new.copy.bytes (c.in_ok-_node.ensures.rests.rests.keeps.pages tied) ((c.in_ok-_node.ensures.rests.rests.keeps.pages tied).pages c.args.pair.lonely ∙ c.in_ok-_node.ensures.loaded.bytes tied) (g.P.Pages.store c.renew_two.new.pages).map (c.in_ok-renew_two.ensures.finishes one) (none two))
    (works_then (g.P.Pages.is_tied c.args.pages.now → HasNoNode (g.P.Pages.store c.args.pages.now).map c.args.pair.lonely c.args.layout) (g.P.Pages.is_tied c.args.pages.now → NonePairs form (g.P.Pages.store c.args.pages.now).map c.args.inner.number c.args.page.now.bytes c.args.inner.count c.args.pair.at c.args.pair.is_first c.args.pair.lonely c.args.pair.only c.args.pair.other c.args.near.now.bytes c.args.pair.size) (g.P.Pages.is_tied c.read_part.new.pages → NoneGaveWay form (g.P.Pages.store c.read_part.new.pages).map c.args.pair.lonely c.read_part.new.copy.bytes 2 0 2 (c.ordered-parts.result.first ∷ c.ordered-parts.result.second ∷ [])) c.in_ok-_node._node (Ok tt) (g.P.Pages.store c.args.pages.now) (g.P.Pages.store c.read_part.new.pages) (g.P.Pages.store c.renew_two.new.pages)
    (λ none tied. let one = g.met.P.Pages.keeps_tied c.args.pages.now c.read_part.new.pages c.in_ok-_node.ensures.rests.below tied in no_two form (g.P.Pages.store c.args.pages.now).map c.args.inner.number c.args.page.now.bytes c.args.inner.count c.args.pair.at c.args.pair.is_first c.args.pair.lonely c.args.pair.only c.args.pair.other c.args.near.now.bytes c.args.pair.size c.end-place.result c.child-given.result c.ordered-parts.result.first c.ordered-parts.result.second c.record_at.result.now c.requires.more c.end-place.ensures there c.child-given.ensures c.ordered-parts.ensures (g.P.Pages.store c.read_part.new.pages).map c.read_part.new.copy.bytes (c.in_ok-_node.ensures.rests.rests.keeps.pages tied) ((c.in_ok-_node.ensures.rests.rests.keeps.pages tied).pages c.args.pair.lonely ∙ c.in_ok-_node.ensures.loaded.bytes tied) (none one))
    c.in_ok-_node.ensures.works c.in_ok-renew_two.ensures.works) c.in_ok-_kept.ensures.works) c.in_err-renew_two-2.ensures.works)

pub returns-clause-pairs : goal.returns-clause-pairs
returns-clause-pairs g c = λ tied.
    let form : Form = form_in g.S.Summary c.args.layout in
    let there = entry_there c.args.pair.size c.entry_width.result (entry_bytes c.args.layout) c.content.result.now (content c.args.near.now.bytes) c.end-place.result c.record_at.result.now
    c.entry_width.ensures.width c.content.ensures.bytes (c.record_at.ensures.one c.args.pair.size (place_inside c.args.pair.is_first c.args.pair.size c.end-place.result c.requires.more c.end-place.ensures)) in
    let one = g.met.P.Pages.keeps_tied c.args.pages.now c.read_part.new.pages c.in_ok-_node.ensures.rests.below tied in let two = g.met.P.Pages.keeps_tied c.read_part.new.pages c.renew_two.new.pages c.in_ok-renew_two.ensures.keeps one in let three = g.met.P.Pages.keeps_tied c.renew_two.new.pages c.drop_entry.new.pages c.in_ok-_kept.ensures.keeps two in
    shares_all form (g.P.Pages.store c.args.pages.now).map c.args.inner.number c.args.page.now.bytes c.args.inner.count c.args.pair.at c.args.pair.is_first c.args.pair.lonely c.args.pair.only c.args.pair.other c.args.near.now.bytes c.args.pair.size c.end-place.result c.child-given.result c.ordered-parts.result.first c.ordered-parts.result.second c.record_at.result.now c.requires.more c.end-place.ensures there c.child-given.ensures c.ordered-parts.ensures (g.P.Pages.store c.read_part.new.pages).map c.read_part.new.copy.bytes (c.in_ok-_node.ensures.rests.rests.keeps.pages tied) ((c.in_ok-_node.ensures.rests.rests.keeps.pages tied).pages c.args.pair.lonely ∙ c.in_ok-_node.ensures.loaded.bytes tied) (g.P.Pages.store c.renew_two.new.pages).map (c.in_ok-renew_two.ensures.finishes one) (g.P.Pages.store c.drop_entry.new.pages).map (subst (Finishes form (g.P.Pages.store c.renew_two.new.pages).map (g.P.Pages.store c.drop_entry.new.pages).map c.args.pair.other c.args.near.now.bytes c.args.pair.size c.end-place.result 1 []) (c.in_ok-_kept.ensures.kept (omega arith)) (c.in_ok-_kept.ensures.finishes two)) c.ordered-both.result.first c.ordered-both.result.second c.ordered-both.ensures (g.P.Pages.store c.renew_two-2.new.pages).map (c.in_ok-renew_two-2.ensures.finishes three)
