-- What was read is a leaf or an inner page; of that one part is gone into, and what it leaves is written.
use Rattle.std.proofs.Common.{◌≡◌, ◌-◌, ℕ, Err, Some, [], ◌∷◌, ap, ◌∙◌, subst}
use Rattle.std.proofs.lemmas.Result.{err_from_is_err_and}
use Rattle.rs_records.specs.Order.{Ascends}
use Rattle.rs_records.specs.Records.{records, keys}
use Rattle.rs_tree.specs.Content.{content}
use Rattle.rs_tree.specs.Form.{Form, joined, least_from}
use Rattle.rs_tree.specs.Layouts.{entry_bytes}
use Rattle.rs_tree.specs.Node.{IsNode}
use Rattle.rs_tree.specs.declared.node.Node.TheVariants.{Inner}
use Rattle.rs_tree.specs.Reading.{HasNoNode}
use Rattle.rs_tree.proofs.Entering.{entry_there}
use Rattle.rs_tree.specs.Forms.{form_in}
use Rattle.rs_tree_edit.specs.Choosing.{IsEntryFor}
use Rattle.rs_page_owners.proofs.Working.{works_err, works_then}
use Rattle.rs_tree_remove.specs.Finishing.{NoneGaveWay}
use Rattle.rs_tree_remove.specs.Leaving.{RemovesPart, HasNoOwnPart}
use Rattle.rs_tree_remove.specs.Mending.{NoneLonely}
use Rattle.rs_tree_remove.proofs.Joining.{if_ok}
use Rattle.rs_tree_remove.proofs.Lonely.{damaged_after}
use Rattle.rs_tree_remove.proofs.Passing.{removes_before, none_before, no_node-none, no_level-none}
use Rattle.rs_tree_remove.proofs.Under.{under_missing, under_kept, kept_none, under_gone, gone_none, under_single, single_none, below_none}
use Rattle.rs_tree_remove.proofs.path.+removing.Goals as goal

pub remove_below-returns-in_err-node-clause-works : goal.remove_below-returns-in_err-node-clause-works
remove_below-returns-in_err-node-clause-works g t c =
    let form : Form = form_in g.S.Summary c.args.layout in
    let p = err_from_is_err_and c.from_residual.result c.from_residual.ensures.1 in
    works_err (g.P.Pages.is_tied c.args.pages.now → HasNoNode (g.P.Pages.store c.args.pages.now).map c.args.number c.args.layout) (g.P.Pages.is_tied c.args.pages.now → HasNoOwnPart form (g.P.Pages.store c.args.pages.now).map c.args.number c.args.levels) c.from_residual.result c.in_err-node.field-0.0 (g.P.Pages.store c.args.pages.now) (g.P.Pages.store c.read_part.new.pages)
    (λ none tied. no_node-none (λ bytes cells. g.S.Summary.says bytes (joined g.S.Summary.unit g.S.Summary.join g.S.Summary.of cells)) c.args.layout (g.P.Pages.store c.args.pages.now).map c.args.number c.args.levels (none tied))
    (p.1 ∙ ap Err p.2) c.in_err-node.ensures.works

pub remove_below-returns-then-levels-eq0-clause-works : goal.remove_below-returns-then-levels-eq0-clause-works
remove_below-returns-then-levels-eq0-clause-works g t c =
    let form : Form = form_in g.S.Summary c.args.layout in
    let node : IsNode c.read_part.new.copy.bytes c.args.number c.args.layout (Inner c.in-Inner.count) =
    subst (IsNode c.read_part.new.copy.bytes c.args.number c.args.layout) c.in-Inner.is c.in_ok-node.ensures.loaded.node in
    damaged_after (g.P.Pages.is_tied c.args.pages.now → HasNoNode (g.P.Pages.store c.args.pages.now).map c.args.number c.args.layout) (g.P.Pages.is_tied c.args.pages.now → HasNoOwnPart form (g.P.Pages.store c.args.pages.now).map c.args.number c.args.levels) c.in_ok-node.node (g.P.Pages.store c.args.pages.now) (g.P.Pages.store c.read_part.new.pages)
    (λ tied. no_level-none (λ bytes cells. g.S.Summary.says bytes (joined g.S.Summary.unit g.S.Summary.join g.S.Summary.of cells)) c.args.layout (g.P.Pages.store c.args.pages.now).map c.args.number c.args.levels c.read_part.new.copy.bytes c.in-Inner.count c.if-levels-eq0.true (c.in_ok-node.ensures.loaded.bytes tied) node)
    c.in_ok-node.ensures.works

pub remove_below-returns-in-Leaf-clause-works : goal.remove_below-returns-in-Leaf-clause-works
remove_below-returns-in-Leaf-clause-works g t c =
    let form : Form = form_in g.S.Summary c.args.layout in
    works_then (g.P.Pages.is_tied c.args.pages.now → HasNoNode (g.P.Pages.store c.args.pages.now).map c.args.number c.args.layout) (g.P.Pages.is_tied c.args.pages.now → HasNoOwnPart form (g.P.Pages.store c.args.pages.now).map c.args.number c.args.levels) (g.P.Pages.is_tied c.read_part.new.pages → (g.P.Pages.store c.read_part.new.pages).map.page c.args.number ≡ Some c.read_part.new.copy.bytes → (levels : ℕ) → HasNoOwnPart form (g.P.Pages.store c.read_part.new.pages).map c.args.number levels)
    c.in_ok-node.node c.remove_from_leaf.result (g.P.Pages.store c.args.pages.now) (g.P.Pages.store c.read_part.new.pages) (g.P.Pages.store c.remove_from_leaf.new.pages)
    (λ none tied. let later = g.met.P.Pages.keeps_tied c.args.pages.now c.read_part.new.pages c.in_ok-node.ensures.rests.below tied in
    none_before form (g.P.Pages.store c.args.pages.now).map (g.P.Pages.store c.read_part.new.pages).map (g.P.Pages.store c.read_part.new.pages).map c.args.number (c.in_ok-node.ensures.rests.rests.keeps.pages tied) c.args.levels (none later ((c.in_ok-node.ensures.rests.rests.keeps.pages tied).pages c.args.number ∙ c.in_ok-node.ensures.loaded.bytes tied) c.args.levels))
    c.in_ok-node.ensures.works c.remove_from_leaf.ensures.works

pub remove_below-returns-in-Leaf-clause-removed : goal.remove_below-returns-in-Leaf-clause-removed
remove_below-returns-in-Leaf-clause-removed g t c = λ tied.
    let form : Form = form_in g.S.Summary c.args.layout in
    let later = g.met.P.Pages.keeps_tied c.args.pages.now c.read_part.new.pages c.in_ok-node.ensures.rests.below tied in
    if_ok {P = RemovesPart form (g.P.Pages.store c.read_part.new.pages).map (g.P.Pages.store c.remove_from_leaf.new.pages).map c.args.number c.args.cell.now} {Q = RemovesPart form (g.P.Pages.store c.args.pages.now).map (g.P.Pages.store c.remove_from_leaf.new.pages).map c.args.number c.args.cell.now} c.remove_from_leaf.result (c.remove_from_leaf.ensures.removed later ((c.in_ok-node.ensures.rests.rests.keeps.pages tied).pages c.args.number ∙ c.in_ok-node.ensures.loaded.bytes tied))
    (λ answer removes. removes_before form (g.P.Pages.store c.args.pages.now).map (g.P.Pages.store c.read_part.new.pages).map (g.P.Pages.store c.remove_from_leaf.new.pages).map c.args.number (c.in_ok-node.ensures.rests.rests.keeps.pages tied) c.args.cell.now answer removes)

pub remove_below-returns-else-levels-eq0-clause-works : goal.remove_below-returns-else-levels-eq0-clause-works
remove_below-returns-else-levels-eq0-clause-works g t c =
    let form : Form = form_in g.S.Summary c.args.layout in
    works_then (g.P.Pages.is_tied c.args.pages.now → HasNoNode (g.P.Pages.store c.args.pages.now).map c.args.number c.args.layout) (g.P.Pages.is_tied c.args.pages.now → HasNoOwnPart form (g.P.Pages.store c.args.pages.now).map c.args.number c.args.levels) (g.P.Pages.is_tied c.read_part.new.pages → (g.P.Pages.store c.read_part.new.pages).map.page c.args.number ≡ Some c.read_part.new.copy.bytes → HasNoOwnPart form (g.P.Pages.store c.read_part.new.pages).map c.args.number c.args.levels)
    c.in_ok-node.node c.remove_under.result (g.P.Pages.store c.args.pages.now) (g.P.Pages.store c.read_part.new.pages) (g.P.Pages.store c.remove_under.new.pages)
    (λ none tied. let later = g.met.P.Pages.keeps_tied c.args.pages.now c.read_part.new.pages c.in_ok-node.ensures.rests.below tied in
    none_before form (g.P.Pages.store c.args.pages.now).map (g.P.Pages.store c.read_part.new.pages).map (g.P.Pages.store c.read_part.new.pages).map c.args.number (c.in_ok-node.ensures.rests.rests.keeps.pages tied) c.args.levels (none later ((c.in_ok-node.ensures.rests.rests.keeps.pages tied).pages c.args.number ∙ c.in_ok-node.ensures.loaded.bytes tied)))
    c.in_ok-node.ensures.works c.remove_under.ensures.works

pub remove_below-returns-else-levels-eq0-clause-removed : goal.remove_below-returns-else-levels-eq0-clause-removed
remove_below-returns-else-levels-eq0-clause-removed g t c = λ tied.
    let form : Form = form_in g.S.Summary c.args.layout in
    let later = g.met.P.Pages.keeps_tied c.args.pages.now c.read_part.new.pages c.in_ok-node.ensures.rests.below tied in
    if_ok {P = RemovesPart form (g.P.Pages.store c.read_part.new.pages).map (g.P.Pages.store c.remove_under.new.pages).map c.args.number c.args.cell.now} {Q = RemovesPart form (g.P.Pages.store c.args.pages.now).map (g.P.Pages.store c.remove_under.new.pages).map c.args.number c.args.cell.now} c.remove_under.result (c.remove_under.ensures.removed later ((c.in_ok-node.ensures.rests.rests.keeps.pages tied).pages c.args.number ∙ c.in_ok-node.ensures.loaded.bytes tied))
    (λ answer removes. removes_before form (g.P.Pages.store c.args.pages.now).map (g.P.Pages.store c.read_part.new.pages).map (g.P.Pages.store c.remove_under.new.pages).map c.args.number (c.in_ok-node.ensures.rests.rests.keeps.pages tied) c.args.cell.now answer removes)

pub remove_under-returns-in_err-remove_below-clause-works : goal.remove_under-returns-in_err-remove_below-clause-works
remove_under-returns-in_err-remove_below-clause-works g t c =
    let form : Form = form_in g.S.Summary c.args.layout in
    let there = entry_there c.args.inner.count c.entry_width.result (entry_bytes c.args.layout) c.content-bytes.result.now (content c.args.page.now.bytes) c.entry_for-at.result c.record_at.result.now
    c.entry_width.ensures.width c.content-bytes.ensures.bytes (c.record_at.ensures.one c.args.inner.count c.entry_for-at.ensures.within) in
    let chosen = subst (λ b. Ascends (keys (least_from c.args.layout.summary) (records c.args.inner.count (entry_bytes c.args.layout) b)) → IsEntryFor (keys (least_from c.args.layout.summary) (records c.args.inner.count (entry_bytes c.args.layout) b)) c.args.cell.now c.entry_for-at.result)
    c.content-bytes.ensures.bytes c.entry_for-at.ensures.chosen in
    let p = err_from_is_err_and c.from_residual.result c.from_residual.ensures.1 in
    works_err (g.P.Pages.is_tied c.args.pages.now → HasNoOwnPart form (g.P.Pages.store c.args.pages.now).map c.child-below.result (c.args.levels - 1)) (g.P.Pages.is_tied c.args.pages.now → (g.P.Pages.store c.args.pages.now).map.page c.args.inner.number ≡ Some c.args.page.now.bytes → HasNoOwnPart form (g.P.Pages.store c.args.pages.now).map c.args.inner.number c.args.levels) c.from_residual.result c.in_err-remove_below.field-0.0 (g.P.Pages.store c.args.pages.now) (g.P.Pages.store c.remove_below.new.pages)
    (λ none tied lent. below_none (λ bytes cells. g.S.Summary.says bytes (joined g.S.Summary.unit g.S.Summary.join g.S.Summary.of cells)) c.args.layout (g.P.Pages.store c.args.pages.now).map c.args.inner.number c.args.page.now.bytes c.args.inner.count c.entry_for-at.result c.child-below.result c.args.cell.now c.record_at.result.now c.requires.node lent chosen there c.child-below.ensures c.args.levels c.requires.levels (none tied))
    (p.1 ∙ ap Err p.2) c.in_err-remove_below.ensures.works

pub remove_under-returns-in-Missing-clause-removed : goal.remove_under-returns-in-Missing-clause-removed
remove_under-returns-in-Missing-clause-removed g t c = λ tied lent.
    let form : Form = form_in g.S.Summary c.args.layout in
    let there = entry_there c.args.inner.count c.entry_width.result (entry_bytes c.args.layout) c.content-bytes.result.now (content c.args.page.now.bytes) c.entry_for-at.result c.record_at.result.now
    c.entry_width.ensures.width c.content-bytes.ensures.bytes (c.record_at.ensures.one c.args.inner.count c.entry_for-at.ensures.within) in
    let chosen = subst (λ b. Ascends (keys (least_from c.args.layout.summary) (records c.args.inner.count (entry_bytes c.args.layout) b)) → IsEntryFor (keys (least_from c.args.layout.summary) (records c.args.inner.count (entry_bytes c.args.layout) b)) c.args.cell.now c.entry_for-at.result)
    c.content-bytes.ensures.bytes c.entry_for-at.ensures.chosen in
    under_missing (λ bytes cells. g.S.Summary.says bytes (joined g.S.Summary.unit g.S.Summary.join g.S.Summary.of cells)) c.args.layout (g.P.Pages.store c.args.pages.now).map c.args.inner.number c.args.page.now.bytes c.args.inner.count c.entry_for-at.result c.child-below.result c.args.cell.now c.record_at.result.now c.requires.node lent chosen there c.child-below.ensures (g.P.Pages.store c.remove_below.new.pages).map (subst (RemovesPart form (g.P.Pages.store c.args.pages.now).map (g.P.Pages.store c.remove_below.new.pages).map c.child-below.result c.args.cell.now) c.in-Missing.is (c.in_ok-remove_below.ensures.removed tied))

pub remove_under-returns-in-Kept-clause-works : goal.remove_under-returns-in-Kept-clause-works
remove_under-returns-in-Kept-clause-works g t c =
    let form : Form = form_in g.S.Summary c.args.layout in
    let there = entry_there c.args.inner.count c.entry_width.result (entry_bytes c.args.layout) c.content-bytes.result.now (content c.args.page.now.bytes) c.entry_for-at.result c.record_at.result.now
    c.entry_width.ensures.width c.content-bytes.ensures.bytes (c.record_at.ensures.one c.args.inner.count c.entry_for-at.ensures.within) in
    let chosen = subst (λ b. Ascends (keys (least_from c.args.layout.summary) (records c.args.inner.count (entry_bytes c.args.layout) b)) → IsEntryFor (keys (least_from c.args.layout.summary) (records c.args.inner.count (entry_bytes c.args.layout) b)) c.args.cell.now c.entry_for-at.result)
    c.content-bytes.ensures.bytes c.entry_for-at.ensures.chosen in
    works_then (g.P.Pages.is_tied c.args.pages.now → HasNoOwnPart form (g.P.Pages.store c.args.pages.now).map c.child-below.result (c.args.levels - 1)) (g.P.Pages.is_tied c.args.pages.now → (g.P.Pages.store c.args.pages.now).map.page c.args.inner.number ≡ Some c.args.page.now.bytes → HasNoOwnPart form (g.P.Pages.store c.args.pages.now).map c.args.inner.number c.args.levels) (g.P.Pages.is_tied c.remove_below.new.pages → NoneGaveWay form (g.P.Pages.store c.remove_below.new.pages).map c.args.inner.number c.args.page.now.bytes c.args.inner.count c.entry_for-at.result 1 (c.child-below.result ∷ [])) c.in_ok-remove_below.field-0 c.renew_entry.result (g.P.Pages.store c.args.pages.now) (g.P.Pages.store c.remove_below.new.pages) (g.P.Pages.store c.renew_entry.new.pages)
    (λ none tied lent. let later = g.met.P.Pages.keeps_tied c.args.pages.now c.remove_below.new.pages c.in_ok-remove_below.ensures.keeps tied in
    kept_none (λ bytes cells. g.S.Summary.says bytes (joined g.S.Summary.unit g.S.Summary.join g.S.Summary.of cells)) c.args.layout (g.P.Pages.store c.args.pages.now).map c.args.inner.number c.args.page.now.bytes c.args.inner.count c.entry_for-at.result c.child-below.result c.args.cell.now c.record_at.result.now c.requires.node lent chosen there c.child-below.ensures (g.P.Pages.store c.remove_below.new.pages).map c.args.levels (subst (RemovesPart form (g.P.Pages.store c.args.pages.now).map (g.P.Pages.store c.remove_below.new.pages).map c.child-below.result c.args.cell.now) c.in-Kept.is (c.in_ok-remove_below.ensures.removed tied)) (none later))
    c.in_ok-remove_below.ensures.works c.renew_entry.ensures.works

pub remove_under-returns-in-Kept-clause-removed : goal.remove_under-returns-in-Kept-clause-removed
remove_under-returns-in-Kept-clause-removed g t c = λ tied lent.
    let form : Form = form_in g.S.Summary c.args.layout in
    let there = entry_there c.args.inner.count c.entry_width.result (entry_bytes c.args.layout) c.content-bytes.result.now (content c.args.page.now.bytes) c.entry_for-at.result c.record_at.result.now
    c.entry_width.ensures.width c.content-bytes.ensures.bytes (c.record_at.ensures.one c.args.inner.count c.entry_for-at.ensures.within) in
    let chosen = subst (λ b. Ascends (keys (least_from c.args.layout.summary) (records c.args.inner.count (entry_bytes c.args.layout) b)) → IsEntryFor (keys (least_from c.args.layout.summary) (records c.args.inner.count (entry_bytes c.args.layout) b)) c.args.cell.now c.entry_for-at.result)
    c.content-bytes.ensures.bytes c.entry_for-at.ensures.chosen in
    let later = g.met.P.Pages.keeps_tied c.args.pages.now c.remove_below.new.pages c.in_ok-remove_below.ensures.keeps tied in
    if_ok {Q = RemovesPart form (g.P.Pages.store c.args.pages.now).map (g.P.Pages.store c.renew_entry.new.pages).map c.args.inner.number c.args.cell.now} c.renew_entry.result (c.renew_entry.ensures.finishes later) (λ answer done.
    under_kept (λ bytes cells. g.S.Summary.says bytes (joined g.S.Summary.unit g.S.Summary.join g.S.Summary.of cells)) c.args.layout (g.P.Pages.store c.args.pages.now).map c.args.inner.number c.args.page.now.bytes c.args.inner.count c.entry_for-at.result c.child-below.result c.args.cell.now c.record_at.result.now c.requires.node lent chosen there c.child-below.ensures (g.P.Pages.store c.remove_below.new.pages).map (g.P.Pages.store c.renew_entry.new.pages).map answer (subst (RemovesPart form (g.P.Pages.store c.args.pages.now).map (g.P.Pages.store c.remove_below.new.pages).map c.child-below.result c.args.cell.now) c.in-Kept.is (c.in_ok-remove_below.ensures.removed tied)) done)

pub remove_under-returns-in-Gone-clause-works : goal.remove_under-returns-in-Gone-clause-works
remove_under-returns-in-Gone-clause-works g t c =
    let form : Form = form_in g.S.Summary c.args.layout in
    let there = entry_there c.args.inner.count c.entry_width.result (entry_bytes c.args.layout) c.content-bytes.result.now (content c.args.page.now.bytes) c.entry_for-at.result c.record_at.result.now
    c.entry_width.ensures.width c.content-bytes.ensures.bytes (c.record_at.ensures.one c.args.inner.count c.entry_for-at.ensures.within) in
    let chosen = subst (λ b. Ascends (keys (least_from c.args.layout.summary) (records c.args.inner.count (entry_bytes c.args.layout) b)) → IsEntryFor (keys (least_from c.args.layout.summary) (records c.args.inner.count (entry_bytes c.args.layout) b)) c.args.cell.now c.entry_for-at.result)
    c.content-bytes.ensures.bytes c.entry_for-at.ensures.chosen in
    works_then (g.P.Pages.is_tied c.args.pages.now → HasNoOwnPart form (g.P.Pages.store c.args.pages.now).map c.child-below.result (c.args.levels - 1)) (g.P.Pages.is_tied c.args.pages.now → (g.P.Pages.store c.args.pages.now).map.page c.args.inner.number ≡ Some c.args.page.now.bytes → HasNoOwnPart form (g.P.Pages.store c.args.pages.now).map c.args.inner.number c.args.levels) (g.P.Pages.is_tied c.remove_below.new.pages → NoneGaveWay form (g.P.Pages.store c.remove_below.new.pages).map c.args.inner.number c.args.page.now.bytes c.args.inner.count c.entry_for-at.result 1 []) c.in_ok-remove_below.field-0 c.drop_entry.result (g.P.Pages.store c.args.pages.now) (g.P.Pages.store c.remove_below.new.pages) (g.P.Pages.store c.drop_entry.new.pages)
    (λ none tied lent. let later = g.met.P.Pages.keeps_tied c.args.pages.now c.remove_below.new.pages c.in_ok-remove_below.ensures.keeps tied in
    gone_none (λ bytes cells. g.S.Summary.says bytes (joined g.S.Summary.unit g.S.Summary.join g.S.Summary.of cells)) c.args.layout (g.P.Pages.store c.args.pages.now).map c.args.inner.number c.args.page.now.bytes c.args.inner.count c.entry_for-at.result c.child-below.result c.args.cell.now c.record_at.result.now c.requires.node lent chosen there c.child-below.ensures (g.P.Pages.store c.remove_below.new.pages).map c.args.levels (subst (RemovesPart form (g.P.Pages.store c.args.pages.now).map (g.P.Pages.store c.remove_below.new.pages).map c.child-below.result c.args.cell.now) c.in-Gone.is (c.in_ok-remove_below.ensures.removed tied)) (none later))
    c.in_ok-remove_below.ensures.works c.drop_entry.ensures.works

pub remove_under-returns-in-Gone-clause-removed : goal.remove_under-returns-in-Gone-clause-removed
remove_under-returns-in-Gone-clause-removed g t c = λ tied lent.
    let form : Form = form_in g.S.Summary c.args.layout in
    let there = entry_there c.args.inner.count c.entry_width.result (entry_bytes c.args.layout) c.content-bytes.result.now (content c.args.page.now.bytes) c.entry_for-at.result c.record_at.result.now
    c.entry_width.ensures.width c.content-bytes.ensures.bytes (c.record_at.ensures.one c.args.inner.count c.entry_for-at.ensures.within) in
    let chosen = subst (λ b. Ascends (keys (least_from c.args.layout.summary) (records c.args.inner.count (entry_bytes c.args.layout) b)) → IsEntryFor (keys (least_from c.args.layout.summary) (records c.args.inner.count (entry_bytes c.args.layout) b)) c.args.cell.now c.entry_for-at.result)
    c.content-bytes.ensures.bytes c.entry_for-at.ensures.chosen in
    let later = g.met.P.Pages.keeps_tied c.args.pages.now c.remove_below.new.pages c.in_ok-remove_below.ensures.keeps tied in
    if_ok {Q = RemovesPart form (g.P.Pages.store c.args.pages.now).map (g.P.Pages.store c.drop_entry.new.pages).map c.args.inner.number c.args.cell.now} c.drop_entry.result (c.drop_entry.ensures.finishes later) (λ answer done.
    under_gone (λ bytes cells. g.S.Summary.says bytes (joined g.S.Summary.unit g.S.Summary.join g.S.Summary.of cells)) c.args.layout (g.P.Pages.store c.args.pages.now).map c.args.inner.number c.args.page.now.bytes c.args.inner.count c.entry_for-at.result c.child-below.result c.args.cell.now c.record_at.result.now c.requires.node lent chosen there c.child-below.ensures (g.P.Pages.store c.remove_below.new.pages).map (g.P.Pages.store c.drop_entry.new.pages).map answer (subst (RemovesPart form (g.P.Pages.store c.args.pages.now).map (g.P.Pages.store c.remove_below.new.pages).map c.child-below.result c.args.cell.now) c.in-Gone.is (c.in_ok-remove_below.ensures.removed tied)) done)

pub remove_under-returns-in-Single-clause-works : goal.remove_under-returns-in-Single-clause-works
remove_under-returns-in-Single-clause-works g t c =
    let form : Form = form_in g.S.Summary c.args.layout in
    let there = entry_there c.args.inner.count c.entry_width.result (entry_bytes c.args.layout) c.content-bytes.result.now (content c.args.page.now.bytes) c.entry_for-at.result c.record_at.result.now
    c.entry_width.ensures.width c.content-bytes.ensures.bytes (c.record_at.ensures.one c.args.inner.count c.entry_for-at.ensures.within) in
    let chosen = subst (λ b. Ascends (keys (least_from c.args.layout.summary) (records c.args.inner.count (entry_bytes c.args.layout) b)) → IsEntryFor (keys (least_from c.args.layout.summary) (records c.args.inner.count (entry_bytes c.args.layout) b)) c.args.cell.now c.entry_for-at.result)
    c.content-bytes.ensures.bytes c.entry_for-at.ensures.chosen in
    works_then (g.P.Pages.is_tied c.args.pages.now → HasNoOwnPart form (g.P.Pages.store c.args.pages.now).map c.child-below.result (c.args.levels - 1)) (g.P.Pages.is_tied c.args.pages.now → (g.P.Pages.store c.args.pages.now).map.page c.args.inner.number ≡ Some c.args.page.now.bytes → HasNoOwnPart form (g.P.Pages.store c.args.pages.now).map c.args.inner.number c.args.levels) (g.P.Pages.is_tied c.remove_below.new.pages → NoneLonely form (g.P.Pages.store c.remove_below.new.pages).map c.args.inner.number c.args.page.now.bytes c.entry_for-at.result c.child-below.result c.in-Single.only) c.in_ok-remove_below.field-0 c.mend.result (g.P.Pages.store c.args.pages.now) (g.P.Pages.store c.remove_below.new.pages) (g.P.Pages.store c.mend.new.pages)
    (λ none tied lent. let later = g.met.P.Pages.keeps_tied c.args.pages.now c.remove_below.new.pages c.in_ok-remove_below.ensures.keeps tied in
    single_none (λ bytes cells. g.S.Summary.says bytes (joined g.S.Summary.unit g.S.Summary.join g.S.Summary.of cells)) c.args.layout (g.P.Pages.store c.args.pages.now).map c.args.inner.number c.args.page.now.bytes c.args.inner.count c.entry_for-at.result c.child-below.result c.args.cell.now c.record_at.result.now c.requires.node lent chosen there c.child-below.ensures (g.P.Pages.store c.remove_below.new.pages).map c.in-Single.only c.args.levels (subst (RemovesPart form (g.P.Pages.store c.args.pages.now).map (g.P.Pages.store c.remove_below.new.pages).map c.child-below.result c.args.cell.now) c.in-Single.is (c.in_ok-remove_below.ensures.removed tied)) (none later))
    c.in_ok-remove_below.ensures.works c.mend.ensures.works

pub remove_under-returns-in-Single-clause-removed : goal.remove_under-returns-in-Single-clause-removed
remove_under-returns-in-Single-clause-removed g t c = λ tied lent.
    let form : Form = form_in g.S.Summary c.args.layout in
    let there = entry_there c.args.inner.count c.entry_width.result (entry_bytes c.args.layout) c.content-bytes.result.now (content c.args.page.now.bytes) c.entry_for-at.result c.record_at.result.now
    c.entry_width.ensures.width c.content-bytes.ensures.bytes (c.record_at.ensures.one c.args.inner.count c.entry_for-at.ensures.within) in
    let chosen = subst (λ b. Ascends (keys (least_from c.args.layout.summary) (records c.args.inner.count (entry_bytes c.args.layout) b)) → IsEntryFor (keys (least_from c.args.layout.summary) (records c.args.inner.count (entry_bytes c.args.layout) b)) c.args.cell.now c.entry_for-at.result)
    c.content-bytes.ensures.bytes c.entry_for-at.ensures.chosen in
    let later = g.met.P.Pages.keeps_tied c.args.pages.now c.remove_below.new.pages c.in_ok-remove_below.ensures.keeps tied in
    if_ok {Q = RemovesPart form (g.P.Pages.store c.args.pages.now).map (g.P.Pages.store c.mend.new.pages).map c.args.inner.number c.args.cell.now} c.mend.result (c.mend.ensures.mends later) (λ answer done.
    under_single (λ bytes cells. g.S.Summary.says bytes (joined g.S.Summary.unit g.S.Summary.join g.S.Summary.of cells)) c.args.layout (g.P.Pages.store c.args.pages.now).map c.args.inner.number c.args.page.now.bytes c.args.inner.count c.entry_for-at.result c.child-below.result c.args.cell.now c.record_at.result.now c.requires.node lent chosen there c.child-below.ensures (g.P.Pages.store c.remove_below.new.pages).map c.in-Single.only (g.P.Pages.store c.mend.new.pages).map answer (subst (RemovesPart form (g.P.Pages.store c.args.pages.now).map (g.P.Pages.store c.remove_below.new.pages).map c.child-below.result c.args.cell.now) c.in-Single.is (c.in_ok-remove_below.ensures.removed tied)) done)
