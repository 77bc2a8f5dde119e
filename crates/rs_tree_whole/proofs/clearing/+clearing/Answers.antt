-- What was read is a leaf or an inner page; of that each entry is gone through, and the part that it says is freed.
use Rattle.std.proofs.Common.{◌≡◌, ◌≤◌, ◌*◌, ◌+◌, ◌-◌, suc, subst, arith, rules}
use Rattle.std.proofs.lemmas.Result.{err_from_is_err_and}
use Rattle.rs_page.specs.declared.header.PageKind.TheVariants as kind
use Rattle.rs_tree.specs.Form.{Form, joined}
use Rattle.rs_tree.specs.Content.{content}
use Rattle.rs_tree.specs.Layouts.{entry_bytes}
use Rattle.rs_tree.specs.Node.{IsNode}
use Rattle.rs_tree.specs.declared.node.Node.TheVariants.{Leaf, Inner}
use Rattle.rs_tree.proofs.Loading.{on_ok}
use Rattle.rs_tree.proofs.Entering.{records_fit, entry_there}
use Rattle.rs_tree.specs.Forms.{form_in}
use Rattle.rs_tree_whole.specs.Clearing.{ClearsPart, HasNoOwnPart, HasNoOwnParts}
use Rattle.rs_tree_whole.proofs.Freeing.{ClearsSome, ClearsBelow, clears_next, clears_all, no_part-no_parts, clears_leaf, clears_inner, no_parts-no_part, clears_top, not_released-no_part, no_node-no_part, no_level-no_part}
use Rattle.rs_page_owners.proofs.Working.{Works-trans, Rests-works, CountsNothing-trans, NotReleased, released-works}
use Rattle.rs_page_owners.proofs.Following.{works_then, works_err, reads_err, damaged_err}
use Rattle.rs_tree_whole.proofs.clearing.+clearing.Goals as goal

pub clear_entries-returns-in_err-clear_part-clause-works : goal.clear_entries-returns-in_err-clear_part-clause-works
clear_entries-returns-in_err-clear_part-clause-works g t c =
    let form : Form = form_in g.S.Summary c.args.layout in
    let p = err_from_is_err_and c.from_residual.result c.from_residual.ensures.1 in
    let there = entry_there c.args.count c.entry_width.result (entry_bytes c.args.layout) c.content-bytes.result.now (content c.args.page.now.bytes) c.loop-index.index c.record_at-entry.result.now
    c.entry_width.ensures.width c.content-bytes.ensures.bytes (c.record_at-entry.ensures.one c.args.count (omega arith)) in
    rw (p.1, p.2) (works_err
    (g.P.Pages.is_tied c.args.pages.now → HasNoOwnParts form (g.P.Pages.store c.args.pages.now).map c.args.page.now.bytes c.args.count c.args.levels c.args.left.now) (g.P.Pages.is_tied c.loop-index.pages → HasNoOwnPart form (g.P.Pages.store c.loop-index.pages).map c.child.result (c.args.levels - 1) c.loop-index.left) c.in_err-clear_part.field-0.0
    (g.P.Pages.store c.args.pages.now) (g.P.Pages.store c.loop-index.pages) (g.P.Pages.store c.clear_part.new.pages)
    c.loop-index.invariant.works c.loop-index.invariant.nothing
    (λ none tied.
    let later = g.met.P.Pages.keeps_tied c.args.pages.now c.loop-index.pages c.loop-index.invariant.keeps tied in
    no_part-no_parts form (g.P.Pages.store c.args.pages.now).map c.args.page.now.bytes c.args.count (g.P.Pages.store c.loop-index.pages).map c.args.levels c.loop-index.index c.record_at-entry.result.now
    c.args.left.now c.loop-index.left there (c.loop-index.invariant.clears tied) c.requires.levels
    (subst (λ n. HasNoOwnPart form (g.P.Pages.store c.loop-index.pages).map n (c.args.levels - 1) c.loop-index.left) c.child.ensures (none later)))
    c.in_err-clear_part.ensures.works)

pub clear_entries-loop-index-preserved : goal.clear_entries-loop-index-preserved
clear_entries-loop-index-preserved g t c =
    let form : Form = form_in g.S.Summary c.args.layout in
    let there = entry_there c.args.count c.entry_width.result (entry_bytes c.args.layout) c.content-bytes.result.now (content c.args.page.now.bytes) c.loop-index.index c.record_at-entry.result.now
    c.entry_width.ensures.width c.content-bytes.ensures.bytes (c.record_at-entry.ensures.one c.args.count (omega arith)) in
    let more : suc c.loop-index.index ≡ c.loop-index.index + 1 = omega arith in
    record {
      keeps = g.met.P.Pages.keeps_trans c.args.pages.now c.loop-index.pages c.clear_part.new.pages c.loop-index.invariant.keeps c.in_ok-clear_part.ensures.keeps;
      works = Works-trans (g.P.Pages.store c.args.pages.now) (g.P.Pages.store c.loop-index.pages) (g.P.Pages.store c.clear_part.new.pages) c.loop-index.invariant.works c.in_ok-clear_part.ensures.works.works;
      nothing = CountsNothing-trans (g.P.Pages.store c.args.pages.now) (g.P.Pages.store c.loop-index.pages) (g.P.Pages.store c.clear_part.new.pages) c.loop-index.invariant.nothing c.in_ok-clear_part.ensures.works.ends;
      clears = λ tied.
          let later = g.met.P.Pages.keeps_tied c.args.pages.now c.loop-index.pages c.loop-index.invariant.keeps tied in
          subst (λ i. ClearsSome form (g.P.Pages.store c.args.pages.now).map c.args.page.now.bytes c.args.count (g.P.Pages.store c.clear_part.new.pages).map i c.args.left.now c.clear_part.new.left) more
          (clears_next form (g.P.Pages.store c.args.pages.now).map c.args.page.now.bytes c.args.count (g.P.Pages.store c.loop-index.pages).map (g.P.Pages.store c.clear_part.new.pages).map
          c.loop-index.index c.record_at-entry.result.now c.args.left.now c.loop-index.left c.clear_part.new.left there (c.loop-index.invariant.clears tied)
          (subst (λ n. ClearsPart form (g.P.Pages.store c.loop-index.pages).map (g.P.Pages.store c.clear_part.new.pages).map n c.loop-index.left c.clear_part.new.left) c.child.ensures
          (c.in_ok-clear_part.ensures.clears later)));
    }

pub clear_entries-returns-clause-clears : goal.clear_entries-returns-clause-clears
clear_entries-returns-clause-clears g t c = λ tied.
    let form : Form = form_in g.S.Summary c.args.layout in
    let all : c.loop-index.index ≡ c.args.count = omega arith in
    clears_all form (g.P.Pages.store c.args.pages.now).map c.args.page.now.bytes c.args.count (g.P.Pages.store c.loop-index.pages).map c.args.left.now c.loop-index.left
    (subst (λ i. ClearsSome form (g.P.Pages.store c.args.pages.now).map c.args.page.now.bytes c.args.count (g.P.Pages.store c.loop-index.pages).map i c.args.left.now c.loop-index.left) all
    (c.loop-index.invariant.clears tied))

pub clear_part-returns-in_err-node-clause-works : goal.clear_part-returns-in_err-node-clause-works
clear_part-returns-in_err-node-clause-works g t c =
    let p = err_from_is_err_and c.from_residual.result c.from_residual.ensures.1 in
    rw (p.1, p.2) (reads_err (g.P.Pages.is_tied c.args.pages.now) (g.P.Pages.is_tied c.args.pages.now → _) c.in_err-node.field-0.0 (g.P.Pages.store c.args.pages.now) (g.P.Pages.store c.load.new.pages)
    c.in_err-node.ensures.rests.rests c.in_err-node.ensures.rests.count c.in_err-node.ensures.refused.cause
    (λ why tied. no_node-no_part (λ bytes cells. g.S.Summary.says bytes (joined g.S.Summary.unit g.S.Summary.join g.S.Summary.of cells)) c.args.layout
    (g.P.Pages.store c.args.pages.now).map c.args.number c.args.levels c.args.left.now (λ some. c.in_err-node.ensures.refused.damaged tied why some)))

pub clear_part-returns-then-levels-eq0-clause-works : goal.clear_part-returns-then-levels-eq0-clause-works
clear_part-returns-then-levels-eq0-clause-works g t c =
    let node : IsNode c.load.new.copy.bytes c.args.number c.args.layout (Inner c.in-Inner.count) =
    subst (IsNode c.load.new.copy.bytes c.args.number c.args.layout) c.in-Inner.is c.in_ok-node.ensures.loaded.node in
    damaged_err (g.P.Pages.is_tied c.args.pages.now → _) (g.P.Pages.store c.args.pages.now) (g.P.Pages.store c.load.new.pages)
    (Rests-works (g.P.Pages.is_tied c.args.pages.now) (g.P.Pages.store c.args.pages.now) (g.P.Pages.store c.load.new.pages) c.in_ok-node.ensures.rests.rests)
    (record { failures = c.in_ok-node.ensures.rests.count; full = c.in_ok-node.ensures.rests.rests.full })
    (λ tied. no_level-no_part (λ bytes cells. g.S.Summary.says bytes (joined g.S.Summary.unit g.S.Summary.join g.S.Summary.of cells)) c.args.layout
    (g.P.Pages.store c.args.pages.now).map c.args.number c.args.levels c.args.left.now c.load.new.copy.bytes c.in-Inner.count c.if-levels-eq0.true (c.in_ok-node.ensures.loaded.bytes tied) node)

pub clear_part-clear_entries-requires : goal.clear_part-clear_entries-requires
clear_part-clear_entries-requires g t c κs within =
    let node : IsNode c.load.new.copy.bytes c.args.number c.args.layout (Inner c.in-Inner.count) =
    subst (IsNode c.load.new.copy.bytes c.args.number c.args.layout) c.in-Inner.is c.in_ok-node.ensures.loaded.node in
    let fit : c.in-Inner.count * entry_bytes c.args.layout ≤ 4080 = records_fit c.load.new.copy.bytes kind.Inner c.args.number c.in-Inner.count (entry_bytes c.args.layout) node.0 in
    search rules

pub clear_part-returns-in_err-clear_entries-in-Inner-clause-works : goal.clear_part-returns-in_err-clear_entries-in-Inner-clause-works
clear_part-returns-in_err-clear_entries-in-Inner-clause-works g t c =
    let form : Form = form_in g.S.Summary c.args.layout in
    let node : IsNode c.load.new.copy.bytes c.args.number c.args.layout (Inner c.in-Inner.count) =
    subst (IsNode c.load.new.copy.bytes c.args.number c.args.layout) c.in-Inner.is c.in_ok-node.ensures.loaded.node in
    let p = err_from_is_err_and c.from_residual-in_err-clear_entries-in-Inner.result c.from_residual-in_err-clear_entries-in-Inner.ensures.1 in
    rw (p.1, p.2) (works_err (g.P.Pages.is_tied c.args.pages.now → HasNoOwnPart form (g.P.Pages.store c.args.pages.now).map c.args.number c.args.levels c.args.left.now)
    (g.P.Pages.is_tied c.load.new.pages → HasNoOwnParts form (g.P.Pages.store c.load.new.pages).map c.load.new.copy.bytes c.in-Inner.count c.args.levels c.load.new.left) c.in_err-clear_entries-in-Inner.field-0.0
    (g.P.Pages.store c.args.pages.now) (g.P.Pages.store c.load.new.pages) (g.P.Pages.store c.clear_entries.new.pages) (Rests-works (g.P.Pages.is_tied c.args.pages.now) (g.P.Pages.store c.args.pages.now) (g.P.Pages.store c.load.new.pages) c.in_ok-node.ensures.rests.rests) (record { failures = c.in_ok-node.ensures.rests.count; full = c.in_ok-node.ensures.rests.rests.full })
    (λ none tied. let later = g.met.P.Pages.keeps_tied c.args.pages.now c.load.new.pages c.in_ok-node.ensures.rests.below tied in
    no_parts-no_part (λ bytes cells. g.S.Summary.says bytes (joined g.S.Summary.unit g.S.Summary.join g.S.Summary.of cells)) c.args.layout (g.P.Pages.store c.args.pages.now).map c.args.number c.load.new.copy.bytes (g.P.Pages.store c.load.new.pages).map c.in-Inner.count c.args.left.now c.load.new.left
    (c.in_ok-node.ensures.loaded.bytes tied) node (c.in_ok-node.ensures.rests.rests.keeps.pages tied) c.in_ok-node.ensures.counted c.args.levels (none later))
    c.in_err-clear_entries-in-Inner.ensures.works)

pub clear_part-returns-in-Leaf-clause-works : goal.clear_part-returns-in-Leaf-clause-works
clear_part-returns-in-Leaf-clause-works g t c =
    let form : Form = form_in g.S.Summary c.args.layout in
    let node : IsNode c.load.new.copy.bytes c.args.number c.args.layout (Leaf c.in-Leaf.field-0) =
    subst (IsNode c.load.new.copy.bytes c.args.number c.args.layout) c.in-Leaf.is c.in_ok-node.ensures.loaded.node in
    let below : g.P.Pages.is_tied c.args.pages.now → ClearsBelow (λ bytes cells. g.S.Summary.says bytes (joined g.S.Summary.unit g.S.Summary.join g.S.Summary.of cells)) c.args.layout (g.P.Pages.store c.args.pages.now).map c.args.number c.load.new.copy.bytes (g.P.Pages.store c.load.new.pages).map c.args.left.now c.load.new.left =
    λ tied. clears_leaf (λ bytes cells. g.S.Summary.says bytes (joined g.S.Summary.unit g.S.Summary.join g.S.Summary.of cells)) c.args.layout (g.P.Pages.store c.args.pages.now).map c.args.number c.load.new.copy.bytes (g.P.Pages.store c.load.new.pages).map c.in-Leaf.field-0 c.args.left.now c.load.new.left
    (c.in_ok-node.ensures.loaded.bytes tied) node (c.in_ok-node.ensures.rests.rests.keeps.pages tied) c.in_ok-node.ensures.counted in
    works_then (g.P.Pages.is_tied c.args.pages.now → HasNoOwnPart form (g.P.Pages.store c.args.pages.now).map c.args.number c.args.levels c.args.left.now)
    (NotReleased (g.P.Pages.is_tied c.load.new.pages) c.args.number (g.P.Pages.store c.load.new.pages)) c.release.result (g.P.Pages.store c.args.pages.now) (g.P.Pages.store c.load.new.pages) (g.P.Pages.store c.release.new.self) (Rests-works (g.P.Pages.is_tied c.args.pages.now) (g.P.Pages.store c.args.pages.now) (g.P.Pages.store c.load.new.pages) c.in_ok-node.ensures.rests.rests) (record { failures = c.in_ok-node.ensures.rests.count; full = c.in_ok-node.ensures.rests.rests.full })
    (λ refused tied. let later = g.met.P.Pages.keeps_tied c.args.pages.now c.load.new.pages c.in_ok-node.ensures.rests.below tied in
    not_released-no_part (λ bytes cells. g.S.Summary.says bytes (joined g.S.Summary.unit g.S.Summary.join g.S.Summary.of cells)) c.args.layout (g.P.Pages.store c.args.pages.now).map c.args.number c.load.new.copy.bytes (g.P.Pages.is_tied c.load.new.pages) (g.P.Pages.store c.load.new.pages) c.args.levels c.args.left.now c.load.new.left later (below tied) refused)
    (released-works (g.P.Pages.is_tied c.load.new.pages) c.args.number c.release.result (g.P.Pages.store c.load.new.pages) (g.P.Pages.store c.release.new.self)
    c.release.ensures.releases c.release.ensures.rests c.release.ensures.refused)

pub clear_part-returns-in-Leaf-clause-clears : goal.clear_part-returns-in-Leaf-clause-clears
clear_part-returns-in-Leaf-clause-clears g t c =
    let node : IsNode c.load.new.copy.bytes c.args.number c.args.layout (Leaf c.in-Leaf.field-0) =
    subst (IsNode c.load.new.copy.bytes c.args.number c.args.layout) c.in-Leaf.is c.in_ok-node.ensures.loaded.node in
    let below : g.P.Pages.is_tied c.args.pages.now → ClearsBelow (λ bytes cells. g.S.Summary.says bytes (joined g.S.Summary.unit g.S.Summary.join g.S.Summary.of cells)) c.args.layout (g.P.Pages.store c.args.pages.now).map c.args.number c.load.new.copy.bytes (g.P.Pages.store c.load.new.pages).map c.args.left.now c.load.new.left =
    λ tied. clears_leaf (λ bytes cells. g.S.Summary.says bytes (joined g.S.Summary.unit g.S.Summary.join g.S.Summary.of cells)) c.args.layout (g.P.Pages.store c.args.pages.now).map c.args.number c.load.new.copy.bytes (g.P.Pages.store c.load.new.pages).map c.in-Leaf.field-0 c.args.left.now c.load.new.left
    (c.in_ok-node.ensures.loaded.bytes tied) node (c.in_ok-node.ensures.rests.rests.keeps.pages tied) c.in_ok-node.ensures.counted in
    λ tied. let later = g.met.P.Pages.keeps_tied c.args.pages.now c.load.new.pages c.in_ok-node.ensures.rests.below tied in
    on_ok c.release.result c.release.ensures.releases (λ releases.
    clears_top (λ bytes cells. g.S.Summary.says bytes (joined g.S.Summary.unit g.S.Summary.join g.S.Summary.of cells)) c.args.layout (g.P.Pages.store c.args.pages.now).map c.args.number c.load.new.copy.bytes (g.P.Pages.is_tied c.load.new.pages) (g.P.Pages.store c.load.new.pages) (g.P.Pages.store c.release.new.self) c.args.left.now c.load.new.left later (below tied) releases)

pub clear_part-returns-in_ok-clear_entries-in-Inner-clause-works : goal.clear_part-returns-in_ok-clear_entries-in-Inner-clause-works
clear_part-returns-in_ok-clear_entries-in-Inner-clause-works g t c =
    let form : Form = form_in g.S.Summary c.args.layout in
    let node : IsNode c.load.new.copy.bytes c.args.number c.args.layout (Inner c.in-Inner.count) =
    subst (IsNode c.load.new.copy.bytes c.args.number c.args.layout) c.in-Inner.is c.in_ok-node.ensures.loaded.node in
    let below : g.P.Pages.is_tied c.args.pages.now → ClearsBelow (λ bytes cells. g.S.Summary.says bytes (joined g.S.Summary.unit g.S.Summary.join g.S.Summary.of cells)) c.args.layout (g.P.Pages.store c.args.pages.now).map c.args.number c.load.new.copy.bytes (g.P.Pages.store c.clear_entries.new.pages).map c.args.left.now c.clear_entries.new.left =
    λ tied. let later = g.met.P.Pages.keeps_tied c.args.pages.now c.load.new.pages c.in_ok-node.ensures.rests.below tied in
    clears_inner (λ bytes cells. g.S.Summary.says bytes (joined g.S.Summary.unit g.S.Summary.join g.S.Summary.of cells)) c.args.layout (g.P.Pages.store c.args.pages.now).map c.args.number c.load.new.copy.bytes (g.P.Pages.store c.load.new.pages).map c.in-Inner.count c.args.left.now c.load.new.left
    (c.in_ok-node.ensures.loaded.bytes tied) node (c.in_ok-node.ensures.rests.rests.keeps.pages tied) c.in_ok-node.ensures.counted
    (g.P.Pages.store c.clear_entries.new.pages).map c.clear_entries.new.left (c.in_ok-clear_entries-in-Inner.ensures.clears later) in
    works_then (g.P.Pages.is_tied c.args.pages.now → HasNoOwnPart form (g.P.Pages.store c.args.pages.now).map c.args.number c.args.levels c.args.left.now)
    (NotReleased (g.P.Pages.is_tied c.clear_entries.new.pages) c.args.number (g.P.Pages.store c.clear_entries.new.pages)) c.release-in-Inner.result (g.P.Pages.store c.args.pages.now) (g.P.Pages.store c.clear_entries.new.pages) (g.P.Pages.store c.release-in-Inner.new.self)
    (Works-trans (g.P.Pages.store c.args.pages.now) (g.P.Pages.store c.load.new.pages) (g.P.Pages.store c.clear_entries.new.pages) (Rests-works (g.P.Pages.is_tied c.args.pages.now) (g.P.Pages.store c.args.pages.now) (g.P.Pages.store c.load.new.pages) c.in_ok-node.ensures.rests.rests) c.in_ok-clear_entries-in-Inner.ensures.works.works)
    (CountsNothing-trans (g.P.Pages.store c.args.pages.now) (g.P.Pages.store c.load.new.pages) (g.P.Pages.store c.clear_entries.new.pages) (record { failures = c.in_ok-node.ensures.rests.count; full = c.in_ok-node.ensures.rests.rests.full }) c.in_ok-clear_entries-in-Inner.ensures.works.ends)
    (λ refused tied. let later = g.met.P.Pages.keeps_tied c.args.pages.now c.load.new.pages c.in_ok-node.ensures.rests.below tied in
    let last = g.met.P.Pages.keeps_tied c.load.new.pages c.clear_entries.new.pages c.in_ok-clear_entries-in-Inner.ensures.keeps later in
    not_released-no_part (λ bytes cells. g.S.Summary.says bytes (joined g.S.Summary.unit g.S.Summary.join g.S.Summary.of cells)) c.args.layout (g.P.Pages.store c.args.pages.now).map c.args.number c.load.new.copy.bytes (g.P.Pages.is_tied c.clear_entries.new.pages) (g.P.Pages.store c.clear_entries.new.pages) c.args.levels c.args.left.now c.clear_entries.new.left last (below tied) refused)
    (released-works (g.P.Pages.is_tied c.clear_entries.new.pages) c.args.number c.release-in-Inner.result (g.P.Pages.store c.clear_entries.new.pages) (g.P.Pages.store c.release-in-Inner.new.self)
    c.release-in-Inner.ensures.releases c.release-in-Inner.ensures.rests c.release-in-Inner.ensures.refused)

pub clear_part-returns-in_ok-clear_entries-in-Inner-clause-clears : goal.clear_part-returns-in_ok-clear_entries-in-Inner-clause-clears
clear_part-returns-in_ok-clear_entries-in-Inner-clause-clears g t c =
    let node : IsNode c.load.new.copy.bytes c.args.number c.args.layout (Inner c.in-Inner.count) =
    subst (IsNode c.load.new.copy.bytes c.args.number c.args.layout) c.in-Inner.is c.in_ok-node.ensures.loaded.node in
    let below : g.P.Pages.is_tied c.args.pages.now → ClearsBelow (λ bytes cells. g.S.Summary.says bytes (joined g.S.Summary.unit g.S.Summary.join g.S.Summary.of cells)) c.args.layout (g.P.Pages.store c.args.pages.now).map c.args.number c.load.new.copy.bytes (g.P.Pages.store c.clear_entries.new.pages).map c.args.left.now c.clear_entries.new.left =
    λ tied. let later = g.met.P.Pages.keeps_tied c.args.pages.now c.load.new.pages c.in_ok-node.ensures.rests.below tied in
    clears_inner (λ bytes cells. g.S.Summary.says bytes (joined g.S.Summary.unit g.S.Summary.join g.S.Summary.of cells)) c.args.layout (g.P.Pages.store c.args.pages.now).map c.args.number c.load.new.copy.bytes (g.P.Pages.store c.load.new.pages).map c.in-Inner.count c.args.left.now c.load.new.left
    (c.in_ok-node.ensures.loaded.bytes tied) node (c.in_ok-node.ensures.rests.rests.keeps.pages tied) c.in_ok-node.ensures.counted
    (g.P.Pages.store c.clear_entries.new.pages).map c.clear_entries.new.left (c.in_ok-clear_entries-in-Inner.ensures.clears later) in
    λ tied. let later = g.met.P.Pages.keeps_tied c.args.pages.now c.load.new.pages c.in_ok-node.ensures.rests.below tied in
    let last = g.met.P.Pages.keeps_tied c.load.new.pages c.clear_entries.new.pages c.in_ok-clear_entries-in-Inner.ensures.keeps later in
    on_ok c.release-in-Inner.result c.release-in-Inner.ensures.releases (λ releases.
    clears_top (λ bytes cells. g.S.Summary.says bytes (joined g.S.Summary.unit g.S.Summary.join g.S.Summary.of cells)) c.args.layout (g.P.Pages.store c.args.pages.now).map c.args.number c.load.new.copy.bytes (g.P.Pages.is_tied c.clear_entries.new.pages) (g.P.Pages.store c.clear_entries.new.pages) (g.P.Pages.store c.release-in-Inner.new.self) c.args.left.now c.clear_entries.new.left last (below tied) releases)
