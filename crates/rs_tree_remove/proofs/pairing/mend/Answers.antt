-- The neighbour is read, and with the page makes a pair.
use Rattle.std.proofs.Common.{Err, ap, ◌∙◌, subst}
use Rattle.std.proofs.lemmas.Result.{err_from_is_err_and}
use Rattle.rs_page.specs.declared.header.PageKind.TheVariants as kind
use Rattle.rs_tree.specs.Content.{content}
use Rattle.rs_tree.specs.Form.{Form, joined}
use Rattle.rs_tree.specs.Layouts.{entry_bytes}
use Rattle.rs_tree.specs.Node.{IsNode}
use Rattle.rs_tree.specs.declared.node.Node.TheVariants.{Leaf, Inner}
use Rattle.rs_tree.specs.Reading.{HasNoNode}
use Rattle.rs_tree.proofs.Entering.{entry_there, records_fit}
use Rattle.rs_tree.specs.Forms.{form_in}
use Rattle.rs_page_owners.proofs.Working.{works_err, works_then}
use Rattle.rs_tree_remove.specs.Mending.{NonePairs, NoneLonely, Pairs, Mends}
use Rattle.rs_tree_remove.proofs.Joining.{if_ok}
use Rattle.rs_tree_remove.proofs.Lonely.{no_near, no_leaf_near, no_pairs, mends_all, damaged_after}
use Rattle.rs_tree_remove.proofs.pairing.mend.Goals as goal

pub returns-in_err-node-clause-works : goal.returns-in_err-node-clause-works
returns-in_err-node-clause-works g c =
    let form : Form = form_in g.S.Summary c.args.layout in
    let there = entry_there c.args.inner.count c.entry_width.result (entry_bytes c.args.layout) c.content.result.now (content c.args.page.now.bytes) c.neighbour-beside.result.near c.record_at-entry.result.now
    c.entry_width.ensures.width c.content.ensures.bytes (c.record_at-entry.ensures.one c.args.inner.count c.neighbour-beside.ensures.near) in
    let p = err_from_is_err_and c.from_residual.result c.from_residual.ensures.1 in
    works_err (g.P.Pages.is_tied c.args.pages.now → HasNoNode (g.P.Pages.store c.args.pages.now).map c.child-other.result c.args.layout) (g.P.Pages.is_tied c.args.pages.now → NoneLonely form (g.P.Pages.store c.args.pages.now).map c.args.inner.number c.args.page.now.bytes c.args.index c.args.lonely.number c.args.lonely.only) c.from_residual.result c.in_err-node.field-0.0 (g.P.Pages.store c.args.pages.now) (g.P.Pages.store c.read_part.new.pages)
    (λ none tied. no_near (λ bytes cells. g.S.Summary.says bytes (joined g.S.Summary.unit g.S.Summary.join g.S.Summary.of cells)) c.args.layout (g.P.Pages.store c.args.pages.now).map c.args.inner.number c.args.page.now.bytes c.args.inner.count c.args.index c.neighbour-beside.result.at c.neighbour-beside.result.near c.neighbour-beside.result.is_first c.args.lonely.number c.args.lonely.only c.child-other.result c.record_at-entry.result.now c.requires.node c.neighbour-beside.ensures.neighbour c.neighbour-beside.ensures.near there c.child-other.ensures (none tied))
    (p.1 ∙ ap Err p.2) c.in_err-node.ensures.works

pub even-requires-clause-near_fit : goal.even-requires-clause-near_fit
even-requires-clause-near_fit g c =
    let near_node : IsNode c.read_part.new.copy.bytes c.child-other.result c.args.layout (Inner c.in-Inner.size) =
    subst (IsNode c.read_part.new.copy.bytes c.child-other.result c.args.layout) c.in-Inner.is c.in_ok-node.ensures.loaded.node in
    records_fit c.read_part.new.copy.bytes kind.Inner c.child-other.result c.in-Inner.size (entry_bytes c.args.layout) near_node.0

pub returns-in-Leaf-clause-works : goal.returns-in-Leaf-clause-works
returns-in-Leaf-clause-works g c =
    let form : Form = form_in g.S.Summary c.args.layout in
    let there = entry_there c.args.inner.count c.entry_width.result (entry_bytes c.args.layout) c.content.result.now (content c.args.page.now.bytes) c.neighbour-beside.result.near c.record_at-entry.result.now
    c.entry_width.ensures.width c.content.ensures.bytes (c.record_at-entry.ensures.one c.args.inner.count c.neighbour-beside.ensures.near) in
    let near_node : IsNode c.read_part.new.copy.bytes c.child-other.result c.args.layout (Leaf c.in-Leaf.field-0) =
    subst (IsNode c.read_part.new.copy.bytes c.child-other.result c.args.layout) c.in-Leaf.is c.in_ok-node.ensures.loaded.node in
    damaged_after (g.P.Pages.is_tied c.args.pages.now → HasNoNode (g.P.Pages.store c.args.pages.now).map c.child-other.result c.args.layout) (g.P.Pages.is_tied c.args.pages.now → NoneLonely form (g.P.Pages.store c.args.pages.now).map c.args.inner.number c.args.page.now.bytes c.args.index c.args.lonely.number c.args.lonely.only) c.in_ok-node.node (g.P.Pages.store c.args.pages.now) (g.P.Pages.store c.read_part.new.pages) (λ tied. no_leaf_near (λ bytes cells. g.S.Summary.says bytes (joined g.S.Summary.unit g.S.Summary.join g.S.Summary.of cells)) c.args.layout (g.P.Pages.store c.args.pages.now).map c.args.inner.number c.args.page.now.bytes c.args.inner.count c.args.index c.neighbour-beside.result.at c.neighbour-beside.result.near c.neighbour-beside.result.is_first c.args.lonely.number c.args.lonely.only c.child-other.result c.record_at-entry.result.now c.requires.node c.neighbour-beside.ensures.neighbour c.neighbour-beside.ensures.near there c.child-other.ensures c.read_part.new.copy.bytes (c.in_ok-node.ensures.loaded.bytes tied) c.in-Leaf.field-0 near_node) c.in_ok-node.ensures.works

pub returns-in-Inner-clause-works : goal.returns-in-Inner-clause-works
returns-in-Inner-clause-works g c =
    let form : Form = form_in g.S.Summary c.args.layout in
    let there = entry_there c.args.inner.count c.entry_width.result (entry_bytes c.args.layout) c.content.result.now (content c.args.page.now.bytes) c.neighbour-beside.result.near c.record_at-entry.result.now
    c.entry_width.ensures.width c.content.ensures.bytes (c.record_at-entry.ensures.one c.args.inner.count c.neighbour-beside.ensures.near) in
    let near_node : IsNode c.read_part.new.copy.bytes c.child-other.result c.args.layout (Inner c.in-Inner.size) =
    subst (IsNode c.read_part.new.copy.bytes c.child-other.result c.args.layout) c.in-Inner.is c.in_ok-node.ensures.loaded.node in
    works_then (g.P.Pages.is_tied c.args.pages.now → HasNoNode (g.P.Pages.store c.args.pages.now).map c.child-other.result c.args.layout) (g.P.Pages.is_tied c.args.pages.now → NoneLonely form (g.P.Pages.store c.args.pages.now).map c.args.inner.number c.args.page.now.bytes c.args.index c.args.lonely.number c.args.lonely.only) (g.P.Pages.is_tied c.read_part.new.pages → NonePairs form (g.P.Pages.store c.read_part.new.pages).map c.args.inner.number c.args.page.now.bytes c.args.inner.count c.neighbour-beside.result.at c.neighbour-beside.result.is_first c.args.lonely.number c.args.lonely.only c.child-other.result c.read_part.new.copy.bytes c.in-Inner.size) c.in_ok-node.node c.even.result (g.P.Pages.store c.args.pages.now) (g.P.Pages.store c.read_part.new.pages) (g.P.Pages.store c.even.new.pages)
    (λ none tied. let later = g.met.P.Pages.keeps_tied c.args.pages.now c.read_part.new.pages c.in_ok-node.ensures.rests.below tied in
    no_pairs (λ bytes cells. g.S.Summary.says bytes (joined g.S.Summary.unit g.S.Summary.join g.S.Summary.of cells)) c.args.layout (g.P.Pages.store c.args.pages.now).map c.args.inner.number c.args.page.now.bytes c.args.inner.count c.args.index c.neighbour-beside.result.at c.neighbour-beside.result.near c.neighbour-beside.result.is_first c.args.lonely.number c.args.lonely.only c.child-other.result c.record_at-entry.result.now c.requires.node c.neighbour-beside.ensures.neighbour c.neighbour-beside.ensures.near there c.child-other.ensures c.read_part.new.copy.bytes (c.in_ok-node.ensures.loaded.bytes tied) c.in-Inner.size near_node (g.P.Pages.store c.read_part.new.pages).map (c.in_ok-node.ensures.rests.rests.keeps.pages tied) (none later))
    c.in_ok-node.ensures.works c.even.ensures.works

pub returns-in-Inner-clause-mends : goal.returns-in-Inner-clause-mends
returns-in-Inner-clause-mends g c = λ tied.
    let form : Form = form_in g.S.Summary c.args.layout in
    let there = entry_there c.args.inner.count c.entry_width.result (entry_bytes c.args.layout) c.content.result.now (content c.args.page.now.bytes) c.neighbour-beside.result.near c.record_at-entry.result.now
    c.entry_width.ensures.width c.content.ensures.bytes (c.record_at-entry.ensures.one c.args.inner.count c.neighbour-beside.ensures.near) in
    let near_node : IsNode c.read_part.new.copy.bytes c.child-other.result c.args.layout (Inner c.in-Inner.size) =
    subst (IsNode c.read_part.new.copy.bytes c.child-other.result c.args.layout) c.in-Inner.is c.in_ok-node.ensures.loaded.node in
    let later = g.met.P.Pages.keeps_tied c.args.pages.now c.read_part.new.pages c.in_ok-node.ensures.rests.below tied in
    if_ok {P = Pairs form (g.P.Pages.store c.read_part.new.pages).map (g.P.Pages.store c.even.new.pages).map c.args.inner.number c.args.page.now.bytes c.args.inner.count c.neighbour-beside.result.at c.neighbour-beside.result.is_first c.args.lonely.number c.args.lonely.only c.child-other.result c.read_part.new.copy.bytes c.in-Inner.size}
    {Q = Mends form (g.P.Pages.store c.args.pages.now).map (g.P.Pages.store c.even.new.pages).map c.args.inner.number c.args.page.now.bytes c.args.index c.args.lonely.number c.args.lonely.only} c.even.result (c.even.ensures.pairs later) (λ answer pairs.
    mends_all (λ bytes cells. g.S.Summary.says bytes (joined g.S.Summary.unit g.S.Summary.join g.S.Summary.of cells)) c.args.layout (g.P.Pages.store c.args.pages.now).map c.args.inner.number c.args.page.now.bytes c.args.inner.count c.args.index c.neighbour-beside.result.at c.neighbour-beside.result.near c.neighbour-beside.result.is_first c.args.lonely.number c.args.lonely.only c.child-other.result c.record_at-entry.result.now c.requires.node c.neighbour-beside.ensures.neighbour c.neighbour-beside.ensures.near there c.child-other.ensures c.read_part.new.copy.bytes (c.in_ok-node.ensures.loaded.bytes tied) c.in-Inner.size near_node (g.P.Pages.store c.read_part.new.pages).map (c.in_ok-node.ensures.rests.rests.keeps.pages tied) (g.P.Pages.store c.even.new.pages).map answer pairs)
