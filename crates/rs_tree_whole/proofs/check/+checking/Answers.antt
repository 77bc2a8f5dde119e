-- What was read is a leaf whose cells are in order or an inner page, each of whose entries says a sound part.
use Rattle.std.proofs.Common.{◌≡◌, ◌⊎◌, ◌≤◌, ◌*◌, ◌+◌, suc, Ok, Err, Some, refl, sym, ap, ◌∙◌, subst, inl, inr, arith, rules}
use Rattle.std.proofs.lemmas.Result.{err_from_is_err_and}
use Rattle.std.specs.Option.{option_copied}
use Rattle.rs_refusal.specs.declared.refusal.Refusal.TheVariants as refusal
use Rattle.rs_page.specs.declared.header.PageKind.TheVariants as kind
use Rattle.rs_page_marks.specs.Marks.{taken}
use Rattle.rs_page_marks.proofs.Marking.{taken-le}
use Rattle.rs_tree.specs.Content.{content}
use Rattle.rs_tree.specs.Form.{joined, least_from}
use Rattle.rs_tree.specs.Layouts.{entry_bytes}
use Rattle.rs_tree.specs.Node.{IsNode}
use Rattle.rs_tree.specs.declared.node.Node.TheVariants.{Leaf, Inner}
use Rattle.rs_tree.proofs.Entering.{records_fit, entry_there}
use Rattle.rs_tree.specs.Forms.{form_in}
use Rattle.rs_pages.proofs.Resting.{rests_none, rests_then}
use Rattle.rs_tree_whole.specs.Checking.{Reaches, HasNoSound}
use Rattle.rs_tree_whole.proofs.Entries.{entries_none, entries_next, none_next, none_level}
use Rattle.rs_tree_whole.proofs.Fresh.{fails}
use Rattle.rs_tree_whole.proofs.Orders.{key_same}
use Rattle.rs_tree_whole.proofs.Reaching.{none_fresh, reaches_leaf, none_leaf, reaches_inner, none_first, none_inner, none_said}
use Rattle.rs_tree_whole.proofs.Reaching.{none_level as none_below}
use Rattle.rs_tree_whole.proofs.check.+checking.Goals as goal
use Rattle.rs_tree_whole.proofs.check.+checking.Goals.{check_part-then-levels-eq0-via-then-levels-eq0, check_part-then-levels-eq0-via-else-levels-eq0+then-not-begins_with, check_entries-else-index-gt0-via-then-index-gt0+else-found-height, check_entries-else-index-gt0-via-else-index-gt0}

pub check_part-returns-in_err-node-clause-damaged : goal.check_part-returns-in_err-node-clause-damaged
check_part-returns-in_err-node-clause-damaged g t c = λ is tied.
    let p = err_from_is_err_and c.from_residual.result c.from_residual.ensures.1 in
    let why : c.in_err-node.field-0.0 ≡ refusal.DamagedFile = cc (p.1, p.2, is) in
    none_fresh (joined g.S.Summary.unit g.S.Summary.join g.S.Summary.of) (λ bytes cells. g.S.Summary.says bytes (joined g.S.Summary.unit g.S.Summary.join g.S.Summary.of cells)) c.args.layout
    (g.P.Pages.store c.args.pages.now).map c.args.number (option_copied c.args.first) (option_copied c.args.bound) c.args.levels (taken c.args.reached.now)
    (c.in_err-node.ensures.damaged (ap Err why) tied)

pub check_part-is_in_order-requires-clause-fit : goal.check_part-is_in_order-requires-clause-fit
check_part-is_in_order-requires-clause-fit g t c =
    let node : IsNode c.enter.new.copy.bytes c.args.number c.args.layout (Leaf c.in-Leaf.count) =
    subst (IsNode c.enter.new.copy.bytes c.args.number c.args.layout) c.in-Leaf.is c.in_ok-node.ensures.enters.loaded.node in
    records_fit c.enter.new.copy.bytes kind.Leaf c.args.number c.in-Leaf.count c.args.layout.width node.0

pub check_part-leaf_summary-whole-requires : goal.check_part-leaf_summary-whole-requires
check_part-leaf_summary-whole-requires g t c =
    let node : IsNode c.enter.new.copy.bytes c.args.number c.args.layout (Leaf c.in-Leaf.count) =
    subst (IsNode c.enter.new.copy.bytes c.args.number c.args.layout) c.in-Leaf.is c.in_ok-node.ensures.enters.loaded.node in
    records_fit c.enter.new.copy.bytes kind.Leaf c.args.number c.in-Leaf.count c.args.layout.width node.0

pub check_part-returns-then-not-is_in_order-clause-damaged : goal.check_part-returns-then-not-is_in_order-clause-damaged
check_part-returns-then-not-is_in_order-clause-damaged g t c = λ is tied.
    let node : IsNode c.enter.new.copy.bytes c.args.number c.args.layout (Leaf c.in-Leaf.count) =
    subst (IsNode c.enter.new.copy.bytes c.args.number c.args.layout) c.in-Leaf.is c.in_ok-node.ensures.enters.loaded.node in
    none_leaf (joined g.S.Summary.unit g.S.Summary.join g.S.Summary.of) (λ bytes cells. g.S.Summary.says bytes (joined g.S.Summary.unit g.S.Summary.join g.S.Summary.of cells)) c.args.layout
    (g.P.Pages.store c.args.pages.now).map c.args.number (option_copied c.args.first) (option_copied c.args.bound) c.enter.new.copy.bytes c.in-Leaf.count
    (c.in_ok-node.ensures.enters.loaded.bytes tied) c.args.levels (taken c.args.reached.now) node (fails c.is_in_order.result c.if-not-is_in_order.true c.is_in_order.ensures.1)

pub check_part-returns-else-not-is_in_order-clause-reaches : goal.check_part-returns-else-not-is_in_order-clause-reaches
check_part-returns-else-not-is_in_order-clause-reaches g t c = λ tied.
    let node : IsNode c.enter.new.copy.bytes c.args.number c.args.layout (Leaf c.in-Leaf.count) =
    subst (IsNode c.enter.new.copy.bytes c.args.number c.args.layout) c.in-Leaf.is c.in_ok-node.ensures.enters.loaded.node in
    reaches_leaf (joined g.S.Summary.unit g.S.Summary.join g.S.Summary.of) (λ bytes cells. g.S.Summary.says bytes (joined g.S.Summary.unit g.S.Summary.join g.S.Summary.of cells)) c.args.layout
    (g.P.Pages.store c.args.pages.now).map c.args.number (option_copied c.args.first) (option_copied c.args.bound) c.enter.new.copy.bytes c.in-Leaf.count
    (c.in_ok-node.ensures.enters.loaded.bytes tied) (taken c.args.reached.now) (taken c.enter.new.reached) c.leaf_summary-whole.result
    c.in_ok-node.ensures.enters.after c.in_ok-node.ensures.enters.below node (c.is_in_order.ensures.0 c.if-not-is_in_order.false)
    c.in_ok-node.ensures.reaches c.leaf_summary-whole.ensures

pub check_part-begins_with-requires-clause-fit : goal.check_part-begins_with-requires-clause-fit
check_part-begins_with-requires-clause-fit g t c =
    let node : IsNode c.enter.new.copy.bytes c.args.number c.args.layout (Inner c.in-Inner.count) =
    subst (IsNode c.enter.new.copy.bytes c.args.number c.args.layout) c.in-Inner.is c.in_ok-node.ensures.enters.loaded.node in
    records_fit c.enter.new.copy.bytes kind.Inner c.args.number c.in-Inner.count (entry_bytes c.args.layout) node.0

pub check_part-inner_summary-whole-requires-clause-fit : goal.check_part-inner_summary-whole-requires-clause-fit
check_part-inner_summary-whole-requires-clause-fit g t c =
    let node : IsNode c.enter.new.copy.bytes c.args.number c.args.layout (Inner c.in-Inner.count) =
    subst (IsNode c.enter.new.copy.bytes c.args.number c.args.layout) c.in-Inner.is c.in_ok-node.ensures.enters.loaded.node in
    records_fit c.enter.new.copy.bytes kind.Inner c.args.number c.in-Inner.count (entry_bytes c.args.layout) node.0

pub check_part-returns-then-levels-eq0-clause-damaged : goal.check_part-returns-then-levels-eq0-clause-damaged
check_part-returns-then-levels-eq0-clause-damaged g t c = λ is tied.
    let node : IsNode c.enter.new.copy.bytes c.args.number c.args.layout (Inner c.in-Inner.count) =
    subst (IsNode c.enter.new.copy.bytes c.args.number c.args.layout) c.in-Inner.is c.in_ok-node.ensures.enters.loaded.node in
    elim c.then-levels-eq0.branch [
      | check_part-then-levels-eq0-via-then-levels-eq0 w ↦
          subst (λ levels. HasNoSound (form_in g.S.Summary c.args.layout) (g.P.Pages.store c.args.pages.now).map c.args.number (option_copied c.args.first) (option_copied c.args.bound) levels (taken c.args.reached.now)) (sym w.if-levels-eq0.true)
          (none_below (joined g.S.Summary.unit g.S.Summary.join g.S.Summary.of) (λ bytes cells. g.S.Summary.says bytes (joined g.S.Summary.unit g.S.Summary.join g.S.Summary.of cells)) c.args.layout
          (g.P.Pages.store c.args.pages.now).map c.args.number (option_copied c.args.first) (option_copied c.args.bound) c.enter.new.copy.bytes c.in-Inner.count (c.in_ok-node.ensures.enters.loaded.bytes tied) (taken c.args.reached.now) node)
      | check_part-then-levels-eq0-via-else-levels-eq0+then-not-begins_with w ↦
          none_first (joined g.S.Summary.unit g.S.Summary.join g.S.Summary.of) (λ bytes cells. g.S.Summary.says bytes (joined g.S.Summary.unit g.S.Summary.join g.S.Summary.of cells)) c.args.layout
          (g.P.Pages.store c.args.pages.now).map c.args.number (option_copied c.args.first) (option_copied c.args.bound) c.enter.new.copy.bytes c.in-Inner.count (c.in_ok-node.ensures.enters.loaded.bytes tied) c.args.levels (taken c.args.reached.now) node
          (fails w.begins_with.result w.if-not-begins_with.true w.begins_with.ensures.1)
    ]

pub check_part-check_entries-requires : goal.check_part-check_entries-requires
check_part-check_entries-requires g t c κs within =
    let node : IsNode c.enter.new.copy.bytes c.args.number c.args.layout (Inner c.in-Inner.count) =
    subst (IsNode c.enter.new.copy.bytes c.args.number c.args.layout) c.in-Inner.is c.in_ok-node.ensures.enters.loaded.node in
    let fit : c.in-Inner.count * entry_bytes c.args.layout ≤ 4080 = records_fit c.enter.new.copy.bytes kind.Inner c.args.number c.in-Inner.count (entry_bytes c.args.layout) node.0 in
    search rules

pub check_part-returns-in_err-height-in-Inner-clause-damaged : goal.check_part-returns-in_err-height-in-Inner-clause-damaged
check_part-returns-in_err-height-in-Inner-clause-damaged g t c = λ is tied.
    let node : IsNode c.enter.new.copy.bytes c.args.number c.args.layout (Inner c.in-Inner.count) =
    subst (IsNode c.enter.new.copy.bytes c.args.number c.args.layout) c.in-Inner.is c.in_ok-node.ensures.enters.loaded.node in
    let p = err_from_is_err_and c.from_residual-in_err-height-in-Inner.result c.from_residual-in_err-height-in-Inner.ensures.1 in
    let why : c.in_err-height-in-Inner.field-0.0 ≡ refusal.DamagedFile = cc (p.1, p.2, is) in
    let later = g.met.P.Pages.keeps_tied c.args.pages.now c.enter.new.pages c.in_ok-node.ensures.rests.below tied in
    none_inner (joined g.S.Summary.unit g.S.Summary.join g.S.Summary.of) (λ bytes cells. g.S.Summary.says bytes (joined g.S.Summary.unit g.S.Summary.join g.S.Summary.of cells)) c.args.layout
    (g.P.Pages.store c.args.pages.now).map c.args.number (option_copied c.args.first) (option_copied c.args.bound) c.enter.new.copy.bytes c.in-Inner.count (c.in_ok-node.ensures.enters.loaded.bytes tied) c.args.levels (taken c.args.reached.now) (taken c.enter.new.reached) (g.P.Pages.store c.enter.new.pages).map
    node (c.in_ok-node.ensures.rests.rests.keeps.pages tied) c.in_ok-node.ensures.reaches (c.in_err-height-in-Inner.ensures.damaged (ap Err why) later)

pub check_part-returns-in_ok-height-in-Inner-clause-reaches : goal.check_part-returns-in_ok-height-in-Inner-clause-reaches
check_part-returns-in_ok-height-in-Inner-clause-reaches g t c = λ tied.
    let node : IsNode c.enter.new.copy.bytes c.args.number c.args.layout (Inner c.in-Inner.count) =
    subst (IsNode c.enter.new.copy.bytes c.args.number c.args.layout) c.in-Inner.is c.in_ok-node.ensures.enters.loaded.node in
    let later = g.met.P.Pages.keeps_tied c.args.pages.now c.enter.new.pages c.in_ok-node.ensures.rests.below tied in
    let next : suc c.in_ok-height-in-Inner.height ≡ c.in_ok-height-in-Inner.height + 1 = omega arith in
    subst (λ height. Reaches (joined g.S.Summary.unit g.S.Summary.join g.S.Summary.of) (form_in g.S.Summary c.args.layout) (g.P.Pages.store c.args.pages.now).map c.args.number (option_copied c.args.first) (option_copied c.args.bound)
    (taken c.args.reached.now) (taken c.check_entries.new.reached) height c.in_ok-height-in-Inner.total c.inner_summary-whole.result) next
    (reaches_inner (joined g.S.Summary.unit g.S.Summary.join g.S.Summary.of) (λ bytes cells. g.S.Summary.says bytes (joined g.S.Summary.unit g.S.Summary.join g.S.Summary.of cells)) c.args.layout
    (g.P.Pages.store c.args.pages.now).map c.args.number (option_copied c.args.first) (option_copied c.args.bound) c.enter.new.copy.bytes c.in-Inner.count (c.in_ok-node.ensures.enters.loaded.bytes tied) (taken c.args.reached.now) (taken c.enter.new.reached) (taken c.check_entries.new.reached) (g.P.Pages.store c.enter.new.pages).map
    c.in_ok-height-in-Inner.height c.in_ok-height-in-Inner.total c.inner_summary-whole.result c.in_ok-node.ensures.enters.after c.in_ok-node.ensures.enters.below node (c.in_ok-node.ensures.rests.rests.keeps.pages tied)
    (c.begins_with.ensures.0 c.if-not-begins_with.false) c.in_ok-node.ensures.reaches (c.in_ok-height-in-Inner.ensures.reaches later) c.inner_summary-whole.ensures)

pub check_entries-loop-index-init : goal.check_entries-loop-index-init
check_entries-loop-index-init g t c = record {
  rests = rests_none g.P.Pages.is_tied g.P.Pages.store g.P.Pages.keeps tt c.args.pages.now (g.met.P.Pages.keeps_refl c.args.pages.now);
  size = refl;
  height = c.requires.levels;
  reaches = λ tied. entries_none (form_in g.S.Summary c.args.layout) (g.P.Pages.store c.args.pages.now).map c.args.page.now.bytes c.args.count
      (option_copied c.args.bound) 0 0 (taken c.args.reached.now) refl;
}

pub check_entries-returns-in_err-found-clause-damaged : goal.check_entries-returns-in_err-found-clause-damaged
check_entries-returns-in_err-found-clause-damaged g t c = λ is tied.
    let p = err_from_is_err_and c.from_residual.result c.from_residual.ensures.1 in
    let why : c.in_err-found.field-0.0 ≡ refusal.DamagedFile = cc (p.1, p.2, is) in
    let there = entry_there c.args.count c.entry_width.result (entry_bytes c.args.layout) c.content-bytes.result.now (content c.args.page.now.bytes) c.loop-index.index c.record_at-entry.result.now
    c.entry_width.ensures.width c.content-bytes.ensures.bytes (c.record_at-entry.ensures.one c.args.count c.loop-index-test.true) in
    let next = key_same (least_from c.args.layout.summary) c.args.count (entry_bytes c.args.layout) (c.loop-index.index + 1) c.content-bytes.result.now (content c.args.page.now.bytes)
    (option_copied c.bound_at-next.result) (option_copied c.args.bound) c.bound_at-next.ensures c.content-bytes.ensures.bytes in
    let later = g.met.P.Pages.keeps_tied c.args.pages.now c.loop-index.pages c.loop-index.invariant.rests.below tied in
    none_next (form_in g.S.Summary c.args.layout) (g.P.Pages.store c.args.pages.now).map c.args.page.now.bytes c.args.count (option_copied c.args.bound)
    c.loop-index.index c.loop-index.height c.loop-index.total c.args.levels c.record_at-entry.result.now (option_copied c.bound_at-next.result) (g.P.Pages.store c.loop-index.pages).map
    (taken c.args.reached.now) (taken c.loop-index.reached) (taken-le c.loop-index.reached) there next (c.loop-index.invariant.rests.rests.keeps.pages tied)
    (c.loop-index.invariant.reaches tied) (c.in_err-found.ensures.damaged (ap Err why) later)

pub check_entries-returns-then-found-height-clause-damaged : goal.check_entries-returns-then-found-height-clause-damaged
check_entries-returns-then-found-height-clause-damaged g t c = λ is tied.
    let there = entry_there c.args.count c.entry_width.result (entry_bytes c.args.layout) c.content-bytes.result.now (content c.args.page.now.bytes) c.loop-index.index c.record_at-entry.result.now
    c.entry_width.ensures.width c.content-bytes.ensures.bytes (c.record_at-entry.ensures.one c.args.count c.loop-index-test.true) in
    let next = key_same (least_from c.args.layout.summary) c.args.count (entry_bytes c.args.layout) (c.loop-index.index + 1) c.content-bytes.result.now (content c.args.page.now.bytes)
    (option_copied c.bound_at-next.result) (option_copied c.args.bound) c.bound_at-next.ensures c.content-bytes.ensures.bytes in
    let later = g.met.P.Pages.keeps_tied c.args.pages.now c.loop-index.pages c.loop-index.invariant.rests.below tied in
    none_level (form_in g.S.Summary c.args.layout) (g.P.Pages.store c.args.pages.now).map c.args.page.now.bytes c.args.count (option_copied c.args.bound)
    c.loop-index.index c.loop-index.height c.in_ok-found.found c.loop-index.total c.in_ok-found.more c.args.levels c.record_at-entry.result.now (option_copied c.bound_at-next.result) (g.P.Pages.store c.loop-index.pages).map
    (taken c.args.reached.now) (taken c.loop-index.reached) (taken c.check_entry.new.reached) c.if-index-gt0.true c.if-found-height.true there (c.loop-index.invariant.rests.rests.keeps.pages tied)
    (c.loop-index.invariant.reaches tied) (c.in_ok-found.ensures.reaches later)

pub check_entries-loop-index-preserved : goal.check_entries-loop-index-preserved
check_entries-loop-index-preserved g t c =
    let there = entry_there c.args.count c.entry_width.result (entry_bytes c.args.layout) c.content-bytes.result.now (content c.args.page.now.bytes) c.loop-index.index c.record_at-entry.result.now
    c.entry_width.ensures.width c.content-bytes.ensures.bytes (c.record_at-entry.ensures.one c.args.count c.loop-index-test.true) in
    let next = key_same (least_from c.args.layout.summary) c.args.count (entry_bytes c.args.layout) (c.loop-index.index + 1) c.content-bytes.result.now (content c.args.page.now.bytes)
    (option_copied c.bound_at-next.result) (option_copied c.args.bound) c.bound_at-next.ensures c.content-bytes.ensures.bytes in
    record {
      rests = rests_then g.P.Pages.is_tied g.P.Pages.store g.P.Pages.keeps tt (Ok tt) c.args.pages.now c.loop-index.pages c.check_entry.new.pages
          g.met.P.Pages.keeps_trans g.met.P.Pages.keeps_tied c.loop-index.invariant.rests
          (record { rests = c.in_ok-found.ensures.rests.rests; below = c.in_ok-found.ensures.rests.below; count = c.in_ok-found.ensures.rests.count });
      size = c.in_ok-found.ensures.size ∙ c.loop-index.invariant.size;
      height = c.in_ok-found.ensures.height;
      reaches = λ tied.
          let later = g.met.P.Pages.keeps_tied c.args.pages.now c.loop-index.pages c.loop-index.invariant.rests.below tied in
          let level : (c.loop-index.index ≡ 0) ⊎ (c.in_ok-found.found ≡ c.loop-index.height) = elim c.else-index-gt0.branch [
            | check_entries-else-index-gt0-via-then-index-gt0+else-found-height w ↦ inr w.if-found-height.false
            | check_entries-else-index-gt0-via-else-index-gt0 w ↦ inl (omega arith)
          ] in
          entries_next (form_in g.S.Summary c.args.layout) (g.P.Pages.store c.args.pages.now).map c.args.page.now.bytes c.args.count (option_copied c.args.bound)
          c.loop-index.index c.loop-index.height c.in_ok-found.found c.loop-index.total c.in_ok-found.more c.saturating_add-total.result c.record_at-entry.result.now (option_copied c.bound_at-next.result) (g.P.Pages.store c.loop-index.pages).map
          (taken c.args.reached.now) (taken c.loop-index.reached) (taken c.check_entry.new.reached) there next (c.loop-index.invariant.rests.rests.keeps.pages tied) level c.saturating_add-total.ensures
          (c.loop-index.invariant.reaches tied) (c.in_ok-found.ensures.reaches later);
    }

pub check_entry-returns-then-not-says-clause-damaged : goal.check_entry-returns-then-not-says-clause-damaged
check_entry-returns-then-not-says-clause-damaged g t c = λ is tied.
    let found = subst (λ least. Reaches (joined g.S.Summary.unit g.S.Summary.join g.S.Summary.of) (form_in g.S.Summary c.args.layout) (g.P.Pages.store c.args.pages.now).map c.child-number.result (Some least) (option_copied c.args.bound)
    (taken c.args.reached.now) (taken c.check_part.new.reached) c.in_ok-part.part.height c.in_ok-part.part.total c.in_ok-part.part.whole) c.least.ensures (c.in_ok-part.ensures.reaches tied) in
    none_said (form_in g.S.Summary c.args.layout) (g.P.Pages.store c.args.pages.now).map c.args.entry.now (option_copied c.args.bound) (joined g.S.Summary.unit g.S.Summary.join g.S.Summary.of)
    c.args.levels (taken c.args.reached.now) (taken c.check_part.new.reached) c.in_ok-part.part.height c.in_ok-part.part.total c.in_ok-part.part.whole c.child-number.result c.child-number.ensures (taken-le c.check_part.new.reached)
    (λ cells same said. fails c.says.result c.if-not-says.true c.says.ensures.1
    (subst (λ one. g.S.Summary.says c.summary.result.now one) (sym same) (subst (λ bytes. g.S.Summary.says bytes (joined g.S.Summary.unit g.S.Summary.join g.S.Summary.of cells)) (sym c.summary.ensures.bytes) said))) found
