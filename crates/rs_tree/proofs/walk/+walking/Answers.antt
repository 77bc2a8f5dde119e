-- What was read is a leaf or an inner page; of that each entry is gone through, and into the part that it says.
use Rattle.std.proofs.Common.{◌≡◌, true, false, Ok, Err, [], length, take, drop, sym, ap, ◌∙◌, subst, arith, rules}
use Rattle.std.proofs.lemmas.Result.{err_from_is_err_and}
use Rattle.std.specs.Fn.{FnReturnsAt}
use Rattle.rs_refusal.specs.declared.refusal.Refusal.TheVariants as refusal
use Rattle.rs_records.specs.Listed.{listed}
use Rattle.rs_tree.specs.Form.{Form, joined, child_bytes}
use Rattle.rs_tree.specs.Layouts.{entry_bytes}
use Rattle.rs_tree.specs.Looking.{FindsInner, FindsLeaf}
use Rattle.rs_tree.specs.Walking.{HasNoPart, Walks, WalksEntries}
use Rattle.rs_tree.proofs.Loading.{on_ok, where_none}
use Rattle.rs_pages.proofs.Resting.{rests_then}
use Rattle.rs_tree.proofs.Holding.{entry_wide, held_no_entry, held_reads_all, held_reads_next, held_walks_all, held_walks_next}
use Rattle.rs_tree.proofs.Entering.{walks_leaf, walks_inner, once_inner, no_parts-no_part, no_level-no_part, no_node-no_part, walks_accepted, walks_rejected, answer_told}
use Rattle.rs_tree.proofs.walk.+walking.Goals as goal
use Rattle.rs_tree.specs.Forms.{form_in}

pub walk-returns-in_err-entries-clause-damaged : goal.walk-returns-in_err-entries-clause-damaged
walk-returns-in_err-entries-clause-damaged g t c = λ is tied.
    let p = err_from_is_err_and c.from_residual.result c.from_residual.ensures.1 in
    let why : c.in_err-entries.field-0.0 ≡ refusal.DamagedFile = cc (p.1, p.2, is) in
    no_node-no_part (λ bytes cells. g.S.Summary.says bytes (joined g.S.Summary.unit g.S.Summary.join g.S.Summary.of cells)) c.args.wanted.now.layout
    (g.P.Pages.store c.args.pages.now).map c.args.number c.args.levels c.args.left.now (λ some. c.in_err-entries.ensures.damaged (ap Err why) tied some)

pub walk-returns-in_default-clause-walks : goal.walk-returns-in_default-clause-walks
walk-returns-in_default-clause-walks g t c = λ tied test computes accepts.
    let found : FindsLeaf (g.P.Pages.is_tied c.args.pages.now) (g.P.Pages.store c.args.pages.now).map c.args.number c.args.wanted.now.layout
    c.args.wanted.now.low.now c.args.wanted.now.high.now (λ cell. test (g.S.Summary.of cell)) (listed c.args.cells.now) (listed c.look.new.cells) =
    where_none c.in_ok-entries.field-0 c.in_default.not-Some c.in_ok-entries.ensures.leaf test computes in
    walks_leaf (λ bytes cells. g.S.Summary.says bytes (joined g.S.Summary.unit g.S.Summary.join g.S.Summary.of cells)) c.args.wanted.now.layout
    (g.P.Pages.store c.args.pages.now).map c.args.number found.page c.args.wanted.now.low.now c.args.wanted.now.high.now (λ cell. test (g.S.Summary.of cell))
    (listed c.args.cells.now) (listed c.look.new.cells) c.args.left.now c.look.new.left c.look.new.left
    c.in_ok-entries.ensures.counted (found.there tied) found.leaf.count found.leaf.node found.leaf.found

pub walk-returns-then-levels-eq0-clause-damaged : goal.walk-returns-then-levels-eq0-clause-damaged
walk-returns-then-levels-eq0-clause-damaged g t c = λ is tied.
    let form : Form = form_in g.S.Summary c.args.wanted.now.layout in
    let found : FindsInner (g.P.Pages.is_tied c.args.pages.now) (g.P.Pages.store c.args.pages.now).map c.args.number c.args.wanted.now.layout c.args.wanted.now.low.now c.args.wanted.now.high.now (listed c.in-Some.entries) = search rules in
    let none = no_level-no_part (λ bytes cells. g.S.Summary.says bytes (joined g.S.Summary.unit g.S.Summary.join g.S.Summary.of cells)) c.args.wanted.now.layout
    (g.P.Pages.store c.args.pages.now).map c.args.number found.page [] [] (λ _. true) [] [] c.args.left.now c.look.new.left 0
    c.in_ok-entries.ensures.counted (found.there tied) found.inner.count found.inner.node in
    subst (λ levels. HasNoPart form (g.P.Pages.store c.args.pages.now).map c.args.number levels c.args.left.now) (sym c.if-levels-eq0.true) none

pub walk-returns-clause-walks : goal.walk-returns-clause-walks
walk-returns-clause-walks g t c =
    let found : FindsInner (g.P.Pages.is_tied c.args.pages.now) (g.P.Pages.store c.args.pages.now).map c.args.number c.args.wanted.now.layout c.args.wanted.now.low.now c.args.wanted.now.high.now (listed c.in-Some.entries) = search rules in
    let same : listed c.look.new.cells ≡ listed c.args.cells.now = search rules in
    λ tied test computes accepts.
    let later = g.met.P.Pages.keeps_tied c.args.pages.now c.look.new.pages c.in_ok-entries.ensures.rests.below tied in
    on_ok c.walk_entries.result (c.walk_entries.ensures.walks later test computes accepts) (λ walks.
    walks_inner (λ bytes cells. g.S.Summary.says bytes (joined g.S.Summary.unit g.S.Summary.join g.S.Summary.of cells)) c.args.wanted.now.layout
    (g.P.Pages.store c.args.pages.now).map c.args.number found.page c.args.wanted.now.low.now c.args.wanted.now.high.now (λ cell. test (g.S.Summary.of cell))
    (listed c.args.cells.now) (listed c.walk_entries.new.cells) c.args.left.now c.look.new.left c.walk_entries.new.left
    c.in_ok-entries.ensures.counted (found.there tied) found.inner.count (g.P.Pages.store c.look.new.pages).map
    (c.in_ok-entries.ensures.rests.rests.keeps.pages tied) found.inner.node
    (subst (λ before. WalksEntries (form_in g.S.Summary c.args.wanted.now.layout) (g.P.Pages.store c.look.new.pages).map found.page found.inner.count
    c.args.wanted.now.low.now c.args.wanted.now.high.now (λ cell. test (g.S.Summary.of cell)) before (listed c.walk_entries.new.cells) c.look.new.left c.walk_entries.new.left) same (walks found.page found.inner.count found.inner.held)))

pub walk-returns-clause-once : goal.walk-returns-clause-once
walk-returns-clause-once g t c =
    let found : FindsInner (g.P.Pages.is_tied c.args.pages.now) (g.P.Pages.store c.args.pages.now).map c.args.number c.args.wanted.now.layout c.args.wanted.now.low.now c.args.wanted.now.high.now (listed c.in-Some.entries) = search rules in
    λ tied.
    let later = g.met.P.Pages.keeps_tied c.args.pages.now c.look.new.pages c.in_ok-entries.ensures.rests.below tied in
    on_ok c.walk_entries.result (c.walk_entries.ensures.once later) (λ once.
    once_inner (λ bytes cells. g.S.Summary.says bytes (joined g.S.Summary.unit g.S.Summary.join g.S.Summary.of cells)) c.args.wanted.now.layout
    (g.P.Pages.store c.args.pages.now).map c.args.number found.page [] [] (λ _. true) [] [] c.args.left.now c.look.new.left c.walk_entries.new.left
    c.in_ok-entries.ensures.counted (found.there tied) found.inner.count (g.P.Pages.store c.look.new.pages).map
    (c.in_ok-entries.ensures.rests.rests.keeps.pages tied) found.inner.node (once found.page found.inner.count found.inner.held))

pub walk-returns-clause-damaged : goal.walk-returns-clause-damaged
walk-returns-clause-damaged g t c = λ is tied.
    let found : FindsInner (g.P.Pages.is_tied c.args.pages.now) (g.P.Pages.store c.args.pages.now).map c.args.number c.args.wanted.now.layout c.args.wanted.now.low.now c.args.wanted.now.high.now (listed c.in-Some.entries) = search rules in
    let later = g.met.P.Pages.keeps_tied c.args.pages.now c.look.new.pages c.in_ok-entries.ensures.rests.below tied in
    no_parts-no_part (λ bytes cells. g.S.Summary.says bytes (joined g.S.Summary.unit g.S.Summary.join g.S.Summary.of cells)) c.args.wanted.now.layout
    (g.P.Pages.store c.args.pages.now).map c.args.number found.page [] [] (λ _. true) [] [] c.args.left.now c.look.new.left 0
    c.in_ok-entries.ensures.counted (found.there tied) found.inner.count c.args.levels (g.P.Pages.store c.look.new.pages).map
    (c.in_ok-entries.ensures.rests.rests.keeps.pages tied) found.inner.node (c.walk_entries.ensures.damaged is later found.page found.inner.count found.inner.held)

pub walk_entries-walk_entry-requires : goal.walk_entries-walk_entry-requires
walk_entries-walk_entry-requires g t c κs within =
    let wide : length c.get-entry.result.now ≡ entry_bytes c.args.wanted.now.layout =
    entry_wide c.args.entries.now c.loop-index.index c.get-entry.result.now c.get-entry.ensures ∙ c.requires.entries in
    search rules

pub walk_entries-returns-in_err-walk_entry-clause-damaged : goal.walk_entries-returns-in_err-walk_entry-clause-damaged
walk_entries-returns-in_err-walk_entry-clause-damaged g t c = λ is tied page count held.
    let p = err_from_is_err_and c.from_residual.result c.from_residual.ensures.1 in
    let why : c.in_err-walk_entry.field-0.0 ≡ refusal.DamagedFile = cc (p.1, p.2, is) in
    let later = g.met.P.Pages.keeps_tied c.args.pages.now c.loop-index.pages c.loop-index.invariant.rests.below tied in
    held_no_entry (λ bytes cells. g.S.Summary.says bytes (joined g.S.Summary.unit g.S.Summary.join g.S.Summary.of cells)) c.args.wanted.now.layout (g.P.Pages.store c.args.pages.now).map c.args.wanted.now.low.now c.args.wanted.now.high.now (listed c.args.entries.now) page count held
    c.args.levels c.loop-index.index c.get-entry.result.now (g.P.Pages.store c.loop-index.pages).map c.args.left.now c.loop-index.left c.get-entry.ensures
    (c.loop-index.invariant.rests.rests.keeps.pages tied) (c.loop-index.invariant.once tied page count held) (c.in_err-walk_entry.ensures.damaged (ap Err why) later)

pub walk_entries-loop-index-preserved : goal.walk_entries-loop-index-preserved
walk_entries-loop-index-preserved g t c = record {
  rests = rests_then g.P.Pages.is_tied g.P.Pages.store g.P.Pages.keeps tt (Ok tt) c.args.pages.now c.loop-index.pages c.walk_entry.new.pages
      g.met.P.Pages.keeps_trans g.met.P.Pages.keeps_tied c.loop-index.invariant.rests c.in_ok-walk_entry.ensures.rests;
  width = c.in_ok-walk_entry.ensures.width;
  ends = omega (arith, c.len-index-end.ensures);
  fewer = omega (arith, c.loop-index.invariant.fewer, c.in_ok-walk_entry.ensures.fewer);
  walks = λ tied test computes accepts page count held.
      let later = g.met.P.Pages.keeps_tied c.args.pages.now c.loop-index.pages c.loop-index.invariant.rests.below tied in
      held_walks_next (λ bytes cells. g.S.Summary.says bytes (joined g.S.Summary.unit g.S.Summary.join g.S.Summary.of cells)) c.args.wanted.now.layout (g.P.Pages.store c.args.pages.now).map c.args.wanted.now.low.now c.args.wanted.now.high.now (listed c.args.entries.now) page count held (λ cell. test (g.S.Summary.of cell))
      c.loop-index.index c.get-entry.result.now (g.P.Pages.store c.loop-index.pages).map
      (listed c.args.cells.now) (listed c.loop-index.cells) (listed c.walk_entry.new.cells) c.args.left.now c.loop-index.left c.walk_entry.new.left
      c.get-entry.ensures (c.loop-index.invariant.rests.rests.keeps.pages tied) (c.loop-index.invariant.walks tied test computes accepts page count held)
      (c.in_ok-walk_entry.ensures.walks later test computes accepts);
  once = λ tied page count held.
      let later = g.met.P.Pages.keeps_tied c.args.pages.now c.loop-index.pages c.loop-index.invariant.rests.below tied in
      held_reads_next (λ bytes cells. g.S.Summary.says bytes (joined g.S.Summary.unit g.S.Summary.join g.S.Summary.of cells)) c.args.wanted.now.layout (g.P.Pages.store c.args.pages.now).map c.args.wanted.now.low.now c.args.wanted.now.high.now (listed c.args.entries.now) page count held
      c.loop-index.index c.get-entry.result.now (g.P.Pages.store c.loop-index.pages).map c.args.left.now c.loop-index.left c.walk_entry.new.left
      c.get-entry.ensures (c.loop-index.invariant.rests.rests.keeps.pages tied) (c.loop-index.invariant.once tied page count held) (c.in_ok-walk_entry.ensures.once later);
}

pub walk_entries-returns-clause-walks : goal.walk_entries-returns-clause-walks
walk_entries-returns-clause-walks g t c = λ tied test computes accepts page count held.
    held_walks_all (λ bytes cells. g.S.Summary.says bytes (joined g.S.Summary.unit g.S.Summary.join g.S.Summary.of cells)) c.args.wanted.now.layout (g.P.Pages.store c.args.pages.now).map c.args.wanted.now.low.now c.args.wanted.now.high.now (listed c.args.entries.now) page count held (λ cell. test (g.S.Summary.of cell))
    c.loop-index.index (listed c.args.cells.now) (listed c.loop-index.cells) c.args.left.now c.loop-index.left (omega (arith, c.len-index-end.ensures, c.loop-index.invariant.ends))
    (c.loop-index.invariant.walks tied test computes accepts page count held)

pub walk_entries-returns-clause-once : goal.walk_entries-returns-clause-once
walk_entries-returns-clause-once g t c = λ tied page count held.
    held_reads_all (λ bytes cells. g.S.Summary.says bytes (joined g.S.Summary.unit g.S.Summary.join g.S.Summary.of cells)) c.args.wanted.now.layout (g.P.Pages.store c.args.pages.now).map c.args.wanted.now.low.now c.args.wanted.now.high.now (listed c.args.entries.now) page count held
    c.loop-index.index c.args.left.now c.loop-index.left (c.loop-index.invariant.once tied page count held)

pub walk_entry-returns-then-not-accepts-clause-walks : goal.walk_entry-returns-then-not-accepts-clause-walks
walk_entry-returns-then-not-accepts-clause-walks g t c = λ tied test computes accepts.
    let form : Form = form_in g.S.Summary c.args.wanted.now.layout in
    let reads = λ (s : g.row.S.Denot) (says : g.S.Summary.says (take c.args.wanted.now.layout.summary (drop child_bytes c.args.entry.now)) s).
    c.read.ensures s (subst (λ bytes. g.S.Summary.says bytes s) (sym c.summary.ensures.bytes) says) in
    let answered : c.accepts.result ≡ false = search rules in
    walks_rejected form (g.P.Pages.store c.args.pages.now).map c.args.entry.now c.args.wanted.now.low.now c.args.wanted.now.high.now (λ cell. test (g.S.Summary.of cell)) (listed c.args.cells.now) c.args.left.now
    (λ height part told.
    answer_told g.S.Summary.unit g.S.Summary.join g.S.Summary.of g.S.Summary.says c.args.wanted.now.layout.summary c.args.wanted.now.layout.width (FnReturnsAt g.F.Fn c.args.wanted.now.keep.now) test c.read.result c.accepts.result c.args.entry.now
    g.met.S.Summary.unit_last accepts computes c.accepts.ensures reads height part told ∙ answered)

pub walk_entry-returns-clause-walks : goal.walk_entry-returns-clause-walks
walk_entry-returns-clause-walks g t c =
    let form : Form = form_in g.S.Summary c.args.wanted.now.layout in
    let reads = λ (s : g.row.S.Denot) (says : g.S.Summary.says (take c.args.wanted.now.layout.summary (drop child_bytes c.args.entry.now)) s).
    c.read.ensures s (subst (λ bytes. g.S.Summary.says bytes s) (sym c.summary.ensures.bytes) says) in
    let answered : c.accepts.result ≡ true = search rules in
    λ tied test computes accepts.
    on_ok c.walk.result (c.walk.ensures.walks tied test computes accepts) (λ walks.
    let here = subst (λ n. Walks form (g.P.Pages.store c.args.pages.now).map n c.args.wanted.now.low.now c.args.wanted.now.high.now (λ cell. test (g.S.Summary.of cell)) (listed c.args.cells.now) (listed c.walk.new.cells) c.args.left.now c.walk.new.left)
    c.child-number.ensures walks in
    walks_accepted form (g.P.Pages.store c.args.pages.now).map c.args.entry.now c.args.wanted.now.low.now c.args.wanted.now.high.now (λ cell. test (g.S.Summary.of cell)) (listed c.args.cells.now) (listed c.walk.new.cells) c.args.left.now c.walk.new.left
    (λ height part told.
    answer_told g.S.Summary.unit g.S.Summary.join g.S.Summary.of g.S.Summary.says c.args.wanted.now.layout.summary c.args.wanted.now.layout.width (FnReturnsAt g.F.Fn c.args.wanted.now.keep.now) test c.read.result c.accepts.result c.args.entry.now
    g.met.S.Summary.unit_last accepts computes c.accepts.ensures reads height part told ∙ answered) here)
