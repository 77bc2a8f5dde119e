-- By the last entry of each inner page, to the last cell of a leaf.
use Rattle.std.proofs.Common.{◌≡◌, ◌-◌, ◌++◌, [], ◌∷◌, Ok, Err, Some, ℕ, List, Vec, Global, slice_get, sym, ◌∙◌, subst, arith}
use Rattle.std.proofs.lemmas.Result.{IfOk-weaker, err_from_is_err_and}
use Rattle.rs_refusal.specs.declared.refusal.Refusal.TheVariants as refusal
use Rattle.rs_page.specs.declared.header.PageKind.TheVariants as kind
use Rattle.rs_records.specs.Records.{records}
use Rattle.rs_records.proofs.RecordLists.{length-records}
use Rattle.rs_tree.specs.Content.{content}
use Rattle.rs_tree.specs.Form.{form_of, joined}
use Rattle.rs_tree.proofs.Lists.{inside_has}
use Rattle.rs_tree.specs.Layouts.{entry_bytes}
use Rattle.rs_tree.specs.Node.{IsNode}
use Rattle.rs_tree.specs.declared.node.Node.TheVariants.{Leaf, Inner}
use Rattle.rs_tree.proofs.Entering.{records_fit}
use Rattle.rs_pages.proofs.Resting.{rests_none, rests_then}
use Rattle.rs_cell_versions.specs.Looking.{IsAbove}
use Rattle.rs_cell_versions.proofs.LastCells.{LeadsTo, above_none, leads_first, leads_inner, leads_leaf, leads_nowhere, no_node_before}
use Rattle.rs_cell_versions.proofs.Refusing.{never_damaged, rests_err, rests_made, rests_ok}
use Rattle.rs_cell_versions.proofs.bounding.bound_above.Goals as goal

pub returns-then-number-eq0-clause-bounds : goal.returns-then-number-eq0-clause-bounds
returns-then-number-eq0-clause-bounds g c = λ tied. record {
  above = above_none (form_of g.S.Summary.says g.S.Summary.unit g.S.Summary.join g.S.Summary.of c.args.layout.summary c.args.layout.width) (g.P.Pages.store c.args.pages.now).map c.args.root c.new.result.items (omega (arith, c.number.ensures));
  damaged = λ is. absurd (cc);
}

pub down-init : goal.down-init
down-init g c = record {
  rests = rests_none g.P.Pages.is_tied g.P.Pages.store g.P.Pages.keeps tt c.args.pages.now (g.met.P.Pages.keeps_refl c.args.pages.now);
  leads = λ tied.
      leads_first (form_of g.S.Summary.says g.S.Summary.unit g.S.Summary.join g.S.Summary.of c.args.layout.summary c.args.layout.width) (g.P.Pages.store c.args.pages.now).map c.args.root c.count-left.result (λ zero. c.if-number-eq0.false (c.number.ensures ∙ zero)) c.count-left.ensures.count;
}

pub returns-in_err-node-clause-rests : goal.returns-in_err-node-clause-rests
returns-in_err-node-clause-rests g c =
    let p = err_from_is_err_and c.from_residual.result c.from_residual.ensures.1 in
    rw (p.1, p.2) (rests_then g.P.Pages.is_tied g.P.Pages.store g.P.Pages.keeps {U = Vec ℕ Global} tt (Err c.in_err-node.field-0.0) c.args.pages.now c.down.pages c.load.new.pages g.met.P.Pages.keeps_trans g.met.P.Pages.keeps_tied
    c.down.invariant.rests (rests_err g.P.Pages.is_tied g.P.Pages.store g.P.Pages.keeps c.in_err-node.field-0.0 c.down.pages c.load.new.pages c.in_err-node.ensures.rests))

pub returns-in_err-node-clause-bounds : goal.returns-in_err-node-clause-bounds
returns-in_err-node-clause-bounds g c = λ tied.
    let p = err_from_is_err_and c.from_residual.result c.from_residual.ensures.1 in
    record {
      above = rw p.1 tt;
      damaged = λ is.
          let why : c.in_err-node.field-0.0 ≡ refusal.DamagedFile = cc (p.1, p.2, is) in
          let later = g.met.P.Pages.keeps_tied c.args.pages.now c.down.pages c.down.invariant.rests.below tied in
          let same = c.down.invariant.rests.rests.keeps.pages tied in
          leads_nowhere (λ bytes cells. g.S.Summary.says bytes (joined g.S.Summary.unit g.S.Summary.join g.S.Summary.of cells)) c.args.layout (g.P.Pages.store c.args.pages.now).map c.args.root c.down.number c.down.left (c.down.invariant.leads tied)
          (λ some. no_node_before (g.P.Pages.store c.args.pages.now).map (g.P.Pages.store c.down.pages).map c.down.number c.args.layout same (c.in_err-node.ensures.refused.damaged later why some));
    }

pub after_last-requires-clause-fit : goal.after_last-requires-clause-fit
after_last-requires-clause-fit g c =
    let node : IsNode c.load.new.copy.bytes c.down.number c.args.layout (Leaf c.in-Leaf.count) =
    subst (IsNode c.load.new.copy.bytes c.down.number c.args.layout) c.in-Leaf.is c.in_ok-node.ensures.loaded.node in
    records_fit c.load.new.copy.bytes kind.Leaf c.down.number c.in-Leaf.count c.args.layout.width node.0

pub returns-in-Leaf-clause-rests : goal.returns-in-Leaf-clause-rests
returns-in-Leaf-clause-rests g c =
    rests_made g.P.Pages.is_tied g.P.Pages.store g.P.Pages.keeps {T = Unit {0}} tt c.after_last.result c.args.pages.now c.load.new.pages c.after_last.ensures.refused
    (rests_then g.P.Pages.is_tied g.P.Pages.store g.P.Pages.keeps {U = Unit {0}} tt (Ok tt) c.args.pages.now c.down.pages c.load.new.pages g.met.P.Pages.keeps_trans g.met.P.Pages.keeps_tied
    c.down.invariant.rests (rests_ok g.P.Pages.is_tied g.P.Pages.store g.P.Pages.keeps c.in_ok-node.node tt c.down.pages c.load.new.pages c.in_ok-node.ensures.rests))

pub returns-in-Leaf-clause-bounds : goal.returns-in-Leaf-clause-bounds
returns-in-Leaf-clause-bounds g c = λ tied.
    let node : IsNode c.load.new.copy.bytes c.down.number c.args.layout (Leaf c.in-Leaf.count) =
    subst (IsNode c.load.new.copy.bytes c.down.number c.args.layout) c.in-Leaf.is c.in_ok-node.ensures.loaded.node in
    let later = g.met.P.Pages.keeps_tied c.args.pages.now c.down.pages c.down.invariant.rests.below tied in
    let lent = sym ((c.down.invariant.rests.rests.keeps.pages tied).pages c.down.number) ∙ c.in_ok-node.ensures.loaded.bytes later in
    let bytes : List ℕ = content c.load.new.copy.bytes in
    let last = inside_has (records c.in-Leaf.count c.args.layout.width bytes) (c.in-Leaf.count - 1) (omega (arith, length-records c.in-Leaf.count c.args.layout.width bytes, node.1)) in
    record {
      above = IfOk-weaker c.after_last.result (λ bound. (cell : List ℕ) → slice_get (records c.in-Leaf.count c.args.layout.width bytes) (c.in-Leaf.count - 1) ≡ Some cell → bound.items ≡ cell ++ 0 ∷ [])
          (λ bound. IsAbove (form_of g.S.Summary.says g.S.Summary.unit g.S.Summary.join g.S.Summary.of c.args.layout.summary c.args.layout.width) (g.P.Pages.store c.args.pages.now).map c.args.root bound.items)
          (λ bound after. subst (IsAbove (form_of g.S.Summary.says g.S.Summary.unit g.S.Summary.join g.S.Summary.of c.args.layout.summary c.args.layout.width) (g.P.Pages.store c.args.pages.now).map c.args.root) (sym (after last.0 last.1))
          (leads_leaf (λ bytes cells. g.S.Summary.says bytes (joined g.S.Summary.unit g.S.Summary.join g.S.Summary.of cells)) c.args.layout (g.P.Pages.store c.args.pages.now).map c.args.root c.down.number c.down.left (c.down.invariant.leads tied) c.load.new.copy.bytes lent c.in-Leaf.count node last.0 0 last.1))
          c.after_last.ensures.after;
      damaged = λ is. absurd (never_damaged c.after_last.result c.after_last.ensures.refused is);
    }

pub last_child-number-requires-clause-fit : goal.last_child-number-requires-clause-fit
last_child-number-requires-clause-fit g c =
    let node : IsNode c.load.new.copy.bytes c.down.number c.args.layout (Inner c.in-Inner.count) =
    subst (IsNode c.load.new.copy.bytes c.down.number c.args.layout) c.in-Inner.is c.in_ok-node.ensures.loaded.node in
    records_fit c.load.new.copy.bytes kind.Inner c.down.number c.in-Inner.count (entry_bytes c.args.layout) node.0

pub down-preserved : goal.down-preserved
down-preserved g c =
    let node : IsNode c.load.new.copy.bytes c.down.number c.args.layout (Inner c.in-Inner.count) =
    subst (IsNode c.load.new.copy.bytes c.down.number c.args.layout) c.in-Inner.is c.in_ok-node.ensures.loaded.node in
    record {
      rests = rests_then g.P.Pages.is_tied g.P.Pages.store g.P.Pages.keeps tt (Ok tt) c.args.pages.now c.down.pages c.load.new.pages g.met.P.Pages.keeps_trans g.met.P.Pages.keeps_tied
          c.down.invariant.rests (rests_ok g.P.Pages.is_tied g.P.Pages.store g.P.Pages.keeps c.in_ok-node.node tt c.down.pages c.load.new.pages c.in_ok-node.ensures.rests);
      leads = λ tied.
          let later = g.met.P.Pages.keeps_tied c.args.pages.now c.down.pages c.down.invariant.rests.below tied in
          let lent = sym ((c.down.invariant.rests.rests.keeps.pages tied).pages c.down.number) ∙ c.in_ok-node.ensures.loaded.bytes later in
          let bytes : List ℕ = content c.load.new.copy.bytes in
          let last = inside_has (records c.in-Inner.count (entry_bytes c.args.layout) bytes) (c.in-Inner.count - 1) (omega (arith, length-records c.in-Inner.count (entry_bytes c.args.layout) bytes, node.1)) in
          subst (λ (n : ℕ). LeadsTo (form_of g.S.Summary.says g.S.Summary.unit g.S.Summary.join g.S.Summary.of c.args.layout.summary c.args.layout.width) (g.P.Pages.store c.args.pages.now).map c.args.root n c.load.new.left) (sym (c.last_child-number.ensures last.0 last.1))
          (leads_inner (λ bytes cells. g.S.Summary.says bytes (joined g.S.Summary.unit g.S.Summary.join g.S.Summary.of cells)) c.args.layout (g.P.Pages.store c.args.pages.now).map c.args.root c.down.number c.down.left (c.down.invariant.leads tied) c.load.new.copy.bytes lent c.in-Inner.count c.load.new.left
          c.in_ok-node.ensures.counted node last.0 last.1);
    }
