-- The referents of the cells that were found, as far as the version sees them.
use Rattle.std.proofs.Common.{◌≡◌, ℕ, List, filter, subst, sym}
use Rattle.std.proofs.lemmas.Result.{err_from_is_err_and}
use Rattle.std.specs.List.{AllZip}
use Rattle.rs_records.specs.Listed.{listed}
use Rattle.rs_tree.specs.Calls.{RefusesToRead}
use Rattle.rs_tree.specs.Cells.{cells_within}
use Rattle.rs_tree.specs.Tree.{IsTree}
use Rattle.rs_versioned.specs.Referents.{SaysReferent, is_referent_of}
use Rattle.rs_versioned.proofs.InTables.{in_layout}
use Rattle.rs_versioned.proofs.OnRoutes.{referents_seen}
use Rattle.rs_versioned.proofs.referent_table.RecordTable+Referents.visible.Goals as goal

pub returns-in_err-found-clause-refused : goal.returns-in_err-found-clause-refused
returns-in_err-found-clause-refused g c =
    let layout = c.new-layout.result in
    let p = err_from_is_err_and c.from_residual.result c.from_residual.ensures.1 in
    rw (p.1, p.2)
    (in_layout (λ form root. RefusesToRead (g.P.Pages.is_tied c.args.pages.now) form root c.in_err-found.field-0.0 (g.P.Pages.store c.args.pages.now) (g.P.Pages.store c.range.new.pages))
    layout.summary layout.width c.width.result c.root.result c.args.self.now.working.root c.new-layout.ensures.summary c.new-layout.ensures.width c.width.ensures.width c.root.ensures
    c.in_err-found.ensures.refused)

pub returns-in-Ok-clause-found : goal.returns-in-Ok-clause-found
returns-in-Ok-clause-found g c = λ tied referents used accepted holds.
    let old = (g.P.Pages.store c.args.pages.now).map in
    let layout = c.new-layout.result in
    let finds = in_layout (λ form root. (cells : List (List ℕ)) (used : ℕ → ℕ) → IsTree form old root cells used → listed c.in_ok-found.found ≡ cells_within c.beginning-low.result c.beginning-high.result cells)
    layout.summary layout.width c.width.result c.root.result c.args.self.now.working.root c.new-layout.ensures.summary c.new-layout.ensures.width c.width.ensures.width c.root.ensures
    (c.in_ok-found.ensures.found tied) in
    subst (λ (cells : List (List ℕ)). AllZip SaysReferent cells (filter (is_referent_of c.args.version c.args.route) referents)) (sym c.in-Ok.ensures.seen)
    (referents_seen c.args.version c.args.route c.beginning-low.result c.beginning-high.result (listed c.in_ok-found.found) holds.cells referents c.requires.route c.beginning-low.ensures c.beginning-high.ensures
    (finds holds.cells used holds.holds.tree) holds.say)
