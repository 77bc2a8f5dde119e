-- The empty tree has nothing; from another root what the walk finds.
use Rattle.std.proofs.Common.{◌≡◌, Err, ap, subst, sym, arith}
use Rattle.std.proofs.lemmas.Result.{err_from_is_err_and}
use Rattle.rs_records.specs.Listed.{listed}
use Rattle.rs_tree.specs.Form.{Form}
use Rattle.rs_tree.specs.Calls.{Finds}
use Rattle.rs_tree.specs.Walking.{Walks}
use Rattle.rs_tree.proofs.Searching.{empty_finds, walk_finds, no_part-no_tree, walk_refuses}
use Rattle.rs_tree.proofs.search.descend.Goals as goal
use Rattle.rs_tree.specs.Forms.{form_in}

pub returns-then-number-eq0-clause-found : goal.returns-then-number-eq0-clause-found
returns-then-number-eq0-clause-found g c = λ tied test computes accepts.
    let form : Form = form_in g.S.Summary c.args.layout in
    let zero : c.args.root ≡ 0 = omega (arith, c.number.ensures) in
    subst (λ found. Finds form (g.P.Pages.store c.args.pages.now).map c.args.root c.args.low.now c.args.high.now (λ cell. test (g.S.Summary.of cell)) found 0) (sym c.new-cells.ensures.none)
    (empty_finds form (g.P.Pages.store c.args.pages.now).map c.args.root c.args.low.now c.args.high.now (λ cell. test (g.S.Summary.of cell)) zero)

pub returns-in_err-walk-clause-refused : goal.returns-in_err-walk-clause-refused
returns-in_err-walk-clause-refused g c =
    let form : Form = form_in g.S.Summary c.args.layout in
    let p = err_from_is_err_and c.from_residual.result c.from_residual.ensures.1 in
    rw (p.1, p.2) (walk_refuses (g.P.Pages.is_tied c.args.pages.now) form c.args.root c.in_err-walk.field-0.0 (g.P.Pages.store c.args.pages.now) (g.P.Pages.store c.walk.new.pages)
    c.in_err-walk.ensures.refused
    (λ why tied. no_part-no_tree form (g.P.Pages.store c.args.pages.now).map c.args.root c.count-count.result (λ zero. omega (arith, c.number.ensures, zero)) c.count-count.ensures.count c.count-count.type_inv
    (c.in_err-walk.ensures.damaged (ap Err why) tied))
    c.in_err-walk.ensures.rests.count)

pub returns-clause-found : goal.returns-clause-found
returns-clause-found g c = λ tied test computes accepts.
    let form : Form = form_in g.S.Summary c.args.layout in
    let walks = subst (λ before. Walks form (g.P.Pages.store c.args.pages.now).map c.args.root c.args.low.now c.args.high.now (λ cell. test (g.S.Summary.of cell)) before (listed c.walk.new.cells) c.count-count.result c.walk.new.left)
    c.new-cells.ensures.none (c.in_ok-walk.ensures.walks tied test computes accepts) in
    walk_finds form (g.P.Pages.store c.args.pages.now).map c.args.root c.args.low.now c.args.high.now (λ cell. test (g.S.Summary.of cell)) (listed c.walk.new.cells) c.count-count.result c.walk.new.left
    (λ zero. omega (arith, c.number.ensures, zero)) walks
