-- The empty tree has no cell; of another the root tells.
use Rattle.std.proofs.Common.{◌≡◌, Bool, Result, Err, IfErr, sym, ◌∙◌, subst, arith}
use Rattle.std.proofs.lemmas.Bool.{eq-eqb, eqb-true}
use Rattle.std.proofs.lemmas.Result.{err_from_is_err_and}
use Rattle.rs_refusal.specs.declared.refusal.Refusal.{Refusal}
use Rattle.rs_records.specs.Listed.{listed}
use Rattle.rs_tree.specs.Calls.{RefusesToRead}
use Rattle.rs_tree.specs.Form.{Form}
use Rattle.rs_tree.specs.Forms.{form_in}
use Rattle.rs_btree.proofs.Roots.{empty_tells, no_top-no_tree, read_refuses, root_tells}
use Rattle.rs_btree.proofs.lookup.has_each.Goals as goal

pub returns-then-number-eq0-clause-found : goal.returns-then-number-eq0-clause-found
returns-then-number-eq0-clause-found g c = λ tied all used tree.
    empty_tells (form_in g.S.Summary c.args.layout) (g.P.Pages.store c.args.pages.now).map c.args.root (listed c.args.cells.now) all used _
    (λ is. sym c.len.ensures ∙ eqb-true c.len.result 0 is, λ none. eq-eqb c.len.result 0 (c.len.ensures ∙ none)) (omega (arith, c.number.ensures, c.if-number-eq0.true)) tree

pub returns-in_err-place-clause-refused : goal.returns-in_err-place-clause-refused
returns-in_err-place-clause-refused g c =
    let form : Form = form_in g.S.Summary c.args.layout in
    let p = err_from_is_err_and c.from_residual.result c.from_residual.ensures.1 in
    let why : Refusal = c.in_err-place.field-0.0 in
    let told : c.from_residual.result ≡ Err why = cc (p.1, p.2) in
    let old = g.P.Pages.store c.args.pages.now in
    let new = g.P.Pages.store c.first_of_all.new.pages in
    subst (λ (r : Result Bool Refusal). IfErr r (λ w. RefusesToRead (g.P.Pages.is_tied c.args.pages.now) form c.args.root w old new)) (sym told)
    (read_refuses g.P.Pages.is_tied g.P.Pages.store g.P.Pages.keeps form c.args.root (Err why) c.args.pages.now c.first_of_all.new.pages
    c.in_err-place.ensures.rests c.in_err-place.ensures.refused
    (λ is tied. no_top-no_tree form (g.P.Pages.store c.args.pages.now).map c.args.root c.count-count.result
    (λ zero. omega (arith, c.number.ensures, c.if-number-eq0.false, zero)) c.count-count.ensures.count c.count-count.type_inv (c.in_err-place.ensures.damaged is tied)))

pub returns-clause-found : goal.returns-clause-found
returns-clause-found g c = λ tied all used tree.
    let cells = listed c.args.cells.now in
    root_tells (form_in g.S.Summary c.args.layout) (g.P.Pages.store c.args.pages.now).map c.args.root cells all used _ c.in_ok-place.place
    (λ is. eqb-true c.in_ok-place.place c.len-2.result is ∙ c.len-2.ensures, λ same. eq-eqb c.in_ok-place.place c.len-2.result (same ∙ sym c.len-2.ensures))
    c.in_ok-place.ensures.within (λ zero. omega (arith, c.number.ensures, c.if-number-eq0.false, zero)) (c.in_ok-place.ensures.found tied) tree
