-- The cell is there exactly where the test accepts its summary.
use Rattle.std.proofs.Common.{◌≡◌, ◌++◌, [], ◌∷◌, true, false, sym, ap, ◌∙◌, rules}
use Rattle.std.proofs.lemmas.List.{append-nil}
use Rattle.rs_records.specs.Listed.{listed}
use Rattle.rs_tree.proofs.collect.push_if.Goals as goal

pub returns-in_ok-map_err-clause-pushed : goal.returns-in_ok-map_err-clause-pushed
returns-in_ok-map_err-clause-pushed g c = λ test computes.
    let yes : test (g.S.Summary.of c.args.cell.now) ≡ true = ap test (sym c.of.ensures) ∙ sym (computes.each c.of.result c.accepts.result c.accepts.ensures) ∙ c.if-accepts.true in
    let pushed : listed c.push.new.self ≡ listed c.args.cells.now ++ c.args.cell.now ∷ [] = search rules in
    rw yes pushed

pub returns-else-accepts-clause-pushed : goal.returns-else-accepts-clause-pushed
returns-else-accepts-clause-pushed g c = λ test computes.
    let none : test (g.S.Summary.of c.args.cell.now) ≡ false = ap test (sym c.of.ensures) ∙ sym (computes.each c.of.result c.accepts.result c.accepts.ensures) ∙ c.if-accepts.false in
    rw none (sym (append-nil (listed c.args.cells.now)))
