-- A place's two lines are its failure's.
use Rattle.std.proofs.Common.{◌++◌, ℕ, List, subst, sym}
use Rattle.std.specs.Prelude.{codes}
use Rattle.rs_protocol.specs.Puts.{Puts}
use Rattle.rs_server.specs.Saying.{failure_line, place_line}
use Rattle.rs_server.specs.declared.report.Failure.{Failure}
use Rattle.rs_server.proofs.report.say_failure.Goals as goal

pub returns-in-CannotOpen : goal.returns-in-CannotOpen
returns-in-CannotOpen g c =
    let before = g.E.Write.contents c.args.errors.now in
    let after = g.E.Write.contents c.say_place.new.errors in
    let said = λ (words : List ℕ). Puts c.say_place.result (codes "roadseg: cannot open file\n" ++ place_line c.in-CannotOpen.file.now words) before after in
    subst (λ (failure : Failure). Puts c.say_place.result (failure_line failure) before after) (sym c.in-CannotOpen.is) (subst said c.words.ensures c.say_place.ensures)

pub returns-in-CannotListen : goal.returns-in-CannotListen
returns-in-CannotListen g c =
    let before = g.E.Write.contents c.args.errors.now in
    let after = g.E.Write.contents c.say_place-in-CannotListen.new.errors in
    let said = λ (words : List ℕ). Puts c.say_place-in-CannotListen.result (codes "roadseg: cannot listen\n" ++ place_line c.in-CannotListen.address.now words) before after in
    subst (λ (failure : Failure). Puts c.say_place-in-CannotListen.result (failure_line failure) before after) (sym c.in-CannotListen.is)
    (subst said c.words-in-CannotListen.ensures c.say_place-in-CannotListen.ensures)
