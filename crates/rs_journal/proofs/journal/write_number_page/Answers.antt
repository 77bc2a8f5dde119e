-- The page that is written has the numbers of its places.
use Rattle.std.proofs.Common.{◌≡◌, ◌∙◌, ◌+◌, ◌*◌, ap, rules, arith}
use Rattle.rs_journal.proofs.Words.{numbers-written, on_ok_map}
use Rattle.rs_journal.proofs.journal.write_number_page.Goals as goal

pub returns-clause-written : goal.returns-clause-written
returns-clause-written g c = λ honest. on_ok_map c.write_page.result
    (λ holds. numbers-written c.args.first c.args.page _ _ _ _ _ (search rules) holds c.write_page.ensures.size
    (λ k lt below. let at : c.args.page * 1024 + k ≡ 1024 * c.args.page + k = omega arith in
    c.put_numbers.ensures k lt (omega arith) ∙ ap (g.C.Copies.number c.args.copies.now) at))
    (c.write_page.ensures.written honest)
