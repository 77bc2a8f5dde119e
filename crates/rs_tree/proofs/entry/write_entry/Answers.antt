-- The number, the summary and the least cell lie one after the other.
use Rattle.std.proofs.Common.{◌≡◌, ◌≤◌, ◌-◌, length, subst, sym, ◌∙◌, arith}
use Rattle.rs_tree.proofs.EntryBytes.{number_before, first_part, put_length, lent_length}
use Rattle.rs_tree.proofs.entry.write_entry.Goals as goal

pub returns-clause-child : goal.returns-clause-child
returns-clause-child g c =
    let end = c.least_from-end.result in
    let page = c.put_four.new.page in
    let long : end ≤ length page = omega (arith, c.put_four.auto.page, c.requires.entry, c.least_from-end.ensures.least) in
    let four : 4 ≤ end = omega (arith, c.least_from-end.ensures.after) in
    let size : length c.write.new.bytes ≡ end - 4 = lent_length 4 (end - 4) page c.write.new.bytes c.write.auto.bytes (omega arith) in
    let inside = put_length 4 (end - 4) page c.write.new.bytes (omega arith) size in
    number_before 4 end (end - 4) _ page c.write.new.bytes c.copy_from_slice.new.self four (omega arith) (omega (arith, inside)) ∙ c.put_four.ensures.value ∙ c.number.ensures

pub returns-clause-summary : goal.returns-clause-summary
returns-clause-summary g c =
    let end = c.least_from-end.result in
    let page = c.put_four.new.page in
    let long : end ≤ length page = omega (arith, c.put_four.auto.page, c.requires.entry, c.least_from-end.ensures.least) in
    let four : 4 ≤ end = omega (arith, c.least_from-end.ensures.after) in
    let size : length c.write.new.bytes ≡ end - 4 = lent_length 4 (end - 4) page c.write.new.bytes c.write.auto.bytes (omega arith) in
    let inside = put_length 4 (end - 4) page c.write.new.bytes (omega arith) size in
    let first = first_part 4 c.args.layout.summary end (end - 4) _ page c.write.new.bytes c.copy_from_slice.new.self
    (omega (arith, c.least_from-end.ensures.after)) (omega (arith, c.least_from-end.ensures.after)) (omega arith) (omega (arith, inside)) in
    subst (λ bytes. g.S.Summary.says bytes c.args.whole) (sym first) c.write.ensures
