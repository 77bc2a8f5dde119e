-- All are left.
use Rattle.std.proofs.Common.{◌≡◌, replicate, false, sym, ap, ◌∙◌, rules}
use Rattle.rs_page_marks.specs.Marks.{unmarked}
use Rattle.rs_page_marks.proofs.Marking.{unmarked_none}
use Rattle.rs_page_marks.proofs.reached.Reached.new.Goals as goal

pub invariant_of-result : goal.invariant_of-result
invariant_of-result c =
    let items : c.in_ok-marks.marks.items ≡ replicate c.args.count false = search rules in
    sym (ap unmarked items ∙ unmarked_none c.args.count)
