-- The empty tree has no pages; from another root what the check of its part finds.
use Rattle.std.proofs.Common.{◌≡◌, Err, ap, arith}
use Rattle.std.proofs.lemmas.Result.{err_from_is_err_and}
use Rattle.rs_refusal.specs.declared.refusal.Refusal.TheVariants as refusal
use Rattle.rs_page_marks.specs.Marks.{taken}
use Rattle.rs_page_marks.proofs.Marking.{taken-le}
use Rattle.rs_tree.specs.Form.{joined}
use Rattle.rs_tree.specs.Forms.{form_in}
use Rattle.rs_tree_whole.proofs.Counting.{counted_none, counted_root}
use Rattle.rs_tree_whole.proofs.Reaching.{validates_none, validates_root, none_root}
use Rattle.rs_tree_whole.proofs.whole.validate.Goals as goal

pub returns-then-number-eq0-clause-checks : goal.returns-then-number-eq0-clause-checks
returns-then-number-eq0-clause-checks g c = λ tied.
    record {
      validates = validates_none (form_in g.S.Summary c.args.layout) (g.P.Pages.store c.args.pages.now).map c.args.root (taken c.args.reached.now) (omega (arith, c.number.ensures));
      counted = λ cells used tree.
          counted_none (form_in g.S.Summary c.args.layout) (g.P.Pages.store c.args.pages.now).map c.args.root cells used tree (omega (arith, c.number.ensures));
      damaged = λ is. absurd (cc);
    }

pub returns-in_err-part-clause-checks : goal.returns-in_err-part-clause-checks
returns-in_err-part-clause-checks g c = λ tied.
    let p = err_from_is_err_and c.from_residual.result c.from_residual.ensures.1 in
    record {
      validates = rw (p.1) tt;
      counted = rw (p.1) tt;
      damaged = λ is.
          let why : c.in_err-part.field-0.0 ≡ refusal.DamagedFile = cc (p.1, p.2, is) in
          none_root (form_in g.S.Summary c.args.layout) (g.P.Pages.store c.args.pages.now).map c.args.root (taken c.args.reached.now) (λ zero. omega (arith, c.number.ensures, zero)) c.in_err-part.ensures.few (c.in_err-part.ensures.damaged (ap Err why) tied);
    }

pub returns-clause-checks : goal.returns-clause-checks
returns-clause-checks g c = λ tied.
    record {
      validates = validates_root (form_in g.S.Summary c.args.layout) (g.P.Pages.store c.args.pages.now).map c.args.root (joined g.S.Summary.unit g.S.Summary.join g.S.Summary.of) (taken c.args.reached.now) (taken c.check_part.new.reached) c.in_ok-part.part.height c.in_ok-part.part.total c.in_ok-part.part.whole (taken-le c.check_part.new.reached) (c.in_ok-part.ensures.reaches tied);
      counted = λ cells used tree.
          counted_root (form_in g.S.Summary c.args.layout) (g.P.Pages.store c.args.pages.now).map c.args.root cells used tree (joined g.S.Summary.unit g.S.Summary.join g.S.Summary.of) (taken c.args.reached.now) (taken c.check_part.new.reached) c.in_ok-part.part.height c.in_ok-part.part.total c.in_ok-part.part.whole c.args.layout.some c.in_ok-part.ensures.few (taken-le c.check_part.new.reached) (c.in_ok-part.ensures.reaches tied);
      damaged = λ is. absurd (cc);
    }
