-- A summary has the same bytes always.
use Rattle.std.proofs.Common.{sym, subst}
use Rattle.rs_tree_whole.proofs.saying.says.Goals as goal

pub returns : goal.returns
returns g c = (
  λ same. subst (λ bytes. g.S.Summary.says bytes c.args.whole) (sym (c.are_same.ensures.0 same)) c.write.ensures,
  λ told. c.are_same.ensures.1 (g.met.S.Summary.says_same c.args.bytes.now c.write.new.bytes c.args.whole told c.write.ensures),
)
