-- What is lent is all that follows.
use Rattle.std.proofs.lemmas.List.{take_rest}
use Rattle.rs_tree.specs.Content.{content}
use Rattle.rs_tree.proofs.node.after_header.Goals as goal

pub returns-clause-bytes : goal.returns-clause-bytes
unfolding content
returns-clause-bytes c = take_rest c.args.bytes.now 16
