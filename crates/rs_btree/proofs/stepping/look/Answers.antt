-- Where no page is lent, none of a tree's has the number.
use Rattle.rs_tree.proofs.Loading.{no_fit-no_node}
use Rattle.rs_btree.proofs.stepping.look.Goals as goal

pub returns-in-Err-clause-refused : goal.returns-in-Err-clause-refused
returns-in-Err-clause-refused g c =
    let a = c.in-Err.ensures.refused in
    record { cause = a.cause; damaged = λ tied is. no_fit-no_node _ _ _ (a.damaged tied is) }
