-- Each level is two steps.
use Rattle.std.proofs.Common.{◌*◌, ◌+◌}
use Rattle.rs_tree_insert.proofs.path.+inserting.Given as goal

abbrev pub decreases-insert_below : goal.decreases-insert_below
decreases-insert_below g l = 2 * l.levels + 1

abbrev pub decreases-insert_under : goal.decreases-insert_under
decreases-insert_under g l = 2 * l.levels
