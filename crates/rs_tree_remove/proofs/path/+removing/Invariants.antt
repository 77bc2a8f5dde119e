-- Each level is two steps.
use Rattle.std.proofs.Common.{◌*◌, ◌+◌}
use Rattle.rs_tree_remove.proofs.path.+removing.Given as goal

abbrev pub decreases-remove_below : goal.decreases-remove_below
decreases-remove_below g l = 2 * l.levels + 1

abbrev pub decreases-remove_under : goal.decreases-remove_under
decreases-remove_under g l = 2 * l.levels
