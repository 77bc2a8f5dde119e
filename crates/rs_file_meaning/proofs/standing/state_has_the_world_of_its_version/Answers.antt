use Rattle.rs_file_meaning.proofs.SameWorld.{world_is}
use Rattle.rs_file_meaning.proofs.standing.state_has_the_world_of_its_version.Goals as goal

pub returns : goal.returns
returns c = world_is
