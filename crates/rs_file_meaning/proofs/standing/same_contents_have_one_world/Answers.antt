use Rattle.rs_file_meaning.proofs.SameWorld.{same_world}
use Rattle.rs_file_meaning.proofs.standing.same_contents_have_one_world.Goals as goal

pub returns : goal.returns
returns c = same_world
