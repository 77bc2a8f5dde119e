-- What the pages of a file stand for.
use Rattle.rs_file.specs.Contents.{Contents, HoldsAll}
use Rattle.rs_file_meaning.specs.Meant.{IsMeant}
use Rattle.rs_file_meaning.specs.States.{IsState}
use Rattle.rs_machine.specs.Lawful.{AreViewsMeant}
use Rattle.rs_machine.specs.State.{State}
use Rattle.rs_pages.specs.PageMap.{PageMap}

-- The pages hold these contents, which are meant and have this state, without cursors. With no cursor the present version is the
-- oldest.
pub record StandsFor (pages : PageMap) (contents : Contents) (state : State) : Type 0 where
  pub holds : HoldsAll pages contents
  pub meant : IsMeant contents.directory.accepted contents
  pub is : IsState contents state
  pub views : AreViewsMeant state
