-- What a session says.
use Rattle.std.specs.Prelude.{ℕ, List}
use Rattle.rs_machine.specs.Request.{Asks, command}
use Rattle.rs_syntax.specs.Tree.{CommandTree}

-- some line of the session asks this command
pub record IsSaid (session : ℕ) (tree : CommandTree) : Type 0 where
  pub line : List ℕ
  pub asks : Asks line (command session tree)
