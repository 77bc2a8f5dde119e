-- Tokens of a line, part by part.
use Rattle.std.proofs.Common.{ℕ, List, [], ◌∷◌, ◌++◌}
use Rattle.rs_syntax.specs.Written.{Lexeme, AreToldOf}

pub AreToldOf-append : (line : List ℕ) (xs ys : List Lexeme) → AreToldOf line (xs ++ ys) → AreToldOf line xs × AreToldOf line ys
AreToldOf-append line [] ys told = (tt, told)
AreToldOf-append line (x ∷ xs) ys told = let p = AreToldOf-append line xs ys told.1 in ((told.0, p.0), p.1)
