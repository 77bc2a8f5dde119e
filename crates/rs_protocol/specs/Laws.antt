-- Laws of the request stream.
use Rattle.std.specs.Prelude.{◌≡◌, ℕ, List, Result}
use Rattle.rs_refusal.specs.declared.refusal.Refusal.{Refusal}
use Rattle.rs_syntax.specs.Tree.{CommandTree}
use Rattle.rs_syntax.specs.Verdict.{Reads}
use Rattle.rs_machine.specs.Request.{Request, Asks}
use Rattle.rs_machine.specs.Stream.{IsCutIntoLines}

-- bytes are cut into lines and a rest in one way
abbrev pub HasOneCut : List ℕ → Type 0
HasOneCut bytes = (lines others : List (List ℕ)) (rest other : List ℕ) → IsCutIntoLines bytes lines rest → IsCutIntoLines bytes others other → (lines ≡ others) × (rest ≡ other)

-- what a text says from a place on is one thing
abbrev pub ReadsOneThing : Type 0
ReadsOneThing = (text : List ℕ) (from : ℕ) (one other : Result CommandTree Refusal) → Reads text from one → Reads text from other → one ≡ other

-- a line asks one thing
abbrev pub AsksOneThing : List ℕ → Type 0
AsksOneThing line = (one other : Request) → Asks line one → Asks line other → one ≡ other
