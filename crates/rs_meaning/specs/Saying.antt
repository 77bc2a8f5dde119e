-- What the functions that say what a line means answer where there is no meaning.
use Rattle.std.specs.Prelude.{◌≡◌, ◌⊎◌}
use Rattle.rs_refusal.specs.declared.refusal.Refusal.{Refusal}
use Rattle.rs_refusal.specs.declared.refusal.Refusal.TheVariants.{OutOfMemory, NumberOutOfRange}

-- why there is no meaning: a growth was refused, or no tree is said by the tokens, a number being out of its range
abbrev pub NothingSaid : {Tree : Type 0} → (Tree → Type 0) → Refusal → Type 0
NothingSaid {Tree} says refusal = (refusal ≡ OutOfMemory) ⊎ ((refusal ≡ NumberOutOfRange) × ((tree : Tree) → says tree → ⊥))
