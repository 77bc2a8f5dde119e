use Rattle.std.proofs.Common.{ℕ, subst}
use Rattle.std.specs.Prelude.{OnErr}
use Rattle.rs_measure.specs.Part.{SaysPart}
use Rattle.rs_meaning.proofs.meaning.part.Goals as goal

pub returns-clause-refused : goal.returns-clause-refused
returns-clause-refused c = subst (λ text. OnErr c.read_part.result ((n : ℕ) → SaysPart text n → ⊥)) c.text.ensures c.read_part.ensures.refused
