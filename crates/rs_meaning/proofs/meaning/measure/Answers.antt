use Rattle.std.proofs.Common.{ℕ, subst}
use Rattle.std.specs.Prelude.{OnErr}
use Rattle.rs_measure.specs.Measure.{SaysMeasure}
use Rattle.rs_meaning.proofs.meaning.measure.Goals as goal

pub returns-clause-refused : goal.returns-clause-refused
returns-clause-refused c = subst (λ text. OnErr c.read_measure.result ((n : ℕ) → SaysMeasure text n → ⊥)) c.text.ensures c.read_measure.ensures.refused
