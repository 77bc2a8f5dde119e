use Rattle.rs_csv_lines.proofs.Units.{rest_nothing, rest_half, rest_below, rest_above}
use Rattle.rs_csv_lines.proofs.numbers.even_rest.Goals as goal

pub returns-then-digit-eq48 : goal.returns-then-digit-eq48
returns-then-digit-eq48 c = λ zeros are none. rest_nothing c.args.digit zeros (c.requires.0, c.requires.1, are) c.if-digit-eq48.true none

pub returns-then-digit-eq53 : goal.returns-then-digit-eq53
returns-then-digit-eq53 c = λ zeros are none. rest_half c.args.digit zeros (c.requires.0, c.requires.1, are) c.if-digit-eq53.true none

pub returns-then-digit-lt53 : goal.returns-then-digit-lt53
returns-then-digit-lt53 c = λ zeros are none. rest_below c.args.digit zeros (c.requires.0, c.requires.1, are) c.if-digit-lt53.true

pub returns-else-digit-lt53 : goal.returns-else-digit-lt53
returns-else-digit-lt53 c = λ zeros are none. rest_above c.args.digit zeros (c.requires.0, c.requires.1, are) c.if-digit-lt53.false (λ is. absurd (c.if-digit-eq53.false is))
