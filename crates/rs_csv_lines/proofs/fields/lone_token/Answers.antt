use Rattle.std.proofs.Common.{arith, subst}
use Rattle.rs_lexer.specs.Lexis.{at_end, at_token, IsLongestToken}
use Rattle.rs_csv_lines.proofs.fields.lone_token.Goals as goal

pub returns : goal.returns
returns c = at_token c.in_ok-kind.kind c.in_ok-kind.length (subst (λ bytes. IsLongestToken bytes c.in_ok-kind.kind c.in_ok-kind.length) c.as_bytes.ensures.value c.in_ok-kind.ensures) (at_end (omega arith))
