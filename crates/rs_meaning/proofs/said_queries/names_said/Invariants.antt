use Rattle.std.proofs.Common.{◌≡◌, take}
use Rattle.std.specs.Prelude.{map}
use Rattle.rs_lexer.specs.Lexis.{token_text}
use Rattle.rs_meaning.proofs.said_queries.names_said.Given as goal

abbrev pub invariant-loop-token : goal.invariant-loop-token
invariant-loop-token l = map (λ name. name.bytes) l.names.items ≡ map (token_text l.line) (take l.token-index l.written)
