use Rattle.std.proofs.Common.{List, ◌∷◌, Option, Some, Result, inl, inr, ⊎_elim}
use Rattle.rs_grammar.specs.declared.kind.TokenKind.{TokenKind}
use Rattle.rs_grammar.specs.Grammar.{rules, command_form}
use Rattle.rs_grammar.specs.Reading.{Runs, StopsAt}
use Rattle.rs_grammar.proofs.GrammarLaws as law
use Rattle.rs_grammar.proofs.GrammarLaws.{is_command, is_no_command, is_viable, is_not_viable}
use Rattle.rs_grammar.proofs.reading_finds_the_first_fault.Goals as goal

read_of : {tokens : List TokenKind} {outcome : Result (List TokenKind) (Option (List TokenKind))} → Runs command_form tokens outcome → law.Read tokens outcome
unfolding rules
read_of run = run

stops : (tokens left : List TokenKind) → StopsAt tokens (Some left) → law.StopsAt tokens left
stops tokens left s = ⊎_elim (λ p. inl (read_of p.1)) (λ run. inr (read_of run)) s

pub returns-clause-command : goal.returns-clause-command
returns-clause-command c = λ tokens run. is_command tokens (read_of run)

pub returns-clause-no_command : goal.returns-clause-no_command
returns-clause-no_command c = λ tokens run command. is_no_command tokens (read_of run) command

pub returns-clause-viable : goal.returns-clause-viable
returns-clause-viable c = λ tokens left front s e. is_viable tokens left front (stops tokens left s) e

pub returns-clause-fault : goal.returns-clause-fault
returns-clause-fault c = λ tokens front left kind s e v. is_not_viable tokens front left kind (stops tokens (kind ∷ left) s) e v
