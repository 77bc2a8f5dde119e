-- The text of a line has an answer, and the command of it keeps to what a command keeps to.
use Rattle.std.proofs.Common.{◌≡◌, ℕ, zero, suc, ◌+◌, ◌-◌, ◌<◌, ◌≤◌, List, [], ◌∷◌, ◌++◌, length, take, drop, Some, Result, Ok, Err, IfOk, refl, sym, ◌∙◌, subst, inl, inr, ⊎_elim, append-nil, arith}
use Rattle.std.specs.Prelude.{IsTrue}
use Rattle.std.proofs.lemmas.Bool.{cases_eq, cases_Bool, false≢true}
use Rattle.rs_refusal.specs.declared.refusal.Refusal.{Refusal}
use Rattle.rs_refusal.specs.declared.refusal.Refusal.TheVariants.{UnknownCharacter, Syntax, NumberOutOfRange}
use Rattle.rs_grammar.specs.declared.kind.TokenKind.{TokenKind}
use Rattle.rs_grammar.specs.Grammar.{command_form, is_shallow, IsShallow}
use Rattle.rs_lexer.specs.declared.token.Token.{Token}
use Rattle.rs_lexer.specs.Lexis.{kinds_of}
use Rattle.rs_value.specs.Values.{is_text}
use Rattle.rs_syntax.specs.Tree.{CommandTree}
use Rattle.rs_syntax.specs.Sound.{IsSound}
use Rattle.rs_syntax.specs.Written.{Written, spelling, Says, lexemes_of, AreToldOf, IsFull}
use Rattle.rs_grammar.specs.Reading.{Runs, StopsAt}
use Rattle.rs_syntax.specs.Verdict.{fault_column, FitsNoRule, IsWritten, Parses, is_fault, is_command, is_out_of_range, Reads, has_no_tokens, has_tokens}
use Rattle.rs_syntax.proofs.BracketLaws.{length-kinds_of, take-kinds_of}
use Rattle.rs_syntax.proofs.VerdictLaws.{told_of, fits_no_rule, too_many_brackets, is_written}
use Rattle.rs_syntax.proofs.EveryCut.{CutCases, cut_cases}
use Rattle.rs_measure.proofs.SaidOrNot.{Cases}
use Rattle.rs_syntax.proofs.CommandRanges.{says_cases}
use Rattle.rs_syntax.proofs.CommandDescent.{Reading, Full, read_whole}
use Rattle.rs_syntax.proofs.OneAnswer.{Readings, reads_same}
use Rattle.rs_syntax.proofs.SoundLaws.{sound}
use Rattle.rs_lexer.proofs.CutLaws.{cut_inside}

-- how many tokens stand before the first that opens a bracket too many
record Shallow (tokens : List TokenKind) (n : ℕ) : Type 0 where
  inside : n ≤ length tokens
  shallow : IsShallow (take n tokens)
  too_deep : n < length tokens → IsShallow (take (n + 1) tokens) → ⊥

shallow_from : (tokens : List TokenKind) (fuel n : ℕ) → n + fuel ≡ length tokens → IsShallow (take n tokens) → (m : ℕ) × Shallow tokens m
shallow_from tokens zero n all before = (n, record { inside = omega arith; shallow = before; too_deep = λ lt more. omega arith })
shallow_from tokens (suc fuel) n all before =
    ⊎_elim
    (λ more. shallow_from tokens fuel (n + 1) (omega arith) more)
    (λ deep. (n, record { inside = omega arith; shallow = before; too_deep = λ lt more. false≢true (sym deep ∙ more) }))
    (cases_Bool (is_shallow 0 (take (n + 1) tokens)))

shallow_count : (tokens : List TokenKind) → (m : ℕ) × Shallow tokens m
shallow_count tokens = shallow_from tokens (length tokens) 0 (omega arith) refl

-- an answer, whose command keeps to what a command keeps to
abbrev Answered : List ℕ → List Token → Type 0
Answered line tokens = (answer : Result CommandTree Refusal) × Parses line tokens answer × (IsTrue (is_text line) → IfOk answer IsSound)

-- a first token that fits no rule
at_fault : (line : List ℕ) (tokens : List Token) (place : ℕ) → FitsNoRule (kinds_of tokens) place → Answered line tokens
at_fault line tokens place fault = (Err (Syntax (fault_column line (drop place tokens))), is_fault place fault, λ clean. tt)

-- a command as it is written, whose numbers are in their ranges, or not
in_range : (line : List ℕ) (tokens : List Token) (written : Written) → AreToldOf line (lexemes_of tokens) → IsFull written → IsWritten tokens written → Cases (Says line tokens written) → Answered line tokens
in_range line tokens written told full is (inl said) = (Ok said.0, is_command written said.0 is said.1, λ clean. sound line tokens written said.0 clean full (subst (AreToldOf line) is.spelled told) said.1)
in_range line tokens written told full is (inr none) = (Err NumberOutOfRange, is_out_of_range written is none, λ clean. tt)

-- Reading the tokens before a bracket too many.
module _ (line : List ℕ) (tokens : List Token) (told : AreToldOf line (lexemes_of tokens)) (n : ℕ) (brackets : Shallow (kinds_of tokens) n) where
  stopped : (left : List TokenKind) → StopsAt (kinds_of (take n tokens)) (Some left) → Answered line tokens
  stopped left stop =
      at_fault line tokens (n - length left) (fits_no_rule (kinds_of tokens) n left brackets.inside brackets.shallow brackets.too_deep (subst (λ ts. StopsAt ts (Some left)) (sym (take-kinds_of n tokens)) stop))

  read_all : (written : Written) → IsFull written → Runs command_form (kinds_of (take n tokens)) (Ok []) → lexemes_of (take n tokens) ≡ spelling written → Answered line tokens
  read_all written full run spelled =
      ⊎_elim
      (λ whole. in_range line tokens written told full (is_written tokens n written whole brackets.shallow run spelled) (says_cases line tokens written))
      (λ other.
      let lt : n < length (kinds_of tokens) = omega (arith, brackets.inside, length-kinds_of tokens, other) in
      at_fault line tokens n (too_many_brackets (kinds_of tokens) n lt brackets.shallow (brackets.too_deep lt) (subst (λ ts. Runs command_form ts (Ok [])) (sym (take-kinds_of n tokens)) run)))
      (cases_eq n (length tokens))

  read_some : (rest : List Token) (written : Written) → IsFull written → Runs command_form (kinds_of (take n tokens)) (Ok (kinds_of rest)) → lexemes_of (take n tokens) ≡ spelling written ++ lexemes_of rest → Answered line tokens
  read_some [] written full run spelled = read_all written full run (spelled ∙ append-nil (spelling written))
  read_some (token ∷ rest) written full run spelled = stopped (kinds_of (token ∷ rest)) (inl (omega arith, run))

  answered : Reading command_form (take n tokens) (Full (take n tokens)) → Answered line tokens
  answered (inl found) = read_some found.0 found.2.0 found.2.2 found.1 found.2.1.spelled
  answered (inr stop) = stopped stop.0 (inr stop.1)

parsed : (line : List ℕ) (tokens : List Token) → AreToldOf line (lexemes_of tokens) → Answered line tokens
parsed line tokens told = let count = shallow_count (kinds_of tokens) in answered line tokens told count.0 count.1 (read_whole (take count.0 tokens))

-- a line's answer, whose command keeps to what a command keeps to
abbrev SoundAnswer : List ℕ → ℕ → Type 0
SoundAnswer line from = (answer : Result CommandTree Refusal) × Reads line from answer × (IsTrue (is_text line) → IfOk answer IsSound)

of_cut : (line : List ℕ) (from : ℕ) → CutCases line from → SoundAnswer line from
of_cut line from (inl cut) =
    let parse = parsed line cut.0 (told_of line cut.0 (cut_inside line cut.1)) in
    (parse.0, has_tokens cut.0 parse.0 cut.1 parse.1, parse.2)
of_cut line from (inr none) = (Err UnknownCharacter, has_no_tokens none, λ clean. tt)

-- a line has an answer
pub reads_some : (line : List ℕ) (from : ℕ) → SoundAnswer line from
reads_some line from = of_cut line from (cut_cases line from)

-- a command that a line says keeps to what a command keeps to
pub reads_sound : Readings → (line : List ℕ) (from : ℕ) (tree : CommandTree) → IsTrue (is_text line) → Reads line from (Ok tree) → IsSound tree
reads_sound one line from tree clean reads =
    let some = reads_some line from in subst (λ answer. IfOk answer IsSound) (reads_same one line from some.1 reads) (some.2 clean)
