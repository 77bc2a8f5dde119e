-- What the descent finds in the tokens before a bracket too many is what the tokens are.
use Rattle.std.proofs.Common.{◌≡◌, ℕ, suc, true, false, ◌+◌, ◌-◌, ◌<◌, ◌≤◌, List, [], ◌∷◌, ◌++◌, length, take, drop, Option, Some, Result, Ok, Err, refl, sym, ap, ◌∙◌, subst, inl, inr, ⊎_elim, append_assoc, append-nil, arith, length-append, length-take-le}
use Rattle.std.specs.Prelude.{◌⊎◌, All, if◌then◌else◌}
use Rattle.std.proofs.lemmas.List.{take_at, take_all, take-take}
use Rattle.rs_refusal.specs.declared.refusal.Refusal.{Refusal}
use Rattle.rs_refusal.specs.declared.refusal.Refusal.TheVariants.{Syntax}
use Rattle.rs_grammar.specs.declared.kind.TokenKind.{TokenKind}
use Rattle.rs_lexer.specs.declared.token.Token.{Token}
use Rattle.rs_lexer.specs.Lexis.{kinds_of, IsTokenOf}
use Rattle.rs_grammar.specs.Grammar.{rules, command_form, IsCommand, IsViable, IsShallow}
use Rattle.rs_syntax.specs.Written.{Written, mark, told, has_text, spelling, lexemes_of, IsToldOf, AreToldOf}
use Rattle.rs_grammar.specs.Reading.{Runs, StopsAt}
use Rattle.rs_syntax.specs.Verdict.{FitsNoRule, IsWritten, Parses, is_fault, fault_column}
use Rattle.rs_syntax.proofs.BracketLaws.{is_shallow-front, take-kinds_of}
use Rattle.rs_grammar.proofs.GrammarLaws as law
use Rattle.rs_grammar.proofs.GrammarLaws.{front_of, is_viable, is_not_viable, is_no_command, is_command}

read_of : {tokens : List TokenKind} {outcome : Result (List TokenKind) (Option (List TokenKind))} → Runs command_form tokens outcome → law.Read tokens outcome
unfolding rules
read_of run = run

-- the tokens before those left
abbrev Before : List TokenKind → List TokenKind → Type 0
Before tokens left = (front : List TokenKind) × (tokens ≡ front ++ left)

before : (tokens left : List TokenKind) → StopsAt tokens (Some left) → Before tokens left
before tokens left s = ⊎_elim (λ p. front_of tokens (Ok left) (read_of p.1)) (λ run. front_of tokens (Err (Some left)) (read_of run)) s

stops : (tokens left : List TokenKind) → StopsAt tokens (Some left) → law.StopsAt tokens left
stops tokens left s = ⊎_elim (λ p. inl (read_of p.1)) (λ run. inr (read_of run)) s

-- where reading stops in the first n tokens, which are shallow, the tokens fit no rule
module _ (tokens : List TokenKind) (n : ℕ) (left : List TokenKind) (inside : n ≤ length tokens) (shallow : IsShallow (take n tokens))
    (deep : n < length tokens → IsShallow (take (n + 1) tokens) → ⊥) (stop : StopsAt (take n tokens) (Some left)) where
  front : List TokenKind
  front = (before (take n tokens) left stop).0

  cut : take n tokens ≡ front ++ left
  unfolding front
  cut = (before (take n tokens) left stop).1

  lengths : length front + length left ≡ n
  lengths = sym (length-append front left) ∙ ap length (sym cut) ∙ length-take-le n tokens inside

  pub left_fits : length left ≤ n
  left_fits = omega (arith, lengths)

  place : n - length left ≡ length front
  place = omega (arith, lengths)

  front_is : take (n - length left) tokens ≡ front
  front_is =
      sym (take-take (n - length left) n tokens (omega arith)) ∙ ap (take (n - length left)) cut ∙ take_at front left (n - length left) (sym place)

  next_is : (kind : TokenKind) (others : List TokenKind) → left ≡ kind ∷ others → take (n - length left + 1) tokens ≡ front ++ kind ∷ []
  next_is kind others e =
      let more : length left ≡ suc (length others) = ap length e in
      let regrouped : front ++ left ≡ (front ++ kind ∷ []) ++ others = ap (λ ts. front ++ ts) e ∙ sym (append_assoc front (kind ∷ []) others) in
      sym (take-take (n - length left + 1) n tokens (omega (arith, lengths))) ∙ ap (take (n - length left + 1)) (cut ∙ regrouped)
      ∙ take_at (front ++ kind ∷ []) others (n - length left + 1) (length-append front (kind ∷ []) ∙ omega (arith, place))

  stops_there : (ts : List TokenKind) → left ≡ ts → n - length left < length tokens → (IsViable (take (n - length left + 1) tokens) → ⊥) ⊎ (IsShallow (take (n - length left + 1) tokens) → ⊥)
  stops_there [] e lt =
      let none : length left ≡ 0 = ap length e in
      let at : n - length left ≡ n = omega arith in
      inr (λ s. deep (omega arith) (subst (λ m. IsShallow (take (m + 1) tokens)) at s))
  stops_there (kind ∷ others) e lt =
      inl (λ v. is_not_viable (take n tokens) front others kind (subst (law.StopsAt (take n tokens)) e (stops (take n tokens) left stop)) (cut ∙ ap (λ ts. front ++ ts) e) (subst IsViable (next_is kind others e) v))

  no_command_there : (ts : List TokenKind) → left ≡ ts → n - length left ≡ length tokens → IsCommand tokens → ⊥
  no_command_there (kind ∷ others) e at command = let more : length left ≡ suc (length others) = ap length e in absurd (omega (arith, left_fits))
  no_command_there [] e at command =
      let none : length left ≡ 0 = ap length e in
      let whole : take n tokens ≡ tokens = take_all n tokens (omega arith) in
      ⊎_elim
      (λ p. absurd (omega (arith, p.0)))
      (λ run. is_no_command tokens (subst (λ ts. law.Read ts (Err (Some []))) whole (subst (λ l. law.Read (take n tokens) (Err (Some l))) e (read_of run))) command)
      stop

  pub fits_no_rule : FitsNoRule tokens (n - length left)
  fits_no_rule = record {
    inside = omega arith;
    viable = subst IsViable (sym front_is) (is_viable (take n tokens) left front (stops (take n tokens) left stop) cut);
    shallow = subst IsShallow (sym front_is) (is_shallow-front 0 front left (subst (λ ts. IsShallow ts) cut shallow));
    stops = stops_there left refl;
    ends = no_command_there left refl;
  }

-- the first n tokens are a command, and with the next there is a bracket too many
pub too_many_brackets : (tokens : List TokenKind) (n : ℕ) → n < length tokens → IsShallow (take n tokens) → (IsShallow (take (n + 1) tokens) → ⊥)
    → Runs command_form (take n tokens) (Ok []) → FitsNoRule tokens n
too_many_brackets tokens n inside shallow deep run = record {
  inside = omega arith;
  viable = ([], subst IsCommand (sym (append-nil (take n tokens))) (is_command (take n tokens) (read_of run)));
  shallow = shallow;
  stops = λ lt. inr deep;
  ends = λ e command. absurd (omega arith);
}

-- where no bracket is one too many, a command read whole is how the tokens are written
pub is_written : (tokens : List Token) (n : ℕ) (written : Written) → n ≡ length tokens → IsShallow (take n (kinds_of tokens))
    → Runs command_form (kinds_of (take n tokens)) (Ok []) → lexemes_of (take n tokens) ≡ spelling written → IsWritten tokens written
is_written tokens n written e shallow run spelled =
    let whole : take n tokens ≡ tokens = take_all n tokens (omega arith) in
    let all : take n (kinds_of tokens) ≡ kinds_of tokens = take-kinds_of n tokens ∙ ap kinds_of whole in
    record {
      command = subst (λ ts. IsCommand (kinds_of ts)) whole (is_command (kinds_of (take n tokens)) (read_of run));
      shallow = subst IsShallow all shallow;
      spelled = ap lexemes_of (sym whole) ∙ spelled;
    }

-- the column of the fault
pub parses_fault : (line : List ℕ) (tokens : List Token) (place : ℕ) (refusal : Refusal) → FitsNoRule (kinds_of tokens) place → refusal ≡ Syntax (fault_column line (drop place tokens)) → Parses line tokens (Err refusal)
parses_fault line tokens place refusal fault e = subst (λ r. Parses line tokens (Err r)) (sym e) (is_fault place fault)

-- the tokens of a line are what their lexemes tell
pub told_of : (line : List ℕ) (tokens : List Token) → All (IsTokenOf line) tokens → AreToldOf line (lexemes_of tokens)
told_of line [] all = tt
told_of line (token ∷ tokens) all = (
  elim (has_text token.kind) as (λ b. IsToldOf line (if b then told token.kind token else mark token.kind)) [ true ↦ (all 0 token (omega arith), refl) | false ↦ tt ],
  told_of line tokens (λ k d h. all (suc k) d (omega arith)),
)
