-- The text of a line has one answer at the most.
use Rattle.std.proofs.Common.{◌≡◌, ℕ, ◌+◌, ◌<◌, ◌≤◌, List, ◌++◌, length, take, drop, Result, Ok, Err, refl, sym, ap, ◌∙◌, subst, ⊎_elim, append_assoc, arith, take-append-drop}
use Rattle.std.proofs.lemmas.Bool.{cases_order}
use Rattle.std.proofs.lemmas.List.{take-take}
use Rattle.rs_refusal.specs.declared.refusal.Refusal.{Refusal}
use Rattle.rs_refusal.specs.declared.refusal.Refusal.TheVariants.{Syntax}
use Rattle.rs_grammar.specs.declared.kind.TokenKind.{TokenKind}
use Rattle.rs_grammar.specs.Grammar.{IsCommand, IsViable, IsShallow}
use Rattle.rs_lexer.specs.declared.token.Token.{Token}
use Rattle.rs_lexer.specs.Lexis.{kinds_of}
use Rattle.rs_lexer.proofs.CutLaws.{cut_same}
use Rattle.rs_syntax.specs.Tree.{CommandTree}
use Rattle.rs_syntax.specs.Written.{Says}
use Rattle.rs_syntax.specs.Verdict.{fault_column, FitsNoRule, Parses, is_fault, is_command, is_out_of_range, Reads, has_no_tokens, has_tokens}
use Rattle.rs_syntax.proofs.BracketLaws.{is_shallow-front}
use Rattle.rs_syntax.proofs.CommandSpelling.{written_same}
use Rattle.rs_syntax.proofs.OneMeaning.{says_same}
pub use Rattle.rs_syntax.proofs.OneMeaning.{Readings}

-- a front of what begins a command begins one
viable_front : (front more : List TokenKind) → IsViable (front ++ more) → IsViable front
viable_front front more v = (more ++ v.0, subst IsCommand (append_assoc front more v.0) v.1)

front_of_take : (tokens : List TokenKind) (m n : ℕ) → m ≤ n → take n tokens ≡ take m tokens ++ drop m (take n tokens)
front_of_take tokens m n h = sym (take-append-drop m (take n tokens)) ∙ ap (λ ts. ts ++ drop m (take n tokens)) (take-take m n tokens h)

viable_take : (tokens : List TokenKind) (m n : ℕ) → m ≤ n → IsViable (take n tokens) → IsViable (take m tokens)
viable_take tokens m n h v = viable_front (take m tokens) (drop m (take n tokens)) (subst IsViable (front_of_take tokens m n h) v)

shallow_take : (tokens : List TokenKind) (m n : ℕ) → m ≤ n → IsShallow (take n tokens) → IsShallow (take m tokens)
shallow_take tokens m n h s = is_shallow-front 0 (take m tokens) (drop m (take n tokens)) (subst (λ ts. IsShallow ts) (front_of_take tokens m n h) s)

fault_below : (tokens : List TokenKind) (m n : ℕ) → FitsNoRule tokens m → FitsNoRule tokens n → m < n → ⊥
fault_below tokens m n a b h =
    ⊎_elim
    (λ no. no (viable_take tokens (m + 1) n (omega arith) b.viable))
    (λ no. no (shallow_take tokens (m + 1) n (omega arith) b.shallow))
    (a.stops (omega (arith, b.inside)))

-- there is one first token that fits no rule
fault_same : (tokens : List TokenKind) (m n : ℕ) → FitsNoRule tokens m → FitsNoRule tokens n → m ≡ n
fault_same tokens m n a b =
    ⊎_elim (λ e. e) (λ s. ⊎_elim (λ lt. absurd (fault_below tokens m n a b lt)) (λ gt. absurd (fault_below tokens n m b a gt)) s) (cases_order m n)

-- and none in a command
no_fault : (tokens : List TokenKind) (m : ℕ) → FitsNoRule tokens m → IsCommand tokens → IsShallow tokens → ⊥
no_fault tokens m a command shallow =
    ⊎_elim
    (λ e. a.ends e command)
    (λ s. ⊎_elim
    (λ lt. ⊎_elim
    (λ no. no (drop (m + 1) tokens, subst IsCommand (sym (take-append-drop (m + 1) tokens)) command))
    (λ no. no (is_shallow-front 0 (take (m + 1) tokens) (drop (m + 1) tokens) (subst (λ ts. IsShallow ts) (sym (take-append-drop (m + 1) tokens)) shallow)))
    (a.stops lt))
    (λ gt. let inside = a.inside in omega arith)
    s)
    (cases_order m (length tokens))

parses_same : Readings → (line : List ℕ) (tokens : List Token) {a b : Result CommandTree Refusal} → Parses line tokens a → Parses line tokens b → a ≡ b
parses_same one line tokens (is_fault m p) (is_fault n q) = ap (λ place. Err (Syntax (fault_column line (drop place tokens)))) (fault_same (kinds_of tokens) m n p q)
parses_same one line tokens (is_fault m p) (is_command w tree q says) = absurd (no_fault (kinds_of tokens) m p q.command q.shallow)
parses_same one line tokens (is_fault m p) (is_out_of_range w q none) = absurd (no_fault (kinds_of tokens) m p q.command q.shallow)
parses_same one line tokens (is_command w tree p says) (is_fault n q) = absurd (no_fault (kinds_of tokens) n q p.command p.shallow)
parses_same one line tokens (is_command v tree p says) (is_command w other q said) =
    ap Ok (says_same one line tokens w tree other (subst (λ u. Says line tokens u tree) (written_same v w (sym p.spelled ∙ q.spelled)) says) said)
parses_same one line tokens (is_command v tree p says) (is_out_of_range w q none) = absurd (none tree (subst (λ u. Says line tokens u tree) (written_same v w (sym p.spelled ∙ q.spelled)) says))
parses_same one line tokens (is_out_of_range w p none) (is_fault n q) = absurd (no_fault (kinds_of tokens) n q p.command p.shallow)
parses_same one line tokens (is_out_of_range v p none) (is_command w tree q says) = absurd (none tree (subst (λ u. Says line tokens u tree) (written_same w v (sym q.spelled ∙ p.spelled)) says))
parses_same one line tokens (is_out_of_range v p none) (is_out_of_range w q other) = refl

-- a line has one answer
pub reads_same : Readings → (line : List ℕ) (from : ℕ) {a b : Result CommandTree Refusal} → Reads line from a → Reads line from b → a ≡ b
reads_same one line from (has_no_tokens none) (has_no_tokens other) = refl
reads_same one line from (has_no_tokens none) (has_tokens tokens answer cut parses) = absurd (none tokens cut)
reads_same one line from (has_tokens tokens answer cut parses) (has_no_tokens none) = absurd (none tokens cut)
reads_same one line from (has_tokens tokens answer cut parses) (has_tokens others other same parsed) =
    parses_same one line tokens parses (subst (λ ts. Parses line ts other) (sym (cut_same line cut others same)) parsed)
