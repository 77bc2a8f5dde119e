-- A line as words, each with a blank before it or not.
use Rattle.std.proofs.Common.{◌≡◌, ◌∙◌, ℕ, ◌+◌, Bool, true, false, cond, List, [], ◌∷◌, ◌++◌, length, drop, map, Some, Ok, refl, sym, ap, subst, arith, append_assoc, append-nil, length-drop}
use Rattle.std.specs.Prelude.{codes}
use Rattle.rs_grammar.specs.declared.kind.TokenKind.{TokenKind}
use Rattle.rs_grammar.specs.declared.kind.TokenKind.TheVariants as kinds
use Rattle.rs_lexer.specs.declared.token.Token.{Token}
use Rattle.rs_lexer.specs.Lexis.{AreTokensFrom, at_end, kinds_of, token_kind, token_text}
use Rattle.rs_syntax.specs.Tree.{CommandTree}
use Rattle.rs_syntax.specs.Verdict.{IsWritten, has_tokens, is_command}
use Rattle.rs_syntax.specs.Written.{Says, Written}
use Rattle.rs_machine.specs.Request.{Asks, command}
use Rattle.rs_machine_laws.specs.ViewLines.{IsReadable}
use Rattle.rs_csv_lines.proofs.Cuts.{Ends, Stops, after_here, blank_here, closing_kind, closing_stops, comma_kind, comma_stops, cut_here, opening_kind, opening_stops, stops, text_here, token_here}
use Rattle.rs_csv_lines.proofs.Sessions.{words_ask}

pub record Word : Type 0 where
  pub blank : Bool
  pub text : List ℕ
  pub kind : TokenKind

-- after a blank
abbrev pub word : List ℕ → TokenKind → Word
word text kind = record { blank = true; text = text; kind = kind }

-- with no blank before it
abbrev pub mark : List ℕ → TokenKind → Word
mark text kind = record { blank = false; text = text; kind = kind }

abbrev pub word_text : Word → List ℕ
word_text w = cond w.blank (32 ∷ w.text) w.text

abbrev pub words_text : List Word → List ℕ
words_text [] = []
words_text (w ∷ ws) = word_text w ++ words_text ws

abbrev pub kinds_in : List Word → List TokenKind
kinds_in words = map (λ w. w.kind) words

-- where a word begins that comes at a place, and where it ends
abbrev pub begins_at : ℕ → Word → ℕ
begins_at place w = cond w.blank (place + 1) place

abbrev pub ends_at : ℕ → Word → ℕ
ends_at place w = begins_at place w + length w.text

abbrev pub token_at : ℕ → Word → Token
token_at place w = token_here (begins_at place w) w.text w.kind

abbrev pub tokens_at : ℕ → List Word → List Token
tokens_at place [] = []
tokens_at place (w ∷ ws) = token_at place w ∷ tokens_at (ends_at place w) ws

-- where words end that come at a place
abbrev pub end_at : ℕ → List Word → ℕ
end_at place [] = place
end_at place (w ∷ ws) = end_at (ends_at place w) ws

-- each is a token, and none goes on with what follows it
pub data AreCut : List Word → List ℕ → Type 0 where
  none : {after : List ℕ} → AreCut [] after
  next : {w : Word} {ws : List Word} {after : List ℕ} → token_kind w.text ≡ Some w.kind → Stops w.text (words_text ws ++ after) → AreCut ws after → AreCut (w ∷ ws) after

-- a token before a separator, or at the end
pub ending : {w : Word} {ws : List Word} {after : List ℕ} → token_kind w.text ≡ Some w.kind → Ends (words_text ws ++ after) → AreCut ws after → AreCut (w ∷ ws) after
ending {w} {ws} {after} is ends more = next is (stops w.text (words_text ws ++ after) w.kind is ends) more

pub opening_bracket : {ws : List Word} {after : List ℕ} → AreCut ws after → AreCut (mark (codes "(") kinds.LeftParen ∷ ws) after
opening_bracket {ws} {after} more = next opening_kind (opening_stops (words_text ws ++ after)) more

pub closing_bracket : {ws : List Word} {after : List ℕ} → AreCut ws after → AreCut (mark (codes ")") kinds.RightParen ∷ ws) after
closing_bracket {ws} {after} more = next closing_kind (closing_stops (words_text ws ++ after)) more

pub comma_sign : {ws : List Word} {after : List ℕ} → AreCut ws after → AreCut (mark (codes ",") kinds.Comma ∷ ws) after
comma_sign {ws} {after} more = next comma_kind (comma_stops (words_text ws ++ after)) more

-- the tokens have the texts of the words
abbrev pub HaveTexts : List ℕ → ℕ → List Word → Type 0
HaveTexts line place [] = Unit {0}
HaveTexts line place (w ∷ ws) = (token_text line (token_at place w) ≡ w.text) × HaveTexts line (ends_at place w) ws

pub kinds_at : (place : ℕ) (words : List Word) → kinds_of (tokens_at place words) ≡ kinds_in words
kinds_at place [] = refl
kinds_at place (w ∷ ws) = ap (λ ks. w.kind ∷ ks) (kinds_at (ends_at place w) ws)

pub tokens_append : (place : ℕ) (xs ys : List Word) → tokens_at place (xs ++ ys) ≡ tokens_at place xs ++ tokens_at (end_at place xs) ys
tokens_append place [] ys = refl
tokens_append place (x ∷ xs) ys = ap (λ ts. token_at place x ∷ ts) (tokens_append (ends_at place x) xs ys)

pub text_append : (xs ys : List Word) → words_text (xs ++ ys) ≡ words_text xs ++ words_text ys
text_append [] ys = refl
text_append (x ∷ xs) ys = ap (λ t. word_text x ++ t) (text_append xs ys) ∙ sym (append_assoc (word_text x) (words_text xs) (words_text ys))

pub cut_append : (xs ys : List Word) (after : List ℕ) → AreCut xs (words_text ys ++ after) → AreCut ys after → AreCut (xs ++ ys) after
cut_append [] ys after one other = other
cut_append (x ∷ xs) ys after (next is ends more) other =
    next is (subst (Stops x.text) (sym (append_assoc (words_text xs) (words_text ys) after) ∙ ap (λ t. t ++ after) (sym (text_append xs ys))) ends) (cut_append xs ys after more other)

pub texts_append : (line : List ℕ) (place : ℕ) (xs ys : List Word) → HaveTexts line place (xs ++ ys) → HaveTexts line (end_at place xs) ys
texts_append line place [] ys have = have
texts_append line place (x ∷ xs) ys have = texts_append line (ends_at place x) xs ys have.1

pub texts_front : (line : List ℕ) (place : ℕ) (xs ys : List Word) → HaveTexts line place (xs ++ ys) → HaveTexts line place xs
texts_front line place [] ys have = tt
texts_front line place (x ∷ xs) ys have = (have.0, texts_front line (ends_at place x) xs ys have.1)

module _ (line : List ℕ) where
  -- what follows a word
  after_word_at : (place : ℕ) (w : Word) (rest : List ℕ) → drop place line ≡ word_text w ++ rest → drop (ends_at place w) line ≡ rest
  after_word_at place w rest at = by w.blank refl at
    where
      by : (b : Bool) → w.blank ≡ b → drop place line ≡ cond b (32 ∷ w.text) w.text ++ rest → drop (cond b (place + 1) place + length w.text) line ≡ rest
      by true e at = after_here line (place + 1) w.text rest (after_here line place (codes " ") (w.text ++ rest) at)
      by false e at = after_here line place w.text rest at

  text_of_word : (place : ℕ) (w : Word) (rest : List ℕ) → drop place line ≡ word_text w ++ rest → token_text line (token_at place w) ≡ w.text
  text_of_word place w rest at = by w.blank refl at
    where
      by : (b : Bool) → w.blank ≡ b → drop place line ≡ cond b (32 ∷ w.text) w.text ++ rest → token_text line (token_here (cond b (place + 1) place) w.text w.kind) ≡ w.text
      by true e at = text_here line (place + 1) w.text rest w.kind (after_here line place (codes " ") (w.text ++ rest) at)
      by false e at = text_here line place w.text rest w.kind at

  cut_word : (place : ℕ) (w : Word) (rest : List ℕ) → drop place line ≡ word_text w ++ rest → token_kind w.text ≡ Some w.kind → Stops w.text rest
      → (tokens : List Token) → AreTokensFrom line (ends_at place w) tokens → AreTokensFrom line place (token_at place w ∷ tokens)
  cut_word place w rest at is ends tokens cut = by w.blank refl at cut
    where
      by : (b : Bool) → w.blank ≡ b → drop place line ≡ cond b (32 ∷ w.text) w.text ++ rest → AreTokensFrom line (cond b (place + 1) place + length w.text) tokens
          → AreTokensFrom line place (token_here (cond b (place + 1) place) w.text w.kind ∷ tokens)
      by true e at cut = blank_here line place (w.text ++ rest) _ at (cut_here line (place + 1) w.text rest w.kind (after_here line place (codes " ") (w.text ++ rest) at) is ends tokens cut)
      by false e at cut = cut_here line place w.text rest w.kind at is ends tokens cut

  -- words are cut into their tokens
  pub cut_words : (place : ℕ) (words : List Word) → drop place line ≡ words_text words → AreCut words [] → AreTokensFrom line place (tokens_at place words)
  cut_words place [] at are = at_end (omega (arith, length-drop place line, ap length at))
  cut_words place (w ∷ ws) at (next is ends more) =
      cut_word place w (words_text ws) at is (subst (Stops w.text) (append-nil (words_text ws)) ends) (tokens_at (ends_at place w) ws) (cut_words (ends_at place w) ws (after_word_at place w (words_text ws) at) more)

  pub words_said : (place : ℕ) (words : List Word) → drop place line ≡ words_text words → HaveTexts line place words
  words_said place [] at = tt
  words_said place (w ∷ ws) at = (text_of_word place w (words_text ws) at, words_said (ends_at place w) ws (after_word_at place w (words_text ws) at))

-- ---- a line of session 0

-- A line of session 0 that is these words asks the command that they say.
pub asks_it : (words : List Word) (rest : List ℕ) (written : Written) (tree : CommandTree) → words_text words ≡ 32 ∷ rest → AreCut words [] → IsWritten (tokens_at 1 words) written
    → Says (48 ∷ words_text words) (tokens_at 1 words) written tree → IsReadable (48 ∷ words_text words) → Asks (48 ∷ words_text words) (command 0 tree)
asks_it words rest written tree begins cut is says readable =
    let line : List ℕ = 48 ∷ words_text words in
    words_ask line 0 1 rest tree (omega arith) readable.few readable.is_text (ap (λ t. 48 ∷ t) begins) refl
    (has_tokens (tokens_at 1 words) (Ok tree) (cut_words line 1 words refl cut) (is_command written tree is says))
