-- A text whose longest token is a name, and is all of it.
use Rattle.std.proofs.Common.{◌≡◌, ◌≤◌, ℕ, Bool, true, List, [], ◌∷◌, length, take, take_all, Some, None, refl, sym, ap, subst, ◌∙◌, inl, inr, arith}
use Rattle.std.specs.Char.{is_ascii_alphabetic}
use Rattle.std.specs.List.{list_all}
use Rattle.std.proofs.lemmas.Bool.{false≢true, and_parts, cases_lt, le-leb}
use Rattle.rs_grammar.specs.Words.{IsWord, is_word_byte}
use denote.Enum.Bare.{sameb, same_true, true_same}
use Rattle.rs_grammar.specs.contracts.kind.TokenKind.{the_type}
use Rattle.rs_grammar.specs.declared.kind.TheConstants.{NAME_BYTES}
use Rattle.rs_grammar.specs.declared.kind.TokenKind.{TokenKind}
use Rattle.rs_grammar.specs.declared.kind.TokenKind.TheVariants as kinds
use Rattle.rs_lexer.specs.Lexis.{IsLongestToken, kind_in, reserved, token_kind, word_kind}
use Rattle.rs_lexer.proofs.TokenLaws.{is_word, tells}
use Rattle.rs_lexer.specs.Names.{IsName}

-- ---- a name and its kind

word_of : (bytes : List ℕ) → is_word bytes ≡ true → IsWord bytes
word_of [] is = absurd (false≢true is)
word_of (byte ∷ bytes) is = and_parts (is_ascii_alphabetic byte) (list_all is_word_byte bytes) is

name_of_kind : (text : List ℕ) → token_kind text ≡ Some kinds.Name → IsName text
name_of_kind text is = let told = tells text kinds.Name is in record { word = word_of text told.word; short = told.short; not_reserved = told.free }

pub not_empty : (text : List ℕ) → IsName text → text ≡ [] → ⊥
not_empty text is e = subst IsWord e is.word

free_word : (text : List ℕ) → kind_in reserved text ≡ None → length text ≤ NAME_BYTES → word_kind text ≡ kinds.Name
unfolding word_kind
free_word text free short = rw (free, le-leb (length text) NAME_BYTES short) refl

kind_of_word : (text : List ℕ) → IsWord text → word_kind text ≡ kinds.Name → token_kind text ≡ Some kinds.Name
unfolding token_kind
kind_of_word [] word is = absurd word
kind_of_word (letter ∷ bytes) word is = rw (word.0, word.1, is) refl

kind_of_name : (text : List ℕ) → IsName text → token_kind text ≡ Some kinds.Name
kind_of_name text name = kind_of_word text name.word (free_word text name.not_reserved name.short)

-- ---- kinds that a test compares

abbrev pub is_kind : TokenKind → TokenKind → Bool
is_kind = sameb the_type

pub kind_is : (kind other : TokenKind) → is_kind kind other ≡ true → kind ≡ other
kind_is kind other is = same_true the_type tt kind other is

pub is_same : (kind other : TokenKind) → kind ≡ other → is_kind kind other ≡ true
is_same kind other same = true_same the_type kind other same

-- ---- the longest token at the front

some_none : {kind : TokenKind} → Some kind ≡ None → ⊥
some_none e = cc

same_kind : (a b : TokenKind) → Some a ≡ Some b → a ≡ b
same_kind a b e = cc

-- a name is its own longest token
pub front_of_name : (text : List ℕ) (kind : TokenKind) (count : ℕ) → IsLongestToken text kind count → IsName text → (kind ≡ kinds.Name) × (count ≡ length text)
front_of_name text kind count front name = elim (cases_lt count (length text)) [
  | inl shorter ↦ absurd (some_none (sym (kind_of_name text name) ∙ ap token_kind (sym (take_all (length text) text (omega arith))) ∙ front.longest (length text) shorter (omega arith)))
  | inr whole ↦ (
    same_kind kind kinds.Name (sym front.token ∙ ap token_kind (take_all count text whole) ∙ kind_of_name text name),
    omega (arith, front.inside),
  )
]

pub name_at_front : (text : List ℕ) (kind : TokenKind) (count : ℕ) → IsLongestToken text kind count → kind ≡ kinds.Name → count ≡ length text → IsName text
name_at_front text kind count front is whole =
    name_of_kind text (ap token_kind (sym (take_all count text (omega arith))) ∙ front.token ∙ ap (λ k. Some k) is)

pub no_name : (text : List ℕ) → ((count : ℕ) → count ≤ length text → token_kind (take count text) ≡ None) → IsName text → ⊥
no_name text none name =
    some_none (sym (kind_of_name text name) ∙ ap token_kind (sym (take_all (length text) text (omega arith))) ∙ none (length text) (omega arith))
