-- The shortest line of a view is a line of session 0.
use Rattle.std.proofs.Common.{◌≡◌, ◌∙◌, ℕ, zero, suc, ◌-◌, ◌<◌, ◌≤◌, Bool, true, false, ◌&&◌, ◌||◌, not, List, [], ◌∷◌, ◌++◌, length, take, drop, Some, Ok, refl, sym, ap, subst, arith}
use Rattle.std.specs.Prelude.{◌==◌, IsTrue, codes, nat_le, nat_lt, if◌then◌else◌}
use Rattle.std.specs.Char.{is_ascii_alphabetic}
use Rattle.std.specs.List.{AllByRecursion, list_all, list_any}
use Rattle.std.specs.Str.{IsAscii, IsCharBoundary, IsUtf8, is_utf8}
use Rattle.std.proofs.lemmas.Bool.{and_parts, and_from}
use Rattle.std.proofs.lemmas.Bool.Decides.{nat_tests}
use Rattle.std.proofs.lemmas.List.{take-append-drop}
use Rattle.std.proofs.lemmas.List.Elements.{recursion_from_All}
use Rattle.std.proofs.lemmas.List.Folds.{list_any-append}
use Rattle.std.proofs.lemmas.Str.{IsUtf8-append, IsUtf8-between, IsUtf8-from_ascii, IsUtf8-from_is_utf8, IsUtf8-nil, is_utf8-from_IsUtf8}
use Rattle.rs_grammar.specs.Words.{is_word_byte}
use Rattle.rs_lexer.specs.declared.token.Token.{Token}
use Rattle.rs_lexer.specs.Lexis.{AreTokensFrom, IsTokenOf}
use Rattle.rs_lexer.proofs.CutLaws.{cut_inside}
use Rattle.rs_lexer.proofs.TokenLaws.{end_boundary, start_boundary}
use Rattle.rs_measure.specs.FixedPoint.{number_of_digits}
use Rattle.rs_methods.specs.PositionText.{IsWord}
use Rattle.rs_syntax.specs.Written.{end_of, text_of_tokens}
use Rattle.rs_syntax.specs.Sound.{IsSound}
use Rattle.rs_syntax.specs.Tree.{CommandTree, QueryTree, define_view}
use Rattle.rs_syntax.specs.Verdict.{Reads}
use Rattle.rs_syntax_laws.proofs.Cuts.{end_after, from_first}
use Rattle.rs_syntax_laws.proofs.ViewTexts.{view_cut_out}
use Rattle.rs_value.specs.Values.{is_control, is_text}
use Rattle.rs_machine.specs.declared.limits.TheConstants.{LINE_BYTES}
use Rattle.rs_machine.specs.Request.{Asks, CARRIAGE_RETURN, command, session_digits, without_return}
use Rattle.rs_machine.proofs.ReadableLines.{readable_text}
use Rattle.rs_machine_laws.specs.ViewLines.{IsReadable, shortest_view_line}
use Rattle.rs_machine_laws.proofs.Names.{either_false}
use Rattle.rs_machine_laws.proofs.Checked.{not_true}
use Rattle.rs_machine_laws.proofs.ViewLines.{shortest_says}
use Rattle.rs_machine_laws.proofs.ViewLineLengths.{shortest_fits}

-- ---- texts

not_from : (b : Bool) → b ≡ false → not b ≡ true
not_from b e = ap not e

text_parts : (bytes : List ℕ) → IsTrue (is_text bytes) → IsUtf8 bytes × (list_any is_control bytes ≡ false)
text_parts bytes is =
    let parts = and_parts (is_utf8 bytes) (not (list_any is_control bytes)) is in
    (IsUtf8-from_is_utf8 bytes parts.0, not_true (list_any is_control bytes) parts.1)

text_from : (bytes : List ℕ) → IsUtf8 bytes → list_any is_control bytes ≡ false → IsTrue (is_text bytes)
text_from bytes u plain = and_from (is_utf8 bytes) (not (list_any is_control bytes)) (is_utf8-from_IsUtf8 bytes u) (not_from (list_any is_control bytes) plain)

both_false : (a b : Bool) → a ≡ false → b ≡ false → a || b ≡ false
both_false true b e f = e
both_false false b e f = f

text_append : (a b : List ℕ) → IsTrue (is_text a) → IsTrue (is_text b) → IsTrue (is_text (a ++ b))
text_append a b x y =
    let one = text_parts a x in
    let two = text_parts b y in
    text_from (a ++ b) (IsUtf8-append a b one.0 two.0) (list_any-append is_control a b ∙ both_false (list_any is_control a) (list_any is_control b) one.1 two.1)

split_plain : (n : ℕ) (bytes : List ℕ) → list_any is_control bytes ≡ false → (list_any is_control (take n bytes) ≡ false) × (list_any is_control (drop n bytes) ≡ false)
split_plain n bytes plain =
    either_false (list_any is_control (take n bytes)) (list_any is_control (drop n bytes))
    (sym (list_any-append is_control (take n bytes) (drop n bytes)) ∙ ap (list_any is_control) (take-append-drop n bytes) ∙ plain)

-- ---- names

-- from the blank to ~
abbrev is_printed : ℕ → Bool
is_printed byte = nat_le 32 byte && nat_le byte 126

printed_ascii : (byte : ℕ) → is_printed byte ≡ true → byte < 128
printed_ascii byte is = grind (arith, nat_tests)

printed_plain : (byte : ℕ) → is_printed byte ≡ true → is_control byte ≡ false
printed_plain byte is = grind (arith, nat_tests)

one_ascii : (byte : ℕ) → byte < 128 → IsAscii (byte ∷ [])
one_ascii byte below zero = below
one_ascii byte below (suc i) = omega arith

printed_text : (bytes : List ℕ) → list_all is_printed bytes ≡ true → IsTrue (is_text bytes)
printed_text [] all = text_from [] IsUtf8-nil refl
printed_text (byte ∷ bytes) all =
    let parts = and_parts (is_printed byte) (list_all is_printed bytes) all in
    let ascii = IsUtf8-from_ascii (byte ∷ []) (one_ascii byte (printed_ascii byte parts.0)) in
    text_append (byte ∷ []) bytes (text_from (byte ∷ []) ascii (both_false (is_control byte) false (printed_plain byte parts.0) refl)) (printed_text bytes parts.1)

word_printed : (byte : ℕ) → is_word_byte byte ≡ true → is_printed byte ≡ true
word_printed byte is = grind (arith, nat_tests)

all_printed : (bytes : List ℕ) → list_all is_word_byte bytes ≡ true → list_all is_printed bytes ≡ true
all_printed [] all = refl
all_printed (byte ∷ bytes) all =
    let parts = and_parts (is_word_byte byte) (list_all is_word_byte bytes) all in
    and_from (is_printed byte) (list_all is_printed bytes) (word_printed byte parts.0) (all_printed bytes parts.1)

letter_printed : (byte : ℕ) → IsTrue (is_ascii_alphabetic byte) → is_printed byte ≡ true
letter_printed byte is = grind (arith, nat_tests)

pub name_text : (name : List ℕ) → IsWord name → IsTrue (is_text name)
name_text [] is = absurd is
name_text (letter ∷ bytes) is = printed_text (letter ∷ bytes) (and_from (is_printed letter) (list_all is_printed bytes) (letter_printed letter is.0) (all_printed bytes is.1))

-- ---- the text of some tokens

end_at : (line : List ℕ) → IsUtf8 line → (token : Token) (tokens : List Token) → AllByRecursion (IsTokenOf line) (token ∷ tokens) → IsCharBoundary line (end_of (token ∷ tokens))
end_at line u token [] all = end_boundary line token all.0 u
end_at line u token (next ∷ tokens) all = end_at line u next tokens all.1

pub tokens_text : (line : List ℕ) (place : ℕ) (tokens : List Token) → AreTokensFrom line place tokens → IsTrue (is_text line) → IsTrue (is_text (text_of_tokens line tokens))
tokens_text line place [] cut is = text_from [] IsUtf8-nil refl
tokens_text line place (token ∷ tokens) cut is =
    let parts = text_parts line is in
    let all : AllByRecursion (IsTokenOf line) (token ∷ tokens) = recursion_from_All (IsTokenOf line) (token ∷ tokens) (cut_inside line cut) in
    let end = end_of (token ∷ tokens) in
    let ends : token.first ≤ end = end_after line (from_first line token tokens cut) in
    text_from (text_of_tokens line (token ∷ tokens))
    (IsUtf8-between line token.first end parts.0 ends (start_boundary line token all.0) (end_at line parts.0 token tokens all))
    (split_plain (end - token.first) (drop token.first line) (split_plain token.first line parts.1).1).0

-- ---- the line

pub shortest_text : (name text : List ℕ) → IsWord name → IsTrue (is_text text) → IsTrue (is_text (shortest_view_line name text))
shortest_text name text word is =
    text_append (codes "0 DEFINE VIEW ") (name ++ (codes " AS " ++ text)) (printed_text (codes "0 DEFINE VIEW ") refl)
    (text_append name (codes " AS " ++ text) (name_text name word) (text_append (codes " AS ") text (printed_text (codes " AS ") refl) is))

no_return : (byte : ℕ) → is_control byte ≡ false → (byte == CARRIAGE_RETURN) ≡ false
no_return byte plain = grind (arith, nat_tests)

-- text has no CR to leave out
without_none : (line : List ℕ) → list_any is_control line ≡ false → without_return line ≡ line
without_none [] plain = refl
without_none (byte ∷ []) plain = ap (λ b. if b then [] else byte ∷ []) (no_return byte (either_false (is_control byte) false plain).0)
without_none (byte ∷ next ∷ bytes) plain = ap (λ rest. byte ∷ rest) (without_none (next ∷ bytes) (either_false (is_control byte) (list_any is_control (next ∷ bytes)) plain).1)

not_long : (n : ℕ) → n ≤ LINE_BYTES → nat_lt LINE_BYTES n ≡ false
not_long n few = grind (arith, nat_tests)

-- a line of session 0 asks what its text says
pub asks_as_zero : (line : List ℕ) (tree : CommandTree) → length line ≤ LINE_BYTES → IsTrue (is_text line) → session_digits line ≡ Some 1 → 0 ≡ number_of_digits (take 1 line) → Reads line 1 (Ok tree) → Asks line (command 0 tree)
asks_as_zero line tree few is digits number reads =
    let same = without_none line (text_parts line is).1 in
    let kept : session_digits (without_return line) ≡ Some 1 = ap session_digits same ∙ digits in
    let clean : is_text (without_return line) ≡ true = ap is_text same ∙ is in
    record {
      digits = 1;
      begins = record {
        is_readable = rw (not_long (length line) few, clean, kept) refl;
        begins = kept;
        session_is = number ∙ ap (λ bytes. number_of_digits (take 1 bytes)) (sym same);
      };
      reads = subst (λ bytes. Reads bytes 1 (Ok tree)) (sym same) reads;
    }

-- what a readable one says it asks
pub readable_asks : (name text : List ℕ) (tree : CommandTree) → IsReadable (shortest_view_line name text) → Reads (shortest_view_line name text) 1 (Ok tree) → Asks (shortest_view_line name text) (command 0 tree)
readable_asks name text tree readable reads = asks_as_zero (shortest_view_line name text) tree readable.few readable.is_text refl refl reads

-- the commands of lines are sound
module _ (read_sound : (line : List ℕ) (from : ℕ) (tree : CommandTree) → IsTrue (is_text line) → Reads line from (Ok tree) → IsSound tree) where
  whole_sound : (line : List ℕ) (session : ℕ) (name : List ℕ) (query : QueryTree) (text : List ℕ) → Asks line (command session (define_view name query text)) → IsSound (define_view name query text)
  whole_sound line session name query text asks =
      read_sound (without_return line) asks.digits (define_view name query text) (readable_text line asks.begins.is_readable) asks.reads

  pub shortest_readable : (line : List ℕ) (session : ℕ) (name : List ℕ) (query : QueryTree) (text : List ℕ) → Asks line (command session (define_view name query text)) → IsReadable (shortest_view_line name text)
  shortest_readable line session name query text asks =
      let whole = without_return line in
      let cut = view_cut_out whole asks.digits name query text asks.reads in
      let is : IsTrue (is_text text) = ap is_text cut.3 ∙ tokens_text whole cut.0 cut.1 cut.2 (readable_text line asks.begins.is_readable) in
      record { few = shortest_fits line session name query text asks; is_text = shortest_text name text (whole_sound line session name query text asks).0.word is }

  pub shortest_asks : (line : List ℕ) (session : ℕ) (name : List ℕ) (query : QueryTree) (text : List ℕ) → Asks line (command session (define_view name query text))
      → Asks (shortest_view_line name text) (command 0 (define_view name query text))
  shortest_asks line session name query text asks =
      readable_asks name text (define_view name query text) (shortest_readable line session name query text asks)
      (shortest_says (without_return line) asks.digits name query text (whole_sound line session name query text asks).0 asks.reads)
