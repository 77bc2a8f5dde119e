-- Names made of texts.
use Rattle.std.proofs.Common.{◌≡◌, ◌∙◌, ◌⊎◌, inl, inr, ℕ, ◌+◌, ◌-◌, ◌≤◌, true, false, cond, List, [], ◌∷◌, ◌++◌, length, take, drop, get_or, map, refl, sym, ap, ap₂, subst, append_assoc, arith}
use Rattle.std.specs.Prelude.{codes, if◌then◌else◌}
use Rattle.std.specs.Char.{is_ascii_alphabetic, is_ascii_whitespace}
use Rattle.std.specs.List.{list_all, prefix_len, suffix_len}
use Rattle.std.proofs.Common.{take_all}
use Rattle.std.proofs.lemmas.Bool.{and_from, and_parts}
use Rattle.std.proofs.lemmas.Bool.Decides.{nat_tests}
use Rattle.std.proofs.lemmas.List.{map-append, take-append-drop, take-append-le}
use Rattle.std.proofs.lemmas.List.Sums.{AllPass-from_list_all, suffix_len_is}
use Rattle.rs_grammar.specs.Words.{IsWord, is_word_byte}
use Rattle.rs_grammar.specs.declared.kind.TheConstants.{NAME_BYTES}
use Rattle.rs_lexer.specs.Names.{IsName}
use Rattle.rs_csv_lines.specs.Names.{before_name, name_byte, name_bytes, trimmed, without_front, IsMadeName}

-- a front of bytes, each of which is made another
abbrev made_of : List ℕ → List ℕ → List ℕ
made_of front text = front ++ map name_byte text

split : (front text : List ℕ) (i : ℕ) → made_of front text ≡ made_of front (take i text) ++ map name_byte (drop i text)
split front text i =
    ap (λ bytes. front ++ map name_byte bytes) (sym (take-append-drop i text)) ∙ ap (λ bytes. front ++ bytes) (map-append name_byte (take i text) (drop i text))
    ∙ sym (append_assoc front (map name_byte (take i text)) (map name_byte (drop i text)))

-- where a front of them is as long as the cut, it is the cut
pub cut_here : (front text name : List ℕ) (i n : ℕ) → name ≡ front ++ map name_byte (take i text) → length name ≡ n → name ≡ take n (front ++ map name_byte text)
cut_here front text name i n is long =
    let whole : front ++ map name_byte text ≡ name ++ map name_byte (drop i text) = split front text i ∙ ap (λ bytes. bytes ++ map name_byte (drop i text)) (sym is) in
    sym (ap (take n) whole ∙ take-append-le n name (map name_byte (drop i text)) (omega (arith, long)) ∙ take_all n name (omega (arith, long)))

-- where all are short enough, they are the cut
pub all_here : (front text name : List ℕ) (i n : ℕ) → name ≡ front ++ map name_byte (take i text) → length text ≤ i → length name ≤ n → name ≡ take n (front ++ map name_byte text)
all_here front text name i n is all few =
    let whole : name ≡ front ++ map name_byte text = is ∙ ap (λ bytes. front ++ map name_byte bytes) (take_all i text all) in
    sym (ap (take n) (sym whole) ∙ take_all n name few)

-- where one more has no room, there are as many as can be
pub is_full : (count most one : ℕ) → one ≡ 1 → count ≤ most → ¬ (count + one ≤ most) → count ≡ most
is_full count most one is few none = grind arith

-- ---- one name alone is made

module _ (text : List ℕ) where
  pub made_unique : (name other : List ℕ) → IsMadeName text name → IsMadeName text other → name ≡ other
  made_unique name other first second = both first.made second.made
    where
      both : (name ≡ name_bytes (trimmed text)) ⊎ ((¬ IsName (name_bytes (trimmed text))) × (name ≡ name_bytes (trimmed text) ++ codes "_"))
          → (other ≡ name_bytes (trimmed text)) ⊎ ((¬ IsName (name_bytes (trimmed text))) × (other ≡ name_bytes (trimmed text) ++ codes "_")) → name ≡ other
      both (inl a) (inl b) = a ∙ sym b
      both (inl a) (inr b) = absurd (b.0 (subst IsName a first.is_name))
      both (inr a) (inl b) = absurd (a.0 (subst IsName b second.is_name))
      both (inr a) (inr b) = a.1 ∙ sym b.1

-- ---- a name is made itself

letter_in_word : (byte : ℕ) → is_ascii_alphabetic byte ≡ true → is_word_byte byte ≡ true
letter_in_word byte is = grind (arith, nat_tests)

not_blank : (byte : ℕ) → is_word_byte byte ≡ true → is_ascii_whitespace byte ≡ false
not_blank byte is = grind (arith, nat_tests)

word_all : (name : List ℕ) → IsWord name → list_all is_word_byte name ≡ true
word_all [] is = absurd is
word_all (letter ∷ bytes) is = and_from _ _ (letter_in_word letter is.0) is.1

no_blank_before : (text : List ℕ) → list_all is_word_byte text ≡ true → prefix_len is_ascii_whitespace text ≡ 0
no_blank_before [] all = refl
no_blank_before (byte ∷ bytes) all = ap (λ blank. cond blank (1 + prefix_len is_ascii_whitespace bytes) 0) (not_blank byte (and_parts _ _ all).0)

no_blank_after : (text : List ℕ) → list_all is_word_byte text ≡ true → suffix_len is_ascii_whitespace text ≡ 0
no_blank_after text all =
    let none = suffix_len_is is_ascii_whitespace text (length text) 0 (omega arith) (λ k from upto. absurd (omega (arith, from, upto)))
    (λ some. not_blank (get_or text (length text - 1) 0) (AllPass-from_list_all is_word_byte text all (length text - 1) 0 (omega (arith, some)))) in
    omega (arith, none)

word_trimmed : (text : List ℕ) → list_all is_word_byte text ≡ true → trimmed text ≡ text
word_trimmed text all =
    let front : without_front text ≡ text = ap (λ n. drop n text) (no_blank_before text all) in
    ap (λ rest. take (length rest - suffix_len is_ascii_whitespace rest) rest) front
    ∙ take_all (length text - suffix_len is_ascii_whitespace text) text (omega (arith, no_blank_after text all))

word_bytes : (text : List ℕ) → list_all is_word_byte text ≡ true → map name_byte text ≡ text
word_bytes [] all = refl
word_bytes (byte ∷ bytes) all =
    let both = and_parts _ _ all in
    ap₂ (λ b bs. b ∷ bs) (ap (λ is. if is then byte else 95) both.0) (word_bytes bytes both.1)

nothing_before : (name : List ℕ) → IsWord name → before_name name ≡ []
nothing_before [] is = absurd is
nothing_before (letter ∷ bytes) is = ap (λ is. if is then [] else codes "R") is.0

pub made_itself : (name : List ℕ) → IsName name → IsMadeName name name
made_itself name is =
    let all : list_all is_word_byte name ≡ true = word_all name is.word in
    let same : name_bytes name ≡ name = ap₂ (λ front bytes. take NAME_BYTES (front ++ bytes)) (nothing_before name is.word) (word_bytes name all) ∙ take_all NAME_BYTES name is.short in
    record { is_name = is; made = inl (sym (ap name_bytes (word_trimmed name all) ∙ same)) }
