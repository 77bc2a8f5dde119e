-- The longest token by its first byte: what follows it is as long as the machine goes on.
use Rattle.std.proofs.Common.{◌≡◌, ℕ, ◌+◌, ◌-◌, ◌<◌, ◌≤◌, Bool, true, false, List, [], ◌∷◌, length, take, drop, get_or, Some, None, refl, sym, ap, ◌∙◌, subst, ⊎_elim, arith, zero, suc, length-drop, get_or-drop}
use Rattle.std.proofs.lemmas.Bool.{cases_lt}
use Rattle.std.proofs.lemmas.Bool.Decides.{nat_tests}
use Rattle.std.proofs.lemmas.List.Sums.{prefix_len-le-length, prefix_len_stops}
use Rattle.std.proofs.Math.Nat.{zero-add}
use Rattle.std.proofs.Math.Seq.{take-add}
use Rattle.std.specs.Prelude.{◌==◌, if◌then◌else◌}
use Rattle.std.specs.Char.{is_ascii_alphabetic, is_ascii_digit}
use Rattle.std.specs.List.{prefix_len}
use Rattle.rs_grammar.specs.declared.kind.TokenKind.{TokenKind}
use Rattle.rs_grammar.specs.declared.kind.TokenKind.TheVariants as kinds
use Rattle.rs_grammar.specs.Words.{is_word_byte}
use Rattle.rs_lexer.specs.Lexis.{IsLongestToken, word_kind, single_kind, token_kind}
use Rattle.rs_lexer.specs.Scanning.{symbol_state, after_start, after, run, accepts, kind_at, IsLongestRest}
use Rattle.rs_lexer.specs.States.{State}
use Rattle.rs_lexer.specs.States as states
use Rattle.rs_lexer.proofs.ScanningLaws.{token_kind-nil, token_kind-run, no_kind, run-append, run-dead, run-next, dead_beyond, none_beyond}

-- ---- the first byte and what follows it

pub with_first : (first : ℕ) (rest : List ℕ) (kind : TokenKind) (count : ℕ) → IsLongestRest (after_start first) rest kind count → IsLongestToken (first ∷ rest) kind (count + 1)
with_first first rest kind count is = record {
  inside = omega (arith, is.inside);
  token =
      let e : count + 1 ≡ suc count = omega arith in
      ap (λ n. token_kind (take n (first ∷ rest))) e ∙ token_kind-run (first ∷ take count rest) ∙ is.says (first ∷ take count rest);
  longest = λ longer above h.
      let e : longer ≡ suc (longer - 1) = omega arith in
      ap (λ n. token_kind (take n (first ∷ rest))) e ∙ no_kind (first ∷ take (longer - 1) rest) (is.longest (longer - 1) (omega arith) (omega arith));
}

pub none_with_first : (first : ℕ) (rest : List ℕ) → ((count : ℕ) → count ≤ length rest → accepts (run (after_start first) (take count rest)) ≡ false)
    → (size : ℕ) → size ≤ length (first ∷ rest) → token_kind (take size (first ∷ rest)) ≡ None
none_with_first first rest none zero h = token_kind-nil
none_with_first first rest none (suc size) h = no_kind (first ∷ take size rest) (none size (omega arith))

pub none_in_none : (size : ℕ) → token_kind (take size []) ≡ None
none_in_none zero = token_kind-nil
none_in_none (suc size) = token_kind-nil

-- ---- bytes that keep a state

stays : (state : State) (p : ℕ → Bool) → ((byte : ℕ) → p byte ≡ true → after state byte ≡ state)
    → (bytes : List ℕ) → run state (take (prefix_len p bytes) bytes) ≡ state
stays state p step [] = refl
stays state p step (byte ∷ bytes) =
    let n = prefix_len p bytes in
    let more : 1 + prefix_len p bytes ≡ suc (prefix_len p bytes) = omega arith in
    elim (p byte) as (λ v. p byte ≡ v → run state (take (if v then 1 + prefix_len p bytes else 0) (byte ∷ bytes)) ≡ state) [
      | true ↦ λ e. ap (λ m. run state (take m (byte ∷ bytes))) more ∙ ap (λ s. run s (take n bytes)) (step byte e) ∙ stays state p step bytes
      | false ↦ λ e. refl
    ] refl

-- and what stops them
stops : (state : State) (p : ℕ → Bool) → ((byte : ℕ) → p byte ≡ true → after state byte ≡ state) → ((byte : ℕ) → p byte ≡ false → after state byte ≡ states.Dead)
    → (bytes : List ℕ) → (longer : ℕ) → prefix_len p bytes < longer → longer ≤ length bytes → accepts (run state (take longer bytes)) ≡ false
stops state p step stop bytes = none_beyond state bytes (prefix_len p bytes) (λ lt. ap (λ s. after s (get_or bytes (prefix_len p bytes) 0)) (stays state p step bytes) ∙ stop (get_or bytes (prefix_len p bytes) 0) (prefix_len_stops p bytes 0 lt))

-- ---- words

letters_first : (p q : ℕ → Bool) → ((byte : ℕ) → q byte ≡ true → p byte ≡ true) → (bytes : List ℕ)
    → prefix_len q bytes + prefix_len p (drop (prefix_len q bytes) bytes) ≡ prefix_len p bytes
letters_first p q each [] = refl
letters_first p q each (byte ∷ bytes) =
    let n = prefix_len q bytes in
    let more : 1 + prefix_len q bytes ≡ suc (prefix_len q bytes) = omega arith in
    let rest = letters_first p q each bytes in
    elim (q byte) as (λ v. q byte ≡ v → (if v then 1 + prefix_len q bytes else 0) + prefix_len p (drop (if v then 1 + prefix_len q bytes else 0) (byte ∷ bytes)) ≡ prefix_len p (byte ∷ bytes)) [
      | true ↦ λ e.
          let sum : 1 + n + prefix_len p (drop n bytes) ≡ 1 + prefix_len p bytes = omega (arith, rest) in
          ap (λ m. 1 + n + prefix_len p (drop m (byte ∷ bytes))) more ∙ sum ∙ sym (ap (λ b. if b then 1 + prefix_len p bytes else 0) (each byte e))
      | false ↦ λ e. zero-add (prefix_len p (byte ∷ bytes))
    ] refl

letter_in_word : (byte : ℕ) → is_ascii_alphabetic byte ≡ true → is_word_byte byte ≡ true
letter_in_word byte e = grind (arith, nat_tests)

word_by_letters : (bytes : List ℕ) → prefix_len is_ascii_alphabetic bytes + prefix_len is_word_byte (drop (prefix_len is_ascii_alphabetic bytes) bytes) ≡ prefix_len is_word_byte bytes
word_by_letters bytes = letters_first is_word_byte is_ascii_alphabetic letter_in_word bytes

-- the letters at the front, and then what else is of the word
pub word_length : (bytes : List ℕ) (letters more : ℕ) → letters ≡ prefix_len is_ascii_alphabetic bytes → more ≡ prefix_len is_word_byte (drop letters bytes)
    → letters + more ≡ prefix_len is_word_byte bytes
word_length bytes letters more first after =
    let e : more ≡ prefix_len is_word_byte (drop (prefix_len is_ascii_alphabetic bytes) bytes) = after ∙ ap (λ n. prefix_len is_word_byte (drop n bytes)) first in
    omega (arith, first, e, word_by_letters bytes)

word_goes : (byte : ℕ) → is_word_byte byte ≡ true → after states.Word byte ≡ states.Word
word_goes byte e = ap (λ b. if b then states.Word else states.Dead) e

word_ends : (byte : ℕ) → is_word_byte byte ≡ false → after states.Word byte ≡ states.Dead
word_ends byte e = ap (λ b. if b then states.Word else states.Dead) e

begins_word : (first : ℕ) → is_ascii_alphabetic first ≡ true → after_start first ≡ states.Word
begins_word first letter = ap (λ b. if b then states.Word else (if is_ascii_digit first then states.Whole else (if first == 39 then states.Inside else (if first == 60 then states.Less else (if first == 62 then states.Greater else symbol_state (single_kind first)))))) letter

pub longest_word : (first : ℕ) (rest : List ℕ) → is_ascii_alphabetic first ≡ true
    → IsLongestToken (first ∷ rest) (word_kind (take (prefix_len is_word_byte rest + 1) (first ∷ rest))) (prefix_len is_word_byte rest + 1)
longest_word first rest letter =
    let count = prefix_len is_word_byte rest in
    let begun = begins_word first letter in
    let e : prefix_len is_word_byte rest + 1 ≡ suc (prefix_len is_word_byte rest) = omega arith in
    let state : run (after_start first) (take count rest) ≡ states.Word = ap (λ s. run s (take count rest)) begun ∙ stays states.Word is_word_byte word_goes rest in
    subst (λ n. IsLongestToken (first ∷ rest) (word_kind (take n (first ∷ rest))) n) (sym e) (record {
      inside = omega (arith, prefix_len-le-length is_word_byte rest);
      token = token_kind-run (first ∷ take count rest) ∙ ap (λ s. kind_at s (first ∷ take count rest)) state;
      longest = λ longer above h.
          let f : longer ≡ suc (longer - 1) = omega arith in
          ap (λ n. token_kind (take n (first ∷ rest))) f
          ∙ no_kind (first ∷ take (longer - 1) rest) (ap (λ s. accepts (run s (take (longer - 1) rest))) begun ∙ stops states.Word is_word_byte word_goes word_ends rest (longer - 1) (omega arith) (omega arith));
    })

-- ---- numbers

begins_number : (first : ℕ) → is_ascii_digit first ≡ true → after_start first ≡ states.Whole
begins_number first digit =
    let no_letter : is_ascii_alphabetic first ≡ false = grind (arith, nat_tests) in
    rw (no_letter, digit) refl

pub number_with_first : (first : ℕ) (rest : List ℕ) (kind : TokenKind) (count : ℕ) → is_ascii_digit first ≡ true → IsLongestRest states.Whole rest kind count → IsLongestRest (after_start first) rest kind count
number_with_first first rest kind count digit is = subst (λ s. IsLongestRest s rest kind count) (sym (begins_number first digit)) is

whole_goes : (byte : ℕ) → is_ascii_digit byte ≡ true → after states.Whole byte ≡ states.Whole
whole_goes byte e = ap (λ b. if b then states.Whole else (if byte == 46 then states.Point else states.Dead)) e

decimal_goes : (byte : ℕ) → is_ascii_digit byte ≡ true → after states.Decimal byte ≡ states.Decimal
decimal_goes byte e = ap (λ b. if b then states.Decimal else states.Dead) e

decimal_ends : (byte : ℕ) → is_ascii_digit byte ≡ false → after states.Decimal byte ≡ states.Dead
decimal_ends byte e = ap (λ b. if b then states.Decimal else states.Dead) e

-- the decimals after a point
after_point : (bytes : List ℕ) → 0 < prefix_len is_ascii_digit bytes → run states.Point (take (prefix_len is_ascii_digit bytes) bytes) ≡ states.Decimal
after_point [] some = absurd (omega arith)
after_point (byte ∷ bytes) some =
    let n = prefix_len is_ascii_digit bytes in
    let more : 1 + prefix_len is_ascii_digit bytes ≡ suc (prefix_len is_ascii_digit bytes) = omega arith in
    elim (is_ascii_digit byte) as (λ v. is_ascii_digit byte ≡ v → 0 < (if v then 1 + prefix_len is_ascii_digit bytes else 0)
    → run states.Point (take (if v then 1 + prefix_len is_ascii_digit bytes else 0) (byte ∷ bytes)) ≡ states.Decimal) [
      | true ↦ λ e _.
          ap (λ m. run states.Point (take m (byte ∷ bytes))) more
          ∙ ap (λ b. run (if b then states.Decimal else states.Dead) (take n bytes)) e
          ∙ stays states.Decimal is_ascii_digit decimal_goes bytes
      | false ↦ λ e none. absurd (omega (arith, none))
    ] refl some

no_decimals : (bytes : List ℕ) → prefix_len is_ascii_digit bytes ≡ 0 → 0 < length bytes → after states.Point (get_or bytes 0 0) ≡ states.Dead
no_decimals bytes none some =
    let e : is_ascii_digit (get_or bytes 0 0) ≡ false = subst (λ n. is_ascii_digit (get_or bytes n 0) ≡ false) none (prefix_len_stops is_ascii_digit bytes 0 (omega arith)) in
    ap (λ b. if b then states.Decimal else states.Dead) e

module _ (rest : List ℕ) (whole : ℕ) (is : whole ≡ prefix_len is_ascii_digit rest) where
  whole_is : run states.Whole (take whole rest) ≡ states.Whole
  whole_is = ap (λ n. run states.Whole (take n rest)) is ∙ stays states.Whole is_ascii_digit whole_goes rest

  inside_is : whole ≤ length rest
  inside_is = omega (arith, is, prefix_len-le-length is_ascii_digit rest)

  ends_at : whole < length rest → is_ascii_digit (get_or rest whole 0) ≡ false
  ends_at lt = subst (λ n. is_ascii_digit (get_or rest n 0) ≡ false) (sym is) (prefix_len_stops is_ascii_digit rest 0 (omega arith))

  -- no point follows
  pub whole_number : (whole < length rest → (get_or rest whole 0 == 46) ≡ false) → IsLongestRest states.Whole rest kinds.Whole whole
  whole_number no_point = record {
    inside = inside_is;
    says = λ text. ap (λ s. kind_at s text) whole_is;
    longest = none_beyond states.Whole rest whole (λ lt.
        ap (λ s. after s (get_or rest whole 0)) whole_is
        ∙ ap (λ b. if b then states.Whole else (if get_or rest whole 0 == 46 then states.Point else states.Dead)) (ends_at lt)
        ∙ ap (λ b. if b then states.Point else states.Dead) (no_point lt));
  }

  module _ (lt : whole < length rest) (point : get_or rest whole 0 ≡ 46) where
    point_is : run states.Whole (take (whole + 1) rest) ≡ states.Point
    point_is = run-next states.Whole rest whole lt ∙ ap (λ s. after s (get_or rest whole 0)) whole_is ∙ ap (after states.Whole) point

    -- no decimals follow the point
    pub without_decimals : prefix_len is_ascii_digit (drop (whole + 1) rest) ≡ 0 → IsLongestRest states.Whole rest kinds.Whole whole
    without_decimals none = record {
      inside = inside_is;
      says = λ text. ap (λ s. kind_at s text) whole_is;
      longest = λ longer above h.
          ⊎_elim
          (λ further. none_beyond states.Whole rest (whole + 1) (λ more.
          ap (λ s. after s (get_or rest (whole + 1) 0)) point_is
          ∙ ap (after states.Point) (ap (λ n. get_or rest n 0) (omega arith) ∙ sym (get_or-drop (whole + 1) rest 0 0))
          ∙ no_decimals (drop (whole + 1) rest) none (omega (arith, length-drop (whole + 1) rest))) longer further h)
          (λ close. let e : longer ≡ whole + 1 = omega arith in ap (λ n. accepts (run states.Whole (take n rest))) e ∙ ap accepts point_is)
          (cases_lt (whole + 1) longer);
    }

    module _ (decimals : ℕ) (are : decimals ≡ prefix_len is_ascii_digit (drop (whole + 1) rest)) (some : 0 < decimals) where
      decimal_is : run states.Whole (take (whole + 1 + decimals) rest) ≡ states.Decimal
      decimal_is =
          ap (run states.Whole) (take-add (whole + 1) decimals rest)
          ∙ run-append states.Whole (take (whole + 1) rest) (take decimals (drop (whole + 1) rest))
          ∙ ap (λ s. run s (take decimals (drop (whole + 1) rest))) point_is
          ∙ ap (λ n. run states.Point (take n (drop (whole + 1) rest))) are
          ∙ after_point (drop (whole + 1) rest) (omega (arith, are, some))

      -- decimals follow
      pub with_decimals : IsLongestRest states.Whole rest kinds.Decimal (whole + 1 + decimals)
      with_decimals = record {
        inside = omega (arith, lt, are, prefix_len-le-length is_ascii_digit (drop (whole + 1) rest), length-drop (whole + 1) rest);
        says = λ text. ap (λ s. kind_at s text) decimal_is;
        longest = none_beyond states.Whole rest (whole + 1 + decimals) (λ more.
            ap (λ s. after s (get_or rest (whole + 1 + decimals) 0)) decimal_is
            ∙ decimal_ends (get_or rest (whole + 1 + decimals) 0) (ap is_ascii_digit (sym (get_or-drop (whole + 1) rest decimals 0) ∙ ap (λ n. get_or (drop (whole + 1) rest) n 0) are)
            ∙ prefix_len_stops is_ascii_digit (drop (whole + 1) rest) 0 (omega (arith, are, length-drop (whole + 1) rest))));
      }

-- ---- symbols

-- a byte that ends the symbol
pub one_more : (state : State) (rest : List ℕ) (kind : TokenKind) → 0 < length rest → after state (get_or rest 0 0) ≡ states.Symbol kind → IsLongestRest state rest kind 1
one_more state rest kind some next =
    let is : run state (take 1 rest) ≡ states.Symbol kind = run-next state rest 0 some ∙ next in
    record {
      inside = omega arith;
      says = λ text. ap (λ s. kind_at s text) is;
      longest = none_beyond state rest 1 (λ lt. ap (λ s. after s (get_or rest 1 0)) is);
    }

-- none does
pub no_more : (state : State) (rest : List ℕ) (kind : TokenKind) → ((text : List ℕ) → kind_at state text ≡ Some kind)
    → (0 < length rest → after state (get_or rest 0 0) ≡ states.Dead) → IsLongestRest state rest kind 0
no_more state rest kind says ends = record { inside = omega arith; says = says; longest = none_beyond state rest 0 ends }

-- what begins no other token
module _ (first : ℕ) (letter : is_ascii_alphabetic first ≡ false) (digit : is_ascii_digit first ≡ false)
    (quote : (first == 39) ≡ false) (less : (first == 60) ≡ false) (greater : (first == 62) ≡ false) where
  begins_symbol : after_start first ≡ symbol_state (single_kind first)
  begins_symbol = rw (letter, digit, quote, less, greater) refl

  pub single : (rest : List ℕ) (kind : TokenKind) → Some kind ≡ single_kind first → IsLongestRest (after_start first) rest kind 0
  single rest kind is =
      subst (λ s. IsLongestRest s rest kind 0) (sym (begins_symbol ∙ ap symbol_state (sym is))) (no_more (states.Symbol kind) rest kind (λ text. refl) (λ some. refl))

  pub no_single : (rest : List ℕ) → None ≡ single_kind first → (count : ℕ) → count ≤ length rest → accepts (run (after_start first) (take count rest)) ≡ false
  no_single rest is count h = ap (λ s. accepts (run s (take count rest))) (begins_symbol ∙ ap symbol_state (sym is)) ∙ ap accepts (run-dead (take count rest))

first_some : (rest : List ℕ) (byte : ℕ) → 0 < byte → get_or rest 0 0 ≡ byte → 0 < length rest
first_some [] byte some e = absurd (omega arith)
first_some (b ∷ bs) byte some e = omega arith

pub less_or_equal : (rest : List ℕ) → get_or rest 0 0 ≡ 61 → IsLongestRest states.Less rest kinds.LessOrEqual 1
less_or_equal rest e = one_more states.Less rest kinds.LessOrEqual (first_some rest 61 (omega arith) e) (ap (after states.Less) e)

pub unequal : (rest : List ℕ) → get_or rest 0 0 ≡ 62 → IsLongestRest states.Less rest kinds.Unequal 1
unequal rest e = one_more states.Less rest kinds.Unequal (first_some rest 62 (omega arith) e) (ap (after states.Less) e)

pub less_alone : (rest : List ℕ) → (get_or rest 0 0 == 61) ≡ false → (get_or rest 0 0 == 62) ≡ false → IsLongestRest states.Less rest kinds.Less 0
less_alone rest equal greater = no_more states.Less rest kinds.Less (λ text. refl) (λ some. rw (equal, greater) refl)

pub greater_or_equal : (rest : List ℕ) → get_or rest 0 0 ≡ 61 → IsLongestRest states.Greater rest kinds.GreaterOrEqual 1
greater_or_equal rest e = one_more states.Greater rest kinds.GreaterOrEqual (first_some rest 61 (omega arith) e) (ap (after states.Greater) e)

pub greater_alone : (rest : List ℕ) → (get_or rest 0 0 == 61) ≡ false → IsLongestRest states.Greater rest kinds.Greater 0
greater_alone rest equal = no_more states.Greater rest kinds.Greater (λ text. refl) (λ some. rw equal refl)

-- ---- the whole

pub none_in_empty : (bytes : List ℕ) → length bytes ≡ 0 → (size : ℕ) → size ≤ length bytes → token_kind (take size bytes) ≡ None
none_in_empty [] empty size h = none_in_none size
none_in_empty (byte ∷ bytes) empty size h = absurd (omega arith)

pub word_found : (bytes : List ℕ) (first : ℕ) (rest : List ℕ) (kind : TokenKind) (count : ℕ) → bytes ≡ first ∷ rest → is_ascii_alphabetic first ≡ true
    → count ≡ prefix_len is_word_byte rest → kind ≡ word_kind (take (count + 1) bytes) → IsLongestToken bytes kind (count + 1)
word_found bytes first rest kind count is letter counted named =
    let whole : IsLongestToken (first ∷ rest) (word_kind (take (count + 1) (first ∷ rest))) (count + 1) =
    subst (λ n. IsLongestToken (first ∷ rest) (word_kind (take (n + 1) (first ∷ rest))) (n + 1)) (sym counted) (longest_word first rest letter) in
    let here : IsLongestToken bytes (word_kind (take (count + 1) bytes)) (count + 1) = subst (λ (l : List ℕ). IsLongestToken l (word_kind (take (count + 1) l)) (count + 1)) (sym is) whole in
    subst (λ k. IsLongestToken bytes k (count + 1)) (sym named) here

pub other_found : (bytes : List ℕ) (first : ℕ) (rest : List ℕ) (kind : TokenKind) (count : ℕ) → bytes ≡ first ∷ rest → IsLongestRest (after_start first) rest kind count → IsLongestToken bytes kind (count + 1)
other_found bytes first rest kind count is longest = subst (λ (l : List ℕ). IsLongestToken l kind (count + 1)) (sym is) (with_first first rest kind count longest)

pub none_found : (bytes : List ℕ) (first : ℕ) (rest : List ℕ) → bytes ≡ first ∷ rest → ((count : ℕ) → count ≤ length rest → accepts (run (after_start first) (take count rest)) ≡ false)
    → (size : ℕ) → size ≤ length bytes → token_kind (take size bytes) ≡ None
none_found bytes first rest is none = subst (λ (l : List ℕ). (size : ℕ) → size ≤ length l → token_kind (take size l) ≡ None) (sym is) (none_with_first first rest none)

-- ---- quoted texts

module _ (rest : List ℕ) (place : ℕ) (lt : place < length rest) (is_open : Bool) (state : run states.Inside (take place rest) ≡ (if is_open then states.Inside else states.Behind)) where
  next : (now : Bool) → is_open ≡ now → run states.Inside (take (place + 1) rest) ≡ after (if now then states.Inside else states.Behind) (get_or rest place 0)
  next now e = run-next states.Inside rest place lt ∙ ap (λ s. after s (get_or rest place 0)) (state ∙ ap (λ b. if b then states.Inside else states.Behind) e)

  pub closes : is_open ≡ true → get_or rest place 0 ≡ 39 → run states.Inside (take (place + 1) rest) ≡ states.Behind
  closes e quote = next true e ∙ ap (after states.Inside) quote

  pub opens : is_open ≡ false → get_or rest place 0 ≡ 39 → run states.Inside (take (place + 1) rest) ≡ states.Inside
  opens e quote = next false e ∙ ap (after states.Behind) quote

  pub goes_on : is_open ≡ true → (get_or rest place 0 == 39) ≡ false → run states.Inside (take (place + 1) rest) ≡ states.Inside
  goes_on e other = next true e ∙ ap (λ b. if b then states.Behind else states.Inside) other

  pub ends : is_open ≡ false → (get_or rest place 0 == 39) ≡ false → run states.Inside (take (place + 1) rest) ≡ states.Dead
  ends e other = next false e ∙ ap (λ b. if b then states.Inside else states.Dead) other

-- where it ends, nothing longer is accepted
pub none_past_end : (rest : List ℕ) (place count : ℕ) → place < length rest → run states.Inside (take (place + 1) rest) ≡ states.Dead
    → ((longer : ℕ) → count < longer → longer ≤ place → accepts (run states.Inside (take longer rest)) ≡ false)
    → (longer : ℕ) → count < longer → longer ≤ length rest → accepts (run states.Inside (take longer rest)) ≡ false
none_past_end rest place count lt dead below longer above h =
    ⊎_elim (λ past. dead_beyond states.Inside rest (place + 1) longer dead (omega arith) h) (λ within. below longer above within) (cases_lt place longer)
