-- The lexer's machine accepts the tokens, and says their kinds.
use Rattle.std.proofs.Common.{◌≡◌, ℕ, ◌+◌, ◌-◌, ◌<◌, ◌≤◌, Bool, true, false, List, [], ◌∷◌, ◌++◌, length, take, get_or, Option, Some, None, refl, sym, ap, ◌∙◌, ⊎_elim, arith, add-zero, zero, suc, le-leb}
use Rattle.std.proofs.lemmas.List.{take_more}
use Rattle.std.proofs.lemmas.Bool.{cases_lt, lt-leb}
use Rattle.std.specs.Prelude.{◌==◌, ◌&&◌, if◌then◌else◌, is_some, unwrap_or, nat_le}
use Rattle.std.specs.Char.{is_ascii_alphabetic, is_ascii_digit}
use Rattle.std.specs.List.{list_all}
use Rattle.rs_grammar.specs.declared.kind.TheConstants.{NAME_BYTES}
use Rattle.rs_grammar.specs.declared.kind.TokenKind.{TokenKind}
use Rattle.rs_grammar.specs.declared.kind.TokenKind.TheVariants as kinds
use Rattle.rs_lexer.specs.States.{State}
use Rattle.rs_lexer.specs.States as states
use Rattle.rs_grammar.specs.Words.{is_word_byte}
use Rattle.rs_lexer.specs.Lexis.{reserved, kind_in, word_kind, is_whole, is_fraction, is_quoted_rest, single_kind, less_kind, greater_kind, alone, token_kind}
use Rattle.rs_lexer.specs.Scanning.{symbol_state, after_start, after, run, accepts, kind_at, some_if, kind_from}

pub token_kind-nil : token_kind [] ≡ None
unfolding token_kind
token_kind-nil = refl

pub alone-None : (bytes : List ℕ) → alone None bytes ≡ None
alone-None [] = refl
alone-None (byte ∷ bytes) = refl

kind_from-symbol : (kind : Option TokenKind) (text bytes : List ℕ) → alone kind bytes ≡ kind_from (symbol_state kind) text bytes
kind_from-symbol None text bytes = alone-None bytes
kind_from-symbol (Some kind) text bytes = refl

-- the first byte
pub token_kind-cons : (byte : ℕ) (bytes : List ℕ) → token_kind (byte ∷ bytes) ≡ kind_from (after_start byte) (byte ∷ bytes) bytes
unfolding token_kind
token_kind-cons byte bytes =
    elim (is_ascii_alphabetic byte) as (λ v.
    (if v then (if list_all is_word_byte bytes then Some (word_kind (byte ∷ bytes)) else None) else (if is_ascii_digit byte then (if list_all is_ascii_digit bytes then Some kinds.Whole else if is_fraction bytes then Some kinds.Decimal else None) else (if byte == 39 then (if is_quoted_rest false bytes then Some kinds.Quoted else None) else (if byte == 60 then less_kind bytes else (if byte == 62 then greater_kind bytes else alone (single_kind byte) bytes)))))
    ≡ kind_from (if v then states.Word else (if is_ascii_digit byte then states.Whole else (if byte == 39 then states.Inside else (if byte == 60 then states.Less else (if byte == 62 then states.Greater else symbol_state (single_kind byte)))))) (byte ∷ bytes) bytes) [
      | true ↦ refl
      | false ↦ elim (is_ascii_digit byte) as (λ v.
          (if v then (if list_all is_ascii_digit bytes then Some kinds.Whole else if is_fraction bytes then Some kinds.Decimal else None) else (if byte == 39 then (if is_quoted_rest false bytes then Some kinds.Quoted else None) else (if byte == 60 then less_kind bytes else (if byte == 62 then greater_kind bytes else alone (single_kind byte) bytes))))
          ≡ kind_from (if v then states.Whole else (if byte == 39 then states.Inside else (if byte == 60 then states.Less else (if byte == 62 then states.Greater else symbol_state (single_kind byte))))) (byte ∷ bytes) bytes) [
            | true ↦ refl
            | false ↦ elim (byte == 39) as (λ v.
                (if v then (if is_quoted_rest false bytes then Some kinds.Quoted else None) else (if byte == 60 then less_kind bytes else (if byte == 62 then greater_kind bytes else alone (single_kind byte) bytes)))
                ≡ kind_from (if v then states.Inside else (if byte == 60 then states.Less else (if byte == 62 then states.Greater else symbol_state (single_kind byte)))) (byte ∷ bytes) bytes) [
                  | true ↦ refl
                  | false ↦ elim (byte == 60) as (λ v.
                      (if v then less_kind bytes else (if byte == 62 then greater_kind bytes else alone (single_kind byte) bytes))
                      ≡ kind_from (if v then states.Less else (if byte == 62 then states.Greater else symbol_state (single_kind byte))) (byte ∷ bytes) bytes) [
                        | true ↦ refl
                        | false ↦ elim (byte == 62) as (λ v.
                            (if v then greater_kind bytes else alone (single_kind byte) bytes)
                            ≡ kind_from (if v then states.Greater else symbol_state (single_kind byte)) (byte ∷ bytes) bytes) [
                              | true ↦ refl
                              | false ↦ kind_from-symbol (single_kind byte) (byte ∷ bytes) bytes
                            ]
                      ]
                ]
          ]
    ]

-- a state that some byte led to
abbrev IsStarted : State → Type 0
IsStarted states.Start = ⊥
IsStarted _ = Unit {0}

-- one more byte
kind_from-cons : (state : State) → IsStarted state → (text : List ℕ) (byte : ℕ) (bytes : List ℕ) → kind_from state text (byte ∷ bytes) ≡ kind_from (after state byte) text bytes
kind_from-cons states.Start started text byte bytes = absurd started
kind_from-cons states.Word started text byte bytes =
    elim (is_word_byte byte) as (λ v. some_if (v && list_all is_word_byte bytes) (word_kind text) ≡ kind_from (if v then states.Word else states.Dead) text bytes) [ true ↦ refl | false ↦ refl ]
kind_from-cons states.Whole started text byte bytes =
    elim (is_ascii_digit byte) as (λ v. (if v && list_all is_ascii_digit bytes then Some kinds.Whole else some_if (if v then is_fraction bytes else (if byte == 46 then is_whole bytes else false)) kinds.Decimal) ≡ kind_from (if v then states.Whole else (if byte == 46 then states.Point else states.Dead)) text bytes) [
      | true ↦ refl
      | false ↦ elim (byte == 46) as (λ v. some_if (if v then is_whole bytes else false) kinds.Decimal ≡ kind_from (if v then states.Point else states.Dead) text bytes) [ true ↦ refl | false ↦ refl ]
    ]
kind_from-cons states.Point started text byte bytes =
    elim (is_ascii_digit byte) as (λ v. some_if (if v then list_all is_ascii_digit bytes else false) kinds.Decimal ≡ kind_from (if v then states.Decimal else states.Dead) text bytes) [ true ↦ refl | false ↦ refl ]
kind_from-cons states.Decimal started text byte bytes =
    elim (is_ascii_digit byte) as (λ v. some_if (v && list_all is_ascii_digit bytes) kinds.Decimal ≡ kind_from (if v then states.Decimal else states.Dead) text bytes) [ true ↦ refl | false ↦ refl ]
kind_from-cons states.Inside started text byte bytes =
    elim (byte == 39) as (λ v. some_if (is_quoted_rest v bytes) kinds.Quoted ≡ kind_from (if v then states.Behind else states.Inside) text bytes) [ true ↦ refl | false ↦ refl ]
kind_from-cons states.Behind started text byte bytes =
    elim (byte == 39) as (λ v. some_if (if v then is_quoted_rest false bytes else false) kinds.Quoted ≡ kind_from (if v then states.Inside else states.Dead) text bytes) [ true ↦ refl | false ↦ refl ]
kind_from-cons states.Less started text byte [] =
    elim (byte == 61) as (λ v. (if v then Some kinds.LessOrEqual else (if byte == 62 then Some kinds.Unequal else None)) ≡ kind_from (if v then states.Symbol kinds.LessOrEqual else (if byte == 62 then states.Symbol kinds.Unequal else states.Dead)) text []) [
      | true ↦ refl
      | false ↦ elim (byte == 62) as (λ v. (if v then Some kinds.Unequal else None) ≡ kind_from (if v then states.Symbol kinds.Unequal else states.Dead) text []) [ true ↦ refl | false ↦ refl ]
    ]
kind_from-cons states.Less started text byte (other ∷ bytes) =
    elim (byte == 61) as (λ v. None ≡ kind_from (if v then states.Symbol kinds.LessOrEqual else (if byte == 62 then states.Symbol kinds.Unequal else states.Dead)) text (other ∷ bytes)) [
      | true ↦ refl
      | false ↦ elim (byte == 62) as (λ v. None ≡ kind_from (if v then states.Symbol kinds.Unequal else states.Dead) text (other ∷ bytes)) [ true ↦ refl | false ↦ refl ]
    ]
kind_from-cons states.Greater started text byte [] =
    elim (byte == 61) as (λ v. (if v then Some kinds.GreaterOrEqual else None) ≡ kind_from (if v then states.Symbol kinds.GreaterOrEqual else states.Dead) text []) [ true ↦ refl | false ↦ refl ]
kind_from-cons states.Greater started text byte (other ∷ bytes) =
    elim (byte == 61) as (λ v. None ≡ kind_from (if v then states.Symbol kinds.GreaterOrEqual else states.Dead) text (other ∷ bytes)) [ true ↦ refl | false ↦ refl ]
kind_from-cons (states.Symbol kind) started text byte bytes = refl
kind_from-cons states.Dead started text byte bytes = refl

IsStarted-symbol_state : (kind : Option TokenKind) → IsStarted (symbol_state kind)
IsStarted-symbol_state None = tt
IsStarted-symbol_state (Some kind) = tt

IsStarted-if : (test : Bool) (a b : State) → IsStarted a → IsStarted b → IsStarted (if test then a else b)
IsStarted-if true a b p q = p
IsStarted-if false a b p q = q

IsStarted-after : (state : State) (byte : ℕ) → IsStarted (after state byte)
IsStarted-after states.Start byte = IsStarted-if (is_ascii_alphabetic byte) (states.Word) (if is_ascii_digit byte then states.Whole else (if byte == 39 then states.Inside else (if byte == 60 then states.Less else (if byte == 62 then states.Greater else (symbol_state (single_kind byte)))))) tt (IsStarted-if (is_ascii_digit byte) (states.Whole) (if byte == 39 then states.Inside else (if byte == 60 then states.Less else (if byte == 62 then states.Greater else (symbol_state (single_kind byte))))) tt (IsStarted-if (byte == 39) (states.Inside) (if byte == 60 then states.Less else (if byte == 62 then states.Greater else (symbol_state (single_kind byte)))) tt (IsStarted-if (byte == 60) (states.Less) (if byte == 62 then states.Greater else (symbol_state (single_kind byte))) tt (IsStarted-if (byte == 62) (states.Greater) (symbol_state (single_kind byte)) tt (IsStarted-symbol_state (single_kind byte))))))
IsStarted-after states.Word byte = IsStarted-if (is_word_byte byte) (states.Word) states.Dead tt tt
IsStarted-after states.Whole byte = IsStarted-if (is_ascii_digit byte) (states.Whole) (if byte == 46 then states.Point else states.Dead) tt (IsStarted-if (byte == 46) (states.Point) states.Dead tt tt)
IsStarted-after states.Point byte = IsStarted-if (is_ascii_digit byte) (states.Decimal) states.Dead tt tt
IsStarted-after states.Decimal byte = IsStarted-if (is_ascii_digit byte) (states.Decimal) states.Dead tt tt
IsStarted-after states.Inside byte = IsStarted-if (byte == 39) (states.Behind) states.Inside tt tt
IsStarted-after states.Behind byte = IsStarted-if (byte == 39) (states.Inside) states.Dead tt tt
IsStarted-after states.Less byte = IsStarted-if (byte == 61) (states.Symbol kinds.LessOrEqual) (if byte == 62 then states.Symbol kinds.Unequal else states.Dead) tt (IsStarted-if (byte == 62) (states.Symbol kinds.Unequal) states.Dead tt tt)
IsStarted-after states.Greater byte = IsStarted-if (byte == 61) (states.Symbol kinds.GreaterOrEqual) states.Dead tt tt
IsStarted-after (states.Symbol kind) byte = tt
IsStarted-after states.Dead byte = tt

kind_from-nil : (state : State) → IsStarted state → (text : List ℕ) → kind_from state text [] ≡ kind_at state text
kind_from-nil states.Start started text = absurd started
kind_from-nil states.Word started text = refl
kind_from-nil states.Whole started text = refl
kind_from-nil states.Point started text = refl
kind_from-nil states.Decimal started text = refl
kind_from-nil states.Inside started text = refl
kind_from-nil states.Behind started text = refl
kind_from-nil states.Less started text = refl
kind_from-nil states.Greater started text = refl
kind_from-nil (states.Symbol kind) started text = refl
kind_from-nil states.Dead started text = refl

kind_from-run : (state : State) → IsStarted state → (text bytes : List ℕ) → kind_from state text bytes ≡ kind_at (run state bytes) text
kind_from-run state started text [] = kind_from-nil state started text
kind_from-run state started text (byte ∷ bytes) = kind_from-cons state started text byte bytes ∙ kind_from-run (after state byte) (IsStarted-after state byte) text bytes

-- the machine says what kind a text is
pub token_kind-run : (text : List ℕ) → token_kind text ≡ kind_at (run states.Start text) text
unfolding token_kind
token_kind-run [] = refl
token_kind-run (byte ∷ bytes) = token_kind-cons byte bytes ∙ kind_from-run (after_start byte) (IsStarted-after states.Start byte) (byte ∷ bytes) bytes

-- a state that accepts says a kind, and no other does
pub is_some-kind_at : (state : State) (text : List ℕ) → is_some (kind_at state text) ≡ accepts state
is_some-kind_at states.Start text = refl
is_some-kind_at states.Word text = refl
is_some-kind_at states.Whole text = refl
is_some-kind_at states.Point text = refl
is_some-kind_at states.Decimal text = refl
is_some-kind_at states.Inside text = refl
is_some-kind_at states.Behind text = refl
is_some-kind_at states.Less text = refl
is_some-kind_at states.Greater text = refl
is_some-kind_at (states.Symbol kind) text = refl
is_some-kind_at states.Dead text = refl

None-from-is_some : (kind : Option TokenKind) → is_some kind ≡ false → kind ≡ None
None-from-is_some None e = refl
None-from-is_some (Some kind) e = cc

pub no_kind : (text : List ℕ) → accepts (run states.Start text) ≡ false → token_kind text ≡ None
no_kind text e = token_kind-run text ∙ None-from-is_some (kind_at (run states.Start text) text) (is_some-kind_at (run states.Start text) text ∙ e)

pub some_kind : (text : List ℕ) → accepts (run states.Start text) ≡ true → is_some (token_kind text) ≡ true
some_kind text e = ap is_some (token_kind-run text) ∙ is_some-kind_at (run states.Start text) text ∙ e

pub run-append : (state : State) (xs ys : List ℕ) → run state (xs ++ ys) ≡ run (run state xs) ys
run-append state [] ys = refl
run-append state (x ∷ xs) ys = run-append (after state x) xs ys

pub run-dead : (bytes : List ℕ) → run states.Dead bytes ≡ states.Dead
run-dead [] = refl
run-dead (byte ∷ bytes) = run-dead bytes

-- one more byte of a text
pub run-next : (state : State) (bytes : List ℕ) (i : ℕ) → i < length bytes → run state (take (i + 1) bytes) ≡ after (run state (take i bytes)) (get_or bytes i 0)
run-next state bytes i h = ap (run state) (take_more bytes i 0 h) ∙ run-append state (take i bytes) (get_or bytes i 0 ∷ [])

-- once dead, the machine stays so
dead_stays : (state : State) (bytes : List ℕ) (i k : ℕ) → run state (take i bytes) ≡ states.Dead → i + k ≤ length bytes → run state (take (i + k) bytes) ≡ states.Dead
dead_stays state bytes i zero dead h = ap (λ n. run state (take n bytes)) (add-zero i) ∙ dead
dead_stays state bytes i (suc k) dead h =
    let e : i + suc k ≡ (i + k) + 1 = omega arith in
    let inside : i + k < length bytes = omega arith in
    ap (λ n. run state (take n bytes)) e ∙ run-next state bytes (i + k) inside ∙ ap (λ v. after v (get_or bytes (i + k) 0)) (dead_stays state bytes i k dead (omega arith))

pub dead_beyond : (state : State) (bytes : List ℕ) (i longer : ℕ) → run state (take i bytes) ≡ states.Dead → i ≤ longer → longer ≤ length bytes → accepts (run state (take longer bytes)) ≡ false
dead_beyond state bytes i longer dead above h =
    let e : i + (longer - i) ≡ longer = omega arith in
    ap accepts (ap (λ n. run state (take n bytes)) (sym e) ∙ dead_stays state bytes i (longer - i) dead (omega arith))

-- where the machine is dead at the next byte, or there is none, it accepts nothing longer
pub none_beyond : (state : State) (bytes : List ℕ) (count : ℕ)
    → (count < length bytes → after (run state (take count bytes)) (get_or bytes count 0) ≡ states.Dead)
    → (longer : ℕ) → count < longer → longer ≤ length bytes → accepts (run state (take longer bytes)) ≡ false
none_beyond state bytes count dead longer above h =
    let lt : count < length bytes = omega arith in
    dead_beyond state bytes (count + 1) longer (run-next state bytes count lt ∙ dead lt) (omega arith) h

-- one more byte, at which nothing is accepted
pub none_until : (state : State) (bytes : List ℕ) (place count : ℕ)
    → ((longer : ℕ) → count < longer → longer ≤ place → accepts (run state (take longer bytes)) ≡ false)
    → accepts (run state (take (place + 1) bytes)) ≡ false
    → (longer : ℕ) → count < longer → longer ≤ place + 1 → accepts (run state (take longer bytes)) ≡ false
none_until state bytes place count below here longer above h =
    ⊎_elim
    (λ lt. let e : longer ≡ place + 1 = omega arith in ap (λ n. accepts (run state (take n bytes))) e ∙ here)
    (λ le. below longer above le)
    (cases_lt place longer)

pub word_kind-found : (word : List ℕ) (kind : TokenKind) → Some kind ≡ kind_in reserved word → kind ≡ word_kind word
unfolding word_kind
word_kind-found word kind found =
    ap (λ o. unwrap_or o (if nat_le (length word) NAME_BYTES then kinds.Name else kinds.LongWord)) found

pub word_kind-name : (word : List ℕ) → None ≡ kind_in reserved word → length word ≤ NAME_BYTES → kinds.Name ≡ word_kind word
unfolding word_kind
word_kind-name word found h =
    ap (λ b. if b then kinds.Name else kinds.LongWord) (sym (le-leb (length word) NAME_BYTES h))
    ∙ ap (λ o. unwrap_or o (if nat_le (length word) NAME_BYTES then kinds.Name else kinds.LongWord)) found

pub word_kind-long : (word : List ℕ) → None ≡ kind_in reserved word → NAME_BYTES < length word → kinds.LongWord ≡ word_kind word
unfolding word_kind
word_kind-long word found h =
    ap (λ b. if b then kinds.Name else kinds.LongWord) (sym (lt-leb (length word) NAME_BYTES h))
    ∙ ap (λ o. unwrap_or o (if nat_le (length word) NAME_BYTES then kinds.Name else kinds.LongWord)) found
