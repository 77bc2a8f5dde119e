-- A piece of a stream, cut at its first LF.
use Rattle.std.proofs.Common.{◌≡◌, ℕ, zero, suc, ◌+◌, ◌-◌, ◌<◌, ◌≤◌, Result, Ok, Err, ◌==◌, Some, None, Option, List, [], ◌∷◌, ◌++◌, length, take, drop, get_or, ap, sym, subst, ◌∙◌, append_assoc, arith}
use Rattle.std.specs.Prelude.{IsOk, OnOk}
use Rattle.std.proofs.lemmas.Bool.{eqb-true, false≢true}
use Rattle.std.proofs.lemmas.List.{take-append-drop, take_all, take_more}
use Rattle.memchr.specs.Find.{IsFirstByte, Passes, is_byte}
use Rattle.rs_machine.specs.Stream.{IsOneLine, LINE_FEED}
use Rattle.rs_protocol.specs.Ends.{WroteFront}
use Rattle.rs_machine.specs.Served.{Machine}
use Rattle.rs_protocol.proofs.Serving.{WroteFront-more}

-- where none of the first bytes is an LF, they are of one line
one_line : (xs : List ℕ) (k : ℕ) → ((m : ℕ) → m < k → Passes (is_byte LINE_FEED) xs m → ⊥) → IsOneLine (take k xs)
one_line xs zero none = tt
one_line [] (suc k) none = tt
one_line (x ∷ xs) (suc k) none = (
  λ e. none 0 (omega arith) (ap (λ n. n == LINE_FEED) e),
  one_line xs k (λ m low passes. none (suc m) (omega (arith, low)) passes),
)

-- bytes before the first LF, it, and those after it
pub record CutAtFeed (bytes : List ℕ) (k : ℕ) : Type 0 where
  pub one : IsOneLine (take k bytes)
  pub within : k < length bytes
  pub whole : bytes ≡ take k bytes ++ LINE_FEED ∷ drop (k + 1) bytes

pub cut_at_feed : (bytes : List ℕ) (found : Option ℕ) (k : ℕ) → found ≡ Some k → IsFirstByte (is_byte LINE_FEED) bytes found → CutAtFeed bytes k
cut_at_feed bytes found k is finds =
    let first = subst (IsFirstByte (is_byte LINE_FEED) bytes) is finds in
    let feed : get_or bytes k 0 ≡ LINE_FEED = eqb-true _ _ first.1 in
    record {
      one = one_line bytes k (λ m low. first.0.before m (omega arith) low);
      within = first.0.high;
      whole = sym (take-append-drop (k + 1) bytes) ∙ ap (λ l. l ++ drop (k + 1) bytes) (take_more bytes k 0 first.0.high)
          ∙ append_assoc (take k bytes) (get_or bytes k 0 ∷ []) (drop (k + 1) bytes) ∙ ap (λ n. take k bytes ++ n ∷ drop (k + 1) bytes) feed;
    }

-- there is none
pub no_feed : (bytes : List ℕ) (found : Option ℕ) → found ≡ None → IsFirstByte (is_byte LINE_FEED) bytes found → IsOneLine bytes
no_feed bytes found is finds =
    let nowhere = subst (IsFirstByte (is_byte LINE_FEED) bytes) is finds in
    subst IsOneLine (take_all (length bytes) bytes (omega arith)) (one_line bytes (length bytes) (λ m low. nowhere m (omega arith) low))

-- what was told, the bytes of a piece up to there, those of a line, and its LF
pub told_line : (told front text : List ℕ) → ((told ++ front) ++ text) ++ LINE_FEED ∷ [] ≡ told ++ (front ++ (text ++ LINE_FEED ∷ []))
told_line told front text =
    append_assoc (told ++ front) text (LINE_FEED ∷ []) ∙ append_assoc told front (text ++ LINE_FEED ∷ [])

-- the piece goes on after that
pub after_line : (piece front rest : List ℕ) (k : ℕ) → piece ≡ front ++ rest → CutAtFeed rest k → piece ≡ (front ++ (take k rest ++ LINE_FEED ∷ [])) ++ drop (k + 1) rest
after_line piece front rest k whole cut =
    whole ∙ ap (λ l. front ++ l) cut.whole
    ∙ sym (append_assoc front (take k rest ++ LINE_FEED ∷ []) (drop (k + 1) rest) ∙ ap (λ l. front ++ l) (append_assoc (take k rest) (LINE_FEED ∷ []) (drop (k + 1) rest)))

-- a line of a piece ends the service, and the rest of the piece comes after it
pub stops_in_piece : (told piece front rest : List ℕ) (k : ℕ) (old new : Machine) (a b : Option (List ℕ)) → piece ≡ front ++ rest → CutAtFeed rest k
    → WroteFront (((told ++ front) ++ take k rest) ++ LINE_FEED ∷ []) old new a b → WroteFront (told ++ piece) old new a b
stops_in_piece told piece front rest k old new a b whole cut stop =
    let all : (told ++ (front ++ (take k rest ++ LINE_FEED ∷ []))) ++ drop (k + 1) rest ≡ told ++ piece =
    append_assoc told (front ++ (take k rest ++ LINE_FEED ∷ [])) (drop (k + 1) rest) ∙ ap (λ l. told ++ l) (sym (after_line piece front rest k whole cut)) in
    subst (λ l. WroteFront l old new a b) all
    (WroteFront-more (told ++ (front ++ (take k rest ++ LINE_FEED ∷ []))) (drop (k + 1) rest) old new a b (subst (λ l. WroteFront l old new a b) (told_line told front (take k rest)) stop))

-- ---- what is kept

-- what is so of an answer that is Ok
pub where_ok : {T E : Type 0} (r : Result T E) (P : Type 0) → IsOk r → OnOk r P → P
where_ok (Ok done) P is holds = holds
where_ok (Err why) P is holds = absurd (false≢true is)

-- bytes that are kept, and as many more as there is room for
pub take_past : (n : ℕ) (xs ys : List ℕ) → length xs ≤ n → take n (xs ++ ys) ≡ xs ++ take (n - length xs) ys
take_past n [] ys fits = let e : n ≡ n - 0 = omega arith in ap (λ m. take m ys) e
take_past zero (x ∷ xs) ys fits = absurd (omega (arith, fits))
take_past (suc n) (x ∷ xs) ys fits =
    let e : n - length xs ≡ suc n - length (x ∷ xs) = omega arith in
    ap (λ l. x ∷ l) (take_past n xs ys (omega (arith, fits))) ∙ ap (λ m. (x ∷ xs) ++ take m ys) e
