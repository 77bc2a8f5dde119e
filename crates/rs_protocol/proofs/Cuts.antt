-- Streams of bytes, cut at each LF.
use Rattle.std.proofs.Common.{◌≡◌, ◌≢◌, ℕ, ◌==◌, true, false, List, [], ◌∷◌, ◌++◌, refl, sym, ap, ◌∙◌, subst, append_assoc, append-nil}
use Rattle.std.proofs.lemmas.Bool.{eqb-true, eqb-false}
use Rattle.std.specs.Prelude.{flat_map}
use Rattle.std.specs.List.{AllByRecursion}
use Rattle.std.proofs.lemmas.Grind.{flat_map-append}
use Rattle.rs_machine.specs.Stream.{IsCutIntoLines, IsOneLine, with_feed, LINE_FEED}

-- what holds of each of the elements and of one more
pub all-more : (X : Type 0) (P : X → Type 0) (xs : List X) (x : X) → AllByRecursion P xs → P x → AllByRecursion P (xs ++ x ∷ [])
all-more X P [] x each here = (here, tt)
all-more X P (y ∷ ys) x each here = (each.0, all-more X P ys x each.1 here)

-- nothing is told yet
pub IsCutIntoLines-nothing : IsCutIntoLines [] [] []
IsCutIntoLines-nothing = record { whole = refl; each = tt; partial = tt }

-- a byte of the line begun
pub IsCutIntoLines-byte : (bytes : List ℕ) (lines : List (List ℕ)) (rest : List ℕ) (byte : ℕ) → IsCutIntoLines bytes lines rest → byte ≢ LINE_FEED
    → IsCutIntoLines (bytes ++ byte ∷ []) lines (rest ++ byte ∷ [])
IsCutIntoLines-byte bytes lines rest byte cut other = record {
  whole = ap (λ l. l ++ byte ∷ []) cut.whole ∙ append_assoc (flat_map with_feed lines) rest (byte ∷ []);
  each = cut.each;
  partial = all-more ℕ (λ b. b ≢ LINE_FEED) rest byte cut.partial other;
}

-- what holds of each of the elements and of more
all-both : (X : Type 0) (P : X → Type 0) (xs ys : List X) → AllByRecursion P xs → AllByRecursion P ys → AllByRecursion P (xs ++ ys)
all-both X P [] ys each more = more
all-both X P (x ∷ xs) ys each more = (each.0, all-both X P xs ys each.1 more)

-- bytes of the line begun
pub IsCutIntoLines-text : (bytes : List ℕ) (lines : List (List ℕ)) (rest text : List ℕ) → IsCutIntoLines bytes lines rest → IsOneLine text → IsCutIntoLines (bytes ++ text) lines (rest ++ text)
IsCutIntoLines-text bytes lines rest text cut one = record {
  whole = ap (λ l. l ++ text) cut.whole ∙ append_assoc (flat_map with_feed lines) rest text;
  each = cut.each;
  partial = all-both ℕ (λ b. b ≢ LINE_FEED) rest text cut.partial one;
}

-- the LF of the line begun
pub IsCutIntoLines-feed : (bytes : List ℕ) (lines : List (List ℕ)) (rest : List ℕ) → IsCutIntoLines bytes lines rest → IsCutIntoLines (bytes ++ LINE_FEED ∷ []) (lines ++ rest ∷ []) []
IsCutIntoLines-feed bytes lines rest cut = record {
  whole = ap (λ l. l ++ LINE_FEED ∷ []) cut.whole ∙ append_assoc (flat_map with_feed lines) rest (LINE_FEED ∷ [])
      ∙ sym (append-nil (flat_map with_feed lines ++ with_feed rest))
      ∙ ap (λ l. l ++ []) (sym (flat_map-append with_feed lines (rest ∷ []) ∙ ap (λ l. flat_map with_feed lines ++ l) (append-nil (with_feed rest))));
  each = all-more (List ℕ) IsOneLine lines rest cut.each cut.partial;
  partial = tt;
}

-- the cut goes on after bytes that are cut
pub record CutsOn (bytes : List ℕ) (lines : List (List ℕ)) : Type 0 where
  pub later : List (List ℕ)
  pub rest : List ℕ
  pub cut : IsCutIntoLines bytes (lines ++ later) rest

pub IsCutIntoLines-more : (bytes : List ℕ) (lines : List (List ℕ)) (rest more : List ℕ) → IsCutIntoLines bytes lines rest → CutsOn (bytes ++ more) lines
IsCutIntoLines-more bytes lines rest [] cut = record {
  later = [];
  rest = rest;
  cut = subst (λ b. IsCutIntoLines b (lines ++ []) rest) (sym (append-nil bytes)) (subst (λ l. IsCutIntoLines bytes l rest) (sym (append-nil lines)) cut);
}
IsCutIntoLines-more bytes lines rest (byte ∷ more) cut =
    let P : List ℕ → Type 0 = λ b. CutsOn b lines in
    subst P (append_assoc bytes (byte ∷ []) more)
    (elim (byte == LINE_FEED) as (λ b. (byte == LINE_FEED) ≡ b → CutsOn ((bytes ++ byte ∷ []) ++ more) lines) [
      | true ↦ λ is_feed.
          let at_feed : byte ≡ LINE_FEED = eqb-true byte LINE_FEED is_feed in
          let ended : IsCutIntoLines (bytes ++ byte ∷ []) (lines ++ rest ∷ []) [] = subst (λ b. IsCutIntoLines (bytes ++ b ∷ []) (lines ++ rest ∷ []) []) (sym at_feed) (IsCutIntoLines-feed bytes lines rest cut) in
          let on : CutsOn ((bytes ++ byte ∷ []) ++ more) (lines ++ rest ∷ []) = IsCutIntoLines-more (bytes ++ byte ∷ []) (lines ++ rest ∷ []) [] more ended in
          record { later = rest ∷ on.later; rest = on.rest; cut = subst (λ l. IsCutIntoLines ((bytes ++ byte ∷ []) ++ more) l on.rest) (append_assoc lines (rest ∷ []) on.later) on.cut }
      | false ↦ λ no_feed.
          IsCutIntoLines-more (bytes ++ byte ∷ []) lines (rest ++ byte ∷ []) more (IsCutIntoLines-byte bytes lines rest byte cut (λ e. absurd (eqb-false byte LINE_FEED no_feed e)))
    ] refl)

-- two lines that begin one stream, and what stands after them
one_first_line : (line other more later : List ℕ) → IsOneLine line → IsOneLine other → line ++ LINE_FEED ∷ more ≡ other ++ LINE_FEED ∷ later → (line ≡ other) × (more ≡ later)
one_first_line [] [] more later plain plain' same = (refl, cc)
one_first_line [] (byte ∷ other) more later plain plain' same = let first : LINE_FEED ≡ byte = cc in absurd (plain'.0 (sym first))
one_first_line (byte ∷ line) [] more later plain plain' same = let first : byte ≡ LINE_FEED = cc in absurd (plain.0 first)
one_first_line (byte ∷ line) (byte' ∷ other) more later plain plain' same =
    let first : byte ≡ byte' = cc in
    let rest : line ++ LINE_FEED ∷ more ≡ other ++ LINE_FEED ∷ later = cc in
    let tails : (line ≡ other) × (more ≡ later) = one_first_line line other more later plain.1 plain'.1 rest in
    let heads : line ≡ other = tails.0 in
    (cc, tails.1)

-- one line holds no LF
no_feed : (rest line more : List ℕ) → IsOneLine rest → rest ≡ line ++ LINE_FEED ∷ more → ⊥
no_feed [] [] more plain same = cc
no_feed [] (byte ∷ line) more plain same = cc
no_feed (byte ∷ rest) [] more plain same = let first : byte ≡ LINE_FEED = cc in plain.0 first
no_feed (byte ∷ rest) (byte' ∷ line) more plain same = let tail : rest ≡ line ++ LINE_FEED ∷ more = cc in no_feed rest line more plain.1 tail

-- the lines of a stream as one list of bytes, the first line set apart
first_apart : (line : List ℕ) (lines : List (List ℕ)) (rest : List ℕ) → flat_map with_feed (line ∷ lines) ++ rest ≡ line ++ LINE_FEED ∷ (flat_map with_feed lines ++ rest)
first_apart line lines rest = simp append_assoc

pub one_cut : (lines others : List (List ℕ)) (rest other : List ℕ) → AllByRecursion IsOneLine lines → AllByRecursion IsOneLine others → IsOneLine rest → IsOneLine other
    → flat_map with_feed lines ++ rest ≡ flat_map with_feed others ++ other → (lines ≡ others) × (rest ≡ other)
one_cut [] [] rest other each each' plain plain' same = (refl, same)
one_cut [] (line ∷ others) rest other each each' plain plain' same =
    absurd (no_feed rest line (flat_map with_feed others ++ other) plain (same ∙ first_apart line others other))
one_cut (line ∷ lines) [] rest other each each' plain plain' same =
    absurd (no_feed other line (flat_map with_feed lines ++ rest) plain' (sym same ∙ first_apart line lines rest))
one_cut (line ∷ lines) (line' ∷ others) rest other each each' plain plain' same =
    let firsts : (line ≡ line') × (flat_map with_feed lines ++ rest ≡ flat_map with_feed others ++ other) =
    one_first_line line line' (flat_map with_feed lines ++ rest) (flat_map with_feed others ++ other) each.0 each'.0
    (sym (first_apart line lines rest) ∙ same ∙ first_apart line' others other) in
    let laters : (lines ≡ others) × (rest ≡ other) = one_cut lines others rest other each.1 each'.1 plain plain' firsts.1 in
    let heads : line ≡ line' = firsts.0 in
    let tails : lines ≡ others = laters.0 in
    (cc, laters.1)

pub IsCutIntoLines-one : (bytes : List ℕ) (lines others : List (List ℕ)) (rest other : List ℕ) → IsCutIntoLines bytes lines rest → IsCutIntoLines bytes others other → (lines ≡ others) × (rest ≡ other)
IsCutIntoLines-one bytes lines others rest other cut cut' = one_cut lines others rest other cut.each cut'.each cut.partial cut'.partial (sym cut.whole ∙ cut'.whole)
