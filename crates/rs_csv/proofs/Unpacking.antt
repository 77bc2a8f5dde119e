-- What codes stand for, while texts are added.
use Rattle.std.proofs.Common.{◌≡◌, ◌∙◌, ℕ, suc, ◌+◌, ◌-◌, ◌<◌, Bool, true, false, nat_lt, List, [], ◌∷◌, ◌++◌, All, length, map, arith, ap, append-nil, append_assoc, refl}
use Rattle.std.proofs.lemmas.Bool.{ltb-false}
use Rattle.std.proofs.lemmas.Grind.{flat_map-append}
use Rattle.std.proofs.lemmas.List.{get_or_append_left, map-append}
use Rattle.std.proofs.lemmas.List.Elements.{All-append, All-cons, All-nil}
use Rattle.rs_csv.specs.Words.{AreKnown, TextsGrow, said, unpacked, word_text}
use Rattle.rs_csv.specs.declared.word.Word.{Word}

-- a word more
pub known_more : (known more : List Word) (word : Word) (texts : List (List ℕ)) → more ≡ known ++ word ∷ [] → map word_text known ≡ texts → map word_text more ≡ texts ++ word_text word ∷ []
known_more known more word texts is view = ap (map word_text) is ∙ map-append word_text known (word ∷ []) ∙ ap (λ ts. ts ++ word_text word ∷ []) view

said_by : (texts more : List (List ℕ)) (code : ℕ) (byte : Bool) → nat_lt code 256 ≡ byte → code < 256 + length texts → said (texts ++ more) code ≡ said texts code
said_by texts more code true is below = rw (is) refl
said_by texts more code false is below = rw (is) (get_or_append_left texts more [] (code - 256) (omega (arith, ltb-false code 256 is)))

-- a code stands for what it did
pub said_more : (texts more : List (List ℕ)) (code : ℕ) → code < 256 + length texts → said (texts ++ more) code ≡ said texts code
said_more texts more code below = said_by texts more code (nat_lt code 256) refl below

-- so do codes
pub unpacked_more : (texts more : List (List ℕ)) (codes : List ℕ) → AreKnown texts codes → unpacked (texts ++ more) codes ≡ unpacked texts codes
unpacked_more texts more [] known = refl
unpacked_more texts more (code ∷ codes) known =
    ap (λ t. t ++ unpacked (texts ++ more) codes) (said_more texts more code (known 0 0 (omega arith)))
    ∙ ap (λ ts. said texts code ++ ts) (unpacked_more texts more codes (λ k d less. known (suc k) d (omega arith)))

pub unpacked_now : (texts now : List (List ℕ)) (codes : List ℕ) → TextsGrow texts now → AreKnown texts codes → unpacked now codes ≡ unpacked texts codes
unpacked_now texts now codes grows known = ap (λ ts. unpacked ts codes) grows.1 ∙ unpacked_more texts grows.0 codes known

pub grows_trans : (a b c : List (List ℕ)) → TextsGrow a b → TextsGrow b c → TextsGrow a c
grows_trans a b c first second = (first.0 ++ second.0, second.1 ∙ ap (λ ts. ts ++ second.0) first.1 ∙ append_assoc a first.0 second.0)

-- a code more
pub one_more : (texts : List (List ℕ)) (codes : List ℕ) (code : ℕ) → unpacked texts (codes ++ code ∷ []) ≡ unpacked texts codes ++ said texts code
one_more texts codes code = flat_map-append (said texts) codes (code ∷ []) ∙ ap (λ t. unpacked texts codes ++ t) (append-nil (said texts code))

module _ (texts now : List (List ℕ)) (codes packed : List ℕ) (code : ℕ) (grows : TextsGrow texts now) (is : packed ≡ codes ++ code ∷ []) (known : AreKnown texts codes) (below : code < 256 + length texts) where
  all_known : AreKnown texts (codes ++ code ∷ [])
  all_known = All-append (λ c. c < 256 + length texts) codes (code ∷ []) known (All-cons (λ c. c < 256 + length texts) code [] below (All-nil (λ c. c < 256 + length texts)))

  pub packs_text : (text : List ℕ) → said texts code ≡ text → unpacked now packed ≡ unpacked texts codes ++ text
  packs_text text says =
      ap (unpacked now) is ∙ unpacked_now texts now (codes ++ code ∷ []) grows all_known ∙ one_more texts codes code
      ∙ ap (λ t. unpacked texts codes ++ t) says

-- ---- blocks of codes

module _ {B : Type 0} (codes : B → List ℕ) (words now : List (List ℕ)) (grows : TextsGrow words now) where
  same_blocks : (blocks : List B) → All (λ block. AreKnown words (codes block)) blocks → map (λ block. unpacked now (codes block)) blocks ≡ map (λ block. unpacked words (codes block)) blocks
  same_blocks [] known = refl
  same_blocks (block ∷ blocks) known =
      ap (λ text. text ∷ map (λ b. unpacked now (codes b)) blocks) (unpacked_now words now (codes block) grows (known 0 block (omega arith)))
      ∙ ap (λ texts. unpacked words (codes block) ∷ texts) (same_blocks blocks (λ k d less. known (suc k) d (omega arith)))

  -- a block more
  pub blocks_more : (blocks more : List B) (block : B) (text : List ℕ) (texts : List (List ℕ)) → All (λ b. AreKnown words (codes b)) blocks → more ≡ blocks ++ block ∷ [] → unpacked now (codes block) ≡ text
      → map (λ b. unpacked words (codes b)) blocks ≡ texts → map (λ b. unpacked now (codes b)) more ≡ texts ++ text ∷ []
  blocks_more blocks more block text texts known is says view =
      ap (map (λ b. unpacked now (codes b))) is ∙ map-append (λ b. unpacked now (codes b)) blocks (block ∷ [])
      ∙ ap (λ ts. ts ++ unpacked now (codes block) ∷ []) (same_blocks blocks known ∙ view) ∙ ap (λ t. texts ++ t ∷ []) says
