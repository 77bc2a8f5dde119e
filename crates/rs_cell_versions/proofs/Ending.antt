-- What the end of a cell leaves of it: all that lasts, and the version of its birth.
use Rattle.std.proofs.Common.{◌≡◌, ◌<◌, ◌≤◌, ◌+◌, ◌-◌, ◌^◌, ℕ, true, false, not, List, [], ◌++◌, IsTrue, length, take, drop, refl, sym, ap, ◌∙◌, arith}
use Rattle.std.proofs.lemmas.Bool.{ne_eqb}
use Rattle.std.proofs.lemmas.List.{append-nil, length-append, length-take-le, length-drop, drop-append-le, drop_all, drop_at, take_at, take-append-drop}
use borrow.Rule.Slice.PartMut.{put_mid}
use Rattle.std.specs.Int.{w64, to_be_bytes}
use Rattle.byteorder.specs.Endian.{big_number}
use Rattle.byteorder.specs.Numbers.{big_number-reads_back, big_from-append, length-bytes_high_first}
use Rattle.rs_cell_versions.specs.Version.{born_of, died_of, ended, is_dead, is_living, lasting}

pub length-lasting : (cell : List ℕ) → 8 ≤ length cell → length (lasting cell) + 8 ≡ length cell
unfolding lasting
length-lasting cell long = omega (arith, length-take-le (length cell - 8) cell (omega arith))

pub length-ended : (version : ℕ) (cell : List ℕ) → 8 ≤ length cell → length (ended version cell) ≡ length cell
unfolding ended
length-ended version cell long =
    omega (arith, length-append (lasting cell) (to_be_bytes w64 version), length-lasting cell long, length-bytes_high_first 8 version)

number_back : (n k x : ℕ) (front bytes : List ℕ) → length bytes ≡ k → big_number n (bytes ++ []) ≡ x → big_number n (drop (length (front ++ bytes) - k) (front ++ bytes)) ≡ x
number_back n k x front bytes size says =
    let place : length front ≡ length (front ++ bytes) - k = omega (arith, length-append front bytes) in
    ap (big_number n) (drop_at front bytes (length (front ++ bytes) - k) place ∙ sym (append-nil bytes)) ∙ says

pub died-ended : (version : ℕ) (cell : List ℕ) → version < 2 ^ 64 → died_of (ended version cell) ≡ version
unfolding died_of ended
died-ended version cell fits =
    number_back 8 8 version (lasting cell) (to_be_bytes w64 version) (length-bytes_high_first 8 version) (big_number-reads_back 8 version [] fits)

at_front : (version : ℕ) (cell : List ℕ) → length (lasting cell) ≡ length (ended version cell) - 8 → lasting (ended version cell) ≡ lasting cell
unfolding lasting ended
at_front version cell front = take_at (lasting cell) (to_be_bytes w64 version) (length (ended version cell) - 8) front

-- what lasts is the front of both
pub lasting-ended : (version : ℕ) (cell : List ℕ) → 8 ≤ length cell → lasting (ended version cell) ≡ lasting cell
lasting-ended version cell long =
    let front : length (lasting cell) ≡ length (ended version cell) - 8 = omega (arith, length-lasting cell long, length-ended version cell long) in
    at_front version cell front

number_front : (n k m : ℕ) (cell more : List ℕ) → k + n ≤ m → m ≤ length cell → big_number n (drop k (take m cell ++ more)) ≡ big_number n (drop k cell)
number_front n k m cell more inside long =
    let size = length-take-le m cell long in
    let enough : n ≤ length (drop k (take m cell)) = omega (arith, length-drop k (take m cell), size) in
    let within : k ≤ length (take m cell) = omega arith in
    let one : (rest : List ℕ) → big_number n (drop k (take m cell ++ rest)) ≡ big_number n (drop k (take m cell)) =
    λ rest. ap (big_number n) (drop-append-le k (take m cell) rest within) ∙ big_from-append n (drop k (take m cell)) rest enough in
    one more ∙ sym (one (drop m cell)) ∙ ap (λ c. big_number n (drop k c)) (take-append-drop m cell)

born_at : (version : ℕ) (cell : List ℕ) (k : ℕ) → 20 ≤ length cell → k ≡ length cell - 20 → k ≡ length (ended version cell) - 20 → born_of (ended version cell) ≡ born_of cell
unfolding born_of ended lasting
born_at version cell k long here there =
    ap (λ i. big_number 8 (drop i (ended version cell))) (sym there) ∙ number_front 8 k (length cell - 8) cell (to_be_bytes w64 version) (omega arith) (omega arith)
    ∙ ap (λ i. big_number 8 (drop i cell)) here

pub born-ended : (version : ℕ) (cell : List ℕ) → 20 ≤ length cell → born_of (ended version cell) ≡ born_of cell
born-ended version cell long = born_at version cell (length (ended version cell) - 20) long (omega (arith, length-ended version cell (omega arith))) refl

-- an end below the version that stands in living cells makes the cell a dead one
pub ended-dead : (version : ℕ) (cell : List ℕ) → version < 2 ^ 64 - 1 → is_living (ended version cell) ≡ false
ended-dead version cell below =
    let died = died-ended version cell (omega arith) in
    ne_eqb (died_of (ended version cell)) (2 ^ 64 - 1) (λ same. omega arith)

pub living-not_dead : (cell : List ℕ) → IsTrue (is_living cell) → is_dead cell ≡ false
living-not_dead cell living = ap not living

pub not_living-dead : (cell : List ℕ) → is_living cell ≡ false → is_dead cell ≡ true
not_living-dead cell ended = ap not ended

-- the last eight bytes are written over
pub ended_written : (version k : ℕ) (cell tail new : List ℕ) → 8 ≤ length cell → k ≡ length cell - (length cell - 8) → length tail ≡ 8 → new ≡ to_be_bytes w64 version ++ drop 8 tail
    → put_mid (length cell - 8) k cell new ≡ ended version cell
unfolding ended lasting
ended_written version k cell tail new long size whole is =
    let eight : k ≡ 8 = omega arith in
    let none : drop 8 tail ≡ [] = drop_all 8 tail (omega arith) in
    let written : new ≡ to_be_bytes w64 version = is ∙ ap (λ xs. to_be_bytes w64 version ++ xs) none ∙ append-nil (to_be_bytes w64 version) in
    let over : drop k (drop (length cell - 8) cell) ≡ [] = drop_all k (drop (length cell - 8) cell) (omega (arith, length-drop (length cell - 8) cell)) in
    ap (λ xs. take (length cell - 8) cell ++ (xs ++ drop k (drop (length cell - 8) cell))) written
    ∙ ap (λ xs. take (length cell - 8) cell ++ (to_be_bytes w64 version ++ xs)) over
    ∙ ap (λ xs. take (length cell - 8) cell ++ xs) (append-nil (to_be_bytes w64 version))
