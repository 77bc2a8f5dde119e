-- The versions in a cell that ends in the bytes of its birth, of a number of its own and of its end.
use Rattle.std.proofs.Common.{◌≡◌, ◌<◌, ◌+◌, ◌-◌, ◌^◌, ℕ, List, [], ◌++◌, length, take, drop, sym, ap, ◌∙◌, arith}
use Rattle.std.proofs.lemmas.List.{append_assoc, length-append, drop_at, take_at}
use Rattle.std.specs.Int.{w32, w64, to_be_bytes}
use Rattle.byteorder.specs.Endian.{big_number}
use Rattle.byteorder.specs.Numbers.{big_number-reads_back}
use Rattle.rs_cell_versions.specs.Version.{born_of, died_of, ended, lasting}

-- the cell is these bytes, and then the numbers
pub record IsVersioned (cell front : List ℕ) (born middle died : ℕ) : Type 0 where
  pub born_fits : born < 2 ^ 64
  pub died_fits : died < 2 ^ 64
  pub bytes : cell ≡ front ++ (to_be_bytes w64 born ++ (to_be_bytes w32 middle ++ to_be_bytes w64 died))

pub length_versioned : (cell front : List ℕ) (born middle died : ℕ) → IsVersioned cell front born middle died → length cell ≡ length front + 20
length_versioned cell front born middle died is =
    ap length is.bytes ∙ length-append front (to_be_bytes w64 born ++ (to_be_bytes w32 middle ++ to_be_bytes w64 died))

pub born_read : (cell front : List ℕ) (born middle died : ℕ) → IsVersioned cell front born middle died → born_of cell ≡ born
unfolding born_of
born_read cell front born middle died is =
    let back : List ℕ = to_be_bytes w32 middle ++ to_be_bytes w64 died in
    let size = length_versioned cell front born middle died is in
    let place : length front ≡ length cell - 20 = omega arith in
    ap (λ (c : List ℕ). big_number 8 (drop (length cell - 20) c)) is.bytes
    ∙ ap (big_number 8) (drop_at front (to_be_bytes w64 born ++ back) (length cell - 20) place) ∙ big_number-reads_back 8 born back is.born_fits

-- what is before the end
abbrev before_end : List ℕ → ℕ → ℕ → List ℕ
before_end front born middle = front ++ (to_be_bytes w64 born ++ to_be_bytes w32 middle)

length_before : (cell front : List ℕ) (born middle died : ℕ) → IsVersioned cell front born middle died → length (before_end front born middle) ≡ length cell - 8
length_before cell front born middle died is =
    let size = length_versioned cell front born middle died is in
    let whole : length (before_end front born middle) ≡ length front + 12 = length-append front (to_be_bytes w64 born ++ to_be_bytes w32 middle) in
    omega arith

parted : (cell front : List ℕ) (born middle died : ℕ) → IsVersioned cell front born middle died → cell ≡ before_end front born middle ++ to_be_bytes w64 died
parted cell front born middle died is = is.bytes ∙ sym (append_assoc front (to_be_bytes w64 born ++ to_be_bytes w32 middle) (to_be_bytes w64 died))

pub died_read : (cell front : List ℕ) (born middle died : ℕ) → IsVersioned cell front born middle died → died_of cell ≡ died
unfolding died_of
died_read cell front born middle died is =
    ap (λ (c : List ℕ). big_number 8 (drop (length cell - 8) c)) (parted cell front born middle died is)
    ∙ ap (big_number 8) (drop_at (before_end front born middle) (to_be_bytes w64 died) (length cell - 8) (length_before cell front born middle died is))
    ∙ big_number-reads_back 8 died [] is.died_fits

lasting_read : (cell front : List ℕ) (born middle died : ℕ) → IsVersioned cell front born middle died → lasting cell ≡ before_end front born middle
unfolding lasting
lasting_read cell front born middle died is =
    ap (take (length cell - 8)) (parted cell front born middle died is)
    ∙ take_at (before_end front born middle) (to_be_bytes w64 died) (length cell - 8) (length_before cell front born middle died is)

-- with another end
pub ended_read : (version : ℕ) (cell front : List ℕ) (born middle died : ℕ) → IsVersioned cell front born middle died
    → ended version cell ≡ front ++ (to_be_bytes w64 born ++ (to_be_bytes w32 middle ++ to_be_bytes w64 version))
unfolding ended
ended_read version cell front born middle died is =
    ap (λ (l : List ℕ). l ++ to_be_bytes w64 version) (lasting_read cell front born middle died is)
    ∙ append_assoc front (to_be_bytes w64 born ++ to_be_bytes w32 middle) (to_be_bytes w64 version)
