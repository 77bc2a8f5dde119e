-- A cell says one referent, and a referent has one cell.
use Rattle.std.proofs.Common.{◌≡◌, ◌<◌, ◌≤◌, ◌+◌, ◌-◌, ◌==◌, ◌↔◌, IsTrue, ℕ, zero, suc, Bool, false, true, not, cond, List, [], ◌∷◌, ◌++◌, length, take, drop, replicate, refl, sym, ap, ◌∙◌, subst, arith}
use Rattle.std.proofs.lemmas.Bool.{ne_eqb}
use Rattle.std.proofs.lemmas.Bool.Decides.{nat_tests}
use Rattle.std.proofs.lemmas.List.{drop-drop, drop_at, length-append, length-drop, length-replicate, length-take-le, take-append-drop, take_all, take_at}
use Rattle.std.proofs.lemmas.List.Sums.{prefix_len-le-length}
use Rattle.std.specs.Int.{w32, w64, to_be_bytes}
use Rattle.std.specs.List.{AllByRecursion, position_or_len}
use Rattle.byteorder.specs.Endian.{big_number}
use Rattle.byteorder.specs.Numbers.{big_number-reads_back}
use Rattle.rs_versioned.specs.Referents.{ReferentRecord, SaysReferent, referent_width}
use Rattle.rs_versioned.proofs.Numbers.{AreBytes, bytes_at, bytes_next, number_at_fits}

-- how many bytes there are before the first zero
abbrev pub before_zero : List ℕ → ℕ
before_zero = position_or_len (λ byte. byte == 0)

-- A name without zeros ends where the first zero after it is.
name_ends : (name : List ℕ) (n : ℕ) → AllByRecursion (λ byte. 0 < byte) name → before_zero (name ++ replicate n 0) ≡ length name
name_ends [] zero clean = refl
name_ends [] (suc n) clean = refl
name_ends (b ∷ name) n clean =
    let other : (b == 0) ≡ false = ne_eqb b 0 (λ e. let some = clean.0 in absurd (omega arith)) in
    let rest : before_zero (name ++ replicate n 0) ≡ length name = name_ends name n clean.1 in
    let more : 1 + before_zero (name ++ replicate n 0) ≡ suc (length name) = omega arith in
    rw other more

-- the bytes of the name, with the zeros after it
abbrev pub place_of : List ℕ → List ℕ
place_of cell = take 32 (drop 4 cell)

module _ (cell : List ℕ) (referent : ReferentRecord) (says : SaysReferent cell referent) where
  abbrev filled : List ℕ
  filled = referent.name ++ replicate (32 - length referent.name) 0

  abbrev birth : List ℕ
  birth = to_be_bytes w64 referent.born

  abbrev at : List ℕ
  at = to_be_bytes w32 referent.measure

  abbrev end : List ℕ
  end = to_be_bytes w64 referent.died

  filled_wide : length filled ≡ 32
  filled_wide = length-append referent.name (replicate (32 - length referent.name) 0) ∙ ap (λ (n : ℕ). length referent.name + n) (length-replicate (32 - length referent.name) 0) ∙ omega (arith, says.name_fits)

  pub referent_wide : length cell ≡ 56
  referent_wide = ap length says.bytes ∙ (let e = length-append filled (birth ++ (at ++ end)) in omega (arith, e, filled_wide))

  pub place_there : place_of cell ≡ referent.name ++ replicate (32 - length referent.name) 0
  place_there = ap (λ (l : List ℕ). take 32 (drop 4 l)) says.bytes ∙ take_at filled (birth ++ (at ++ end)) 32 filled_wide

  pub name_there : take (before_zero (place_of cell)) (place_of cell) ≡ referent.name
  name_there =
      let ends : length referent.name ≡ before_zero (place_of cell) = sym (ap before_zero place_there ∙ name_ends referent.name (32 - length referent.name) says.no_zeros) in
      ap (take (before_zero (place_of cell))) place_there ∙ take_at referent.name (replicate (32 - length referent.name) 0) (before_zero (place_of cell)) ends

  pub zeros_there : drop (before_zero (place_of cell)) (place_of cell) ≡ replicate (32 - length referent.name) 0
  zeros_there =
      let ends : length referent.name ≡ before_zero (place_of cell) = sym (ap before_zero place_there ∙ name_ends referent.name (32 - length referent.name) says.no_zeros) in
      ap (drop (before_zero (place_of cell))) place_there ∙ drop_at referent.name (replicate (32 - length referent.name) 0) (before_zero (place_of cell)) ends

  pub route_there : big_number 4 cell ≡ referent.route
  route_there = ap (big_number 4) says.bytes ∙ big_number-reads_back 4 referent.route (filled ++ (birth ++ (at ++ end))) says.route_fits

  after_name : (k n : ℕ) → n ≡ 32 + k → drop n (filled ++ (birth ++ (at ++ end))) ≡ drop k (birth ++ (at ++ end))
  after_name k n is =
      ap (λ (m : ℕ). drop m (filled ++ (birth ++ (at ++ end)))) is
      ∙ sym (drop-drop k 32 (filled ++ (birth ++ (at ++ end)))) ∙ ap (drop k) (drop_at filled (birth ++ (at ++ end)) 32 filled_wide)

  born_there : big_number 8 (drop 36 cell) ≡ referent.born
  born_there = ap (λ (l : List ℕ). big_number 8 (drop 36 l)) says.bytes ∙ ap (big_number 8) (after_name 0 32 refl) ∙ big_number-reads_back 8 referent.born (at ++ end) says.born_fits

  pub measure_there : big_number 4 (drop 44 cell) ≡ referent.measure
  measure_there = ap (λ (l : List ℕ). big_number 4 (drop 44 l)) says.bytes ∙ ap (big_number 4) (after_name 8 40 refl) ∙ big_number-reads_back 4 referent.measure end says.measure_fits

  died_there : big_number 8 (drop 48 cell) ≡ referent.died
  died_there = ap (λ (l : List ℕ). big_number 8 (drop 48 l)) says.bytes ∙ ap (big_number 8) (after_name 12 44 refl) ∙ big_number-reads_back 8 referent.died [] says.died_fits

-- the referent that a cell says
abbrev pub referent_at : List ℕ → ReferentRecord
referent_at cell = record {
  route = big_number 4 cell;
  name = take (before_zero (place_of cell)) (place_of cell);
  measure = big_number 4 (drop 44 cell);
  born = big_number 8 (drop 36 cell);
  died = big_number 8 (drop 48 cell);
}

referent_read : (cell : List ℕ) (referent : ReferentRecord) → SaysReferent cell referent → referent_at cell ≡ referent
referent_read cell referent says =
    let route = route_there cell referent says in
    let name = name_there cell referent says in
    let measure = measure_there cell referent says in
    let born = born_there cell referent says in
    let died = died_there cell referent says in
    λ i. record { route = route i; name = name i; measure = measure i; born = born i; died = died i }

pub referent_said_once : (cell : List ℕ) (one other : ReferentRecord) → SaysReferent cell one → SaysReferent cell other → one ≡ other
referent_said_once cell one other says tells = sym (referent_read cell one says) ∙ referent_read cell other tells

pub referent_has_one_cell : (cell other : List ℕ) (one : ReferentRecord) → SaysReferent cell one → SaysReferent other one → cell ≡ other
referent_has_one_cell cell other one says tells = says.bytes ∙ sym tells.bytes

pub referent_width_is : (cell : List ℕ) (one : ReferentRecord) → SaysReferent cell one → length cell ≡ referent_width
referent_width_is = referent_wide

-- no byte before the first zero is one
none_before : (bytes : List ℕ) → AllByRecursion (λ byte. 0 < byte) (take (before_zero bytes) bytes)
none_before [] = tt
none_before (b ∷ bytes) = by_test (b == 0) refl (none_before bytes) where
  by_test : (t : Bool) → (b == 0) ≡ t → AllByRecursion (λ byte. 0 < byte) (take (before_zero bytes) bytes)
      → AllByRecursion (λ byte. 0 < byte) (take (cond (not t) (1 + before_zero bytes) 0) (b ∷ bytes))
  by_test true e rest = tt
  by_test false e rest =
      let more : suc (before_zero bytes) ≡ 1 + before_zero bytes = omega arith in
      let some : 0 < b = grind (arith, nat_tests) in
      subst (λ (n : ℕ). AllByRecursion (λ byte. 0 < byte) (take n (b ∷ bytes))) more (some, rest)

module _ (cell : List ℕ) (size : length cell ≡ 56) (small : AreBytes cell)
    (zeros : drop (before_zero (place_of cell)) (place_of cell) ≡ replicate (length (drop (before_zero (place_of cell)) (place_of cell))) 0) where
  abbrev place : List ℕ
  place = place_of cell

  abbrev many : ℕ
  many = before_zero place

  abbrev one : ReferentRecord
  one = referent_at cell

  place_wide : length place ≡ 32
  place_wide = length-take-le 32 (drop 4 cell) (omega (arith, length-drop 4 cell))

  few : many ≤ 32
  few = omega (arith, place_wide, prefix_len-le-length (λ byte. not (byte == 0)) place)

  name_wide : length one.name ≡ many
  name_wide = length-take-le many place (omega (arith, few, place_wide))

  filled_up : place ≡ one.name ++ replicate (32 - length one.name) 0
  filled_up =
      let left : length (drop many place) ≡ 32 - length one.name = omega (arith, length-drop many place, place_wide, name_wide) in
      sym (take-append-drop many place) ∙ ap (λ (l : List ℕ). one.name ++ l) (zeros ∙ ap (λ (n : ℕ). replicate n 0) left)

  last : drop 48 cell ≡ to_be_bytes w64 one.died
  last = sym (take_all 8 (drop 48 cell) (omega (arith, length-drop 48 cell))) ∙ sym (bytes_at 8 48 cell (omega arith) small)

  pub referent_there : SaysReferent cell (referent_at cell)
  referent_there = record {
    route_fits = number_at_fits 4 0 cell small;
    name_fits = omega (arith, name_wide, few);
    no_zeros = none_before place;
    born_fits = number_at_fits 8 36 cell small;
    measure_fits = number_at_fits 4 44 cell small;
    died_fits = number_at_fits 8 48 cell small;
    bytes =
        bytes_next 0 4 4 cell (to_be_bytes w32 one.route) refl (bytes_at 4 0 cell (omega arith) small)
        ∙ ap (λ (l : List ℕ). to_be_bytes w32 one.route ++ l) (bytes_next 4 32 36 cell (one.name ++ replicate (32 - length one.name) 0) refl (sym filled_up)
        ∙ ap (λ (l : List ℕ). (one.name ++ replicate (32 - length one.name) 0) ++ l) (bytes_next 36 8 44 cell (to_be_bytes w64 one.born) refl (bytes_at 8 36 cell (omega arith) small)
        ∙ ap (λ (l : List ℕ). to_be_bytes w64 one.born ++ l) (bytes_next 44 4 48 cell (to_be_bytes w32 one.measure) refl (bytes_at 4 44 cell (omega arith) small)
        ∙ ap (λ (l : List ℕ). to_be_bytes w32 one.measure ++ l) last)));
  }

-- a cell says a referent exactly where zeros alone are after the name
pub referent_where_zeros : (cell rest : List ℕ) (b : Bool) → length cell ≡ 56 → AreBytes cell → rest ≡ drop (before_zero (place_of cell)) (place_of cell)
    → (IsTrue b ↔ (rest ≡ replicate (length rest) 0)) → (IsTrue b → (referent : ReferentRecord) × SaysReferent cell referent) × (((referent : ReferentRecord) × SaysReferent cell referent) → IsTrue b)
referent_where_zeros cell rest b size small is tells = (
  λ yes. (referent_at cell, referent_there cell size small (subst (λ (l : List ℕ). l ≡ replicate (length l) 0) is (tells.0 yes))),
  λ there.
      let zeros : rest ≡ replicate (32 - length there.0.name) 0 = is ∙ zeros_there cell there.0 there.1 in
      tells.1 (zeros ∙ ap (λ (n : ℕ). replicate n 0) (sym (ap length zeros ∙ length-replicate (32 - length there.0.name) 0))),
)
