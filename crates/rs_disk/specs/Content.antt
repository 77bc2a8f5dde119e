-- What a disk holds, and what a call may make of it.
use Rattle.std.specs.Prelude.{◌≡◌, ◌⊎◌, ℕ, ◌+◌, ◌<◌, ◌≤◌, min, max, List, length, slice_index}
use Rattle.std.specs.Prelude.{Result, MatchResult}

-- the size in bytes, and the byte that a read gives at each offset
pub record Content : Type 0 where
  pub size : ℕ
  pub byte : ℕ → ℕ

-- these bytes, and zeros past their end
abbrev pub content_of : List ℕ → Content
content_of bytes = record { size = length bytes; byte = λ i. slice_index bytes i }

-- a read at this offset gives these bytes
pub record Gives (content : Content) (at : ℕ) (bytes : List ℕ) : Type 0 where
  pub each : (k : ℕ) → k < length bytes → slice_index bytes k ≡ content.byte (at + k)

-- the content has these bytes at this offset, all of them before its end
pub record Holds (content : Content) (at : ℕ) (bytes : List ℕ) : Type 0 where
  pub each : (k : ℕ) → k < length bytes → content.byte (at + k) ≡ slice_index bytes k
  pub reaches : 0 < length bytes → at + length bytes ≤ content.size

-- all but a range of n bytes stays, and the size grows to the range's end at most; where n is 0, it stays
pub record KeepsOthers (at n : ℕ) (old new : Content) : Type 0 where
  pub before : (i : ℕ) → i < at → new.byte i ≡ old.byte i
  pub after : (i : ℕ) → at + n ≤ i → new.byte i ≡ old.byte i
  pub no_shorter : old.size ≤ new.size
  pub no_longer : new.size ≤ max old.size (at + n)
  pub nothing : n ≡ 0 → new.size ≡ old.size

-- nothing is left past this length, and all before it stays
pub record IsCutTo (bound : ℕ) (old new : Content) : Type 0 where
  pub size : new.size ≡ min old.size bound
  pub kept : (i : ℕ) → i < bound → new.byte i ≡ old.byte i

-- a cut that succeeded is done, and one that failed is done or not
abbrev pub CutsTo : {T E : Type 0} → Result T E → ℕ → Content → Content → Type 0
CutsTo result bound old new =
    MatchResult result (λ _. IsCutTo bound old new) (λ _. IsCutTo bound old new ⊎ (new ≡ old))
