-- Records of one width in bytes.
use Rattle.std.specs.Prelude.{◌≡◌, ◌≤◌, ◌<◌, ℕ, zero, suc, false, IsTrue, List, [], ◌∷◌, map, take, drop, length, slice_index_or}
use Rattle.rs_records.specs.Order.{is_below}

-- so many records of this width, one after another from the first byte on
unfoldable pub records : ℕ → ℕ → List ℕ → List (List ℕ)
records zero width bytes = []
records (suc count) width bytes = take width bytes ∷ records count width (drop width bytes)

-- what each record has from a place in it on
abbrev pub keys : ℕ → List (List ℕ) → List (List ℕ)
keys from = map (drop from)

-- where the key belongs: what is before is below it, and what is there is not
pub record IsPlace (keys : List (List ℕ)) (key : List ℕ) (place : ℕ) : Type 0 where
  pub within : place ≤ length keys
  pub before : (last : ℕ) → suc last ≡ place → IsTrue (is_below (slice_index_or keys last []) key)
  pub after : place < length keys → is_below (slice_index_or keys place []) key ≡ false
