-- The greatest end of event records as a summary of their cells.
use Rattle.std.specs.Prelude.{◌≡◌, ◌<◌, ◌-◌, ◌^◌, ℕ, max, nat_lt, List, length, drop, if◌then◌else◌}
use Rattle.std.specs.Int.{w32, to_be_bytes}
use Rattle.std.proofs.Common.{ap, sym, ◌∙◌, arith}
use Rattle.byteorder.specs.Endian.{big_number}
use Rattle.rs_interval.specs.declared.greatest_end.GreatestEnd.{GreatestEnd}

abbrev pub ends_at : ℕ → GreatestEnd
ends_at end = record { end = end }

-- the greater of two ends
abbrev pub later : GreatestEnd → GreatestEnd → GreatestEnd
later one other = ends_at (max one.end other.end)

-- where the record of a cell ends: the number before the last eight bytes
abbrev pub end_of : List ℕ → GreatestEnd
end_of cell = ends_at (if nat_lt (length cell) 12 then 0 else big_number 4 (drop (length cell - 12) cell))

-- the end in four bytes, the highest first
pub record SaysEnd (word : List ℕ) (one : GreatestEnd) : Type 0 where
  pub fits : one.end < 2 ^ 32
  pub bytes : word ≡ to_be_bytes w32 one.end

pub later_assoc : (one two three : GreatestEnd) → later (later one two) three ≡ later one (later two three)
later_assoc one two three = let e : max (max one.end two.end) three.end ≡ max one.end (max two.end three.end) = omega arith in ap ends_at e

pub none_first : (one : GreatestEnd) → later (ends_at 0) one ≡ one
none_first one = let e : max 0 one.end ≡ one.end = omega arith in ap ends_at e

pub none_last : (one : GreatestEnd) → later one (ends_at 0) ≡ one
none_last one = let e : max one.end 0 ≡ one.end = omega arith in ap ends_at e

pub end_width : (bytes : List ℕ) (one : GreatestEnd) → SaysEnd bytes one → length bytes ≡ 4
end_width bytes one says = ap length says.bytes

pub same_end : (bytes others : List ℕ) (one : GreatestEnd) → SaysEnd bytes one → SaysEnd others one → bytes ≡ others
same_end bytes others one says also = says.bytes ∙ sym also.bytes
