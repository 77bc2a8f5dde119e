-- Numbers in a page.
use Rattle.std.specs.Prelude.{ℕ, List}
use Rattle.byteorder.specs.Endian.{big_from}

-- the number in the n bytes from a place on, the highest byte first
unfoldable pub number_at : ℕ → ℕ → List ℕ → ℕ
number_at at n page = big_from at n page
