use Rattle.std.proofs.Common.{◌≡◌, ◌+◌, ℕ, List, [], ◌++◌, length, true}
use Rattle.rs_encodings.specs.Forms.{text_in}
use Rattle.rs_encodings.specs.Waiting.{items, room}
use Rattle.rs_encodings.proofs.decoded.decode.Given as goal

abbrev pub invariant-characters : goal.invariant-characters
invariant-characters l =
    ((rest : List ℕ) → (l.is_last ≡ true → rest ≡ []) → text_in l.code (items l.fn.raw ++ rest) ≡ items l.ready ++ text_in l.code (items l.raw ++ rest))
    × (room l.ready + length (items l.ready) ≡ 4096)
    × (items l.ready ≡ [] → items l.raw ≡ items l.fn.raw)

abbrev pub decreases-characters : goal.decreases-characters
decreases-characters l = length (items l.raw)
