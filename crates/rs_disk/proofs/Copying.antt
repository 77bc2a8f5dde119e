-- Bytes that are copied out of what a disk holds.
use Rattle.std.proofs.Common.{◌≡◌, ℕ, ◌+◌, ◌-◌, ◌<◌, ◌≤◌, List, length, take, drop, min, slice_index, inl, inr, arith, sym, ap, ◌∙◌, length-take, length-drop}
use Rattle.std.proofs.lemmas.Bool.{cases_lt}
use Rattle.std.proofs.lemmas.List.{get_or-drop, get_or-take, get_or_past}
use Rattle.rs_disk.specs.Content.{content_of, Gives}

-- so many bytes from a place on, and zeros where they end, are what is there
pub copied-out : (bytes before new : List ℕ) (at from held room : ℕ)
    → from ≡ min at (length bytes) → held ≡ min (length bytes - from) room → length new ≡ room
    → ((k : ℕ) → k < length (take (from + held - from) (drop from bytes)) → slice_index new (0 + k) ≡ slice_index (take (from + held - from) (drop from bytes)) k)
    → ((k : ℕ) → 0 + length (take (from + held - from) (drop from bytes)) ≤ k → slice_index new k ≡ slice_index before k)
    → (held < room → (k : ℕ) → slice_index before k ≡ 0)
    → Gives (content_of bytes) at new
copied-out bytes before new at from held room from_is held_is size inside after zeros =
    let many : length (take (from + held - from) (drop from bytes)) ≡ held =
    omega (arith, length-take (from + held - from) (drop from bytes), length-drop from bytes, from_is, held_is) in
    let each : (k : ℕ) → k < length new → slice_index new k ≡ slice_index bytes (at + k) = λ k within. elim (cases_lt k held) [
      | inl below ↦
          let there : from ≡ at = omega (arith, from_is, held_is, below) in
          let here : k ≡ 0 + k = omega (arith) in
          let first : k < from + held - from = omega (arith, below) in
          ap (λ place. slice_index new place) here ∙ inside k (omega (arith, many, below)) ∙ get_or-take (from + held - from) (drop from bytes) k 0 first ∙ get_or-drop from bytes k 0 ∙ ap (λ place. slice_index bytes (place + k)) there
      | inr past ↦
          after k (omega (arith, many, past)) ∙ zeros (omega (arith, size, within, past)) k ∙ sym (get_or_past bytes (at + k) 0 (omega (arith, from_is, held_is, past, size, within)))
    ] in
    record { each = each }
