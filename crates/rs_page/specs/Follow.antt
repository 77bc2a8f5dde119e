-- Which page may be the next of another.
use Rattle.std.specs.Prelude.{◌≡◌, ◌⊎◌, ℕ, ◌<◌}

-- none, or one past the header and the directory
abbrev pub MayFollow : ℕ → ℕ → Type 0
MayFollow next pages = (next ≡ 0) ⊎ ((1 < next) × (next < pages))
