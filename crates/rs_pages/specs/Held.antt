-- What is held of one page in memory as a change.
use Rattle.std.specs.Prelude.{ℕ, Option, Some, None, List}

-- the committed page, where the disk lacks it, and its working copy, where there is one
pub record HeldPage : Type 0 where
  pub committed : Option (List ℕ)
  pub copy : Option (List ℕ)

-- nothing is held
abbrev pub nothing_held : HeldPage
nothing_held = record { committed = None; copy = None }

-- the first of two pages, else the second
abbrev pub page_or : Option (List ℕ) → Option (List ℕ) → Option (List ℕ)
page_or (Some page) other = Some page
page_or None other = other

-- the working page, where it is held as a change
abbrev pub held_change : HeldPage → Option (List ℕ)
held_change held = page_or held.copy held.committed

-- a working copy is held
abbrev pub with_copy : List ℕ → HeldPage → HeldPage
with_copy page held = record held { copy = Some page }
