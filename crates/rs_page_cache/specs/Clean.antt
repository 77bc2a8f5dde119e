-- The clean pages that are held: those that the disk has as they are.
use Rattle.std.specs.Prelude.{◌≡◌, ◌⊎◌, ◌<◌, ℕ, Bool, false, nat_eq, Option, Some, None, List, [], ◌∷◌, map, Contains}
use Rattle.std.specs.Map.{lookup}
use Rattle.std.specs.declared.alloc.Global.{Global}
use Rattle.std.specs.declared.boxed.Box.{Box}
use Rattle.rs_disk.specs.Content.{Content}
use Rattle.rs_page.specs.declared.page.Page.{Page}
use Rattle.rs_page_cache.specs.Stored.{disk_page}

-- each clean page by its number
abbrev pub Clean : Type 0
Clean = List (ℕ × List ℕ)

-- the clean page with this number, where it is held
abbrev pub clean_at : Clean → ℕ → Option (List ℕ)
clean_at clean number = lookup (nat_eq number) clean

-- each is as the disk has it
pub record AreClean (content : Content) (clean : Clean) : Type 0 where
  pub each : (number : ℕ) (page : List ℕ) → Contains clean (number, page) → page ≡ disk_page content number

-- none is page 0
pub record AreAfterHeader (clean : Clean) : Type 0 where
  pub each : (number : ℕ) (page : List ℕ) → Contains clean (number, page) → 0 < number

-- no page is held that wasn't, but this one as it was read
pub record Loads (number : ℕ) (read : List ℕ → Type 0) (old new : Clean) : Type 0 where
  pub each : (other : ℕ) (page : List ℕ) → Contains new (other, page)
      → Contains old (other, page) ⊎ ((other ≡ number) × read page)

-- the spare page, where it is one of the disk's
abbrev pub spare_page : Option ℕ → Box Page Global → Clean
spare_page None spare = []
spare_page (Some number) spare = (number, spare.value.bytes) ∷ []

-- the spare page is the one with this number
abbrev pub has_number : Option ℕ → ℕ → Bool
has_number None number = false
has_number (Some spare) number = nat_eq number spare

-- the other clean pages
abbrev pub kept_pages : List (ℕ × Box Page Global) → Clean
kept_pages entries = map (λ e. (e.0, e.1.value.bytes)) entries
