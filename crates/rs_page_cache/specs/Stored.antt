-- The pages of a disk, as the cache reads them.
use Rattle.std.specs.Prelude.{◌*◌, ℕ, zero, suc, List, [], ◌∷◌}
use Rattle.rs_disk.specs.Content.{Content}
use Rattle.rs_page.specs.declared.page.TheConstants.{PAGE_SIZE}

-- so many bytes from a place on
unfoldable pub bytes_from : (ℕ → ℕ) → ℕ → ℕ → List ℕ
bytes_from byte at zero = []
bytes_from byte at (suc n) = byte at ∷ bytes_from byte (suc at) n

-- the bytes of the page with this number
unfoldable pub disk_page : Content → ℕ → List ℕ
disk_page content number = bytes_from content.byte (PAGE_SIZE * number) PAGE_SIZE
