-- What reading the catalogue answers. Pages are told by how often they were reached before and after it.
use Rattle.std.specs.Prelude.{◌≡◌, ◌≤◌, ℕ, List}
use Rattle.rs_page_owners.specs.Counts.{◌&◌, times}
use Rattle.rs_pages.specs.PageMap.{PageMap}
use Rattle.rs_catalog_pages.specs.Chain.{HoldsBytes}
use Rattle.rs_catalog_pages.specs.Items.{CatalogueItems, SaysCatalogue}

-- these pages hold the bytes of the catalogue, and each was reached once more
pub record ReadsBytes (map : PageMap) (before after : ℕ → ℕ) (numbers bytes : List ℕ) : Type 0 where
  pub holds : HoldsBytes map numbers bytes
  pub reached : (number : ℕ) → after number ≡ (before & times numbers) number

-- these pages hold bytes that say the catalogue, and each was reached once more
pub record LoadsCatalogue (map : PageMap) (before after : ℕ → ℕ) (numbers : List ℕ) (catalogue : CatalogueItems) : Type 0 where
  pub bytes : List ℕ
  pub holds : HoldsBytes map numbers bytes
  pub says : SaysCatalogue bytes catalogue
  pub reached : (number : ℕ) → after number ≡ (before & times numbers) number

-- no pages that weren't reached before hold bytes that say a catalogue
pub record HasNoFreshCatalogue (map : PageMap) (before : ℕ → ℕ) : Type 0 where
  pub none : (numbers bytes : List ℕ) (catalogue : CatalogueItems) → HoldsBytes map numbers bytes → SaysCatalogue bytes catalogue
      → ((number : ℕ) → (before & times numbers) number ≤ 1) → ⊥
