-- What lends a page ends as, once the page is given back.
use Rattle.std.specs.Prelude.{◌≡◌, ◌≢◌, ℕ, Option, OnSome}
use Rattle.std.specs.Borrow.{Fml, MutBor, LendsIf, LendsSo}
use Rattle.rs_page.specs.declared.page.Page.{Page}
use Rattle.rs_page.specs.contracts.page.Page.{the_row as page_row}
use Rattle.rs_pages.specs.Held.{with_copy}
use Rattle.rs_page_cache.specs.Changes.{Changes, HeldSlot, held_at}
use Rattle.rs_page_cache.specs.contracts.slot.Slot.{the_row as slot_row}
use Rattle.rs_page_cache.specs.contracts.slots.Slots.{the_row as slots_row}
use Rattle.rs_page_cache.specs.contracts.changes.Changes.{the_row as changes_row}

-- the copy is what was written
abbrev pub lends_copy : MutBor HeldSlot → Option (MutBor Page) → Fml
lends_copy slot r = LendsIf slot_row page_row slot r (λ page. (slot.now.0, with_copy page.bytes slot.now.1)) slot.now

-- the copy of one page is these bytes, and all else stays
pub record WritesCopy (number : ℕ) (page : Page) (old new : Changes) : Type 0 where
  pub there : held_at new number ≡ with_copy page.bytes (held_at old number)
  pub others : (other : ℕ) → other ≢ number → held_at new other ≡ held_at old other

-- the copy of that page is what was written
abbrev pub lends_change : MutBor Changes → ℕ → Option (MutBor Page) → Fml
lends_change changes number r = LendsSo changes_row page_row changes r
    (λ last page. OnSome r (WritesCopy number page changes.now last)) (λ last. last ≡ changes.now)

-- the same of the slots
abbrev pub lends_slot : MutBor Changes → ℕ → Option (MutBor Page) → Fml
lends_slot slots number r = LendsSo slots_row page_row slots r
    (λ last page. OnSome r (WritesCopy number page slots.now last)) (λ last. last ≡ slots.now)
