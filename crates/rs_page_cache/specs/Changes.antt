-- The pages that are held as changes.
use Rattle.std.specs.Prelude.{◌≡◌, ◌≢◌, ◌<◌, ◌^◌, ℕ, suc, nat_eq, false, Option, Some, None, IsSome, List, length, slice_index, filter, is_some, All, Contains}
use Rattle.std.specs.List.{IsDistinct}
use Rattle.std.specs.List.Sorted.{IsStrictlyIncreasing}
use Rattle.std.specs.Option.{option_map, unwrap_or}
use Rattle.std.specs.Map.{lookup, keys_of}
use Rattle.std.specs.BTreeMap.{is_at}
use Rattle.std.specs.Ordering.{nat_cmp}
use Rattle.std.specs.declared.alloc.Global.{Global}
use Rattle.std.specs.declared.boxed.Box.{Box}
use Rattle.rs_page.specs.declared.page.Page.{Page}
use Rattle.rs_page.specs.declared.page.TheConstants.{PAGE_SIZE}
use Rattle.rs_page.specs.PageBytes.{IsBlank, is_free}
use Rattle.rs_page.specs.declared.header.PageKind.{PageKind}
use Rattle.rs_pages.specs.Held.{HeldPage, nothing_held, held_change, with_copy}

-- the number of a changed page, and what is held of it
abbrev pub HeldSlot : Type 0
HeldSlot = ℕ × HeldPage

-- each changed page by its number, in any order
abbrev pub Changes : Type 0
Changes = List HeldSlot

-- what is held of the page with this number
abbrev pub held_at : Changes → ℕ → HeldPage
held_at changes number = unwrap_or (lookup (is_at (nat_cmp number)) changes) nothing_held

-- the bytes of a page, where there is one
abbrev pub bytes_of : Option (Box Page Global) → Option (List ℕ)
bytes_of page = option_map (λ p. p.value.bytes) page

-- the copy takes the committed page's place
abbrev pub committed_held : HeldPage → HeldPage
committed_held held = record { committed = held_change held; copy = None }

-- the copy goes
abbrev pub abandoned_held : HeldPage → HeldPage
abandoned_held held = record held { copy = None }

-- each number with a working copy is among these, and no other
pub record HasCopied (changes : Changes) (copied : List ℕ) : Type 0 where
  pub among : (number : ℕ) → IsSome (held_at changes number).copy → (k : ℕ) × (k < length copied) × (slice_index copied k ≡ number)
  pub only : (k : ℕ) → k < length copied → IsSome (held_at changes (slice_index copied k)).copy

-- each entry holds something
abbrev pub HoldsEach : Changes → Type 0
HoldsEach changes = All (λ entry. IsSome (held_change entry.1)) changes

-- what is written for a number is one more than its place among the numbers, or 0 where it is none of them
pub record ArePlaced (numbers places : List ℕ) : Type 0 where
  pub listed : (k : ℕ) → k < length numbers → slice_index places (slice_index numbers k) ≡ suc k
  pub only : (number k : ℕ) → slice_index places number ≡ suc k → (k < length numbers) × (slice_index numbers k ≡ number)

-- each slot holds something and has its place in the list, which is shorter than 2 ^ 32
pub record HasPlaces (slots : Changes) (places : List ℕ) : Type 0 where
  pub placed : ArePlaced (keys_of slots) places
  pub few : length places < 2 ^ 32
  pub some : HoldsEach slots

-- the entries are the pages that are held as changes: each is there once, with what is held of it, and something is
pub record ListsHeld (changes : Changes) : Type 0 where
  pub once : IsDistinct nat_eq (keys_of changes)
  pub each : (number : ℕ) (held : HeldPage) → Contains changes (number, held) → held ≡ held_at changes number
  pub some : (number : ℕ) (held : HeldPage) → Contains changes (number, held) → IsSome (held_change held)
  pub all : (number : ℕ) → IsSome (held_change (held_at changes number)) → Contains changes (number, held_at changes number)

-- the numbers of the pages whose committed version is held
abbrev pub committed_numbers : Changes → List ℕ
committed_numbers changes = keys_of (filter (λ slot. is_some slot.1.committed) changes)

-- the committed version that is held is a whole page
abbrev pub IsWhole : HeldSlot → Type 0
IsWhole slot = (page : List ℕ) → slot.1.committed ≡ Some page → length page ≡ PAGE_SIZE

-- and so is each of these
abbrev pub AreWhole : Changes → Type 0
AreWhole changes = All IsWhole changes

-- the numbers are those of the pages whose committed version is held, in ascending order, and each such version is a whole page
pub record NumbersCommitted (changes : Changes) (numbers : List ℕ) : Type 0 where
  pub ascending : IsStrictlyIncreasing numbers
  pub each : (number : ℕ) → Contains numbers number → IsSome (held_at changes number).committed
  pub all : (number : ℕ) → IsSome (held_at changes number).committed → Contains numbers number
  pub whole : (number : ℕ) (page : List ℕ) → (held_at changes number).committed ≡ Some page → length page ≡ PAGE_SIZE

-- a page with a header of this kind and zeros after it is the working copy now, and all else stays
pub record PutsBlank (kind : PageKind) (number next : ℕ) (old new : Changes) : Type 0 where
  pub page : List ℕ
  pub blank : IsBlank page kind number next
  pub there : held_at new number ≡ with_copy page (held_at old number)
  pub others : (other : ℕ) → other ≢ number → held_at new other ≡ held_at old other

-- these bytes are the working copy, which is in use
pub record IsUsedCopy (page : List ℕ) (held : HeldPage) : Type 0 where
  pub copy : held.copy ≡ Some page
  pub in_use : is_free page ≡ false
  pub size : length page ≡ PAGE_SIZE
