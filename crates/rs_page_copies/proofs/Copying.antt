-- The journal of the pages that were listed.
use Rattle.std.proofs.Common.{◌≡◌, inl, inr, ℕ, Bool, suc, ◌<◌, ◌≤◌, zero, Option, Some, None, List, IsTrue, Result, OnErr, length, slice_index, refl, ap, arith}
use Rattle.std.specs.Option.{unwrap_or}
use Rattle.rs_page_cache.specs.Changes.{Changes, held_at}
use Rattle.rs_pages.specs.declared.pages.TheConstants.{GREATEST_LIMIT}
use Rattle.rs_disk.specs.Content.{Content}
use Rattle.rs_disk.specs.declared.disk.Disk as disk
use Rattle.rs_journal.specs.FilePages.{FilePages}
use Rattle.rs_journal.specs.Journal.{Journal, Ascends, MadePages, MakesPages}
use Rattle.rs_journal.proofs.Making.{makes_pages}
use Rattle.rs_journal.specs.Stages.{GivesFrom, IsQuiet, StageImage, EveryImage, Meanwhile, EndsOrStops}
use Rattle.rs_journal.specs.declared.stage.Stage.{Stage}
use Rattle.rs_journal.specs.declared.stage.Stage.TheVariants.{Fresh}
use Rattle.rs_page_copies.specs.Listed.{AreFilled, AreInside, AreOrdered, Checkpoint, CopiedPages, IsChanged, ListsCommitted, copy_in, journal_from}

pub copy-some : (changes : Changes) (first_page : List ℕ) (number : ℕ) (page : List ℕ) → Some page ≡ (held_at changes number).committed → page ≡ copy_in changes first_page number
copy-some changes first_page number page is = ap (λ (o : Option (List ℕ)). unwrap_or o first_page) is

pub copy-none : (changes : Changes) (first_page : List ℕ) (number : ℕ) → None ≡ (held_at changes number).committed → first_page ≡ copy_in changes first_page number
copy-none changes first_page number is = ap (λ (o : Option (List ℕ)). unwrap_or o first_page) is

abbrev pub as_copied : CopiedPages → CopiedPages
as_copied copied = copied

-- the pages of a checkpoint, among the changed ones
abbrev pub pages_of : Changes → Checkpoint → CopiedPages
pages_of changes checkpoint = record { numbers = checkpoint.numbers; changes = changes; first_page = checkpoint.first_page }

-- their journal from this page on
abbrev pub journal_by : ℕ → CopiedPages → Journal
journal_by first copied = record {
  first = first;
  count = length copied.numbers;
  number = λ place. slice_index copied.numbers place;
  copy = λ place k. slice_index (copy_in copied.changes copied.first_page (slice_index copied.numbers place)) k;
}

-- what a checkpoint of these pages does from a stage on
module _ {D : Type 0} (d : disk.Ghosts D) (first : ℕ) (old new : D) where
  abbrev pub GivesSince : Stage → CopiedPages → Type 0
  GivesSince stage copied = (kept checkpoint : FilePages) → MakesPages (journal_by first copied) kept checkpoint
      → EveryImage d (StageImage stage kept (journal_by first copied) checkpoint) old
      → IsTrue (d.keeps_crashes old) → (image : Content) → d.left_since old new image → GivesFrom stage kept checkpoint image

  module _ {T E : Type 0} (result : Result T E) (now : Stage) where
    abbrev pub EndsBy : Stage → CopiedPages → Type 0
    EndsBy stage copied = (kept checkpoint : FilePages) → MakesPages (journal_by first copied) kept checkpoint
        → EveryImage d (StageImage stage kept (journal_by first copied) checkpoint) old
        → EndsOrStops d kept (journal_by first copied) checkpoint (GivesFrom stage kept checkpoint) result now old new

    abbrev pub LeavesKept : Stage → CopiedPages → Type 0
    LeavesKept stage copied = (kept checkpoint : FilePages) → MakesPages (journal_by first copied) kept checkpoint
        → EveryImage d (StageImage stage kept (journal_by first copied) checkpoint) old
        → OnErr result (now ≡ Fresh → Meanwhile d (IsQuiet kept) old new)

-- numbers in order are no less than their places, so there are no more than the greatest
no_less : (count : ℕ) (number : ℕ → ℕ) → Ascends count number → (k : ℕ) → k < count → k ≤ number k
no_less count number ascends zero lt = omega arith
no_less count number ascends (suc k) lt =
    let before : k ≤ number k = no_less count number ascends k (omega arith) in
    let next : number k < number (suc k) = ascends k (suc k) (omega arith) lt in
    omega (arith, before, next)

pub few_ordered : (numbers : List ℕ) → AreOrdered numbers → length numbers ≤ GREATEST_LIMIT
few_ordered numbers ordered = by_count (length numbers) refl
  where
    by_count : (count : ℕ) → count ≡ length numbers → length numbers ≤ GREATEST_LIMIT
    by_count zero is = omega (arith, is)
    by_count (suc k) is =
        let inside : k < length numbers = omega (arith, is) in
        let low : k ≤ slice_index numbers k = no_less (length numbers) (slice_index numbers) ordered.ascending k inside in
        let high : slice_index numbers k < GREATEST_LIMIT = ordered.below k inside in
        omega (arith, is, low, high)

-- the journal of the pages that were listed is well formed, and copies each new page
module _ (changes : Changes) (pages : ℕ) (is_header_changed : Bool) (checkpoint : Checkpoint)
    (lists : ListsCommitted changes is_header_changed checkpoint.numbers) (inside : AreInside changes pages) (most : pages ≤ GREATEST_LIMIT) where
  below_pages : (from : ℕ) → 0 < from → from ≤ pages → (number : ℕ) → IsChanged changes is_header_changed number → number < pages
  below_pages from some within number (inl (is, _)) = omega (arith, is)
  below_pages from some within number (inr held) = inside.below number held

  listed_below : (from : ℕ) → 0 < from → from ≤ pages → (k : ℕ) → k < length checkpoint.numbers → slice_index checkpoint.numbers k < pages
  listed_below from some within k lt = below_pages from some within (slice_index checkpoint.numbers k) (lists.each k lt)

  pub listed_make : (kept : FilePages) → 0 < kept.count → kept.count ≤ pages → AreFilled changes kept.count pages
      → MadePages (journal_from pages changes checkpoint) kept pages
  listed_make kept some within fills =
      let below = listed_below kept.count some within in
      let few : length checkpoint.numbers ≤ GREATEST_LIMIT = few_ordered checkpoint.numbers (record {
        ascending = lists.ascending;
        below = λ k lt. let last = below k lt in omega (arith, last, most);
      }) in
      makes_pages (journal_from pages changes checkpoint) kept pages
      (record { ascending = lists.ascending; below = below; counted = omega (arith, few, most) })
      some (omega arith) within (omega arith)
      (λ number from to. let place = lists.all number (inr (fills number from to)) in
      record { place = place.0; inside = place.1; is = place.2 })
