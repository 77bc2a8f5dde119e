-- The pages that were listed make a checkpoint: the committed pages, of those kept last.
use Rattle.std.proofs.Common.{◌≡◌, inl, inr, ◌<◌, ◌≤◌, ◌+◌, ◌*◌, ℕ, Bool, true, false, Option, Some, None, IsSome, List, [], length, slice_index, refl, sym, ap, ◌∙◌, subst, arith}
use Rattle.std.specs.Option.{unwrap_or}
use Rattle.rs_disk.specs.Content.{Content}
use Rattle.rs_disk.specs.declared.disk.Disk as disk
use Rattle.rs_page.specs.declared.file_header.FileHeader.{FileHeader}
use Rattle.rs_page.specs.declared.page.TheConstants.{PAGE_SIZE}
use Rattle.rs_page_cache.specs.Changes.{Changes, held_at}
use Rattle.rs_page_cache.specs.Stored.{disk_page}
use Rattle.rs_page_cache.proofs.DiskPages.{bytes_from-list}
use Rattle.rs_journal.specs.FilePages.{FilePages, IsOfPages}
use Rattle.rs_journal.specs.Journal.{MakesPages, MadePages}
use Rattle.rs_journal.specs.Stages.{IsQuiet}
use Rattle.rs_journal.specs.declared.stage.Stage.TheVariants.{Fresh}
use Rattle.rs_page_copies.specs.Listed.{AreInside, Checkpoint, ListsCommitted, copy_in, journal_from}
use Rattle.rs_page_copies.proofs.Copying.{listed_make}
use Rattle.rs_pager.specs.Maps.{page_or_stored, committed, ArePages, CarriesOn, IsKept, IsTied}
use Rattle.rs_pager.specs.Paged.{Paged, IsSound, held}
use Rattle.rs_pager.specs.SecondHeader.{IsSecondHeader}
use Rattle.rs_pager.specs.Stored.{content_of_pages, stored_map}
use Rattle.rs_pager.proofs.Checkpoints.{IsUnlisted, some_is, none_some, stage-bytes, stored-inside, unlisted-apart, unlisted_changed, unlisted_zero}
use Rattle.rs_pager.proofs.DiskBytes.{disk_page-same}
use Rattle.rs_pager.proofs.Headers.{kept-header, said-count, stored-header}

-- the pages of a sound pager that are held lie inside the file
pub sound-inside : (limit : ℕ) (changes : Changes) (committed_fields working : FileHeader) (begun : Bool) (stage : _) → IsSound limit changes committed_fields working begun stage
    → AreInside changes committed_fields.pages
sound-inside limit changes committed_fields working begun stage sound = record {
  after = λ n some. (inside n (held_at changes n).committed refl some).0;
  below = λ n some. (inside n (held_at changes n).committed refl some).1;
}
  where
    inside : (n : ℕ) (page : Option (List ℕ)) → (held_at changes n).committed ≡ page → IsSome (held_at changes n).committed → (0 < n) × (n < committed_fields.pages)
    inside n None is some = absurd (none_some (held_at changes n).committed is some)
    inside n (Some page) is some = sound.committed_inside n page is

-- a page that is held as these bytes, one by one
page_is : (content : Content) (n : ℕ) (page : List ℕ) → length page ≡ PAGE_SIZE → ((k : ℕ) → k < PAGE_SIZE → content.byte (PAGE_SIZE * n + k) ≡ slice_index page k)
    → disk_page content n ≡ page
unfolding disk_page
page_is content n page size same = sym (bytes_from-list content.byte (PAGE_SIZE * n) PAGE_SIZE page size (λ k lt. sym (same k lt)))

module _ {D : Type 0} (d : disk.Ghosts D) (p : Paged D) (kept : FilePages) (tied : IsTied d p) (is_kept : IsKept d p kept)
    (sound : IsSound p.limit p.changes p.committed_fields p.working p.is_begun p.under_way.stage) (fresh : p.under_way.stage ≡ Fresh)
    (under_way : Checkpoint) (lists : ListsCommitted p.changes p.is_header_changed under_way.numbers)
    (header : IsSecondHeader under_way.first_page p.committed_fields) (size : length under_way.first_page ≡ PAGE_SIZE) where
  inside : AreInside p.changes p.committed_fields.pages
  inside = sound-inside p.limit p.changes p.committed_fields p.working p.is_begun p.under_way.stage sound

  made : MadePages (journal_from p.committed_fields.pages p.changes under_way) kept p.committed_fields.pages
  made = listed_make p.changes p.committed_fields.pages p.is_header_changed under_way lists inside (omega (arith, sound.kept_room, sound.within, sound.limited)) kept
      is_kept.says.some is_kept.before is_kept.filled

  abbrev IsListed : ℕ → Type 0
  IsListed n = (k : ℕ) × (k < length under_way.numbers) × (slice_index under_way.numbers k ≡ n)

  first_none : (held p 0).committed ≡ None
  first_none = elim (held p 0).committed as (λ page. (held p 0).committed ≡ page → page ≡ None) [
    | Some page ↦ λ e. absurd (omega (arith, (sound.committed_inside 0 page e).0))
    | None ↦ λ e. refl
  ] refl

  module _ (checkpoint : FilePages) (counts : checkpoint.count ≡ p.committed_fields.pages)
      (makes : MakesPages (journal_from p.committed_fields.pages p.changes under_way) kept checkpoint) where
    quiet : IsQuiet kept (d.seen p.disk)
    quiet = (is_kept.quiet fresh).reads

    plain : (n : ℕ) → IsUnlisted p.changes p.is_header_changed n → (i : ℕ) → i < PAGE_SIZE * checkpoint.count → IsOfPages i → PAGE_SIZE * n ≤ i → i < PAGE_SIZE * n + PAGE_SIZE
        → (d.seen p.disk).byte i ≡ checkpoint.byte i
    plain n unlisted i lt own lo hi = stage-bytes Fresh kept (journal_from p.committed_fields.pages p.changes under_way) checkpoint (d.seen p.disk) makes quiet i lt own
        (unlisted-apart p.changes p.is_header_changed (journal_from p.committed_fields.pages p.changes under_way) under_way.numbers lists refl (λ k. refl) n unlisted i lo hi)

    -- the copy of a page that is listed
    copied : (n : ℕ) → IsListed n → (k : ℕ) → k < PAGE_SIZE → IsOfPages (PAGE_SIZE * n + k) → n < p.committed_fields.pages
        → checkpoint.byte (PAGE_SIZE * n + k) ≡ slice_index (copy_in p.changes under_way.first_page n) k
    copied n there k lt own below = subst (λ m. IsOfPages (PAGE_SIZE * m + k) → m < p.committed_fields.pages → checkpoint.byte (PAGE_SIZE * m + k) ≡ slice_index (copy_in p.changes under_way.first_page m) k)
        there.2 (λ own below. makes.carries.copied there.0 k there.1 lt (omega (arith, below, counts)) own) own below

    held_page : (n : ℕ) (page : List ℕ) → 0 < n → n < p.committed_fields.pages → (held p n).committed ≡ Some page → disk_page (content_of_pages checkpoint) n ≡ page
    held_page n page pos lt is = page_is (content_of_pages checkpoint) n page (lists.whole n page is)
        (λ k below. copied n (lists.all n (inr (some_is (held p n).committed page is))) k below (inr (omega arith)) lt
        ∙ ap (λ (o : Option (List ℕ)). slice_index (unwrap_or o under_way.first_page) k) is)

    plain_page : (n : ℕ) → 0 < n → n < p.committed_fields.pages → (held p n).committed ≡ None → disk_page (content_of_pages checkpoint) n ≡ disk_page (d.seen p.disk) n
    plain_page n pos lt none = disk_page-same (content_of_pages checkpoint) (d.seen p.disk) n
        (λ i lo hi. sym (plain n (unlisted_changed p.changes p.is_header_changed n pos none) i (omega (arith, counts)) (inr (omega arith)) lo hi))

    made_page : (n : ℕ) (page : Option (List ℕ)) → (held p n).committed ≡ page
        → page_or_stored p.committed_fields.pages page (d.seen p.disk) n ≡ (stored_map (content_of_pages checkpoint) p.committed_fields).page n
    made_page n None is = sym (stored-inside p.committed_fields.pages n None (content_of_pages checkpoint) (d.seen p.disk) (λ pos lt _. plain_page n pos lt is))
    made_page n (Some page) is =
        let at = sound.committed_inside n page is in
        ap (λ (bytes : List ℕ). page_or_stored p.committed_fields.pages (Some bytes) (d.seen p.disk) n) (sym (held_page n page at.0 at.1 is))

    some_pages : 0 < p.committed_fields.pages
    some_pages = omega (arith, sound.directory)

    made_header : (lacks : Bool) → p.is_header_changed ≡ lacks → IsSecondHeader (disk_page (content_of_pages checkpoint) 0) p.committed_fields
    made_header true is = stored-header (content_of_pages checkpoint) under_way.first_page p.committed_fields
        (λ k lt own.
        let at : PAGE_SIZE * 0 + k ≡ k = omega arith in
        subst (λ i. checkpoint.byte i ≡ slice_index (copy_in p.changes under_way.first_page 0) k) at
        (copied 0 (lists.all 0 (inl (refl, is))) k lt (subst IsOfPages (sym at) own) some_pages)
        ∙ ap (λ (o : Option (List ℕ)). slice_index (unwrap_or o under_way.first_page) k) first_none) header
    made_header false is = kept-header (d.seen p.disk) (content_of_pages checkpoint) p.committed_fields
        (λ k lt own. sym (plain 0 (unlisted_zero p.changes p.is_header_changed first_none is) k (omega (arith, counts, some_pages)) own (omega arith) (omega arith))) (tied.header is)

    made_are : ArePages (committed d p) checkpoint
    made_are = record {
      says = record {
        says = said-count (content_of_pages checkpoint) p.committed_fields (omega (arith, counts, some_pages)) (made_header p.is_header_changed refl) ∙ sym counts;
        some = omega (arith, counts, some_pages);
      };
      counts = counts;
      stores = record {
        header = made_header p.is_header_changed refl;
        size = omega (arith, counts);
        pages = record { fields = refl; pages = λ n. made_page n (held p n).committed refl };
      };
    }

    made_carries : CarriesOn d (record p { clean = []; under_way = record under_way { stage = Fresh } }) kept
    made_carries = record { checkpoint = checkpoint; lists = lists; makes = makes; are = made_are; every = is_kept.quiet fresh }

  pub ready_carries : CarriesOn d (record p { clean = []; under_way = record under_way { stage = Fresh } }) kept
  ready_carries = made_carries made.checkpoint made.counts made.makes

-- a checkpoint that is resumed goes on with its own pages
pub resumed_carries : {D : Type 0} (d : disk.Ghosts D) (p : Paged D) (kept : FilePages) → CarriesOn d p kept → CarriesOn d (record p { clean = [] }) kept
resumed_carries d p kept on = record { checkpoint = on.checkpoint; lists = on.lists; makes = on.makes; are = on.are; every = on.every }
