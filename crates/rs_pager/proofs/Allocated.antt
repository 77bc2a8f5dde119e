-- A page comes into use.
use Rattle.std.proofs.Common.{◌≡◌, ◌≢◌, ◌<◌, ◌≤◌, ◌+◌, ◌-◌, inl, inr, ℕ, Bool, Option, Some, None, List, nat_lt, ◌&&◌, refl, sym, ap, ◌∙◌, subst, arith}
use Rattle.std.proofs.lemmas.Bool.Decides.{nat_tests}
use Rattle.rs_refusal.specs.Counts.{counted_on}
use Rattle.rs_disk.specs.declared.disk.Disk as disk
use Rattle.rs_refusal.proofs.CountLemmas.{counted_on_le}
use Rattle.rs_refusal.specs.declared.refusal.Refusal.TheVariants as refusal
use Rattle.rs_page.specs.declared.file_header.FileHeader.{FileHeader}
use Rattle.rs_page.specs.declared.header.PageKind.{PageKind}
use Rattle.rs_pages.specs.Held.{HeldPage, page_or, held_change}
use Rattle.rs_pages.specs.PageMap.{is_page, used_page}
use Rattle.rs_pages.specs.FreeList.{TakesFree, TakesLast}
use Rattle.rs_pages.specs.Uses.{AllocatesPage, RefusesPage}
use Rattle.rs_pages.proofs.FreeLists.{begins_free, free-not_used}
use Rattle.std.specs.Prelude.{if◌then◌else◌}
use Rattle.std.specs.Option.{unwrap_or}
use Rattle.rs_page_cache.specs.Stored.{disk_page}
use Rattle.rs_page_cache.specs.Changes.{Changes, PutsBlank}
use Rattle.rs_pager.specs.Paged.{Paged, IsSound, held}
use Rattle.rs_pager.specs.Maps.{working, pager_store, IsTied}
use Rattle.rs_pager.specs.Found.{IsAtHand}
use Rattle.rs_pager.specs.Taking.{FindsFree}
use Rattle.rs_pager.proofs.Lent.{there, page-outside}
use Rattle.rs_pager.proofs.Edited.{PutsCopy, put-there, put-other, put-held}
use Rattle.rs_pager.proofs.Keeping.{with_changes}
use Rattle.rs_pager.proofs.Taken.{free-not_held}

-- the fields of a file with this free list
abbrev pub with_free : FileHeader → ℕ → ℕ → FileHeader
with_free fields first count = record fields { first_free = first; free_pages = count }

-- the fields of a file of so many pages
abbrev pub with_pages : FileHeader → ℕ → FileHeader
with_pages fields pages = record fields { pages = pages }

none-of : (committed copy : Option (List ℕ)) → ((page : List ℕ) → committed ≡ Some page → ⊥) → ((page : List ℕ) → copy ≡ Some page → ⊥) → page_or copy committed ≡ None
none-of committed (Some page) no_committed no_copy = absurd (no_copy page refl)
none-of (Some page) None no_committed no_copy = absurd (no_committed page refl)
none-of None None no_committed no_copy = refl

-- the blank page is a working copy
pub puts : (kind : PageKind) (n next : ℕ) (old new : Changes) → (blank : PutsBlank kind n next old new) → PutsCopy n blank.page old new
puts kind n next old new blank = record { there = blank.there; others = blank.others }

-- the first free page
pub taken : {D : Type 0} (d : disk.Ghosts D) (p : Paged D) (n next : ℕ) (kind : PageKind) (changes : Changes) → PutsBlank kind n 0 p.changes changes
    → IsAtHand n p → FindsFree n next p → p.working.first_free ≡ n → 0 < p.working.free_pages → p.working.pages ≤ p.limit
    → AllocatesPage (IsTied d p) kind n (pager_store d p) (pager_store d (with_changes p changes (with_free p.working next (p.working.free_pages - 1))))
taken d p n next kind changes blank hand free first counted within =
    let after : FileHeader = with_free p.working next (p.working.free_pages - 1) in
    let copy = puts kind n 0 p.changes changes blank in
    let past : 1 < n = free.link.fits.1.0 in
    let takes : TakesFree p.working after n next = record { first = first; some = λ zero. absurd (omega (arith, zero, past)); counted = counted; follows = free.link.fits.1.2; fields = refl } in
    record {
      allocates = λ tied. record {
        fields = inl (next, takes, record { below = hand.below; page = free.page; there = there d p n hand free.page free.found tied; link = free.link });
        there = record { page = blank.page; blank = blank.blank; there = put-there n blank.page p.changes changes copy (d.seen p.disk) p.working.pages hand.after hand.below };
        others = record { pages = λ m ne. put-other n blank.page p.changes changes copy (d.seen p.disk) p.working.pages m ne };
      };
      fields = inl (next, takes);
      fresh = λ tied. free-not_used (working d p) n free.page (there d p n hand free.page free.found tied) (begins_free free.page n next free.link.blank.header);
      not_held = free-not_held d n next p free;
      after = past;
      below = hand.below;
      no_fewer = omega arith;
      within = within;
      page = blank.page;
      blank = blank.blank;
      held = put-held n blank.page p.changes changes copy (pager_store d p) (pager_store d (with_changes p changes after)) (λ m. refl) (λ m. refl);
      counts = record { limit = refl; begun = refl; full_refusals = omega arith };
      failures = refl;
      full = refl;
    }

last-lt : (n m : ℕ) → m ≢ n → nat_lt m (n + 1) ≡ nat_lt m n
last-lt n m ne = grind (arith, nat_tests)

-- a file of one page more has no other page more
page-last : (n m : ℕ) → m ≢ n → is_page (n + 1) m ≡ is_page n m
page-last n m ne = ap (λ b. nat_lt 0 m && b) (last-lt n m ne)

-- a change that is held is a committed page or a copy
none-held : (h : HeldPage) → ((page : List ℕ) → h.committed ≡ Some page → ⊥) → ((page : List ℕ) → h.copy ≡ Some page → ⊥) → held_change h ≡ None
none-held h no_committed no_copy = none-of h.committed h.copy no_committed no_copy

-- nothing is held past the last page
pub none-past : {D : Type 0} (p : Paged D) (n : ℕ) → IsSound p.limit p.changes p.committed_fields p.working p.is_begun p.under_way.stage → p.working.pages ≤ n → held_change (held p n) ≡ None
none-past p n sound past = none-held (held p n) (λ page is. let inside = sound.committed_inside n page is in omega (arith, inside.1, past, sound.kept_room))
    (λ page is. let inside = sound.copied_inside n page is in omega (arith, inside.1, past))

-- a page after the last
pub last-allocated : {D : Type 0} (d : disk.Ghosts D) (p : Paged D) (kind : PageKind) (changes : Changes) → PutsBlank kind p.working.pages 0 p.changes changes
    → IsSound p.limit p.changes p.committed_fields p.working p.is_begun p.under_way.stage → p.working.first_free ≡ 0 → p.working.pages < p.limit
    → AllocatesPage (IsTied d p) kind p.working.pages (pager_store d p) (pager_store d (with_changes p changes (with_pages p.working (p.working.pages + 1))))
last-allocated d p kind changes blank sound none_free room =
    let n = p.working.pages in
    let least = sound.directory in
    let committed_fields = sound.kept_room in
    let after : FileHeader = with_pages p.working (n + 1) in
    let copy = puts kind n 0 p.changes changes blank in
    let takes : TakesLast p.working after n = record { none_free = none_free; last = refl; fields = refl } in
    let below : n < n + 1 = omega arith in
    let pos : 0 < n = omega arith in
    let none : held_change (held p n) ≡ None = none-past p n sound (omega arith) in
    record {
      allocates = λ tied. record {
        fields = inr takes;
        there = record { page = blank.page; blank = blank.blank; there = put-there n blank.page p.changes changes copy (d.seen p.disk) (n + 1) pos below };
        others = record {
          pages = λ m ne. put-other n blank.page p.changes changes copy (d.seen p.disk) (n + 1) m ne
              ∙ ap (λ (b : Bool). if b then Some (unwrap_or (held_change (held p m)) (disk_page (d.seen p.disk) m)) else None) (page-last n m ne);
        };
      };
      fields = inr takes;
      fresh = λ tied. ap used_page (ap (λ (b : Bool). if b then Some (unwrap_or (held_change (held p n)) (disk_page (d.seen p.disk) n)) else None) (page-outside n n (inr (omega arith))));
      not_held = λ used. let wrong : None ≡ Some used.page = sym none ∙ used.held in cc;
      after = omega arith;
      below = below;
      no_fewer = omega arith;
      within = omega arith;
      page = blank.page;
      blank = blank.blank;
      held = put-held n blank.page p.changes changes copy (pager_store d p) (pager_store d (with_changes p changes after)) (λ m. refl) (λ m. refl);
      counts = record { limit = refl; begun = refl; full_refusals = omega arith };
      failures = refl;
      full = refl;
    }

-- the count of refusals of a full file is another
abbrev pub with_full : {D : Type 0} → Paged D → ℕ → Paged D
with_full p full = record p { full_refusals = full }

full-not_disk : refusal.FileFull ≡ refusal.Disk → ⊥
full-not_disk is = cc

-- a full file
pub full-refused : {D : Type 0} (d : disk.Ghosts D) (p : Paged D) (more : ℕ) → p.limit ≤ p.working.pages → p.working.first_free ≡ 0 → more ≡ counted_on p.full_refusals
    → RefusesPage (IsTied d p) refusal.FileFull (pager_store d p) (pager_store d (with_full p more))
full-refused d p more at_limit none counted = record {
  keeps = record { pages = λ _. record { fields = refl; pages = λ n. refl }; fields = refl; held = λ n. refl };
  counts = record { limit = refl; begun = refl; full_refusals = subst (λ i. p.full_refusals ≤ i) (sym counted) (counted_on_le p.full_refusals) };
  full = λ ne. absurd (ne refl);
  wants = record {
    cause = inr (inr (inl (refl, record { at_limit = at_limit; none_free = none; counted = counted })));
    count = record { disk = λ is. absurd (full-not_disk is); other = λ _. refl };
  };
}
