-- A page at hand is released, once it is read, or it is refused.
use Rattle.std.proofs.Common.{◌≡◌, ◌≢◌, ◌<◌, ◌+◌, inl, inr, ℕ, false, Option, Some, None, IfSome, is_none, List, Result, Ok, Err, OnErr, IfErr, refl, sym, ap, ◌∙◌, subst, arith}
use Rattle.rs_disk.specs.declared.disk.Disk as disk
use Rattle.rs_refusal.specs.declared.refusal.Refusal.{Refusal}
use Rattle.rs_refusal.specs.declared.refusal.Refusal.TheVariants as refusal
use Rattle.rs_page.specs.PageBytes.{IsBlank}
use Rattle.rs_page.specs.declared.file_header.FileHeader.{FileHeader}
use Rattle.rs_page.specs.declared.header.PageKind.TheVariants.{Free}
use Rattle.rs_pages.specs.Held.{with_copy}
use Rattle.rs_pages.specs.PageMap.{HasBlank}
use Rattle.rs_pages.specs.Store.{Store, Rests}
use Rattle.rs_pages.specs.Uses.{Lends, ReleasesPage, RefusesToRelease}
use Rattle.rs_pages.proofs.Stores.{KeepsCounts-trans, Lends-before, HoldsUsed-after, HasNoFit-before}
use Rattle.rs_pager.specs.Paged.{Paged}
use Rattle.rs_pager.specs.Maps.{working, pager_store, IsTied}
use Rattle.rs_pager.specs.Taking.{RefusesToFree}
use Rattle.rs_pager.proofs.Copied.{Loaded}
use Rattle.rs_pager.proofs.Keeping.{with_changes}
use Rattle.rs_pager.proofs.Edited.{put-there, put-other, put-held}
use Rattle.rs_pager.proofs.Allocated.{puts}
use Rattle.rs_page_cache.specs.Changes.{Changes, PutsBlank}

-- the fields of a file with one free page more, which is the first
abbrev pub with_first : ℕ → FileHeader → FileHeader
with_first n fields = record fields { first_free = n; free_pages = fields.free_pages + 1 }

-- the option is some
pub some-of : {A : Type 0} (P : A → Type 0) (o : Option A) → is_none o ≡ false → IfSome o P → (x : A) × P x
some-of P None some p = cc
some-of P (Some x) some p = (x, p)

-- a page at hand is the first of the free list
pub freed : {D : Type 0} (d : disk.Ghosts D) (p : Paged D) (n : ℕ) (was : List ℕ) (changes : Changes) → Lends (IsTied d p) (pager_store d p) n was → 1 < n
    → PutsBlank Free n p.working.first_free p.changes changes
    → ReleasesPage (IsTied d p) n (pager_store d p) (pager_store d (with_changes p changes (with_first n p.working)))
freed d p n was changes lends past blank =
    let copy = puts Free n p.working.first_free p.changes changes blank in
    record {
      was = was;
      lends = lends;
      past = past;
      releases = λ _. record {
        fields = refl;
        there = record { page = blank.page; blank = blank.blank; there = put-there n blank.page p.changes changes copy (d.seen p.disk) p.working.pages lends.after lends.below };
        others = record { pages = λ m ne. put-other n blank.page p.changes changes copy (d.seen p.disk) p.working.pages m ne };
      };
      fields = refl;
      page = blank.page;
      blank = blank.blank;
      held = put-held n blank.page p.changes changes copy (pager_store d p) (pager_store d (with_changes p changes (with_first n p.working))) (λ m. refl) (λ m. refl);
      counts = record { limit = refl; begun = refl; full_refusals = omega arith };
      failures = refl;
      full = refl;
    }

-- clean pages were read, and then a page was released
pub releases-after : (tied later : Type 0) (n : ℕ) (s t u : Store) → (tied → later) → Rests tied s t → t.failures ≡ s.failures → ReleasesPage later n t u → ReleasesPage tied n s u
releases-after tied later n s t u then rests failures releases =
    let same = rests.keeps.fields in
    let fields : u.map.fields ≡ with_first n s.map.fields = releases.fields ∙ ap (with_first n) same in
    record {
      was = releases.was;
      lends = Lends-before tied later s t n releases.was then rests releases.lends;
      past = releases.past;
      releases = λ is.
          let there = releases.releases (then is) in
          record {
            fields = fields;
            there = subst (λ (f : FileHeader). HasBlank u.map Free n f.first_free) same there.there;
            others = record { pages = λ m ne. there.others.pages m ne ∙ (rests.keeps.pages is).pages m };
          };
      fields = fields;
      page = releases.page;
      blank = subst (λ (f : FileHeader). IsBlank releases.page Free n f.first_free) same releases.blank;
      held = record {
        there = releases.held.there ∙ ap (with_copy releases.page) (rests.keeps.held n);
        others = λ m ne. releases.held.others m ne ∙ rests.keeps.held m;
      };
      counts = KeepsCounts-trans s t u rests.counts releases.counts;
      failures = releases.failures ∙ failures;
      full = releases.full ∙ rests.full;
    }

module _ {D : Type 0} (d : disk.Ghosts D) (n : ℕ) (old mid : Paged D) (loaded : Loaded d old mid) where
  not_disk : (why : Refusal) → RefusesToFree d n mid why → why ≢ refusal.Disk
  not_disk why refuses disk = elim refuses.cause [
    | inl is ↦ let wrong : refusal.OutOfMemory ≡ refusal.Disk = sym is ∙ disk in cc
    | inr is ↦ let wrong : refusal.DamagedFile ≡ refusal.Disk = sym is.0 ∙ disk in cc
  ]

  refuses-release : (why : Refusal) → RefusesToFree d n mid why → RefusesToRelease (IsTied d old) n why (pager_store d old) (pager_store d mid)
  refuses-release why refuses =
      let pages : mid.working.pages ≡ old.working.pages = ap (λ (f : FileHeader). f.pages) loaded.rests.keeps.fields in
      let free : mid.working.free_pages ≡ old.working.free_pages = ap (λ (f : FileHeader). f.free_pages) loaded.rests.keeps.fields in
      record {
        wants = record {
          cause = elim refuses.cause [
            | inl is ↦ inl is
            | inr (is, inl none) ↦ inr (inr (inr (is, inl (λ tied. HasNoFit-before (working d old) (working d mid) n (loaded.rests.keeps.pages tied) (none (loaded.below.tied tied))))))
            | inr (is, inr long) ↦ inr (inr (inr (is, inr (inr (omega (arith, long, pages, free))))))
          ];
          count = record { disk = λ is. absurd (not_disk why refuses is); other = λ _. loaded.count };
        };
        held = λ used past room. refuses.used (HoldsUsed-after (IsTied d old) (pager_store d old) (pager_store d mid) n loaded.rests used) (omega (arith, room, pages, free));
      }

  pub free-refused : {T : Type 0} (r : Result T Refusal) (new : Paged D) → OnErr r (new ≡ mid) → IfErr r (RefusesToFree d n mid)
      → IfErr r (λ why. RefusesToRelease (IsTied d old) n why (pager_store d old) (pager_store d new))
  free-refused (Ok x) new same refuses = tt
  free-refused (Err why) new same refuses =
      subst (λ (p : Paged D). RefusesToRelease (IsTied d old) n why (pager_store d old) (pager_store d p)) (sym same) (refuses-release why refuses)
