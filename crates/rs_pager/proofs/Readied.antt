-- A page has a working copy, in use or not.
use Rattle.std.proofs.Common.{◌≡◌, ◌<◌, ◌≤◌, inr, ℕ, true, Option, Some, IsSome, List, length, Err, refl, sym, ap, ◌∙◌, subst, arith}
use Rattle.std.proofs.lemmas.Bool.{true≢false}
use Rattle.rs_disk.specs.declared.disk.Disk as disk
use Rattle.rs_refusal.specs.declared.refusal.Refusal.TheVariants as refusal
use Rattle.rs_page.specs.PageBytes.{is_free}
use Rattle.rs_page.specs.declared.file_header.FileHeader.{FileHeader}
use Rattle.rs_pages.specs.Held.{HeldPage, page_or, held_change, with_copy}
use Rattle.rs_pages.specs.Lending.{RestsAfter, EditsAfter}
use Rattle.rs_pages.specs.Uses.{Lends, RefusesToEdit}
use Rattle.rs_pages.proofs.Stores.{Rests-refl}
use Rattle.rs_page_cache.specs.Changes.{Changes, IsUsedCopy}
use Rattle.rs_journal.specs.declared.stage.Stage.TheVariants.{Fresh}
use Rattle.rs_pager.specs.Paged.{Paged, held}
use Rattle.rs_pager.specs.Maps.{pager_store, KeepsBelow, IsTied}
use Rattle.rs_pager.specs.Below.{KeepsBelow-refl, KeepsBelow-trans}
use Rattle.rs_pager.specs.Copying.{CopiesPage, ReadiesCopy}
use Rattle.rs_pager.specs.Found.{IsAtHand, FindsFit, IsNotLent}
use Rattle.rs_pager.proofs.Lent.{there, fit-lends, free-not_lent, finds-change, some-is}
use Rattle.rs_pager.proofs.Edited.{PutsCopy, AddsPage, same-adds, put-committed, changes-below, put-edits, edits-twice}
use Rattle.rs_pager.proofs.Keeping.{with_changes}

-- a working copy is the change that is held
copy-is_change : (h : HeldPage) (page : List ℕ) → h.copy ≡ Some page → held_change h ≡ Some page
copy-is_change h page copy = ap (λ (o : Option (List ℕ)). page_or o h.committed) copy

same_parts : (committed copy : Option (List ℕ)) (page : List ℕ) → copy ≡ Some page → ◌≡◌ {A = HeldPage} (record { committed = committed; copy = copy }) (record { committed = committed; copy = Some page })
same_parts committed copy page is = subst (λ (c : Option (List ℕ)). ◌≡◌ {A = HeldPage} (record { committed = committed; copy = copy }) (record { committed = committed; copy = c })) is refl

copy-stays : (h : HeldPage) (page : List ℕ) → h.copy ≡ Some page → h ≡ with_copy page h
copy-stays h page copy = same_parts h.committed h.copy page copy

module _ {D : Type 0} (d : disk.Ghosts D) (n : ℕ) where
  -- a page that was copied is in use
  pub copies-readies : (old new : Paged D) → CopiesPage d n old new → ReadiesCopy d n old new
  copies-readies old new copies = record {
    page = copies.page;
    after = copies.lends.after;
    below = copies.lends.below;
    copy = ap (λ (h : HeldPage). h.copy) copies.edits.held.there;
    lends = λ _ _. copies.lends;
    refuses = λ free. absurd (true≢false (sym free ∙ copies.lends.in_use));
    rests = λ free. absurd (true≢false (sym free ∙ copies.lends.in_use));
    edits = copies.edits;
    keeps = copies.keeps;
    failures = copies.failures;
  }

  -- why a page that is not in use is not lent to be changed
  refuses-unused : (p : Paged D) → IsNotLent d n p → RefusesToEdit (IsTied d p) (pager_store d p) n refusal.DamagedFile
  refuses-unused p not = record {
    cause = inr (inr refl);
    damaged = λ tied _. not.no_fit tied;
    held = λ used. absurd (not.not_held used);
    copied = λ used. absurd (not.not_held used);
  }

  -- there is a working copy already, in use or not
  pub had-readies : (p : Paged D) → 0 < n → n < p.working.pages → IsSome (held p n).copy → ReadiesCopy d n p p
  had-readies p after below some =
      let page = (some-is (held p n).copy some).0 in
      let copy : (held p n).copy ≡ Some page = (some-is (held p n).copy some).1 in
      let fit : FindsFit n page p = finds-change p n page (copy-is_change (held p n) page copy) in
      let hand : IsAtHand n p = record { after = after; below = below; found = subst (IsSome {T = List ℕ}) (sym fit.found) refl } in
      record {
        page = page;
        after = after;
        below = below;
        copy = copy;
        lends = λ used size. fit-lends d p n hand page fit used size;
        refuses = λ free. refuses-unused p (free-not_lent d p n hand page fit free);
        rests = λ _. Rests-refl (IsTied d p) (pager_store d p);
        edits = record {
          replaces = λ tied. record { fields = refl; there = there d p n hand page fit.found tied; others = record { pages = λ m ne. refl } };
          fields = refl;
          held = record { there = copy-stays (held p n) page copy; others = λ m ne. refl };
          counts = record { limit = refl; begun = refl; full_refusals = omega arith };
          full = refl;
        };
        keeps = KeepsBelow-refl d p;
        failures = refl;
      }

  -- the copy is lent
  module _ (old mid : Paged D) (readies : ReadiesCopy d n old mid) where
    readied-below : n < mid.working.pages
    readied-below = omega (arith, readies.below, ap (λ (f : FileHeader). f.pages) readies.edits.fields)

    -- what was written into the copy is the working page
    pub readied-edits : (page : List ℕ) (changes : Changes) → mid.under_way.stage ≡ Fresh → PutsCopy n page mid.changes changes
        → EditsAfter (IsTied d) (pager_store d) (KeepsBelow d) n page old (with_changes mid changes mid.working)
    readied-edits page changes fresh puts = record {
      edits = edits-twice (IsTied d old) (IsTied d mid) n readies.page page (pager_store d old) (pager_store d mid) (pager_store d (with_changes mid changes mid.working))
          readies.keeps.tied readies.edits (put-edits d mid n page changes puts readies.after readied-below);
      count = readies.failures;
      below = KeepsBelow-trans d old mid (with_changes mid changes mid.working) readies.keeps
          (changes-below d mid changes mid.working fresh (put-committed n page mid.changes changes puts));
    }

    pub readied-adds : (limit : ℕ) → mid.working.pages ≤ limit → AddsPage n limit mid.working mid.working
    readied-adds limit within = same-adds n limit mid.working mid.working refl readies.after readied-below within

    -- the copy is the page that was there
    pub readied-lends : (page : List ℕ) → IsUsedCopy page (held mid n) → Lends (IsTied d old) (pager_store d old) n page
    readied-lends page used =
        let one : Some readies.page ≡ Some page = sym readies.copy ∙ used.copy in
        let same : page ≡ readies.page = cc in
        subst (Lends (IsTied d old) (pager_store d old) n) (sym same)
        (readies.lends (ap is_free (sym same) ∙ used.in_use) (ap length (sym same) ∙ used.size))

    -- a copy that is not in use is not lent
    pub readied-free : ((page : List ℕ) → (held mid n).copy ≡ Some page → is_free page ≡ true) → is_free readies.page ≡ true
    readied-free free = free readies.page readies.copy

    pub readied-rests : {T : Type 0} → is_free readies.page ≡ true → RestsAfter {T = T} (IsTied d) (pager_store d) (KeepsBelow d) (Err refusal.DamagedFile) old mid
    readied-rests free = record {
      rests = readies.rests free;
      below = readies.keeps;
      count = record { disk = λ is. let wrong : refusal.DamagedFile ≡ refusal.Disk = is in cc; other = λ _. readies.failures };
    }
