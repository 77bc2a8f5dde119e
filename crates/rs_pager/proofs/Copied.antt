-- A page is copied, or refused.
use Rattle.std.proofs.Common.{◌≡◌, ◌≤◌, ◌⊎◌, inl, inr, ℕ, Option, Some, None, List, Err, refl, sym, ap, ◌∙◌}
use Rattle.rs_refusal.specs.declared.refusal.Refusal.{Refusal}
use Rattle.rs_refusal.specs.declared.refusal.Refusal.TheVariants as refusal
use Rattle.rs_disk.specs.declared.disk.Disk as disk
use Rattle.rs_pages.specs.Held.{HeldPage, held_change}
use Rattle.rs_pages.specs.Store.{Rests}
use Rattle.rs_pages.specs.Lending.{RestsAfter}
use Rattle.rs_pages.specs.PageMap.{used_page}
use Rattle.rs_pages.specs.Uses.{Lends, RefusesToEdit, RefusesToLend}
use Rattle.rs_pages.proofs.Stores.{Lends-before, HoldsUsed-after, HasNoFit-before}
use Rattle.rs_page_cache.specs.Changes.{Changes}
use Rattle.rs_journal.specs.declared.stage.Stage.TheVariants.{Fresh}
use Rattle.rs_pager.specs.Paged.{Paged, held}
use Rattle.rs_pager.specs.Maps.{working, page_or_stored, pager_store, KeepsBelow, IsTied}
use Rattle.rs_pager.specs.Below.{KeepsBelow-refl, KeepsBelow-trans}
use Rattle.rs_pager.specs.Copying.{CopiesPage, RefusesCopy, HasCopy, LacksCopy}
use Rattle.rs_pager.specs.Found.{IsNotAtHand, IsNotLent}
use Rattle.rs_disk.specs.Content.{Content}
use Rattle.rs_pager.proofs.Lent.{page-outside}
use Rattle.rs_pager.proofs.Edited.{PutsCopy, put-committed, changes-below, put-edits, copy-edits, edits-after}
use Rattle.rs_pager.proofs.Keeping.{with_changes}

-- clean pages were read, and no call of the disk failed
pub record Loaded {D : Type 0} (d : disk.Ghosts D) (old mid : Paged D) : Type 0 where
  pub rests : Rests (IsTied d old) (pager_store d old) (pager_store d mid)
  pub below : KeepsBelow d old mid
  pub count : d.failures mid.disk ≡ d.failures old.disk

-- a file has no page past its last, and page 0 is none of them
outside : (n pages : ℕ) → (n ≡ 0) ⊎ (pages ≤ n) → (page : List ℕ) (content : Content) (change : Option (List ℕ))
    → used_page (page_or_stored pages change content n) ≡ Some page → ⊥
outside n pages out page content change used =
    let none : used_page (page_or_stored pages change content n) ≡ None = rw (page-outside n pages out) refl in
    let wrong : Some page ≡ None = sym used ∙ none in cc

module _ {D : Type 0} (d : disk.Ghosts D) (n : ℕ) where
  -- a new copy is put in place
  pub copies-put : (p : Paged D) (page : List ℕ) (changes : Changes) → p.under_way.stage ≡ Fresh → LacksCopy d n page p → PutsCopy n page p.changes changes
      → CopiesPage d n p (with_changes p changes p.working)
  copies-put p page changes fresh lacks puts = record {
    page = page;
    lends = lacks.lends;
    edits = put-edits d p n page changes puts lacks.lends.after lacks.lends.below;
    keeps = changes-below d p changes p.working fresh (put-committed n page p.changes changes puts);
    failures = refl;
  }

  -- there is a copy already
  pub copies-had : (p : Paged D) → HasCopy d n p → CopiesPage d n p p
  copies-had p has = record {
    page = has.page;
    lends = has.lends;
    edits = copy-edits (IsTied d p) (pager_store d p) n has.page has.lends has.copied;
    keeps = KeepsBelow-refl d p;
    failures = refl;
  }

  -- there is no memory for a copy
  pub refuses-memory : (p : Paged D) (page : List ℕ) (why : Refusal) → why ≡ refusal.OutOfMemory → LacksCopy d n page p → RefusesCopy d n p why
  refuses-memory p page why is lacks = record {
    cause = inl is;
    damaged = λ _ damaged. let wrong : refusal.OutOfMemory ≡ refusal.DamagedFile = sym is ∙ damaged in cc;
    used = λ _. is;
    copied = λ _. lacks.none;
  }

  -- clean pages were read, and then the page was copied
  module _ (old mid : Paged D) (rests : Loaded d old mid) where
    -- the page at hand is lent
    pub lends-after : (page : List ℕ) → Lends (IsTied d mid) (pager_store d mid) n page → Lends (IsTied d old) (pager_store d old) n page
    lends-after page lends = Lends-before (IsTied d old) (IsTied d mid) (pager_store d old) (pager_store d mid) n page rests.below.tied rests.rests lends

    pub copies-after : (new : Paged D) → CopiesPage d n mid new → CopiesPage d n old new
    copies-after new copies = record {
      page = copies.page;
      lends = lends-after copies.page copies.lends;
      edits = edits-after (IsTied d old) (IsTied d mid) n copies.page (pager_store d old) (pager_store d mid) (pager_store d new) rests.below.tied rests.rests copies.edits;
      keeps = KeepsBelow-trans d old mid new rests.below copies.keeps;
      failures = copies.failures ∙ rests.count;
    }

    pub refuses-after : (why : Refusal) → RefusesCopy d n mid why → RefusesToEdit (IsTied d old) (pager_store d old) n why
    refuses-after why refuses = record {
      cause = elim refuses.cause [ inl is ↦ inl is | inr is ↦ inr (inr is) ];
      damaged = λ tied is. HasNoFit-before (working d old) (working d mid) n (rests.rests.keeps.pages tied) (refuses.damaged (rests.below.tied tied) is);
      held = λ used. refuses.used (HoldsUsed-after (IsTied d old) (pager_store d old) (pager_store d mid) n rests.rests used);
      copied = λ used. ap (λ (h : HeldPage). h.copy) (sym (rests.rests.keeps.held n)) ∙ refuses.copied (HoldsUsed-after (IsTied d old) (pager_store d old) (pager_store d mid) n rests.rests used);
    }

    -- the page at hand is not lent
    pub lend-refused : IsNotLent d n mid → RefusesToLend (IsTied d old) (pager_store d old) n refusal.DamagedFile
    lend-refused not = record {
      cause = inr refl;
      damaged = λ tied _. HasNoFit-before (working d old) (working d mid) n (rests.rests.keeps.pages tied) (not.no_fit (rests.below.tied tied));
      not_held = λ used. not.not_held (HoldsUsed-after (IsTied d old) (pager_store d old) (pager_store d mid) n rests.rests used);
    }

    pub rests-damaged : {T : Type 0} → RestsAfter {T = T} (IsTied d) (pager_store d) (KeepsBelow d) (Err refusal.DamagedFile) old mid
    rests-damaged = record {
      rests = rests.rests;
      below = rests.below;
      count = record { disk = λ is. let wrong : refusal.DamagedFile ≡ refusal.Disk = is in cc; other = λ _. rests.count };
    }

  -- no page has this number, or it couldn't be read
  pub no-page-lent : (p : Paged D) (why : Refusal) → IsNotAtHand n why p → RefusesToLend (IsTied d p) (pager_store d p) n why
  no-page-lent p why not = record {
    cause = not.cause;
    damaged = λ _ is. record { none = λ page used fit. outside n p.working.pages (not.damaged is) page (d.seen p.disk) (held_change (held p n)) used };
    not_held = λ used. let wrong : None ≡ Some used.page = sym not.not_held ∙ used.held in cc;
  }
