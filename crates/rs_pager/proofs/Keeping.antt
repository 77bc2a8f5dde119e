-- What was kept last is kept while pages are read, changed and dropped.
use Rattle.std.proofs.Common.{◌≡◌, ◌*◌, ◌≤◌, ℕ, Option, Some, None, IsSome, Bool, List, refl, sym, ap, ◌∙◌, subst, [], inl, inr, true, false, arith}
use Rattle.std.proofs.lemmas.Bool.{cases_lt}
use Rattle.rs_disk.specs.Content.{Content}
use Rattle.rs_disk.specs.Crash.{Same}
use Rattle.rs_disk.specs.Reaches.{Reaches}
use Rattle.rs_disk.proofs.Reaching.{passes_none}
use Rattle.rs_disk.specs.declared.disk.Disk as disk
use Rattle.rs_page.specs.declared.file_header.FileHeader.{FileHeader}
use Rattle.rs_pages.specs.Held.{HeldPage, page_or, held_change}
use Rattle.rs_pages.specs.PageMap.{PageMap, SamePages}
use Rattle.rs_page_cache.specs.Changes.{Changes, abandoned_held, committed_held, held_at}
use Rattle.rs_page_cache.specs.Clean.{Clean}
use Rattle.rs_journal.specs.FilePages.{FilePages}
use Rattle.rs_journal.specs.Stages.{IsQuiet, StageImage}
use Rattle.rs_journal.specs.declared.stage.Stage.TheVariants.{Fresh}
use Rattle.rs_journal.proofs.Advancing.{remains-same}
use Rattle.rs_page_copies.specs.Listed.{AreFilled}
use Rattle.rs_pager.specs.Paged.{Paged, IsSound, held}
use Rattle.rs_pager.specs.SecondHeader.{IsSecondHeader}
use Rattle.rs_pager.specs.Stored.{Stores, stored_map}
use Rattle.rs_pager.specs.Maps.{page_or_stored, committed, pager_journal, working, ArePages, IsKept, IsTied, KeepsBelow, KeepsChanges, KeepsMaps}
use Rattle.rs_page_cache.specs.Stored.{disk_page}

-- the disk and the clean pages are others
abbrev pub with_clean : {D : Type 0} → Paged D → D → Clean → Paged D
with_clean p disk clean = record p { disk = disk; clean = clean }

-- the changed pages and the working fields are others
abbrev pub with_changes : {D : Type 0} → Paged D → Changes → FileHeader → Paged D
with_changes p changes fields = record p { changes = changes; working = fields }

-- a content that stands for pages stands for the same pages
pub Stores-same : (content : Content) (one other : PageMap) → SamePages other one → Stores content one → Stores content other
Stores-same content one other same stores = record {
  header = subst (λ (f : FileHeader). IsSecondHeader (disk_page content 0) f) (sym same.fields) stores.header;
  size = subst (λ (f : FileHeader). 4096 * f.pages ≤ content.size) (sym same.fields) stores.size;
  pages = record {
    fields = refl;
    pages = λ n. same.pages n ∙ stores.pages.pages n ∙ ap (λ (f : FileHeader). (stored_map content f).page n) (sym same.fields);
  };
}

pub ArePages-same : (one other : PageMap) (pages : FilePages) → SamePages other one → ArePages one pages → ArePages other pages
ArePages-same one other pages same are = record {
  says = are.says;
  counts = are.counts ∙ ap (λ (f : FileHeader). f.pages) (sym same.fields);
  stores = Stores-same _ one other same are.stores;
}

module _ {D : Type 0} (d : disk.Ghosts D) (p : Paged D) where
  -- pages were read
  pub kept-read : (disk : D) (clean : Clean) → Reaches d Same p.disk disk → (pages : FilePages) → IsKept d p pages → IsKept d (with_clean p disk clean) pages
  kept-read disk clean reaches pages is = record {
    says = is.says;
    before = is.before;
    filled = is.filled;
    quiet = λ fresh. (remains-same d (IsQuiet pages) p.disk disk reaches (is.quiet fresh)).every;
    under_way = λ ne.
        let on = is.under_way ne in
        record {
          checkpoint = on.checkpoint;
          lists = on.lists;
          makes = on.makes;
          are = ArePages-same (committed d p) (committed d (with_clean p disk clean)) on.checkpoint (record {
            fields = refl;
            pages = λ n. ap (λ (content : Content). page_or_stored p.committed_fields.pages (held p n).committed content n) (reaches.reads on.every.honest);
          }) on.are;
          every = (remains-same d (StageImage p.under_way.stage pages (pager_journal d p) on.checkpoint) p.disk disk reaches on.every).every;
        };
  }

  -- nothing but the working pages has changed, while no checkpoint is under way
  pub kept-edited : (changes : Changes) (fields : FileHeader) → p.under_way.stage ≡ Fresh
      → ((m : ℕ) → (held_at changes m).committed ≡ (held p m).committed) → (pages : FilePages) → IsKept d p pages → IsKept d (with_changes p changes fields) pages
  kept-edited changes fields fresh same pages is = record {
    says = is.says;
    before = is.before;
    filled = λ number from to. subst (λ (o : Option (List ℕ)). IsSome o) (sym (same number)) (is.filled number from to);
    quiet = is.quiet;
    under_way = λ ne. absurd (ne fresh);
  }

  -- what no page depends on has changed
  pub kept-beside : (fields : FileHeader) (begun : Bool) (full : ℕ) (pages : FilePages) → IsKept d p pages
      → IsKept d (record p { working = fields; is_begun = begun; full_refusals = full }) pages
  kept-beside fields begun full pages is = record {
    says = is.says;
    before = is.before;
    filled = is.filled;
    quiet = is.quiet;
    under_way = λ ne.
        let on = is.under_way ne in record { checkpoint = on.checkpoint; lists = on.lists; makes = on.makes; are = on.are; every = on.every };
  }

  pub tied-beside : (fields : FileHeader) (begun : Bool) (full : ℕ) → IsTied d p
      → IsTied d (record p { working = fields; is_begun = begun; full_refusals = full })
  tied-beside fields begun full tied = record {
    honest = tied.honest;
    clean = tied.clean;
    after_header = tied.after_header;
    first = tied.first;
    inside = tied.inside;
    header = tied.header;
    kept = tied.kept;
    is_kept = kept-beside fields begun full tied.kept tied.is_kept;
  }

  pub below-beside : (fields : FileHeader) (begun : Bool) (full : ℕ) → KeepsBelow d p (record p { working = fields; is_begun = begun; full_refusals = full })
  below-beside fields begun full = record {
    tied = tied-beside fields begun full;
    committed = λ _. record { fields = refl; pages = λ n. refl };
    committed_fields = refl;
    changed = λ n. refl;
    lacks = refl;
    honesty = refl;
    keeping = refl;
    under_way = refl;
    kept = λ pages _ is. kept-beside fields begun full pages is;
    unwritten = λ _. refl;
    crash = λ _. passes_none d.may_leave d.left_since Same p.disk (λ _. refl);
  }

-- ---- changes end

none_some : (o : Option (List ℕ)) → o ≡ None → IsSome o → ⊥
none_some None is some = cc
none_some (Some page) is some = cc

or_none : (copy committed_page : Option (List ℕ)) → page_or copy committed_page ≡ None → (copy ≡ None) × (committed_page ≡ None)
or_none None committed_page none = (refl, none)
or_none (Some page) committed_page none = cc

or_some : (copy committed_page : Option (List ℕ)) → IsSome committed_page → IsSome (page_or copy committed_page)
or_some None committed_page some = some
or_some (Some page) committed_page some = refl

or_copied : (copy committed_page : Option (List ℕ)) → IsSome copy → IsSome (page_or copy committed_page)
or_copied None committed_page some = cc
or_copied (Some page) committed_page some = refl

module _ {D : Type 0} (d : disk.Ghosts D) (p : Paged D) (sound : IsSound p.limit p.changes p.committed_fields p.working p.is_begun p.under_way.stage) (begun : p.is_begun ≡ true)
    (changes : Changes) where
  -- the working copies are committed
  module _ (each : (n : ℕ) → held_at changes n ≡ committed_held (held p n)) (lacks : Bool) where
    committed_by : (n : ℕ) → (held_at changes n).committed ≡ page_or (held p n).copy (held p n).committed
    committed_by n = ap (λ (h : HeldPage). h.committed) (each n)

    commit_filled : (from : ℕ) → AreFilled p.changes from p.committed_fields.pages → AreFilled changes from p.working.pages
    commit_filled from filled n low high = subst (λ (o : Option (List ℕ)). IsSome o) (sym (committed_by n)) (elim (cases_lt n p.committed_fields.pages) [
      | inl inside ↦ or_some (held p n).copy (held p n).committed (filled n low inside)
      | inr past ↦ or_copied (held p n).copy (held p n).committed (sound.fresh n (omega (arith, past)) high)
    ])

    pub commit-kept : (pages : FilePages) → IsKept d p pages
        → IsKept d (record p { changes = changes; committed_fields = p.working; is_header_changed = lacks; is_begun = false }) pages
    commit-kept pages is = record {
      says = is.says;
      before = omega (arith, is.before, sound.kept_room);
      filled = commit_filled pages.count is.filled;
      quiet = is.quiet;
      under_way = λ ne. absurd (ne (sound.begun_fresh begun));
    }

    pub commit-tied : (lacks ≡ false → (p.is_header_changed ≡ false) × (p.committed_fields ≡ p.working)) → IsTied d p
        → IsTied d (record p { changes = changes; committed_fields = p.working; is_header_changed = lacks; is_begun = false })
    commit-tied says tied = record {
      honest = tied.honest;
      clean = tied.clean;
      after_header = tied.after_header;
      first = tied.first;
      inside = λ n pos lt none.
          let both = or_none (held p n).copy (held p n).committed (sym (committed_by n) ∙ none) in
          elim (cases_lt n p.committed_fields.pages) [
            | inl inside ↦ tied.inside n pos inside both.1
            | inr past ↦ absurd (none_some (held p n).copy both.0 (sound.fresh n (omega (arith, past)) lt))
          ];
      header = λ e. let was = says e in subst (λ (f : FileHeader). IsSecondHeader (disk_page (d.seen p.disk) 0) f) was.1 (tied.header was.0);
      kept = tied.kept;
      is_kept = commit-kept tied.kept tied.is_kept;
    }

  -- the working copies are dropped
  pub abandon-tied : ((n : ℕ) → held_at changes n ≡ abandoned_held (held p n)) → IsTied d p → IsTied d (record p { changes = changes; working = p.committed_fields; is_begun = false })
  abandon-tied each tied = record {
    honest = tied.honest;
    clean = tied.clean;
    after_header = tied.after_header;
    first = tied.first;
    inside = λ n pos lt none. tied.inside n pos lt (sym (ap (λ (h : HeldPage). h.committed) (each n)) ∙ none);
    header = tied.header;
    kept = tied.kept;
    is_kept = kept-beside d (with_changes p changes p.committed_fields) p.committed_fields false p.full_refusals tied.kept
        (kept-edited d p changes p.committed_fields (sound.begun_fresh begun) (λ n. ap (λ (h : HeldPage). h.committed) (each n)) tied.kept tied.is_kept);
  }

-- the clean pages are dropped
pub forgotten-kept : {D : Type 0} (d : disk.Ghosts D) (p : Paged D) (pages : FilePages) → IsKept d p pages → IsKept d (record p { clean = [] }) pages
forgotten-kept d p pages is =
    let was = kept-beside d p p.working p.is_begun p.full_refusals pages is in
    record {
      says = was.says;
      before = was.before;
      filled = was.filled;
      quiet = was.quiet;
      under_way = λ ne. let on = was.under_way ne in record { checkpoint = on.checkpoint; lists = on.lists; makes = on.makes; are = on.are; every = on.every };
    }

pub forgotten-tied : {D : Type 0} (d : disk.Ghosts D) (p : Paged D) → IsTied d p → IsTied d (record p { clean = [] })
forgotten-tied d p tied = record {
  honest = tied.honest;
  clean = record { each = λ n page there. absurd (omega (arith, there.1)) };
  after_header = record { each = λ n page there. absurd (omega (arith, there.1)) };
  first = tied.first;
  inside = tied.inside;
  header = tied.header;
  kept = tied.kept;
  is_kept = forgotten-kept d p tied.kept tied.is_kept;
}

-- nothing below the working pages has changed
pub forgotten-below : {D : Type 0} (d : disk.Ghosts D) (p : Paged D) → KeepsBelow d p (record p { clean = [] })
forgotten-below d p = record {
  tied = forgotten-tied d p;
  committed = λ _. record { fields = refl; pages = λ n. refl };
  committed_fields = refl;
  changed = λ n. refl;
  lacks = refl;
  honesty = refl;
  keeping = refl;
  under_way = refl;
  kept = λ pages _ is. forgotten-kept d p pages is;
  unwritten = λ _. refl;
  crash = λ _. passes_none d.may_leave d.left_since Same p.disk (λ _. refl);
}

pub forgotten-keeps : {D : Type 0} (d : disk.Ghosts D) (p : Paged D) → IsSound p.limit p.changes p.committed_fields p.working p.is_begun p.under_way.stage
    → KeepsMaps d p (record p { clean = [] })
forgotten-keeps d p sound = record {
  tied = forgotten-tied d p;
  committed = λ _. record { fields = refl; pages = λ n. refl };
  working = λ _. record { fields = refl; pages = λ n. refl };
  committed_fields = refl;
  working_fields = refl;
  honesty = refl;
  limit = refl;
  full = refl;
  least = sound.directory;
  within = omega (arith, sound.kept_room, sound.within);
}

-- while no changes are begun, what keeps the held changes leaves the two maps the same
pub same-shut : {D : Type 0} (d : disk.Ghosts D) (old new : Paged D) → IsSound old.limit old.changes old.committed_fields old.working old.is_begun old.under_way.stage → old.is_begun ≡ false
    → KeepsChanges old new → SamePages (working d new) (committed d new)
same-shut d old new sound shut keeps = record {
  fields = same;
  pages = λ n. ap (λ (f : FileHeader). page_or_stored f.pages (held_change (held new n)) (d.seen new.disk) n) same
      ∙ ap (λ (change : Option (List ℕ)). page_or_stored new.committed_fields.pages change (d.seen new.disk) n)
      (ap (λ (o : Option (List ℕ)). page_or o (held new n).committed) (ap (λ (h : HeldPage). h.copy) (keeps.held n) ∙ sound.no_copies shut n));
}
  where
    same : new.working ≡ new.committed_fields
    same = keeps.working_fields ∙ sound.same shut ∙ sym keeps.committed_fields
