-- The file is cut to its pages, which are all kept.
use Rattle.std.proofs.Common.{◌≡◌, inl, inr, ◌<◌, ◌≤◌, ◌*◌, ℕ, None, [], refl, sym, ap, ◌∙◌, arith}
use Rattle.rs_disk.specs.Content.{Content}
use Rattle.rs_disk.specs.declared.disk.Disk as disk
use Rattle.rs_page.specs.declared.page.TheConstants.{PAGE_SIZE}
use Rattle.rs_pages.specs.Held.{held_change}
use Rattle.rs_page_cache.specs.Stored.{disk_page}
use Rattle.rs_journal.specs.FilePages.{FilePages}
use Rattle.rs_journal.specs.Stages.{IsQuiet, Remains}
use Rattle.rs_journal.specs.declared.stage.Stage.TheVariants.{Fresh}
use Rattle.rs_pager.specs.Lasts.{Cuts}
use Rattle.rs_pager.specs.Maps.{page_or_stored, committed, ArePages, IsKept, IsTied}
use Rattle.rs_pager.specs.Paged.{Paged, IsSound, held}
use Rattle.rs_pager.specs.SecondHeader.{IsSecondHeader}
use Rattle.rs_pager.specs.Stored.{content_of_pages}
use Rattle.rs_pager.proofs.Checkpoints.{stored-inside}
use Rattle.rs_pager.proofs.DiskBytes.{disk_page-same}
use Rattle.rs_pager.proofs.Headers.{kept-header}

module _ {D : Type 0} (d : disk.Ghosts D) (p : Paged D) (kept : FilePages) (tied : IsTied d p) (fresh : p.under_way.stage ≡ Fresh) (is_kept : IsKept d p kept)
    (are : ArePages (committed d p) kept) (sound : IsSound p.limit p.changes p.committed_fields p.working p.is_begun p.under_way.stage)
    (disk : D) (remains : Remains d (IsQuiet kept) p.disk disk) where
  abbrev cut_pager : Paged D
  cut_pager = record p { disk = disk; clean = [] }

  quiet : IsQuiet kept (d.seen disk)
  quiet = remains.every.reads

  -- the pages of the file are there still
  page_there : (a : Content) → IsQuiet kept a → (n : ℕ) → 0 < n → n < p.committed_fields.pages → disk_page a n ≡ disk_page (content_of_pages kept) n
  page_there a is n pos lt = disk_page-same a (content_of_pages kept) n (λ i lo hi. is.pages_there.bytes i (omega (arith, lt, are.counts)) (inr (omega arith)))

  same_page : (n : ℕ) → 0 < n → n < p.committed_fields.pages → disk_page (d.seen disk) n ≡ disk_page (d.seen p.disk) n
  same_page n pos lt = page_there (d.seen disk) quiet n pos lt ∙ sym (page_there (d.seen p.disk) (is_kept.quiet fresh).reads n pos lt)

  first_page : IsSecondHeader (disk_page (d.seen disk) 0) p.committed_fields
  first_page = kept-header (content_of_pages kept) (d.seen disk) p.committed_fields (λ k lt own. quiet.pages_there.bytes k (omega (arith, is_kept.says.some)) own) are.stores.header

  long : PAGE_SIZE * p.committed_fields.pages ≤ (d.seen disk).size
  long = omega (arith, quiet.pages_there.size, are.counts)

  cut_kept : IsKept d cut_pager kept
  cut_kept = record {
    says = is_kept.says;
    before = is_kept.before;
    filled = is_kept.filled;
    quiet = λ _. remains.every;
    under_way = λ ne. absurd (ne fresh);
  }

  pub cuts : (none : (n : ℕ) → (held p n).committed ≡ None) → p.working.pages ≡ p.committed_fields.pages → Cuts d kept p cut_pager
  cuts none same = record {
    tied = record {
      honest = remains.every.honest;
      clean = record { each = λ n page there. absurd (omega (arith, there.1)) };
      after_header = record { each = λ n page there. absurd (omega (arith, there.1)) };
      first = omega (arith, long, sound.directory);
      inside = λ n pos lt _. omega (arith, long, lt);
      header = λ _. first_page;
      kept = kept;
      is_kept = cut_kept;
    };
    committed = record {
      fields = refl;
      pages = λ n. stored-inside p.committed_fields.pages n (held p n).committed (d.seen disk) (d.seen p.disk) (λ pos lt _. same_page n pos lt);
    };
    working = record {
      fields = refl;
      pages = λ n. stored-inside p.working.pages n (held_change (held p n)) (d.seen disk) (d.seen p.disk) (λ pos lt _. same_page n pos (omega (arith, lt, same)));
    };
    is_kept = cut_kept;
    meanwhile = λ keeps start image left. elim ((remains.meanwhile keeps).each start image left) [
      | inl before ↦ inl before
      | inr now ↦ inr now
    ];
    stored = record {
      header = first_page;
      size = long;
      pages = record {
        fields = refl;
        pages = λ n. ap (λ (o : _). page_or_stored p.committed_fields.pages o (d.seen disk) n) (none n);
      };
    };
  }
