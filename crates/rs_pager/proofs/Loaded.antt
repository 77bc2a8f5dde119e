-- A working page is held: what stays as clean pages are read.
use Rattle.std.proofs.Common.{◌≡◌, ◌<◌, ◌≤◌, ◌+◌, ◌*◌, inl, inr, ℕ, IsTrue, Result, Ok, Err, refl, sym, ap, ◌∙◌, subst, arith}
use Rattle.std.specs.Prelude.{IsOkUnless}
use Rattle.rs_disk.specs.Content.{Content}
use Rattle.rs_disk.specs.Counts.{Counts}
use Rattle.rs_disk.specs.Crash.{Same, Passes}
use Rattle.rs_disk.specs.declared.disk.Disk as disk
use Rattle.rs_page.specs.declared.page.TheConstants.{PAGE_SIZE}
use Rattle.rs_refusal.specs.declared.refusal.Refusal.{Refusal}
use Rattle.rs_refusal.specs.declared.refusal.Refusal.TheVariants as refusal
use Rattle.rs_pager.specs.SecondHeader.{IsSecondHeader}
use Rattle.rs_pages.specs.Held.{held_change}
use Rattle.rs_pages.specs.Store.{Rests}
use Rattle.rs_pages.specs.Lending.{RestsAfter}
use Rattle.rs_page_cache.specs.Clean.{Clean, Loads}
use Rattle.rs_page_cache.specs.Stored.{disk_page}
use Rattle.rs_disk.specs.Reaches.{Reaches}
use Rattle.rs_pager.specs.Paged.{Paged, held}
use Rattle.rs_pager.proofs.Keeping.{with_clean, kept-read}
use Rattle.rs_pager.specs.Maps.{page_or_stored, pager_store, KeepsBelow, IsTied}

-- the clean page with this number may have been read
pub record ReadsClean {D : Type 0} (d : disk.Ghosts D) (n : ℕ) (old : Paged D) (disk : D) (clean : Clean) : Type 0 where
  pub honesty : d.is_honest disk ≡ d.is_honest old.disk
  pub keeping : d.keeps_crashes disk ≡ d.keeps_crashes old.disk
  pub same : IsTrue (d.is_honest old.disk) → d.seen disk ≡ d.seen old.disk
  pub crash : IsTrue (d.keeps_crashes old.disk) → Passes d.may_leave d.left_since Same old.disk disk
  pub loads : IsTrue (d.is_honest old.disk) → Loads n (λ page. page ≡ disk_page (d.seen old.disk) n) old.clean clean

module _ {D : Type 0} (d : disk.Ghosts D) (n : ℕ) (old : Paged D) (disk : D) (clean : Clean) (pos : 0 < n) (reads : ReadsClean d n old disk clean) where
  clean-reaches : Reaches d Same old.disk disk
  clean-reaches = record { honesty = reads.honesty; keeping = reads.keeping; reads = reads.same; images = reads.crash }

  clean-tied : IsTied d old → IsTied d (with_clean old disk clean)
  clean-tied tied =
      let seen : d.seen disk ≡ d.seen old.disk = reads.same tied.honest in
      let loads = reads.loads tied.honest in
      record {
        honest = subst IsTrue (sym reads.honesty) tied.honest;
        clean = record {
          each = λ m page there. elim (loads.each m page there) [
            | inl was ↦ tied.clean.each m page was ∙ ap (λ (content : Content). disk_page content m) (sym seen)
            | inr read ↦ subst (λ i. page ≡ disk_page (d.seen disk) i) (sym read.0) (read.1 ∙ ap (λ (content : Content). disk_page content n) (sym seen))
          ];
        };
        after_header = record {
          each = λ m page there. elim (loads.each m page there) [
            | inl was ↦ tied.after_header.each m page was
            | inr read ↦ subst (λ i. 0 < i) (sym read.0) pos
          ];
        };
        first = subst (λ (content : Content). PAGE_SIZE ≤ content.size) (sym seen) tied.first;
        inside = λ m after below none. subst (λ (content : Content). PAGE_SIZE * m + PAGE_SIZE ≤ content.size) (sym seen) (tied.inside m after below none);
        header = λ same. subst (λ (content : Content). IsSecondHeader (disk_page content 0) old.committed_fields) (sym seen) (tied.header same);
        kept = tied.kept;
        is_kept = kept-read d old disk clean clean-reaches tied.kept tied.is_kept;
      }

  pub clean-below : KeepsBelow d old (with_clean old disk clean)
  clean-below = record {
    tied = clean-tied;
    committed = λ tied. record {
      fields = refl;
      pages = λ m. ap (λ (content : Content). page_or_stored old.committed_fields.pages (held old m).committed content m) (reads.same tied.honest);
    };
    committed_fields = refl;
    changed = λ m. refl;
    lacks = refl;
    honesty = reads.honesty;
    keeping = reads.keeping;
    under_way = refl;
    kept = λ pages _ is. kept-read d old disk clean clean-reaches pages is;
    unwritten = reads.same;
    crash = reads.crash;
  }

  clean-rests : Rests (IsTied d old) (pager_store d old) (pager_store d (with_clean old disk clean))
  clean-rests = record {
    keeps = record {
      pages = λ tied. record {
        fields = refl;
        pages = λ m. ap (λ (content : Content). page_or_stored old.working.pages (held_change (held old m)) content m) (reads.same tied.honest);
      };
      fields = refl;
      held = λ m. refl;
    };
    counts = record { limit = refl; begun = refl; full_refusals = omega arith };
    full = refl;
  }

  pub clean-rests_after : (r : Result (Unit {0}) Refusal) → IsOkUnless r refusal.Disk → Counts r (d.failures old.disk) (d.failures disk)
      → RestsAfter (IsTied d) (pager_store d) (KeepsBelow d) r old (with_clean old disk clean)
  clean-rests_after (Ok x) is count = record { rests = clean-rests; below = clean-below; count = count }
  clean-rests_after (Err why) is count = record {
    rests = clean-rests;
    below = clean-below;
    count = record { disk = λ _. count; other = λ ne. absurd (ne is) };
  }
