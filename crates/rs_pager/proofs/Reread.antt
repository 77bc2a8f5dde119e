-- What stays as the disk is read and nothing of it is held.
use Rattle.std.proofs.Common.{◌≡◌, ◌≤◌, ◌+◌, ◌*◌, IsTrue, refl, sym, ap, subst, arith}
use Rattle.rs_disk.specs.Content.{Content}
use Rattle.rs_disk.specs.Crash.{Same}
use Rattle.rs_disk.specs.Reaches.{Reaches}
use Rattle.rs_disk.specs.declared.disk.Disk as disk
use Rattle.rs_page.specs.declared.page.TheConstants.{PAGE_SIZE}
use Rattle.rs_pages.specs.Held.{held_change}
use Rattle.rs_page_cache.specs.Clean.{AreClean}
use Rattle.rs_page_cache.specs.Stored.{disk_page}
use Rattle.rs_pager.specs.Maps.{page_or_stored, KeepsBelow, KeepsMaps, IsTied}
use Rattle.rs_pager.specs.Paged.{Paged, IsSound, held}
use Rattle.rs_pager.specs.SecondHeader.{IsSecondHeader}
use Rattle.rs_pager.proofs.Keeping.{with_clean, kept-read}

module _ {D : Type 0} (d : disk.Ghosts D) (p : Paged D) (disk : D) (reaches : Reaches d Same p.disk disk) where
  reread-tied : IsTied d p → IsTied d (with_clean p disk p.clean)
  reread-tied tied =
      let same : d.seen disk ≡ d.seen p.disk = reaches.reads tied.honest in
      record {
        honest = subst IsTrue (sym reaches.honesty) tied.honest;
        clean = subst (λ (content : Content). AreClean content p.clean) (sym same) tied.clean;
        after_header = tied.after_header;
        first = subst (λ (content : Content). PAGE_SIZE ≤ content.size) (sym same) tied.first;
        inside = λ n pos lt none. subst (λ (content : Content). PAGE_SIZE * n + PAGE_SIZE ≤ content.size) (sym same) (tied.inside n pos lt none);
        header = λ lacks. subst (λ (content : Content). IsSecondHeader (disk_page content 0) p.committed_fields) (sym same) (tied.header lacks);
        kept = tied.kept;
        is_kept = kept-read d p disk p.clean reaches tied.kept tied.is_kept;
      }

  pub reread-below : KeepsBelow d p (with_clean p disk p.clean)
  reread-below = record {
    tied = reread-tied;
    committed = λ tied. record {
      fields = refl;
      pages = λ n. ap (λ (content : Content). page_or_stored p.committed_fields.pages (held p n).committed content n) (reaches.reads tied.honest);
    };
    committed_fields = refl;
    changed = λ n. refl;
    lacks = refl;
    honesty = reaches.honesty;
    keeping = reaches.keeping;
    under_way = refl;
    kept = λ pages _ is. kept-read d p disk p.clean reaches pages is;
    unwritten = reaches.reads;
    crash = reaches.images;
  }

  pub reread-maps : IsSound p.limit p.changes p.committed_fields p.working p.is_begun p.under_way.stage → KeepsMaps d p (with_clean p disk p.clean)
  reread-maps sound = record {
    tied = reread-tied;
    committed = λ tied. record {
      fields = refl;
      pages = λ n. ap (λ (content : Content). page_or_stored p.committed_fields.pages (held p n).committed content n) (reaches.reads tied.honest);
    };
    working = λ tied. record {
      fields = refl;
      pages = λ n. ap (λ (content : Content). page_or_stored p.working.pages (held_change (held p n)) content n) (reaches.reads tied.honest);
    };
    committed_fields = refl;
    working_fields = refl;
    honesty = reaches.honesty;
    limit = refl;
    full = refl;
    least = sound.directory;
    within = omega (arith, sound.kept_room, sound.within);
  }
