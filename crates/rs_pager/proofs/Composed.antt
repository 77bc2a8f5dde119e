-- A checkpoint as a whole: its pages are listed, it is taken through its stages, and the file is cut.
use Rattle.std.proofs.Common.{◌≡◌, ◌≢◌, inl, inr, ◌≤◌, ◌-◌, ◌+◌, ◌*◌, ℕ, false, Option, Some, None, IsSome, IsTrue, List, [], Result, Ok, Err, OnOk, refl, sym, ap, ◌∙◌, subst, arith}
use Rattle.std.specs.Prelude.{MatchResult}
use Rattle.std.proofs.lemmas.Bool.{cases_lt}
use Rattle.rs_disk.specs.declared.disk.Disk as disk
use Rattle.rs_page.specs.declared.page.TheConstants.{PAGE_SIZE}
use Rattle.rs_pages.proofs.Stores.{SamePages-trans}
use Rattle.rs_page_cache.specs.Changes.{Changes, held_at}
use Rattle.rs_journal.specs.FilePages.{FilePages, HasPages}
use Rattle.rs_journal.specs.declared.stage.Stage.{Stage}
use Rattle.rs_journal.specs.declared.stage.Stage.TheVariants.{Fresh}
use Rattle.rs_journal.proofs.Staging.{quiet-gives}
use Rattle.rs_page_copies.specs.Listed.{Checkpoint}
use Rattle.rs_pager.specs.Lasts.{Carried, Checkpoints, Cuts, KeepsMap, stopped_pager, written_pager}
use Rattle.rs_pager.specs.Maps.{page_or_stored, committed, ArePages, CarriesOn, HoldsNoChange, IsKept, IsTied, KeepsMaps}
use Rattle.rs_pager.specs.Paged.{Paged, IsSound, held}
use Rattle.rs_pager.specs.Stored.{Stores, content_of_pages}
use Rattle.rs_pager.proofs.Checkpoints.{stored-inside}
use Rattle.rs_pager.proofs.DiskBytes.{disk_page-same}
use Rattle.rs_pager.proofs.Headers.{kept-header}
use Rattle.rs_pager.proofs.Keeping.{ArePages-same}

-- the clean pages are dropped, and the list of pages is another
abbrev pub readied : {D : Type 0} → Paged D → Checkpoint → Paged D
readied p under_way = record p { clean = []; under_way = under_way }

module _ {D : Type 0} (d : disk.Ghosts D) (p : Paged D) (under_way : Checkpoint) (same : under_way.stage ≡ p.under_way.stage)
    (resumed : p.under_way.stage ≢ Fresh → under_way ≡ p.under_way) where
  -- what was kept last is kept while pages are listed
  pub readied_kept : (pages : FilePages) → IsKept d p pages → IsKept d (readied p under_way) pages
  readied_kept pages is = record {
    says = is.says;
    before = is.before;
    filled = is.filled;
    quiet = λ fresh. is.quiet (sym same ∙ fresh);
    under_way = λ ne.
        let was : p.under_way.stage ≢ Fresh = λ fresh. ne (same ∙ fresh) in
        let on = is.under_way was in
        subst (λ (u : Checkpoint). CarriesOn d (readied p u) pages) (sym (resumed was))
        (record { checkpoint = on.checkpoint; lists = on.lists; makes = on.makes; are = on.are; every = on.every });
  }

  pub readied_tied : IsTied d p → IsTied d (readied p under_way)
  readied_tied tied = record {
    honest = tied.honest;
    clean = record { each = λ n page there. absurd (omega (arith, there.1)) };
    after_header = record { each = λ n page there. absurd (omega (arith, there.1)) };
    first = tied.first;
    inside = tied.inside;
    header = tied.header;
    kept = tied.kept;
    is_kept = readied_kept tied.kept tied.is_kept;
  }

-- ---- the disk lacks nothing

module _ {D : Type 0} (d : disk.Ghosts D) (p : Paged D) (sound : IsSound p.limit p.changes p.committed_fields p.working p.is_begun p.under_way.stage)
    (fresh : p.under_way.stage ≡ Fresh) (none : p.changes ≡ []) (lacks : p.is_header_changed ≡ false) where
  nothing : (n : ℕ) → (held p n).committed ≡ None
  nothing n = ap (λ (changes : Changes). (held_at changes n).committed) none

  lacking_stored : IsTied d p → Stores (d.seen p.disk) (committed d p)
  lacking_stored tied = record {
    header = tied.header lacks;
    size =
        let last : PAGE_SIZE * (p.committed_fields.pages - 1) + PAGE_SIZE ≤ (d.seen p.disk).size =
        tied.inside (p.committed_fields.pages - 1) (omega (arith, sound.directory)) (omega (arith, sound.directory)) (nothing (p.committed_fields.pages - 1)) in
        omega (arith, last, sound.directory);
    pages = record {
      fields = refl;
      pages = λ n. ap (λ (o : Option (List ℕ)). page_or_stored p.committed_fields.pages o (d.seen p.disk) n) (nothing n);
    };
  }

  none_some : (o : Option (List ℕ)) → o ≡ None → IsSome o → ⊥
  none_some None is some = cc
  none_some (Some page) is some = cc

  all_kept : (pages : FilePages) → IsKept d p pages → pages.count ≡ p.committed_fields.pages
  all_kept pages is = elim (cases_lt pages.count p.committed_fields.pages) [
    | inl more ↦ absurd (none_some (held p pages.count).committed (nothing pages.count) (is.filled pages.count (omega arith) more))
    | inr no_more ↦ omega (arith, is.before, no_more)
  ]

  pub lacking_are : IsTied d p → (pages : FilePages) → IsKept d p pages → ArePages (committed d p) pages
  lacking_are tied pages is =
      let count = all_kept pages is in
      let there : HasPages pages (d.seen p.disk) = (is.quiet fresh).reads.pages_there in
      record {
        says = is.says;
        counts = count;
        stores = record {
          header = kept-header (d.seen p.disk) (content_of_pages pages) p.committed_fields
              (λ k lt own. sym (there.bytes k (omega (arith, lt, is.says.some)) own)) (tied.header lacks);
          size = omega (arith, count);
          pages = record {
            fields = refl;
            pages = λ n. ap (λ (o : Option (List ℕ)). page_or_stored p.committed_fields.pages o (d.seen p.disk) n) (nothing n)
                ∙ stored-inside p.committed_fields.pages n None (d.seen p.disk) (content_of_pages pages)
                (λ pos lt _. disk_page-same (d.seen p.disk) (content_of_pages pages) n (λ i lo hi. there.bytes i (omega (arith, count, lt)) (inr (omega arith))));
          };
        };
      }

KeepsMaps-refl : {D : Type 0} (d : disk.Ghosts D) (p : Paged D) → IsSound p.limit p.changes p.committed_fields p.working p.is_begun p.under_way.stage → KeepsMaps d p p
KeepsMaps-refl d p sound = record {
  tied = λ tied. tied;
  committed = λ _. record { fields = refl; pages = λ n. refl };
  working = λ _. record { fields = refl; pages = λ n. refl };
  committed_fields = refl;
  working_fields = refl;
  honesty = refl;
  limit = refl;
  full = refl;
  least = sound.directory;
  within = omega (arith, sound.kept_room, sound.within);
}

on_ok : {T E : Type 0} (result : Result T E) (P : Type 0) → P → OnOk result P
on_ok (Ok t) P so = so
on_ok (Err e) P so = tt

pub lacking_checkpoints : {D : Type 0} (d : disk.Ghosts D) {T E : Type 0} (result : Result T E) (p : Paged D)
    → IsSound p.limit p.changes p.committed_fields p.working p.is_begun p.under_way.stage → p.under_way.stage ≡ Fresh → p.changes ≡ [] → p.is_header_changed ≡ false
    → Checkpoints d result p p
lacking_checkpoints d result p sound fresh none lacks = record {
  keeps = KeepsMaps-refl d p sound;
  lasts = record { meanwhile = λ kept _ _ _ start image left. inl left; next = λ kept _ is. inl is; keeping = refl };
  written = λ tied. on_ok result _ (lacking_stored d p sound fresh none lacks tied);
  kept = λ pages tied is. on_ok result _ (record { pages = pages; is_kept = is; are = lacking_are d p sound fresh none lacks tied pages is });
}

on_err : {T E : Type 0} (result : Result T E) (why : E) (P : Type 0) → result ≡ Err why → OnOk result P
on_err (Ok t) why P is = cc
on_err (Err e) why P is = tt

next_err : {T E : Type 0} (result : Result T E) (why : E) (P Q : Type 0) → result ≡ Err why → MatchResult result (λ _. P) (λ _. Q) → Q
next_err (Ok t) why P Q is next = cc
next_err (Err e) why P Q is next = next

abbrev pub as_paged : {D : Type 0} → Paged D → Paged D
as_paged p = p

-- what is said of one refusal is said of another
pub carried_err : {D : Type 0} (d : disk.Ghosts D) {T E T' E' : Type 0} (pages : FilePages) (one : Result T E) (why : E) (other : Result T' E') (reason : E') (old new : Paged D)
    → one ≡ Err why → other ≡ Err reason → Carried d pages one old new → Carried d pages other old new
carried_err d pages (Ok x) why other reason old new is also carried = cc
carried_err d pages (Err x) why (Ok y) reason old new is also carried = cc
carried_err d pages (Err x) why (Err y) reason old new is also carried = record {
  tied = carried.tied;
  committed = carried.committed;
  working = carried.working;
  next = carried.next;
  meanwhile = carried.meanwhile;
  stored = tt;
}

-- ---- the steps together

module _ {D : Type 0} (d : disk.Ghosts D) {T E : Type 0} (result : Result T E) (p : Paged D)
    (sound : IsSound p.limit p.changes p.committed_fields p.working p.is_begun p.under_way.stage) (under_way : Checkpoint)
    (same : under_way.stage ≡ p.under_way.stage) (resumed : p.under_way.stage ≢ Fresh → under_way ≡ p.under_way) where
  within : p.committed_fields.pages ≤ p.limit
  within = omega (arith, sound.kept_room, sound.within)

  -- no pages could be listed
  pub unready_checkpoints : (why : E) → result ≡ Err why → Checkpoints d result p (readied p under_way)
  unready_checkpoints why is = record {
    keeps = record {
      tied = readied_tied d p under_way same resumed;
      committed = λ _. record { fields = refl; pages = λ n. refl };
      working = λ _. record { fields = refl; pages = λ n. refl };
      committed_fields = refl;
      working_fields = refl;
      honesty = refl;
      limit = refl;
      full = refl;
      least = sound.directory;
      within = within;
    };
    lasts = record {
      meanwhile = λ kept _ _ _ start image left. inl left;
      next = λ kept _ was. inl (readied_kept d p under_way same resumed kept was);
      keeping = refl;
    };
    written = λ _. on_err result why _ is;
    kept = λ _ _ _. on_err result why _ is;
  }

  module _ (carries : (pages : FilePages) → IsTied d p → IsKept d p pages → CarriesOn d (readied p under_way) pages) where
    -- a stage was not passed
    pub stopped_checkpoints : (why : E) → result ≡ Err why → (disk : D) (stage : Stage) → d.is_honest disk ≡ d.is_honest p.disk → d.keeps_crashes disk ≡ d.keeps_crashes p.disk
        → ((pages : FilePages) → IsKept d (readied p under_way) pages → CarriesOn d (readied p under_way) pages
        → Carried d pages result (readied p under_way) (stopped_pager disk stage (readied p under_way)))
        → Checkpoints d result p (stopped_pager disk stage (readied p under_way))
    stopped_checkpoints why is disk stage honesty keeping carried =
        let whole = λ (pages : FilePages) (tied : IsTied d p) (was : IsKept d p pages). carried pages (readied_kept d p under_way same resumed pages was) (carries pages tied was) in
        record {
          keeps = record {
            tied = λ tied. (whole tied.kept tied tied.is_kept).tied;
            committed = λ tied. (whole tied.kept tied tied.is_kept).committed;
            working = λ tied. (whole tied.kept tied tied.is_kept).working;
            committed_fields = refl;
            working_fields = refl;
            honesty = honesty;
            limit = refl;
            full = refl;
            least = sound.directory;
            within = within;
          };
          lasts = record {
            meanwhile = λ kept tied was. (whole kept tied was).meanwhile;
            next = λ kept tied was. inl (next_err result why _ _ is (whole kept tied was).next);
            keeping = keeping;
          };
          written = λ _. on_err result why _ is;
          kept = λ _ _ _. on_err result why _ is;
        }

    -- all stages were passed, and the file was cut or not
    module _ (value : T) (disk : D) (after : Checkpoint) (honesty : d.is_honest disk ≡ d.is_honest p.disk) (keeping : d.keeps_crashes disk ≡ d.keeps_crashes p.disk)
        (fresh : after.stage ≡ Fresh)
        (carried : (pages : FilePages) → IsKept d (readied p under_way) pages → CarriesOn d (readied p under_way) pages
        → Carried d {T = T} {E = E} pages (Ok value) (readied p under_way) (written_pager disk after (readied p under_way)))
        (last : D) (cut_honesty : d.is_honest last ≡ d.is_honest disk) (cut_keeping : d.keeps_crashes last ≡ d.keeps_crashes disk)
        (cuts : (pages : FilePages) → IsTied d (written_pager disk after (readied p under_way)) → after.stage ≡ Fresh
        → IsKept d (written_pager disk after (readied p under_way)) pages → ArePages (committed d (written_pager disk after (readied p under_way))) pages
        → HoldsNoChange (written_pager disk after (readied p under_way))
        → Cuts d pages (written_pager disk after (readied p under_way)) (record (written_pager disk after (readied p under_way)) { disk = last; clean = [] })) where
      abbrev mid : Paged D
      mid = readied p under_way

      abbrev end : Paged D
      end = written_pager disk after mid

      abbrev new : Paged D
      new = record end { disk = last; clean = [] }

      whole : (pages : FilePages) → IsTied d p → IsKept d p pages → Carried d {T = T} {E = E} pages (Ok value) mid end
      whole pages tied was = carried pages (readied_kept d p under_way same resumed pages was) (carries pages tied was)

      cut_whole : (pages : FilePages) (tied : IsTied d p) (was : IsKept d p pages) → Cuts d (whole pages tied was).next.pages end new
      cut_whole pages tied was =
          let it = whole pages tied was in
          cuts it.next.pages it.tied fresh it.next.is_kept (ArePages-same (committed d mid) (committed d end) it.next.pages it.committed it.next.are)
          (record { none = λ n. refl; lacks = refl })

      kept_map : (pages : FilePages) (tied : IsTied d p) (was : IsKept d p pages) → KeepsMap d new (committed d p)
      kept_map pages tied was = record {
        pages = (whole pages tied was).next.pages;
        is_kept = (cut_whole pages tied was).is_kept;
        are = (whole pages tied was).next.are;
      }

      pub cut_checkpoints : Checkpoints d result p new
      cut_checkpoints = record {
        keeps = record {
          tied = λ tied. (cut_whole tied.kept tied tied.is_kept).tied;
          committed = λ tied. SamePages-trans _ _ _ (cut_whole tied.kept tied tied.is_kept).committed (whole tied.kept tied tied.is_kept).committed;
          working = λ tied. SamePages-trans _ _ _ (cut_whole tied.kept tied tied.is_kept).working (whole tied.kept tied tied.is_kept).working;
          committed_fields = refl;
          working_fields = refl;
          honesty = cut_honesty ∙ honesty;
          limit = refl;
          full = refl;
          least = sound.directory;
          within = within;
        };
        lasts = record {
          meanwhile = λ kept tied was keeps start image left. elim ((cut_whole kept tied was).meanwhile (subst IsTrue (sym keeping) keeps) start image left) [
            | inl before ↦ (whole kept tied was).meanwhile keeps start image before
            | inr now ↦ inr (inr (record { pages = (whole kept tied was).next.pages; recovers = quiet-gives (whole kept tied was).next.pages image now; are = (whole kept tied was).next.are }))
          ];
          next = λ kept tied was. inr (kept_map kept tied was);
          keeping = cut_keeping ∙ keeping;
        };
        written = λ tied. on_ok result _ (cut_whole tied.kept tied tied.is_kept).stored;
        kept = λ pages tied was. on_ok result _ (kept_map pages tied was);
      }
