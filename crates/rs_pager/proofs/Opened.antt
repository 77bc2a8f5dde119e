-- What a disk is read as, and what the pager is that is made over it.
use Rattle.std.proofs.Common.{◌≡◌, inl, inr, ◌≤◌, ◌+◌, ◌-◌, ◌*◌, ◌/◌, ◌^◌, ℕ, min, Result, Ok, Err, OnOk, is_err, Option, Some, None, List, [], length, ap, sym, ◌∙◌, subst, true, false, refl, arith}
use Rattle.std.specs.Prelude.{IfSome, IfNone, if◌then◌else◌}
use Rattle.rs_disk.specs.Content.{Content, Gives, Holds, KeepsOthers, CutsTo}
use Rattle.rs_disk.specs.declared.disk.Disk as disk
use Rattle.rs_page.specs.Number.{number_at}
use Rattle.rs_page.specs.declared.page.TheConstants.{PAGE_SIZE}
use Rattle.rs_page.specs.PageBytes.{IsBlank}
use Rattle.rs_page.specs.declared.header.PageKind.TheVariants.{Directory}
use Rattle.rs_page.specs.declared.file_header.FileHeader.{FileHeader}
use Rattle.rs_page.proofs.Numbers.{byte_at}
use Rattle.rs_pages.specs.PageMap.{empty_fields, is_page}
use Rattle.rs_pages.specs.declared.pages.TheConstants.{GREATEST_LIMIT}
use Rattle.rs_page_cache.specs.Changes.{Changes, held_at}
use Rattle.rs_page_cache.specs.Clean.{Clean, AreClean, AreAfterHeader}
use Rattle.rs_page_cache.specs.Stored.{disk_page}
use Rattle.rs_page_cache.proofs.DiskPages.{read-page}
use Rattle.rs_journal.specs.FilePages.{FilePages}
use Rattle.rs_journal.specs.Journal.{Recovers}
use Rattle.rs_journal.specs.Recovery.{SaysCount}
use Rattle.rs_journal.specs.Stages.{EveryImage, IsQuiet}
use Rattle.rs_pager.specs.Lasts.{KeepsMap}
use Rattle.rs_pager.specs.Maps.{page_or_stored, committed, ArePages, IsKept, IsTied}
use Rattle.rs_pager.specs.Opened.{HasEmptyFile, IsCreated, IsFresh, IsOpened}
use Rattle.rs_pager.specs.Opening.{FitsFirst, FitsSecond, HasFirst, RecoversFields, pages_of}
use Rattle.rs_pager.specs.Paged.{Paged, held}
use Rattle.rs_pager.specs.SecondHeader.{IsSecondHeader}
use Rattle.rs_pager.specs.Stored.{stored_map}
use Rattle.rs_pager.proofs.DiskBytes.{held-page, other_page-kept}
use Rattle.rs_pager.proofs.Versions.{first-count, first-no_second, has-own, says-by, stored-own}

-- page 0 as it was read
pub first-page : (content : Content) (page : List ℕ) → length page ≡ 4096 → Gives content 0 page → page ≡ disk_page content 0
first-page content page size gives = read-page content 0 4096 0 page refl size refl gives

-- a disk that tells so many pages is long enough for them
pub long_enough : (pages size told : ℕ) → told ≡ min (size / PAGE_SIZE) (2 ^ 32 - 1) → pages ≤ told → PAGE_SIZE * pages ≤ size
long_enough pages size told is short = omega arith

-- and one that is long enough tells as many
pub tells_all : (pages limit size told : ℕ) → pages ≤ limit → limit ≤ GREATEST_LIMIT → PAGE_SIZE * pages ≤ size
    → told ≡ min (size / PAGE_SIZE) (2 ^ 32 - 1) → pages ≤ told
tells_all pages limit size told within limited long is = omega arith

-- what is said of a call that succeeded
pub of-ok : {T E P : Type 0} (result : Result T E) → is_err result ≡ false → OnOk result P → P
of-ok (Ok value) done so = so
of-ok (Err why) done so = cc

pub of-some : {T : Type 0} (P : T → Type 0) (found : Option T) (value : T) → found ≡ Some value → IfSome found P → P value
of-some P found value is so = let is' : IfSome (Some value) P = subst (λ (found : Option _). IfSome found P) is so in is'

pub of-none : {T : Type 0} (P : Type 0) (found : Option T) → found ≡ None → IfNone found P → P
of-none {T} P found is so = let is' : IfNone {T = T} None P = subst (λ (found : Option T). IfNone found P) is so in is'

pub on_ok : {T E : Type 0} (result : Result T E) (P : Type 0) → P → OnOk result P
on_ok (Ok value) P so = so
on_ok (Err why) P so = tt

-- a cut to no page, where it succeeded, leaves nothing
pub cut-empty : {T E : Type 0} (result : Result T E) (old new : Content) → is_err result ≡ false → CutsTo result 0 old new → new.size ≡ 0
cut-empty (Ok t) old new e cuts = omega (arith, cuts.size)
cut-empty (Err x) old new e cuts = cc

-- ---- the pager over a disk that has all its pages

no_clean : (clean : Clean) (content : Content) → clean ≡ [] → AreClean content clean
no_clean clean content none = subst (λ (c : Clean). AreClean content c) (sym none) (record { each = λ n page there. absurd (omega (arith, there.1)) })

no_after : (clean : Clean) → clean ≡ [] → AreAfterHeader clean
no_after clean none = subst (λ (c : Clean). AreAfterHeader c) (sym none) (record { each = λ n page there. absurd (omega (arith, there.1)) })

module _ {D : Type 0} (d : disk.Ghosts D) (limit : ℕ) (p : Paged D) (fresh : IsFresh limit p) where
  abbrev own : FilePages
  own = pages_of (d.seen p.disk) p.committed_fields.pages

  none_held : (n : ℕ) → (held p n).committed ≡ None
  none_held n = ap (λ (changes : Changes). (held_at changes n).committed) fresh.no_held

  committed_page : (n : ℕ) → (committed d p).page n ≡ (stored_map (d.seen p.disk) p.committed_fields).page n
  committed_page n = ap (λ (o : Option (List ℕ)). page_or_stored p.committed_fields.pages o (d.seen p.disk) n) (none_held n)

  module _ (every : EveryImage d (IsQuiet own) p.disk) (says : SaysCount own) where
    made_kept : IsKept d p own
    made_kept = record {
      says = says;
      before = omega arith;
      filled = λ number from to. absurd (omega (arith, from, to));
      quiet = λ _. every;
      under_way = λ ne. absurd (ne fresh.fresh);
    }

    made_tied : (p.is_header_changed ≡ false → IsSecondHeader (disk_page (d.seen p.disk) 0) p.committed_fields) → IsTied d p
    made_tied header = record {
      honest = every.honest;
      clean = no_clean p.clean (d.seen p.disk) fresh.no_clean;
      after_header = no_after p.clean fresh.no_clean;
      first = omega (arith, every.reads.pages_there.size, fresh.least);
      inside = λ n pos lt _. omega (arith, every.reads.pages_there.size, lt);
      header = header;
      kept = own;
      is_kept = made_kept;
    }

    made_are : IsSecondHeader (disk_page (d.seen p.disk) 0) p.committed_fields → ArePages (committed d p) own
    made_are header = record {
      says = says;
      counts = refl;
      stores = record {
        header = subst (λ (page : List ℕ). IsSecondHeader page p.committed_fields) (stored-own (d.seen p.disk) p.committed_fields.pages 0) header;
        size = omega arith;
        pages = record {
          fields = refl;
          pages = λ n. committed_page n
              ∙ ap (λ (page : List ℕ). if is_page p.committed_fields.pages n then Some page else None) (stored-own (d.seen p.disk) p.committed_fields.pages n);
        };
      };
    }

    made_map : IsSecondHeader (disk_page (d.seen p.disk) 0) p.committed_fields → KeepsMap d p (committed d p)
    made_map header = record { pages = own; is_kept = made_kept; are = made_are header }

-- over a file of version 1, which was only read
pub first-opened : {D : Type 0} (d : disk.Ghosts D) (limit : ℕ) (p : Paged D) (content : Content) (fields : FileHeader) → IsFresh limit p
    → p.committed_fields ≡ fields → p.is_header_changed ≡ true → FitsFirst limit content fields → d.seen p.disk ≡ content
    → EveryImage d (IsQuiet (pages_of content fields.pages)) p.disk → IsOpened d content p
first-opened d limit p content fields fresh is lacks fits same every =
    let fits' : FitsFirst limit (d.seen p.disk) p.committed_fields =
    subst (λ (c : Content). FitsFirst limit c p.committed_fields) (sym same) (subst (λ (f : FileHeader). FitsFirst limit content f) (sym is) fits) in
    let every' : EveryImage d (IsQuiet (pages_of (d.seen p.disk) p.committed_fields.pages)) p.disk =
    subst (λ (c : Content). EveryImage d (IsQuiet (pages_of c p.committed_fields.pages)) p.disk) (sym same)
    (subst (λ (f : FileHeader). EveryImage d (IsQuiet (pages_of content f.pages)) p.disk) (sym is) every) in
    subst (λ (c : Content). IsOpened d c p) same (record {
      stores = inr (record {
        header = fits'.header;
        size = fits'.room;
        pages = record { fields = refl; pages = committed_page d limit p fresh };
      });
      tied = made_tied d limit p fresh every'
          (record { says = first-count (d.seen p.disk) p.committed_fields (omega (arith, fits'.room, fits'.least)) fits'.header; some = omega (arith, fits'.least) })
          (λ shut. cc);
      second = λ gives. absurd (first-no_second (d.seen p.disk) p.committed_fields (committed d p) fits'.header gives);
      first = λ _. lacks;
    })

-- over a file of version 2, which was recovered
pub second-opened : {D : Type 0} (d : disk.Ghosts D) (limit : ℕ) (p : Paged D) (old : D) (content : Content) (fields : FileHeader) → IsFresh limit p
    → p.committed_fields ≡ fields → p.is_header_changed ≡ false → RecoversFields d limit old p.disk fields → d.seen old ≡ content → (HasFirst content → ⊥)
    → IsOpened d content p
second-opened d limit p old content fields fresh is lacks made same none =
    let made' = subst (λ (f : FileHeader). RecoversFields d limit old p.disk f) (sym is) made in
    let says = says-by limit (d.seen p.disk) p.committed_fields made'.fits in
    record {
      stores = inl (record {
        pages = pages_of (d.seen p.disk) p.committed_fields.pages;
        recovers = subst (λ (c : Content). Recovers c (pages_of (d.seen p.disk) p.committed_fields.pages)) same made'.gave;
        are = made_are d limit p fresh made'.quiet says made'.fits.header;
      });
      tied = made_tied d limit p fresh made'.quiet says (λ _. made'.fits.header);
      second = λ _. (lacks, made_map d limit p fresh made'.quiet says made'.fits.header);
      first = λ stores. absurd (none (record { fields = p.committed_fields; header = stores.header }));
    }

-- ---- an empty file

-- its pages are written where there was nothing
pub empty-written : (a b c : Content) (page first : List ℕ) → a.size ≡ 0 → IsBlank page Directory 1 0 → length page ≡ PAGE_SIZE → length first ≡ PAGE_SIZE
    → IsSecondHeader first empty_fields → ((k : ℕ) → 64 ≤ k → number_at k 1 first ≡ 0)
    → Holds b (PAGE_SIZE * 1) page → KeepsOthers (PAGE_SIZE * 1) PAGE_SIZE a b → Holds c (PAGE_SIZE * 0) first → KeepsOthers (PAGE_SIZE * 0) PAGE_SIZE b c → HasEmptyFile c
empty-written a b c page first nothing blank size long header zeros has wrote put kept =
    let zero : disk_page c 0 ≡ first = held-page c 0 (PAGE_SIZE * 0) first refl long put in
    let one : disk_page c 1 ≡ page = other_page-kept b c 0 (PAGE_SIZE * 0) PAGE_SIZE 1 refl (omega arith) kept (λ e. omega (arith, e)) ∙ held-page b 1 (PAGE_SIZE * 1) page refl size has in
    record {
      header = subst (λ (p : List ℕ). IsSecondHeader p empty_fields) (sym zero) header;
      directory = subst (λ (p : List ℕ). IsBlank p Directory 1 0) (sym one) blank;
      size =
          let reach : PAGE_SIZE * 1 + length page ≤ b.size = has.reaches (omega (arith, size)) in
          omega (arith, nothing, reach, size, wrote.no_longer, kept.no_shorter, kept.no_longer);
      shut = put.each 64 (omega (arith, long)) ∙ sym (byte_at 64 first) ∙ zeros 64 (omega arith);
    }

-- the pager over it
pub created : {D : Type 0} (d : disk.Ghosts D) (limit : ℕ) (p : Paged D) → IsFresh limit p → p.committed_fields ≡ empty_fields → HasEmptyFile (d.seen p.disk)
    → EveryImage d (λ content. content ≡ d.seen p.disk) p.disk → IsCreated d p
created d limit p fresh is empty every =
    let header : IsSecondHeader (disk_page (d.seen p.disk) 0) p.committed_fields = subst (λ (f : FileHeader). IsSecondHeader (disk_page (d.seen p.disk) 0) f) (sym is) empty.header in
    let two : p.committed_fields.pages ≡ 2 = ap (λ (f : FileHeader). f.pages) is in
    let room : PAGE_SIZE * p.committed_fields.pages ≤ (d.seen p.disk).size = omega (arith, two, empty.size) in
    let fits : FitsSecond limit (d.seen p.disk) p.committed_fields = record { header = header; least = fresh.least; within = fresh.greatest; room = room } in
    let says = says-by limit (d.seen p.disk) p.committed_fields fits in
    let quiet : IsQuiet (pages_of (d.seen p.disk) p.committed_fields.pages) (d.seen p.disk) =
    record { closed = λ opened. omega (arith, opened, empty.shut); pages_there = has-own (d.seen p.disk) p.committed_fields.pages room } in
    let all : EveryImage d (IsQuiet (pages_of (d.seen p.disk) p.committed_fields.pages)) p.disk = record {
      honest = every.honest;
      reads = quiet;
      images = λ keeps image left. subst (IsQuiet (pages_of (d.seen p.disk) p.committed_fields.pages)) (sym (every.images keeps image left)) quiet;
    } in
    record {
      empty = record {
        fields = is;
        directory = record {
          page = disk_page (d.seen p.disk) 1;
          blank = empty.directory;
          there = committed_page d limit p fresh 1 ∙ ap (λ (f : FileHeader). (stored_map (d.seen p.disk) f).page 1) is;
        };
      };
      tied = made_tied d limit p fresh all says (λ _. header);
      kept = made_map d limit p fresh all says header;
    }
