-- What a checkpoint makes of a pager and its disk.
use Rattle.std.proofs.Common.{◌≡◌, ◌≢◌, ◌⊎◌, inl, inr, ◌<◌, ◌≤◌, ◌+◌, ◌*◌, ℕ, Bool, true, false, Option, Some, None, IsSome, IsTrue, Result, Ok, Err, List, [], ◌∷◌, length, slice_index, Contains, nat_lt, refl, sym, ap, ◌∙◌, subst, arith, rules, tests}
use Rattle.std.specs.Prelude.{if◌then◌else◌, ◌&&◌}
use Rattle.std.proofs.lemmas.Bool.{cases_lt, false≢true}
use Rattle.rs_disk.specs.Content.{Content}
use Rattle.rs_disk.specs.Reaches.{IsOutside}
use Rattle.rs_disk.specs.declared.disk.Disk as disk
use Rattle.rs_page.specs.declared.file_header.FileHeader.{FileHeader}
use Rattle.rs_page.specs.declared.page.TheConstants.{PAGE_SIZE}
use Rattle.rs_pages.specs.Held.{page_or, held_change}
use Rattle.rs_pages.specs.PageMap.{SamePages}
use Rattle.rs_page_cache.specs.Changes.{Changes, held_at}
use Rattle.rs_page_cache.specs.Clean.{Clean, AreClean, AreAfterHeader}
use Rattle.rs_page_cache.specs.Stored.{disk_page}
use Rattle.rs_journal.specs.FilePages.{FilePages, IsOfPages}
use Rattle.rs_journal.specs.Journal.{Journal, IsNotCopied, MakesPages, Recovers}
use Rattle.rs_journal.specs.Stages.{EveryImage, GivesFrom, IsQuiet, Meanwhile, StageImage}
use Rattle.rs_journal.specs.declared.stage.Stage.{Stage}
use Rattle.rs_journal.specs.declared.stage.Stage.TheVariants.{Fresh, Gate, Home, Closing}
use Rattle.rs_page_copies.specs.Listed.{Checkpoint, IsChanged, ListsCommitted}
use Rattle.rs_pager.specs.Lasts.{Carried, GivesMap, stopped_pager, written_pager}
use Rattle.rs_pager.specs.Maps.{page_or_stored, committed, pager_journal, CarriesOn, IsKept, IsTied}
use Rattle.rs_pager.specs.Paged.{Paged, IsSound, held}
use Rattle.rs_pager.specs.SecondHeader.{IsSecondHeader}
use Rattle.rs_pager.specs.Stored.{Stores, content_of_pages}
use Rattle.rs_pager.proofs.DiskBytes.{disk_page-same}
use Rattle.rs_pager.proofs.Headers.{kept-header}
use Rattle.rs_pager.proofs.Keeping.{ArePages-same}

pub none_some : (o : Option (List ℕ)) → o ≡ None → IsSome o → ⊥
none_some None is some = cc
none_some (Some page) is some = cc

pub some_is : (o : Option (List ℕ)) (page : List ℕ) → o ≡ Some page → IsSome o
some_is o page is = subst (IsSome {T = List ℕ}) (sym is) refl

-- ---- the bytes that no copy has

-- the page with this number is not to be copied
abbrev pub IsUnlisted : Changes → Bool → ℕ → Type 0
IsUnlisted changes lacks number = IsChanged changes lacks number → ⊥

-- a page that is not held is not to be copied
pub unlisted_changed : (changes : Changes) (lacks : Bool) (n : ℕ) → 0 < n → (held_at changes n).committed ≡ None → IsUnlisted changes lacks n
unlisted_changed changes lacks n pos none (inl (zero_is, _)) = absurd (omega (arith, zero_is))
unlisted_changed changes lacks n pos none (inr some) = none_some (held_at changes n).committed none some

pub unlisted_zero : (changes : Changes) (lacks : Bool) → (held_at changes 0).committed ≡ None → lacks ≡ false → IsUnlisted changes lacks 0
unlisted_zero changes lacks none is (inl (_, changed)) = absurd (false≢true (sym is ∙ changed))
unlisted_zero changes lacks none is (inr some) = none_some (held_at changes 0).committed none some

page_apart : (a b i : ℕ) → a ≢ b → PAGE_SIZE * a ≤ i → i < PAGE_SIZE * a + PAGE_SIZE → IsOutside (PAGE_SIZE * b) (PAGE_SIZE * b + PAGE_SIZE) i
page_apart a b i ne lo hi = elim (cases_lt i (PAGE_SIZE * b)) [
  | inl before ↦ inl before
  | inr from ↦ elim (cases_lt i (PAGE_SIZE * b + PAGE_SIZE)) [
    | inl inside ↦ absurd (ne (omega arith))
    | inr after ↦ inr (omega arith)
  ]
]

-- a byte of a page that is not copied
pub unlisted-apart : (changes : Changes) (lacks : Bool) (journal : Journal) (numbers : List ℕ) → ListsCommitted changes lacks numbers
    → journal.count ≡ length numbers → ((k : ℕ) → journal.number k ≡ slice_index numbers k) → (n : ℕ) → IsUnlisted changes lacks n
    → (i : ℕ) → PAGE_SIZE * n ≤ i → i < PAGE_SIZE * n + PAGE_SIZE → IsNotCopied journal i
unlisted-apart changes lacks journal numbers lists count number n unlisted i lo hi = λ k lt.
    subst (λ (m : ℕ). IsOutside (PAGE_SIZE * m) (PAGE_SIZE * m + PAGE_SIZE) i) (sym (number k))
    (page_apart n (slice_index numbers k) i
    (λ same. unlisted (subst (IsChanged changes lacks) (sym same) (lists.each k (omega (arith, lt, count))))) lo hi)

-- what is read in a stage are the checkpoint's bytes where none is copied
pub stage-bytes : (stage : Stage) (kept : FilePages) (journal : Journal) (checkpoint : FilePages) (a : Content) → MakesPages journal kept checkpoint
    → StageImage stage kept journal checkpoint a → (i : ℕ) → i < PAGE_SIZE * checkpoint.count → IsOfPages i → IsNotCopied journal i → a.byte i ≡ checkpoint.byte i
stage-bytes Fresh kept journal checkpoint a makes image i lt own apart =
    let was = makes.others i lt own apart in image.pages_there.bytes i was.0 own ∙ was.1
stage-bytes Gate kept journal checkpoint a makes image i lt own apart =
    let was = makes.others i lt own apart in image.pages_there.bytes i was.0 own ∙ was.1
stage-bytes Home kept journal checkpoint a makes image i lt own apart = image.others i lt own apart
stage-bytes Closing kept journal checkpoint a makes image i lt own apart = image.pages_there.bytes i lt own

-- page 0 is there
stage-first : (stage : Stage) (kept : FilePages) (journal : Journal) (checkpoint : FilePages) (a : Content) → MakesPages journal kept checkpoint
    → StageImage stage kept journal checkpoint a → PAGE_SIZE ≤ a.size
stage-first Fresh kept journal checkpoint a makes image = omega (arith, image.pages_there.size, makes.some_kept)
stage-first Gate kept journal checkpoint a makes image = omega (arith, image.pages_there.size, makes.some_kept)
stage-first Home kept journal checkpoint a makes image = omega (arith, image.size, makes.carries.some)
stage-first Closing kept journal checkpoint a makes image = omega (arith, image.pages_there.size, makes.carries.some)

-- and so is each page that is not copied
kept-last : (n : ℕ) (kept : FilePages) (journal : Journal) (checkpoint : FilePages) → MakesPages journal kept checkpoint → 0 < n → n < checkpoint.count
    → ((i : ℕ) → PAGE_SIZE * n ≤ i → i < PAGE_SIZE * n + PAGE_SIZE → IsNotCopied journal i) → n < kept.count
kept-last n kept journal checkpoint makes pos lt apart =
    let was = makes.others (PAGE_SIZE * n) (omega arith) (inr (omega arith)) (apart (PAGE_SIZE * n) (omega arith) (omega arith)) in
    let inside : PAGE_SIZE * n < PAGE_SIZE * kept.count = was.0 in omega (arith, inside)

stage-inside : (stage : Stage) (kept : FilePages) (journal : Journal) (checkpoint : FilePages) (a : Content) → MakesPages journal kept checkpoint
    → StageImage stage kept journal checkpoint a → (n : ℕ) → 0 < n → n < checkpoint.count
    → ((i : ℕ) → PAGE_SIZE * n ≤ i → i < PAGE_SIZE * n + PAGE_SIZE → IsNotCopied journal i) → PAGE_SIZE * n + PAGE_SIZE ≤ a.size
stage-inside Fresh kept journal checkpoint a makes image n pos lt apart =
    let last = kept-last n kept journal checkpoint makes pos lt apart in omega (arith, last, image.pages_there.size)
stage-inside Gate kept journal checkpoint a makes image n pos lt apart =
    let last = kept-last n kept journal checkpoint makes pos lt apart in omega (arith, last, image.pages_there.size)
stage-inside Home kept journal checkpoint a makes image n pos lt apart = omega (arith, lt, image.size)
stage-inside Closing kept journal checkpoint a makes image n pos lt apart = omega (arith, lt, image.pages_there.size)

-- the same pages of a file of so many, where those that are not held are the same on the disk
pub stored-inside : (pages n : ℕ) (change : Option (List ℕ)) (new old : Content) → (0 < n → n < pages → change ≡ None → disk_page new n ≡ disk_page old n)
    → page_or_stored pages change new n ≡ page_or_stored pages change old n
stored-inside pages n (Some page) new old same = refl
stored-inside pages n None new old same = elim (nat_lt 0 n) as (λ t. nat_lt 0 n ≡ t →
    (if t && nat_lt n pages then Some (disk_page new n) else None) ≡ (if t && nat_lt n pages then Some (disk_page old n) else None)) [
      | false ↦ λ _. refl
      | true ↦ λ e. elim (nat_lt n pages) as (λ u. nat_lt n pages ≡ u → (if u then Some (disk_page new n) else None) ≡ (if u then Some (disk_page old n) else None)) [
        | false ↦ λ _. refl
        | true ↦ λ f. let pos : 0 < n = search (rules, tests) in let lt : n < pages = search (rules, tests) in ap (λ (p : List ℕ). Some p) (same pos lt refl)
      ] refl
    ] refl

-- ---- a checkpoint under way

module _ {D : Type 0} (d : disk.Ghosts D) (p : Paged D) (kept : FilePages) (on : CarriesOn d p kept) where
  counted : on.checkpoint.count ≡ p.committed_fields.pages
  counted = on.are.counts

  apart : (n : ℕ) → IsUnlisted p.changes p.is_header_changed n → (i : ℕ) → PAGE_SIZE * n ≤ i → i < PAGE_SIZE * n + PAGE_SIZE → IsNotCopied (pager_journal d p) i
  apart n unlisted = unlisted-apart p.changes p.is_header_changed (pager_journal d p) p.under_way.numbers on.lists refl (λ k. refl) n unlisted

  -- what is read in any stage of it: the pages that are not held are the checkpoint's
  module _ (stage : Stage) (a : Content) (image : StageImage stage kept (pager_journal d p) on.checkpoint a) where
    read_page : (n : ℕ) → 0 < n → n < p.committed_fields.pages → (held p n).committed ≡ None → disk_page a n ≡ disk_page (content_of_pages on.checkpoint) n
    read_page n pos lt none = disk_page-same a (content_of_pages on.checkpoint) n
        (λ i lo hi. stage-bytes stage kept (pager_journal d p) on.checkpoint a on.makes image i (omega (arith, counted)) (inr (omega arith))
        (apart n (unlisted_changed p.changes p.is_header_changed n pos none) i lo hi))

    read_inside : (n : ℕ) → 0 < n → n < p.committed_fields.pages → (held p n).committed ≡ None → PAGE_SIZE * n + PAGE_SIZE ≤ a.size
    read_inside n pos lt none = stage-inside stage kept (pager_journal d p) on.checkpoint a on.makes image n pos (omega (arith, lt, counted)) (apart n (unlisted_changed p.changes p.is_header_changed n pos none))

    read_header : (held p 0).committed ≡ None → p.is_header_changed ≡ false → IsSecondHeader (disk_page a 0) p.committed_fields
    read_header none lacks = kept-header (content_of_pages on.checkpoint) a p.committed_fields
        (λ k lt own. stage-bytes stage kept (pager_journal d p) on.checkpoint a on.makes image k (omega (arith, on.makes.carries.some)) own
        (apart 0 (unlisted_zero p.changes p.is_header_changed none lacks) k (omega arith) (omega arith)))
        (subst (λ (f : FileHeader). IsSecondHeader (disk_page (content_of_pages on.checkpoint) 0) f) refl on.are.stores.header)

    -- so the committed pages are the same in each stage
    stopped_page : (n : ℕ) → page_or_stored p.committed_fields.pages (held p n).committed a n ≡ page_or_stored p.committed_fields.pages (held p n).committed (d.seen p.disk) n
    stopped_page n = stored-inside p.committed_fields.pages n (held p n).committed a (d.seen p.disk)
        (λ pos lt none. read_page n pos lt none ∙ sym (disk_page-same (d.seen p.disk) (content_of_pages on.checkpoint) n
        (λ i lo hi. stage-bytes p.under_way.stage kept (pager_journal d p) on.checkpoint (d.seen p.disk) on.makes on.every.reads i (omega (arith, counted)) (inr (omega arith))
        (apart n (unlisted_changed p.changes p.is_header_changed n pos none) i lo hi))))

-- the copies of a pager with no changes begun
page_or-no_copy : (copy committed_page : Option (List ℕ)) → copy ≡ None → page_or copy committed_page ≡ committed_page
page_or-no_copy copy committed_page none = ap (λ (o : Option (List ℕ)). page_or o committed_page) none

no_clean : (clean : Clean) (n : ℕ) (page : List ℕ) → clean ≡ [] → Contains clean (n, page) → ⊥
no_clean [] n page e (k, lt, is) = absurd (omega arith)
no_clean (one ∷ rest) n page e there = cc

clean_none : (content : Content) (clean : Clean) → clean ≡ [] → AreClean content clean
clean_none content clean none = record { each = λ n page there. absurd (no_clean clean n page none there) }

after_none : (clean : Clean) → clean ≡ [] → AreAfterHeader clean
after_none clean none = record { each = λ n page there. absurd (no_clean clean n page none there) }

-- ---- it is stopped

module _ {D : Type 0} (d : disk.Ghosts D) (p : Paged D) (kept : FilePages) (is_kept : IsKept d p kept) (on : CarriesOn d p kept)
    (sound : IsSound p.limit p.changes p.committed_fields p.working p.is_begun p.under_way.stage) (shut : p.is_begun ≡ false) (none : p.clean ≡ [])
    (disk : D) (stage : Stage) (every : EveryImage d (StageImage stage kept (pager_journal d p) on.checkpoint) disk) where
  first_none : (held p 0).committed ≡ None
  first_none = elim (held p 0).committed as (λ page. (held p 0).committed ≡ page → page ≡ None) [
    | Some page ↦ λ e. absurd (omega (arith, (sound.committed_inside 0 page e).0))
    | None ↦ λ e. refl
  ] refl

  stopped_committed : SamePages (committed d (stopped_pager disk stage p)) (committed d p)
  stopped_committed = record { fields = refl; pages = stopped_page d p kept on stage (d.seen disk) every.reads }

  same_count : p.working.pages ≡ p.committed_fields.pages
  same_count = ap (λ (f : FileHeader). f.pages) (sound.same shut)

  working_page : (n : ℕ) → page_or_stored p.working.pages (held_change (held p n)) (d.seen disk) n ≡ page_or_stored p.working.pages (held_change (held p n)) (d.seen p.disk) n
  working_page n =
      let no_copy : held_change (held p n) ≡ (held p n).committed = page_or-no_copy (held p n).copy (held p n).committed (sound.no_copies shut n) in
      ap (λ (o : Option (List ℕ)). page_or_stored p.working.pages o (d.seen disk) n) no_copy
      ∙ ap (λ (m : ℕ). page_or_stored m (held p n).committed (d.seen disk) n) same_count
      ∙ stopped_page d p kept on stage (d.seen disk) every.reads n
      ∙ ap (λ (m : ℕ). page_or_stored m (held p n).committed (d.seen p.disk) n) (sym same_count)
      ∙ ap (λ (o : Option (List ℕ)). page_or_stored p.working.pages o (d.seen p.disk) n) (sym no_copy)

  stopped_kept : IsKept d (stopped_pager disk stage p) kept
  stopped_kept = record {
    says = is_kept.says;
    before = is_kept.before;
    filled = is_kept.filled;
    quiet = λ fresh. subst (λ (s : Stage). EveryImage d (StageImage s kept (pager_journal d p) on.checkpoint) disk) fresh every;
    under_way = λ _. record {
      checkpoint = on.checkpoint;
      lists = on.lists;
      makes = on.makes;
      are = ArePages-same (committed d p) (committed d (stopped_pager disk stage p)) on.checkpoint stopped_committed on.are;
      every = every;
    };
  }

  stopped_tied : IsTied d (stopped_pager disk stage p)
  stopped_tied = record {
    honest = every.honest;
    clean = clean_none (d.seen disk) p.clean none;
    after_header = after_none p.clean none;
    first = stage-first stage kept (pager_journal d p) on.checkpoint (d.seen disk) on.makes every.reads;
    inside = read_inside d p kept on stage (d.seen disk) every.reads;
    header = read_header d p kept on stage (d.seen disk) every.reads first_none;
    kept = kept;
    is_kept = stopped_kept;
  }

-- what a crash meanwhile leaves
module _ {D : Type 0} (d : disk.Ghosts D) (p : Paged D) (kept : FilePages) (on : CarriesOn d p kept) where
  gives_either : (stage : Stage) (image : Content) → GivesFrom stage kept on.checkpoint image → IsQuiet kept image ⊎ GivesMap (committed d p) image
  gives_either Fresh image (inl was) = inl was
  gives_either Fresh image (inr now) = inr (record { pages = on.checkpoint; recovers = now; are = on.are })
  gives_either Gate image (inl was) = inl was
  gives_either Gate image (inr now) = inr (record { pages = on.checkpoint; recovers = now; are = on.are })
  gives_either Home image now = inr (record { pages = on.checkpoint; recovers = now; are = on.are })
  gives_either Closing image now = inr (record { pages = on.checkpoint; recovers = now; are = on.are })

-- ---- it has ended

module _ {D : Type 0} (d : disk.Ghosts D) (p : Paged D) (kept : FilePages) (on : CarriesOn d p kept)
    (sound : IsSound p.limit p.changes p.committed_fields p.working p.is_begun p.under_way.stage) (shut : p.is_begun ≡ false) (none : p.clean ≡ [])
    (disk : D) (under_way : Checkpoint) (fresh : under_way.stage ≡ Fresh) (every : EveryImage d (IsQuiet on.checkpoint) disk) where
  abbrev pub ended : Paged D
  ended = written_pager disk under_way p

  long : PAGE_SIZE * p.committed_fields.pages ≤ (d.seen disk).size
  long = omega (arith, every.reads.pages_there.size, on.are.counts)

  ended_bytes : (n : ℕ) → 0 < n → n < p.committed_fields.pages → disk_page (d.seen disk) n ≡ disk_page (content_of_pages on.checkpoint) n
  ended_bytes n pos lt = disk_page-same (d.seen disk) (content_of_pages on.checkpoint) n
      (λ i lo hi. every.reads.pages_there.bytes i (omega (arith, on.are.counts)) (inr (omega arith)))

  ended_header : IsSecondHeader (disk_page (d.seen disk) 0) p.committed_fields
  ended_header = kept-header (content_of_pages on.checkpoint) (d.seen disk) p.committed_fields
      (λ k lt own. every.reads.pages_there.bytes k (omega (arith, on.makes.carries.some)) own) on.are.stores.header

  ended_page : (pages n : ℕ) → pages ≡ p.committed_fields.pages → page_or_stored pages None (d.seen disk) n ≡ page_or_stored pages (held p n).committed (d.seen p.disk) n
  ended_page pages n same =
      ap (λ (m : ℕ). page_or_stored m None (d.seen disk) n) same
      ∙ stored-inside p.committed_fields.pages n None (d.seen disk) (content_of_pages on.checkpoint) (λ pos lt _. ended_bytes n pos lt)
      ∙ sym (on.are.stores.pages.pages n)
      ∙ ap (λ (m : ℕ). page_or_stored m (held p n).committed (d.seen p.disk) n) (sym same)

  ended_committed : SamePages (committed d ended) (committed d p)
  ended_committed = record { fields = refl; pages = λ n. ended_page p.committed_fields.pages n refl }

  ended_kept : IsKept d ended on.checkpoint
  ended_kept = record {
    says = on.are.says;
    before = omega (arith, on.are.counts);
    filled = λ number from to. absurd (omega (arith, from, to, on.are.counts));
    quiet = λ _. every;
    under_way = λ ne. absurd (ne fresh);
  }

  ended_tied : IsTied d ended
  ended_tied = record {
    honest = every.honest;
    clean = clean_none (d.seen disk) p.clean none;
    after_header = after_none p.clean none;
    first = omega (arith, long, sound.directory);
    inside = λ n pos lt _. omega (arith, long, lt);
    header = λ _. ended_header;
    kept = on.checkpoint;
    is_kept = ended_kept;
  }

  ended_stored : Stores (d.seen disk) (committed d ended)
  ended_stored = record { header = ended_header; size = long; pages = record { fields = refl; pages = λ n. refl } }

-- ---- what is answered

module _ {D : Type 0} (d : disk.Ghosts D) (p : Paged D) (kept : FilePages) (is_kept : IsKept d p kept) (on : CarriesOn d p kept)
    (sound : IsSound p.limit p.changes p.committed_fields p.working p.is_begun p.under_way.stage) (shut : p.is_begun ≡ false) (none : p.clean ≡ []) (disk : D)
    (meanwhile : Meanwhile d (GivesFrom p.under_way.stage kept on.checkpoint) p.disk disk) where
  gives : IsTrue (d.keeps_crashes p.disk) → (start : D) (image : Content) → d.left_since start disk image
      → d.left_since start p.disk image ⊎ (IsQuiet kept image ⊎ GivesMap (committed d p) image)
  gives keeps start image left = elim ((meanwhile keeps).each start image left) [
    | inl before ↦ inl before
    | inr from ↦ inr (gives_either d p kept on p.under_way.stage image from)
  ]

  pub carried_stopped : {T E : Type 0} (result : Result T E) → (why : E) → result ≡ Err why → (stage : Stage) → EveryImage d (StageImage stage kept (pager_journal d p) on.checkpoint) disk
      → Carried d kept result p (stopped_pager disk stage p)
  carried_stopped (Ok x) why err stage every = cc
  carried_stopped (Err x) why err stage every = record {
    tied = stopped_tied d p kept is_kept on sound shut none disk stage every;
    committed = stopped_committed d p kept is_kept on sound shut none disk stage every;
    working = record { fields = refl; pages = working_page d p kept is_kept on sound shut none disk stage every };
    next = stopped_kept d p kept is_kept on sound shut none disk stage every;
    meanwhile = gives;
    stored = tt;
  }

  pub carried_ended : {T E : Type 0} (result : Result T E) (value : T) → result ≡ Ok value → (under_way : Checkpoint) → under_way.stage ≡ Fresh → EveryImage d (IsQuiet on.checkpoint) disk
      → Carried d kept result p (written_pager disk under_way p)
  carried_ended (Err x) value ok under_way fresh every = cc
  carried_ended (Ok x) value ok under_way fresh every = record {
    tied = ended_tied d p kept on sound shut none disk under_way fresh every;
    committed = ended_committed d p kept on sound shut none disk under_way fresh every;
    working = record {
      fields = refl;
      pages = λ n. ended_page d p kept on sound shut none disk under_way fresh every p.working.pages n (ap (λ (f : FileHeader). f.pages) (sound.same shut))
          ∙ ap (λ (change : Option (List ℕ)). page_or_stored p.working.pages change (d.seen p.disk) n) (sym (page_or-no_copy (held p n).copy (held p n).committed (sound.no_copies shut n)));
    };
    next = record { pages = on.checkpoint; is_kept = ended_kept d p kept on sound shut none disk under_way fresh every; are = on.are };
    meanwhile = gives;
    stored = ended_stored d p kept on sound shut none disk under_way fresh every;
  }
